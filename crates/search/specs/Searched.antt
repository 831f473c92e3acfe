-- What a search promises, whatever it returns.
use Rattle.std.specs.Prelude.{◌≡◌, ℕ, ◌<◌, ◌≤◌, List, length, drop, Ok, Err, Result}
use Rattle.search.specs.declared.breadth_first.SearchFault.{SearchFault}
use Rattle.search.specs.Leads.{Marked}

-- a search of n points marks them and leaves what is past them, or is refused for a short table and writes nothing
abbrev pub Searched : ℕ → (ℕ → ℕ → Type 0) → ℕ → List ℕ → Result Unit SearchFault → List ℕ → Type 0
Searched n link start before (Ok u) after = (n ≤ length before) × Marked n link start after × (drop n after ≡ drop n before)
Searched n link start before (Err fault) after = (length before < n) × (after ≡ before)
