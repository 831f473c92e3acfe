-- What the check of the caps finds out. For inner contracts: no call's promise rests on it.
use Rattle.std.specs.Prelude.{ℕ, List, ◌≢◌}
use Rattle.schema.specs.declared.row.Row.{Row}
use Rattle.schema.specs.Masks.{Member}
use Rattle.schema.specs.Rules.{P, Has}

-- the members are the arrows that a row puts another arrow in
pub record Shared (rows : List Row) (set : ℕ) : Type 0 where
  pub only : (q : ℕ) → Member set q → (p : ℕ) × Has rows (P p q) × (p ≢ q)
  pub all : (p q : ℕ) → Has rows (P p q) → (p ≢ q) → Member set q
