-- The number of each refusal.
use Rattle.std.specs.Prelude.{ℕ}
use Rattle.search.specs.declared.breadth_first.SearchFault.{SearchFault}
use Rattle.search.specs.declared.breadth_first.SearchFault.TheVariants.{TooShort}

-- the number that stands for a refusal
abbrev pub search_number : SearchFault → ℕ
search_number TooShort = 22
