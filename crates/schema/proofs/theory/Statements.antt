-- The statements of the theory: what the webs tell is what is true in the worlds that fulfil the rows.
use Rattle.std.proofs.Common.{ℕ, ◌<◌, ◌↔◌, List}
use Rattle.schema.specs.declared.row.Row.{Row}
use Rattle.schema.specs.Rows.{Sound, AllSound}
use Rattle.schema.specs.Rules.{Rule, row}
use Rattle.schema.specs.Webs.{EmptyClass, EmptyArrow}
use Rattle.schema.specs.Worlds.{World, Fulfils, ClassEmpty, ArrowEmpty}
use Rattle.schema.specs.Questions.{Yes, Countable}
use Rattle.schema.specs.Truth.{Follows, Shows}
use Rattle.schema.specs.Verdicts.{NoSharedCap}

-- what is told is so in this world
pub record Holds (rows : List Row) (w : World) : Type 0 where
  pub class_empty : (k : ℕ) → EmptyClass rows k → ClassEmpty w k
  pub arrow_empty : (k : ℕ) → EmptyArrow rows k → ArrowEmpty w k
  pub rule_fulfilled : (ρ : Rule) → Yes rows ρ → Fulfils w ρ

-- what is told is what follows, of c classes, p arrows and every sound rule that can be counted
pub record Exact (c p : ℕ) (rows : List Row) : Type 0 where
  pub class_exact : (k : ℕ) → k < c → EmptyClass rows k ↔ Follows rows (λ w. ClassEmpty w k)
  pub arrow_exact : (k : ℕ) → k < p → EmptyArrow rows k ↔ Follows rows (λ w. ArrowEmpty w k)
  pub rule_exact : (ρ : Rule) → Sound c p (row ρ) → Countable rows ρ → Yes rows ρ ↔ Follows rows (λ w. Fulfils w ρ)

-- whatever the rows are
abbrev pub AlwaysHolds : Type 0
AlwaysHolds = (rows : List Row) → Follows rows (Holds rows)

-- where the rows are sound and no cap stands on a shared arrow
abbrev pub AlwaysShown : Type 0
AlwaysShown = (c p : ℕ) (rows : List Row) → AllSound c p rows → NoSharedCap rows → (w : World) × Shows c p rows w

-- under the same conditions
abbrev pub AlwaysExact : Type 0
AlwaysExact = (c p : ℕ) (rows : List Row) → AllSound c p rows → NoSharedCap rows → Exact c p rows
