-- What is true in the worlds that fulfil the rows.
--   Follows       true in every world that fulfils the rows
--   Shows         one world fulfils the rows, fills each name that is not forced empty and breaks each rule that is
--                 not answered yes
use Rattle.std.specs.Prelude.{ℕ, ◌<◌, List}
use Rattle.schema.specs.declared.row.Row.{Row}
use Rattle.schema.specs.Rows.{Sound}
use Rattle.schema.specs.Rules.{Rule, row}
use Rattle.schema.specs.Webs.{EmptyClass, EmptyArrow}
use Rattle.schema.specs.Worlds.{World, Breaks, FulfilsAll, ClassFilled, ArrowFilled}
use Rattle.schema.specs.Questions.{Yes, Countable}

-- a fact about worlds that is true in every one that fulfils the rows
abbrev pub Follows : List Row → (World → Type 0) → Type 0
Follows rows Fact = (w : World) → FulfilsAll w rows → Fact w

-- of c classes, p arrows and every sound rule that may be asked
pub record Shows (c p : ℕ) (rows : List Row) (w : World) : Type 0 where
  pub fulfils : FulfilsAll w rows
  pub class_filled : (k : ℕ) → k < c → (EmptyClass rows k → ⊥) → ClassFilled w k
  pub arrow_filled : (k : ℕ) → k < p → (EmptyArrow rows k → ⊥) → ArrowFilled w k
  pub rule_broken : (ρ : Rule) → Sound c p (row ρ) → Countable rows ρ → (Yes rows ρ → ⊥) → Breaks w ρ
