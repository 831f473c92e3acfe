-- What verdicts and questions promise over all worlds, of a sheet that shows s.
--   Everywhere    a table lists a name exactly when it is empty in every world that fulfils the rows
--   OneWorld      a world that fulfils the rows, fills what no verdict lists and breaks what a question answers with no
--   TrueOf        verdicts and questions tell what is so in all worlds
use Rattle.std.specs.Prelude.{◌≡◌, ℕ, ◌+◌, ◌<◌, Bool, false, List, Ok, slice_index}
use Rattle.schema.specs.declared.row.Row.{Row}
use Rattle.schema.specs.Asked.{Asked}
use Rattle.schema.specs.Rules.{Rule, row}
use Rattle.schema.specs.Sheets.{Shown}
use Rattle.schema.specs.Truth.{Follows, Shows}
use Rattle.schema.specs.Verdicts.{Passes, Bit, Tells, Fills, Verdict}
use Rattle.schema.specs.Worlds.{World, Fulfils, Breaks, ClassEmpty, ArrowEmpty}

-- classes first, then arrows
pub record Everywhere (s : Shown) (table : List ℕ) : Type 0 where
  pub classes : (k : ℕ) → k < s.classes → Bit (slice_index table k) (Follows s.rows (λ w. ClassEmpty w k))
  pub arrows : (k : ℕ) → k < s.arrows → Bit (slice_index table (s.classes + k)) (Follows s.rows (λ w. ArrowEmpty w k))

-- said by the links of the rows, and again by the verdicts and questions that may be asked
pub record OneWorld (s : Shown) (w : World) : Type 0 where
  pub shows : Shows s.classes s.arrows s.rows w
  pub fills : (before after : List ℕ) (ones : ℕ) → Verdict s before (Ok ones) after → Fills s.classes s.arrows after w
  pub breaks : (asked : Row) → Asked s asked (Ok false) → (ρ : Rule) × (asked ≡ row ρ) × Breaks w ρ

-- (a) of an unrefused verdict, (b) of an unrefused question, (c) of a sheet that passes the checks
pub record TrueOf (s : Shown) : Type 0 where
  pub listed : (before after : List ℕ) (ones : ℕ) → Verdict s before (Ok ones) after → Everywhere s after
  pub answered : (asked : Row) (answer : Bool) → Asked s asked (Ok answer)
      → (ρ : Rule) × (asked ≡ row ρ) × Tells answer (Follows s.rows (λ w. Fulfils w ρ))
  pub one_world : Passes s.classes s.arrows s.rows → (w : World) × OneWorld s w
