-- What a sheet means.
--   Shown         two counts, a list of rows and a capacity
--   Bounded       the laws of every sheet
--   Takes         what entering answers, and what it leaves of a thing that shows a sheet
--   Entered       what entering a row answers and leaves
use Rattle.std.specs.Prelude.{◌≡◌, ℕ, ◌<◌, ◌≤◌, List, [], ◌∷◌, ◌++◌, length, Ok, Err, Result}
use Rattle.schema.specs.declared.row.Row.{Row}
use Rattle.schema.specs.declared.faults.EnterFault.{EnterFault}
use Rattle.schema.specs.declared.faults.EnterFault.TheVariants.{Full}

pub record Shown : Type 0 where
  pub classes : ℕ
  pub arrows : ℕ
  pub rows : List Row
  pub capacity : ℕ

-- counts and capacity are at most 65,535, and the rows are never more than the capacity
pub record Bounded (s : Shown) : Type 0 where
  pub few_classes : s.classes ≤ 65535
  pub few_arrows : s.arrows ≤ 65535
  pub few_rows : length s.rows ≤ s.capacity
  pub few_places : s.capacity ≤ 65535

-- the same sheet with other rows
abbrev pub with_rows : Shown → List Row → Shown
with_rows s rows = record { classes = s.classes; arrows = s.arrows; rows = rows; capacity = s.capacity }

-- where what is shown has room, `before` becomes `after`, and otherwise nothing changes
abbrev pub Takes : {A : Type 0} → Shown → A → A → Result Unit EnterFault → A → Type 0
Takes s before after (Ok u) left = (length s.rows < s.capacity) × (left ≡ after)
Takes s before after (Err Full) left = (s.capacity ≤ length s.rows) × (left ≡ before)

-- a row goes to the end
abbrev pub Entered : Shown → Row → Result Unit EnterFault → Shown → Type 0
Entered s row = Takes s s (with_rows s (s.rows ++ row ∷ []))
