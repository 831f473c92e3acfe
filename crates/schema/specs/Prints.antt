-- Printing a sheet, and the round trips.
--   Prints        the text of a sheet stands in the first bytes, and tells nothing but this sheet
--   Printed       what printing answers and writes
--   ReadBack      what printing a sheet and reading it back answers and writes
--   Reprinted     what reading a text and printing it answers and writes
use Rattle.std.specs.Prelude.{◌≡◌, ℕ, ◌+◌, ◌*◌, ◌<◌, ◌≤◌, List, length, take, drop, Ok, Err, Result}
use Rattle.schema.specs.declared.row.Row.{Row}
use Rattle.schema.specs.declared.text_sheet.TextSheet.{TextSheet}
use Rattle.schema.specs.declared.faults.PrintFault.{PrintFault}
use Rattle.schema.specs.declared.faults.PrintFault.TheVariants.{Sheet, ShortBuffer}
use Rattle.schema.specs.declared.faults.ReprintFault.{ReprintFault}
use Rattle.schema.specs.declared.faults.ReprintFault.TheVariants.{Text, ShortBuffer as ShortReprint}
use Rattle.schema.specs.Rows.{AllSound}
use Rattle.schema.specs.Sheets.{Shown}
use Rattle.schema.specs.Texts.{IsText, TextFaulty}
use Rattle.schema.specs.TextSheets.{text_shows}
use Rattle.schema.specs.Verdicts.{Small, SheetFaulty}

-- the later bytes stay
pub record Prints (s : Shown) (before : List ℕ) (len : ℕ) (after : List ℕ) : Type 0 where
  pub room : len ≤ length before
  pub long : len ≡ 14 * (length s.rows + 1)
  pub tells : IsText (take len after) s.classes s.arrows s.rows
  pub only : (c p : ℕ) (rows : List Row) → IsText (take len after) c p rows → (c ≡ s.classes) × (p ≡ s.arrows) × (rows ≡ s.rows)
  pub later : drop len after ≡ drop len before

abbrev pub Printed : Shown → List ℕ → Result ℕ PrintFault → List ℕ → Type 0
Printed s before (Ok len) after = Prints s before len after
Printed s before (Err (Sheet f)) after = SheetFaulty s.classes s.arrows s.rows f × (after ≡ before)
Printed s before (Err ShortBuffer) after =
    Small s.classes s.arrows s.rows × AllSound s.classes s.arrows s.rows
    × (length before < 14 * (length s.rows + 1)) × (after ≡ before)

-- the same counts and rows come back, with no room for more
abbrev pub ReadBack : Shown → List ℕ → Result TextSheet PrintFault → List ℕ → Type 0
ReadBack s before (Ok t) after =
    ((len : ℕ) × Prints s before len after)
    × (text_shows t ≡ record { classes = s.classes; arrows = s.arrows; rows = s.rows; capacity = length s.rows })
ReadBack s before (Err f) after = Printed s before (Err f) after

-- some counts and rows have this text
abbrev pub Accepted : List ℕ → Type 0
Accepted text = (c : ℕ) × (p : ℕ) × (rows : List Row) × IsText text c p rows

-- an accepted text stands in the first bytes, and the later bytes stay
pub record Repeats (text before : List ℕ) (len : ℕ) (after : List ℕ) : Type 0 where
  pub accepted : Accepted text
  pub room : len ≤ length before
  pub long : len ≡ length text
  pub same : take len after ≡ text
  pub later : drop len after ≡ drop len before

abbrev pub Reprinted : List ℕ → List ℕ → Result ℕ ReprintFault → List ℕ → Type 0
Reprinted text before (Ok len) after = Repeats text before len after
Reprinted text before (Err (Text f)) after = TextFaulty text f × (after ≡ before)
Reprinted text before (Err ShortReprint) after = Accepted text × (length before < length text) × (after ≡ before)
