-- Loading a text into a sheet.
--   Named         an accepted text that has no more classes or arrows than the sheet
--   Loaded        what loading answers and leaves
--   Admitted      what a text tells that may be loaded, or why it may not
use Rattle.std.specs.Prelude.{◌≡◌, ℕ, ◌+◌, ◌<◌, ◌≤◌, ◌⊎◌, List, ◌++◌, length, Ok, Err, Result}
use Rattle.schema.specs.declared.row.Row.{Row}
use Rattle.schema.specs.declared.faults.LoadFault.{LoadFault}
use Rattle.schema.specs.declared.faults.LoadFault.TheVariants.{Text, MoreNames, NoRoom}
use Rattle.schema.specs.declared.text_sheet.TextSheet.{TextSheet}
use Rattle.schema.specs.Sheets.{Shown, with_rows}
use Rattle.schema.specs.TextSheets.{text_shows, TextRead}
use Rattle.schema.specs.Texts.{IsText, TextFaulty}

pub record Named (s : Shown) (text : List ℕ) (c p : ℕ) (rows : List Row) : Type 0 where
  pub tells : IsText text c p rows
  pub classes : c ≤ s.classes
  pub arrows : p ≤ s.arrows

-- all rows go to the end in their order, or else nothing changes
abbrev pub Loaded : Shown → List ℕ → Result Unit LoadFault → Shown → Type 0
Loaded s text (Ok u) t =
    (c : ℕ) × (p : ℕ) × (rows : List Row) × Named s text c p rows × (length s.rows + length rows ≤ s.capacity) × (t ≡ with_rows s (s.rows ++ rows))
Loaded s text (Err (Text f)) t = TextFaulty text f × (t ≡ s)
Loaded s text (Err MoreNames) t =
    (c : ℕ) × (p : ℕ) × (rows : List Row) × IsText text c p rows × ((s.classes < c) ⊎ (s.arrows < p)) × (t ≡ s)
Loaded s text (Err NoRoom) t =
    (c : ℕ) × (p : ℕ) × (rows : List Row) × Named s text c p rows × (s.capacity < length s.rows + length rows) × (t ≡ s)

-- refused, it is for the reason for which loading is, which leaves the sheet
abbrev pub Admitted : Shown → List ℕ → Result TextSheet LoadFault → Type 0
Admitted s text (Ok t) =
    TextRead text (text_shows t) × Named s text (text_shows t).classes (text_shows t).arrows (text_shows t).rows
    × (length s.rows + length (text_shows t).rows ≤ s.capacity)
Admitted s text (Err f) = Loaded s text (Err f) s
