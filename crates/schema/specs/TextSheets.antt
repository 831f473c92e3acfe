-- Sheets that were read from a text.
--   text_shows    what such a sheet shows; its capacity is the number of its rows
--   TextRead      it shows what the text tells
--   TextShown     it shows what the text tells, or nothing where the text is refused
use Rattle.std.specs.Prelude.{◌≡◌, ℕ, List, [], length}
use Rattle.std.proofs.Common.{arith}
use Rattle.arrayvec.specs.ArrayVec.{array_vec_len}
use Rattle.schema.specs.declared.faults.TextFault.{TextFault}
use Rattle.schema.specs.declared.text_sheet.TextSheet.{TextSheet}
use Rattle.schema.specs.Sheets.{Shown, Bounded}
use Rattle.schema.specs.Texts.{IsText, TextFaulty}

abbrev pub text_shows : TextSheet → Shown
text_shows t = record { classes = t.counts.classes; arrows = t.counts.arrows; rows = t.rows.items; capacity = array_vec_len t.rows }

pub record TextRead (text : List ℕ) (s : Shown) : Type 0 where
  pub tells : IsText text s.classes s.arrows s.rows
  pub full : s.capacity ≡ length s.rows

pub data TextShown (text : List ℕ) : Shown → Type 0 where
  accepted : (s : Shown) → TextRead text s → TextShown text s
  refused : (f : TextFault) → TextFaulty text f → TextShown text (record { classes = 0; arrows = 0; rows = []; capacity = 0 })

-- such a sheet keeps the laws of every sheet
pub text_bounded : (t : TextSheet) → Bounded (text_shows t)
text_bounded t = record {
  few_classes = omega (arith, t.counts.few);
  few_arrows = omega (arith, t.counts.few);
  few_rows = omega (arith, t.room);
  few_places = omega (arith, t.room);
}
