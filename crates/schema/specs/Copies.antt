-- Copies of sheets. For inner contracts: no call's promise rests on it.
--   CopyOf        the counts and rows are those of a sheet
--   sound_prop    soundness has one proof at most, so that a struct can carry it
use Rattle.std.specs.Prelude.{◌≡◌, ℕ, List, Some, None, Option}
use Rattle.std.proofs.Props.{props}
use Rattle.schema.specs.declared.row.Row.{Row}
use Rattle.schema.specs.declared.letters.Shape.{Shape}
use Rattle.schema.specs.Rows.{shape_of, Fits, Sound}
use Rattle.schema.specs.Sheets.{Shown}

pub record CopyOf (s : Shown) (c p : ℕ) (rs : List Row) : Type 0 where
  pub classes : c ≡ s.classes
  pub arrows : p ≡ s.arrows
  pub rows : rs ≡ s.rows

fits_prop : (c p : ℕ) (r : Row) (o : Option Shape) → IsProp (Fits c p r o)
fits_prop c p r None = Prim.hlevel props
fits_prop c p r (Some s) = Prim.hlevel props

pub sound_prop : (c p : ℕ) (r : Row) → IsProp (Sound c p r)
sound_prop c p r = fits_prop c p r (shape_of r.letter)
