-- The numbers of a sound row are places in the tables.
use Rattle.std.proofs.Common.{◌≡◌, ℕ, ◌<◌, ◌≤◌, List, Some, None, Option, length, get_or, arith}
use Rattle.schema.specs.declared.row.Row.{Row}
use Rattle.schema.specs.declared.letters.Kind.{Kind}
use Rattle.schema.specs.declared.letters.Kind.TheVariants.{Class, Arrow, End}
use Rattle.schema.specs.declared.letters.Shape.{Shape}
use Rattle.schema.specs.Rows.{limit, shape_of, Fits, AllSound}
use Rattle.schema.proofs.Building.{fits_at}
use Rattle.std.proofs.lemmas.List.Elements.{Contains-get_or}

within : (k : Kind) → limit 64 32 k ≤ 64
within Class = omega arith
within End = omega arith
within Arrow = omega arith

fits : (r : Row) (s : Option Shape) → Fits 64 32 r s → (r.a < 64) × (r.b < 64)
fits r None h = absurd h
fits r (Some s) h = (omega (arith, h.0, within s.a), omega (arith, h.1, within s.b))

module _ (rows : List Row) (i : ℕ) (d : Row) (sound : AllSound 64 32 rows) (l : i < length rows) where
  pub row_a : (get_or rows i d).a < 64
  row_a = (fits (get_or rows i d) (shape_of (get_or rows i d).letter) (sound _ (Contains-get_or rows i d l))).0

  pub row_b : (get_or rows i d).b < 64
  row_b = (fits (get_or rows i d) (shape_of (get_or rows i d).letter) (sound _ (Contains-get_or rows i d l))).1

  pub row_arrow : (get_or rows i d).letter ≡ 80 → (get_or rows i d).a < 32
  row_arrow e = (fits_at (get_or rows i d) 80 e (sound _ (Contains-get_or rows i d l))).0

  pub row_need : (get_or rows i d).letter ≡ 70 → (get_or rows i d).n < 32
  row_need e = let f = fits_at (get_or rows i d) 70 e (sound _ (Contains-get_or rows i d l)) in omega (arith, f.3)

  pub row_cap : (get_or rows i d).letter ≡ 75 → (get_or rows i d).n < 32
  row_cap e = let f = fits_at (get_or rows i d) 75 e (sound _ (Contains-get_or rows i d l)) in omega (arith, f.3)

pub ruleset row_bounds = (row_a, row_b, row_arrow, row_need, row_cap)
