-- Strike layers.
--   strike_shows  what such a layer shows of the sheet below, by the struck numbers
--   struck_rows   the struck numbers of a layer, in rising order
--   Struck        what striking a row answers and leaves
--   Restored      what restoring a row answers and leaves
use Rattle.std.specs.Prelude.{◌≡◌, ℕ, suc, ◌<◌, ◌≤◌, true, false, cond, List, [], ◌∷◌, length, Ok, Err, vec_items, Result}
use Rattle.std.proofs.Common.{zero-le, suc-le-suc, arith}
use Rattle.schema.specs.declared.row.Row.{Row}
use Rattle.schema.specs.Sheets.{Shown, Bounded}
use Rattle.pile.specs.declared.faults.StrikeFault.{StrikeFault}
use Rattle.pile.specs.declared.faults.StrikeFault.TheVariants.{NoSuchRow, StruckAlready, TooManyStruck}
use Rattle.pile.specs.declared.faults.RestoreFault.{RestoreFault}
use Rattle.pile.specs.declared.faults.RestoreFault.TheVariants.{NotStruck}
use Rattle.pile.specs.declared.layered.Layered.{Layered}
use Rattle.pile.specs.declared.strike.StruckRows.{StruckRows}
use Rattle.pile.specs.Standing.{among, adds, drops}

-- the rows, numbered from i, whose numbers are not struck
abbrev pub unstruck : ℕ → List ℕ → List Row → List Row
unstruck i struck [] = []
unstruck i struck (r ∷ rs) = cond (among i struck) (unstruck (suc i) struck rs) (r ∷ unstruck (suc i) struck rs)

abbrev pub strike_shows : Shown → List ℕ → Shown
strike_shows s struck = record {
  classes = s.classes;
  arrows = s.arrows;
  rows = unstruck 0 struck s.rows;
  capacity = length (unstruck 0 struck s.rows);
}

abbrev pub struck_rows : {S : Type 0} → Layered StruckRows S → List ℕ
struck_rows t = vec_items t.layer.struck.list

-- striking row k of a sheet that shows s
abbrev pub Struck : Shown → List ℕ → ℕ → Result Unit StrikeFault → List ℕ → Type 0
Struck s before k (Ok u) after = (k < length s.rows) × (among k before ≡ false) × (length before < 32) × (after ≡ adds k before)
Struck s before k (Err NoSuchRow) after = (length s.rows ≤ k) × (after ≡ before)
Struck s before k (Err StruckAlready) after = (k < length s.rows) × (among k before ≡ true) × (after ≡ before)
Struck s before k (Err TooManyStruck) after = (k < length s.rows) × (among k before ≡ false) × (32 ≤ length before) × (after ≡ before)

abbrev pub Restored : List ℕ → ℕ → Result Unit RestoreFault → List ℕ → Type 0
Restored before k (Ok u) after = (among k before ≡ true) × (after ≡ drops k before)
Restored before k (Err NotStruck) after = (among k before ≡ false) × (after ≡ before)

-- no more rows are shown than there are below
pub unstruck_few : (i : ℕ) (struck : List ℕ) (rows : List Row) → length (unstruck i struck rows) ≤ length rows
unstruck_few i struck [] = zero-le
unstruck_few i struck (r ∷ rs) =
    let h = unstruck_few (suc i) struck rs in
    let U = unstruck (suc i) struck rs in
    elim (among i struck) as (λ b. length (cond b U (r ∷ U)) ≤ suc (length rs)) [ true ↦ omega arith | false ↦ suc-le-suc h ]

-- a strike layer keeps the laws of every sheet
pub strike_bounded : (s : Shown) (struck : List ℕ) → Bounded s → Bounded (strike_shows s struck)
strike_bounded s struck b = record {
  few_classes = b.few_classes;
  few_arrows = b.few_arrows;
  few_rows = omega arith;
  few_places = omega (arith, unstruck_few 0 struck s.rows, b.few_rows, b.few_places);
}
