-- Trial layers.
--   trial_shows   what such a layer shows of the sheet below and its own rows
--   own_rows      the rows of a layer's own
use Rattle.std.specs.Prelude.{◌≡◌, ℕ, ◌+◌, min, List, ◌++◌, length, take, vec_items}
use Rattle.std.proofs.Common.{ap, ◌∙◌, arith, length-take, length-append}
use Rattle.schema.specs.declared.row.Row.{Row}
use Rattle.schema.specs.Sheets.{Shown, Bounded}
use Rattle.pile.specs.declared.layered.Layered.{Layered}
use Rattle.pile.specs.declared.trial.OwnRows.{OwnRows}

-- the rows below and then the layer's own, the first 65,535 in all
abbrev pub trial_shows : Shown → List Row → Shown
trial_shows s own = record {
  classes = s.classes;
  arrows = s.arrows;
  rows = take 65535 (s.rows ++ own);
  capacity = min (length s.rows + 32) 65535;
}

abbrev pub own_rows : {S : Type 0} → Layered OwnRows S → List Row
own_rows t = vec_items t.layer.own.list

-- how many rows are shown
pub shown_length : (n : ℕ) (rows own : List Row) → length (take n (rows ++ own)) ≡ min n (length rows + length own)
shown_length n rows own = length-take n (rows ++ own) ∙ ap (min n) (length-append rows own)

-- a trial layer keeps the laws of every sheet
pub trial_bounded : (t : OwnRows) (s : Shown) → Bounded s → Bounded (trial_shows s (vec_items t.own.list))
trial_bounded t s b =
    record {
      few_classes = b.few_classes;
      few_arrows = b.few_arrows;
      few_rows = omega (arith, shown_length 65535 s.rows (vec_items t.own.list), t.own.room, t.own.list.ok.0);
      few_places = omega arith;
    }
