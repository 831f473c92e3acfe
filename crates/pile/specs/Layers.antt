-- What a layer does over a sheet that shows s.
--   LayerEntered  what entering a row answers, and the layer after it
--   is_own        whether a call is one that only such a layer has
--   OwnCall       what such a call answers, and the layer after it
use Rattle.std.specs.Prelude.{◌≡◌, Bool, true, false, [], ◌∷◌, Ok, Err, Result}
use Rattle.schema.specs.declared.row.Row.{Row}
use Rattle.schema.specs.declared.faults.EnterFault.{EnterFault}
use Rattle.schema.specs.Sheets.{Shown, Takes}
use Rattle.pile.specs.declared.request.Answer.{Answer}
use Rattle.pile.specs.declared.request.Call.{Call}
use Rattle.pile.specs.declared.request.Call.TheVariants.{Withdraw, Strike, Restore}
use Rattle.pile.specs.Lives.{AtTop}
use Rattle.pile.specs.Plain.{Plain, Layer, trial, strike, over, top, shown_by, grown_layer}

-- a row goes to the end of the layer
abbrev pub LayerEntered : Layer → Shown → Row → Result Unit EnterFault → Layer → Type 0
LayerEntered l s row = Takes (shown_by l s) l (grown_layer l (row ∷ []))

-- only a trial has its rows withdrawn, and only a strike layer strikes and restores
abbrev pub is_own : Layer → Call → Bool
is_own (trial own) Withdraw = true
is_own (strike struck) (Strike k) = true
is_own (strike struck) (Restore k) = true
is_own l c = false

-- as it is told of any pile below that shows s; a call that is not the layer's own comes back
abbrev pub OwnCall : Layer → Shown → Call → Result Answer Call → Layer → Type 0
OwnCall l s c (Ok a) m = (p : Plain) → s ≡ top p → AtTop (over l p) c a (over m p)
OwnCall l s c (Err d) m = (is_own l c ≡ false) × (d ≡ c) × (m ≡ l)
