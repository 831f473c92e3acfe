-- The plain pile: what is left of a pile when one forgets how it is held.
--   Layer         a trial's own rows, or a strike layer's struck numbers
--   Lowest        what the lowest sheet shows, and whether it is a book
--   Plain         the lowest sheet, and above it the layers, the top one first
--   fresh         a pile whose layers are new
--   top           what the top part shows
--   parts         what the parts show, the top one first
--   grown         the pile after rows went to the end of its top part
use Rattle.std.specs.Prelude.{ℕ, Bool, true, false, List, [], ◌∷◌, ◌++◌, map}
use Rattle.schema.specs.declared.row.Row.{Row}
use Rattle.schema.specs.Sheets.{Shown, with_rows}
use Rattle.pile.specs.Trials.{trial_shows}
use Rattle.pile.specs.Strikes.{strike_shows}

pub data Layer : Type 0 where
  trial : List Row → Layer
  strike : List ℕ → Layer

pub data Kind : Type 0 where
  trial_kind : Kind
  strike_kind : Kind

pub record Lowest : Type 0 where
  pub shown : Shown
  pub book : Bool

pub record Plain : Type 0 where
  pub lowest : Lowest
  pub layers : List Layer

abbrev pub fresh_layer : Kind → Layer
fresh_layer trial_kind = trial []
fresh_layer strike_kind = strike []

-- over a sheet that shows s, which is a book or not
abbrev pub fresh : Shown → Bool → List Kind → Plain
fresh s book kinds = record { lowest = record { shown = s; book = book }; layers = map fresh_layer kinds }

-- a lowest sheet with no layers
abbrev pub alone : Shown → Bool → Plain
alone s book = record { lowest = record { shown = s; book = book }; layers = [] }

-- one more layer on top
abbrev pub over : Layer → Plain → Plain
over l p = record { lowest = p.lowest; layers = l ∷ p.layers }

-- what a layer shows over what is shown below
abbrev pub shown_by : Layer → Shown → Shown
shown_by (trial own) s = trial_shows s own
shown_by (strike struck) s = strike_shows s struck

abbrev pub layered : Shown → List Layer → Shown
layered s [] = s
layered s (l ∷ ls) = shown_by l (layered s ls)

abbrev pub top : Plain → Shown
top p = layered p.lowest.shown p.layers

-- what the parts below the top one show
abbrev pub lower : Shown → List Layer → List Shown
lower s [] = []
lower s (l ∷ ls) = layered s ls ∷ lower s ls

abbrev pub parts : Plain → List Shown
parts p = top p ∷ lower p.lowest.shown p.layers

-- rows go to the end of a trial's own; a strike layer has room for none
abbrev pub grown_layer : Layer → List Row → Layer
grown_layer (trial own) rows = trial (own ++ rows)
grown_layer (strike struck) rows = strike struck

-- rows go to the end of the lowest sheet, or of the layer at the top
abbrev pub grown_from : Lowest → List Layer → List Row → Plain
grown_from l [] rows = alone (with_rows l.shown (l.shown.rows ++ rows)) l.book
grown_from l (x ∷ xs) rows = record { lowest = l; layers = grown_layer x rows ∷ xs }

abbrev pub grown : Plain → List Row → Plain
grown p = grown_from p.lowest p.layers

-- which kind of part the top one is
abbrev pub is_book : Bool → List Layer → Bool
is_book book [] = book
is_book book (l ∷ ls) = false

abbrev pub is_trial : List Layer → Bool
is_trial [] = false
is_trial (trial own ∷ ls) = true
is_trial (strike struck ∷ ls) = false

abbrev pub is_strike : List Layer → Bool
is_strike [] = false
is_strike (trial own ∷ ls) = false
is_strike (strike struck ∷ ls) = true
