-- What the parts of a pile show: lemmas for the laws of `Part`, for inner use.
use Rattle.std.specs.Prelude.{◌≡◌, List, ◌∷◌}
use Rattle.std.proofs.Common.{ap}
use Rattle.schema.specs.Sheets.{Shown}
use Rattle.pile.specs.Plain.{Plain, Layer, over, top, shown_by, parts}

-- the first of the parts is the top one
pub shows_top : {s : Shown} {rest : List Shown} (p : Plain) → s ∷ rest ≡ parts p → s ≡ top p
shows_top p e = cc

-- a layer's parts are itself and those below
pub layer_parts : {s : Shown} {rest : List Shown} (l : Layer) (p : Plain) → s ∷ rest ≡ parts p → shown_by l s ∷ (s ∷ rest) ≡ parts (over l p)
layer_parts l p e = let t = ap (shown_by l) (shows_top p e) in cc
