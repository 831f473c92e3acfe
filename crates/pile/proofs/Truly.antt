-- What holds of a pile between two calls.
use Rattle.std.proofs.Common.{◌≡◌, List}
use Rattle.schema.specs.Sheets.{Shown}
use Rattle.schema.proofs.Verity.{true_of}
use Rattle.pile.specs.Lives.{Moment}
use Rattle.pile.specs.Plain.{Plain, parts}

pub moment : (p : Plain) (shown : List Shown) → shown ≡ parts p → Moment p shown
moment p shown e = record { agrees = e; truths = λ s h. true_of s }
