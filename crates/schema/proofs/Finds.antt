-- What was found out of some rows was found out of the same rows.
use Rattle.std.proofs.Common.{◌≡◌, ℕ, List, subst}
use Rattle.schema.specs.declared.descriptions.Descriptions.{Descriptions}
use Rattle.schema.specs.declared.row.Row.{Row}
use Rattle.schema.specs.Found.{Found}

pub found_as : {rs rows : List Row} {web : Descriptions} {empty : List ℕ} → rs ≡ rows → Found rs web empty → Found rows web empty
found_as {web = web} {empty = empty} e f = subst (λ (r : List Row). Found r web empty) e f
