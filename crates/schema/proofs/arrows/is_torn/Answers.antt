use Rattle.schema.specs.Keys.{ArrowReaches}
use Rattle.schema.proofs.Marks.{arrow_reaches}
use Rattle.schema.proofs.Schemas.{sheet_sound}
use Rattle.schema.proofs.Signs.{tells_same}
use Rattle.schema.proofs.Torn.{arrow_torn, arrow_torn_by}
use Rattle.schema.proofs.arrows.is_torn.Goals as goal

pub returns : goal.returns
returns c =
    let rows = c.args.sheet.now.rows.items in
    let sound = sheet_sound c.args.sheet.now in
    let p = c.args.arrow in
    let marks = c.marks_from-marks.result in
    let told : ArrowReaches rows p marks = arrow_reaches rows c.args.arrows.now c.requires.told sound p marks c.marks_from-marks.ensures in
    tells_same c.torn.result (arrow_torn rows sound p p marks marks told told) (arrow_torn_by rows sound p p marks marks told told) c.torn.ensures
