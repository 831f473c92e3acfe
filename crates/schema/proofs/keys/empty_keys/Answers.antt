use Rattle.schema.proofs.Doom.{marked_empty}
use Rattle.schema.proofs.Schemas.{sheet_sound}
use Rattle.schema.proofs.keys.empty_keys.Goals as goal

pub returns : goal.returns
returns c = marked_empty c.args.schema.now.sheet.rows.items (sheet_sound c.args.schema.now.sheet) c.survey.result c.survey.ensures c.marks_from.result c.marks_from.ensures
