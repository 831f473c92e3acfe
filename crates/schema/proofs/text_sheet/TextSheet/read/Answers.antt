use Rattle.schema.proofs.TextLines.{read_from}
use Rattle.schema.proofs.text_sheet.TextSheet.read.Goals as goal

pub returns : goal.returns
returns c = read_from c.args.text.now _ _ c.in_ok-rows.rows.items c.in_ok-rows.ensures
