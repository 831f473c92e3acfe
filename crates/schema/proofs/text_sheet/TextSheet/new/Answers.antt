use Rattle.schema.specs.TextSheets.{accepted, refused}
use Rattle.schema.proofs.text_sheet.TextSheet.new.Goals as goal
use Rattle.schema.proofs.text_sheet.TextSheet.new.Goals.{in-Ok, in-Err}

pub returns : goal.returns
returns c =
    elim c.match-read.branch [
      | in-Ok w ↦ simp w.result-is (accepted _ w.in-Ok.ensures)
      | in-Err w ↦ simp w.result-is (rw w.new.ensures (refused w.in-Err.field-0 w.in-Err.ensures))
    ]
