use Rattle.schema.proofs.RowLines.{prints}
use Rattle.schema.proofs.Schemas.{sheet_small}
use Rattle.schema.proofs.print.print.Goals as goal

pub returns : goal.returns
returns g c =
    let copy = c.in_ok-copy.copy in
    let e = c.in_ok-copy.ensures in
    prints (g.S.Sheet.shows c.args.sheet.now) copy.counts.classes copy.counts.arrows copy.rows.items e.classes e.arrows e.rows (sheet_small copy) copy.sound c.put_text.ensures
