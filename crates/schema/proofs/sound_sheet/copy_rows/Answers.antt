use Rattle.std.proofs.Common.{◌<◌, length, arith}
use Rattle.schema.specs.Columns.{blank_row}
use Rattle.schema.proofs.Members.{nth_more, not_past}
use Rattle.schema.proofs.sound_sheet.copy_rows.Goals as goal
use Rattle.schema.proofs.sound_sheet.copy_rows.Goals.{in-Some, in_default}

pub loop-k-preserved : goal.loop-k-preserved
loop-k-preserved g c =
    let rows = (g.S.Sheet.shows c.args.sheet.now).rows in
    let k = c.loop-k.k in
    let l : k < length rows = omega arith in
    elim c.match-row.branch [
      | in-Some w ↦ let e = nth_more rows k w.in-Some.row l w.in-Some.ensures in let f = w.push.ensures.items in cc
      | in_default w ↦ absurd (not_past rows k blank_row l w.in_default.ensures)
    ]
