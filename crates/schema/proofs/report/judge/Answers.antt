use Rattle.std.proofs.Common.{arith}
use Rattle.schema.specs.TextSheets.{text_shows}
use Rattle.schema.proofs.Judging.{verdict_printable, judged_refused, judged_listed}
use Rattle.schema.proofs.report.judge.Goals as goal

pub refuse-requires : goal.refuse-requires
refuse-requires c = (verdict_printable (text_shows c.args.sheet.now) _ _ c.in-Err.fault c.from.ensures c.in-Err.ensures, omega arith)

pub returns-in-Ok : goal.returns-in-Ok
returns-in-Ok c = judged_listed (text_shows c.args.sheet.now) _ c.verdict.new.table _ (omega arith) c.in-Ok.ensures c.list.ensures

pub returns-in-Err : goal.returns-in-Err
returns-in-Err c = judged_refused (text_shows c.args.sheet.now) _ _ c.in-Err.fault (omega arith) c.from.ensures c.in-Err.ensures c.refuse.ensures
