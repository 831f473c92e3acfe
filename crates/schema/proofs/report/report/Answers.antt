use Rattle.std.proofs.Common.{sym, subst, arith}
use Rattle.schema.specs.Printing.{Printable}
use Rattle.schema.specs.Reports.{notice_line, ReportIs, text_refused}
use Rattle.schema.proofs.Printables.{text_printable}
use Rattle.schema.proofs.Judging.{text_report}
use Rattle.schema.proofs.Writings.{written}
use Rattle.schema.proofs.report.report.Goals as goal

pub refuse-requires : goal.refuse-requires
refuse-requires c = (subst Printable (sym c.from.ensures) (text_printable c.in-Err.ensures), omega arith)

pub returns-in-Ok : goal.returns-in-Ok
returns-in-Ok c = written (text_report _ c.in-Ok.ensures.tells c.judge.ensures.is) (omega arith) c.judge.ensures.begun

pub returns-in-Err : goal.returns-in-Err
returns-in-Err c =
    let is = text_refused c.in-Err.fault c.in-Err.ensures in
    written (subst (λ n. ReportIs c.args.text.now (notice_line n)) (sym c.from.ensures) is) (omega arith) c.refuse.ensures
