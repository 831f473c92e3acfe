use Rattle.std.proofs.Common.{inl}
use Rattle.search.specs.Leads.{Leads}
use Rattle.schema.specs.Webs.{Link}
use Rattle.schema.proofs.Signs.{tells_true, tells_bit, tells_second}
use Rattle.schema.proofs.findings.Findings.leads.Goals as goal

pub returns-then-is_empty : goal.returns-then-is_empty
returns-then-is_empty c =
    let from = c.marks-marks.ensures in
    tells_true c.if-is_empty.true (inl (c.if-is_empty.ensures c.args.from from.placed from.reaches))

pub returns-else-is_empty : goal.returns-else-is_empty
returns-else-is_empty c =
    let from = c.marks-marks.ensures in
    let d = c.args.from in
    tells_second _ (Leads (Link c.args.self.now) d c.args.to) (c.if-is_empty.ensures d from.placed from.reaches)
    (rw (c.point.ensures.is) (tells_bit _ (from.reaches c.args.to c.point.ensures.placed)))
