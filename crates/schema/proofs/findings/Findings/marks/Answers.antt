use Rattle.schema.proofs.Finds.{found_as}
use Rattle.schema.proofs.Marks.{reaches_from}
use Rattle.schema.proofs.findings.Findings.marks.Goals as goal

pub returns-clause-reaches : goal.returns-clause-reaches
returns-clause-reaches c =
    let rows = c.args.self.now in
    let found = found_as c.self.view_is c.self.invariant in
    reaches_from rows c.self.inside.web found.links found.sound c.args.from c.point.ensures.placed c.point.result c.point.ensures.is c.marks_from.result c.marks_from.ensures
