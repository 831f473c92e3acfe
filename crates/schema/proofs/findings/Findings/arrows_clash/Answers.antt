use Rattle.std.proofs.Common.{List, subst}
use Rattle.schema.specs.declared.row.Row.{Row}
use Rattle.schema.specs.Keys.{arrows_apart, TornBy}
use Rattle.schema.specs.Verdicts.{Tells}
use Rattle.schema.proofs.Finds.{found_as}
use Rattle.schema.proofs.Marks.{arrow_reaches}
use Rattle.schema.proofs.Signs.{tells_same}
use Rattle.schema.proofs.Torn.{arrow_torn, arrow_torn_by}
use Rattle.schema.proofs.findings.Findings.arrows_clash.Goals as goal

pub returns : goal.returns
returns c =
    let rows = c.args.self.now in
    let found = found_as c.self.view_is c.self.invariant in
    let p = c.args.one in
    let q = c.args.two in
    let first = c.marks_from-first.result in
    let second = c.marks_from-second.result in
    let reached = arrow_reaches rows c.self.inside.web.arrows found.links.overs found.sound in
    let from-p = reached p first c.marks_from-first.ensures in
    let from-q = reached q second c.marks_from-second.ensures in
    let torn = subst (λ (rs : List Row). Tells c.torn.result (TornBy arrows_apart rs first second)) c.self.view_is c.torn.ensures in
    tells_same c.torn.result (arrow_torn rows found.sound p q first second from-p from-q) (arrow_torn_by rows found.sound p q first second from-p from-q) torn
