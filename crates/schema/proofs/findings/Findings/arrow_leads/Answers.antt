use Rattle.std.proofs.Common.{◌+◌, ◌*◌, get_or, refl, inl}
use Rattle.search.specs.Leads.{Leads}
use Rattle.schema.proofs.Finds.{found_as}
use Rattle.schema.specs.Webs.{ArrowLink}
use Rattle.schema.proofs.Doom.{arrow_bit}
use Rattle.schema.proofs.Marks.{arrow_reaches}
use Rattle.schema.proofs.Signs.{bit_one, bit_holds, tells_one, tells_bit, tells_second}
use Rattle.schema.proofs.findings.Findings.arrow_leads.Goals as goal

pub returns-then-self-from-eq1 : goal.returns-then-self-from-eq1
returns-then-self-from-eq1 c =
    let it = c.self.inside in
    let rows = c.args.self.now in
    let found = found_as c.self.view_is c.self.invariant in
    let sound = found.sound in
    let b = get_or it.empty (64 + 2 * c.args.from) 0 in
    let o = c.if-self-from-eq1.true in
    tells_one b o (inl (bit_one (arrow_bit rows it.empty b c.args.from c.requires.0 refl found.keys) o))

pub returns-else-self-from-eq1 : goal.returns-else-self-from-eq1
returns-else-self-from-eq1 c =
    let it = c.self.inside in
    let rows = c.args.self.now in
    let found = found_as c.self.view_is c.self.invariant in
    let sound = found.sound in
    let p = c.args.from in
    let marks = c.marks_from-marks.result in
    let b = get_or it.empty (64 + 2 * p) 0 in
    tells_second _ (Leads (ArrowLink rows) p c.args.to)
    (λ z. c.if-self-from-eq1.false (bit_holds (arrow_bit rows it.empty b p c.requires.0 refl found.keys) z))
    (tells_bit (get_or marks c.args.to 0)
    (arrow_reaches rows it.web.arrows found.links.overs sound p marks c.marks_from-marks.ensures c.args.to c.requires.1))
