-- There is room for a point that is not marked, and with it each marked point is listed.
use Rattle.std.proofs.Common.{◌<◌, length, sym, subst, set, arith}
use Rattle.search.specs.Marks.{Lists}
use Rattle.search.proofs.Marking.{room_for, lists_set}
use Rattle.search.proofs.trail.Trail.mark.Goals as goal

pub push-requires : goal.push-requires
push-requires c =
    let t = c.args.self.now in
    let r : length t.found.items < length t.marks.now = room_for t.marks.now t.found.items c.args.point t.lists c.requires c.if-self-point-eq0.true in
    (omega arith, omega (arith, r, t.small))

pub invariant_of-self-clause-lists : goal.invariant_of-self-clause-lists
invariant_of-self-clause-lists c =
    let t = c.args.self.now in
    subst (Lists (set t.marks.now c.args.point 1)) (sym c.push.ensures.items) (lists_set t.marks.now t.found.items c.args.point t.lists c.requires c.if-self-point-eq0.true)
