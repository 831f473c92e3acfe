-- The start is the first point of the trail, each visit closes one more point, and at the end all are closed.
use Rattle.std.proofs.Common.{◌≡◌, ℕ, List, length, replicate, refl, rules, ap, ◌∙◌, subst, sym}
use Rattle.search.proofs.Following.{follows_start, follows_more, follows_all}
use Rattle.search.proofs.breadth_first.follow.Goals as goal

pub loop-from-init : goal.loop-from-init
loop-from-init g c =
    let w = c.args.web.now in
    let a = c.new-trail in
    let clear : a.result.marks.now ≡ replicate (length a.result.marks.now) 0 = subst (λ (xs : List ℕ). xs ≡ replicate (length xs) 0) (sym a.ensures.marks) c.requires.clear in
    record {
      follows = follows_start (g.W.Web.size w) (g.W.Web.link w) c.args.start a.result c.mark.new.self clear (ap length a.ensures.marks ∙ c.requires.size) a.ensures.followed c.mark.ensures.grows c.mark.ensures.marked;
      same = refl;
    }

pub loop-from-preserved : goal.loop-from-preserved
loop-from-preserved g c =
    let w = c.args.web.now in
    let next = c.next.ensures in
    let e = c.visit.ensures in
    record {
      follows = follows_more (g.W.Web.size w) (g.W.Web.link w) c.args.start c.in-Some.from c.loop-from.trail c.next.new.self c.visit.new.trail c.loop-from.invariant.follows c.requires.within next.marks next.found (sym next.next ∙ c.in-Some.is) c.in-Some.ensures.followed e.grows e.all;
      same = e.same_reference ∙ (next.same_reference ∙ c.loop-from.invariant.same);
    }

pub returns : goal.returns
returns g c =
    let w = c.args.web.now in
    follows_all (g.W.Web.size w) (g.W.Web.link w) c.args.start c.loop-from.trail _ c.loop-from.invariant.follows (sym c.next.ensures.next ∙ c.in_default.is) (search rules)
