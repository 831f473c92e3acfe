-- The marked points are led to, and the links of those that were followed lead to marked points.
use Rattle.std.proofs.Common.{◌≡◌, ◌-◌}
use Rattle.search.proofs.Following.{Follows}
use Rattle.search.proofs.breadth_first.follow.Given as goal

abbrev pub invariant-loop-from : goal.invariant-loop-from
invariant-loop-from g l =
    record {
      follows : Follows (g.W.Web.size l.web) (g.W.Web.link l.web) l.start l.trail;
      same : l.trail.marks.ghost_name ≡ l.initial.trail.marks.ghost_name;
    }

abbrev pub decreases-loop-from : goal.decreases-loop-from
decreases-loop-from g l = g.W.Web.size l.web - l.trail.followed
