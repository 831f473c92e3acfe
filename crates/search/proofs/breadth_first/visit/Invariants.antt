-- The linked points below `at` are marked, and nothing found is lost.
use Rattle.std.proofs.Common.{◌≡◌, ℕ, ◌-◌, ◌<◌, ◌≤◌, get_or}
use Rattle.search.specs.Trail.{Grows}
use Rattle.search.proofs.breadth_first.visit.Given as goal

abbrev pub invariant-loop-point : goal.invariant-loop-point
invariant-loop-point g l =
    record {
      grown : Grows (g.W.Web.link l.web l.from) l.initial.trail l.trail;
      below : (k : ℕ) → k < l.at → k < g.W.Web.size l.web → g.W.Web.link l.web l.from k → get_or l.trail.marks.now k 0 ≡ 1;
      within : l.at ≤ g.W.Web.size l.web;
      same : l.trail.marks.ghost_name ≡ l.initial.trail.marks.ghost_name;
    }

abbrev pub decreases-loop-point : goal.decreases-loop-point
decreases-loop-point g l = g.W.Web.size l.web - l.at
