use Rattle.std.proofs.Common.{◌+◌, sym, subst}
use Rattle.schema.specs.Masks.{Chosen}
use Rattle.schema.proofs.Gather.{chosen_none, chosen_more, chosen_past}
use Rattle.schema.proofs.set64.Set64.of_those.Goals as goal
use Rattle.schema.proofs.set64.Set64.of_those.Goals.{then-test, else-test}

pub loop-k-init : goal.loop-k-init
loop-k-init g c = chosen_none

pub loop-k-preserved : goal.loop-k-preserved
loop-k-preserved g c =
    elim c.if-test.branch [
      | then-test v ↦ subst (Chosen _ (c.loop-k.k + 1)) (sym v.found-is) (chosen_more c.loop-k.invariant v.if-test.ensures v.insert.ensures)
      | else-test v ↦ subst (Chosen _ (c.loop-k.k + 1)) (sym v.found-is) (chosen_past c.loop-k.invariant v.if-test.ensures)
    ]
