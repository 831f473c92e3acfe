use Rattle.schema.specs.Masks.{Chosen}
use Rattle.schema.proofs.set64.Set64.of_those.Given as goal

abbrev pub invariant-loop-k : goal.invariant-loop-k
invariant-loop-k g l = Chosen (goal.F-post g l.test) l.k l.found
