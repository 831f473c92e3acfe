use Rattle.std.proofs.Common.{take}
use Rattle.schema.specs.Keys.{RivalSets}
use Rattle.schema.proofs.rivals.list_rivals.Given as goal

abbrev pub invariant-loop-row : goal.invariant-loop-row
invariant-loop-row l = RivalSets l.links (take l.row-index l.row-items) l.rivals
