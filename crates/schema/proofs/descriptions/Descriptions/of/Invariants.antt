use Rattle.std.proofs.Common.{take}
use Rattle.schema.specs.Points.{Built}
use Rattle.schema.proofs.descriptions.Descriptions.of.Given as goal

abbrev pub invariant-loop-row : goal.invariant-loop-row
invariant-loop-row l = Built (take l.row-index l.row-items) l.web
