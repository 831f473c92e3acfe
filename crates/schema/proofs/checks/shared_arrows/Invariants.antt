use Rattle.std.proofs.Common.{take}
use Rattle.schema.specs.Checks.{Shared}
use Rattle.schema.proofs.checks.shared_arrows.Given as goal

abbrev pub invariant-loop-row : goal.invariant-loop-row
invariant-loop-row l = Shared (take l.row-index l.row-items) l.shared
