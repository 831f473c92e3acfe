use Rattle.std.proofs.Common.{◌≡◌}
use Rattle.schema.proofs.Loads.{grown}
use Rattle.schema.proofs.loading.enter_all.Given as goal

abbrev pub invariant-loop-row : goal.invariant-loop-row
invariant-loop-row g l = g.S.Sheet.shows l.sheet ≡ grown (g.S.Sheet.shows l.initial.sheet) l.rows l.row-index
