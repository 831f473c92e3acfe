use Rattle.std.proofs.Common.{◌≡◌, take}
use Rattle.pile.specs.Plain.{grown}
use Rattle.pile.proofs.loading.put_all.Given as goal

abbrev pub invariant-loop-row : goal.invariant-loop-row
invariant-loop-row g l = g.P.Part.plain l.part ≡ grown (g.P.Part.plain l.initial.part) (take l.row-index l.rows)
