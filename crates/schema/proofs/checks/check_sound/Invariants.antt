use Rattle.std.proofs.Common.{ℕ, ◌<◌, get_or}
use Rattle.schema.specs.Rows.{Sound}
use Rattle.schema.proofs.checks.check_sound.Given as goal

abbrev pub invariant-loop-k : goal.invariant-loop-k
invariant-loop-k l = (j : ℕ) → j < l.k → Sound l.counts.classes l.counts.arrows (get_or l.rows j (record { letter = 0; a = 0; b = 0; n = 0 }))
