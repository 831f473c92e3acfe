use Rattle.std.proofs.Common.{ℕ, ◌<◌, get_or}
use Rattle.schema.specs.Verdicts.{CapsShared}
use Rattle.schema.specs.Columns.{blank_row}
use Rattle.schema.proofs.checks.check_caps.Given as goal

abbrev pub invariant-loop-k : goal.invariant-loop-k
invariant-loop-k l = (j : ℕ) → j < l.k → CapsShared l.rows (get_or l.rows j blank_row) → ⊥
