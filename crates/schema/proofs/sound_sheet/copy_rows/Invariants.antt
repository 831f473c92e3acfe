use Rattle.std.proofs.Common.{◌≡◌, take}
use Rattle.schema.proofs.sound_sheet.copy_rows.Given as goal

abbrev pub invariant-loop-k : goal.invariant-loop-k
invariant-loop-k g l = l.rows.items ≡ take l.k (g.S.Sheet.shows l.sheet).rows
