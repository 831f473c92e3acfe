use Rattle.std.proofs.Common.{◌≡◌}
use Rattle.arrayvec.specs.ArrayVec.{array_vec_len}
use Rattle.schema.specs.Columns.{RowsRead}
use Rattle.schema.proofs.text_sheet.reading.read_rows.Given as goal

abbrev pub invariant-loop-i : goal.invariant-loop-i
invariant-loop-i l = (array_vec_len l.rows ≡ l.i) × RowsRead l.text l.counts.classes l.counts.arrows l.rows.items
