use Rattle.std.proofs.Common.{◌≡◌, take}
use Rattle.schema.specs.Printing.{spliced}
use Rattle.schema.specs.Texts.{row_lines}
use Rattle.schema.proofs.print.put_text.Given as goal

abbrev pub invariant-loop-k : goal.invariant-loop-k
invariant-loop-k l = l.bytes ≡ spliced 14 (row_lines (take l.k l.rows)) l.initial.bytes
