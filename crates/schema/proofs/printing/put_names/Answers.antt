use Rattle.std.proofs.Common.{◌∙◌, arith}
use Rattle.schema.proofs.Names.{named_one, named_none}
use Rattle.schema.proofs.printing.put_names.Goals as goal
use Rattle.schema.proofs.printing.put_names.Goals.{then-byte-eq1, else-byte-eq1}

pub loop-k-preserved : goal.loop-k-preserved
loop-k-preserved c =
    let table = c.args.table.now in
    let s = c.args.bytes.now in
    elim c.if-byte-eq1.branch [
      | then-byte-eq1 w ↦ named_one _ _ _ table s _ _ c.loop-k.invariant c.loop-k-test.true _ _ (omega arith)
          w.if-byte-eq1.true (w.bytes-is ∙ w.put_line.ensures) (omega (arith, w.end-is))
      | else-byte-eq1 w ↦ named_none _ _ _ table s _ _ c.loop-k.invariant c.loop-k-test.true _ _ w.if-byte-eq1.false w.bytes-is w.end-is
    ]
