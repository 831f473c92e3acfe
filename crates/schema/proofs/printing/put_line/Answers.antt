use Rattle.std.proofs.Common.{arith}
use Rattle.std.proofs.lemmas.List.{length-set}
use Rattle.schema.proofs.Splices.{line_spliced}
use Rattle.schema.proofs.printing.put_line.Goals as goal

pub returns : goal.returns
returns c =
    let s = c.args.bytes.now in
    let l = c.args.parts in
    line_spliced c.args.at l.letter l.a l.b l.n s _ _ _ (omega arith)
    (omega (arith, length-set s c.args.at l.letter)) c.put_group.ensures c.put_group-2.ensures c.put_group-3.ensures
