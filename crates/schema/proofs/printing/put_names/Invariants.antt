use Rattle.schema.proofs.Names.{Named}
use Rattle.schema.proofs.printing.put_names.Given as goal

abbrev pub invariant-loop-k : goal.invariant-loop-k
invariant-loop-k l = Named l.at l.letter l.table l.initial.bytes l.k l.bytes l.end
