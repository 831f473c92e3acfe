use Rattle.std.proofs.Common.{refl}
use Rattle.schema.proofs.Trips.{reads_back}
use Rattle.schema.proofs.print.read_back.Goals as goal

pub unreachable-requires : goal.unreachable-requires
unreachable-requires g c = reads_back (g.S.Sheet.shows c.args.sheet.now) refl c.in_ok-len.ensures c.in_default.ensures
