use Rattle.std.proofs.Common.{arith}
use Rattle.pile.proofs.Grown.{put_fits}
use Rattle.pile.proofs.loading.put_all.Goals as goal

pub unwrap-requires : goal.unwrap-requires
unwrap-requires g c =
    put_fits (g.P.Part.plain c.args.part.now) _ _ c.args.rows.now c.loop-row.row-index _ c.put.result c.loop-row.invariant (omega arith) c.requires c.put.ensures
