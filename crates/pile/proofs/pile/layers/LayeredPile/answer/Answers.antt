use Rattle.std.proofs.Common.{ap}
use Rattle.pile.proofs.Steps.{not_own}
use Rattle.pile.proofs.pile.layers.LayeredPile.answer.Goals as goal

pub returns-in-Err : goal.returns-in-Err
returns-in-Err g c =
    not_own (g.L.Layer.plain c.args.self.now.layer) _ (g.P.Part.plain c.args.self.now.below) _ _ c.args.call c.in-Err.call c.common_call.result
    c.in-Err.ensures.told (ap g.P.Part.plain c.in-Err.ensures.below) c.common_call.ensures
