use Rattle.std.proofs.Common.{arith}
use Rattle.pile.proofs.Steps.{at_below, at_none, at_layer}
use Rattle.pile.proofs.pile.layers.LayeredPile.call.Goals as goal

pub returns-in-0 : goal.returns-in-0
returns-in-0 g c =
    at_below (g.P.Part.plain c.args.self.now.below) _ (g.L.Layer.plain c.args.self.now.layer) c.height-below.result c.args.part c.args.call _ c.height-below.ensures
    (omega (arith, c.saturating_sub.ensures, c.in-0.is)) c.call.ensures

pub returns-in-1 : goal.returns-in-1
returns-in-1 g c =
    at_layer (g.P.Part.plain c.args.self.now.below) (g.L.Layer.plain c.args.self.now.layer) _ c.height-below.result c.args.part c.args.call _ c.height-below.ensures
    (omega (arith, c.saturating_sub.ensures, c.in-1.is)) (omega arith) (omega (arith, c.saturating_sub.ensures, c.in-1.is)) c.answer.ensures

pub returns-in_default : goal.returns-in_default
returns-in_default g c =
    at_none (g.P.Part.plain c.args.self.now.below) (g.L.Layer.plain c.args.self.now.layer) c.height-below.result c.args.part c.args.call c.height-below.ensures
    (omega (arith, c.saturating_sub.ensures)) (omega arith)
