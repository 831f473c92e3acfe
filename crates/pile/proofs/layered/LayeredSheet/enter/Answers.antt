use Rattle.pile.proofs.Shows.{shown_entered}
use Rattle.pile.proofs.layered.LayeredSheet.enter.Goals as goal

pub returns-clause-shown : goal.returns-clause-shown
returns-clause-shown g c =
    shown_entered (g.L.Layer.plain c.args.self.now.layer) _ (g.S.Sheet.shows c.args.self.now.below) c.args.row c.enter.result c.enter.ensures
