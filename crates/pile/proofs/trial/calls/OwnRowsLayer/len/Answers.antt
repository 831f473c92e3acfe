use Rattle.std.proofs.Common.{vec_items, arith}
use Rattle.pile.specs.Trials.{shown_length}
use Rattle.pile.proofs.trial.calls.OwnRowsLayer.len.Goals as goal

pub returns : goal.returns
returns g c =
    omega (arith, shown_length 65535 (g.S.Sheet.shows c.args.below.now).rows (vec_items c.args.self.now.own.list), c.args.self.now.own.list.ok.0)
