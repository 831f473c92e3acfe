use Rattle.pile.specs.Lives.{restored}
use Rattle.pile.specs.Strikes.{struck_rows}
use Rattle.pile.proofs.Steps.{called, row_struck}
use Rattle.pile.proofs.strike.calls.StruckRowsLayer.own_call.Goals as goal

pub returns-in-Strike-clause-told : goal.returns-in-Strike-clause-told
returns-in-Strike-clause-told g c =
    λ p t. called c.in-Strike.is (row_struck p _ (struck_rows c.args.layered.now) _ c.in-Strike.k c.strike.result t c.strike.ensures.struck)

pub returns-in-Restore-clause-told : goal.returns-in-Restore-clause-told
returns-in-Restore-clause-told g c = λ p t. called c.in-Restore.is (restored c.restore.ensures.restored)
