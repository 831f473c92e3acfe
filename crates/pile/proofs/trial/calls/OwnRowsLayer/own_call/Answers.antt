use Rattle.pile.specs.Trials.{own_rows}
use Rattle.pile.proofs.Steps.{called, trial_withdrawn}
use Rattle.pile.proofs.trial.calls.OwnRowsLayer.own_call.Goals as goal

pub returns-in-Withdraw-clause-told : goal.returns-in-Withdraw-clause-told
returns-in-Withdraw-clause-told g c =
    λ p t. called c.in-Withdraw.is (trial_withdrawn p (own_rows c.args.layered.now) _ c.withdraw.result c.withdraw.ensures.answer c.withdraw.ensures.own)
