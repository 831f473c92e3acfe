use Rattle.std.proofs.Common.{refl}
use Rattle.pile.proofs.Steps.{no_own_call}
use Rattle.pile.proofs.pile.bases.BasePile.answer.Goals as goal

pub returns : goal.returns
returns g c = no_own_call _ _ _ _ (λ k row e. refl) (λ e. refl) (λ k e. refl) (λ k e. refl) c.common_call.ensures
