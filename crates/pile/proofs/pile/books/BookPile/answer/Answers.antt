use Rattle.std.proofs.Common.{refl}
use Rattle.pile.specs.Lives.{amended}
use Rattle.pile.proofs.Steps.{called, no_own_call}
use Rattle.pile.proofs.pile.books.BookPile.answer.Goals as goal

pub returns-in-Amend : goal.returns-in-Amend
returns-in-Amend c = called c.in-Amend.is (amended c.amend.ensures)

pub returns-in_default : goal.returns-in_default
returns-in_default c = no_own_call _ _ _ _ (λ k row e. absurd (c.in_default.not-Amend k row e)) (λ e. refl) (λ k e. refl) (λ k e. refl) c.common_call.ensures
