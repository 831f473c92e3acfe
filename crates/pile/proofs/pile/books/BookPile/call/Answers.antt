use Rattle.std.proofs.Common.{arith}
use Rattle.pile.specs.Lives.{no_part}
use Rattle.pile.proofs.Steps.{at_part}
use Rattle.pile.proofs.pile.books.BookPile.call.Goals as goal

pub returns-then-part-gt0 : goal.returns-then-part-gt0
returns-then-part-gt0 c = no_part c.if-part-gt0.true

pub returns-else-part-gt0 : goal.returns-else-part-gt0
returns-else-part-gt0 c = at_part (omega (arith, c.if-part-gt0.false)) c.answer.ensures
