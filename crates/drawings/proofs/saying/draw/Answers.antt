use Rattle.schema.specs.Books.{book_shows}
use Rattle.drawings.proofs.Endless.{only_endless}
use Rattle.drawings.proofs.Sayings.{drawn}
use Rattle.drawings.proofs.saying.draw.Goals as goal

pub returns-clause-said : goal.returns-clause-said
returns-clause-said c = drawn (book_shows c.in_ok-book.book) c.tell.result c.in-Some.given c.args.line c.in-Some.ensures.given c.in_ok-book.ensures c.tell.ensures

pub returns-clause-endless : goal.returns-clause-endless
returns-clause-endless c = only_endless

pub returns-in_default-clause-endless : goal.returns-in_default-clause-endless
returns-in_default-clause-endless c = only_endless

pub returns-in_err-book-clause-endless : goal.returns-in_err-book-clause-endless
returns-in_err-book-clause-endless c = only_endless
