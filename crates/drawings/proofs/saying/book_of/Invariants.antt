use Rattle.std.proofs.Common.{◌≡◌, take}
use Rattle.schema.specs.Books.{book_shows}
use Rattle.drawings.proofs.saying.book_of.Given as goal

-- the rows so far stand in the book
abbrev pub invariant-loop-row : goal.invariant-loop-row
invariant-loop-row l = book_shows l.book ≡ record { classes = 4; arrows = 2; rows = take l.row-index l.rows; capacity = 384 }
