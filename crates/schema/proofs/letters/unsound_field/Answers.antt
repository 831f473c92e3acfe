use Rattle.std.proofs.Common.{sym, inl, inr, ⊎_elim, arith}
use Rattle.schema.specs.Rows.{letter_unsound, a_unsound, b_unsound, n_unsound}
use Rattle.schema.proofs.letters.unsound_field.Goals as goal

pub returns-in_default : goal.returns-in_default
returns-in_default c = letter_unsound (sym c.in_default.ensures)

pub returns-then-from-bound : goal.returns-then-from-bound
returns-then-from-bound c = a_unsound c.in-Some.shape (sym c.in-Some.ensures) (omega arith)

pub returns-then-from-bound-2 : goal.returns-then-from-bound-2
returns-then-from-bound-2 c = b_unsound c.in-Some.shape (sym c.in-Some.ensures) (omega arith) (omega arith)

pub returns-then-row-shape : goal.returns-then-row-shape
returns-then-row-shape c = n_unsound c.in-Some.shape (sym c.in-Some.ensures) (omega arith) (omega arith) (⊎_elim inl (λ h. inr h.1) c.then-row-shape.either)
