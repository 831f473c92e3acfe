use Rattle.std.proofs.Common.{refl}
use Rattle.std.proofs.lemmas.Result.{err_from_is_err_and}
use Rattle.schema.specs.Texts.{RowLetter}
use Rattle.schema.specs.Columns.{out_of_form, unsound}
use Rattle.schema.proofs.Forms.{bad_column}
use Rattle.schema.proofs.lines.row_line.Goals as goal

pub returns-in_err-letter : goal.returns-in_err-letter
returns-in_err-letter c =
    let p = err_from_is_err_and c.from_residual.result c.from_residual.ensures.1 in
    let q = c.in_err-letter.ensures in
    rw (p.1, p.2, q.0) (out_of_form _ (bad_column RowLetter 83 refl _ (λ x b post. post) q.1))

pub returns-in-Some : goal.returns-in-Some
returns-in-Some c =
    let q = c.in_ok-letter.ensures in
    let fits = c.in_ok-letter.field-0.fits in
    unsound c.in-Some.field _ (record { letter_stands = q.0.0 refl; a_fits = fits.0; b_fits = fits.1; n_fits = fits.2 }) q.1 c.in-Some.ensures
