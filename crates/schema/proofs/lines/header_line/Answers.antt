use Rattle.std.proofs.Common.{ap, refl, rules}
use Rattle.std.proofs.lemmas.Result.{err_from_is_err_and}
use Rattle.schema.specs.declared.faults.LineFault.TheVariants.{Form}
use Rattle.schema.specs.Texts.{Header}
use Rattle.schema.proofs.Forms.{bad_column}
use Rattle.schema.proofs.lines.header_line.Goals as goal

pub returns-in_err-parts : goal.returns-in_err-parts
returns-in_err-parts c =
    let p = err_from_is_err_and c.from_residual.result c.from_residual.ensures.1 in
    let q = c.in_err-parts.ensures in
    rw (p.1, p.2) (c.in_err-parts.field-0.0.column, ap (λ l. Form (record { line = l; column = c.in_err-parts.field-0.0.column })) q.0, bad_column Header 72 refl _ (λ x b post. search rules) q.1)
