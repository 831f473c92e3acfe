use Rattle.std.proofs.Common.{◌≡◌, inr, arith, subst}
use Rattle.std.proofs.lemmas.Result.{err_from_is_err_and}
use Rattle.std.specs.Array.{IsFirstChunk}
use Rattle.schema.specs.Texts.{Header, BadColumn, too_short, header_form, too_large, wrong_length}
use Rattle.schema.proofs.TextLines.{heads_from}
use Rattle.schema.proofs.text_sheet.reading.read_header.Goals as goal

pub returns-in_err-first : goal.returns-in_err-first
returns-in_err-first c =
    let p = err_from_is_err_and c.from_residual.result c.from_residual.ensures.1 in
    grind (arith, p, too_short)

pub returns-in_err-header : goal.returns-in_err-header
returns-in_err-header c =
    let p = err_from_is_err_and c.from_residual-in_err-header.result c.from_residual-in_err-header.ensures.1 in
    let q = c.in_err-header.ensures in
    let first : IsFirstChunk c.args.text.now c.in_ok-first.first.now 14 = grind arith in
    rw (p.1, p.2, q.1) (header_form q.0 first.enough (subst (λ l. BadColumn Header l q.0) first.same q.2))

pub returns-in_err-counts : goal.returns-in_err-counts
returns-in_err-counts c =
    let first : IsFirstChunk c.args.text.now c.in_ok-first.first.now 14 = grind arith in
    let p = err_from_is_err_and c.from_residual-in_err-counts.result c.from_residual-in_err-counts.ensures.1 in
    let h = heads_from c.args.text.now _ _ _ first.enough (rw first.same at c.in_ok-header.ensures) in
    grind (arith, p, h, too_large)

pub returns-then-len-gt-MOST_ROWS : goal.returns-then-len-gt-MOST_ROWS
returns-then-len-gt-MOST_ROWS c =
    let first : IsFirstChunk c.args.text.now c.in_ok-first.first.now 14 = grind arith in
    too_large _ _ _ (heads_from c.args.text.now _ _ _ first.enough (rw first.same at c.in_ok-header.ensures)) (inr (inr (omega arith)))

pub returns-then-text-len : goal.returns-then-text-len
returns-then-text-len c =
    let first : IsFirstChunk c.args.text.now c.in_ok-first.first.now 14 = grind arith in
    let same : (c.in_ok-counts.counts.classes ≡ c.in_ok-header.header.classes) × (c.in_ok-counts.counts.arrows ≡ c.in_ok-header.header.arrows) = grind arith in
    wrong_length _ _ _ (heads_from c.args.text.now _ _ _ first.enough (rw first.same at c.in_ok-header.ensures))
    (omega (arith, same, c.in_ok-counts.counts.few)) (omega (arith, same, c.in_ok-counts.counts.few)) (omega arith) (λ e. c.if-text-len.true (rw c.from-len.ensures e))
