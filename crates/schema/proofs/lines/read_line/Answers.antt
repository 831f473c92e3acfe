use Rattle.std.proofs.Common.{◌+◌, refl, sym, ◌∙◌, arith}
use Rattle.std.proofs.lemmas.Result.{err_from_is_err_and}
use Rattle.schema.specs.Columns.{Feed, wrong_letter, wrong_tail}
use Rattle.schema.proofs.LineParts.{line_parts}
use Rattle.schema.proofs.Forms.{line_spelled, in_group, after_group, Two, Three, two_some, three_some, feed_strays}
use Rattle.schema.proofs.lines.read_line.Goals as goal

pub returns-then-not-begins : goal.returns-then-not-begins
returns-then-not-begins g c =
    let spelled = sym c.as_slice.ensures ∙ line_parts c.as_slice.result.now (omega arith) in
    (refl, wrong_letter _ _ spelled (rw c.if-not-begins.true at c.begins.ensures) refl)

pub returns-in_err-a : goal.returns-in_err-a
returns-in_err-a g c =
    let spelled = sym c.as_slice.ensures ∙ line_parts c.as_slice.result.now (omega arith) in
    let p = err_from_is_err_and c.from_residual.result c.from_residual.ensures.1 in
    let q = c.in_err-a.ensures in
    let s = in_group Two _ q.0 refl refl two_some q.1 q.3 in
    rw (p.1, p.2, q.2) (refl, wrong_tail _ _ q.0 spelled (rw c.if-not-begins.false at c.begins.ensures) s (omega arith))

pub returns-in_err-b : goal.returns-in_err-b
returns-in_err-b g c =
    let spelled = sym c.as_slice.ensures ∙ line_parts c.as_slice.result.now (omega arith) in
    let p = err_from_is_err_and c.from_residual-in_err-b.result c.from_residual-in_err-b.ensures.1 in
    let q = c.in_err-b.ensures in
    let s = after_group Two q.0 refl c.in_ok-a.ensures (in_group Three _ q.0 refl refl three_some q.1 q.3) in
    rw (p.1, p.2, q.2) (refl, wrong_tail _ _ (4 + q.0) spelled (rw c.if-not-begins.false at c.begins.ensures) s (omega arith))

pub returns-in_err-n : goal.returns-in_err-n
returns-in_err-n g c =
    let spelled = sym c.as_slice.ensures ∙ line_parts c.as_slice.result.now (omega arith) in
    let p = err_from_is_err_and c.from_residual-in_err-n.result c.from_residual-in_err-n.ensures.1 in
    let q = c.in_err-n.ensures in
    let s = after_group Two (4 + q.0) refl c.in_ok-a.ensures (after_group Three q.0 refl c.in_ok-b.ensures (in_group Feed _ q.0 refl refl refl q.1 q.3)) in
    rw (p.1, p.2, q.2) (refl, wrong_tail _ _ (4 + (4 + q.0)) spelled (rw c.if-not-begins.false at c.begins.ensures) s (omega arith))

pub returns-then-feed-ne10 : goal.returns-then-feed-ne10
returns-then-feed-ne10 g c =
    let spelled = sym c.as_slice.ensures ∙ line_parts c.as_slice.result.now (omega arith) in
    let s = after_group Two 8 refl c.in_ok-a.ensures (after_group Three 4 refl c.in_ok-b.ensures (after_group Feed 0 refl c.in_ok-n.ensures (feed_strays _ c.if-feed-ne10.true))) in
    (refl, wrong_tail _ _ 12 spelled (rw c.if-not-begins.false at c.begins.ensures) s refl)

pub returns : goal.returns
returns g c =
    let spelled = sym c.as_slice.ensures ∙ line_parts c.as_slice.result.now (omega arith) in
    (rw c.if-not-begins.false at c.begins.ensures, line_spelled _ _ _ _ _ spelled c.in_ok-a.ensures.1 c.in_ok-b.ensures.1 c.in_ok-n.ensures.1 c.if-feed-ne10.false)
