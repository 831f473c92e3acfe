use Rattle.std.proofs.Common.{◌≤◌, ◌++◌, length, refl, ap, ◌∙◌, add-zero, arith}
use Rattle.std.proofs.lemmas.List.{drop_all}
use Rattle.std.proofs.lemmas.Result.{err_from_is_err_and, MatchResult-weaker}
use Rattle.schema.specs.Texts.{group}
use Rattle.schema.proofs.Groups.{begun_none, begun_whole, group_step}
use Rattle.schema.proofs.columns.read_group.Goals as goal

pub returns-in_err-thousands : goal.returns-in_err-thousands
returns-in_err-thousands c =
    let long : 4 ≤ length c.args.bytes = omega arith in
    let p = err_from_is_err_and c.from_residual.result c.from_residual.ensures.1 in
    let (is, strays) = group_step long (omega arith) (begun_none c.args.bytes) _ _ c.in_err-thousands.ensures.value c.blank_or_digit.ensures in
    rw (p.1, p.2, is) (0, omega arith, rw add-zero refl, strays)

pub returns-in_err-hundreds : goal.returns-in_err-hundreds
returns-in_err-hundreds c =
    let long : 4 ≤ length c.args.bytes = omega arith in
    let p = err_from_is_err_and c.from_residual-in_err-hundreds.result c.from_residual-in_err-hundreds.ensures.1 in
    let one = group_step long (omega arith) (begun_none c.args.bytes) _ _ c.in_ok-thousands.ensures.value c.blank_or_digit.ensures in
    let (is, strays) = group_step long (omega arith) one _ _ c.in_err-hundreds.ensures.value c.blank_or_digit-2.ensures in
    rw (p.1, p.2, is) (1, omega arith, refl, strays)

pub returns-in_err-tens : goal.returns-in_err-tens
returns-in_err-tens c =
    let long : 4 ≤ length c.args.bytes = omega arith in
    let p = err_from_is_err_and c.from_residual-in_err-tens.result c.from_residual-in_err-tens.ensures.1 in
    let one = group_step long (omega arith) (begun_none c.args.bytes) _ _ c.in_ok-thousands.ensures.value c.blank_or_digit.ensures in
    let two = group_step long (omega arith) one _ _ c.in_ok-hundreds.ensures.value c.blank_or_digit-2.ensures in
    let (is, strays) = group_step long (omega arith) two _ _ c.in_err-tens.ensures.value c.blank_or_digit-3.ensures in
    rw (p.1, p.2, is) (2, omega arith, refl, strays)

pub returns : goal.returns
returns c =
    let long : 4 ≤ length c.args.bytes = omega arith in
    let none = drop_all 4 c.args.bytes (omega arith) in
    let one = group_step long (omega arith) (begun_none c.args.bytes) _ _ c.in_ok-thousands.ensures.value c.blank_or_digit.ensures in
    let two = group_step long (omega arith) one _ _ c.in_ok-hundreds.ensures.value c.blank_or_digit-2.ensures in
    let three = group_step long (omega arith) two _ _ c.in_ok-tens.ensures.value c.blank_or_digit-3.ensures in
    MatchResult-weaker c.ok_or-4.result (group_step long (omega arith) three _ _ c.ok_or-4.ensures.value c.digit.ensures)
    (λ v begun. let w = begun_whole c.args.bytes v begun in (w.0, w.1 ∙ ap (λ l. group v ++ l) none))
    (λ e s. (3, omega arith, s.0, s.1))
