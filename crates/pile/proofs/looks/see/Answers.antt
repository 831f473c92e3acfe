use Rattle.std.proofs.Common.{ℕ, List, length, ap, arith}
use Rattle.std.proofs.lemmas.List.{with_items_is}
use Rattle.pile.proofs.Looked.{counts_seen, capacity_seen, len_seen, row_seen, verdict_held, verdict_seen, question_seen}
use Rattle.pile.proofs.looks.see.Goals as goal

pub returns-in-Counts : goal.returns-in-Counts
returns-in-Counts g c = counts_seen c.in-Counts.is c.classes.ensures c.arrows.ensures

pub returns-in-Capacity : goal.returns-in-Capacity
returns-in-Capacity g c = capacity_seen c.in-Capacity.is c.capacity.ensures

pub returns-in-Len : goal.returns-in-Len
returns-in-Len g c = len_seen c.in-Len.is c.len.ensures

pub returns-in-RowAt : goal.returns-in-RowAt
returns-in-RowAt g c = row_seen c.in-RowAt.is c.row.ensures

pub returns-in-Verdict : goal.returns-in-Verdict
returns-in-Verdict g c =
    let left = with_items_is c.in-Verdict.table c.verdict-ones.new.table (omega (arith, c.verdict-ones.auto.table, c.as_mut_slice.ensures.len)) in
    let lent = c.as_mut_slice.ensures.value in
    verdict_seen c.in-Verdict.is
    (verdict_held (g.S.Sheet.shows c.args.sheet.now) _ _ c.verdict-ones.new.table _ c.verdict-ones.result lent left c.verdict-ones.ensures)
    (omega (arith, ap (λ (xs : List ℕ). length xs) left, ap (λ (xs : List ℕ). length xs) lent, c.verdict-ones.auto.table))

pub returns-in-Question : goal.returns-in-Question
returns-in-Question g c = question_seen c.in-Question.is c.question.ensures
