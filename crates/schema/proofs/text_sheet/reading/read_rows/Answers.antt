use Rattle.std.proofs.Common.{◌≡◌, ◌+◌, get_or, length, [], sym, ap, ◌∙◌, subst, arith, length-drop}
use Rattle.std.proofs.lemmas.List.{take_rest}
use Rattle.std.proofs.lemmas.Result.{err_from_is_err_and}
use Rattle.std.specs.Simd.{first_chunks}
use Rattle.schema.specs.Columns.{RowsRead}
use Rattle.schema.specs.Texts.{line_at}
use Rattle.schema.proofs.TextLines.{until_from, faulty_from, line_chunk, rows_more}
use Rattle.schema.proofs.text_sheet.reading.read_rows.Goals as goal

pub returns-in_err-row : goal.returns-in_err-row
returns-in_err-row c =
    let p = err_from_is_err_and c.from_residual.result c.from_residual.ensures.1 in
    let text = c.args.text.now in
    let i = c.loop-i.i in
    let line : get_or c.as_chunks.result.0.now i [] ≡ line_at text (i + 1) = ap (λ ls. get_or ls i []) (c.as_chunks.ensures.front ∙ ap (first_chunks 14 _) (take_rest text 14)) ∙ line_chunk text _ i [] (omega (arith, c.as_chunks.ensures.front_len)) in
    let far = until_from text _ _ _ i c.loop-i.rows.items c.requires.1 (omega arith) c.loop-i.invariant.0 c.loop-i.invariant.1 in
    rw (p.1, p.2) (faulty_from text _ _ _ _ i _ _ (omega arith) far line c.in_err-row.ensures)

pub loop-i-preserved : goal.loop-i-preserved
loop-i-preserved c =
    let text = c.args.text.now in
    let i = c.loop-i.i in
    let line : get_or c.as_chunks.result.0.now i [] ≡ line_at text (i + 1) = ap (λ ls. get_or ls i []) (c.as_chunks.ensures.front ∙ ap (first_chunks 14 _) (take_rest text 14)) ∙ line_chunk text _ i [] (omega (arith, c.as_chunks.ensures.front_len)) in
    let q = c.in_ok-row.ensures in
    let grown = rows_more text _ _ c.loop-i.rows.items i _ c.loop-i.invariant.0 c.loop-i.invariant.1 (sym line ∙ q.0, q.1) in
    (omega arith, subst (RowsRead text c.args.counts.classes c.args.counts.arrows) (sym c.push.ensures.items) grown)

pub returns : goal.returns
returns c =
    let all : length c.loop-i.rows.items ≡ c.requires.0 = omega (arith, c.as_chunks.ensures.front_len, length-drop 14 c.args.text.now, c.requires.1.long) in
    (rw all c.requires.1, c.loop-i.invariant.1)
