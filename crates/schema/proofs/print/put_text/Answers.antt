use Rattle.std.proofs.Common.{List, length, get_or, refl, ap, ◌∙◌, subst, arith}
use Rattle.std.proofs.lemmas.List.Elements.{Contains-get_or}
use Rattle.std.proofs.lemmas.List.{take_all}
use Rattle.schema.specs.declared.row.Row.{Row}
use Rattle.schema.specs.Rows.{◌∈◌}
use Rattle.schema.specs.Columns.{blank_row}
use Rattle.schema.specs.Printing.{spliced}
use Rattle.schema.specs.Texts.{row_lines}
use Rattle.schema.proofs.RowLines.{lines_more, text_begun}
use Rattle.schema.proofs.Uniques.{sound_few}
use Rattle.schema.proofs.print.put_text.Goals as goal

pub invariant_of-parts : goal.invariant_of-parts
invariant_of-parts c =
    let sheet = c.args.sheet.now in
    let rows = c.rows-rows.result.now in
    let k = c.loop-k.k in
    let few = sound_few sheet.counts.classes sheet.counts.arrows (get_or rows k blank_row) sheet.counts.few.0 sheet.counts.few.1
    (sheet.sound (get_or rows k blank_row) (subst (λ (rs : List Row). get_or rows k blank_row ∈ rs) c.rows-rows.ensures.same (Contains-get_or rows k blank_row c.loop-k-test.true))) in
    record { fits = (omega (arith, few.a_few), omega (arith, few.b_few), omega (arith, few.n_few)) }

pub loop-k-preserved : goal.loop-k-preserved
loop-k-preserved c =
    lines_more 14 c.rows-rows.result.now c.loop-k.k _ blank_row c.put_line.new.bytes _ _ (omega arith)
    c.loop-k-test.true (omega arith) c.loop-k.invariant c.put_line-in-loop-k.ensures

pub returns : goal.returns
returns c =
    let sheet = c.args.sheet.now in
    let rows = c.rows-rows.result.now in
    rw (← c.rows-rows.ensures.same)
    (text_begun sheet.counts.classes sheet.counts.arrows rows _ c.args.bytes.now _ _ refl (omega (arith, c.requires, ap length c.rows-rows.ensures.same))
    c.put_line.ensures (c.loop-k.invariant ∙ ap (λ l. spliced 14 (row_lines l) c.put_line.new.bytes) (take_all c.loop-k.k rows c.loop-k-test.false)))
