use Rattle.std.proofs.Common.{◌+◌, get_or, arith}
use Rattle.schema.proofs.Doom.{class_bit, arrow_bit}
use Rattle.schema.proofs.Schemas.{schema_passes}
use Rattle.schema.proofs.Verity.{listed_all}
use Rattle.schema.proofs.verdict.judge.Goals as goal

pub returns : goal.returns
returns c =
    let s = c.args.schema.now in
    let n = s.sheet.counts in
    let rows = s.sheet.rows.items in
    let e = c.empty_keys-empty.result in
    let w = c.write_names in
    listed_all n.classes n.arrows rows c.args.table.now c.count_ones.result w.new.table (schema_passes s) (omega arith)
    (λ k h. class_bit rows e (get_or w.new.table k 0) k (omega (arith, n.few)) (w.ensures.classes k h) c.empty_keys-empty.ensures)
    (λ k h. arrow_bit rows e (get_or w.new.table (n.classes + k) 0) k (omega (arith, n.few)) (w.ensures.arrows k h) c.empty_keys-empty.ensures)
    w.ensures.later (rw c.names-names.ensures at c.count_ones.ensures.counted)
