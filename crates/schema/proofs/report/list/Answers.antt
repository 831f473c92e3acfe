use Rattle.std.proofs.Common.{sym, ◌∙◌, length-take-le, take, arith}
use Rattle.std.specs.List.{between}
use Rattle.std.proofs.lemmas.List.Edits.{length-between}
use Rattle.schema.specs.Printing.{ones_from}
use Rattle.schema.proofs.Names.{ones_counted, ones_few, length_names}
use Rattle.schema.proofs.Writings.{list_begun}
use Rattle.schema.proofs.report.list.Goals as goal

pub put_names-requires : goal.put_names-requires
put_names-requires c =
    let table = c.args.table.now in
    let first = take c.from-first.result table in
    let long = length-between table c.from-first.result c.names.result (omega arith) in
    (omega (arith, long), omega (arith, long, length-take-le c.from-first.result table (omega arith), ones_few 0 first, length_names 67 (ones_from 0 first), c.put_names-end.ensures.end))

pub returns : goal.returns
returns c =
    let table = c.args.table.now in
    let n = c.from-first.result in
    let first = take n table in
    let rest = between n c.names.result table in
    let few = ones_few 0 first in
    let few-rest = ones_few 0 rest in
    rw (c.from-first.ensures, c.names.ensures) at
    (list_begun (ones_from 0 first) (ones_from 0 rest) c.args.bytes.now _ _ _ _ _ _ _
    (omega (arith, few, length-take-le n table (omega arith))) (omega (arith, few-rest, length-between table n c.names.result (omega arith))) (omega arith)
    (c.count_ones-class_count.ensures.counted ∙ sym (ones_counted 0 first)) (c.count_ones-arrow_count.ensures.counted ∙ sym (ones_counted 0 rest)) c.put_line.ensures
    c.put_names-end.ensures.written c.put_names-end.ensures.end c.put_names.ensures.written c.put_names.ensures.end)
