use Rattle.std.proofs.Common.{ltb, vec_items, arith, rules}
use Rattle.std.proofs.lemmas.List.Sorted.{IsPartitionPoint-from_clause}
use Rattle.pile.proofs.Taken.{length_left}
use Rattle.pile.proofs.strike.calls.StruckRowsLayer.len.Goals as goal

pub overflow_sub-result : goal.overflow_sub-result
overflow_sub-result g c =
    let xs = vec_items c.args.self.now.struck.list in
    let ys = c.as_slice-struck.result.now in
    let n = c.len-below.result in
    let left =
    length_left xs ys (g.S.Sheet.shows c.args.below.now).rows n _ c.args.self.now.rising c.as_slice-struck.ensures c.len-below.ensures c.partition_point.ensures.bound
    (λ w. IsPartitionPoint-from_clause (λ y. ltb y n) ys _ c.partition_point.ensures.partitioned w (λ a r f k. search rules)) in
    omega (arith, left)

pub returns : goal.returns
returns g c =
    let xs = vec_items c.args.self.now.struck.list in
    let ys = c.as_slice-struck.result.now in
    let n = c.len-below.result in
    let left =
    length_left xs ys (g.S.Sheet.shows c.args.below.now).rows n _ c.args.self.now.rising c.as_slice-struck.ensures c.len-below.ensures c.partition_point.ensures.bound
    (λ w. IsPartitionPoint-from_clause (λ y. ltb y n) ys _ c.partition_point.ensures.partitioned w (λ a r f k. search rules)) in
    omega (arith, left)
