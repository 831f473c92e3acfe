use Rattle.std.proofs.Common.{◌-◌, vec_items, sym, ap, ◌∙◌, arith}
use Rattle.std.specs.List.{slice_get}
use Rattle.schema.proofs.Nths.{item_nth}
use Rattle.pile.proofs.Shows.{past_row, below_row, own_row}
use Rattle.pile.proofs.trial.calls.OwnRowsLayer.row.Goals as goal

pub returns-then-k-ge-MOST_SHOWN : goal.returns-then-k-ge-MOST_SHOWN
returns-then-k-ge-MOST_SHOWN g c = sym (past_row 65535 _ c.args.k (omega arith))

pub returns-then-k-first : goal.returns-then-k-first
returns-then-k-first g c = c.row.ensures ∙ sym (below_row 65535 _ _ c.args.k (omega arith) (omega arith))

pub returns-else-k-first : goal.returns-else-k-first
returns-else-k-first g c =
    c.copied.ensures
    ∙ item_nth _ _ c.get.result c.get.ensures.lookup
    ∙ ap (λ xs. slice_get xs (c.args.k - c.len-first.result)) c.as_slice.ensures
    ∙ ap (λ n. slice_get (vec_items c.args.self.now.own.list) (c.args.k - n)) c.len-first.ensures
    ∙ sym (own_row 65535 _ _ c.args.k (omega arith) (omega arith))
