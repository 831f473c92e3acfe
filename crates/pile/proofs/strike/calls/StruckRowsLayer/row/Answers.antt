use Rattle.std.proofs.Common.{ℕ, List, vec_items, sym, ap, ◌∙◌, arith}
use Rattle.std.specs.List.{slice_get}
use Rattle.std.proofs.lemmas.Option.{slice_get_past}
use Rattle.pile.specs.Standing.{shifted}
use Rattle.pile.specs.Strikes.{unstruck}
use Rattle.pile.proofs.Taken.{nth_unstruck, length_unstruck}
use Rattle.pile.proofs.strike.calls.StruckRowsLayer.row.Goals as goal

pub returns-then-k-ge-MOST_SHOWN : goal.returns-then-k-ge-MOST_SHOWN
returns-then-k-ge-MOST_SHOWN g c =
    let rows = (g.S.Sheet.shows c.args.below.now).rows in
    let xs = vec_items c.args.self.now.struck.list in
    let w = g.S.Sheet.bounded c.args.below.now in
    sym (slice_get_past (unstruck 0 xs rows) c.args.k (omega (arith, length_unstruck xs rows c.args.self.now.rising, w.few_rows, w.few_places)))

pub returns : goal.returns
returns g c =
    let rows = (g.S.Sheet.shows c.args.below.now).rows in
    let xs = vec_items c.args.self.now.struck.list in
    c.row.ensures
    ∙ ap (λ (j : ℕ). slice_get rows j) (c.skip.ensures ∙ ap (λ (zs : List ℕ). shifted c.args.k zs) c.as_slice.ensures)
    ∙ sym (nth_unstruck xs rows c.args.k c.args.self.now.rising)
