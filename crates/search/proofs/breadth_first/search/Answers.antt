-- A start beyond the last point marks none, and the marks stand at the front of the table.
use Rattle.std.proofs.Common.{◌≡◌, ℕ, length, replicate, ap, sym, ◌∙◌, arith, length-take}
use Rattle.std.proofs.lemmas.Slice.{drop-append-drop}
use Rattle.search.proofs.Following.{none_marked, marked_front}
use Rattle.search.proofs.breadth_first.search.Goals as goal

pub returns-else-start-n : goal.returns-else-start-n
returns-else-start-n g c =
    let w = c.args.web.now in
    let s : length c.fill.new.self ≡ g.W.Web.size w = omega (arith, length-take c.points-n.result c.args.table.now) in
    let z : c.fill.new.self ≡ replicate (length c.fill.new.self) 0 = c.fill.ensures.after (λ y e. e) ∙ ap (λ (k : ℕ). replicate k 0) (sym c.fill.ensures.len) in (
      omega arith,
      marked_front (g.W.Web.size w) (g.W.Web.link w) c.args.start c.fill.new.self _ s (none_marked (g.W.Web.size w) (g.W.Web.link w) c.args.start c.fill.new.self s (omega arith) z),
      drop-append-drop c.points-n.result c.args.table.now c.fill.new.self (g.W.Web.size w) (omega arith) (omega arith),
    )
