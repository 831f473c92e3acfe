use Rattle.std.proofs.Common.{◌≡◌, ℕ, ◌+◌, ◌*◌, ◌<◌, get_or, drop}
use Rattle.schema.proofs.verdict.write_names.Given as goal

abbrev pub invariant-loop-arrow : goal.invariant-loop-arrow
invariant-loop-arrow l =
    ((k : ℕ) → k < l.fn.counts.classes → get_or l.table k 0 ≡ get_or l.empty k 0)
    × ((k : ℕ) → k < l.arrow → get_or l.table (l.classes + k) 0 ≡ get_or l.empty (64 + 2 * k) 0)
    × (drop (l.classes + l.fn.counts.arrows) l.table ≡ drop (l.classes + l.fn.counts.arrows) l.fn.table)
