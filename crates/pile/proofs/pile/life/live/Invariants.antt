use Rattle.std.proofs.Common.{◌≡◌, ◌+◌, ◌≤◌, ◌∷◌, ◌++◌, vec_items, vec_len, vec_capacity}
use Rattle.std.specs.Vec.Iter.{into_iter_items, into_iter_len}
use Rattle.pile.specs.Lives.{Life}
use Rattle.pile.proofs.pile.life.live.Given as goal

-- what was done so far is a life, there is room for the answers to come, and each request is done or to come
abbrev pub invariant-loop-request : goal.invariant-loop-request
invariant-loop-request g l =
    Life g.row.P.Denot g.P.Part.plain (λ p. g.P.Sheet.shows p ∷ g.P.Part.under p) l.initial.pile l.yielded (vec_items l.answers) l.pile
    × (vec_len l.answers + into_iter_len l.request-iterator ≤ vec_capacity l.answers)
    × (l.yielded ++ into_iter_items l.request-iterator ≡ into_iter_items l.initial.request-iterator)
