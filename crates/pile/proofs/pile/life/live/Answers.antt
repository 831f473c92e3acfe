use Rattle.std.proofs.Common.{◌≡◌, List, [], ◌∷◌, ◌++◌, vec_items, sym, refl, ap, ◌∙◌, subst, append_assoc, arith, rules}
use Rattle.std.specs.Vec.Iter.{into_iter_items}
use Rattle.std.proofs.lemmas.List.{append-nil, nil_from_length}
use Rattle.pile.specs.declared.request.Answer.{Answer}
use Rattle.pile.specs.declared.request.Request.{Request}
use Rattle.pile.specs.Lives.{Life, begun}
use Rattle.pile.proofs.Steps.{life_more, life_whole}
use Rattle.pile.proofs.Truly.{moment}
use Rattle.pile.proofs.pile.life.live.Goals as goal

pub loop-request-init : goal.loop-request-init
loop-request-init g c =
    let p = c.in_ok-pile.pile in
    let new = moment (g.P.Part.plain p) _ (g.met.P.Part.agrees p) in
    let F = λ (xs : List Answer). Life g.row.P.Denot g.P.Part.plain (λ q. g.P.Sheet.shows q ∷ g.P.Part.under q) p [] xs p in
    (subst F (sym c.in_ok-answers.ensures.items) (begun new), search rules, refl)

pub loop-request-preserved : goal.loop-request-preserved
loop-request-preserved g c =
    let q = c.call.new.self in
    let next = moment (g.P.Part.plain q) _ (g.met.P.Part.agrees q) in
    let F = λ (xs : List Answer). Life g.row.P.Denot g.P.Part.plain (λ p. g.P.Sheet.shows p ∷ g.P.Part.under p) c.in_ok-pile.pile (c.loop-request.yielded ++ c.in-Some.request ∷ []) xs q in (
      subst F (sym c.push_reserved.ensures.items) (life_more {c = c.in-Some.request} c.loop-request.invariant.0 c.call.ensures next),
      omega (arith, c.loop-request.invariant.1, c.in-Some.ensures),
      append_assoc c.loop-request.yielded _ _ ∙ ap (λ (xs : List Request). c.loop-request.yielded ++ xs) (sym c.in-Some.ensures.steps.0) ∙ c.loop-request.invariant.2,
    )

pub returns : goal.returns
returns g c =
    let rest = c.loop-request.request-iterator in
    let none : into_iter_items rest ≡ [] = nil_from_length _ (omega (arith, rest.rest.ok.0, c.in-None.ensures.steps.0)) in
    let all : c.loop-request.yielded ≡ vec_items c.args.requests = sym (append-nil _) ∙ ap (λ (xs : List Request). c.loop-request.yielded ++ xs) (sym none) ∙ c.loop-request.invariant.2 ∙ c.into_iter-request-iterator.ensures.into_iter_gives.0 in
    life_whole c.in_ok-pile.ensures all c.loop-request.invariant.0
