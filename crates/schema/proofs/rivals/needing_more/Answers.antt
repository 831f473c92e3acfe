use Rattle.std.proofs.Common.{◌≡◌, ℕ, ◌<◌, Bool, List, [], nat_lt, get_or, sym, ap, subst, rules, arith}
use Rattle.std.proofs.lemmas.List.{get_or-map}
use Rattle.schema.specs.declared.descriptions.class.Class.{Class}
use Rattle.schema.specs.Points.{count, counts_of}
use Rattle.schema.specs.Verdicts.{Tells}
use Rattle.schema.proofs.Gather.{chosen_gathers}
use Rattle.schema.proofs.Signs.{tells_lt}
use Rattle.schema.proofs.rivals.needing_more.Goals as goal

pub returns : goal.returns
returns c =
    let classes = c.args.links.now.classes in
    let cap = c.args.cap in
    let end = c.args.end in
    chosen_gathers c.of_those.ensures (λ k l b s.
    let e : (d : Class) × (b ≡ nat_lt cap (get_or (get_or classes k d).counts end 0)) = search rules in
    let is = ap (λ (l : List ℕ). get_or l end 0) (get_or-map (λ (x : Class). x.counts) classes k e.0 [] (omega arith)) in
    subst (λ (t : Bool). Tells t (cap < count (counts_of classes) k end)) (sym e.1)
    (subst (λ (n : ℕ). Tells (nat_lt cap (get_or (get_or classes k e.0).counts end 0)) (cap < n)) (sym is) (tells_lt cap (get_or (get_or classes k e.0).counts end 0))))
