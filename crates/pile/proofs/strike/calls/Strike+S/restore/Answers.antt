use Rattle.std.proofs.Common.{◌≡◌, ℕ, ◌<◌, ◌≤◌, length, Option, Some, None, MatchOption, refl, ap, ◌∙◌, arith}
use Rattle.std.specs.Prelude.{remove, slice_index_or}
use Rattle.schema.specs.declared.reserved.Reserved.{Reserved}
use Rattle.pile.specs.Standing.{rises}
use Rattle.pile.specs.Strikes.{struck_rows}
use Rattle.pile.proofs.Rising.{sought, missed, rises_drops}
use Rattle.pile.proofs.strike.calls.Strike+S.restore.Goals as goal

-- what is left where there is an item to take out
left : {n : ℕ} (r : Option ℕ) (old new : Reserved ℕ n) (at : ℕ) → at < length old.list.items
    → MatchOption r ((length old.list.items ≤ at) × (new ≡ old)) (λ x. (at < length old.list.items) × (x ≡ slice_index_or old.list.items at x) × (new.list.items ≡ remove old.list.items at))
    → new.list.items ≡ remove old.list.items at
left None old new at l h = absurd (let z : ⊥ = omega (arith, h.0) in z)
left (Some x) old new at l h = h.2

pub returns-in_default-clause-restored : goal.returns-in_default-clause-restored
returns-in_default-clause-restored g c =
    ((missed c.args.k c.in_default.field-0 (struck_rows c.args.self.now) _ c.args.self.now.layer.rising c.as_slice.ensures c.in_default.ensures.position).1, refl)

pub invariant_of-self : goal.invariant_of-self
invariant_of-self g c =
    let xs = struck_rows c.args.self.now in
    let there = sought c.args.k c.in-Ok.at xs _ c.args.self.now.layer.rising c.as_slice.ensures c.in-Ok.ensures.position in
    let rest = left c.remove.result c.args.self.now.layer.struck c.remove.new.self c.in-Ok.at (omega (arith, c.in-Ok.ensures.bound, ap length c.as_slice.ensures)) c.remove.ensures in
    record { rising = ap rises (rest ∙ there.2) ∙ rises_drops c.args.k xs c.args.self.now.layer.rising }

pub returns-clause-restored : goal.returns-clause-restored
returns-clause-restored g c =
    let xs = struck_rows c.args.self.now in
    let there = sought c.args.k c.in-Ok.at xs _ c.args.self.now.layer.rising c.as_slice.ensures c.in-Ok.ensures.position in
    (there.1, left c.remove.result c.args.self.now.layer.struck c.remove.new.self c.in-Ok.at (omega (arith, c.in-Ok.ensures.bound, ap length c.as_slice.ensures)) c.remove.ensures ∙ there.2)
