use Rattle.std.proofs.Common.{◌≡◌, ℕ, ◌<◌, ◌≤◌, ◌⊎◌, length, true, Result, Ok, Err, MatchResult, refl, ap, ◌∙◌, ⊎_elim, arith}
use Rattle.std.specs.Prelude.{insert}
use Rattle.schema.specs.declared.reserved.Reserved.{Reserved}
use Rattle.pile.specs.Standing.{rises}
use Rattle.pile.specs.Strikes.{struck_rows}
use Rattle.pile.proofs.Rising.{sought, missed, rises_adds}
use Rattle.pile.proofs.strike.calls.Strike+S.strike.Goals as goal

-- the same list has the same items
same : {n : ℕ} {v w : Reserved ℕ n} → v ≡ w → v.list.items ≡ w.list.items
same e = ap (λ v. v.list.items) e

-- the numbers rise, whether one more was put in or not
rise : {n : ℕ} (r : Result Unit ℕ) (old new : Reserved ℕ n) (at k : ℕ) → rises old.list.items ≡ true → rises (insert old.list.items at k) ≡ true
    → MatchResult r (λ _. (at ≤ length old.list.items) × (length old.list.items < n) × (new.list.items ≡ insert old.list.items at k))
    (λ y. ((length old.list.items < at) ⊎ (n ≤ length old.list.items)) × (y ≡ k) × (new ≡ old)) → rises new.list.items ≡ true
rise (Ok u) old new at k before after h = ap rises h.2 ∙ after
rise (Err y) old new at k before after h = ap rises (same h.2) ∙ before

pub returns-in_default-clause-struck : goal.returns-in_default-clause-struck
returns-in_default-clause-struck g c =
    (omega arith, (sought c.args.k c.in_default.field-0 (struck_rows c.args.self.now) _ c.args.self.now.layer.rising c.as_slice.ensures c.in_default.ensures.position).1, refl)

pub invariant_of-self : goal.invariant_of-self
invariant_of-self g c =
    let xs = struck_rows c.args.self.now in
    let rising = c.args.self.now.layer.rising in
    let gone = missed c.args.k c.in-Err.at xs _ rising c.as_slice.ensures c.in-Err.ensures.position in
    record { rising = rise c.insert.result c.args.self.now.layer.struck c.insert.new.self c.in-Err.at c.args.k rising (ap rises gone.2 ∙ rises_adds c.args.k xs rising gone.1) c.insert.ensures }

pub returns-in_default-insert-clause-struck : goal.returns-in_default-insert-clause-struck
returns-in_default-insert-clause-struck g c =
    let xs = struck_rows c.args.self.now in
    let gone = missed c.args.k c.in-Err.at xs _ c.args.self.now.layer.rising c.as_slice.ensures c.in-Err.ensures.position in
    let full = c.in_default-insert.ensures in
    (omega arith, gone.1, ⊎_elim (λ h. omega (arith, h, c.in-Err.ensures.bound, ap length c.as_slice.ensures)) (λ h. h) full.0, same full.2)

pub returns-clause-struck : goal.returns-clause-struck
returns-clause-struck g c =
    let gone = missed c.args.k c.in-Err.at (struck_rows c.args.self.now) _ c.args.self.now.layer.rising c.as_slice.ensures c.in-Err.ensures.position in
    (omega arith, gone.1, c.in-Ok.ensures.1, c.in-Ok.ensures.2 ∙ gone.2)
