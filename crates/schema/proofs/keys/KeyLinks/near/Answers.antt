use Rattle.std.proofs.Common.{◌≡◌, ◌<◌, ◌≤◌, ◌-◌, refl, sym, subst, ⊎_elim, arith}
use Rattle.std.proofs.lemmas.Bool.{cases_lt, cases_eq}
use Rattle.search.specs.Leads.{Leads, Joined, stay}
use Rattle.search.proofs.Trails.{leads_one}
use Rattle.schema.specs.Keys.{Forward, Holds}
use Rattle.schema.proofs.Bits.{member_zero}
use Rattle.schema.proofs.keys.KeyLinks.near.Goals as goal

pub loop-to-init : goal.loop-to-init
loop-to-init c =
    let w = c.args.self.now in
    let k = c.args.key in
    record {
      narrow = c.insert.ensures.narrow (λ x. (λ m. absurd (member_zero 0 x refl m), λ m. absurd (member_zero 0 x refl m)));
      own = c.insert.ensures.new;
      all = λ j l s. absurd (omega arith);
      only = λ j h. ⊎_elim
          (λ o. absurd (⊎_elim (λ x. member_zero 0 j refl x.1) (λ x. member_zero 0 (j - 64) refl x.1) o))
          (λ (e : j ≡ k). subst (Leads (Joined 128 (Forward w)) k) (sym e) stay)
          (c.insert.ensures.only j h);
      within = omega arith;
    }

pub loop-to-preserved : goal.loop-to-preserved
loop-to-preserved c =
    let w = c.args.self.now in
    let k = c.args.key in
    let i = c.loop-to.invariant in
    let a = c.insert-in-Some.ensures in
    let to = c.in-Some.to in
    let step = c.in-Some.ensures in
    record {
      narrow = a.narrow i.narrow;
      own = a.kept k i.own;
      all = λ j l s. ⊎_elim
          (λ (e : j ≡ to). subst (Holds c.insert-in-Some.new.self) (sym e) a.new)
          (λ (n : j ≡ to → ⊥). ⊎_elim
          (λ (m : j < c.loop-to.at). a.kept j (i.all j m s))
          (λ (m : c.loop-to.at ≤ j). absurd (step.3 j m (omega arith) s.2)) (cases_lt j c.loop-to.at))
          (cases_eq j to);
      only = λ j h. ⊎_elim (λ o. i.only j o) (λ (e : j ≡ to). subst (Leads (Joined 128 (Forward w)) k) (sym e) (leads_one (c.requires, step.1, step.2))) (a.only j h);
      within = omega (arith, step.1);
    }
