-- A set that a loop gathers.
use Rattle.std.proofs.Common.{◌≡◌, ℕ, ◌+◌, ◌<◌, ◌≤◌, Bool, true, false, refl, sym, subst, inl, inr, ⊎_elim, not-suc-le-zero, arith}
use Rattle.std.proofs.lemmas.Bool.{cases_lt}
use Rattle.schema.specs.Masks.{Member, Joins, Chosen, Gathers}
use Rattle.schema.specs.Verdicts.{Tells}
use Rattle.schema.proofs.Bits.{member_zero}

module _ {Says : ℕ → Bool → Type 0} where
  -- at first nothing has passed
  pub chosen_none : Chosen Says 0 0
  chosen_none =
      record {
        small = λ k m. absurd (member_zero 0 k refl m);
        yes = λ k m. absurd (member_zero 0 k refl m);
        no = λ k h. absurd (not-suc-le-zero h);
      }

  -- one more number that passes
  pub chosen_more : {n m r : ℕ} → Chosen Says n m → Says n true → Joins m n r → Chosen Says (n + 1) r
  chosen_more {n} {m} {r} p s j =
      record {
        small = λ k h. ⊎_elim (λ (o : Member m k). let l : k < n = p.small k o in omega arith) (λ (e : k ≡ n). omega arith) (j.only k h);
        yes = λ k h. ⊎_elim (λ (o : Member m k). p.yes k o) (λ (e : k ≡ n). subst (λ (i : ℕ). Says i true) (sym e) s) (j.only k h);
        no = λ k h. ⊎_elim (λ (l : k < n). ⊎_elim (λ (o : Member m k). inl (j.kept k o)) (λ (f : Says k false). inr f) (p.no k l))
            (λ (l : n ≤ k). let e : n ≡ k = omega arith in inl (subst (Member r) e j.new)) (cases_lt k n);
      }

  -- one more that does not
  pub chosen_past : {n m : ℕ} → Chosen Says n m → Says n false → Chosen Says (n + 1) m
  chosen_past {n} {m} p s =
      record {
        small = λ k h. let l : k < n = p.small k h in omega arith;
        yes = p.yes;
        no = λ k h. ⊎_elim (λ (l : k < n). p.no k l) (λ (l : n ≤ k). let e : n ≡ k = omega arith in inr (subst (λ (i : ℕ). Says i false) e s)) (cases_lt k n);
      }

  -- the numbers that pass a test that tells of a fact
  pub chosen_gathers : {Fact : ℕ → Type 0} {n m : ℕ} → Chosen Says n m → ((k : ℕ) → k < n → (b : Bool) → Says k b → Tells b (Fact k)) → Gathers Fact n m
  chosen_gathers p tells =
      record {
        small = p.small;
        only = λ k h. tells k (p.small k h) true (p.yes k h);
        all = λ k l f. ⊎_elim (λ (o : Member _ k). o) (λ s. absurd (tells k l false s f)) (p.no k l);
      }

-- a fact that says the same of the numbers below n
pub gathers_same : {Fact Other : ℕ → Type 0} {n m : ℕ} → Gathers Fact n m → ((k : ℕ) → k < n → Fact k → Other k) → ((k : ℕ) → k < n → Other k → Fact k) → Gathers Other n m
gathers_same g to from =
    record { small = g.small; only = λ k h. to k (g.small k h) (g.only k h); all = λ k l o. g.all k l (from k l o) }
