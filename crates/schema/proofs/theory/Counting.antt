-- Counting different things by numbers.
use Rattle.std.proofs.Common.{◌≡◌, ℕ, zero, suc, ◌<◌, ◌≤◌, ◌≢◌, ◌⊎◌, List, [], ◌∷◌, length, sym, refl, ap, ◌∙◌, subst, inl, inr, le_of_suc-le-suc, arith}
use native.Mathlib.Decide.{dec_le, ℕ_discrete}
use Rattle.schema.specs.Rows.{◌∈◌}
use Rattle.schema.specs.Worlds.{Distinct}
use Rattle.schema.proofs.Members.{here, there, not_in_empty, here_or_there}
use Rattle.schema.proofs.theory.Deciding.{in?}

-- k of a list of different things
pub record Part {A : Type 0} (k : ℕ) (js : List A) : Type 0 where
  pub ks : List A
  pub long : length ks ≡ k
  pub differ : Distinct ks
  pub from : (j : A) → j ∈ ks → j ∈ js

-- the first k
pub fewer : {A : Type 0} (js : List A) (k : ℕ) → k ≤ length js → Distinct js → Part k js
fewer js zero h d = record { ks = []; long = refl; differ = tt; from = λ j m. absurd (not_in_empty m) }
fewer [] (suc k) h d = absurd (omega arith)
fewer {A} (x ∷ xs) (suc k) h d =
    let r : Part k xs = fewer xs k (omega arith) d.1 in
    record {
      ks = x ∷ r.ks;
      long = ap suc r.long;
      differ = (λ m. d.0 (r.from x m), r.differ);
      from = λ j m. elim (here_or_there r.ks m) [ inl e ↦ here xs e | inr n ↦ there xs (r.from j n) ];
    }

-- a list without one of its members
record Rest (m : ℕ) (ks : List ℕ) : Type 0 where
  rest : List ℕ
  long : length ks ≡ suc (length rest)
  differ : Distinct rest
  from : (k : ℕ) → k ∈ rest → k ∈ ks
  other : (k : ℕ) → k ∈ rest → k ≢ m

-- one member taken out
without : (m : ℕ) (ks : List ℕ) → m ∈ ks → Distinct ks → Rest m ks
without m [] h d = absurd (not_in_empty h)
without m (k ∷ ks) (zero, l, e) d =
    record {
      rest = ks;
      long = refl;
      differ = d.1;
      from = λ x h. there ks h;
      other = λ x h q. d.0 (subst (λ y. y ∈ ks) (q ∙ sym e) h);
    }
without m (k ∷ ks) (suc n, l, e) d =
    let h : m ∈ ks = (n, le_of_suc-le-suc l, e) in
    let r : Rest m ks = without m ks h d.1 in
    record {
      rest = k ∷ r.rest;
      long = ap suc r.long;
      differ = (λ x. d.0 (r.from k x), r.differ);
      from = λ x y. elim (here_or_there r.rest y) [ inl e ↦ here ks e | inr z ↦ there ks (r.from x z) ];
      other = λ x y. elim (here_or_there r.rest y) [ inl e ↦ λ q. d.0 (subst (λ v. v ∈ ks) (sym (e ∙ q)) h) | inr z ↦ r.other x z ];
    }

-- different numbers below n are at most n
short : (n : ℕ) (ks : List ℕ) → Distinct ks → ((k : ℕ) → k ∈ ks → k < n) → length ks ≤ n
short zero [] d h = omega arith
short zero (k ∷ ks) d h = absurd (omega (arith, h k (here ks refl)))
short (suc n) ks d h = on (in? ℕ_discrete n ks) (short n)
  where
    on : Dec (n ∈ ks) → ((js : List ℕ) → Distinct js → ((k : ℕ) → k ∈ js → k < n) → length js ≤ n) → length ks ≤ suc n
    on (yes m) f =
        let r : Rest n ks = without n ks m d in
        omega (arith, r.long, f r.rest r.differ (λ k x. omega (arith, h k (r.from k x), r.other k x)))
    on (no z) f = omega (arith, f ks d (λ k x. let ne : k ≢ n = λ e. z (subst (λ y. y ∈ ks) e x) in omega (arith, h k x)))

-- either one of a list is not below n, or all are below n
big : (n : ℕ) (ks : List ℕ) → ((k : ℕ) × ((k ∈ ks) × (n ≤ k))) ⊎ ((k : ℕ) → k ∈ ks → k < n)
big n [] = inr (λ k h. absurd (not_in_empty h))
big n (k ∷ ks) = on (dec_le n k) (big n ks)
  where
    on : Dec (n ≤ k) → ((x : ℕ) × ((x ∈ ks) × (n ≤ x))) ⊎ ((x : ℕ) → x ∈ ks → x < n)
        → ((x : ℕ) × ((x ∈ (k ∷ ks)) × (n ≤ x))) ⊎ ((x : ℕ) → x ∈ (k ∷ ks) → x < n)
    on (yes l) r = inl (k, (here ks refl, l))
    on (no h) (inl (x, (m, l))) = inl (x, (there ks m, l))
    on (no h) (inr f) = inr (λ x m. elim (here_or_there ks m) [ inl e ↦ omega arith | inr z ↦ f x z ])

-- different things, each the k-th of a sequence for some k of which Q holds
record Numbers {A : Type 0} (f : ℕ → A) (Q : ℕ → Type 0) (js : List A) : Type 0 where
  ks : List ℕ
  long : length ks ≡ length js
  differ : Distinct ks
  from : (k : ℕ) → k ∈ ks → (f k ∈ js) × Q k

-- different things so numbered have different numbers
numbers : {A : Type 0} (f : ℕ → A) (Q : ℕ → Type 0) (js : List A) → Distinct js
    → ((j : A) → j ∈ js → (k : ℕ) × ((j ≡ f k) × Q k)) → Numbers f Q js
numbers f Q [] d h = record { ks = []; long = refl; differ = tt; from = λ k m. absurd (not_in_empty m) }
numbers {A} f Q (j ∷ js) d h =
    let r : Numbers f Q js = numbers f Q js d.1 (λ x m. h x (there js m)) in
    let q : (k : ℕ) × ((j ≡ f k) × Q k) = h j (here js refl) in
    record {
      ks = q.0 ∷ r.ks;
      long = ap suc r.long;
      differ = (λ m. d.0 (subst (λ y. y ∈ js) (sym q.1.0) (r.from q.0 m).0), r.differ);
      from =
          λ k m.
          elim (here_or_there r.ks m) [
            | inl e ↦ (here js (q.1.0 ∙ ap f e), subst Q e q.1.1)
            | inr z ↦ (there js (r.from k z).0, (r.from k z).1)
          ];
    }

-- among n + 1 different things one has a number that is not below n
pub reaches : {A : Type 0} (f : ℕ → A) (Q : ℕ → Type 0) (n : ℕ) (js : List A) → Distinct js → length js ≡ suc n
    → ((j : A) → j ∈ js → (k : ℕ) × ((j ≡ f k) × Q k)) → (k : ℕ) × ((n ≤ k) × Q k)
reaches {A} f Q n js d l h = on (big n r.ks)
  where
    r : Numbers f Q js
    r = numbers f Q js d h

    on : ((k : ℕ) × ((k ∈ r.ks) × (n ≤ k))) ⊎ ((k : ℕ) → k ∈ r.ks → k < n) → (k : ℕ) × ((n ≤ k) × Q k)
    on (inl (k, (m, o))) = (k, (o, (r.from k m).1))
    on (inr g) = absurd (omega (arith, short n r.ks r.differ g, r.long))

-- the first n of a sequence
abbrev pub firsts : {A : Type 0} → (ℕ → A) → ℕ → List A
firsts f zero = []
firsts f (suc n) = f n ∷ firsts f n

-- they are n
pub firsts_length : {A : Type 0} (f : ℕ → A) (n : ℕ) → length (firsts f n) ≡ n
firsts_length f zero = refl
firsts_length f (suc n) = ap suc (firsts_length f n)

-- each has a number below n
pub firsts_from : {A : Type 0} (f : ℕ → A) (n : ℕ) (j : A) → j ∈ firsts f n → (k : ℕ) × ((k < n) × (j ≡ f k))
firsts_from f zero j h = absurd (not_in_empty h)
firsts_from f (suc n) j (zero, l, e) = (n, (omega arith, sym e))
firsts_from f (suc n) j (suc k, l, e) =
    let h : j ∈ firsts f n = (k, le_of_suc-le-suc l, e) in
    let r = firsts_from f n j h in (r.0, (omega (arith, r.1.0), r.1.1))

-- they differ, where no two of the sequence are the same
pub firsts_distinct : {A : Type 0} (f : ℕ → A) → ((j k : ℕ) → f j ≡ f k → j ≡ k) → (n : ℕ) → Distinct (firsts f n)
firsts_distinct f inj zero = tt
firsts_distinct f inj (suc n) =
    (λ h. let r = firsts_from f n (f n) h in omega (arith, r.1.0, inj n r.0 r.1.1), firsts_distinct f inj n)
