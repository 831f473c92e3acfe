-- Deciding: connectives, and lists of which one has a property.
use Rattle.std.proofs.Common.{◌≡◌, ℕ, zero, suc, ◌<◌, Bool, true, false, T, ◌⊎◌, List, [], ◌∷◌, refl, subst, inl, inr, arith, sym, ⊎_elim}
use mathlib.Core.HLevel.{Discrete}
use native.Mathlib.Decide.{map_dec}
use Rattle.schema.specs.Rows.{◌∈◌}
use Rattle.schema.proofs.Members.{here, there, not_in_empty, here_or_there}
use Rattle.schema.proofs.theory.Ends.{order}

-- both of two, the second where the first holds
pub both? : {A B : Type 0} → Dec A → (A → Dec B) → Dec (A × B)
both? (no h) f = no (λ q. h q.0)
both? {A} {B} (yes a) f = on (f a)
  where
    on : Dec B → Dec (A × B)
    on (yes b) = yes (a, b)
    on (no h) = no (λ q. h q.1)

-- one of two
pub or? : {A B : Type 0} → Dec A → Dec B → Dec (A ⊎ B)
or? (yes a) q = yes (inl a)
or? (no h) (yes b) = yes (inr b)
or? (no h) (no k) = no (λ s. elim s [ inl a ↦ h a | inr b ↦ k b ])

-- the opposite
pub not? : {A : Type 0} → Dec A → Dec (A → ⊥)
not? (yes a) = no (λ f. f a)
not? (no h) = yes h

-- one where the other holds
pub if? : {A B : Type 0} → Dec A → Dec B → Dec (A → B)
if? (no h) q = yes (λ a. absurd (h a))
if? (yes a) (yes b) = yes (λ _. b)
if? (yes a) (no k) = no (λ f. k (f a))

-- where it can be decided, what is not false is true
pub stable : {A : Type 0} → Dec A → ((A → ⊥) → ⊥) → A
stable (yes a) f = a
stable (no h) f = absurd (f h)

-- a decision as a Bool
abbrev pub truth : {A : Type 0} → Dec A → Bool
truth (yes a) = true
truth (no h) = false

-- what is answered true is so
pub truth_read : {A : Type 0} (d : Dec A) → T (truth d) → A
truth_read (yes a) t = a
truth_read (no h) t = absurd t

-- what is so is answered true
pub truth_write : {A : Type 0} (d : Dec A) → A → T (truth d)
truth_write (yes a) x = tt
truth_write (no h) x = absurd (h x)

module _ {A : Type 0} where
  -- one of a list, where two of its kind can be told apart
  pub in? : Discrete A → (x : A) (xs : List A) → Dec (x ∈ xs)
  in? d x [] = no not_in_empty
  in? d x (y ∷ ys) = map_dec (λ m. ⊎_elim (here ys) (there ys) m) (here_or_there ys) (or? (d y x) (in? d x ys))

  -- some one of a list has a property
  some_of? : {Q : A → Type 0} → ((x : A) → Dec (Q x)) → (ks : List A) → Dec ((x : A) × (x ∈ ks) × Q x)
  some_of? f [] = no (λ h. not_in_empty h.1)
  some_of? {Q} f (k ∷ ks) = on (f k) (some_of? f ks)
    where
      on : Dec (Q k) → Dec ((x : A) × (x ∈ ks) × Q x) → Dec ((x : A) × (x ∈ (k ∷ ks)) × Q x)
      on (yes q) r = yes (k, here ks refl, q)
      on (no h) (yes r) = yes (r.0, there ks r.1, r.2)
      on (no h) (no g) = no (λ t. split t.0 t.2 (here_or_there ks t.1))
        where
          split : (x : A) → Q x → (k ≡ x) ⊎ (x ∈ ks) → ⊥
          split x q (inl e) = h (subst Q (sym e) q)
          split x q (inr m) = g (x, m, q)

  -- something has a property, where all that have it are listed
  pub any? : {Q : A → Type 0} → ((x : A) → Dec (Q x)) → (ks : List A) → ((x : A) → Q x → x ∈ ks) → Dec ((x : A) × Q x)
  any? {Q} f ks h = map_dec (λ t. (t.0, t.2)) (λ t. (t.0, h t.0 t.1, t.1)) (some_of? {Q = Q} f ks)

-- the numbers below n
abbrev pub below : ℕ → List ℕ
below zero = []
below (suc n) = n ∷ below n

-- each number below n is one of them
pub below_in : (n k : ℕ) → k < n → k ∈ below n
below_in zero k h = absurd (omega arith)
below_in (suc n) k h = on (order k n (omega arith)) (λ l. below_in n k l)
  where
    on : (k ≡ n) ⊎ (k < n) → (k < n → k ∈ below n) → k ∈ (n ∷ below n)
    on (inl e) f = here (below n) (sym e)
    on (inr l) f = there (below n) (f l)
