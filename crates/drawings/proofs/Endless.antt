-- What fills class 0 under F 0 0 2, D 1 0 and K 0 1 1 is endless.
use Rattle.std.proofs.Common.{◌≡◌, ℕ, zero, suc, ◌*◌, ◌≤◌, ◌⊎◌, List, [], ◌∷◌, ◌++◌, map, length, length-append, sym, refl, subst, inl, inr, arith}
use Rattle.schema.specs.Rows.{◌∈◌}
use Rattle.schema.specs.Rules.{D, F, K, row}
use Rattle.schema.specs.Worlds.{World, Individual, In, Pair, Meets, Distinct, AtLeast, FulfilsAll}
use Rattle.schema.proofs.theory.Counting.{Part, fewer}
use Rattle.drawings.specs.Drawings.{Crowd, OnlyEndless, branching}
use Rattle.drawings.proofs.Evidence.{has}
use Rattle.drawings.proofs.Membership.{here, there, nowhere, here_or_there}

-- who is in two lists joined is in one of them
either : {A : Type 0} (xs ys : List A) (x : A) → x ∈ (xs ++ ys) → (x ∈ xs) ⊎ (x ∈ ys)
either [] ys x m = inr m
either (y ∷ xs) ys x m = elim (here_or_there (xs ++ ys) m) [ inl e ↦ inl (here xs e) | inr n ↦ elim (either xs ys x n) [ inl k ↦ inl (there xs k) | inr k ↦ inr k ] ]

-- who is in a list of one is that one
only : {A : Type 0} (x y : A) → x ∈ (y ∷ []) → y ≡ x
only x y m = elim (here_or_there [] m) [ inl e ↦ e | inr n ↦ absurd (nowhere x n) ]

-- two lists of different things with none in both
joined : {A : Type 0} (xs ys : List A) → Distinct xs → Distinct ys → ((x : A) → x ∈ xs → x ∈ ys → ⊥) → Distinct (xs ++ ys)
joined [] ys d e never = e
joined (x ∷ xs) ys d e never = (
  λ m. elim (either xs ys x m) [ inl k ↦ d.0 k | inr k ↦ never x (here xs refl) k ],
  joined xs ys d.1 e (λ y m. never y (there xs m)),
)

module _ (w : World) (f : FulfilsAll w (map row branching)) where
  -- by the tail of arrow 0 there is a pair of it
  pair_of : (i j : Individual) → Meets w 0 i j → Pair w 0 i j
  pair_of i j (q, inl (e, t)) = let z : q ≡ 0 = omega arith in subst (λ x. Pair w x i j) z t
  pair_of i j (q, inr (e, t)) = absurd (omega arith)

  -- who all have a pair with an individual, it has as its head
  heads : (i : Individual) (js : List Individual) → Distinct js → ((j : Individual) → j ∈ js → Pair w 0 j i) → AtLeast w 1 (length js) i
  heads i js d h = record { who = js; many = refl; different = d; meeting = λ j m. (0, inr (refl, h j m)) }

  -- twice as many in class 0, each of a pair with one of some
  record Brood (ps : List Individual) : Type 0 where
    young : List Individual
    many : length young ≡ 2 * length ps
    different : Distinct young
    inside : (c : Individual) → c ∈ young → In w 0 c
    parent : (c : Individual) → c ∈ young → (q : Individual) × (q ∈ ps) × Pair w 0 q c

  -- two individuals have no young in common
  one_parent : (p q c : Individual) → In w 0 c → Pair w 0 p c → Pair w 0 q c → (p ≡ q → ⊥) → ⊥
  one_parent p q c i s t differ =
      f (K 0 1 1) (has branching 2 (K 0 1 1) refl) c i
      (heads c (p ∷ q ∷ []) ((λ m. differ (sym (only p q m))), (nowhere q, tt))
      (λ j m. elim (here_or_there (q ∷ []) m) [ inl e ↦ subst (λ x. Pair w 0 x c) e s | inr n ↦ subst (λ x. Pair w 0 x c) (only j q n) t ]))

  -- each in class 0 has two young there
  brood : (ps : List Individual) → Distinct ps → ((p : Individual) → p ∈ ps → In w 0 p) → Brood ps
  brood [] d h = record { young = []; many = refl; different = tt; inside = λ c m. absurd (nowhere c m); parent = λ c m. absurd (nowhere c m) }
  brood (p ∷ ps) d h =
      let r : Brood ps = brood ps d.1 (λ q m. h q (there ps m)) in
      let s : AtLeast w 0 2 p = f (F 0 0 2) (has branching 0 (F 0 0 2) refl) p (h p (here ps refl)) in
      let own : (c : Individual) → c ∈ s.who → Pair w 0 p c = λ c m. pair_of p c (s.meeting c m) in
      let in_0 : (c : Individual) → c ∈ s.who → In w 0 c =
      λ c m. f (D 1 0) (has branching 1 (D 1 0) refl) c (heads c (p ∷ []) (nowhere p, tt) (λ j n. subst (λ x. Pair w 0 x c) (only j p n) (own c m))) in
      record {
        young = s.who ++ r.young;
        many = omega (arith, length-append s.who r.young, s.many, r.many);
        different =
            joined s.who r.young s.different r.different
            (λ c m n. let t = r.parent c n in one_parent p t.0 c (in_0 c m) (own c m) t.2 (λ e. d.0 (subst (λ x. x ∈ ps) (sym e) t.1)));
        inside = λ c m. elim (either s.who r.young c m) [ inl k ↦ in_0 c k | inr k ↦ r.inside c k ];
        parent =
            λ c m.
            elim (either s.who r.young c m) [
              | inl k ↦ (p, here ps refl, own c k)
              | inr k ↦ let t = r.parent c k in (t.0, there ps t.1, t.2)
            ];
      }

  -- some in class 0, more than n
  record Many (n : ℕ) : Type 0 where
    who : List Individual
    more : suc n ≤ length who
    different : Distinct who
    inside : (i : Individual) → i ∈ who → In w 0 i

  -- one more each time
  grown : (i : Individual) → In w 0 i → (n : ℕ) → Many n
  grown i h zero =
      record {
        who = i ∷ [];
        more = omega arith;
        different = (nowhere i, tt);
        inside = λ j m. subst (In w 0) (only j i m) h;
      }
  grown i h (suc n) =
      let r : Many n = grown i h n in
      let b : Brood r.who = brood r.who r.different r.inside in
      record { who = b.young; more = omega (arith, b.many, r.more); different = b.different; inside = b.inside }

  -- so there are n for every n
  crowd : (i : Individual) → In w 0 i → (n : ℕ) → Crowd w 0 n
  crowd i h n =
      let r : Many n = grown i h n in
      let part : Part n r.who = fewer r.who n (omega (arith, r.more)) r.different in
      record { who = part.ks; many = part.long; different = part.differ; inside = λ j m. r.inside j (part.from j m) }

pub only_endless : OnlyEndless branching 0
only_endless w f (i, h) = crowd w f i h
