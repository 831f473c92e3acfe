-- The worlds of the drawings.
use Rattle.std.proofs.Common.{◌≡◌, ℕ, suc, ◌+◌, ◌*◌, ◌<◌, ◌≤◌, Bool, true, false, T, ltb, eqb, List, [], ◌∷◌, length, get_or, drop, bytes_eq, sym, refl, ap, ◌∙◌, subst, inl, inr, arith, ltb→lt, lt→ltb, eqb→eq}
use Rattle.std.proofs.lemmas.Slice.Eq.{bytes_eq-Decides}
use Rattle.schema.specs.Rows.{◌∈◌}
use Rattle.schema.specs.Rules.{F, K}
use Rattle.schema.specs.Worlds.{World, Individual, Meets, AtLeast, Fulfils}
use Rattle.schema.proofs.theory.Counting.{reaches, firsts, firsts_length, firsts_from, firsts_distinct}
use Rattle.drawings.proofs.Membership.{here}

-- everything is in every class, and every pair belongs to every arrow
abbrev pub everything : World
everything = record { within = λ a i. true; paired = λ p i j. true }

-- class 0 alone is empty
abbrev pub no_zero : World
no_zero = record { within = λ a i. ltb 0 a; paired = λ p i j. true }

-- arrow 1 alone has pairs
abbrev pub only_one : World
only_one = record { within = λ a i. true; paired = λ p i j. eqb p 1 }

-- the same, and each individual is in one class, above its length
abbrev pub by_length : World
by_length = record { within = λ a i. eqb a (suc (length i)); paired = λ p i j. eqb p 1 }

-- number k of a list of individuals
abbrev name : ℕ → Individual
name k = k ∷ []

-- an individual is one of the first n
abbrev named : ℕ → Individual → Bool
named n [] = false
named n (k ∷ []) = ltb k n
named n (k ∷ l ∷ ls) = false

-- each individual has the tail of each arrow by the first n
abbrev pub having : ℕ → World
having n = record { within = λ a i. true; paired = λ p i j. named n j }

-- an individual with a number more
abbrev child : Individual → Individual → Bool
child i [] = false
child i (k ∷ ks) = bytes_eq ks i

-- each individual has the tail of each arrow by those with a number more
abbrev pub endless : World
endless = record { within = λ a i. true; paired = λ p i j. child i j }

-- an end is had by different individuals
had : (w : World) (e : ℕ) (i : Individual) (f : ℕ → Individual) → ((j k : ℕ) → f j ≡ f k → j ≡ k) → (n : ℕ) → ((k : ℕ) → k < n → Meets w e i (f k)) → AtLeast w e n i
had w e i f differ n meets =
    record {
      who = firsts f n;
      many = firsts_length f n;
      different = firsts_distinct f differ n;
      meeting = λ j m. let r = firsts_from f n j m in subst (Meets w e i) (sym r.1.1) (meets r.0 r.1.0);
    }

-- an end that is had by n at most is not had n + 1 times
kept : (w : World) (e : ℕ) (i : Individual) (f : ℕ → Individual) (n : ℕ) → ((j : Individual) → Meets w e i j → (k : ℕ) × ((j ≡ f k) × (k < n))) → AtLeast w e (n + 1) i → ⊥
kept w e i f n meets s =
    let r = reaches f (λ k. k < n) n s.who s.different (omega (arith, s.many)) (λ j m. meets j (s.meeting j m)) in
    omega (arith, r.1.0, r.1.1)

-- an end that is had once is had by someone
someone : (w : World) (e : ℕ) (i : Individual) → AtLeast w e 1 i → (j : Individual) × Meets w e i j
someone w e i s = on s.who s.many s.meeting
  where
    on : (js : List Individual) → length js ≡ 1 → ((j : Individual) → j ∈ js → Meets w e i j) → (j : Individual) × Meets w e i j
    on [] l m = absurd (omega arith)
    on (j ∷ js) l m = (j, m j (here js refl))

-- where arrow 0 has no pair, nothing has its head
pub no_head : (i : Individual) → AtLeast by_length 1 1 i → ⊥
no_head i s = let r = someone by_length 1 i s in on r.0 r.1
  where
    on : (j : Individual) → Meets by_length 1 i j → ⊥
    on j (q, inl (e, t)) = omega arith
    on j (q, inr (e, t)) = omega (arith, eqb→eq q 1 t)

-- no individual is in two classes
pub one_class : (a b : ℕ) (i : Individual) → T (by_length.within a i) → T (by_length.within b i) → a ≡ b
one_class a b i s t = eqb→eq a _ s ∙ sym (eqb→eq b _ t)

-- none is in class 0
pub no_class : (i : Individual) → T (by_length.within 0 i) → ⊥
no_class i s = omega (arith, eqb→eq 0 (suc (length i)) s)

-- one of the first n has its number
named_is : (n : ℕ) (j : Individual) → T (named n j) → (k : ℕ) × ((j ≡ name k) × (k < n))
named_is n [] t = absurd t
named_is n (k ∷ []) t = (k, (refl, ltb→lt k n t))
named_is n (k ∷ l ∷ ls) t = absurd t

-- each tail is had n times, where there are n
pub having_some : (m a p n : ℕ) → n ≤ m → Fulfils (having m) (F a (2 * p) n)
having_some m a p n h i s = had (having m) (2 * p) i name (λ j k e. ap (λ (l : List ℕ). get_or l 0 0) e) n (λ k l. (p, inl (refl, lt→ltb k m (omega arith))))

-- and no more often than there are
pub having_few : (m a p n : ℕ) → m ≤ n → Fulfils (having m) (K a (2 * p) n)
having_few m a p n h i s = kept (having m) (2 * p) i name n on
  where
    on : (j : Individual) → Meets (having m) (2 * p) i j → (k : ℕ) × ((j ≡ name k) × (k < n))
    on j (q, inl (e, t)) = let r = named_is m j t in (r.0, (r.1.0, omega (arith, r.1.1)))
    on j (q, inr (e, t)) = absurd (omega arith)

truth : (b : Bool) → T b → b ≡ true
truth true t = refl
truth false t = absurd t

-- whatever number is put before an individual, it is a child
is_child : (k : ℕ) (i : Individual) → T (child i (k ∷ i))
is_child k i = subst T (sym ((bytes_eq-Decides i i).1 refl)) tt

-- what a child is without its first number
parent : (i j : Individual) → T (child j i) → j ≡ drop 1 i
parent [] j t = absurd t
parent (k ∷ ks) j t = sym ((bytes_eq-Decides ks j).0 (truth (bytes_eq ks j) t))

-- each has the tail of arrow 0 as often as is wanted
pub endless_some : (a n : ℕ) → Fulfils endless (F a 0 n)
endless_some a n i s = had endless 0 i (λ k. k ∷ i) (λ j k e. ap (λ (l : List ℕ). get_or l 0 0) e) n (λ k l. (0, inl (refl, is_child k i)))

-- and its head at most once
pub endless_one : (a : ℕ) → Fulfils endless (K a 1 1)
endless_one a i s = kept endless 1 i (λ k. drop 1 i) 1 on
  where
    on : (j : Individual) → Meets endless 1 i j → (k : ℕ) × ((j ≡ drop 1 i) × (k < 1))
    on j (q, inl (e, t)) = absurd (omega arith)
    on j (q, inr (e, t)) = (0, (parent i j t, omega arith))
