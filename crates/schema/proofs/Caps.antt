-- Arrows that another arrow leads to, and the caps on them.
use Rattle.std.proofs.Common.{◌≡◌, ℕ, ◌≤◌, Bool, true, false, List, [], ◌∷◌, ◌++◌, Some, None, Option, sym, refl, ap, ◌∙◌, subst, ⊎_elim, arith}
use Rattle.std.proofs.lemmas.List.Elements.{Contains-append_left, Contains-push, Contains-push_cases}
use Rattle.std.proofs.lemmas.Bool.{cases_eq}
use Rattle.search.specs.Leads.{stay, go}
use Rattle.search.proofs.Trails.{leads_one}
use Rattle.schema.specs.declared.row.Row.{Row}
use Rattle.schema.specs.declared.letters.Kind.{Kind}
use Rattle.schema.specs.declared.letters.Kind.TheVariants.{Class, Arrow, End}
use Rattle.schema.specs.declared.letters.Shape.{Shape}
use Rattle.schema.specs.Masks.{Member, Joins}
use Rattle.schema.specs.Rows.{◌∈◌, limit, shape_of, Fits, AllSound}
use Rattle.schema.specs.Rules.{P, row, Has, arrow}
use Rattle.schema.specs.Webs.{Alone}
use Rattle.schema.specs.Verdicts.{CapsShared, Tells}
use Rattle.schema.specs.Checks.{Shared}
use Rattle.schema.proofs.Members.{not_in_empty}
use Rattle.schema.proofs.Building.{row_is}
use Rattle.schema.proofs.Bits.{member_zero}

-- a limit grows with the counts
limit_more : (c p : ℕ) (k : Kind) → c ≤ 64 → p ≤ 32 → limit c p k ≤ limit 64 32 k
limit_more c p Class h l = h
limit_more c p Arrow h l = l
limit_more c p End h l = omega arith

fits_more : (c p : ℕ) (r : Row) (o : Option Shape) → c ≤ 64 → p ≤ 32 → Fits c p r o → Fits 64 32 r o
fits_more c p r None h l f = f
fits_more c p r (Some s) h l f =
    (omega (arith, f.0, limit_more c p s.a h l), omega (arith, f.1, limit_more c p s.b h l), f.2, f.3)

-- what is sound for smaller counts is sound for the limits
pub sound_more : (c p : ℕ) (rows : List Row) → c ≤ 64 → p ≤ 32 → AllSound c p rows → AllSound 64 32 rows
sound_more c p rows h l s r m = fits_more c p r (shape_of r.letter) h l (s r m)

-- where no row puts another arrow in it, no arrow leads to it
pub alone : (rows : List Row) (q : ℕ) → ((p : ℕ) → Has rows (P p q) → p ≡ q) → Alone rows q
alone rows q f x stay = refl
alone rows q f x (go {y = y} l w) =
    let e : y ≡ q = alone rows q f y w in
    f x (subst (λ (z : ℕ). Has rows (P x z)) e l)

module _ (rows : List Row) (set : ℕ) (told : Shared rows set) where
  pub member_shared : (q : ℕ) → Member set q → Alone rows q → ⊥
  member_shared q m a = let t = told.only q m in t.2 (a t.0 (leads_one t.1))

  pub other_alone : (q : ℕ) → (Member set q → ⊥) → Alone rows q
  other_alone q f = alone rows q (λ p h. ⊎_elim (λ (e : p ≡ q). e) (λ (e : p ≡ q → ⊥). absurd (f (told.all p q h e))) (cases_eq p q))

  -- a test of membership tells whether an arrow is shared
  pub member_tells : (b : Bool) (q : ℕ) → Tells b (Member set q) → Tells b (Alone rows q → ⊥)
  member_tells true q m = member_shared q m
  member_tells false q f = λ s. s (other_alone q f)

  -- a K row on such an arrow
  pub caps : (r : Row) → r.letter ≡ 75 → Member set (arrow r.b) → CapsShared rows r
  caps r e m = (r.a, r.b, r.n, sym (row_is r 75 r.a r.b r.n e refl refl refl), member_shared (arrow r.b) m)

  pub no_caps : (r : Row) → (Member set (arrow r.b) → ⊥) → CapsShared rows r → ⊥
  no_caps r f (a, e, n, q, s) = s (subst (λ (x : ℕ). Alone rows (arrow x)) (ap (λ (t : Row). t.b) q) (other_alone (arrow r.b) f))

  pub no_cap_letter : (r : Row) → (r.letter ≡ 75 → ⊥) → CapsShared rows r → ⊥
  no_cap_letter r f (a, e, n, q, s) = f (ap (λ (t : Row). t.letter) q)

-- one more row
pub shared_none : Shared [] 0
shared_none = record { only = λ q m. absurd (member_zero 0 q refl m); all = λ p q h e. absurd (not_in_empty h) }

pub shared_other : (rows : List Row) (set : ℕ) (r : Row) → (r.letter ≡ 80 → r.a ≡ r.b) → Shared rows set → Shared (rows ++ r ∷ []) set
shared_other rows set r f t =
    record {
      only = λ q m. let s = t.only q m in (s.0, Contains-append_left rows (r ∷ []) (row (P s.0 q)) s.1, s.2);
      all = λ p q h e. ⊎_elim (λ (k : Has rows (P p q)). t.all p q k e)
          (λ (k : r ≡ row (P p q)).
          absurd (e (sym (ap (λ (x : Row). x.a) k) ∙ f (ap (λ (x : Row). x.letter) k) ∙ ap (λ (x : Row). x.b) k)))
          (Contains-push_cases rows r (row (P p q)) h);
    }

pub shared_more : (rows : List Row) (set v : ℕ) (r : Row) → r.letter ≡ 80 → r.n ≡ 0 → (r.a ≡ r.b → ⊥) → Joins set r.b v → Shared rows set → Shared (rows ++ r ∷ []) v
shared_more rows set v r l z e j t =
    record {
      only = λ q m. ⊎_elim (λ (k : Member set q). let s = t.only q k in (s.0, Contains-append_left rows (r ∷ []) (row (P s.0 q)) s.1, s.2))
          (λ (k : q ≡ r.b). (r.a, subst (λ (x : Row). x ∈ (rows ++ r ∷ [])) (sym (row_is r 80 r.a q 0 l refl (sym k) z)) (Contains-push rows r), λ x. e (x ∙ k)))
          (j.only q m);
      all = λ p q h n. ⊎_elim (λ (k : Has rows (P p q)). j.kept q (t.all p q k n))
          (λ (k : r ≡ row (P p q)). subst (Member v) (ap (λ (x : Row). x.b) k) j.new)
          (Contains-push_cases rows r (row (P p q)) h);
    }
