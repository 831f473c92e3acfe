-- What the marks and the list say after one mark more.
use Rattle.std.proofs.Common.{◌≡◌, ℕ, suc, ◌+◌, ◌<◌, ◌≤◌, cond, List, [], ◌∷◌, ◌++◌, length, get_or, set, sym, ap, ◌∙◌, subst, ⊎_elim, arith, length-append, length-set, get_or-set_other, get_or-set_same, replicate}
use lib.Seq.{get_or-append_seam}
use Rattle.std.proofs.lemmas.Bool.{cases_eq, cases_lt}
use Rattle.std.proofs.lemmas.List.{get_or_append_left, get_or-replicate}
use Rattle.std.proofs.lemmas.List.Elements.{All-get_or, All-set, Contains-append_left, Contains-push}
use Rattle.std.proofs.lemmas.List.Sums.{count_by-le-length, sum_by-set}
use Rattle.std.proofs.Math.Logic.{∥∥₁_elim}
use mathlib.Core.Logic.{∥∥₁_prop}
use Rattle.std.specs.Prelude.{◌==◌}
use Rattle.std.specs.List.{Contains, count_by}
use Rattle.search.specs.Marks.{Lists}

-- a byte cannot be 0 and 1
pub zero_one : {x : ℕ} → x ≡ 0 → x ≡ 1 → ⊥
zero_one p q = omega arith

-- a mark stays when another is set
pub still_marked : (table : List ℕ) (j k : ℕ) → j < length table → get_or table k 0 ≡ 1 → get_or (set table j 1) k 0 ≡ 1
still_marked table j k l e =
    ⊎_elim
    (λ (p : k ≡ j). ap (λ (i : ℕ). get_or (set table j 1) i 0) p ∙ get_or-set_same table j 1 0 l)
    (λ (p : k ≡ j → ⊥). get_or-set_other table j k 1 0 p ∙ e)
    (cases_eq k j)

-- where all marks are 0, each is
pub unmarked : (marks : List ℕ) → marks ≡ replicate (length marks) 0 → (k : ℕ) → k < length marks → get_or marks k 0 ≡ 0
unmarked marks z k b = ap (λ (xs : List ℕ). get_or xs k 0) z ∙ get_or-replicate (length marks) k 0 0 b

-- a mark where there was none is one mark more
pub marks_more : (marks : List ℕ) (j : ℕ) → j < length marks → get_or marks j 0 ≡ 0 → count_by (λ m. m == 1) (set marks j 1) ≡ suc (count_by (λ m. m == 1) marks)
marks_more marks j h z =
    let e = sum_by-set (λ m. cond (m == 1) 1 0) marks j 1 0 h in
    let one : ℕ → ℕ = λ m. cond (m == 1) 1 0 in
    let f : one (get_or marks j 0) ≡ one 0 = ap one z in
    omega (arith, e, f)

-- there is room for a point that is not marked
pub room_for : (marks order : List ℕ) (j : ℕ) → Lists marks order → j < length marks → get_or marks j 0 ≡ 0 → length order < length marks
room_for marks order j t h z =
    omega (arith, t.once, marks_more marks j h z, count_by-le-length (λ m. m == 1) (set marks j 1), length-set marks j 1)

-- marking and listing an unmarked point keeps the list right
pub lists_set : (marks order : List ℕ) (j : ℕ) → Lists marks order → j < length marks → get_or marks j 0 ≡ 0 → Lists (set marks j 1) (order ++ j ∷ [])
lists_set marks order j t l z =
    let a : length (order ++ j ∷ []) ≡ length order + 1 = length-append order (j ∷ []) in
    let s : length (set marks j 1) ≡ length marks = length-set marks j 1 in
    record {
      bits = All-set (λ m. m ≤ 1) marks j 1 (omega arith) t.bits;
      listed = λ k b e. ⊎_elim
          (λ (p : k ≡ j). ∣ subst (Contains (order ++ j ∷ [])) (sym p) (Contains-push order j) ∣₁)
          (λ (p : k ≡ j → ⊥). ∥∥₁_elim (t.listed k (omega arith) (sym (get_or-set_other marks j k 1 0 p) ∙ e)) ∥∥₁_prop (λ m. ∣ Contains-append_left order (j ∷ []) k m ∣₁))
          (cases_eq k j);
      inside = λ i b. ⊎_elim
          (λ (u : i < length order).
          let q : get_or (order ++ j ∷ []) i 0 ≡ get_or order i 0 = get_or_append_left order (j ∷ []) 0 i u in
          let m = t.inside i u in
          (omega (arith, q, m.0, s), ap (λ (x : ℕ). get_or (set marks j 1) x 0) q ∙ still_marked marks j (get_or order i 0) l m.1))
          (λ (u : length order ≤ i).
          let w : i ≡ length order = omega arith in
          let q : get_or (order ++ j ∷ []) i 0 ≡ j = ap (λ (x : ℕ). get_or (order ++ j ∷ []) x 0) w ∙ get_or-append_seam order j [] 0 in
          (omega (arith, q, s), ap (λ (x : ℕ). get_or (set marks j 1) x 0) q ∙ get_or-set_same marks j 1 0 l))
          (cases_lt i (length order));
      once = omega (arith, a, t.once, marks_more marks j l z);
    }

-- a mark that is not 0 is 1
pub not_zero : (marks order : List ℕ) (k : ℕ) → Lists marks order → k < length marks → (get_or marks k 0 ≡ 0 → ⊥) → get_or marks k 0 ≡ 1
not_zero marks order k t h z = omega (arith, z, All-get_or (λ m. m ≤ 1) marks k 0 h t.bits)
