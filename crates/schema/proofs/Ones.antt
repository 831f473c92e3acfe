-- The places of the ones are exactly the places that a table marks, and they rise.
use Rattle.std.proofs.Common.{◌≡◌, ℕ, zero, suc, ◌+◌, ◌-◌, ◌<◌, ◌≤◌, cond, List, [], ◌∷◌, length, get_or, ap, ◌∙◌, inl, inr, zero-add, arith, sym}
use native.Mathlib.Nat.{sub-zero}
use Rattle.std.proofs.lemmas.Bool.{eq-eqb, ne_eqb, cases_eq}
use Rattle.schema.specs.Rows.{◌∈◌}
use Rattle.schema.specs.Verdicts.{Bit}
use Rattle.schema.specs.Reports.{Rising, Lists}
use Rattle.schema.specs.Printing.{ones_from}
use Rattle.schema.proofs.Members.{here, there, not_in_empty, here_or_there}

-- a 1 in front is the first place
ones_yes : (j b : ℕ) (bs : List ℕ) → b ≡ 1 → ones_from j (b ∷ bs) ≡ j ∷ ones_from (j + 1) bs
ones_yes j b bs e = ap (λ v. cond v (j ∷ ones_from (j + 1) bs) (ones_from (j + 1) bs)) (eq-eqb b 1 e)

-- another byte in front is none
ones_no : (j b : ℕ) (bs : List ℕ) → (b ≡ 1 → ⊥) → ones_from j (b ∷ bs) ≡ ones_from (j + 1) bs
ones_no j b bs e = ap (λ v. cond v (j ∷ ones_from (j + 1) bs) (ones_from (j + 1) bs)) (ne_eqb b 1 e)

-- what holds of the first place and of the later ones holds of all
pub ones_by : (P : List ℕ → Type 0) (j b : ℕ) (bs : List ℕ) → (b ≡ 1 → P (j ∷ ones_from (j + 1) bs)) → ((b ≡ 1 → ⊥) → P (ones_from (j + 1) bs)) → P (ones_from j (b ∷ bs))
ones_by P j b bs yes-case no-case =
    elim (cases_eq b 1) [ inl e ↦ rw (ones_yes j b bs e) (yes-case e) | inr e ↦ rw (ones_no j b bs e) (no-case e) ]

-- the byte at a place, one further on
read_more : (j b : ℕ) (bs : List ℕ) (k : ℕ) → (j + 1 ≤ k) × (k < (j + 1) + length bs) × (get_or bs (k - (j + 1)) 0 ≡ 1)
    → (j ≤ k) × (k < j + length (b ∷ bs)) × (get_or (b ∷ bs) (k - j) 0 ≡ 1)
read_more j b bs k h =
    let e : k - j ≡ suc (k - (j + 1)) = omega arith in
    (omega arith, omega arith, ap (λ i. get_or (b ∷ bs) i 0) e ∙ h.2)

-- each place is within the table and holds 1
pub ones_only : (j : ℕ) (bs : List ℕ) (k : ℕ) → k ∈ ones_from j bs → (j ≤ k) × (k < j + length bs) × (get_or bs (k - j) 0 ≡ 1)
ones_only j [] k h = absurd (not_in_empty h)
ones_only j (b ∷ bs) k m =
    ones_by (λ l. k ∈ l → (j ≤ k) × (k < j + length (b ∷ bs)) × (get_or (b ∷ bs) (k - j) 0 ≡ 1)) j b bs
    (λ e h. elim (here_or_there (ones_from (j + 1) bs) h) [
      | inl p ↦ let z : k - j ≡ 0 = omega arith in (omega arith, omega arith, ap (λ i. get_or (b ∷ bs) i 0) z ∙ e)
      | inr t ↦ read_more j b bs k (ones_only (j + 1) bs k t)
    ])
    (λ e h. read_more j b bs k (ones_only (j + 1) bs k h))
    m

-- each place that holds 1 is there
pub ones_all : (j : ℕ) (bs : List ℕ) (i : ℕ) → i < length bs → get_or bs i 0 ≡ 1 → (j + i) ∈ ones_from j bs
ones_all j [] i h e = absurd (let z : ⊥ = omega arith in z)
ones_all j (b ∷ bs) zero h e =
    let z : j + 0 ≡ j = omega arith in
    ones_by (λ l. (j + 0) ∈ l) j b bs (λ _. here (ones_from (j + 1) bs) (sym z)) (λ no_one. absurd (no_one e))
ones_all j (b ∷ bs) (suc i) h e =
    let z : (j + 1) + i ≡ j + suc i = omega arith in
    let later : (j + suc i) ∈ ones_from (j + 1) bs = rw z at (ones_all (j + 1) bs i (omega arith) e) in
    ones_by (λ l. (j + suc i) ∈ l) j b bs (λ _. there (ones_from (j + 1) bs) later) (λ _. later)

-- the places rise
pub ones_rising : (j : ℕ) (bs : List ℕ) → Rising (ones_from j bs)
ones_rising j [] = tt
ones_rising j (b ∷ bs) =
    ones_by Rising j b bs (λ _. (λ k h. let low = ones_only (j + 1) bs k h in omega (arith, low.0), ones_rising (j + 1) bs)) (λ _. ones_rising (j + 1) bs)

-- the places of the ones, as a list of the places that hold 1
pub ones_lists : (bs : List ℕ) → Lists (λ k. (k < length bs) × (get_or bs k 0 ≡ 1)) (ones_from 0 bs)
ones_lists bs =
    record {
      rising = ones_rising 0 bs;
      only = λ k h. (omega (arith, (ones_only 0 bs k h).1), rw sub-zero at (ones_only 0 bs k h).2);
      all = λ k h. rw zero-add at (ones_all 0 bs k h.0 h.1);
    }

-- where each byte is 1 exactly when a fact holds, the places of the ones are those of the fact
pub bits_list : (n : ℕ) (Fact : ℕ → Type 0) (bs : List ℕ) → length bs ≡ n → ((k : ℕ) → k < n → Bit (get_or bs k 0) (Fact k))
    → Lists (λ k. (k < n) × Fact k) (ones_from 0 bs)
bits_list n Fact bs long bits =
    let places = ones_lists bs in
    record {
      rising = places.rising;
      only = λ k h. let at = places.only k h in let within : k < n = omega (arith, at.0) in
          (within, elim (bits k within) [ inl p ↦ p.1 | inr p ↦ absurd (let z : ⊥ = omega (arith, p.0, at.1) in z) ]);
      all = λ k h. elim (bits k h.0) [ inl p ↦ places.all k (omega (arith, h.0), p.0) | inr p ↦ absurd (p.1 h.1) ];
    }
