-- The places of the ones in a table, and the lines that name them.
use Rattle.std.proofs.Common.{◌≡◌, ℕ, ◌+◌, ◌*◌, ◌<◌, ◌≤◌, true, false, cond, eqb, List, [], ◌∷◌, ◌++◌, length, get_or, take, count_by, sym, refl, ap, ◌∙◌, arith}
use Rattle.std.proofs.lemmas.List.{append-nil, length-append, length-take-le, take_more}
use Rattle.std.proofs.lemmas.List.Sums.{sum_by-cons, count_by-le-length}
use Rattle.std.proofs.lemmas.Bool.{eq-eqb, ne_eqb}
use Rattle.schema.specs.Texts.{line}
use Rattle.schema.specs.Printing.{spliced, ones_from}
use Rattle.schema.specs.Reports.{name_lines}
use Rattle.schema.proofs.Splices.{spliced_more}

-- one byte more
pub ones_push : (j : ℕ) (bs : List ℕ) (b : ℕ) → ones_from j (bs ++ b ∷ []) ≡ ones_from j bs ++ cond (eqb b 1) ((j + length bs) ∷ []) []
ones_push j [] b = let z : j ≡ j + 0 = omega arith in ap (λ m. cond (eqb b 1) (m ∷ []) []) z
ones_push j (a ∷ bs) b =
    let z : (j + 1) + length bs ≡ j + length (a ∷ bs) = omega arith in
    let more : ones_from (j + 1) (bs ++ b ∷ []) ≡ ones_from (j + 1) bs ++ cond (eqb b 1) ((j + length (a ∷ bs)) ∷ []) [] =
    ones_push (j + 1) bs b ∙ ap (λ m. ones_from (j + 1) bs ++ cond (eqb b 1) (m ∷ []) []) z in
    let rest = ones_from (j + 1) bs in
    let rest-b = ones_from (j + 1) (bs ++ b ∷ []) in
    elim (eqb a 1) as (λ v. cond v (j ∷ rest-b) rest-b ≡ cond v (j ∷ rest) rest ++ cond (eqb b 1) ((j + length (a ∷ bs)) ∷ []) [])
    [ true ↦ ap (λ l. j ∷ l) more | false ↦ more ]

-- as many as there are ones
pub ones_counted : (j : ℕ) (bs : List ℕ) → length (ones_from j bs) ≡ count_by (λ b. eqb b 1) bs
ones_counted j [] = refl
ones_counted j (a ∷ bs) =
    let here : length (ones_from j (a ∷ bs)) ≡ cond (eqb a 1) 1 0 + count_by (λ b. eqb b 1) bs =
    elim (eqb a 1) as (λ v. length (cond v (j ∷ ones_from (j + 1) bs) (ones_from (j + 1) bs)) ≡ cond v 1 0 + count_by (λ b. eqb b 1) bs)
    [ true ↦ omega (arith, ones_counted (j + 1) bs) | false ↦ omega (arith, ones_counted (j + 1) bs) ] in
    here ∙ sym (sum_by-cons (λ b. cond (eqb b 1) 1 0) a bs)

-- no more than there are bytes
pub ones_few : (j : ℕ) (bs : List ℕ) → length (ones_from j bs) ≤ length bs
ones_few j bs = omega (arith, ones_counted j bs, count_by-le-length (λ b. eqb b 1) bs)

-- the lines of two lists of names
pub names_append : (letter : ℕ) (ks js : List ℕ) → name_lines letter (ks ++ js) ≡ name_lines letter ks ++ name_lines letter js
names_append letter [] js = refl
names_append letter (k ∷ ks) js = ap (λ l. line letter k 0 0 ++ l) (names_append letter ks js)

-- fourteen bytes for each name
pub length_names : (letter : ℕ) (ks : List ℕ) → length (name_lines letter ks) ≡ 14 * length ks
length_names letter [] = refl
length_names letter (k ∷ ks) = omega (arith, length_names letter ks)

module _ (letter k d : ℕ) (table : List ℕ) (within : k < length table) where
  -- one byte more of a table
  step : ones_from 0 (take (k + 1) table) ≡ ones_from 0 (take k table) ++ cond (eqb (get_or table k d) 1) (k ∷ []) []
  step =
      let z : 0 + length (take k table) ≡ k = omega (arith, length-take-le k table (omega arith)) in
      ap (ones_from 0) (take_more table k d within) ∙ (ones_push 0 (take k table) (get_or table k d)
      ∙ ap (λ m. ones_from 0 (take k table) ++ cond (eqb (get_or table k d) 1) (m ∷ []) []) z)

  -- a 1 at place k adds its line
  pub names_one : get_or table k d ≡ 1 → name_lines letter (ones_from 0 (take (k + 1) table)) ≡ name_lines letter (ones_from 0 (take k table)) ++ line letter k 0 0
  names_one e =
      ap (name_lines letter) (step ∙ ap (λ v. ones_from 0 (take k table) ++ cond v (k ∷ []) []) (eq-eqb (get_or table k d) 1 e))
      ∙ names_append letter (ones_from 0 (take k table)) (k ∷ [])

  -- another byte adds none
  pub names_none : (get_or table k d ≡ 1 → ⊥) → name_lines letter (ones_from 0 (take (k + 1) table)) ≡ name_lines letter (ones_from 0 (take k table))
  names_none e =
      ap (name_lines letter) (step ∙ (ap (λ v. ones_from 0 (take k table) ++ cond v (k ∷ []) []) (ne_eqb (get_or table k d) 1 e) ∙ append-nil (ones_from 0 (take k table))))

-- the lines of the names below k stand from `at` on and end at `end`
abbrev pub Named : ℕ → ℕ → List ℕ → List ℕ → ℕ → List ℕ → ℕ → Type 0
Named at letter table s k bytes end =
    (bytes ≡ spliced at (name_lines letter (ones_from 0 (take k table))) s)
    × (end ≡ at + length (name_lines letter (ones_from 0 (take k table))))
    × (end ≤ at + 14 * k)

module _ (at letter k : ℕ) (table s bytes : List ℕ) (end : ℕ) (before : Named at letter table s k bytes end) (within : k < length table) where
  -- a 1 at place k, and its line written
  pub named_one : (next : List ℕ) (stop : ℕ) → at ≤ length s → get_or table k 0 ≡ 1 → next ≡ spliced end (line letter k 0 0) bytes → stop ≡ end + 14
      → Named at letter table s (k + 1) next stop
  named_one next stop room one e f =
      let names = name_lines letter (ones_from 0 (take k table)) in
      let more = names_one letter k 0 table within one in (
        e ∙ (spliced_more at end names (line letter k 0 0) s bytes room before.1 before.0 ∙ ap (λ l. spliced at l s) (sym more)),
        omega (arith, ap length more, length-append names (line letter k 0 0)),
        omega arith,
      )

  -- another byte at place k
  pub named_none : (next : List ℕ) (stop : ℕ) → (get_or table k 0 ≡ 1 → ⊥) → next ≡ bytes → stop ≡ end → Named at letter table s (k + 1) next stop
  named_none next stop none e f =
      let same = names_none letter k 0 table within none in
      (e ∙ (before.0 ∙ ap (λ l. spliced at l s) (sym same)), omega (arith, ap length same), omega arith)
