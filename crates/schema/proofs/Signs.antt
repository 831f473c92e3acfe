-- A byte or a test that tells whether a fact holds.
use Rattle.std.proofs.Common.{◌≡◌, ℕ, ◌<◌, ◌≤◌, Bool, true, false, eqb, nat_lt, ◌⊎◌, sym, refl, subst, inl, inr, ⊎_elim, arith}
use Rattle.std.proofs.lemmas.Bool.{cases_lt, eq-eqb, ne_eqb, lt-ltb, le-ltb}
use Rattle.schema.specs.Verdicts.{Bit, Tells}

-- a byte that is 1
pub bit_one : {b : ℕ} {A : Type 0} → Bit b A → b ≡ 1 → A
bit_one (inl (e, a)) o = a
bit_one (inr (e, f)) o = absurd (omega arith)

-- a byte whose fact holds
pub bit_holds : {b : ℕ} {A : Type 0} → Bit b A → A → b ≡ 1
bit_holds (inl (e, a)) x = e
bit_holds (inr (e, f)) x = absurd (f x)

-- a byte tells each fact that says the same
pub bit_same : (b : ℕ) {A B : Type 0} → (A → B) → (B → A) → Bit b A → Bit b B
bit_same b to from (inl (e, a)) = inl (e, to a)
bit_same b to from (inr (e, f)) = inr (e, λ x. f (from x))

-- and so does a test
pub tells_same : (b : Bool) {A B : Type 0} → (A → B) → (B → A) → Tells b A → Tells b B
tells_same true to from a = to a
tells_same false to from f = λ x. f (from x)

-- a test that fails to find the first of two facts tells of both by the second
pub tells_second : (b : Bool) {A : Type 0} (B : Type 0) → (A → ⊥) → Tells b B → Tells b (A ⊎ B)
tells_second true B none x = inr x
tells_second false B none f = λ s. ⊎_elim none f s

-- a test that is true
pub tells_true : {b : Bool} {A : Type 0} → b ≡ true → A → Tells b A
tells_true {b} {A} e a = subst (λ (t : Bool). Tells t A) (sym e) a

-- a true test of a fact
pub tells_yes : {b : Bool} {A : Type 0} → Tells b A → b ≡ true → A
tells_yes {A = A} t e = subst (λ (b : Bool). Tells b A) e t

-- and a false one
pub tells_no : {b : Bool} {A : Type 0} → Tells b A → b ≡ false → A → ⊥
tells_no {A = A} t e = subst (λ (b : Bool). Tells b A) e t

-- a test whose fact holds
pub tells_holds : (b : Bool) {A : Type 0} → Tells b A → A → b ≡ true
tells_holds true t a = refl
tells_holds false t a = absurd (t a)

-- the test of a byte that is 1
pub tells_one : (x : ℕ) {A : Type 0} → x ≡ 1 → A → Tells (eqb x 1) A
tells_one x e a = tells_true (eq-eqb x 1 e) a

-- the test of any byte
pub tells_bit : (x : ℕ) {A : Type 0} → Bit x A → Tells (eqb x 1) A
tells_bit x {A} (inl (e, a)) = tells_one x e a
tells_bit x {A} (inr (e, f)) = subst (λ (b : Bool). Tells b A) (sym (ne_eqb x 1 (λ o. omega arith))) f

-- the test whether a number is lower
pub tells_lt : (m n : ℕ) → Tells (nat_lt m n) (m < n)
tells_lt m n =
    ⊎_elim (λ (l : m < n). tells_true (lt-ltb m n l) l) (λ (l : n ≤ m). subst (λ (b : Bool). Tells b (m < n)) (sym (le-ltb m n l)) (λ h. omega arith)) (cases_lt m n)
