-- Facts about following links, and about what marks say of them.
use Rattle.std.proofs.Common.{◌≡◌, ℕ, ◌<◌, ◌≤◌, List, get_or, ⊎_elim, arith}
use Rattle.search.specs.Leads.{Leads, stay, go, Joined, Marked}
use Rattle.search.proofs.Marking.{zero_one}

-- one link leads from its first point to its second
pub leads_one : {A : Type 0} {Link : A → A → Type 0} {x y : A} → Link x y → Leads Link x y
leads_one l = go l stay

-- where the first point leads to the second and the second to the third, the first leads to the third
pub leads_both : {A : Type 0} {Link : A → A → Type 0} {x y z : A} → Leads Link x y → Leads Link y z → Leads Link x z
leads_both stay m = m
leads_both (go l k) m = go l (leads_both k m)

-- a link more at the end
pub leads_then : {A : Type 0} {Link : A → A → Type 0} {x y z : A} → Leads Link x y → Link y z → Leads Link x z
leads_then k l = leads_both k (leads_one l)

-- where each link of one kind is a link of another, so is what follows them
pub leads_more : {A : Type 0} {Link Other : A → A → Type 0} {x y : A} → ((a b : A) → Link a b → Other a b) → Leads Link x y → Leads Other x y
leads_more f stay = stay
leads_more f (go {x = x} {y = y} l k) = go (f x y l) (leads_more f k)

-- a start beyond the last point leads to no point
pub leads_nowhere : {n : ℕ} {link : ℕ → ℕ → Type 0} {x k : ℕ} → n ≤ x → k < n → Leads (Joined n link) x k → ⊥
leads_nowhere h b stay = omega arith
leads_nowhere h b (go l k) = omega (arith, l.0)

-- links between the n points lead from one of them to one of them
pub leads_inside : {n : ℕ} {link : ℕ → ℕ → Type 0} {x k : ℕ} → Leads (Joined n link) x k → x < n → k < n
leads_inside stay h = h
leads_inside (go l k) h = leads_inside k l.1

-- the start leads to a point whose byte is 1
pub marked_one : (n : ℕ) (link : ℕ → ℕ → Type 0) (start : ℕ) (table : List ℕ) (k : ℕ) → Marked n link start table → k < n → get_or table k 0 ≡ 1 → Leads (Joined n link) start k
marked_one n link start table k m h e =
    ⊎_elim
    (λ (p : (get_or table k 0 ≡ 1) × Leads (Joined n link) start k). p.1)
    (λ (p : (get_or table k 0 ≡ 0) × (Leads (Joined n link) start k → ⊥)). absurd (zero_one p.0 e))
    (m k h)

-- the start does not lead to a point whose byte is 0
pub marked_zero : (n : ℕ) (link : ℕ → ℕ → Type 0) (start : ℕ) (table : List ℕ) (k : ℕ) → Marked n link start table → k < n → get_or table k 0 ≡ 0 → Leads (Joined n link) start k → ⊥
marked_zero n link start table k m h e =
    ⊎_elim
    (λ (p : (get_or table k 0 ≡ 1) × Leads (Joined n link) start k). absurd (zero_one e p.0))
    (λ (p : (get_or table k 0 ≡ 0) × (Leads (Joined n link) start k → ⊥)). p.1)
    (m k h)

-- the byte of a point that the start leads to is 1
pub marked_leads : (n : ℕ) (link : ℕ → ℕ → Type 0) (start : ℕ) (table : List ℕ) (k : ℕ) → Marked n link start table → k < n → Leads (Joined n link) start k → get_or table k 0 ≡ 1
marked_leads n link start table k m h l =
    ⊎_elim
    (λ (p : (get_or table k 0 ≡ 1) × Leads (Joined n link) start k). p.0)
    (λ (p : (get_or table k 0 ≡ 0) × (Leads (Joined n link) start k → ⊥)). absurd (p.1 l))
    (m k h)
