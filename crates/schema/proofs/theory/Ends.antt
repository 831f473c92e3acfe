-- The two ends of an arrow, and the ways between marks.
use Rattle.std.proofs.Common.{◌≡◌, ℕ, zero, suc, ◌+◌, ◌-◌, ◌*◌, ◌/◌, ◌%◌, ◌<◌, ◌≤◌, ◌⊎◌, List, sym, refl, ◌∙◌, subst, inl, inr, arith}
use Rattle.std.proofs.lemmas.Bool.{cases_lt}
use Rattle.search.specs.Leads.{Leads, stay, go}
use Rattle.search.proofs.Trails.{leads_one}
use Rattle.schema.specs.declared.row.Row.{Row}
use Rattle.schema.specs.Rules.{P, Has, arrow, side}
use Rattle.schema.specs.Webs.{mark, Link, down, by_P, ArrowLink}

-- a number that is not above another is the other or below it
pub order : (x y : ℕ) → x ≤ y → (x ≡ y) ⊎ (x < y)
order x y h = elim (cases_lt x y) [ inl l ↦ inr l | inr g ↦ inl (omega arith) ]

-- the other end of the same arrow
abbrev pub opp : ℕ → ℕ
opp e = 2 * (e / 2) + (1 - e % 2)

-- the other end of the other end is the end
pub opp_opp : (e : ℕ) → opp (opp e) ≡ e
opp_opp e = omega arith

-- both ends have the same arrow
pub opp_arrow : (e : ℕ) → arrow (opp e) ≡ arrow e
opp_arrow e = omega arith

-- two ends on the same side have their other ends on the same side
pub opp_side : (e f : ℕ) → side e ≡ side f → side (opp e) ≡ side (opp f)
opp_side e f h = omega arith

-- an end is told by its side and its arrow
pub same_end : (e f : ℕ) → side e ≡ side f → arrow e ≡ arrow f → e ≡ f
same_end e f h k = omega arith

-- an end of an arrow is either of its two
pub either_end : (e f : ℕ) → arrow e ≡ arrow f → (e ≡ f) ⊎ (e ≡ opp f)
either_end e f h = pick (two (side e) (omega arith)) (two (side f) (omega arith))
  where
    two : (s : ℕ) → s < 2 → (s ≡ 0) ⊎ (s ≡ 1)
    two zero l = inl refl
    two (suc zero) l = inr refl
    two (suc (suc s)) l = absurd (omega arith)

    pick : (side e ≡ 0) ⊎ (side e ≡ 1) → (side f ≡ 0) ⊎ (side f ≡ 1) → (e ≡ f) ⊎ (e ≡ opp f)
    pick (inl a) (inl b) = inl (omega arith)
    pick (inl a) (inr b) = inr (omega arith)
    pick (inr a) (inl b) = inr (omega arith)
    pick (inr a) (inr b) = inl (omega arith)

-- the tail of an arrow is an end of that arrow
pub tail_arrow : (p : ℕ) → arrow (2 * p) ≡ p
tail_arrow p = omega arith

-- the other end of the tail is the head
pub head_end : (p : ℕ) → opp (2 * p) ≡ 2 * p + 1
head_end p = omega arith

-- an arrow that leads to another takes its marks along, on either side
pub marks_up : {rows : List Row} {a b : ℕ} → Leads (ArrowLink rows) a b → (e f m : ℕ) → arrow e ≡ a → arrow f ≡ b → side e ≡ side f
    → Leads (Link rows) (mark e m) (mark f m)
marks_up {rows} stay e f m ea fa s = subst (λ x. Leads (Link rows) (mark e m) (mark x m)) (same_end e f s (ea ∙ sym fa)) stay
marks_up {rows} (go {x = a} {y = b} l p) e f m ea fa s =
    go
    (by_P {e = e} {f = 2 * b + side e} {m = m}
    (subst (λ x. Has rows (P x (arrow (2 * b + side e)))) (sym ea) (subst (λ x. Has rows (P a x)) (omega arith) l))
    (omega arith))
    (marks_up p (2 * b + side e) f m (omega arith) fa (omega arith))

-- a mark leads to each lower one
pub marks_down : {rows : List Row} (e m k : ℕ) → 1 ≤ k → k ≤ m → Leads (Link rows) (mark e m) (mark e k)
marks_down {rows} e m k one le = split (order k m le)
  where
    split : (k ≡ m) ⊎ (k < m) → Leads (Link rows) (mark e m) (mark e k)
    split (inl e') = subst (λ x. Leads (Link rows) (mark e m) (mark e x)) (sym e') stay
    split (inr l) = leads_one (down one l)
