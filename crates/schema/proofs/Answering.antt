-- From what the rows tell of a rule to the answer.
use Rattle.std.proofs.Common.{◌≡◌, ℕ, ◌+◌, ◌*◌, Bool, List, sym, refl, subst, inl, inr, arith}
use Rattle.schema.specs.declared.row.Row.{Row}
use Rattle.schema.specs.Rows.{Sound}
use Rattle.schema.specs.Rules.{Rule, S, X, D, F, K, P, Q, row, arrow}
use Rattle.schema.specs.Webs.{mark, ArrowLink, ArrowApart, Clashing, arr, Empty, of_end, of_arrow}
use Rattle.schema.specs.Questions.{EmptyDescription, Parted, Yes, Countable}
use Rattle.schema.specs.Worlds.{Fulfils}
use Rattle.schema.specs.Verdicts.{Passes, Tells}
use Rattle.schema.specs.Truth.{Follows}
use Rattle.schema.specs.Asked.{Uncountable, Answered}
use Rattle.schema.specs.Found.{TellsYes}
use Rattle.schema.proofs.theory.Caps.{alone?}
use Rattle.schema.proofs.theory.Deciding.{stable}
use Rattle.schema.proofs.theory.Exactness.{all_told, all_shown}
use Rattle.schema.proofs.Signs.{tells_same, tells_no}

-- a rule that is not refused can be counted
pub countable : (rows : List Row) (ρ : Rule) → (Uncountable rows (row ρ) → ⊥) → Countable rows ρ
countable rows (S a b) f = tt
countable rows (X a b) f = tt
countable rows (D e b) f = tt
countable rows (F a e n) f = λ h. stable (alone? rows (arrow e)) (λ s. f (a, e, n, refl, h, s))
countable rows (K a e n) f = tt
countable rows (P a b) f = tt
countable rows (Q a b) f = tt

module _ (c p : ℕ) (rows : List Row) (ok : Passes c p rows) where
  -- what is told is true in every world
  everywhere : (ρ : Rule) → Sound c p (row ρ) → Countable rows ρ → (b : Bool) → Tells b (Yes rows ρ) → Tells b (Follows rows (λ w. Fulfils w ρ))
  everywhere ρ s n b t = let e = (all_told c p rows ok).rule_exact ρ s n in tells_same b e.0 e.1 t

  -- the answer to a sound row that can be counted
  pub answered : (asked : Row) → Sound c p asked → (Uncountable rows asked → ⊥) → (b : Bool) → TellsYes rows asked b → Answered c p rows asked b
  answered asked sound counts b t =
      let ρ = t.rule in
      let s : Sound c p (row ρ) = subst (Sound c p) t.writes sound in
      let n : Countable rows ρ = countable rows ρ (subst (λ (r : Row). Uncountable rows r → ⊥) t.writes counts) in
      let one = all_shown c p rows ok in
      record {
        passes = ok;
        rule = ρ;
        writes = t.writes;
        sound = sound;
        countable = n;
        told = t.told;
        everywhere = everywhere ρ s n b t.told;
        one_world = (one.0, one.1, λ e. one.1.rule_broken ρ s n (tells_no t.told e));
      }

-- two arrows are parted by themselves, by their tails or by their heads
module _ (rows : List Row) (p q : ℕ) where
  -- an end is empty with its arrow
  end_empty : (k e : ℕ) → arrow e ≡ k → Empty rows (arr k) → EmptyDescription rows (mark e 1)
  end_empty k e h z = of_arrow {e = e} (subst (λ (x : ℕ). Empty rows (arr x)) (sym h) z)

  -- and an arrow with its end
  arrow_empty : (k e : ℕ) → arrow e ≡ k → EmptyDescription rows (mark e 1) → Empty rows (arr k)
  arrow_empty k e h z = subst (λ (x : ℕ). Empty rows (arr x)) h (of_end {e = e} z)

  pub tails_part : Parted rows (mark (2 * p) 1) (mark (2 * q) 1) → Yes rows (Q p q)
  tails_part (inl z) = inl (arrow_empty p (2 * p) (omega arith) z)
  tails_part (inr (inl z)) = inr (inl (arrow_empty q (2 * q) (omega arith) z))
  tails_part (inr (inr c)) = inr (inr (inr (inl c)))

  pub heads_part : Parted rows (mark (2 * p + 1) 1) (mark (2 * q + 1) 1) → Yes rows (Q p q)
  heads_part (inl z) = inl (arrow_empty p (2 * p + 1) (omega arith) z)
  heads_part (inr (inl z)) = inr (inl (arrow_empty q (2 * q + 1) (omega arith) z))
  heads_part (inr (inr c)) = inr (inr (inr (inr c)))

  -- what is left for the heads to tell
  pub heads_left : (Clashing (ArrowLink rows) (ArrowApart rows) p q → ⊥) → (Parted rows (mark (2 * p) 1) (mark (2 * q) 1) → ⊥)
      → Yes rows (Q p q) → Parted rows (mark (2 * p + 1) 1) (mark (2 * q + 1) 1)
  heads_left f g (inl z) = absurd (g (inl (end_empty p (2 * p) (omega arith) z)))
  heads_left f g (inr (inl z)) = absurd (g (inr (inl (end_empty q (2 * q) (omega arith) z))))
  heads_left f g (inr (inr (inl c))) = absurd (f c)
  heads_left f g (inr (inr (inr (inl c)))) = absurd (g (inr (inr c)))
  heads_left f g (inr (inr (inr (inr c)))) = inr (inr c)
