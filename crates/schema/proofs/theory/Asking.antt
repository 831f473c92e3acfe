-- Whether a sound rule is answered yes, and whether it can be counted.
use Rattle.std.proofs.Common.{ℕ, ◌+◌, ◌*◌, ◌<◌, List, arith}
use native.Mathlib.Decide.{dec_le}
use Rattle.schema.specs.declared.row.Row.{Row}
use Rattle.schema.specs.Rows.{Sound, AllSound}
use Rattle.schema.specs.Rules.{Rule, S, X, D, F, K, P, Q, row, arrow}
use Rattle.schema.specs.Webs.{Description, cls, mark, EmptyClass}
use Rattle.schema.specs.Questions.{Parted, Yes, Countable}
use Rattle.schema.proofs.theory.Deciding.{or?, if?}
use Rattle.schema.proofs.theory.Points.{Point}
use Rattle.schema.proofs.theory.FiniteWebs.{description_leads?, arrow_leads?, description_clash?, arrow_clash?}
use Rattle.schema.proofs.theory.Emptiness.{description_empty?, arrow_empty?}
use Rattle.schema.proofs.theory.Caps.{alone?}

-- whether a rule can be counted
pub countable? : (rows : List Row) (ρ : Rule) → Dec (Countable rows ρ)
countable? rows (S a b) = yes tt
countable? rows (X a b) = yes tt
countable? rows (D e b) = yes tt
countable? rows (F a e n) = if? (dec_le 2 n) (alone? rows (arrow e))
countable? rows (K a e n) = yes tt
countable? rows (P a b) = yes tt
countable? rows (Q a b) = yes tt

module _ (c p : ℕ) (rows : List Row) (sound : AllSound c p rows) where
  -- whether a class is empty
  pub class_empty? : (a : ℕ) → a < c → Dec (EmptyClass rows a)
  class_empty? a l = description_empty? c p rows sound (cls a) l

  -- whether two descriptions are parted
  parted? : (d u : Description) → Point c p d → Point c p u → Dec (Parted rows d u)
  parted? d u q r =
      or? (description_empty? c p rows sound d q)
      (or? (description_empty? c p rows sound u r) (description_clash? c p rows sound d u q r))

  -- whether a sound rule is answered yes
  pub yes? : (ρ : Rule) → Sound c p (row ρ) → Dec (Yes rows ρ)
  yes? (S a b) r = or? (class_empty? a r.0) (description_leads? c p rows sound (cls a) (cls b) r.0)
  yes? (X a b) r = parted? (cls a) (cls b) r.0 r.1
  yes? (D e b) r =
      let q : Point c p (mark e 1) = (r.0, omega arith, omega arith) in
      or? (description_empty? c p rows sound (mark e 1) q) (description_leads? c p rows sound (mark e 1) (cls b) q)
  yes? (F a e n) r = or? (class_empty? a r.0) (description_leads? c p rows sound (cls a) (mark e n) r.0)
  yes? (K a e n) r = parted? (cls a) (mark e (n + 1)) r.0 (r.1, omega arith, omega (arith, r.3))
  yes? (P a b) r = or? (arrow_empty? c p rows sound a r.0) (arrow_leads? c p rows sound a b r.0)
  yes? (Q a b) r =
      let tail : (q : ℕ) → q < p → Point c p (mark (2 * q) 1) = λ q l. (omega arith, omega arith, omega arith) in
      let head : (q : ℕ) → q < p → Point c p (mark (2 * q + 1) 1) = λ q l. (omega arith, omega arith, omega arith) in
      or? (arrow_empty? c p rows sound a r.0)
      (or? (arrow_empty? c p rows sound b r.1)
      (or? (arrow_clash? c p rows sound a b r.0 r.1)
      (or? (description_clash? c p rows sound (mark (2 * a) 1) (mark (2 * b) 1) (tail a r.0) (tail b r.1))
      (description_clash? c p rows sound (mark (2 * a + 1) 1) (mark (2 * b + 1) 1) (head a r.0) (head b r.1)))))
