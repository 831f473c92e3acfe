-- Telling rows, rules and descriptions apart.
use Rattle.std.proofs.Common.{◌≡◌, ℕ, cond, eqb, List, sym, refl, ap, ◌∙◌, arith}
use mathlib.Core.HLevel.{Discrete}
use native.Mathlib.Decide.{map_dec, ℕ_discrete}
use Rattle.schema.specs.declared.row.Row.{Row}
use Rattle.schema.specs.Rules.{Rule, S, X, D, F, K, P, Q, row, Has}
use Rattle.schema.specs.Webs.{Description, cls, mark}
use Rattle.schema.proofs.theory.Deciding.{both?, in?}

-- rows are told apart
pub row_discrete : Discrete Row
row_discrete x y =
    map_dec {A = (x.letter ≡ y.letter) × ((x.a ≡ y.a) × ((x.b ≡ y.b) × (x.n ≡ y.n)))}
    (λ t i. record { letter = t.0 i; a = t.1.0 i; b = t.1.1.0 i; n = t.1.1.1 i })
    (λ e. (ap (λ (r : Row). r.letter) e, (ap (λ (r : Row). r.a) e, (ap (λ (r : Row). r.b) e, ap (λ (r : Row). r.n) e))))
    (both? (ℕ_discrete x.letter y.letter)
    (λ _. both? (ℕ_discrete x.a y.a) (λ _. both? (ℕ_discrete x.b y.b) (λ _. ℕ_discrete x.n y.n))))

-- whether one of the rows writes a rule
pub has? : (rows : List Row) (ρ : Rule) → Dec (Has rows ρ)
has? rows ρ = in? row_discrete (row ρ) rows

-- the rule that a row writes, whatever it is if it writes none
abbrev read : Row → Rule
read r =
    cond (eqb r.letter 83) (S r.a r.b)
    (cond (eqb r.letter 88) (X r.a r.b)
    (cond (eqb r.letter 68) (D r.a r.b)
    (cond (eqb r.letter 70) (F r.a r.b r.n)
    (cond (eqb r.letter 75) (K r.a r.b r.n) (cond (eqb r.letter 80) (P r.a r.b) (Q r.a r.b))))))

-- the row of a rule is read as that rule
read_row : (ρ : Rule) → read (row ρ) ≡ ρ
read_row (S a b) = refl
read_row (X a b) = refl
read_row (D e b) = refl
read_row (F a e n) = refl
read_row (K a e n) = refl
read_row (P p q) = refl
read_row (Q p q) = refl

-- two rules that the same row writes are the same
pub row_injective : (ρ σ : Rule) → row ρ ≡ row σ → ρ ≡ σ
row_injective ρ σ e = sym (read_row ρ) ∙ ap read e ∙ read_row σ

-- a description in three numbers
abbrev figures : Description → ℕ × ℕ × ℕ
figures (cls a) = (0, a, 0)
figures (mark e m) = (1, e, m)

-- descriptions are told apart
pub description_discrete : Discrete Description
description_discrete (cls a) (cls b) = map_dec (ap cls) (λ e. ap (λ d. (figures d).1) e) (ℕ_discrete a b)
description_discrete (cls a) (mark e m) = no (λ q. let z : ◌≡◌ {A = ℕ} 0 1 = ap (λ d. (figures d).0) q in omega arith)
description_discrete (mark e m) (cls a) = no (λ q. let z : ◌≡◌ {A = ℕ} 1 0 = ap (λ d. (figures d).0) q in omega arith)
description_discrete (mark e m) (mark f k) =
    map_dec {A = (e ≡ f) × (m ≡ k)} (λ t i. mark (t.0 i) (t.1 i)) (λ q. (ap (λ d. (figures d).1) q, ap (λ d. (figures d).2) q))
    (both? (ℕ_discrete e f) (λ _. ℕ_discrete m k))
