-- Whether another arrow leads to an arrow, and what it means that no cap stands on such an arrow.
use Rattle.std.proofs.Common.{◌≡◌, ℕ, ◌↔◌, List, map, refl, subst, ap, ◌∙◌, arith}
use Rattle.std.proofs.lemmas.List.{get_or-map, length-map}
use native.Mathlib.Decide.{map_dec, ℕ_discrete}
use Rattle.search.specs.Leads.{Leads, stay, go}
use Rattle.search.proofs.Trails.{leads_one}
use Rattle.schema.specs.declared.row.Row.{Row}
use Rattle.schema.specs.Rows.{◌∈◌}
use Rattle.schema.specs.Rules.{K, P, row, Has, arrow}
use Rattle.schema.specs.Webs.{ArrowLink, Alone}
use Rattle.schema.specs.Verdicts.{NoSharedCap}
use Rattle.schema.proofs.theory.Deciding.{both?, not?, any?, stable}
use Rattle.schema.proofs.theory.Telling.{has?}

-- every cap stands on an arrow that no other leads to
abbrev pub Uncapped : List Row → Type 0
Uncapped rows = (a e n : ℕ) → Has rows (K a e n) → Alone rows (arrow e)

-- what is one of a list is, with a function applied, one of the list with it applied
∈_map : {A B : Type 0} (f : A → B) (x : A) (xs : List A) → x ∈ xs → f x ∈ map f xs
∈_map f x xs (k, l, e) = (k, omega (arith, length-map xs f), get_or-map f xs k x (f x) l ∙ ap f e)

-- a P row from another arrow to arrow a
abbrev Other : List Row → ℕ → Type 0
Other rows a = (q : ℕ) × (Has rows (P q a) × (q ≡ a → ⊥))

-- where there is no such row no other arrow leads to a
alone_of : (rows : List Row) (a : ℕ) → (Other rows a → ⊥) → {q b : ℕ} → Leads (ArrowLink rows) q b → b ≡ a → q ≡ a
alone_of rows a h stay e = e
alone_of rows a h (go {x = q} {y = r} l k) e =
    stable (ℕ_discrete q a) (λ n. h (q, (subst (λ x. Has rows (P q x)) (alone_of rows a h k e) l, n)))

-- where there is one the arrow is not alone
alone_no : (rows : List Row) (a : ℕ) → Other rows a → Alone rows a → ⊥
alone_no rows a (q, (h, n)) al = n (al q (leads_one h))

-- whether no other arrow leads to an arrow
pub alone? : (rows : List Row) (a : ℕ) → Dec (Alone rows a)
alone? rows a =
    map_dec (λ h q l. alone_of rows a h l refl) (λ al o. alone_no rows a o al)
    (not?
    (any? {Q = λ q. Has rows (P q a) × (q ≡ a → ⊥)} (λ q. both? (has? rows (P q a)) (λ _. not? (ℕ_discrete q a)))
    (map (λ (r : Row). r.a) rows)
    (λ q t. ∈_map (λ (r : Row). r.a) (row (P q a)) rows t.0)))

-- no row caps a shared arrow exactly where every cap stands on an arrow that no other leads to
pub caps_alone : (rows : List Row) → NoSharedCap rows ↔ Uncapped rows
caps_alone rows = (to, from)
  where
    to : NoSharedCap rows → Uncapped rows
    to none a e n has =
        stable (alone? rows (arrow e)) (λ shared. none (row (K a e n)) has (a, e, n, refl, shared))

    from : Uncapped rows → NoSharedCap rows
    from unc r m (a, e, n, q, shared) = shared (unc a e n (subst (λ x. x ∈ rows) q m))
