-- Rows that pass the checks, by a test that is computed.
use Rattle.std.proofs.Common.{◌≡◌, ℕ, Bool, true, false, not, ◌&&◌, ◌||◌, eqb, ltb, leb, List, [], ◌∷◌, length, Option, Some, None, sym, refl, ap, ◌∙◌, subst, inl, inr, arith}
use Rattle.std.specs.List.{list_all}
use Rattle.std.proofs.lemmas.Bool.{and_parts, ltb-true, leb-true, eq-eqb}
use Rattle.search.specs.Leads.{stay, go}
use Rattle.schema.specs.declared.row.Row.{Row}
use Rattle.schema.specs.declared.letters.Shape.{Shape}
use Rattle.schema.specs.Rows.{◌∈◌, shape_of, limit, Fits, Sound, AllSound}
use Rattle.schema.specs.Rules.{K, P, row, arrow}
use Rattle.schema.specs.Verdicts.{Small, NoSharedCap, Passes}
use Rattle.schema.specs.Webs.{Alone}
use Rattle.drawings.proofs.Membership.{nowhere, here_or_there}

-- a test that holds of all holds of each
pub each : {A : Type 0} (p : A → Bool) (xs : List A) → list_all p xs ≡ true → (x : A) → x ∈ xs → p x ≡ true
each p [] h x m = absurd (nowhere x m)
each p (y ∷ ys) h x m =
    let t = and_parts (p y) (list_all p ys) h in
    elim (here_or_there ys m) [ inl e ↦ ap p (sym e) ∙ t.0 | inr n ↦ each p ys t.1 x n ]

-- whether a row is sound for four classes and two arrows
abbrev fits : Row → Option Shape → Bool
fits r None = false
fits r (Some s) = ltb r.a (limit 4 2 s.a) && (ltb r.b (limit 4 2 s.b) && (leb s.least r.n && leb r.n s.most))

fits_sound : (r : Row) (s : Option Shape) → fits r s ≡ true → Fits 4 2 r s
fits_sound r None h = absurd (let z : ⊥ = cc in z)
fits_sound r (Some s) h =
    let a = and_parts (ltb r.a (limit 4 2 s.a)) (ltb r.b (limit 4 2 s.b) && (leb s.least r.n && leb r.n s.most)) h in
    let b = and_parts (ltb r.b (limit 4 2 s.b)) (leb s.least r.n && leb r.n s.most) a.1 in
    let n = and_parts (leb s.least r.n) (leb r.n s.most) b.1 in
    (ltb-true _ _ a.0, ltb-true _ _ b.0, leb-true _ _ n.0, leb-true _ _ n.1)

abbrev pub sound : Row → Bool
sound r = fits r (shape_of r.letter)

pub sound_is : (r : Row) → sound r ≡ true → Sound 4 2 r
sound_is r = fits_sound r (shape_of r.letter)

-- whether a row does not lead another arrow to arrow p
abbrev aside : ℕ → Row → Bool
aside p r = not (eqb r.letter 80 && eqb r.b p)

-- where no row leads to an arrow, it stands alone
pub alone : (rows : List Row) (p : ℕ) → list_all (aside p) rows ≡ true → Alone rows p
alone rows p h q stay = refl
alone rows p h q (go {y = y} l way) =
    let e : y ≡ p = alone rows p h y way in
    let t : not (eqb y p) ≡ true = each (aside p) rows h (row (P q y)) l in
    absurd (let z : ⊥ = (let u : eqb y p ≡ true = eq-eqb y p e in cc) in z)

-- whether a row caps no arrow, or one that no row leads to
abbrev free : List Row → Row → Bool
free rows r = not (eqb r.letter 75) || list_all (aside (arrow r.b)) rows

-- then no cap stands on a shared arrow
uncapped : (rows : List Row) → list_all (free rows) rows ≡ true → NoSharedCap rows
uncapped rows h r m (a, e, n, is, shared) =
    shared (alone rows (arrow e) (each (free rows) rows h (row (K a e n)) (subst (λ (x : Row). x ∈ rows) is m)))

-- few rows, all sound
pub fine : (rows : List Row) → leb (length rows) 512 ≡ true → list_all sound rows ≡ true → Small 4 2 rows × AllSound 4 2 rows
fine rows few all = (
  record { few_classes = omega arith; few_arrows = omega arith; few_rows = leb-true _ _ few },
  λ r m. sound_is r (each sound rows all r m),
)

-- whether rows pass the checks
abbrev pub passing : List Row → Bool
passing rows = leb (length rows) 512 && (list_all sound rows && list_all (free rows) rows)

pub passes : (rows : List Row) → passing rows ≡ true → Passes 4 2 rows
passes rows h =
    let few = and_parts (leb (length rows) 512) (list_all sound rows && list_all (free rows) rows) h in
    let all = and_parts (list_all sound rows) (list_all (free rows) rows) few.1 in
    let ok = fine rows few.0 all.0 in
    record { small = ok.0; sound = ok.1; uncapped = uncapped rows all.1 }
