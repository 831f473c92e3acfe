-- A text tells its counts and rows, and no others.
use Rattle.std.proofs.Common.{◌≡◌, ℕ, ◌≤◌, max, true, false, cond, eqb, List, [], ◌∷◌, length, get_or, take, drop, Some, sym, refl, ap, ◌∙◌, arith}
use Rattle.schema.specs.declared.row.Row.{Row}
use Rattle.schema.specs.declared.letters.Kind.{Kind}
use Rattle.schema.specs.declared.letters.Kind.TheVariants.{Class, Arrow, End}
use Rattle.schema.specs.declared.letters.Shape.{Shape}
use Rattle.schema.specs.Rows.{◌∈◌, shapes, shape_in, limit, Fits, Sound}
use Rattle.schema.specs.Texts.{line, row_line, row_lines, text_of, IsText}
use Rattle.schema.proofs.Members.{here, there}
use Rattle.schema.proofs.Building.{row_is}
use Rattle.schema.proofs.Groups.{group_same}

-- three numbers of three digits at most, so that their groups begin with a blank
pub record Few (a b n : ℕ) : Type 0 where
  pub a_few : a ≤ 999
  pub b_few : b ≤ 999
  pub n_few : n ≤ 999

abbrev pub FewRow : Row → Type 0
FewRow r = Few r.a r.b r.n

-- there are few names of every kind
limit_few : (c p : ℕ) (k : Kind) → c ≤ 64 → p ≤ 32 → limit c p k ≤ 64
limit_few c p Class hc hp = hc
limit_few c p Arrow hc hp = omega arith
limit_few c p End hc hp = omega arith

-- the largest number that a table of letters allows
abbrev largest : List Shape → ℕ
largest [] = 0
largest (s ∷ ss) = max s.most (largest ss)

-- a row that fits a line of a table of small ranges
fits_few : (c p : ℕ) (r : Row) (table : List Shape) → c ≤ 64 → p ≤ 32 → largest table ≤ 999 → Fits c p r (shape_in r.letter table) → FewRow r
fits_few c p r [] hc hp few h = absurd h
fits_few c p r (s ∷ ss) hc hp few h =
    elim (eqb s.letter r.letter) as (λ b. Fits c p r (cond b (Some s) (shape_in r.letter ss)) → FewRow r) [
      | true ↦ λ f. record {
        a_few = omega (arith, limit_few c p s.a hc hp, f.0);
        b_few = omega (arith, limit_few c p s.b hc hp, f.1);
        n_few = omega (arith, f.3);
      }
      | false ↦ λ f. fits_few c p r ss hc hp (omega arith) f
    ] h

-- a sound row has such numbers
pub sound_few : (c p : ℕ) (r : Row) → c ≤ 64 → p ≤ 32 → Sound c p r → FewRow r
sound_few c p r hc hp h = fits_few c p r shapes hc hp (omega arith) h

-- such a line tells its letter and its numbers
pub line_same : (x a b n y d e m : ℕ) → Few d e m → line x a b n ≡ line y d e m → (x ≡ y) × (a ≡ d) × (b ≡ e) × (n ≡ m)
line_same x a b n y d e m few same = (
  ap (λ l. get_or l 0 0) same,
  group_same a d few.a_few (ap (λ l. take 4 (drop 1 l)) same),
  group_same b e few.b_few (ap (λ l. take 4 (drop 5 l)) same),
  group_same n m few.n_few (ap (λ l. take 4 (drop 9 l)) same),
)

-- a row's line tells the row
pub row_same : (r q : Row) → FewRow q → row_line r ≡ row_line q → r ≡ q
row_same r q few same =
    let e = line_same _ _ _ _ _ _ _ _ few same in
    row_is q r.letter r.a r.b r.n (sym e.0) (sym e.1) (sym e.2) (sym e.3)

-- the lines of rows tell the rows
rows_same : (rs qs : List Row) → ((q : Row) → q ∈ qs → FewRow q) → row_lines rs ≡ row_lines qs → rs ≡ qs
rows_same [] [] few e = refl
rows_same [] (q ∷ qs) few e = absurd (let z : ◌≡◌ {A = ℕ} 0 1 = cc in omega arith)
rows_same (r ∷ rs) [] few e = absurd (let z : ◌≡◌ {A = ℕ} 0 1 = cc in omega arith)
rows_same (r ∷ rs) (q ∷ qs) few e =
    let first = row_same r q (few q (here qs refl)) (ap (take 14) e) in
    let rest = rows_same rs qs (λ x m. few x (there qs m)) (ap (drop 14) e) in
    ap (λ (x : Row). x ∷ rs) first ∙ ap (λ (xs : List Row). q ∷ xs) rest

-- the counts of a text are few
pub few_counts : {text : List ℕ} {c p : ℕ} {rows : List Row} → IsText text c p rows → Few c p (length rows)
few_counts t = record { a_few = omega (arith, t.few_classes); b_few = omega (arith, t.few_arrows); n_few = omega (arith, t.few_rows) }

-- a text tells its counts and its rows
pub text_same : {text : List ℕ} {c p d q : ℕ} {rows others : List Row} → IsText text c p rows → IsText text d q others → (c ≡ d) × (p ≡ q) × (rows ≡ others)
text_same {text} {c} {p} {d} {q} {rows} {others} t u =
    let same : text_of c p rows ≡ text_of d q others = sym t.bytes ∙ u.bytes in
    let head = line_same 72 c p (length rows) 72 d q (length others) (few_counts u) (ap (take 14) same) in
    (head.1, head.2, rows_same rows others (λ r m. sound_few d q r u.few_classes u.few_arrows (u.sound r m)) (ap (drop 14) same))
