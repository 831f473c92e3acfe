-- Where a line strays from its form, from where a part of it does.
use Rattle.std.proofs.Common.{◌≡◌, ℕ, suc, ◌+◌, ◌-◌, ◌<◌, ◌≤◌, List, [], ◌∷◌, ◌++◌, length, get_or, take, drop, sym, refl, ap, ◌∙◌, subst, add-suc, arith, Bool, true, false, Decides}
use lib.Seq.{take-append-le, take-append-add}
use Rattle.std.proofs.lemmas.Bool.Decides.{not_from_Decides}
use Rattle.std.proofs.lemmas.List.{drop_at}
use Rattle.schema.specs.Texts.{group, line, WellFormed, BadColumn}
use Rattle.schema.specs.Columns.{Strays, Group, Feed, Then, Tail, tail, LineStrays, wrong_letter, wrong_tail}

module _ (F G : List ℕ → Type 0) (m : ℕ) (long : (x : List ℕ) → F x → length x ≡ m) where
  -- a fault in the first part, if there is anything to go on with
  pub strays_first : (bytes more rest : List ℕ) (k : ℕ) → length bytes ≡ m → k < m → G rest → Strays F bytes k → Strays (Then F G) (bytes ++ more) k
  strays_first bytes more rest k size h g s =
      let room : suc k ≤ length bytes = omega arith in
      record {
        alike =
            let x = s.alike.0 in
            let l : k ≤ length x = omega (arith, long x s.alike.1) in
            let n : k ≤ length bytes = omega arith in
            (x ++ rest, (x, rest, s.alike.1, g, refl), take-append-le k x rest l ∙ s.alike.2 ∙ sym (take-append-le k bytes more n));
        none = λ l f e.
            let h : suc k ≤ length f.0 = omega (arith, long f.0 f.2) in
            s.none f.0 f.2 (sym (take-append-le (suc k) f.0 f.1 h) ∙ ap (take (suc k)) (sym f.4) ∙ e ∙ take-append-le (suc k) bytes more room);
      }

  -- the first m + k columns are the first part and k columns of the second
  take_second : (x y : List ℕ) (k : ℕ) → F x → take (m + k) (x ++ y) ≡ x ++ take k y
  take_second x y k f = ap (λ n. take (n + k) (x ++ y)) (sym (long x f)) ∙ take-append-add x y k

  -- a fault in the second part, after a first part in form
  pub strays_second : (first bytes : List ℕ) (k : ℕ) → F first → Strays G bytes k → Strays (Then F G) (first ++ bytes) (m + k)
  strays_second first bytes k f s = record {
    alike =
        let y = s.alike.0 in
        (first ++ y, (first, y, f, s.alike.1, refl), take_second first y k f ∙ ap (λ l. first ++ l) s.alike.2 ∙ sym (take_second first bytes k f));
    none = λ l g e.
        let x = g.0 in
        let same : x ++ take (suc k) g.1 ≡ first ++ take (suc k) bytes =
        sym (take_second x g.1 (suc k) g.2) ∙ ap (λ n. take n (x ++ g.1)) (add-suc m k) ∙ ap (take (suc (m + k))) (sym g.4) ∙ e
        ∙ ap (λ n. take n (first ++ bytes)) (sym (add-suc m k)) ∙ take_second first bytes (suc k) f in
        s.none g.1 g.3 (sym (drop_at x (take (suc k) g.1) m (long x g.2)) ∙ ap (drop m) same ∙ drop_at first (take (suc k) bytes) m (long first f));
  }

-- a group has four columns
pub group_long : (x : List ℕ) → Group x → length x ≡ 4
group_long x g = ap length g.2

-- a fault in a group, if there is anything to go on with
pub in_group : (G : List ℕ → Type 0) {whole bytes rest : List ℕ} (more : List ℕ) (j : ℕ) → whole ≡ bytes ++ more → length bytes ≡ 4 → G rest → j < 4 → Strays Group bytes j
    → Strays (Then Group G) whole j
in_group G {whole} {bytes} {rest} more j e size g h s = rw e (strays_first Group G 4 group_long bytes more rest j size h g s)

-- a fault after a group in form
pub after_group : (G : List ℕ → Type 0) {whole bytes more : List ℕ} {v : ℕ} (k : ℕ) → whole ≡ bytes ++ more → (v ≤ 9999) × (bytes ≡ group v) → Strays G more k
    → Strays (Then Group G) whole (4 + k)
after_group G {whole} {bytes} {more} {v} k e (h, f) s = rw e (strays_second Group G 4 group_long bytes more k (v, h, f) s)

-- what follows a second group, and a first
abbrev pub Three : List ℕ → Type 0
Three = Then Group Feed

abbrev pub Two : List ℕ → Type 0
Two = Then Group Three

-- there are such
pub three_some : Three (group 0 ++ 10 ∷ [])
three_some = (group 0, 10 ∷ [], (0, omega arith, refl), refl, refl)

pub two_some : Two (group 0 ++ (group 0 ++ 10 ∷ []))
two_some = (group 0, group 0 ++ 10 ∷ [], (0, omega arith, refl), three_some, refl)

-- a byte that is not the line feed
pub feed_strays : (x : ℕ) → (x ≡ 10 → ⊥) → Strays Feed (x ∷ []) 0
feed_strays x bad = record { alike = (10 ∷ [], refl, refl); none = λ m f e. bad (ap (λ y. get_or y 0 0) (sym e ∙ ap (take 1) f)) }

-- a letter, three groups and the line feed, one after another
pub line_spelled : {bytes first bs ns : List ℕ} (x a b n feed : ℕ) → bytes ≡ x ∷ (first ++ (bs ++ (ns ++ feed ∷ []))) → first ≡ group a → bs ≡ group b → ns ≡ group n → feed ≡ 10
    → bytes ≡ line x a b n
line_spelled x a b n feed is p q s e = is ∙ rw (p, q, s, e) refl

-- a line from its letter and its tail
whole : (Letter : ℕ → Type 0) (x : ℕ) (l : List ℕ) → Letter x → Tail l → WellFormed Letter (x ∷ l)
whole Letter x l begins t =
    let g = t.2 in
    let u = t.3 in
    let h = u.2 in
    let w = u.3 in
    let k = w.2 in
    record {
      letter = x;
      a = g.0;
      b = h.0;
      n = k.0;
      begins = begins;
      a_fits = g.1;
      b_fits = h.1;
      n_fits = k.1;
      spelled = ap (λ y. x ∷ y) (t.4 ∙ rw (g.2, u.4, h.2, w.4, k.2, w.3) refl);
    }

-- the tail of a line in form
tail_in_form : (a b n : ℕ) → a ≤ 9999 → b ≤ 9999 → n ≤ 9999 → Tail (tail a b n)
tail_in_form a b n ha hb hn = (group a, _, (a, ha, refl), (group b, _, (b, hb, refl), (group n, _, (n, hn, refl), refl, refl), refl), refl)

-- a line with a right letter strays where its tail does
tail_strays : (Letter : ℕ → Type 0) {bytes : List ℕ} (x : ℕ) (l : List ℕ) (k : ℕ) → bytes ≡ x ∷ l → Letter x → Strays Tail l k → BadColumn Letter bytes (k + 2)
tail_strays Letter x l k line-is begins s =
    let two : k + 2 ≡ suc (suc k) = omega arith in
    let one : suc (suc k) - 1 ≡ suc k = omega arith in
    rw (line-is, two) (record {
      counted = omega arith;
      alike = (x ∷ s.alike.0, whole Letter x s.alike.0 begins s.alike.1, rw one (ap (λ y. x ∷ y) s.alike.2));
      none = λ m w e.
          let f : line w.letter w.a w.b w.n ≡ m = sym w.spelled in
          s.none (tail w.a w.b w.n) (tail_in_form w.a w.b w.n w.a_fits w.b_fits w.n_fits) (ap (drop 1) (ap (take (suc (suc k))) f ∙ e));
    })

-- a line that begins with a wrong letter strays at once
letter_strays : (Letter : ℕ → Type 0) {bytes : List ℕ} (x : ℕ) (l : List ℕ) (good : ℕ) → bytes ≡ x ∷ l → Letter good → (Letter x → ⊥) → BadColumn Letter bytes 1
letter_strays Letter x l good line-is begins bad = rw line-is (record {
  counted = omega arith;
  alike = (line good 0 0 0, whole Letter good (tail 0 0 0) begins (tail_in_form 0 0 0 (omega arith) (omega arith) (omega arith)), refl);
  none = λ m w e.
      let same : w.letter ≡ x = ap (λ y. get_or y 0 0) (ap (take 1) (sym w.spelled) ∙ e) in
      bad (subst Letter same w.begins);
})

-- where a line strays, as its reading tells
pub bad_column : (Letter : ℕ → Type 0) (good : ℕ) → Letter good → (Begins : ℕ → Bool → Type 0) → ((x : ℕ) (b : Bool) → Begins x b → Decides b (Letter x))
    → {bytes : List ℕ} {column : ℕ} → LineStrays Begins bytes column → BadColumn Letter bytes column
bad_column Letter good stands Begins decides (wrong_letter x l line-is post first) = rw first (letter_strays Letter x l good line-is stands (not_from_Decides _ (decides x false post) refl))
bad_column Letter good stands Begins decides (wrong_tail x l k line-is post s at) = rw at (tail_strays Letter x l k line-is ((decides x true post).0 refl) s)
