-- One list written over another: how the pieces of a text join.
use Rattle.std.proofs.Common.{◌≡◌, ℕ, ◌+◌, ◌<◌, ◌≤◌, List, [], ◌∷◌, ◌++◌, length, take, drop, set, sym, refl, ap, ◌∙◌, add-zero, add_assoc, zero-add, add-one, arith}
use borrow.Rule.Slice.PartMut.{put_mid}
use Rattle.std.proofs.lemmas.List.{append_assoc, length-append, length-take-le, take_at, drop_at, drop-drop, set_split, take-append-drop}
use Rattle.schema.specs.Texts.{group, line}
use Rattle.schema.specs.Printing.{spliced}

-- a write at one place is a splice of one element
pub set_spliced : (at b : ℕ) (s : List ℕ) → at < length s → set s at b ≡ spliced at (b ∷ []) s
set_spliced at b s h = rw (add-one, set_split s at b h)

-- a copy into a part is a splice
pub part_spliced : (at k : ℕ) (s ys zs : List ℕ) → ys ≡ zs → k ≡ length zs → put_mid at k s ys ≡ spliced at zs s
part_spliced at k s ys zs e n = rw (e, n, drop-drop (length zs) at s)

module _ (at : ℕ) (xs s : List ℕ) (within : at ≤ length s) where
  -- the length of what stands up to a splice's end
  front : length (take at s ++ xs) ≡ at + length xs
  front = simp length-append (ap (λ n. n + length xs) (length-take-le at s within))

  -- the front of a splice
  pub take_spliced : take (at + length xs) (spliced at xs s) ≡ take at s ++ xs
  take_spliced =
      rw (← append_assoc (take at s) xs (drop (at + length xs) s))
      (take_at (take at s ++ xs) (drop (at + length xs) s) (at + length xs) front)

  -- what is past a splice stays
  pub drop_spliced : drop (at + length xs) (spliced at xs s) ≡ drop (at + length xs) s
  drop_spliced =
      rw (← append_assoc (take at s) xs (drop (at + length xs) s))
      (drop_at (take at s ++ xs) (drop (at + length xs) s) (at + length xs) front)

  -- so does what is further on
  past : (m : ℕ) → drop ((at + length xs) + m) (spliced at xs s) ≡ drop ((at + length xs) + m) s
  past m = sym (drop-drop m (at + length xs) (spliced at xs s)) ∙ (ap (λ l. drop m l) drop_spliced ∙ drop-drop m (at + length xs) s)

  -- a splice right after a splice is one splice
  pub spliced_spliced : (ys : List ℕ) → spliced (at + length xs) ys (spliced at xs s) ≡ spliced at (xs ++ ys) s
  spliced_spliced ys =
      let end = at + length xs in
      rw (take_spliced, past (length ys), append_assoc (take at s) xs (ys ++ drop (end + length ys) s))
      (rw (append_assoc xs ys (drop (at + length (xs ++ ys)) s), length-append xs ys, add_assoc at (length xs) (length ys)))

-- the next piece of a text: what stands so far is xs from `at` on, and ys goes to its end
pub spliced_more : (at end : ℕ) (xs ys s now : List ℕ) → at ≤ length s → end ≡ at + length xs → now ≡ spliced at xs s
    → spliced end ys now ≡ spliced at (xs ++ ys) s
spliced_more at end xs ys s now within e f = rw (e, f) (spliced_spliced at xs s within ys)

-- a splice at the start is the text, then what was there past its end
pub spliced_start : (xs s : List ℕ) → spliced 0 xs s ≡ xs ++ drop (length xs) s
spliced_start xs s = rw zero-add

-- nothing written yet
pub spliced_none : (at : ℕ) (s : List ℕ) → s ≡ spliced at [] s
spliced_none at s = rw (add-zero, take-append-drop)

-- a letter, three groups and a line feed, each written right after the one before, are a line
pub line_spliced : (at letter a b n : ℕ) (s after-a after-b after-n : List ℕ) → at + 14 ≤ length s → at + 13 < length after-n
    → after-a ≡ spliced (at + 1) (group a) (set s at letter) → after-b ≡ spliced (at + 5) (group b) after-a
    → after-n ≡ spliced (at + 9) (group n) after-b → set after-n (at + 13) 10 ≡ spliced at (line letter a b n) s
line_spliced at letter a b n s after-a after-b after-n fits room ea eb en =
    let within : at ≤ length s = omega arith in
    let first = set_spliced at letter s (omega arith) in
    let as-a = ea ∙ spliced_more at (at + 1) (letter ∷ []) (group a) s _ within refl first in
    let as-b = eb ∙ spliced_more at (at + 5) (letter ∷ group a) (group b) s _ within refl as-a in
    let as-n = en ∙ spliced_more at (at + 9) (letter ∷ (group a ++ group b)) (group n) s _ within refl as-b in
    let all = letter ∷ (group a ++ (group b ++ group n)) in
    set_spliced (at + 13) 10 after-n room ∙ spliced_more at (at + 13) all (10 ∷ []) s _ within refl as-n
