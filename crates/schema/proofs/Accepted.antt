-- An accepted text has no fault, and neither has what it tells.
use Rattle.std.proofs.Common.{◌≡◌, ℕ, zero, suc, ◌+◌, ◌*◌, ◌<◌, true, List, [], ◌∷◌, length, get_or, take, drop, is_some, Some, None, Option, sym, refl, ap, ◌∙◌, subst, inl, inr, le_of_suc-le-suc, not-suc-le-zero, arith}
use Rattle.std.proofs.lemmas.List.Elements.{Contains-get_or}
use Rattle.std.proofs.lemmas.List.{drop-drop}
use Rattle.schema.specs.declared.row.Row.{Row}
use Rattle.schema.specs.declared.letters.Shape.{Shape}
use Rattle.schema.specs.declared.faults.TextFault.{TextFault}
use Rattle.schema.specs.declared.faults.SheetFault.{SheetFault}
use Rattle.schema.specs.Columns.{blank_row}
use Rattle.schema.specs.Rows.{shape_of, Fits, Sound, Unsound, letter_unsound, a_unsound, b_unsound, n_unsound}
use Rattle.schema.specs.Texts.{line, row_line, row_lines, text_of, line_at, RowLetter, WellFormed, IsText, Heads, TextFaulty, too_short, header_form, too_large, wrong_length, row_form, row_unsound}
use Rattle.schema.specs.Verdicts.{SheetFaulty, over_limits, unsound_row}
use Rattle.schema.proofs.Members.{nth_∈}
use Rattle.schema.proofs.RowLines.{length_text}
use Rattle.schema.proofs.Uniques.{sound_few, line_same, row_same, few_counts}

-- no field of a sound row is unsound
sound_not : {c p : ℕ} {r : Row} {field : ℕ} → Sound c p r → Unsound c p r field → ⊥
sound_not {c} {p} {r} h (letter_unsound e) = subst (Fits c p r) e h
sound_not {c} {p} {r} h (a_unsound s e l) = let f = subst (Fits c p r) e h in omega (arith, f.0)
sound_not {c} {p} {r} h (b_unsound s e _ l) = let f = subst (Fits c p r) e h in omega (arith, f.1)
sound_not {c} {p} {r} h (n_unsound s e _ _ (inl l)) = let f = subst (Fits c p r) e h in omega (arith, f.2)
sound_not {c} {p} {r} h (n_unsound s e _ _ (inr l)) = let f = subst (Fits c p r) e h in omega (arith, f.3)

-- what a text tells has a text
pub told_faultless : {text : List ℕ} {c p : ℕ} {rows : List Row} {f : SheetFault} → IsText text c p rows → SheetFaulty c p rows f → ⊥
told_faultless t (over_limits (inl l)) = omega (arith, t.few_classes)
told_faultless t (over_limits (inr (inl l))) = omega (arith, t.few_arrows)
told_faultless t (over_limits (inr (inr l))) = omega (arith, t.few_rows)
told_faultless {rows = rows} t (unsound_row k field r _ e _ bad) = sound_not (t.sound r (nth_∈ r rows k e)) bad

-- line i of the lines of rows is that of row i
row_line_lem : (rows : List Row) (i : ℕ) → i < length rows → line_at (row_lines rows) i ≡ row_line (get_or rows i blank_row)
row_line_lem [] i l = absurd (not-suc-le-zero l)
row_line_lem (r ∷ rs) zero l = refl
row_line_lem (r ∷ rs) (suc i) l =
    let n : 14 * suc i ≡ 14 + 14 * i = omega arith in
    ap (take 14) (ap (λ k. drop k (row_lines (r ∷ rs))) n ∙ sym (drop-drop (14 * i) 14 (row_lines (r ∷ rs)))) ∙ row_line_lem rs i (le_of_suc-le-suc l)

-- a sound row has one of the letters
sound_letter : (c p : ℕ) (r : Row) (o : Option Shape) → Fits c p r o → is_some o ≡ true
sound_letter c p r None h = absurd h
sound_letter c p r (Some s) h = refl

module _ {text : List ℕ} {c p : ℕ} {rows : List Row} (t : IsText text c p rows) where
  -- the length of the text
  long : length text ≡ 14 * (length rows + 1)
  long = ap length t.bytes ∙ length_text c p rows

  -- its first line
  header : line_at text 0 ≡ line 72 c p (length rows)
  header = ap (λ x. line_at x 0) t.bytes

  -- which tells these counts and no others
  heads_same : {d q n : ℕ} → Heads text d q n → (d ≡ c) × (q ≡ p) × (n ≡ length rows)
  heads_same {d} {q} {n} h = let e = line_same 72 d q n 72 c p (length rows) (few_counts t) (sym h.first ∙ header) in (e.1, e.2, e.3)

  -- the line of row i
  row_at : (i : ℕ) → i < length rows → line_at text (i + 1) ≡ row_line (get_or rows i blank_row)
  row_at i l =
      let n : 14 * (i + 1) ≡ 14 + 14 * i = omega arith in
      ap (λ x. line_at x (i + 1)) t.bytes ∙ ap (take 14) (ap (λ k. drop k (text_of c p rows)) n ∙ sym (drop-drop (14 * i) 14 (text_of c p rows))) ∙ row_line_lem rows i l

  -- which is sound
  sound_at : (i : ℕ) → i < length rows → Sound c p (get_or rows i blank_row)
  sound_at i l = t.sound _ (Contains-get_or rows i blank_row l)

  -- and in form
  form_at : (i : ℕ) → i < length rows → WellFormed RowLetter (row_line (get_or rows i blank_row))
  form_at i l =
      let r = get_or rows i blank_row in
      let few = sound_few c p r t.few_classes t.few_arrows (sound_at i l) in
      record {
        letter = r.letter;
        a = r.a;
        b = r.b;
        n = r.n;
        begins = sound_letter c p r (shape_of r.letter) (sound_at i l);
        a_fits = omega (arith, few.a_few);
        b_fits = omega (arith, few.b_few);
        n_fits = omega (arith, few.n_few);
        spelled = refl;
      }

  pub faultless : {f : TextFault} → TextFaulty text f → ⊥
  faultless (too_short l) = omega (arith, long)
  faultless (header_form k _ bad) =
      let few = few_counts t in
      bad.none (line 72 c p (length rows))
      (record { letter = 72; a = c; b = p; n = length rows; begins = refl; a_fits = omega (arith, few.a_few); b_fits = omega (arith, few.b_few); n_fits = omega (arith, few.n_few); spelled = refl })
      (ap (take k) (sym header))
  faultless (too_large d q n h (inl l)) = let e = heads_same h in omega (arith, e.0, t.few_classes)
  faultless (too_large d q n h (inr (inl l))) = let e = heads_same h in omega (arith, e.1, t.few_arrows)
  faultless (too_large d q n h (inr (inr l))) = let e = heads_same h in omega (arith, e.2, t.few_rows)
  faultless (wrong_length d q n h _ _ _ bad) = bad (long ∙ ap (λ k. 14 * (k + 1)) (sym (heads_same h).2))
  faultless (row_form d q n i k u bad) =
      let l : i < length rows = omega (arith, u.within, (heads_same u.heads).2) in
      bad.none _ (form_at i l) (ap (take k) (sym (row_at i l)))
  faultless (row_unsound d q n i field r u _ e bad) =
      let same = heads_same u.heads in
      let l : i < length rows = omega (arith, u.within, same.2) in
      let few = sound_few c p (get_or rows i blank_row) t.few_classes t.few_arrows (sound_at i l) in
      let is-r = row_same r (get_or rows i blank_row) few (sym e ∙ row_at i l) in
      sound_not (sound_at i l) (rw (same.0, same.1, is-r) at bad)
