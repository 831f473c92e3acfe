-- A text from its lines.
use Rattle.std.proofs.Common.{◌≡◌, ℕ, zero, suc, ◌+◌, ◌*◌, ◌<◌, ◌≤◌, List, [], ◌∷◌, ◌++◌, length, get_or, take, drop, sym, refl, ap, ◌∙◌, subst, arith, length-append, length-drop, drop-drop, below_more}
use Rattle.std.proofs.lemmas.List.{take-append-drop, nil_from_length, get_or_append_left, get_or_push}
use Rattle.std.specs.Simd.{first_chunks}
use Rattle.schema.specs.declared.row.Row.{Row}
use Rattle.schema.specs.declared.faults.LineFault.{LineFault}
use Rattle.schema.specs.declared.faults.TextFault.TheVariants.{Line}
use Rattle.schema.specs.Rows.{Sound}
use Rattle.schema.specs.TextSheets.{TextRead}
use Rattle.schema.specs.Texts.{line_at, row_line, row_lines, IsText, Heads, Until, TextFaulty, row_form, row_unsound}
use Rattle.schema.specs.Columns.{head_line, LineFaulty, out_of_form, unsound, Headed, RowsRead, blank_row}
use Rattle.schema.proofs.Members.{every_∈}

-- what line 1 tells, from what was read of it
pub heads_from : (text : List ℕ) (c p n : ℕ) → 14 ≤ length text → (c ≤ 9999) × (p ≤ 9999) × (n ≤ 9999) × (line_at text 0 ≡ head_line c p n) → Heads text c p n
heads_from text c p n h (hc, hp, hn, s) = record { long = h; c_fits = hc; p_fits = hp; n_fits = hn; first = s }

-- a chunk of 14 bytes
chunk_at : (k i : ℕ) (xs d : List ℕ) → i < k → get_or (first_chunks 14 k xs) i d ≡ line_at xs i
chunk_at zero i xs d h = absurd (omega arith)
chunk_at (suc k) zero xs d h = refl
chunk_at (suc k) (suc i) xs d h =
    let next : 14 + 14 * i ≡ 14 * suc i = omega arith in
    chunk_at k i (drop 14 xs) d (omega arith) ∙ ap (take 14) (drop-drop (14 * i) 14 xs ∙ ap (λ n. drop n xs) next)

-- the chunks of the text after line 1 are its lines
pub line_chunk : (text : List ℕ) (k i : ℕ) (d : List ℕ) → i < k → get_or (first_chunks 14 k (drop 14 text)) i d ≡ line_at text (i + 1)
line_chunk text k i d h =
    let next : 14 + 14 * i ≡ 14 * (i + 1) = omega arith in
    chunk_at k i (drop 14 text) d h ∙ ap (take 14) (drop-drop (14 * i) 14 text ∙ ap (λ n. drop n text) next)

-- the rows read so far, and the line that comes next
pub until_from : (text : List ℕ) (c p n i : ℕ) (rows : List Row) → Headed text c p n → i < n → length rows ≡ i → RowsRead text c p rows → Until text c p n i
until_from text c p n i rows h l e read = record {
  heads = h.heads;
  few_classes = h.few_classes;
  few_arrows = h.few_arrows;
  few_rows = h.few_rows;
  long = h.long;
  within = l;
  before = λ j b. let k : j < length rows = omega arith in (get_or rows j blank_row, (read j k).0, (read j k).1);
}

-- a fault of a row's line is one of the text
pub faulty_from : (text l : List ℕ) (c p n i number : ℕ) (f : LineFault) → number ≡ i + 2 → Until text c p n i → l ≡ line_at text (i + 1) → LineFaulty l number c p f → TextFaulty text (Line f)
faulty_from text l c p n i number f second u e (out_of_form k bad) = rw second (row_form c p n i k u (rw e at bad))
faulty_from text l c p n i number f second u e (unsound field r w s bad) = rw second (row_unsound c p n i field r u w (sym e ∙ s) bad)

-- one more row
pub rows_more : (text : List ℕ) (c p : ℕ) (rows : List Row) (i : ℕ) (r : Row) → length rows ≡ i → RowsRead text c p rows
    → (line_at text (i + 1) ≡ row_line r) × Sound c p r → RowsRead text c p (rows ++ r ∷ [])
rows_more text c p rows i r e read here =
    let Here : ℕ → Row → Type 0 = λ j x. (line_at text (j + 1) ≡ row_line x) × Sound c p x in
    let both : (j : ℕ) → j < i + 1 → Here j (get_or (rows ++ r ∷ []) j blank_row) =
    below_more (λ j. Here j (get_or (rows ++ r ∷ []) j blank_row)) i
    (λ j l. let k : j < length rows = omega arith in subst (Here j) (sym (get_or_append_left rows (r ∷ []) blank_row j k)) (read j k))
    (subst (Here i) (sym (get_or_push rows r blank_row i e)) here) in
    λ j l. both j (omega (arith, length-append rows (r ∷ [])))

-- lines of 14 bytes, one for each row
lines_join : (rows : List Row) (bytes : List ℕ) → length bytes ≡ 14 * length rows
    → ((j : ℕ) → j < length rows → take 14 (drop (14 * j) bytes) ≡ row_line (get_or rows j blank_row)) → bytes ≡ row_lines rows
lines_join [] bytes h each = nil_from_length bytes h
lines_join (r ∷ rs) bytes h each =
    let long : length (drop 14 bytes) ≡ 14 * length rs = simp length-drop (omega arith) in
    let rest = lines_join rs (drop 14 bytes) long (λ j l.
    let next : 14 + 14 * j ≡ 14 * suc j = omega arith in
    ap (take 14) (drop-drop (14 * j) 14 bytes ∙ ap (λ n. drop n bytes) next) ∙ each (suc j) (omega arith)) in
    sym (take-append-drop 14 bytes) ∙ ap (λ y. y ++ drop 14 bytes) (each 0 (omega arith)) ∙ ap (λ y. row_line r ++ y) rest

-- a text whose lines have all been read
text_from : (text : List ℕ) (c p : ℕ) (rows : List Row) → Headed text c p (length rows) → RowsRead text c p rows → IsText text c p rows
text_from text c p rows h read =
    let total : length text ≡ 14 * (length rows + 1) = h.long in
    let long : length (drop 14 text) ≡ 14 * length rows = simp length-drop (omega arith) in
    let rest : drop 14 text ≡ row_lines rows = lines_join rows (drop 14 text) long (λ j l.
    let next : 14 + 14 * j ≡ 14 * (j + 1) = omega arith in
    ap (take 14) (drop-drop (14 * j) 14 text ∙ ap (λ n. drop n text) next) ∙ (read j l).0) in
    record {
      few_classes = h.few_classes;
      few_arrows = h.few_arrows;
      few_rows = h.few_rows;
      sound = every_∈ (Sound c p) rows blank_row (λ j l. (read j l).1);
      bytes = sym (take-append-drop 14 text) ∙ ap (λ y. y ++ drop 14 text) h.heads.first ∙ ap (λ y. head_line c p (length rows) ++ y) rest;
    }

-- what a sheet that was read shows
pub read_from : (text : List ℕ) (c p : ℕ) (rows : List Row) → Headed text c p (length rows) × RowsRead text c p rows
    → TextRead text (record { classes = c; arrows = p; rows = rows; capacity = length rows })
read_from text c p rows (h, read) = record { tells = text_from text c p rows h read; full = refl }
