-- The text of a sheet, from the writes of its lines.
use Rattle.std.proofs.Common.{◌≡◌, ℕ, ◌+◌, ◌*◌, ◌<◌, ◌≤◌, List, [], ◌∷◌, ◌++◌, length, get_or, take, drop, sym, refl, ap, ◌∙◌, zero-le, arith}
use Rattle.std.proofs.lemmas.List.{append_assoc, append-nil, length-take-le, take_more}
use Rattle.schema.specs.declared.row.Row.{Row}
use Rattle.schema.specs.Printing.{spliced, Begun}
use Rattle.schema.specs.Prints.{Prints}
use Rattle.schema.specs.Rows.{AllSound}
use Rattle.schema.specs.Sheets.{Shown}
use Rattle.schema.specs.Texts.{line, row_line, row_lines, text_of, IsText}
use Rattle.schema.specs.Verdicts.{Small}
use Rattle.schema.proofs.Splices.{spliced_more, spliced_start}
use Rattle.schema.proofs.Uniques.{text_same}
use Rattle.schema.proofs.Writings.{begun_front, begun_later}

-- fourteen bytes for each row
length_rows : (rows : List Row) → length (row_lines rows) ≡ 14 * length rows
length_rows [] = refl
length_rows (r ∷ rs) = omega (arith, length_rows rs)

-- the length of a text
pub length_text : (c p : ℕ) (rows : List Row) → length (text_of c p rows) ≡ 14 * (length rows + 1)
length_text c p rows = omega (arith, length_rows rows)

-- one more row is one more line
rows_push : (rows : List Row) (r : Row) → row_lines (rows ++ r ∷ []) ≡ row_lines rows ++ row_line r
rows_push [] r = append-nil (row_line r)
rows_push (q ∷ rs) r = ap (λ l. row_line q ++ l) (rows_push rs r) ∙ sym (append_assoc (row_line q) (row_lines rs) (row_line r))

-- the lines of the first k rows, written from `at` on, and the next line right after them
pub lines_more : (at : ℕ) (rows : List Row) (k end : ℕ) (d : Row) (s now after : List ℕ) → at ≤ length s → k < length rows → end ≡ at + 14 * k
    → now ≡ spliced at (row_lines (take k rows)) s → after ≡ spliced end (row_line (get_or rows k d)) now → after ≡ spliced at (row_lines (take (k + 1) rows)) s
lines_more at rows k end d s now after within l e f g =
    let long : length (take k rows) ≡ k = length-take-le k rows (omega arith) in
    g ∙ spliced_more at end (row_lines (take k rows)) (row_line (get_or rows k d)) s now within (omega (arith, length_rows (take k rows))) f
    ∙ ap (λ l. spliced at l s) (sym (rows_push (take k rows) (get_or rows k d)) ∙ ap row_lines (sym (take_more rows k d l)))

-- the header and then the lines of the rows are the text
pub text_begun : (c p : ℕ) (rows : List Row) (len : ℕ) (before headed after : List ℕ) → len ≡ 14 * (length rows + 1) → len ≤ length before
    → headed ≡ spliced 0 (line 72 c p (length rows)) before → after ≡ spliced 14 (row_lines rows) headed → Begun (text_of c p rows) before len after
text_begun c p rows len before headed after e room f g =
    let whole : length (text_of c p rows) ≡ len = length_text c p rows ∙ sym e in
    record {
      whole = sym whole;
      short = room;
      bytes = g ∙ spliced_more 0 14 (line 72 c p (length rows)) (row_lines rows) before headed zero-le refl f ∙ spliced_start (text_of c p rows) before
          ∙ ap (λ n. text_of c p rows ++ drop n before) whole;
    }

-- a sheet whose text stands in the first bytes is printed
pub prints : (s : Shown) (c p : ℕ) (rows : List Row) {before after : List ℕ} {len : ℕ} → c ≡ s.classes → p ≡ s.arrows → rows ≡ s.rows
    → Small c p rows → AllSound c p rows → Begun (text_of c p rows) before len after → Prints s before len after
prints s c p rows {before} {after} {len} is_c is-p are within All-sound b =
    let t = rw (is_c, is-p, are) at b in
    let small = rw (is_c, is-p, are) at within in
    let tells : IsText (take len after) s.classes s.arrows s.rows = record {
      few_classes = small.few_classes;
      few_arrows = small.few_arrows;
      few_rows = small.few_rows;
      sound = rw (is_c, is-p, are) at All-sound;
      bytes = begun_front t;
    } in
    record {
      room = t.short;
      long = t.whole ∙ length_text s.classes s.arrows s.rows;
      tells = tells;
      only = λ c p rows u. text_same u tells;
      later = begun_later t;
    }
