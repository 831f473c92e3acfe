-- Rows that are entered one after another.
use Rattle.std.proofs.Common.{◌≡◌, ℕ, ◌+◌, ◌<◌, ◌≤◌, List, [], ◌∷◌, ◌++◌, length, get_or, take, Ok, Err, Result, sym, ap, ◌∙◌, arith, rules}
use Rattle.std.specs.Result.{IsOk}
use Rattle.std.proofs.lemmas.List.{append_assoc, length-append, length-take-le, take_all, take_more}
use Rattle.schema.specs.declared.row.Row.{Row}
use Rattle.schema.specs.declared.faults.EnterFault.{EnterFault}
use Rattle.schema.specs.declared.faults.EnterFault.TheVariants.{Full}
use Rattle.schema.specs.Sheets.{Shown, with_rows, Entered}

-- a sheet with the first k of some rows after its own
abbrev pub grown : Shown → List Row → ℕ → Shown
grown s rows k = with_rows s (s.rows ++ take k rows)

-- one more
pub grown_more : (s t u : Shown) (rows : List Row) (k : ℕ) (d : Row) → t ≡ grown s rows k → k < length rows
    → u ≡ with_rows t (t.rows ++ get_or rows k d ∷ []) → u ≡ grown s rows (k + 1)
grown_more s t u rows k d e l f =
    let r = get_or rows k d in
    f ∙ ap (λ (x : Shown). with_rows x (x.rows ++ r ∷ [])) e
    ∙ ap (with_rows s) (append_assoc s.rows (take k rows) (r ∷ []) ∙ ap (λ (rs : List Row). s.rows ++ rs) (sym (take_more rows k d l)))

-- all of them
pub grown_all : (s t : Shown) (rows : List Row) (k : ℕ) → t ≡ grown s rows k → length rows ≤ k → t ≡ with_rows s (s.rows ++ rows)
grown_all s t rows k e l = e ∙ ap (λ (rs : List Row). with_rows s (s.rows ++ rs)) (take_all k rows l)

-- the next is not refused
pub grown_room : (s t : Shown) (rows : List Row) (k : ℕ) (r : Row) (o : Result Unit EnterFault) (u : Shown) → t ≡ grown s rows k → k < length rows
    → length s.rows + length rows ≤ s.capacity → Entered t r o u → IsOk o
grown_room s t rows k r (Ok x) u e l room entered = search rules
grown_room s t rows k r (Err Full) u e l room refused =
    let cap : t.capacity ≡ s.capacity = ap (λ (x : Shown). x.capacity) e in
    let long : length t.rows ≡ length s.rows + k =
    ap (λ (x : Shown). length x.rows) e ∙ length-append s.rows (take k rows) ∙ ap (λ (n : ℕ). length s.rows + n) (length-take-le k rows (omega arith)) in
    absurd (omega (arith, refused.0))
