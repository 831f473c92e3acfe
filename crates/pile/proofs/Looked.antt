-- What a look tells, from what the calls of a sheet ensure.
use Rattle.std.proofs.Common.{◌≡◌, ℕ, Bool, List, length, vec_items, Option, Result, Vec, sym, subst}
use Rattle.std.specs.List.{slice_get}
use Rattle.std.specs.declared.alloc.Global.{Global}
use Rattle.schema.specs.declared.row.Row.{Row}
use Rattle.schema.specs.declared.faults.VerdictFault.{VerdictFault}
use Rattle.schema.specs.declared.faults.QuestionFault.{QuestionFault}
use Rattle.schema.specs.Asked.{Asked}
use Rattle.schema.specs.Sheets.{Shown}
use Rattle.schema.specs.Verdicts.{Verdict}
use Rattle.pile.specs.declared.request.Look.{Look}
use Rattle.pile.specs.declared.request.Look.TheVariants as look
use Rattle.pile.specs.declared.request.Sight.TheVariants as sight
use Rattle.pile.specs.Lives.{Sees, counts, capacity, len, row_at, judged, asked}

-- the two counts
pub counts_seen : {s : Shown} {l : Look} {a b : ℕ} → l ≡ look.Counts → a ≡ s.classes → b ≡ s.arrows → Sees s l (sight.Counts a b)
counts_seen e f g = rw (e, f, g) counts

-- the capacity
pub capacity_seen : {s : Shown} {l : Look} {n : ℕ} → l ≡ look.Capacity → n ≡ s.capacity → Sees s l (sight.Capacity n)
capacity_seen e f = rw (e, f) capacity

-- the number of rows
pub len_seen : {s : Shown} {l : Look} {n : ℕ} → l ≡ look.Len → n ≡ length s.rows → Sees s l (sight.Len n)
len_seen e f = rw (e, f) len

-- row k
pub row_seen : {s : Shown} {l : Look} {k : ℕ} {r : Option Row} → l ≡ look.RowAt k → r ≡ slice_get s.rows k → Sees s l (sight.RowAt r)
row_seen e f = rw (e, f) (row_at _)

-- the verdict
pub verdict_seen : {s : Shown} {l : Look} {before after : Vec ℕ Global} {r : Result ℕ VerdictFault} → l ≡ look.Verdict before
    → Verdict s (vec_items before) r (vec_items after) → length (vec_items after) ≡ length (vec_items before) → Sees s l (sight.Judged r after)
verdict_seen e h n = rw e (judged _ _ _ h n)

-- the question
pub question_seen : {s : Shown} {l : Look} {row : Row} {r : Result Bool QuestionFault} → l ≡ look.Question row → Asked s row r → Sees s l (sight.Asked r)
question_seen e h = rw e (asked _ _ h)

-- the verdict on a table, told of the bytes that it holds before and after
pub verdict_held : (s : Shown) (lent held written left : List ℕ) (r : Result ℕ VerdictFault) → lent ≡ held → left ≡ written → Verdict s lent r written
    → Verdict s held r left
verdict_held s lent held written left r e f h =
    subst (λ (xs : List ℕ). Verdict s held r xs) (sym f) (subst (λ (xs : List ℕ). Verdict s xs r written) e h)
