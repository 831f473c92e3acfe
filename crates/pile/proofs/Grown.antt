-- A pile whose top part gets rows at its end.
use Rattle.std.proofs.Common.{◌≡◌, ℕ, ◌+◌, ◌<◌, ◌≤◌, List, [], ◌∷◌, ◌++◌, length, take, Ok, Err, Result, IsOk, sym, refl, ap, ◌∙◌, subst, arith, length-append}
use Rattle.std.proofs.lemmas.List.{append-nil, length-take-le}
use Rattle.schema.specs.declared.row.Row.{Row}
use Rattle.schema.specs.declared.faults.EnterFault.{EnterFault}
use Rattle.schema.specs.declared.faults.EnterFault.TheVariants.{Full}
use Rattle.schema.specs.Sheets.{Shown, with_rows}
use Rattle.pile.specs.Lives.{Entering}
use Rattle.pile.specs.Plain.{Plain, Lowest, Layer, trial, strike, layered, top, grown_from, grown}
use Rattle.pile.specs.Strikes.{strike_shows}
use Rattle.pile.specs.Trials.{trial_shows, shown_length}
use Rattle.pile.proofs.Shows.{more_rows}

-- where a part has room for rows, it shows them at its end
pub top_grown : (l : Lowest) (ls : List Layer) (rows : List Row) → length (layered l.shown ls).rows + length rows ≤ (layered l.shown ls).capacity
    → top (grown_from l ls rows) ≡ with_rows (layered l.shown ls) ((layered l.shown ls).rows ++ rows)
top_grown l [] rows room = refl
top_grown l (trial own ∷ ls) [] room =
    let s = layered l.shown ls in
    ap (trial_shows s) (append-nil own) ∙ ap (with_rows (trial_shows s own)) (sym (append-nil (trial_shows s own).rows))
top_grown l (trial own ∷ ls) (r ∷ rs) room =
    let s = layered l.shown ls in
    ap (with_rows (trial_shows s own)) (more_rows 65535 s.rows own (r ∷ rs) (omega (arith, shown_length 65535 s.rows own)))
top_grown l (strike struck ∷ ls) [] room =
    let s = layered l.shown ls in
    ap (with_rows (strike_shows s struck)) (sym (append-nil (strike_shows s struck).rows))
top_grown l (strike struck ∷ ls) (r ∷ rs) room = absurd (omega arith)

-- there is room for the next of the rows
grown_room : (p : Plain) (rows : List Row) (k : ℕ) → k < length rows → length (top p).rows + length rows ≤ (top p).capacity
    → length (top (grown p (take k rows))).rows < (top (grown p (take k rows))).capacity
grown_room p rows k l room =
    let few : length (take k rows) ≡ k = length-take-le k rows (omega arith) in
    let e = top_grown p.lowest p.layers (take k rows) (omega arith) in
    let long : length (top (grown p (take k rows))).rows ≡ length (top p).rows + length (take k rows) = ap (λ (s : Shown). length s.rows) e ∙ length-append (top p).rows (take k rows) in
    let same : (top (grown p (take k rows))).capacity ≡ (top p).capacity = ap (λ (s : Shown). s.capacity) e in
    omega arith

-- so that none of them is refused
pub put_fits : (p t q : Plain) (rows : List Row) (k : ℕ) (r : Row) (o : Result Unit EnterFault) → t ≡ grown p (take k rows) → k < length rows
    → length (top p).rows + length rows ≤ (top p).capacity → Entering t r o q → IsOk o
put_fits p t q rows k r (Ok u) e l room h = refl
put_fits p t q rows k r (Err Full) e l room h =
    let open-yet = subst (λ (x : Plain). length (top x).rows < (top x).capacity) (sym e) (grown_room p rows k l room) in absurd (omega (arith, h.0))
