-- The life of a pile, told of the plain pile.
--   Sees          what a look at a part that shows s tells
--   Entering      a row entered into the top part
--   Loading       a text loaded into the top part
--   AtTop         a call on the top part
--   Common        a call on the top part, where it has none of its own
--   Step          a call on any part
--   Moment        what holds of a pile between two calls
--   Life          calls in a row, one answer to each
--   WholeLife     a pile that is made and then lives
use Rattle.std.specs.Prelude.{◌≡◌, ℕ, ◌+◌, ◌<◌, ◌≤◌, Bool, true, false, List, [], ◌∷◌, length, Ok, Err, vec_items, Result, Vec}
use Rattle.std.specs.List.{slice_get}
use Rattle.std.specs.declared.alloc.Global.{Global}
use Rattle.schema.specs.declared.row.Row.{Row}
use Rattle.schema.specs.declared.faults.EnterFault.{EnterFault}
use Rattle.schema.specs.declared.faults.AmendFault.{AmendFault}
use Rattle.schema.specs.declared.faults.LoadFault.{LoadFault}
use Rattle.schema.specs.declared.faults.VerdictFault.{VerdictFault}
use Rattle.schema.specs.declared.faults.QuestionFault.{QuestionFault}
use Rattle.schema.specs.Asked.{Asked}
use Rattle.schema.specs.Books.{Amended}
use Rattle.schema.specs.Loading.{Named, Loaded}
use Rattle.schema.specs.Rows.{◌∈◌}
use Rattle.schema.specs.Sheets.{Shown, Takes}
use Rattle.schema.specs.Verdicts.{Verdict}
use Rattle.pile.specs.declared.faults.RestoreFault.{RestoreFault}
use Rattle.pile.specs.declared.faults.StrikeFault.{StrikeFault}
use Rattle.pile.specs.declared.request.Answer.{Answer}
use Rattle.pile.specs.declared.request.Answer.TheVariants as answer
use Rattle.pile.specs.declared.request.Call.{Call}
use Rattle.pile.specs.declared.request.Call.TheVariants as call
use Rattle.pile.specs.declared.request.Look.{Look}
use Rattle.pile.specs.declared.request.Look.TheVariants as look
use Rattle.pile.specs.declared.request.Request.{Request}
use Rattle.pile.specs.declared.request.Sight.{Sight}
use Rattle.pile.specs.declared.request.Sight.TheVariants as sight
use Rattle.pile.specs.Plain.{Plain, Layer, Kind, trial, strike, alone, over, fresh, top, parts, grown, is_book, is_trial, is_strike}
use Rattle.pile.specs.Strikes.{Struck, Restored}
use Rattle.schema.specs.Promises.{TrueOf}

pub data Sees (s : Shown) : Look → Sight → Type 0 where
  counts : Sees s look.Counts (sight.Counts s.classes s.arrows)
  capacity : Sees s look.Capacity (sight.Capacity s.capacity)
  len : Sees s look.Len (sight.Len (length s.rows))
  row_at : (k : ℕ) → Sees s (look.RowAt k) (sight.RowAt (slice_get s.rows k))
  -- the table that comes back is as long as it was
  judged : (before after : Vec ℕ Global) (r : Result ℕ VerdictFault) → Verdict s (vec_items before) r (vec_items after)
      → length (vec_items after) ≡ length (vec_items before) → Sees s (look.Verdict before) (sight.Judged r after)
  asked : (row : Row) (r : Result Bool QuestionFault) → Asked s row r → Sees s (look.Question row) (sight.Asked r)

abbrev pub Entering : Plain → Row → Result Unit EnterFault → Plain → Type 0
Entering p row = Takes (top p) p (grown p (row ∷ []))

-- all rows of the text go to the end in their order, or else nothing changes
abbrev pub Loading : Plain → List ℕ → Result Unit LoadFault → Plain → Type 0
Loading p text (Ok u) q =
    (c : ℕ) × (d : ℕ) × (rows : List Row) × Named (top p) text c d rows × (length (top p).rows + length rows ≤ (top p).capacity) × (q ≡ grown p rows)
Loading p text (Err f) q = Loaded (top p) text (Err f) (top p) × (q ≡ p)

pub data AtTop : Plain → Call → Answer → Plain → Type 0 where
  entered : {p q : Plain} {row : Row} {r : Result Unit EnterFault} → Entering p row r q
      → AtTop p (call.Enter row) (answer.Entered r) q
  amended : {s t : Shown} {k : ℕ} {row : Row} {r : Result Unit AmendFault} → Amended s k row r t
      → AtTop (alone s true) (call.Amend k row) (answer.Amended r) (alone t true)
  withdrawn : {p : Plain} {own : List Row}
      → AtTop (over (trial own) p) call.Withdraw (answer.Withdrawn (length own)) (over (trial []) p)
  struck : {p : Plain} {before after : List ℕ} {k : ℕ} {r : Result Unit StrikeFault} → Struck (top p) before k r after
      → AtTop (over (strike before) p) (call.Strike k) (answer.Struck r) (over (strike after) p)
  restored : {p : Plain} {before after : List ℕ} {k : ℕ} {r : Result Unit RestoreFault} → Restored before k r after
      → AtTop (over (strike before) p) (call.Restore k) (answer.Restored r) (over (strike after) p)
  loaded : {p q : Plain} {text : Vec ℕ Global} {r : Result Unit LoadFault} → Loading p (vec_items text) r q
      → AtTop p (call.Load text) (answer.Loaded r text) q
  seen : {p : Plain} {l : Look} {v : Sight} → Sees (top p) l v → AtTop p (call.Look l) (answer.Seen v) p
  no_book : {p : Plain} {k : ℕ} {row : Row} → is_book p.lowest.book p.layers ≡ false
      → AtTop p (call.Amend k row) (answer.NotHere (call.Amend k row)) p
  no_trial : {p : Plain} → is_trial p.layers ≡ false → AtTop p call.Withdraw (answer.NotHere call.Withdraw) p
  no_strike : {p : Plain} {k : ℕ} → is_strike p.layers ≡ false
      → AtTop p (call.Strike k) (answer.NotHere (call.Strike k)) p
  no_restore : {p : Plain} {k : ℕ} → is_strike p.layers ≡ false
      → AtTop p (call.Restore k) (answer.NotHere (call.Restore k)) p

-- of itself a part takes rows, loads texts and is looked at, and gives any other call back
abbrev pub Common : Plain → Call → Answer → Plain → Type 0
Common p (call.Enter row) a q = AtTop p (call.Enter row) a q
Common p (call.Load text) a q = AtTop p (call.Load text) a q
Common p (call.Look l) a q = AtTop p (call.Look l) a q
Common p c a q = (a ≡ answer.NotHere c) × (q ≡ p)

-- part 0 is the lowest sheet, and the layers follow upward; a call on one part leaves what the others hold
pub data Step : Plain → ℕ → Call → Answer → Plain → Type 0 where
  here : {p q : Plain} {c : Call} {a : Answer} → AtTop p c a q → Step p (length p.layers) c a q
  below : {p q : Plain} {l : Layer} {part : ℕ} {c : Call} {a : Answer} → part ≤ length p.layers → Step p part c a q
      → Step (over l p) part c a (over l q)
  no_part : {p : Plain} {part : ℕ} {c : Call} → length p.layers < part → Step p part c (answer.NoPart c) p

-- each part shows what it has in the plain pile, and what is told of it is true in all worlds
pub record Moment (p : Plain) (shown : List Shown) : Type 0 where
  pub agrees : shown ≡ parts p
  pub truths : (s : Shown) → s ∈ shown → TrueOf s

-- piles of the type P, by the plain pile that each stands for and by what its parts show
pub data Life (P : Type 0) (plain : P → Plain) (shown : P → List Shown) : P → List Request → List Answer → P → Type 0 where
  begun : {p : P} → Moment (plain p) (shown p) → Life P plain shown p [] [] p
  lived : {p q r : P} {c : Request} {a : Answer} {cs : List Request} {rest : List Answer} → Moment (plain p) (shown p)
      → Step (plain p) c.part c.call a (plain q) → Life P plain shown q cs rest r → Life P plain shown p (c ∷ cs) (a ∷ rest) r

-- at first every layer is new
pub record WholeLife (P : Type 0) (plain : P → Plain) (shown : P → List Shown) (lowest : Shown) (book : Bool) (kinds : List Kind) (requests : List Request) (answers : List Answer) (last : P) : Type 0 where
  pub first : P
  pub new : plain first ≡ fresh lowest book kinds
  pub life : Life P plain shown first requests answers last
