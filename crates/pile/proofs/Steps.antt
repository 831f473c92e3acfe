-- One call on a part of a pile, from what the calls of the parts ensure.
use Rattle.std.proofs.Common.{◌≡◌, ℕ, ◌+◌, ◌<◌, ◌≤◌, min, Bool, false, List, [], ◌∷◌, ◌++◌, length, Result, refl, subst, arith}
use Rattle.schema.specs.declared.row.Row.{Row}
use Rattle.schema.specs.Sheets.{Shown}
use Rattle.pile.specs.declared.faults.StrikeFault.{StrikeFault}
use Rattle.pile.specs.declared.request.Answer.{Answer}
use Rattle.pile.specs.declared.request.Answer.TheVariants as answer
use Rattle.pile.specs.declared.request.Call.{Call}
use Rattle.pile.specs.declared.request.Call.TheVariants as call
use Rattle.pile.specs.declared.request.Look.{Look}
use Rattle.pile.specs.declared.request.Request.{Request}
use Rattle.pile.specs.declared.request.Sight.{Sight}
use Rattle.pile.specs.Layers.{is_own}
use Rattle.pile.specs.Lives.{Sees, AtTop, Common, Step, Moment, Life, WholeLife, withdrawn, struck, seen, no_book, no_trial, no_strike, no_restore, here, below, no_part, begun, lived}
use Rattle.pile.specs.Plain.{Plain, Layer, Kind, fresh, trial, strike, over, top, is_book, is_trial, is_strike}
use Rattle.pile.specs.Strikes.{Struck}

-- a call told by an equation
pub called : {p q : Plain} {c d : Call} {a : Answer} → c ≡ d → AtTop p d a q → AtTop p c a q
called e h = rw e h

-- a call that every part has, told by an equation
pub called_common : (p q : Plain) (c d : Call) (a : Answer) → c ≡ d → Common p d a q → Common p c a q
called_common p q c d a e h = rw e h

-- a call on a part that has none of its own for it
pub no_own_call : (p q : Plain) (c : Call) (a : Answer) → ((k : ℕ) (row : Row) → c ≡ call.Amend k row → is_book p.lowest.book p.layers ≡ false)
    → (c ≡ call.Withdraw → is_trial p.layers ≡ false) → ((k : ℕ) → c ≡ call.Strike k → is_strike p.layers ≡ false)
    → ((k : ℕ) → c ≡ call.Restore k → is_strike p.layers ≡ false) → Common p c a q → AtTop p c a q
no_own_call p q (call.Enter row) a b t s r h = h
no_own_call p q (call.Amend k row) a b t s r h = rw (h.0, h.1) (no_book (b k row refl))
no_own_call p q call.Withdraw a b t s r h = rw (h.0, h.1) (no_trial (t refl))
no_own_call p q (call.Strike k) a b t s r h = rw (h.0, h.1) (no_strike (s k refl))
no_own_call p q (call.Restore k) a b t s r h = rw (h.0, h.1) (no_restore (r k refl))
no_own_call p q (call.Load text) a b t s r h = h
no_own_call p q (call.Look l) a b t s r h = h

-- a look at a part
pub part_seen : (p : Plain) (s : Shown) (l : Look) (v : Sight) → s ≡ top p → Sees s l v → Common p (call.Look l) (answer.Seen v) p
part_seen p s l v t h = seen (subst (λ (u : Shown). Sees u l v) t h)

-- a call that a layer has none of its own for: the part answers as every part does
no_trial_own : (l : Layer) (ls : List Layer) → is_own l call.Withdraw ≡ false → is_trial (l ∷ ls) ≡ false
no_trial_own (trial own) ls h = h
no_trial_own (strike numbers) ls h = refl

no_strike_own : (l : Layer) (ls : List Layer) (k : ℕ) → is_own l (call.Strike k) ≡ false → is_strike (l ∷ ls) ≡ false
no_strike_own (trial own) ls k h = refl
no_strike_own (strike numbers) ls k h = h

no_restore_own : (l : Layer) (ls : List Layer) (k : ℕ) → is_own l (call.Restore k) ≡ false → is_strike (l ∷ ls) ≡ false
no_restore_own (trial own) ls k h = refl
no_restore_own (strike numbers) ls k h = h

pub not_own : (l m : Layer) (p q r : Plain) (c d : Call) (a : Answer) → (is_own l c ≡ false) × (d ≡ c) × (m ≡ l) → q ≡ p → Common (over m q) d a r → AtTop (over l p) c a r
not_own l m p q r c d a h same told =
    let F : Call → Type 0 = λ x. is_own l x ≡ false in
    no_own_call (over l p) r c a (λ k row e. refl) (λ e. no_trial_own l p.layers (subst F e h.0)) (λ k e. no_strike_own l p.layers k (subst F e h.0))
    (λ k e. no_restore_own l p.layers k (subst F e h.0))
    (subst (λ (x : Plain). Common (over l x) c a r) same (subst (λ (x : Layer). Common (over x q) c a r) h.2 (subst (λ (x : Call). Common (over m q) x a r) h.1 told)))

-- a trial's rows withdrawn
pub trial_withdrawn : (p : Plain) (own after : List Row) (n : ℕ) → n ≡ length own → after ≡ []
    → AtTop (over (trial own) p) call.Withdraw (answer.Withdrawn n) (over (trial after) p)
trial_withdrawn p own after n e f = rw (e, f) withdrawn

-- a row struck
pub row_struck : (p : Plain) (s : Shown) (before after : List ℕ) (k : ℕ) (r : Result Unit StrikeFault) → s ≡ top p → Struck s before k r after
    → AtTop (over (strike before) p) (call.Strike k) (answer.Struck r) (over (strike after) p)
row_struck p s before after k r t h = struck (subst (λ (v : Shown). Struck v before k r after) t h)

-- a call on the top part, counted from the lowest
pub at_part : {p q : Plain} {part : ℕ} {c : Call} {a : Answer} → part ≡ length p.layers → AtTop p c a q → Step p part c a q
at_part e h = rw e (here h)

-- the part is the top layer: the code tells it by the number of layers below
pub at_layer : (p : Plain) (l : Layer) (q : Plain) (n part : ℕ) (c : Call) (a : Answer) → n ≡ min (length p.layers) 18446744073709551615 → n < part
    → part ≤ 18446744073709551615 → part ≤ n + 1 → AtTop (over l p) c a q → Step (over l p) part c a q
at_layer p l q n part c a e b f u h = at_part (omega arith) h

-- the part lies below
pub at_below : (p q : Plain) (l : Layer) (n part : ℕ) (c : Call) (a : Answer) → n ≡ min (length p.layers) 18446744073709551615 → part ≤ n
    → Step p part c a q → Step (over l p) part c a (over l q)
at_below p q l n part c a e b s = below (omega arith) s

-- there is no such part
pub at_none : (p : Plain) (l : Layer) (n part : ℕ) (c : Call) → n ≡ min (length p.layers) 18446744073709551615 → n + 1 < part
    → part ≤ 18446744073709551615 → Step (over l p) part c (answer.NoPart c) (over l p)
at_none p l n part c e b f = no_part (omega arith)

-- one more call at the end of a life
pub life_more : {P : Type 0} {plain : P → Plain} {shown : P → List Shown} {p q r : P} {c : Request} {a : Answer} {cs : List Request} {rest : List Answer}
    → Life P plain shown p cs rest q → Step (plain q) c.part c.call a (plain r) → Moment (plain r) (shown r) → Life P plain shown p (cs ++ c ∷ []) (rest ++ a ∷ []) r
life_more (begun m) s n = lived m s (begun n)
life_more (lived m t h) s n = lived m t (life_more h s n)

-- a life whose calls are all those that were asked for
pub life_whole : {P : Type 0} {plain : P → Plain} {shown : P → List Shown} {first last : P} {lowest : Shown} {book : Bool} {kinds : List Kind} {cs all : List Request} {answers : List Answer}
    → plain first ≡ fresh lowest book kinds → cs ≡ all → Life P plain shown first cs answers last → WholeLife P plain shown lowest book kinds all answers last
life_whole {P} {plain} {shown} {first} {last} {answers = answers} new e h =
    record { first = first; new = new; life = subst (λ (xs : List Request). Life P plain shown first xs answers last) e h }
