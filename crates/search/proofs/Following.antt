-- A trail that is followed to its end marks exactly the points that the start leads to.
use Rattle.std.proofs.Common.{◌≡◌, ℕ, ◌+◌, ◌<◌, ◌≤◌, List, ◌++◌, length, get_or, sym, ap, ◌∙◌, subst, inl, inr, ⊎_elim, arith, replicate}
use Rattle.std.proofs.lemmas.Bool.{cases_eq, cases_lt}
use Rattle.std.proofs.lemmas.List.{get_or_append_left, get_or_default}
use Rattle.std.proofs.lemmas.Option.{get_or_from_slice_get, slice_get-get_or, slice_get_within}
use Rattle.std.proofs.Math.Logic.{∥∥₁_elim}
use Rattle.std.proofs.Math.Nat.{ℕ_set}
use Rattle.std.specs.Prelude.{Some, None, slice_get}
use Rattle.arrayvec.specs.ArrayVec.{ArrayVec}
use Rattle.search.specs.Leads.{Leads, stay, go, Joined, Marked}
use Rattle.search.specs.Marks.{Lists}
use Rattle.search.specs.Trail.{Grows}
use Rattle.search.specs.declared.trail.Trail.{Trail}
use Rattle.search.proofs.Marking.{zero_one, unmarked, not_zero}
use Rattle.search.proofs.Trails.{leads_then, leads_nowhere}

-- the links of the first `done` points of the order lead to marked points
abbrev pub Closed : ℕ → (ℕ → ℕ → Type 0) → List ℕ → List ℕ → ℕ → Type 0
Closed n link table order done = (i : ℕ) → i < done → (j : ℕ) → j < n → link (get_or order i 0) j → get_or table j 0 ≡ 1

-- the first mark is the start's
pub sound_one : (link : ℕ → ℕ → Type 0) (start n : ℕ) (old new : Trail) → old.marks.now ≡ replicate (length old.marks.now) 0 → length old.marks.now ≡ n → Grows (λ k. k ≡ start) old new
    → (k : ℕ) → k < n → get_or new.marks.now k 0 ≡ 1 → Leads (Joined n link) start k
sound_one link start n old new z s g k h e =
    ⊎_elim
    (λ (p : get_or old.marks.now k 0 ≡ 1). absurd (zero_one (unmarked old.marks.now z k (omega arith)) p))
    (λ (p : k ≡ start). subst (Leads (Joined n link) start) (sym p) stay)
    (g.fresh k (omega arith) e)

-- the marked points are led to, and still are where each new one is linked from one of them
pub sound_more : (link : ℕ → ℕ → Type 0) (start from n : ℕ) (old new : Trail) → Lists old.marks.now old.found.items → length old.marks.now ≡ n → ((k : ℕ) → k < n → get_or old.marks.now k 0 ≡ 1 → Leads (Joined n link) start k)
    → (i : ℕ) → i < length old.found.items → from ≡ get_or old.found.items i 0 → Grows (link from) old new → (k : ℕ) → k < n → get_or new.marks.now k 0 ≡ 1 → Leads (Joined n link) start k
sound_more link start from n old new t s sound i h q g k b e =
    let m = t.inside i h in
    let f : from < n = omega (arith, m.0) in
    ⊎_elim
    (λ (p : get_or old.marks.now k 0 ≡ 1). sound k b p)
    (λ (p : link from k). leads_then (sound from f (ap (λ (x : ℕ). get_or old.marks.now x 0) q ∙ m.1)) (f, b, p))
    (g.fresh k (omega arith) e)

-- the links of one more point of the order lead to marked points
pub closed_more : (link : ℕ → ℕ → Type 0) (from done n : ℕ) (old new : Trail) → length old.marks.now ≡ n → Closed n link old.marks.now old.found.items done → done < length old.found.items
    → from ≡ get_or old.found.items done 0 → Grows (link from) old new → ((k : ℕ) → k < n → link from k → get_or new.marks.now k 0 ≡ 1) → Closed n link new.marks.now new.found.items (done + 1)
closed_more link from done n old new s c h q g all i b j l e =
    let f : link (get_or old.found.items i 0) j = subst (λ (x : ℕ). link x j) (g.same i (omega arith)) e in
    ⊎_elim
    (λ (u : i < done). g.kept j (omega arith) (c i u j l f))
    (λ (u : done ≤ i). let p : i ≡ done = omega arith in all j l (subst (λ (x : ℕ). link x j) (ap (λ (x : ℕ). get_or old.found.items x 0) p ∙ sym q) f))
    (cases_lt i done)

-- from a marked point, links lead to marked points only, once the links of each point of the order do
pub leads_marked : (n : ℕ) (link : ℕ → ℕ → Type 0) (marks order : List ℕ) {x k : ℕ} → Lists marks order → length marks ≡ n → Closed n link marks order (length order)
    → Leads (Joined n link) x k → get_or marks x 0 ≡ 1 → get_or marks k 0 ≡ 1
leads_marked n link marks order t s c stay m = m
leads_marked n link marks order t s c (go {x = x} {y = y} l k) m =
    ∥∥₁_elim (t.listed x (omega (arith, l.0)) m) (ℕ_set _ _) (λ i.
    let e : get_or order i.0 0 ≡ x = get_or_default order i.0 0 x i.1 ∙ i.2 in
    leads_marked n link marks order t s c k (c i.0 i.1 y l.1 (subst (λ (a : ℕ). link a y) (sym e) l.2)))

-- once the links of each point of the order lead to marked points, the marks are exactly the points that the start leads to
pub all_marked : (n : ℕ) (link : ℕ → ℕ → Type 0) (start : ℕ) (marks order : List ℕ) → Lists marks order → length marks ≡ n → ((k : ℕ) → k < n → get_or marks k 0 ≡ 1 → Leads (Joined n link) start k)
    → Closed n link marks order (length order) → get_or marks start 0 ≡ 1 → Marked n link start marks
all_marked n link start marks order t s sound c b k h =
    ⊎_elim
    (λ (z : get_or marks k 0 ≡ 0). inr (z, λ l. zero_one z (leads_marked n link marks order t s c l b)))
    (λ (o : get_or marks k 0 ≡ 0 → ⊥). let m = not_zero marks order k t (omega arith) o in inl (m, sound k h m))
    (cases_eq (get_or marks k 0) 0)

-- what holds of a trail after each point that is followed: each mark is of a point that the start leads to, the links of the points followed lead to marked points, and the start is marked
pub record Follows (n : ℕ) (link : ℕ → ℕ → Type 0) (start : ℕ) (trail : Trail) : Type 0 where
  pub size : length trail.marks.now ≡ n
  pub sound : (k : ℕ) → k < n → get_or trail.marks.now k 0 ≡ 1 → Leads (Joined n link) start k
  pub closed : Closed n link trail.marks.now trail.found.items trail.followed
  pub begun : get_or trail.marks.now start 0 ≡ 1

-- it holds once the start is marked
pub follows_start : (n : ℕ) (link : ℕ → ℕ → Type 0) (start : ℕ) (a b : Trail) → a.marks.now ≡ replicate (length a.marks.now) 0 → length a.marks.now ≡ n → a.followed ≡ 0
    → Grows (λ k. k ≡ start) a b → get_or b.marks.now start 0 ≡ 1 → Follows n link start b
follows_start n link start a b z s f g m =
    record {
      size = g.size ∙ s;
      sound = sound_one link start n a b z s g;
      closed = λ i h. absurd (omega (arith, h, f, g.followed));
      begun = m;
    }

-- and stays so when the next point is taken and its links are followed
pub follows_more : (n : ℕ) (link : ℕ → ℕ → Type 0) (start from : ℕ) (a b d : Trail) → Follows n link start a → start < n → b.marks.now ≡ a.marks.now → b.found ≡ a.found
    → slice_get a.found.items a.followed ≡ Some from → b.followed ≡ a.followed + 1
    → Grows (link from) b d → ((k : ℕ) → k < n → link from k → get_or d.marks.now k 0 ≡ 1) → Follows n link start d
follows_more n link start from a b d f h p q r t g all =
    let s : length b.marks.now ≡ n = ap length p ∙ f.size in
    let r' : slice_get b.found.items a.followed ≡ Some from = subst (λ (v : ArrayVec ℕ). slice_get v.items a.followed ≡ Some from) (sym q) r in
    let l : a.followed < length b.found.items = slice_get_within b.found.items a.followed from r' in
    let e : from ≡ get_or b.found.items a.followed 0 = sym (get_or_from_slice_get b.found.items a.followed from 0 r') in
    let c : Closed n link b.marks.now b.found.items a.followed =
    subst (λ (xs : List ℕ). Closed n link xs b.found.items a.followed) (sym p) (subst (λ (v : ArrayVec ℕ). Closed n link a.marks.now v.items a.followed) (sym q) f.closed) in
    record {
      size = g.size ∙ s;
      sound = sound_more link start from n b d b.lists s (λ k u m. f.sound k u (ap (λ (xs : List ℕ). get_or xs k 0) (sym p) ∙ m)) a.followed l e g;
      closed = subst (Closed n link d.marks.now d.found.items) (sym (g.followed ∙ t)) (closed_more link from a.followed n b d s c l e g all);
      begun = g.kept start (omega (arith, s)) (ap (λ (xs : List ℕ). get_or xs start 0) p ∙ f.begun);
    }

-- when there is no next point, the marks are those that the start leads to
pub follows_all : (n : ℕ) (link : ℕ → ℕ → Type 0) (start : ℕ) (a : Trail) (marks : List ℕ) → Follows n link start a → slice_get a.found.items a.followed ≡ None → marks ≡ a.marks.now → Marked n link start marks
follows_all n link start a marks f r p =
    let e : a.followed ≡ length a.found.items =
    ⊎_elim (λ (u : a.followed < length a.found.items). absurd (cc (slice_get-get_or a.found.items a.followed 0 u))) (λ (u : length a.found.items ≤ a.followed). omega (arith, a.within)) (cases_lt a.followed (length a.found.items)) in
    subst (Marked n link start) (sym p) (all_marked n link start a.marks.now a.found.items a.lists f.size f.sound (subst (Closed n link a.marks.now a.found.items) e f.closed) f.begun)

-- a start beyond the last point leads to none of them, as a table of zeros says
pub none_marked : (n : ℕ) (link : ℕ → ℕ → Type 0) (start : ℕ) (marks : List ℕ) → length marks ≡ n → n ≤ start → marks ≡ replicate (length marks) 0 → Marked n link start marks
none_marked n link start marks s o z k h = inr (unmarked marks z k (omega arith), λ l. leads_nowhere o h l)

-- the marks stand at the front of the table
pub marked_front : (n : ℕ) (link : ℕ → ℕ → Type 0) (start : ℕ) (marks rest : List ℕ) → length marks ≡ n → Marked n link start marks → Marked n link start (marks ++ rest)
marked_front n link start marks rest s m k h = rw (get_or_append_left marks rest 0 k (omega arith)) (m k h)
