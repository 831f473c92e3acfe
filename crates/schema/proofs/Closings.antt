-- What keys lead to by way of one key after the other.
use Rattle.std.proofs.Common.{◌≡◌, ℕ, ◌+◌, ◌-◌, ◌<◌, ◌≤◌, List, length, get_or, set, sym, ◌∙◌, subst, inl, inr, ⊎_elim, arith, below_more, get_or-set_other, get_or-set_same}
use Rattle.search.specs.Leads.{Leads, stay, go, Joined}
use Rattle.search.proofs.Trails.{leads_both}
use Rattle.schema.specs.declared.keys.KeyLinks.{KeyLinks}
use Rattle.schema.specs.declared.keys.KeySet.{KeySet}
use Rattle.schema.specs.Masks.{Member}
use Rattle.schema.specs.Keys.{Forward, none, Holds, PassesKey, NearKey, LedTo}

-- the first n keys have passed a key, and the others are as they were
abbrev pub Passed : ℕ → ℕ → List KeySet → List KeySet → Type 0
Passed n via old new =
    (k : ℕ) → k < 128 → (k < n → PassesKey via (get_or old via none) (get_or old k none) (get_or new k none))
    × (n ≤ k → get_or new k none ≡ get_or old k none)

-- each key is near, and what the first n keys have, each has that has one of them
pub record Closing (w : KeyLinks) (n : ℕ) (led : List KeySet) : Type 0 where
  pub near : (k : ℕ) → k < 128 → NearKey w k (get_or led k none)
  pub closed : (v i j : ℕ) → v < n → i < 128 → Holds (get_or led i none) v → Holds (get_or led v none) j → Holds (get_or led i none) j

-- the next key is passed
pub passed_more : (n via : ℕ) (old new : List KeySet) (r : KeySet) → n < length new → Passed n via old new → PassesKey via (get_or old via none) (get_or new n none) r
    → Passed (n + 1) via old (set new n r)
passed_more n via old new r l p q k h = (before, after)
  where
    before : k < n + 1 → PassesKey via (get_or old via none) (get_or old k none) (get_or (set new n r) k none)
    before m =
        below_more (λ k. k < 128 → PassesKey via (get_or old via none) (get_or old k none) (get_or (set new n r) k none)) n
        (λ j o b. subst (PassesKey via (get_or old via none) (get_or old j none)) (sym (get_or-set_other new n j r none (λ e. omega arith))) ((p j b).0 o))
        (λ b.
        subst (PassesKey via (get_or old via none) (get_or old n none)) (sym (get_or-set_same new n r none l))
        (subst (λ (x : KeySet). PassesKey via (get_or old via none) x r) ((p n b).1 (omega arith)) q))
        k m h

    after : n + 1 ≤ k → get_or (set new n r) k none ≡ get_or old k none
    after m = get_or-set_other new n k r none (λ e. omega arith) ∙ (p k h).1 (omega arith)

-- one key more that the others lead on by
module _ (w : KeyLinks) (v : ℕ) (small : v < 128) (old new : List KeySet) (closing : Closing w v old) (full : Passed 128 v old new) where
  passed : (k : ℕ) → k < 128 → PassesKey v (get_or old v none) (get_or old k none) (get_or new k none)
  passed k h = (full k h).0 h

  abbrev O : ℕ → ℕ → Type 0
  O k j = Holds (get_or old k none) j

  abbrev N : ℕ → ℕ → Type 0
  N k j = Holds (get_or new k none) j

  near : (k : ℕ) → k < 128 → NearKey w k (get_or new k none)
  near k h =
      let n = closing.near k h in
      let p = passed k h in
      record {
        narrow = p.narrow (closing.near v small).narrow n.narrow;
        self = p.kept k n.self;
        all = λ j l. p.kept j (n.all j l);
        only = λ j x. ⊎_elim (λ (o : O k j). n.only j o) (λ (o : O k v × O v j). leads_both (n.only v o.0) ((closing.near v small).only j o.1)) (p.only j x);
      }

  -- what leads to the key itself
  at_key : (i j : ℕ) → i < 128 → N i v → N v j → N i j
  at_key i j h x y =
      let p = passed i h in
      let to : O i v = ⊎_elim (λ (o : O i v). o) (λ (o : O i v × O v v). o.0) (p.only v x) in
      let on : O v j = ⊎_elim (λ (o : O v j). o) (λ (o : O v v × O v j). o.1) ((passed v small).only j y) in
      p.more j to on

  -- what leads to a key before it
  below : (u i j : ℕ) → u < v → i < 128 → N i u → N u j → N i j
  below u i j l h x y =
      let p = passed i h in
      let less : u < 128 = omega arith in
      ⊎_elim
      (λ (a : O i u).
      ⊎_elim (λ (c : O u j). p.kept j (closing.closed u i j l h a c))
      (λ (c : O u v × O v j). p.more j (closing.closed u i v l h a c.0) c.1) ((passed u less).only j y))
      (λ (a : O i v × O v u).
      ⊎_elim (λ (c : O u j). p.more j a.0 (closing.closed u v j l small a.1 c))
      (λ (c : O u v × O v j). p.more j a.0 c.1) ((passed u less).only j y))
      (p.only u x)

  pub closing_more : Closing w (v + 1) new
  closing_more =
      record {
        near = near;
        closed = λ u i j l h x y. below_more (λ u. N i u → N u j → N i j) v (λ u m. below u i j m h) (at_key i j h) u l x y;
      }

-- what all keys lead on by is what each leads to
module _ (w : KeyLinks) (led : List KeySet) (c : Closing w 128 led) where
  leads_holds : (i j : ℕ) → i < 128 → Leads (Joined 128 (Forward w)) i j → Holds (get_or led i none) j
  leads_holds i j h stay = (c.near i h).self
  leads_holds i j h (go {y = y} s p) = c.closed y i j s.1 h ((c.near i h).all y s) (leads_holds y j s.1 p)

  end_key : (x : ℕ) → 64 + x - 64 ≡ x
  end_key x = omega arith

  pub closing_led : LedTo w led
  closing_led k h =
      let s = get_or led k none in
      let n = c.near k h in
      record {
        to_classes = record {
          small = λ x m. (n.narrow x).0 m;
          only = λ x m. n.only x (inl ((n.narrow x).0 m, m));
          all = λ x l p. ⊎_elim (λ o. o.1) (λ o. absurd (omega (arith, o.0))) (leads_holds k x h p);
        };
        to_ends = record {
          small = λ x m. (n.narrow x).1 m;
          only = λ x m. n.only (64 + x) (inr (omega arith, subst (Member s.ends) (sym (end_key x)) m));
          all = λ x l p. ⊎_elim (λ o. absurd (omega (arith, o.0))) (λ o. subst (Member s.ends) (end_key x) o.1) (leads_holds k (64 + x) h p);
        };
      }
