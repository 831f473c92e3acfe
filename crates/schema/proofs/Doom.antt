-- What the backward web of the keys leads to is what is empty.
use Rattle.std.proofs.Common.{◌≡◌, ℕ, ◌+◌, ◌-◌, ◌*◌, ◌/◌, ◌<◌, ◌≤◌, ◌⊎◌, List, get_or, sym, refl, subst, inl, inr, ⊎_elim, arith}
use Rattle.search.specs.Leads.{Leads, stay, go, Joined, Marked}
use Rattle.search.proofs.Trails.{leads_both, leads_one, leads_then}
use Rattle.schema.specs.declared.row.Row.{Row}
use Rattle.schema.specs.declared.keys.Keys.{Keys}
use Rattle.schema.specs.Masks.{Member}
use Rattle.schema.specs.Rows.{AllSound}
use Rattle.schema.specs.Rules.{arrow}
use Rattle.schema.specs.Keys.{blank, keyed, EmptyKeys, Torn, Surveyed, Backward, is_torn, to_class, to_end, other_end}
use Rattle.schema.specs.Verdicts.{Bit}
use Rattle.schema.specs.Webs.{Description, mark, Link, ArrowLink, ArrowApart, Clashing, Name, desc, arr, Empty, EmptyClass, EmptyArrow, clash, leads, clash_arrow, of_end, of_arrow}
use Rattle.schema.proofs.Reach.{leads_placed}
use Rattle.schema.proofs.Signs.{bit_same, tells_yes, tells_holds}
use Rattle.schema.proofs.KeyReach.{keyed_class, keyed_end, keyed_mark, keyed_placed}

module _ (rows : List Row) (sound : AllSound 64 32 rows) (w : Keys) (known : Surveyed rows 128 w) where
  abbrev Step : ℕ → ℕ → Type 0
  Step = Joined 129 (Backward w)

  abbrev EmptyKey : ℕ → Type 0
  EmptyKey k = Empty rows (desc (keyed k))

  -- the start, or a key that is empty
  abbrev Good : ℕ → Type 0
  Good i = (i ≡ 128) ⊎ ((i < 128) × EmptyKey i)

  end_empty : (k : ℕ) → 64 ≤ k → EmptyKey k → Empty rows (arr ((k - 64) / 2))
  end_empty k h z = of_end {e = k - 64} (subst (λ (d : Description). Empty rows (desc d)) (keyed_end k h) z)

  torn_empty : (k : ℕ) → Torn rows k → EmptyKey k
  torn_empty k (inl c) = clash c
  torn_empty k (inr (h, c)) = subst (λ (d : Description). Empty rows (desc d)) (sym (keyed_end k h)) (of_arrow {e = k - 64} (clash_arrow c))

  back : (i j : ℕ) → Backward w i j → Good i → (j < 128) × EmptyKey j
  back i j (is_torn e h t) g = (h, torn_empty j (tells_yes (known j h).tears t))
  back i j (to_class l h m) (inl e) = absurd (omega arith)
  back i j (to_class l h m) (inr (s, z)) =
      (h, leads ((known j h).to_classes.only i m) (subst (λ (d : Description). Empty rows (desc d)) (keyed_class i l) z))
  back i j (to_end l u h m) (inl e) = absurd (omega arith)
  back i j (to_end l u h m) (inr (s, z)) =
      (h, leads ((known j h).to_ends.only (i - 64) m) (subst (λ (d : Description). Empty rows (desc d)) (keyed_end i l) z))
  back i j (other_end l u h q) (inl e) = absurd (omega arith)
  back i j (other_end l u h q) (inr (s, z)) =
      let b : 64 ≤ j = omega arith in
      let a : (i - 64) / 2 ≡ arrow (j - 64) = omega arith in
      (h, subst (λ (d : Description). Empty rows (desc d)) (sym (keyed_end j b)) (of_arrow {e = j - 64} (subst (λ (p : ℕ). Empty rows (arr p)) a (end_empty i l z))))

  -- what the start leads to is empty
  pub doomed_empty : {i k : ℕ} → Leads Step i k → Good i → Good k
  doomed_empty stay g = g
  doomed_empty (go {x = i} {y = j} s p) g = doomed_empty p (inr (back i j s.2 g))

  abbrev Doomed : ℕ → Type 0
  Doomed k = Leads Step 128 k

  step_to : (i k : ℕ) → i < 129 → k < 128 → Backward w i k → Step i k
  step_to i k l h b = (l, omega arith, b)

  torn_doomed : (k : ℕ) → k < 128 → Torn rows k → Doomed k
  torn_doomed k h t = leads_one (step_to 128 k (omega arith) h (is_torn refl h (tells_holds _ (known k h).tears t)))

  abbrev Fate : Name → Type 0
  Fate (desc u) = (k : ℕ) → k < 128 → Leads (Link rows) (keyed k) u → Doomed k
  Fate (arr p) = (k : ℕ) → 64 ≤ k → k < 128 → (k - 64) / 2 ≡ p → Doomed k

  -- what is empty, the start leads to
  pub empty_doomed : {n : Name} → Empty rows n → Fate n
  empty_doomed (clash {d} (u, v, l, m, a)) = λ k h q. torn_doomed k h (inl (u, v, leads_both q l, leads_both q m, a))
  empty_doomed (leads l z) = λ k h q. empty_doomed z k h (leads_both q l)
  empty_doomed (clash_arrow {p} c) = λ k l h e. torn_doomed k h (inr (l, subst (λ (x : ℕ). Clashing (ArrowLink rows) (ArrowApart rows) x x) (sym e) c))
  empty_doomed (of_end {e} z) = λ k l h q. across (empty_doomed z) k l h q
    where
      across : Fate (desc (mark e 1)) → (k : ℕ) → 64 ≤ k → k < 128 → (k - 64) / 2 ≡ arrow e → Doomed k
      across f k l h q =
          let i : 64 + e < 128 = omega arith in
          let s = keyed_mark e in
          let d : Doomed (64 + e) = f (64 + e) i (subst (λ (t : Description). Leads (Link rows) t (mark e 1)) (sym s) stay) in
          leads_then d (step_to (64 + e) k (omega arith) h (other_end (omega arith) i h (omega arith)))
  empty_doomed (of_arrow {e} z) = λ k h q. onward (empty_doomed z) k h q
    where
      onward : Fate (arr (arrow e)) → (k : ℕ) → k < 128 → Leads (Link rows) (keyed k) (mark e 1) → Doomed k
      onward f k h q =
          let p = leads_placed rows sound q (keyed_placed k h) in
          let small : e < 64 = p.0 in
          let d : Doomed (64 + e) = f (64 + e) (omega arith) (omega arith) (omega arith) in
          let same : e ≡ 64 + e - 64 = omega arith in
          let m : Member (get_or w.reaches k blank).keys.ends (64 + e - 64) = subst (Member (get_or w.reaches k blank).keys.ends) same ((known k h).to_ends.all e small q) in
          leads_then d (step_to (64 + e) k (omega arith) h (to_end (omega arith) (omega arith) h m))

  -- the marks from the start say which keys are empty
  pub marked_empty : (marks : List ℕ) → Marked 129 (Backward w) 128 marks → (k : ℕ) → k < 128 → Bit (get_or marks k 0) (EmptyKey k)
  marked_empty marks m k h =
      ⊎_elim
      (λ t. inl (t.0, ⊎_elim (λ (e : k ≡ 128). absurd (omega arith)) (λ (g : (k < 128) × EmptyKey k). g.1) (doomed_empty t.1 (inl refl))))
      (λ t. inr (t.0, λ z. t.1 (empty_doomed z k h stay)))
      (m k (omega arith))

-- a byte that is the byte of a class's key
pub class_bit : (rows : List Row) (empty : List ℕ) (b k : ℕ) → k < 64 → b ≡ get_or empty k 0
    → EmptyKeys rows empty → Bit b (EmptyClass rows k)
class_bit rows empty b k h e f =
    subst (λ (d : Description). Bit b (Empty rows (desc d))) (keyed_class k h) (subst (λ (x : ℕ). Bit x (Empty rows (desc (keyed k)))) (sym e) (f k (omega arith)))

-- a byte that is the byte of an arrow's tail
pub arrow_bit : (rows : List Row) (empty : List ℕ) (b k : ℕ) → k < 32 → b ≡ get_or empty (64 + 2 * k) 0
    → EmptyKeys rows empty → Bit b (EmptyArrow rows k)
arrow_bit rows empty b k h e f =
    let q = keyed_mark (2 * k) in
    let t : Bit b (Empty rows (desc (mark (2 * k) 1))) =
    subst (λ (d : Description). Bit b (Empty rows (desc d))) q (subst (λ (x : ℕ). Bit x (Empty rows (desc (keyed (64 + 2 * k))))) (sym e) (f (64 + 2 * k) (omega arith))) in
    let same : arrow (2 * k) ≡ k = omega arith in
    bit_same b (λ z. subst (λ (p : ℕ). Empty rows (arr p)) same (of_end {e = 2 * k} z)) (λ z. of_arrow {e = 2 * k} (subst (λ (p : ℕ). Empty rows (arr p)) (sym same) z)) t
