use Rattle.std.proofs.Common.{◌≡◌, ℕ, ◌+◌, ◌-◌, ◌/◌, ◌%◌, ◌<◌, ◌≤◌, length, Some, None, Option, get_or, sym, subst, ⊎_elim, arith}
use Rattle.std.proofs.lemmas.Bool.{cases_lt}
use Rattle.std.proofs.lemmas.List.{get_or_default, get_or-map}
use Rattle.search.specs.Leads.{NextLink}
use Rattle.schema.specs.declared.descriptions.class.Class.{Class}
use Rattle.schema.specs.declared.keys.KeyLinks.{KeyLinks}
use Rattle.schema.specs.Masks.{Member, Strided}
use Rattle.schema.specs.Points.{supers_of, needs_of}
use Rattle.schema.specs.Keys.{Forward, class_class, end_class, to_an_end, ForwardEnd, by_need, by_arrow}
use Rattle.schema.proofs.Leasts.{next_same}
use Rattle.schema.proofs.keys.KeyLinksWeb.next_link.Goals as goal
use Rattle.schema.proofs.keys.KeyLinksWeb.next_link.Goals.{in-0-to-63, in-64-to-127, then-from-lt64-2, else-from-lt64-2}

-- the lowest class, or else the lowest end
abbrev lowest : Option ℕ → Option ℕ → Option ℕ
lowest (Some a) e = Some a
lowest None (Some e) = Some (64 + e)
lowest None None = None

module _ (w : KeyLinks) (i at : ℕ) where
  to_end : (e : ℕ) → i < 128 → e < 64 → ForwardEnd w i e → Forward w i (64 + e)
  to_end e h l f = let same : e ≡ 64 + e - 64 = omega arith in to_an_end h (omega arith) (omega arith) (subst (ForwardEnd w i) same f)

  from_end : (j : ℕ) → 64 ≤ j → Forward w i j → ForwardEnd w i (j - 64)
  from_end j h (class_class s l m) = absurd (omega arith)
  from_end j h (end_class g s l m) = absurd (omega arith)
  from_end j h (to_an_end s l u f) = f

  small : (j : ℕ) → Forward w i j → j < 128
  small j (class_class s l m) = omega arith
  small j (end_class g s l m) = omega arith
  small j (to_an_end s l u f) = u

  -- the set of the classes that a key links to
  record Classes (set : ℕ) : Type 0 where
    key : i < 128
    to : (j : ℕ) → j < 64 → Member set j → Forward w i j
    from : (j : ℕ) → j < 64 → Forward w i j → Member set j

  -- the lowest end is the lowest key where there is no class
  no_class : (set : ℕ) → Classes set → NextLink 64 (Member set) at None → (e : Option ℕ) → NextLink 64 (ForwardEnd w i) (at - 64) e → NextLink 128 (Forward w i) at (lowest None e)
  no_class set s h e = below e
    where
      none : (j : ℕ) → at ≤ j → j < 64 → Forward w i j → ⊥
      none j u l f = h j u l (s.from j l f)

      below : (e : Option ℕ) → NextLink 64 (ForwardEnd w i) (at - 64) e → NextLink 128 (Forward w i) at (lowest None e)
      below (Some e) l = (
        omega (arith, l.0),
        omega (arith, l.1),
        to_end e s.key l.1 l.2,
        λ j u v f. ⊎_elim (λ (x : j < 64). none j u x f) (λ (x : 64 ≤ j). l.3 (j - 64) (omega arith) (omega arith) (from_end j x f)) (cases_lt j 64),
      )
      below None l = λ j u v f. ⊎_elim (λ (x : j < 64). none j u x f) (λ (x : 64 ≤ j). l (j - 64) (omega arith) (omega arith) (from_end j x f)) (cases_lt j 64)

  of_class : (d : Class) → i < 64 → i < length w.links.now.classes → Classes (get_or w.links.now.classes i d).supers
  of_class d h l = record { key = omega arith; to = λ j s m. class_class h s (subst (λ (x : ℕ). Member x j) (sym supers) m); from = from }
    where
      supers : get_or (supers_of w.links.now.classes) i 0 ≡ (get_or w.links.now.classes i d).supers
      supers = get_or-map (λ (c : Class). c.supers) w.links.now.classes i d 0 l

      from : (j : ℕ) → j < 64 → Forward w i j → Member (get_or w.links.now.classes i d).supers j
      from j s (class_class x y m) = subst (λ (x : ℕ). Member x j) supers m
      from j s (end_class g x y m) = absurd (omega arith)
      from j s (to_an_end x y u f) = absurd (omega arith)

  of_end : (d : ℕ) → 64 ≤ i → i < 128 → i - 64 < length w.links.now.domains → Classes (get_or w.links.now.domains (i - 64) d)
  of_end d g h l = record { key = h; to = λ j s m. end_class g h s (subst (λ (x : ℕ). Member x j) same m); from = from }
    where
      same : get_or w.links.now.domains (i - 64) d ≡ get_or w.links.now.domains (i - 64) 0
      same = get_or_default w.links.now.domains (i - 64) d 0 l

      from : (j : ℕ) → j < 64 → Forward w i j → Member (get_or w.links.now.domains (i - 64) d) j
      from j s (class_class x y m) = absurd (omega arith)
      from j s (end_class x y z m) = subst (λ (x : ℕ). Member x j) (sym same) m
      from j s (to_an_end x y z f) = absurd (omega arith)

  -- the lowest end from a place on
  needed : (d : Class) (low : ℕ) (e : Option ℕ) → low ≡ at - 64 → i < 64 → i < length w.links.now.classes → NextLink 64 (Member (get_or w.links.now.classes i d).needs) low e
      → NextLink 64 (ForwardEnd w i) (at - 64) e
  needed d low e is h l n =
      next_same 64 (at - 64) (Member (get_or w.links.now.classes i d).needs) (ForwardEnd w i) e (λ k s m. by_need h (subst (λ (x : ℕ). Member x k) (sym needs) m)) back
      (subst (λ (x : ℕ). NextLink 64 (Member (get_or w.links.now.classes i d).needs) x e) is n)
    where
      needs : get_or (needs_of w.links.now.classes) i 0 ≡ (get_or w.links.now.classes i d).needs
      needs = get_or-map (λ (c : Class). c.needs) w.links.now.classes i d 0 l

      back : (k : ℕ) → k < 64 → ForwardEnd w i k → Member (get_or w.links.now.classes i d).needs k
      back k s (by_need x m) = subst (λ (x : ℕ). Member x k) needs m
      back k s (by_arrow g q x m) = absurd (omega arith)

  along : (o low : ℕ) (e : Option ℕ) → low ≡ at - 64 → 64 ≤ i → (i - 64) / 2 < length w.links.now.arrows.overs
      → NextLink 64 (Strided (get_or w.links.now.arrows.overs ((i - 64) / 2) o) 2 (i % 2)) low e → NextLink 64 (ForwardEnd w i) (at - 64) e
  along o low e is g u n =
      next_same 64 (at - 64) Over (ForwardEnd w i) e to back
      (subst (λ (x : ℕ). NextLink 64 (Strided x 2 (i % 2)) (at - 64) e) (get_or_default w.links.now.arrows.overs ((i - 64) / 2) o 0 u)
      (subst (λ (x : ℕ). NextLink 64 (Strided (get_or w.links.now.arrows.overs ((i - 64) / 2) o) 2 (i % 2)) x e) is n))
    where
      Over : ℕ → Type 0
      Over = Strided (get_or w.links.now.arrows.overs ((i - 64) / 2) 0) 2 (i % 2)

      to : (k : ℕ) → k < 64 → Over k → ForwardEnd w i k
      to k s t =
          let q : t.block ≡ k / 2 = omega (arith, t.is) in
          by_arrow g (omega (arith, t.is)) s (subst (Member (get_or w.links.now.arrows.overs ((i - 64) / 2) 0)) q t.member)

      back : (k : ℕ) → k < 64 → ForwardEnd w i k → Over k
      back k s (by_need x m) = absurd (omega arith)
      back k s (by_arrow x q y m) = record { block = k / 2; member = m; is = omega arith }

pub returns-in_err-end : goal.returns-in_err-end
returns-in_err-end c =
    let w = c.args.self.now in
    let i = c.args.from in
    let at = c.args.at in
    let low = c.saturating_sub-low.result in
    let is = c.saturating_sub-low.ensures in
    let classes : Classes w i at c.if-from-lt64.classes =
    elim c.if-from-lt64.branch [
      | in-0-to-63 v ↦ subst (Classes w i at) (sym v.classes-is) (of_class w i at v.index-links-from.result (omega arith) (omega arith))
      | in-64-to-127 v ↦ subst (Classes w i at) (sym v.classes-is) (of_end w i at v.index-links-from-in-64-to-127.result (omega arith) (omega arith) (omega arith))
    ] in
    let end : NextLink 64 (ForwardEnd w i) (at - 64) c.if-from-lt64-2.end =
    elim c.if-from-lt64-2.branch [
      | then-from-lt64-2 v ↦
          subst (NextLink 64 (ForwardEnd w i) (at - 64)) (sym v.end-is)
          (needed w i at v.index-links-from-then-from-lt64-2.result low v.next_from-end.result is v.if-from-lt64-2.true (omega arith) v.next_from-end.ensures)
      | else-from-lt64-2 v ↦
          subst (NextLink 64 (ForwardEnd w i) (at - 64)) (sym v.end-is)
          (along w i at v.index-links-from-else-from-lt64-2.result low v.next_strided-end.result is v.if-from-lt64-2.false (omega arith) v.next_strided-end.ensures)
    ] in
    subst (NextLink 128 (Forward w i) at) (sym c.from_residual.ensures)
    (subst (λ (e : Option ℕ). NextLink 128 (Forward w i) at (lowest None e)) c.in_err-end.was
    (no_class w i at c.if-from-lt64.classes classes c.in_default-next_from.ensures c.if-from-lt64-2.end end))

pub returns : goal.returns
returns c =
    let w = c.args.self.now in
    let i = c.args.from in
    let at = c.args.at in
    let low = c.saturating_sub-low.result in
    let is = c.saturating_sub-low.ensures in
    let classes : Classes w i at c.if-from-lt64.classes =
    elim c.if-from-lt64.branch [
      | in-0-to-63 v ↦ subst (Classes w i at) (sym v.classes-is) (of_class w i at v.index-links-from.result (omega arith) (omega arith))
      | in-64-to-127 v ↦ subst (Classes w i at) (sym v.classes-is) (of_end w i at v.index-links-from-in-64-to-127.result (omega arith) (omega arith) (omega arith))
    ] in
    let end : NextLink 64 (ForwardEnd w i) (at - 64) c.if-from-lt64-2.end =
    elim c.if-from-lt64-2.branch [
      | then-from-lt64-2 v ↦
          subst (NextLink 64 (ForwardEnd w i) (at - 64)) (sym v.end-is)
          (needed w i at v.index-links-from-then-from-lt64-2.result low v.next_from-end.result is v.if-from-lt64-2.true (omega arith) v.next_from-end.ensures)
      | else-from-lt64-2 v ↦
          subst (NextLink 64 (ForwardEnd w i) (at - 64)) (sym v.end-is)
          (along w i at v.index-links-from-else-from-lt64-2.result low v.next_strided-end.result is v.if-from-lt64-2.false (omega arith) v.next_strided-end.ensures)
    ] in
    subst (λ (e : Option ℕ). NextLink 128 (Forward w i) at (lowest None e)) c.in_ok-end.was
    (no_class w i at c.if-from-lt64.classes classes c.in_default-next_from.ensures c.if-from-lt64-2.end end)
