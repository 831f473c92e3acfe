-- A mark (e, k + 1) is true of an individual where it has a neighbour number k at e; at an arrow that no other leads to there are no others.
use Rattle.std.proofs.Common.{◌≡◌, ℕ, suc, ◌⊎◌, List, sym, refl, ap, ◌∙◌, subst, inl, inr, arith}
use Rattle.search.specs.Leads.{stay}
use Rattle.schema.specs.declared.row.Row.{Row}
use Rattle.schema.specs.Rows.{AllSound}
use Rattle.schema.specs.Rules.{arrow}
use Rattle.schema.specs.Webs.{mark, Alone}
use Rattle.schema.proofs.theory.Ends.{opp, opp_opp, same_end}
use Rattle.schema.proofs.theory.Individuals.{Ind, root, twin, child, partner, Came, Slot, slot?, choose, neighbour, neighbour_child, neighbour_partner}
use Rattle.schema.proofs.theory.Living.{Live, Is, Over, over_same, over_back, is_down, is_up}
use Rattle.schema.proofs.theory.Neighbours.{Lower, Beside, Next}

-- y is a numbered neighbour of x
abbrev pub Numbered : ℕ → ℕ → List Row → Ind → ℕ → Ind → Type 0
Numbered c p rows x e y = (k : ℕ) × ((y ≡ neighbour x e k) × Is c p rows x (mark e (suc k)))

module _ (c p : ℕ) (rows : List Row) (sound : AllSound c p rows) where
  -- whoever has a child at e has the mark (e, 1)
  lower_mark : (x : Ind) (e : ℕ) (y : Ind) → Lower c p rows x e y → Is c p rows x (mark e 1)
  lower_mark x e (root d u) l = absurd l
  lower_mark x e (twin g h) l = absurd l
  lower_mark x e (child y g j) (q, (l, o)) =
      subst (λ z. Is c p rows z (mark e 1)) (sym q)
      (is_up c p rows sound y g e 1 o (is_down c p rows sound y g (suc j) 1 (omega arith) (omega arith) (l.0, l.1.0)))

  -- whoever has a parent there has it
  upper_mark : (x : Ind) (e : ℕ) (y : Ind) → Lower c p rows y (opp e) x → Is c p rows x (mark e 1)
  upper_mark (root d u) e y l = absurd l
  upper_mark (twin g h) e y l = absurd l
  upper_mark (child z g j) e y (q, (l, o)) = is_up c p rows sound (child z g j) (opp g) e 1 (over_back rows g e o) (l, inl stay)

  -- whoever stands opposite to one there has it
  beside_mark : (x : Ind) (e : ℕ) (y : Ind) → Beside p rows x e y → Is c p rows x (mark e 1)
  beside_mark (root d u) e y b = absurd b
  beside_mark (twin f h) e y (q, (g, o)) = on o
    where
      on : Over rows f e ⊎ Over rows h e → Is c p rows (twin f h) (mark e 1)
      on (inl a) = is_up c p rows sound (twin f h) f e 1 a (g, inl stay)
      on (inr a) = is_up c p rows sound (twin f h) h e 1 a (g, inr stay)
  beside_mark (child x g j) e y b = absurd b

  -- so whoever has a neighbour at e has the mark (e, 1)
  pub next_mark : (x : Ind) (e : ℕ) (y : Ind) → Next c p rows x e y → Is c p rows x (mark e 1)
  next_mark x e y (inl l) = lower_mark x e y l
  next_mark x e y (inr (inl l)) = upper_mark x e y l
  next_mark x e y (inr (inr b)) = beside_mark x e y b

  -- the partner is a neighbour
  partner_next : (x : Ind) (e : ℕ) → Live c p rows x → Came x e → Next c p rows x e (partner x)
  partner_next (root d u) e l s = absurd s
  partner_next (twin f h) e l s = inr (inr (refl, (l, on s)))
    where
      on : (e ≡ f) ⊎ (e ≡ h) → Over rows f e ⊎ Over rows h e
      on (inl q) = inl (over_same rows f e (sym q))
      on (inr q) = inr (over_same rows h e (sym q))
  partner_next (child y g j) e l s = inr (inl (refl, (l, over_same rows g (opp e) (sym (ap opp s ∙ opp_opp g)))))

  -- neighbour number k is a neighbour where the mark (e, k + 1) is true
  pub neighbour_next : (x : Ind) (e k : ℕ) → Is c p rows x (mark e (suc k)) → Next c p rows x e (neighbour x e k)
  neighbour_next x e k h = on (slot? x e k)
    where
      on : (s : Dec (Slot x e k)) → Next c p rows x e (choose s (partner x) (child x e k))
      on (yes s) = partner_next x e h.0 s.1
      on (no n) = inl (refl, ((h.0, (h.1, n)), over_same rows e e refl))

  -- only the end itself is over an end whose arrow no other leads to
  over_alone : (g e : ℕ) → Alone rows (arrow e) → Over rows g e → g ≡ e
  over_alone g e al o = same_end g e o.0 (al (arrow g) o.1)

  -- there a child is numbered
  lower_numbered : (x : Ind) (e : ℕ) (y : Ind) → Alone rows (arrow e) → Lower c p rows x e y → Numbered c p rows x e y
  lower_numbered x e (root d u) al l = absurd l
  lower_numbered x e (twin g h) al l = absurd l
  lower_numbered x e (child y g j) al (q, (l, o)) =
      subst (λ z. Numbered c p rows z e (child y g j)) (sym q)
      (subst (λ z. Numbered c p rows y z (child y g j)) (over_alone g e al o) (j, (sym (neighbour_child y g j l.1.1), (l.0, l.1.0))))

  -- a parent is numbered
  upper_numbered : (x : Ind) (e : ℕ) (y : Ind) → Alone rows (arrow e) → Lower c p rows y (opp e) x → Numbered c p rows x e y
  upper_numbered (root d u) e y al l = absurd l
  upper_numbered (twin g h) e y al l = absurd l
  upper_numbered (child z g j) e y al (q, (l, o)) =
      let s : opp g ≡ e = over_alone (opp g) e al (over_back rows g e o) in
      (0, (q ∙ sym (neighbour_partner (child z g j) e (sym s)), subst (λ v. Is c p rows (child z g j) (mark v 1)) s (l, inl stay)))

  -- and whoever stands opposite is numbered
  beside_numbered : (x : Ind) (e : ℕ) (y : Ind) → Alone rows (arrow e) → Beside p rows x e y → Numbered c p rows x e y
  beside_numbered (root d u) e y al b = absurd b
  beside_numbered (twin f h) e y al (q, (g, o)) =
      (0, (q ∙ sym (neighbour_partner (twin f h) e (on o)), beside_mark (twin f h) e y (q, (g, o))))
    where
      on : Over rows f e ⊎ Over rows h e → (e ≡ f) ⊎ (e ≡ h)
      on (inl a) = inl (sym (over_alone f e al a))
      on (inr a) = inr (sym (over_alone h e al a))
  beside_numbered (child x g j) e y al b = absurd b

  -- so at an arrow that no other leads to every neighbour is numbered
  pub next_numbered : (x : Ind) (e : ℕ) (y : Ind) → Alone rows (arrow e) → Next c p rows x e y → Numbered c p rows x e y
  next_numbered x e y al (inl l) = lower_numbered x e y al l
  next_numbered x e y al (inr (inl l)) = upper_numbered x e y al l
  next_numbered x e y al (inr (inr b)) = beside_numbered x e y al b
