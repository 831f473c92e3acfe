use Rattle.std.proofs.Common.{ℕ, ◌/◌, ◌%◌, ◌<◌, ◌⊎◌, List, [], length, Option, get_or, sym, refl, subst, inl, inr, arith}
use Rattle.std.proofs.lemmas.List.{get_or-map}
use Rattle.search.specs.Leads.{NextLink}
use Rattle.schema.specs.declared.descriptions.Descriptions.{Descriptions}
use Rattle.schema.specs.declared.descriptions.class.Class.{Class}
use Rattle.schema.specs.Masks.{Strided}
use Rattle.schema.specs.Points.{counts_of, ToNeeds, Ways, up, need, domain, below, along, Onward}
use Rattle.schema.proofs.Leasts.{next_same}
use Rattle.schema.proofs.descriptions.DescriptionsWeb.next_link.Goals as goal

onward : (w : Descriptions) (i at : ℕ) (r : Option ℕ) → i < 2048 → NextLink 2048 (Ways w (i / 32) (i % 32)) at r → NextLink 2048 (Onward w i) at r
onward w i at r h = next_same 2048 at (Ways w (i / 32) (i % 32)) (Onward w i) r (λ k l t. (h, t)) (λ k l t. t.1)

-- where a class leads, said of its place
module _ (w : Descriptions) (x : ℕ) (long : x < length w.classes) (d : Class) where
  abbrev Leads : ℕ → Type 0
  Leads j = let c = get_or w.classes x d in Strided c.supers 32 0 j ⊎ ToNeeds c.needs c.counts j

  from : (j : ℕ) → Leads j → Ways w x 0 j
  from j (inl t) = up refl (subst (λ (s : ℕ). Strided s 32 0 j) (sym (get_or-map (λ (c : Class). c.supers) w.classes x d 0 long)) t)
  from j (inr t) =
      need refl
      (subst (λ (s : ℕ). ToNeeds s (get_or (counts_of w.classes) x []) j) (sym (get_or-map (λ (c : Class). c.needs) w.classes x d 0 long))
      (subst (λ (l : List ℕ). ToNeeds (get_or w.classes x d).needs l j) (sym (get_or-map (λ (c : Class). c.counts) w.classes x d [] long)) t))

  to : (j : ℕ) → Ways w x 0 j → Leads j
  to j (up e t) = inl (subst (λ (s : ℕ). Strided s 32 0 j) (get_or-map (λ (c : Class). c.supers) w.classes x d 0 long) t)
  to j (need e t) =
      inr
      (subst (λ (l : List ℕ). ToNeeds (get_or w.classes x d).needs l j) (get_or-map (λ (c : Class). c.counts) w.classes x d [] long)
      (subst (λ (s : ℕ). ToNeeds s (get_or (counts_of w.classes) x []) j) (get_or-map (λ (c : Class). c.needs) w.classes x d 0 long) t))
  to j (domain e t) = absurd (omega arith)
  to j (below l e) = absurd (omega arith)
  to j (along l t) = absurd (omega arith)

pub returns-then-times-eq0 : goal.returns-then-times-eq0
returns-then-times-eq0 c =
    let w = c.args.self.now in
    let i = c.args.from in
    let d = c.index-self-place.result in
    onward w i c.args.at c.next_link.result c.if-from-ge-POINTS.false
    (subst (λ (m : ℕ). NextLink 2048 (Ways w (i / 32) m) c.args.at c.next_link.result) (sym c.if-times-eq0.true)
    (next_same 2048 c.args.at (Leads w (i / 32) (omega arith) d) (Ways w (i / 32) 0) c.next_link.result (λ j l. from w (i / 32) (omega arith) d j) (λ j l. to w (i / 32) (omega arith) d j) c.next_link.ensures))

pub returns-else-times-eq0 : goal.returns-else-times-eq0
returns-else-times-eq0 c = onward c.args.self.now c.args.from c.args.at c.from_mark.result c.if-from-ge-POINTS.false c.from_mark.ensures
