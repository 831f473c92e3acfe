use Rattle.std.proofs.Common.{◌≡◌, ℕ, ◌<◌, List, [], ◌∷◌, ◌++◌, length, get_or, take, sym, ap, ◌∙◌, subst, inl, inr, ⊎_elim, arith}
use Rattle.std.proofs.lemmas.List.{get_or_default, take_more}
use Rattle.schema.specs.declared.descriptions.Descriptions.{Descriptions}
use Rattle.schema.specs.declared.row.Row.{Row}
use Rattle.schema.specs.Masks.{Member, Unites, Gathers}
use Rattle.schema.specs.Points.{count, counts_of}
use Rattle.schema.specs.Keys.{Rival, apart, needs_more, RivalSets}
use Rattle.schema.proofs.Building.{fits_at, joins_at}
use Rattle.std.proofs.lemmas.List.Elements.{Contains-get_or}
use Rattle.schema.proofs.Rivalry.{rivals_none, rivals_other, rivals_more}
use Rattle.schema.proofs.rivals.list_rivals.Goals as goal
use Rattle.schema.proofs.rivals.list_rivals.Goals.{in-88, in-75, in_default}

-- what an X or a K row has for rivals, and no other row has any
letters : (w : Descriptions) (r : Row) (b : ℕ) → (r.letter ≡ 88 → ⊥) → (r.letter ≡ 75 → ⊥) → Rival w r b → ⊥
letters w r b x k (apart e q) = x e
letters w r b x k (needs_more e q) = k e

only_x : (w : Descriptions) (r : Row) (b : ℕ) → r.letter ≡ 88 → Rival w r b → b ≡ r.b
only_x w r b x (apart e q) = q
only_x w r b x (needs_more e q) = absurd (omega arith)

only_k : (w : Descriptions) (r : Row) (b : ℕ) → r.letter ≡ 75 → Rival w r b → r.n < count (counts_of w.classes) b r.b
only_k w r b x (apart e q) = absurd (omega arith)
only_k w r b x (needs_more e q) = q

-- said of equal places
unites_at : (sets : List ℕ) (a x d n v : ℕ) → a ≡ x → x < length sets → Unites (get_or sets a d) n v → Unites (get_or sets x 0) n v
unites_at sets a x d n v p w u = subst (λ (m : ℕ). Unites m n v) (ap (λ (i : ℕ). get_or sets i d) p ∙ get_or_default sets x d 0 w) u

needing_at : (w : Descriptions) (e x cap set : ℕ) → e ≡ x → Gathers (λ a. cap < count (counts_of w.classes) a e) 64 set → Gathers (λ a. cap < count (counts_of w.classes) a x) 64 set
needing_at w e x cap set p g = subst (λ (i : ℕ). Gathers (λ a. cap < count (counts_of w.classes) a i) 64 set) p g

pub loop-row-init : goal.loop-row-init
loop-row-init c = rivals_none c.args.links.now

pub loop-row-preserved : goal.loop-row-preserved
loop-row-preserved c =
    let w = c.args.links.now in
    let rows = c.rows-row-items.result.now in
    let i = c.loop-row.row-index in
    let none : Row = record { letter = 0; a = 0; b = 0; n = 0 } in
    let r = get_or rows i none in
    let sound = c.rows-row-items.ensures.sound r (Contains-get_or rows i none c.loop-row-test.true) in
    let sets = c.loop-row.rivals in
    subst (λ (rs : List Row). RivalSets w rs c.match-row.rivals) (sym (take_more rows i none c.loop-row-test.true))
    (elim c.match-row.branch [
      | in-88 v ↦
          let f = fits_at r 88 v.in-88.is sound in
          let j = joins_at sets c.from-a.result r.a c.from-b.result r.b v.index-rivals-a.result v.insert.new.self c.from-a.ensures c.from-b.ensures (omega (arith, f.0)) v.insert.ensures in
          subst (RivalSets w (take i rows ++ r ∷ [])) (sym v.rivals-is)
          (rivals_more w (take i rows) r sets c.loop-row.invariant c.from-a.result v.insert.new.self c.from-a.ensures (omega (arith, f.0)) j.kept
          (λ b l x. subst (Member v.insert.new.self) (sym (only_x w r b v.in-88.is x)) j.new)
          (λ b m. ⊎_elim inl (λ (e : b ≡ r.b). inr (omega (arith, f.1), apart v.in-88.is e)) (j.only b m)))
      | in-75 v ↦
          let f = fits_at r 75 v.in-75.is sound in
          let u = unites_at sets c.from-a.result r.a v.index-rivals-a-in-75.result v.needing_more.result v.join.new.self c.from-a.ensures (omega (arith, f.0)) v.join.ensures in
          let g = needing_at w c.from-b.result r.b r.n v.needing_more.result c.from-b.ensures v.needing_more.ensures in
          subst (RivalSets w (take i rows ++ r ∷ [])) (sym v.rivals-is)
          (rivals_more w (take i rows) r sets c.loop-row.invariant c.from-a.result v.join.new.self c.from-a.ensures (omega (arith, f.0)) u.left
          (λ b l x. u.right b (g.all b l (only_k w r b v.in-75.is x)))
          (λ b m. ⊎_elim inl (λ (n : Member v.needing_more.result b). inr (g.small b n, needs_more v.in-75.is (g.only b n))) (u.only b m)))
      | in_default v ↦
          subst (RivalSets w (take i rows ++ r ∷ [])) (sym v.rivals-is)
          (rivals_other w (take i rows) r sets c.loop-row.invariant (λ b l x. letters w r b (λ e. omega arith) (λ e. omega arith) x))
    ])
