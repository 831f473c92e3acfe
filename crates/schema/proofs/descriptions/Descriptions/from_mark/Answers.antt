use Rattle.std.proofs.Common.{◌≡◌, ℕ, ◌+◌, ◌-◌, ◌*◌, ◌/◌, ◌%◌, ◌≤◌, ◌⊎◌, Option, get_or, subst, inl, inr, arith}
use Rattle.std.proofs.lemmas.List.{get_or_default}
use Rattle.search.specs.Leads.{NextLink}
use Rattle.schema.specs.declared.descriptions.Descriptions.{Descriptions}
use Rattle.schema.specs.Masks.{Strided, Lower}
use Rattle.schema.specs.Points.{Ways, up, need, domain, below, along}
use Rattle.schema.proofs.Leasts.{next_either}
use Rattle.schema.proofs.descriptions.Descriptions.from_mark.Goals as needs
use Rattle.schema.proofs.descriptions.Descriptions.from_mark.Goals.{then-times-eq1, else-times-eq1}

module _ (w : Descriptions) (x m : ℕ) where
  abbrev Along : ℕ → Type 0
  Along = Strided (get_or w.arrows.overs (x / 2) 0) 64 (32 * (x % 2) + m)

  abbrev Domain : ℕ → Type 0
  Domain = Strided (get_or w.domains x 0) 32 0

  once : m ≡ 1 → (j : ℕ) → Ways w x m j → Along j ⊎ Domain j
  once o j (up e t) = absurd (omega arith)
  once o j (need e t) = absurd (omega arith)
  once o j (domain e t) = inr t
  once o j (below h e) = absurd (omega arith)
  once o j (along h t) = inl t

  more : (m ≡ 1 → ⊥) → 1 ≤ m → (j : ℕ) → Ways w x m j → Along j ⊎ (j ≡ 32 * x + m - 1)
  more o l j (up e t) = absurd (omega arith)
  more o l j (need e t) = absurd (omega arith)
  more o l j (domain e t) = absurd (o e)
  more o l j (below h e) = inr (omega arith)
  more o l j (along h t) = inl t

pub returns : needs.returns
returns c =
    let w = c.args.self.now in
    let x = c.args.end in
    let m = c.args.times in
    let first = c.next_strided-along.result in
    let lower : (o : Option ℕ) → _ ≡ o → Lower first o c.lower.result = λ o e. subst (λ (p : Option ℕ). Lower first p c.lower.result) e c.lower.ensures in
    let here : NextLink 2048 (Along w x m) c.args.at first =
    subst (λ (s : ℕ). NextLink 2048 (Strided s 64 (32 * (x % 2) + m)) c.args.at first) (get_or_default w.arrows.overs (x / 2) c.index-self-end.result 0 (omega arith))
    c.next_strided-along.ensures in
    elim c.if-times-eq1.branch [
      | then-times-eq1 v ↦
          next_either 2048 c.args.at (Along w x m) (Domain w x m) (Ways w x m) first v.next_strided-other.result c.lower.result here
          (subst (λ (s : ℕ). NextLink 2048 (Strided s 32 0) c.args.at v.next_strided-other.result) (get_or_default w.domains x v.index-self-end-then-times-eq1.result 0 (omega arith)) v.next_strided-other.ensures) (lower v.next_strided-other.result v.other-is) (λ k t. along c.requires.mark.0 t) (λ k t. domain v.if-times-eq1.true t)
          (once w x m v.if-times-eq1.true)
      | else-times-eq1 v ↦
          next_either 2048 c.args.at (Along w x m) (λ j. j ≡ 32 * x + m - 1) (Ways w x m) first v.not_below-other.result c.lower.result here
          v.not_below-other.ensures (lower v.not_below-other.result v.other-is) (λ k t. along c.requires.mark.0 t) (λ k t. below (omega arith) (omega arith))
          (more w x m v.if-times-eq1.false c.requires.mark.0)
    ]
