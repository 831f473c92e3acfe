-- What the web of keys says of a key, the rows say.
use Rattle.std.proofs.Common.{ℕ, ◌+◌, ◌-◌, ◌/◌, ◌<◌, ◌≤◌, Bool, ◌⊎◌, List, set, subst, inl, inr, ⊎_elim, arith}
use Rattle.search.specs.Leads.{Leads, Joined}
use Rattle.schema.specs.declared.row.Row.{Row}
use Rattle.schema.specs.declared.keys.KeyLinks.{KeyLinks}
use Rattle.schema.specs.declared.keys.Reach.{Reach}
use Rattle.schema.specs.Masks.{Member, Gathers}
use Rattle.schema.specs.Rows.{AllSound}
use Rattle.schema.specs.Keys.{keyed, Forward, Torn, TornSets, KeyBuilt, Studied, Known}
use Rattle.schema.specs.Verdicts.{Tells, NoSharedCap}
use Rattle.schema.specs.Webs.{cls, mark, Link}
use Rattle.schema.proofs.Gather.{gathers_same}
use Rattle.schema.proofs.KeyReach.{keyed_class, keyed_mark, keys_sound, keys_complete}
use Rattle.schema.proofs.Rivalry.{sets_clash, clash_sets}
use Rattle.schema.proofs.Signs.{tells_same}

module _ (rows : List Row) (w : KeyLinks) (built : KeyBuilt rows w) (sound : AllSound 64 32 rows) (uncapped : NoSharedCap rows) (k : ℕ) (within : k < 128) where
  abbrev Step : ℕ → ℕ → Type 0
  Step = Joined 128 (Forward w)

  -- the classes that the web of keys leads to are those that the rows lead to
  classes_known : (set : ℕ) → Gathers (Leads Step k) 64 set → Gathers (λ a. Leads (Link rows) (keyed k) (cls a)) 64 set
  classes_known set g =
      gathers_same g (λ x l p. subst (Leads (Link rows) (keyed k)) (keyed_class x l) (keys_sound rows w built.links sound p))
      (λ x l p. keys_complete rows w built.links sound k within p)

  -- and so the ends
  ends_known : (set : ℕ) → Gathers (λ e. Leads Step k (64 + e)) 64 set → Gathers (λ e. Leads (Link rows) (keyed k) (mark e 1)) 64 set
  ends_known set g =
      gathers_same g (λ x l p. subst (Leads (Link rows) (keyed k)) (keyed_mark x) (keys_sound rows w built.links sound p))
      (λ x l p. keys_complete rows w built.links sound k within p)

  torn_known : (torn : Bool) (set : ℕ) → Gathers (λ a. Leads (Link rows) (keyed k) (cls a)) 64 set
      → Tells torn (TornSets w.rivals set ⊎ ((64 ≤ k) × Member w.broken ((k - 64) / 2))) → Tells torn (Torn rows k)
  torn_known torn set c b =
      tells_same torn
      (λ s. ⊎_elim (λ t. inl (sets_clash rows sound uncapped w.links.now built.links w.rivals built.rivals k set c t)) (λ h. inr (h.0, built.broken.only ((k - 64) / 2) h.1)) s)
      (λ s. ⊎_elim (λ t. inl (clash_sets rows sound uncapped w.links.now built.links w.rivals built.rivals k set c t)) (λ h. inr (h.0, built.broken.all ((k - 64) / 2) (omega arith) h.1)) s)
      b

  -- what is learned of a key in its web is so in the rows
  pub key_known : (r : Reach) → Studied w k r → Known rows k r
  key_known r s =
      let c = classes_known r.keys.classes s.led.to_classes in
      record { to_classes = c; to_ends = ends_known r.keys.ends s.led.to_ends; tears = torn_known r.torn r.keys.classes c s.tears }
