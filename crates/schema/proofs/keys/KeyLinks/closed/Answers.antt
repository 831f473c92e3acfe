use Rattle.std.proofs.Common.{◌≡◌, ℕ, get_or, subst, arith}
use Rattle.std.proofs.lemmas.List.{get_or_default}
use Rattle.schema.specs.declared.keys.KeySet.{KeySet}
use Rattle.schema.specs.Keys.{none, NearKey, PassesKey}
use Rattle.schema.proofs.Closings.{Closing, Passed, closing_led, closing_more, passed_more}
use Rattle.schema.proofs.Fillings.{filled_more}
use Rattle.schema.proofs.keys.KeyLinks.closed.Goals as goal

pub loop-key-preserved : goal.loop-key-preserved
loop-key-preserved c = filled_more (NearKey c.args.self.now) c.loop-key.led c.loop-key.key c.near.result none (omega arith) c.loop-key.invariant c.near.ensures

pub loop-via-init : goal.loop-via-init
loop-via-init c =
    record {
      near = λ k l. c.loop-key.invariant k (omega arith);
      closed = λ v i j l h x y. absurd (omega arith);
    }

pub loop-keys-preserved : goal.loop-keys-preserved
loop-keys-preserved c =
    let v = c.loop-via.via in
    let n = c.loop-keys.keys-index in
    let old = c.loop-via.led in
    let new = c.loop-keys.keys-items in
    let r = c.pass.new.self in
    passed_more n v old new r (omega arith) c.loop-keys.invariant
    (subst (λ (s : KeySet). PassesKey v (get_or old v none) s r) (get_or_default new n c.keys-item.result none (omega arith))
    (subst (λ (s : KeySet). PassesKey v s (get_or new n c.keys-item.result) r) (get_or_default old v c.index-led-via.result none (omega arith)) c.pass.ensures))

pub loop-via-preserved : goal.loop-via-preserved
loop-via-preserved c =
    let v = c.loop-via.via in
    let old = c.loop-via.led in
    let new = c.loop-keys.keys-items in
    let all : c.loop-keys.keys-index ≡ 128 = omega arith in
    closing_more c.args.self.now v (omega arith) old new c.loop-via.invariant (subst (λ (n : ℕ). Passed n v old new) all c.loop-keys.invariant)

pub returns : goal.returns
returns c =
    let w = c.args.self.now in
    let led = c.loop-via.led in
    let all : c.loop-via.via ≡ 128 = omega arith in
    closing_led w led (subst (λ (n : ℕ). Closing w n led) all c.loop-via.invariant)
