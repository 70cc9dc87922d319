use Rattle.std.proofs.Common.{◌<◌, ℕ, List, Bor, length, refl, arith, ◌∙◌}
use Rattle.std.proofs.lemmas.List.{take_all}
use Rattle.tool_sign.proofs.Placing.{bits_member, bits_none, bits_other}
use Rattle.tool_sign.proofs.members.members_of.Goals as goal
use Rattle.tool_sign.proofs.members.members_of.Goals.{then-is_some, else-is_some}

pub places-init : goal.places-init
places-init c = bits_none (λ (place : Bor (List ℕ)). place.now) c.args.places.now

pub places-preserved : goal.places-preserved
places-preserved c =
    let h = c.places-test.true in
    let within : c.places.i < length c.args.places.now = omega (arith, c.told-places, h) in
    elim c.if-is_some.branch [
      | then-is_some w ↦ bits_member _ c.args.places.now c.places.i c.places.bits _ _ refl (w.if-is_some.ensures) within h c.places.invariant w.bits-is
      | else-is_some w ↦ bits_other _ c.args.places.now c.places.i c.places.bits _ _ refl (w.if-is_some.ensures) within c.places.invariant w.bits-is
    ]

pub returns : goal.returns
returns c =
    let all = take_all c.places.i c.args.places.now (let end = c.places-test.false in omega (arith, c.told-places)) in
    c.of_bits.ensures ∙ rw all at c.places.invariant.1
