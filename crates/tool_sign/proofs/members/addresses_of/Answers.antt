use Rattle.std.proofs.Common.{◌<◌, ◌+◌, length, arith, map, ap}
use Rattle.std.proofs.lemmas.List.{take_all}
use Rattle.tool_sign.specs.Members.{address, placed_from}
use Rattle.tool_sign.proofs.Placing.{address_more, address_none, is_none_of}
use Rattle.tool_sign.proofs.members.addresses_of.Goals as goal
use Rattle.tool_sign.proofs.members.addresses_of.Goals.{in-Some+in_ok-from_str+in_ok-push, in_default}

pub places-init : goal.places-init
unfolding placed_from
places-init c = ap (map address) c.new-addresses.ensures.items

pub places-preserved : goal.places-preserved
places-preserved c =
    let h = c.places-test.true in
    let within : c.places.i < length c.args.places.now = omega (arith, c.told-places, h) in
    elim c.match-places-i.branch [
      | in-Some+in_ok-from_str+in_ok-push w ↦
          rw w.addresses-is (address_more _ address c.args.places.now c.places.i w.in-Some.place c.places.addresses.items _ _ within w.in-Some.is c.places.invariant
          w.in_ok-push.ensures.items (ap (λ place. record { member = c.places.i + 1; place = place }) w.in_ok-from_str.ensures.ok))
      | in_default w ↦ rw w.addresses-is (address_none _ address c.args.places.now c.places.i c.places.addresses.items within (is_none_of _ w.in_default.not-Some) c.places.invariant)
    ]

pub returns : goal.returns
returns c =
    let all = take_all c.places.i c.args.places.now (let end = c.places-test.false in omega (arith, c.told-places)) in
    rw all at c.places.invariant
