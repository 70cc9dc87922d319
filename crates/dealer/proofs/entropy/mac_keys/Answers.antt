use Rattle.std.proofs.Common.{◌<◌, ◌∙◌, [], length, arith, refl}
use Rattle.std.proofs.lemmas.List.{take_all, take_more}
use Rattle.dealer.proofs.entropy.mac_keys.Goals as goal

pub keys-preserved : goal.keys-preserved
keys-preserved c =
    let inside : c.keys.i < length c.args.keys.now = omega arith in
    rw (take_more c.args.keys.now c.keys.i [] inside) (c.in_ok-push.ensures.items ∙ rw (c.keys.invariant, c.new.ensures) refl)

pub returns : goal.returns
returns c =
    let all = take_all c.keys.i c.args.keys.now (omega arith) in
    rw all at c.keys.invariant
