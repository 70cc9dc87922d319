use Rattle.std.proofs.Common.{Some, ap, sym, ◌∙◌}
use Rattle.aggregator_session.proofs.Addressing.{found-here, found-later, found-none}
use Rattle.aggregator_session.proofs.desk.place_of.Goals as goal

pub returns-then-address-member-clause-some : goal.returns-then-address-member-clause-some
returns-then-address-member-clause-some c =
    found-here c.args.addresses.now c.args.member c.addresses.i c.index-addresses-i.result c.addresses-test.true c.index-addresses-i.is c.addresses.invariant c.if-address-member.true
    ∙ ap Some (sym c.as_str.ensures.value)

pub addresses-preserved : goal.addresses-preserved
addresses-preserved c = found-later c.args.addresses.now c.args.member c.addresses.i c.index-addresses-i.result c.addresses-test.true c.index-addresses-i.is c.addresses.invariant c.if-address-member.false

pub returns-clause-none : goal.returns-clause-none
returns-clause-none c = found-none c.args.addresses.now c.args.member c.addresses.i c.addresses-test.false c.addresses.invariant
