use Rattle.std.proofs.Common.{◌≡◌, ◌∙◌, ◌-◌, ◌^◌, refl, arith}
use Rattle.ots_chain.proofs.Ends.{ends_none, ends_more}
use Rattle.ots_chain.proofs.leaf_key.leaf_key_of.Goals as goal

pub chains-init : goal.chains-init
chains-init c = ends_none _ _ _ _ _ c.new-hash.ensures

pub chains-preserved : goal.chains-preserved
chains-preserved c =
    let all : 2 ^ c.args.params.now.w - 1 - 0 ≡ 2 ^ c.args.params.now.w - 1 = omega arith in
    ends_more _ _ _ _ c.chain-end.result _ c.chains.i (c.chain-end.ensures.value ∙ rw (c.secret-start.ensures.value, c.greatest_digit-greatest.ensures, all) refl)
    (c.take.ensures _ _ _ _ c.chains.invariant)

pub returns-clause-length : goal.returns-clause-length
returns-clause-length c = c.finish.ensures.length _ _ _ _ c.chains.invariant
