use Rattle.std.proofs.Common.{[], refl}
use Rattle.std.proofs.lemmas.Result.{err_from_is_err_and}
use Rattle.tool_keys.specs.Deal.{no_memory}
use Rattle.tool_keys.specs.Told.{nothing_told}
use Rattle.tool_keys.proofs.Dealing.{dealt_to, few_shares}
use Rattle.tool_keys.proofs.Telling.{no_memory-all, refused-told, undealt-status}
use Rattle.tool_keys.proofs.deal.dealt_outputs.Goals as goal

pub returns-in_err-dealt-clause-refused : goal.returns-in_err-dealt-clause-refused
returns-in_err-dealt-clause-refused g c =
    let p = err_from_is_err_and c.from_residual-in_err-dealt.result c.from_residual-in_err-dealt.ensures.1 in
    rw (p.1, p.2) c.in_err-dealt.ensures.refused

pub named_outputs-requires : goal.named_outputs-requires
named_outputs-requires g c =
    few_shares _ _ c.in_ok-plan.ensures.sound (c.in-Ok.ensures.files _ c.in_ok-dealt.ensures.dealing)

pub returns-in_default-clause-refused : goal.returns-in_default-clause-refused
returns-in_default-clause-refused g c = no_memory

pub returns-in_default-named_outputs-clause-refused : goal.returns-in_default-named_outputs-clause-refused
returns-in_default-named_outputs-clause-refused g c = no_memory

pub returns-clause-dealt : goal.returns-clause-dealt
returns-clause-dealt g c =
    dealt_to _ _ _ _ _ _ _ _ _ c.in_ok-params.ensures.set c.in_ok-plan.ensures.plan c.in_ok-plan.ensures.sound c.in_ok-dealt.ensures.dealt
    (c.in-Ok.ensures.files _ c.in_ok-dealt.ensures.dealing) c.in_ok-dealt.ensures.commits c.in-Ok-named_outputs.ensures c.leaves.ensures c.count.ensures.value

pub returns-in_err-params-clause-told : goal.returns-in_err-params-clause-told
returns-in_err-params-clause-told g c =
    let p = err_from_is_err_and c.from_residual.result c.from_residual.ensures.1 in
    rw (p.1, p.2) (nothing_told (undealt-status _ [] _ (c.in_err-params.ensures.refused [])) refl)

pub returns-in_err-plan-clause-told : goal.returns-in_err-plan-clause-told
returns-in_err-plan-clause-told g c =
    let p = err_from_is_err_and c.from_residual-in_err-plan.result c.from_residual-in_err-plan.ensures.1 in
    rw (p.1, p.2) (nothing_told (undealt-status _ [] _ (c.in_err-plan.ensures.refused [])) refl)

pub returns-in_err-dealt-clause-told : goal.returns-in_err-dealt-clause-told
returns-in_err-dealt-clause-told g c =
    let p = err_from_is_err_and c.from_residual-in_err-dealt.result c.from_residual-in_err-dealt.ensures.1 in
    rw (p.1, p.2) (refused-told _ _ c.in_ok-params.params _ _ _ _ c.requires.small c.in_ok-params.ensures.set c.in_err-dealt.ensures.refused c.in_err-dealt.ensures.told)

pub returns-in_default-clause-told : goal.returns-in_default-clause-told
returns-in_default-clause-told g c = no_memory-all _ _ c.in_ok-params.params _ _ c.requires.small c.in_ok-params.ensures.set c.in_ok-dealt.ensures.told

pub returns-in_default-named_outputs-clause-told : goal.returns-in_default-named_outputs-clause-told
returns-in_default-named_outputs-clause-told g c = no_memory-all _ _ c.in_ok-params.params _ _ c.requires.small c.in_ok-params.ensures.set c.in_ok-dealt.ensures.told

pub returns-clause-told : goal.returns-clause-told
returns-clause-told g c = record { params = c.in_ok-params.params; set = c.in_ok-params.ensures.set; all = rw c.requires.small c.in_ok-dealt.ensures.told }
