use Rattle.std.proofs.Common.{sym, ap, ◌∙◌, subst}
use Rattle.std.proofs.lemmas.Result.{err_from_is_err_and}
use Rattle.tool_sign.specs.Members.{IsCoalition, members_placed, placed}
use Rattle.tool_sign.specs.Tasks.{no_coalition, no_memory, no_message, other_key}
use Rattle.tool_sign.proofs.task.read_task.Goals as goal

pub returns-in_err-message-clause-refused : goal.returns-in_err-message-clause-refused
returns-in_err-message-clause-refused g c =
    let p = err_from_is_err_and c.from_residual.result c.from_residual.ensures.1 in
    rw (p.1, p.2) (no_message _ c.in_err-message.ensures.refused)

pub returns-in_err-test_same_key-clause-refused : goal.returns-in_err-test_same_key-clause-refused
returns-in_err-test_same_key-clause-refused g c =
    let p = err_from_is_err_and c.from_residual-in_err-test_same_key.result c.from_residual-in_err-test_same_key.ensures.1 in
    rw (p.1, p.2) (other_key _ _ c.in_ok-message.ensures.bytes c.in_err-test_same_key.ensures.refused)

pub returns-in_err-test_members-clause-refused : goal.returns-in_err-test_members-clause-refused
returns-in_err-test_members-clause-refused g c =
    let p = err_from_is_err_and c.from_residual-in_err-test_members.result c.from_residual-in_err-test_members.ensures.1 in
    let refused = c.in_err-test_members.ensures.refused in
    let members = c.members_of-members.ensures ∙ ap members_placed c.list-places.ensures in
    rw (p.1, p.2, refused.0) (no_coalition _ c.in_ok-message.ensures.bytes
    c.in_ok-test_same_key.ensures.same (λ coalition. refused.1 (subst (IsCoalition c.args.header.now.plan) (sym members) coalition)))

pub returns-in-Ok-clause-task : goal.returns-in-Ok-clause-task
returns-in-Ok-clause-task g c = record {
  message_is = c.in_ok-message.ensures.bytes;
  one_key = c.in_ok-test_same_key.ensures.same;
  members_are = c.members_of-members.ensures ∙ ap members_placed c.list-places.ensures;
  coalition = c.in_ok-test_members.ensures.coalition;
  addresses_are = c.in-Ok.ensures ∙ ap placed c.list-places.ensures;
}

pub returns-in-Err-clause-refused : goal.returns-in-Err-clause-refused
returns-in-Err-clause-refused g c = no_memory

pub returns-in_err-message-clause-task : goal.returns-in_err-message-clause-task
returns-in_err-message-clause-task g c = let p = err_from_is_err_and c.from_residual.result c.from_residual.ensures.1 in rw p.1 tt

pub returns-in_err-message-clause-sizes : goal.returns-in_err-message-clause-sizes
returns-in_err-message-clause-sizes g c = let p = err_from_is_err_and c.from_residual.result c.from_residual.ensures.1 in rw p.1 tt

pub returns-in_err-message-clause-unchanged : goal.returns-in_err-message-clause-unchanged
returns-in_err-message-clause-unchanged g c = c.in_err-message.ensures.unchanged

pub returns-in_err-test_same_key-clause-task : goal.returns-in_err-test_same_key-clause-task
returns-in_err-test_same_key-clause-task g c = let p = err_from_is_err_and c.from_residual-in_err-test_same_key.result c.from_residual-in_err-test_same_key.ensures.1 in rw p.1 tt

pub returns-in_err-test_same_key-clause-sizes : goal.returns-in_err-test_same_key-clause-sizes
returns-in_err-test_same_key-clause-sizes g c = let p = err_from_is_err_and c.from_residual-in_err-test_same_key.result c.from_residual-in_err-test_same_key.ensures.1 in rw p.1 tt

pub returns-in_err-test_same_key-clause-unchanged : goal.returns-in_err-test_same_key-clause-unchanged
returns-in_err-test_same_key-clause-unchanged g c = c.in_ok-message.ensures.unchanged

pub returns-in_err-test_members-clause-task : goal.returns-in_err-test_members-clause-task
returns-in_err-test_members-clause-task g c = let p = err_from_is_err_and c.from_residual-in_err-test_members.result c.from_residual-in_err-test_members.ensures.1 in rw p.1 tt

pub returns-in_err-test_members-clause-sizes : goal.returns-in_err-test_members-clause-sizes
returns-in_err-test_members-clause-sizes g c = let p = err_from_is_err_and c.from_residual-in_err-test_members.result c.from_residual-in_err-test_members.ensures.1 in rw p.1 tt

pub returns-in_err-test_members-clause-unchanged : goal.returns-in_err-test_members-clause-unchanged
returns-in_err-test_members-clause-unchanged g c = c.in_ok-message.ensures.unchanged

pub returns-in-Ok-clause-sizes : goal.returns-in-Ok-clause-sizes
returns-in-Ok-clause-sizes g c = c.in_ok-test_same_key.ensures.sizes

pub returns-in-Ok-clause-refused : goal.returns-in-Ok-clause-refused
returns-in-Ok-clause-refused g c = tt

pub returns-in-Ok-clause-unchanged : goal.returns-in-Ok-clause-unchanged
returns-in-Ok-clause-unchanged g c = c.in_ok-message.ensures.unchanged

pub returns-in-Err-clause-task : goal.returns-in-Err-clause-task
returns-in-Err-clause-task g c = tt

pub returns-in-Err-clause-sizes : goal.returns-in-Err-clause-sizes
returns-in-Err-clause-sizes g c = tt

pub returns-in-Err-clause-unchanged : goal.returns-in-Err-clause-unchanged
returns-in-Err-clause-unchanged g c = c.in_ok-message.ensures.unchanged
