use Rattle.std.proofs.Common.{◌≡◌, ◌%◌, ◌∙◌, ℕ, List, ap, refl, arith}
use Rattle.std.proofs.lemmas.Result.{err_from_is_err_and}
use Rattle.coalition_map.specs.Coalitions.{PlanNumbers, coalition}
use Rattle.lms_bytes.specs.MessageId.{message_id}
use Rattle.session_core.specs.State.{started}
use Rattle.drill.proofs.Desks.{coalition-below}
use Rattle.drill.proofs.Leasing.{lease-done}
use Rattle.drill.proofs.Starting.{lease-moves}
use Rattle.drill.proofs.steps.lease.Goals as goal

pub members-members-requires : goal.members-members-requires
members-members-requires c = rw c.args.desk.now.plan_is (coalition-below c.args.i)

theirs : (plan three : PlanNumbers) (i : ℕ) (members : List ℕ) → plan ≡ three → members ≡ coalition plan (i % 3) → members ≡ coalition three (i % 3)
theirs plan three i members is own = own ∙ ap (λ (p : PlanNumbers). coalition p (i % 3)) is

pub returns-in_ok-session-in-Ok-clause-goes : goal.returns-in_ok-session-in-Ok-clause-goes
returns-in_ok-session-in-Ok-clause-goes c = λ own old shares settled free bare.
    let desk = c.args.desk.now in
    let of = c.of-id.ensures in
    let it = lease-done c.args.i c.args.table.now c.lease.new.self c.members-members.result c.of-id.result _ settled bare (c.requires.table.plan ∙ desk.plan_is)
    (theirs _ _ c.args.i _ desk.plan_is c.members-members.ensures.members) (of ∙ ap message_id c.requires.message) refl c.in-Ok.ensures.event c.in-Ok.ensures.enters in
    let same = c.in_ok-session-in-Ok.ensures ∙ (λ j. started (c.key.ensures j) desk.plan c.in-Ok.leaf ((of ∙ ap message_id c.requires.message) j)) in
    lease-moves desk own.dealing c.args.i _ _ old c.in-Ok.leaf c.in_ok-session-in-Ok.session shares free it.done.grows it.done.ends same c.round-round.ensures.session

pub returns-in_ok-session-in-Ok-clause-settled : goal.returns-in_ok-session-in-Ok-clause-settled
returns-in_ok-session-in-Ok-clause-settled c = λ settled bare.
    let desk = c.args.desk.now in
    (lease-done c.args.i c.args.table.now c.lease.new.self c.members-members.result c.of-id.result _ settled bare (c.requires.table.plan ∙ desk.plan_is)
    (theirs _ _ c.args.i _ desk.plan_is c.members-members.ensures.members) (c.of-id.ensures ∙ ap message_id c.requires.message) refl c.in-Ok.ensures.event c.in-Ok.ensures.enters).settled

pub returns-in_err-session-in-Ok-clause-settled : goal.returns-in_err-session-in-Ok-clause-settled
returns-in_err-session-in-Ok-clause-settled c = λ settled bare.
    let desk = c.args.desk.now in
    (lease-done c.args.i c.args.table.now c.lease.new.self c.members-members.result c.of-id.result _ settled bare (c.requires.table.plan ∙ desk.plan_is)
    (theirs _ _ c.args.i _ desk.plan_is c.members-members.ensures.members) (c.of-id.ensures ∙ ap message_id c.requires.message) refl c.in-Ok.ensures.event c.in-Ok.ensures.enters).settled

pub returns-in-Err-clause-settled : goal.returns-in-Err-clause-settled
returns-in-Err-clause-settled c = λ settled bare.
    let desk = c.args.desk.now in
    (lease-done c.args.i c.args.table.now c.lease.new.self c.members-members.result c.of-id.result _ settled bare (c.requires.table.plan ∙ desk.plan_is)
    (theirs _ _ c.args.i _ desk.plan_is c.members-members.ensures.members) (c.of-id.ensures ∙ ap message_id c.requires.message) refl c.in-Err.ensures.event c.in-Err.ensures.enters).settled

pub returns-in-Err-clause-goes : goal.returns-in-Err-clause-goes
returns-in-Err-clause-goes c = λ own old shares settled free bare.
    let desk = c.args.desk.now in
    let it = lease-done c.args.i c.args.table.now c.lease.new.self c.members-members.result c.of-id.result _ settled bare (c.requires.table.plan ∙ desk.plan_is)
    (theirs _ _ c.args.i _ desk.plan_is c.members-members.ensures.members) (c.of-id.ensures ∙ ap message_id c.requires.message) refl c.in-Err.ensures.event c.in-Err.ensures.enters in
    record {
      moves = record { grows = it.done.grows; going = it.done.ends; shares = shares; stays = λ t q own within other. refl; parts = refl };
      advances = record { least = omega arith; exact = λ has. absurd (omega arith); put = refl };
    }

pub returns-in_err-session-in-Ok-clause-fits : goal.returns-in_err-session-in-Ok-clause-fits
returns-in_err-session-in-Ok-clause-fits c = rw (err_from_is_err_and c.from_residual.result c.from_residual.ensures.1).1 tt

pub returns-in_err-session-in-Ok-clause-unsigned : goal.returns-in_err-session-in-Ok-clause-unsigned
returns-in_err-session-in-Ok-clause-unsigned c = rw (err_from_is_err_and c.from_residual.result c.from_residual.ensures.1).1 tt

pub returns-in_err-session-in-Ok-clause-goes : goal.returns-in_err-session-in-Ok-clause-goes
returns-in_err-session-in-Ok-clause-goes c = λ own old shares settled free bare. rw (err_from_is_err_and c.from_residual.result c.from_residual.ensures.1).1 tt
