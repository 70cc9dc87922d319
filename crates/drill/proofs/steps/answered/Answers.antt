use Rattle.std.proofs.Common.{◌∙◌, ℕ, Option, IfOk, subst, ap}
use Rattle.std.proofs.lemmas.Result.{err_from_is_err_and}
use Rattle.drill_trustees.specs.Trustees.{leaf_at}
use Rattle.session_core.specs.Replies.{with_delivery}
use Rattle.share_files.specs.declared.share.Share.{Share}
use Rattle.trustee_core.specs.Grants.{ask_of}
use Rattle.trustee_core.specs.declared.grant.Grant.{Grant}
use Rattle.drill.specs.Courses.{GoesTo, IsGranted, head_with, masks_joined}
use Rattle.drill.proofs.Replying.{reply-taken}
use Rattle.drill.proofs.Stepping.{took-steps}
use Rattle.drill.proofs.steps.answered.Goals as goal

pub returns-clause-goes : goal.returns-clause-goes
returns-clause-goes c = λ own old granted.
    let desk = c.args.desk.now in
    let i = c.args.i in
    let s = c.args.session in
    let next = c.args.next.now in
    let new = c.args.trustees.now in
    let after = c.take_masks.new.session in
    let grant = c.in-Some.grant in
    let same = c.take_masks.ensures.same in
    let of = c.requires.of in
    let g = subst (λ (o : Option Grant). IsGranted desk own.dealing i old new s next o) c.in-Some.is granted in
    let taken = c.in_ok-take_masks.ensures.taken
    ∙ ap (λ (share : Share). with_delivery s (head_with desk.dealt.public.params next.member next.ask) (masks_joined share (ask_of grant))) c.share.ensures.share in
    let took = reply-taken desk own i old new s after next grant g same c.in_ok-take_masks.ensures.session
    (record { key_is = same.key ∙ of.key_is; plan_is = same.plan ∙ of.plan_is; message_is = same.message ∙ of.message_is }) taken in
    subst (λ (steps : ℕ). IfOk c.advance.result (GoesTo desk own.dealing i old.uses (leaf_at new) steps)) (took-steps s after same.c took.filled)
    (c.advance.ensures.goes own old.uses (leaf_at new) took.course)

pub advance-requires-clause-message : goal.advance-requires-clause-message
advance-requires-clause-message c = c.requires.message

pub advance-requires-clause-of : goal.advance-requires-clause-of
advance-requires-clause-of c =
    let same = c.take_masks.ensures.same in
    let of = c.requires.of in
    record { key_is = same.key ∙ of.key_is; plan_is = same.plan ∙ of.plan_is; message_is = same.message ∙ of.message_is }

pub returns-clause-fits : goal.returns-clause-fits
returns-clause-fits c = c.advance.ensures.fits

pub share-requires-clause-low : goal.share-requires-clause-low
share-requires-clause-low c = c.requires.member.0

pub share-requires-clause-high : goal.share-requires-clause-high
share-requires-clause-high c = c.requires.member.1

pub take_masks-requires : goal.take_masks-requires
take_masks-requires c = rw c.share.ensures.hash_length (rw c.in-Some.is at c.requires.digest)

pub returns-in_err-take_masks-clause-fits : goal.returns-in_err-take_masks-clause-fits
returns-in_err-take_masks-clause-fits c = rw (err_from_is_err_and c.from_residual.result c.from_residual.ensures.1).1 tt

pub returns-in_err-take_masks-clause-goes : goal.returns-in_err-take_masks-clause-goes
returns-in_err-take_masks-clause-goes c = λ own old granted. rw (err_from_is_err_and c.from_residual.result c.from_residual.ensures.1).1 tt
