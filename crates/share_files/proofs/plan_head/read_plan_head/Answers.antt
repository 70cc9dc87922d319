use Rattle.std.proofs.Common.{◌∙◌, sym, arith}
use Rattle.std.proofs.lemmas.List.{take_all}
use Rattle.share_files.proofs.FirstFault.{contradiction}
use Rattle.share_files.proofs.HeadParts.{head_passes}
use Rattle.share_files.proofs.References.{plan_lies}
use Rattle.share_files.proofs.Shares.{plan_passes, same_plan}
use Rattle.share_files.proofs.TreeFiles.{zero_passes}
use Rattle.share_files.proofs.plan_head.read_plan_head.Goals as goal

pub returns-in_err-found-clause-read : goal.returns-in_err-found-clause-read
returns-in_err-found-clause-read c = λ header dealt parts.
    let l = plan_lies c.args.magic.now header c.args.head.now c.told-magic parts in
    contradiction _ _ (head_passes _ _ _ _ _ _ _ c.args.head.now l dealt) c.in_err-found.ensures.refused

pub returns-in_err-plan-clause-read : goal.returns-in_err-plan-clause-read
returns-in_err-plan-clause-read c = λ header dealt parts.
    let l = plan_lies c.args.magic.now header c.args.head.now c.told-magic parts in
    contradiction _ _ (plan_passes _ _ header.plan _ _ _ c.args.head.now l header.plan_is header.height) c.in_err-plan.ensures.refused

pub returns-clause-header : goal.returns-clause-header
returns-clause-header c =
    let size = c.told-head in
    sym (take_all 32 c.args.head.now (omega arith))
    ∙ rw c.in_ok-plan.ensures.plan (rw c.in_ok-check_zero.ensures.zero at c.in_ok-found.ensures.head)

pub returns-clause-read : goal.returns-clause-read
returns-clause-read c = λ header dealt parts.
    let l = plan_lies c.args.magic.now header c.args.head.now c.told-magic parts in
    let lms = c.in_ok-found.ensures.codes.0 ∙ l.lms_is in
    record {
      lms = lms;
      ots = c.in_ok-found.ensures.codes.1 ∙ l.ots_is;
      plan = c.in_ok-plan.ensures.plan ∙ same_plan header.plan header.params c.in_ok-found.found.params c.args.head.now l.own6_at l.own7_at header.height lms;
      id = c.in_ok-found.ensures.id ∙ l.id_at;
    }

pub returns-in_err-check_zero-clause-read : goal.returns-in_err-check_zero-clause-read
returns-in_err-check_zero-clause-read c = λ header dealt parts.
    let l = plan_lies c.args.magic.now header c.args.head.now c.told-magic parts in
    contradiction _ _ (zero_passes 5 c.args.head.now l.own5_at) c.in_err-check_zero.ensures.refused
