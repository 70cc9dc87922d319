use Rattle.std.proofs.Common.{◌≡◌, ◌∙◌, ℕ, ◌≤◌, List, [], ◌∷◌, length, None, false, nat_lt, refl, arith}
use Rattle.std.proofs.lemmas.Bool.Decides.{nat_tests}
use Rattle.std.specs.Prelude.{codes}
use Rattle.std.proofs.lemmas.Result.{err_from_is_err_and}
use Rattle.share_files.specs.Head.{head_bytes, short_fault}
use Rattle.share_files.specs.Share.{share_fault}
use Rattle.share_files.proofs.FirstFault.{contradiction, first_fault-end, first_fault-passed, first_fault-failed}
use Rattle.share_files.proofs.HeadParts.{head_and_rest, head_passes}
use Rattle.share_files.proofs.Shares.{key_at, member_passes, plan_passes, same_plan, share_lies}
use Rattle.share_files.proofs.TreeFiles.{length_passes}
use Rattle.share_files.proofs.share_layout.read_share.Goals as goal

short_passes : (want : ℕ) (bytes : List ℕ) → want ≤ length bytes → short_fault want bytes ≡ None
short_passes want bytes h =
    let test : nat_lt (length bytes) want ≡ false = grind (arith, nat_tests) in
    rw test refl

pub returns-in_err-check_front-clause-refused : goal.returns-in_err-check_front-clause-refused
unfolding share_fault
returns-in_err-check_front-clause-refused c =
    let p = err_from_is_err_and c.from_residual.result c.from_residual.ensures.1 in
    rw (p.1, p.2) (first_fault-failed _ _ _ c.in_err-check_front.ensures.refused)

pub returns-in_err-head-clause-read : goal.returns-in_err-head-clause-read
returns-in_err-head-clause-read c = λ share dealt parts.
    contradiction _ _ (head_passes _ _ _ _ _ _ _ c.args.bytes.now (share_lies share c.args.bytes.now parts) dealt) c.in_err-head.ensures.refused

pub returns-in_err-head-clause-refused : goal.returns-in_err-head-clause-refused
unfolding share_fault
returns-in_err-head-clause-refused c =
    let p = err_from_is_err_and c.from_residual-in_err-head.result c.from_residual-in_err-head.ensures.1 in
    rw (p.1, p.2)
    (first_fault-passed _ _ c.in_ok-check_front.ensures.faultless ∙ first_fault-failed _ _ _ c.in_err-head.ensures.refused)

pub returns-in_err-plan-clause-read : goal.returns-in_err-plan-clause-read
returns-in_err-plan-clause-read c = λ share dealt parts.
    let l = share_lies share c.args.bytes.now parts in
    contradiction _ _ (plan_passes _ _ share.plan _ _ _ c.args.bytes.now l share.plan_is share.height) c.in_err-plan.ensures.refused

pub returns-in_err-plan-clause-refused : goal.returns-in_err-plan-clause-refused
unfolding share_fault
returns-in_err-plan-clause-refused c =
    let p = err_from_is_err_and c.from_residual-in_err-plan.result c.from_residual-in_err-plan.ensures.1 in
    rw (p.1, p.2)
    (first_fault-passed _ _ c.in_ok-check_front.ensures.faultless
    ∙ (first_fault-passed _ _ c.in_ok-head.ensures.faultless ∙ first_fault-failed _ _ _ c.in_err-plan.ensures.refused))

pub returns-in_err-member-clause-read : goal.returns-in_err-member-clause-read
returns-in_err-member-clause-read c = λ share dealt parts.
    contradiction _ _ (member_passes share c.args.bytes.now (share_lies share c.args.bytes.now parts)) c.in_err-member.ensures.refused

pub returns-in_err-member-clause-refused : goal.returns-in_err-member-clause-refused
unfolding share_fault
returns-in_err-member-clause-refused c =
    let p = err_from_is_err_and c.from_residual-in_err-member.result c.from_residual-in_err-member.ensures.1 in
    rw (p.1, p.2)
    (first_fault-passed _ _ c.in_ok-check_front.ensures.faultless
    ∙ (first_fault-passed _ _ c.in_ok-head.ensures.faultless
    ∙ (first_fault-passed _ _ c.in_ok-plan.ensures.faultless ∙ first_fault-failed _ _ _ c.in_err-member.ensures.refused)))

pub returns-in_err-check_length-clause-refused : goal.returns-in_err-check_length-clause-refused
unfolding share_fault
returns-in_err-check_length-clause-refused c =
    let p = err_from_is_err_and c.from_residual-in_err-check_length.result c.from_residual-in_err-check_length.ensures.1 in
    rw (p.1, p.2)
    (first_fault-passed _ _ c.in_ok-check_front.ensures.faultless
    ∙ (first_fault-passed _ _ c.in_ok-head.ensures.faultless
    ∙ (first_fault-passed _ _ c.in_ok-plan.ensures.faultless
    ∙ (first_fault-passed _ _ c.in_ok-member.ensures.faultless ∙ first_fault-failed _ _ _ c.in_err-check_length.ensures.refused))))

pub returns-clause-share : goal.returns-clause-share
returns-clause-share c =
    let head = c.in_ok-head.head in
    let plan = c.in_ok-plan.plan in
    let front = head_bytes (codes "TLSH") (c.in_ok-member.member ∷ plan.k ∷ plan.n ∷ []) head.params head.id in
    head_and_rest c.args.bytes.now front c.copy_from_slice.new.self 32 c.in_ok-check_length.ensures.length
    (rw (c.in_ok-member.ensures.member, c.in_ok-plan.ensures.plan) c.in_ok-head.ensures.head)
    (c.copy_from_slice.ensures.after ∙ c.part.ensures.bytes)

pub returns-clause-read : goal.returns-clause-read
returns-clause-read c = λ share dealt parts.
    let l = share_lies share c.args.bytes.now parts in
    let lms = c.in_ok-head.ensures.codes.0 ∙ l.lms_is in
    record {
      lms = lms;
      ots = c.in_ok-head.ensures.codes.1 ∙ l.ots_is;
      plan = c.in_ok-plan.ensures.plan ∙ same_plan share.plan share.params c.in_ok-head.head.params c.args.bytes.now l.own6_at l.own7_at share.height lms;
      member = c.in_ok-member.ensures.member ∙ l.own5_at;
      id = c.in_ok-head.ensures.id ∙ l.id_at;
      key = c.copy_from_slice.ensures.after ∙ (c.part.ensures.bytes ∙ key_at share c.args.bytes.now l);
    }

pub returns-clause-faultless : goal.returns-clause-faultless
unfolding share_fault
returns-clause-faultless c =
    first_fault-passed _ _ c.in_ok-check_front.ensures.faultless
    ∙ (first_fault-passed _ _ c.in_ok-head.ensures.faultless
    ∙ (first_fault-passed _ _ c.in_ok-plan.ensures.faultless
    ∙ (first_fault-passed _ _ c.in_ok-member.ensures.faultless
    ∙ (first_fault-passed _ _ c.in_ok-check_length.ensures.faultless ∙ first_fault-end))))

pub returns-in_err-check_front-clause-read : goal.returns-in_err-check_front-clause-read
returns-in_err-check_front-clause-read c = λ share dealt parts.
    let l = share_lies share c.args.bytes.now parts in
    contradiction _ _ (short_passes 64 c.args.bytes.now (omega (arith, l.size, share.key_length))) c.in_err-check_front.ensures.refused

pub returns-in_err-check_length-clause-read : goal.returns-in_err-check_length-clause-read
returns-in_err-check_length-clause-read c = λ share dealt parts.
    let l = share_lies share c.args.bytes.now parts in
    contradiction _ _ (length_passes (length c.args.bytes.now) 64 (omega (arith, l.size, share.key_length))) c.in_err-check_length.ensures.refused
