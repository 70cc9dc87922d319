use Rattle.std.proofs.Common.{◌≡◌, refl}
use Rattle.std.proofs.lemmas.Bool.{false≢true}
use Rattle.share_files.specs.Head.{lms_at}
use Rattle.share_files.specs.Sets.{height_of}
use Rattle.share_files.proofs.Dealt.{height_of-lms}
use Rattle.share_files.proofs.Plans.{plan_fault-passed, plan_fault-refused}
use Rattle.share_files.proofs.head.read_plan.Goals as goal

pub returns-in-Ok-clause-faultless : goal.returns-in-Ok-clause-faultless
returns-in-Ok-clause-faultless c =
    let height : height_of (lms_at c.args.bytes.now) ≡ c.args.params.now.h = rw c.requires.codes at (height_of-lms c.args.params.now) in
    plan_fault-passed c.args.bytes.now c.args.params.now.h height (c.in-Ok.ensures.accepted.0 refl)

pub returns-in-Err-clause-refused : goal.returns-in-Err-clause-refused
returns-in-Err-clause-refused c =
    let height : height_of (lms_at c.args.bytes.now) ≡ c.args.params.now.h = rw c.requires.codes at (height_of-lms c.args.params.now) in
    plan_fault-refused c.args.bytes.now c.args.params.now.h height c.args.params.now.height (λ plan. false≢true (c.in-Err.ensures.accepted.1 plan))
