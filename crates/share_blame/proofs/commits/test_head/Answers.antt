use Rattle.std.proofs.Common.{◌≡◌, IsTrue, Some, take, arith, ap, ◌∙◌, subst}
use Rattle.share_blame.specs.Loads.{commits_fault}
use Rattle.share_blame.proofs.Heads.{head_differs, head_refused, head_same, length_is, too_short}
use Rattle.share_blame.proofs.commits.test_head.Goals as goal

pub returns-then-length-clause-file : goal.returns-then-length-clause-file
returns-then-length-clause-file g c =
    λ fault is told. subst (λ f. commits_fault c.args.header.now (g.V.Pages.reads c.args.pages.now) ≡ Some f) (cc)
    (too_short c.args.header.now _ c.in-Ok.length (c.in-Ok.ensures.length told) c.if-length.true)

pub returns-in-Err-clause-file : goal.returns-in-Err-clause-file
returns-in-Err-clause-file g c = λ fault is told.
    let still : IsTrue (g.V.Pages.told c.len.new.self) = rw c.len.ensures.stays.told told in
    let front : c.read_at.new.out ≡ take 32 (g.V.Pages.reads c.args.pages.now) =
    c.in-Ok-read_at.ensures.bytes still ∙ ap (take 32) (c.len.ensures.same told) in
    let long = c.if-length.false in
    subst (λ f. commits_fault c.args.header.now (g.V.Pages.reads c.args.pages.now) ≡ Some f) (cc)
    (head_refused c.args.header.now _ c.read_at.new.out c.in-Ok.length c.in-Err.fault (c.in-Ok.ensures.length told) (omega arith) front c.in-Err.ensures.refused)

pub returns-in-Err-test_header-clause-file : goal.returns-in-Err-test_header-clause-file
returns-in-Err-test_header-clause-file g c = λ fault is told.
    let still : IsTrue (g.V.Pages.told c.len.new.self) = rw c.len.ensures.stays.told told in
    let front : c.read_at.new.out ≡ take 32 (g.V.Pages.reads c.args.pages.now) =
    c.in-Ok-read_at.ensures.bytes still ∙ ap (take 32) (c.len.ensures.same told) in
    let long = c.if-length.false in
    let read = c.in-Ok-read_commits_header.ensures in
    subst (λ f. commits_fault c.args.header.now (g.V.Pages.reads c.args.pages.now) ≡ Some f) (cc)
    (head_differs c.args.header.now c.in-Ok-read_commits_header.found _ c.read_at.new.out c.in-Ok.length c.in-Err-test_header.fault (c.in-Ok.ensures.length told) (omega arith) front
    read.faultless read.header c.in-Err-test_header.ensures.refused)

pub returns-in-Ok-test_header-clause-faultless : goal.returns-in-Ok-test_header-clause-faultless
returns-in-Ok-test_header-clause-faultless g c = λ told.
    let still : IsTrue (g.V.Pages.told c.len.new.self) = rw c.len.ensures.stays.told told in
    let front : c.read_at.new.out ≡ take 32 (g.V.Pages.reads c.args.pages.now) =
    c.in-Ok-read_at.ensures.bytes still ∙ ap (take 32) (c.len.ensures.same told) in
    let long = c.if-length.false in
    let read = c.in-Ok-read_commits_header.ensures in
    head_same c.args.header.now c.in-Ok-read_commits_header.found _ c.read_at.new.out c.in-Ok.length (c.in-Ok.ensures.length told) (omega arith) front
    read.faultless read.header c.in-Ok-test_header.ensures.faultless

pub returns-in-Ok-test_header-clause-length : goal.returns-in-Ok-test_header-clause-length
returns-in-Ok-test_header-clause-length g c = λ told.
    let key = c.in-Ok-test_header.ensures.key in
    length_is c.args.header.now c.in-Ok-read_commits_header.found _ c.in-Ok.length (c.in-Ok.ensures.length told) c.in-Ok-read_commits_header.ensures.size
    key.lms_is key.ots_is c.in-Ok-test_header.ensures.plan.k_is
