use Rattle.std.proofs.Common.{◌≡◌, IsTrue, take, arith, refl, ap, ◌∙◌, subst}
use Rattle.tool_desk.specs.Reference.{IsNoReference}
use Rattle.tool_desk.proofs.Heads.{file_other, too_short, head_refused, head_read, header_other, loud, loud_behind, quiet}
use Rattle.tool_desk.proofs.reference.read_head.Goals as goal

pub returns-then-length-clause-file : goal.returns-then-length-clause-file
returns-then-length-clause-file g c =
    λ fault is told. subst (λ f. IsNoReference f (g.V.Pages.reads c.args.pages.now)) (cc)
    (too_short _ c.in-Ok.length (c.in-Ok.ensures.length told) c.if-length.true)

pub returns-in-Ok-read_ref_header-clause-reads : goal.returns-in-Ok-read_ref_header-clause-reads
returns-in-Ok-read_ref_header-clause-reads g c = λ told.
    let read = c.in-Ok-read_ref_header.ensures in
    let still : IsTrue (g.V.Pages.told c.len.new.self) = rw c.len.ensures.stays.told told in
    let front : c.read_at.new.out ≡ take 32 (g.V.Pages.reads c.args.pages.now) =
    c.in-Ok-read_at.ensures.bytes still ∙ ap (take 32) (c.len.ensures.same told) in
    head_read _ c.read_at.new.out c.in-Ok.length _ (c.in-Ok.ensures.length told) front read.header read.size read.dealt

pub returns-in-Err-clause-file : goal.returns-in-Err-clause-file
returns-in-Err-clause-file g c = λ fault is told.
    let still : IsTrue (g.V.Pages.told c.len.new.self) = rw c.len.ensures.stays.told told in
    let front : c.read_at.new.out ≡ take 32 (g.V.Pages.reads c.args.pages.now) =
    c.in-Ok-read_at.ensures.bytes still ∙ ap (take 32) (c.len.ensures.same told) in
    let long = c.if-length.false in
    subst (λ f. IsNoReference f (g.V.Pages.reads c.args.pages.now)) (cc)
    (head_refused _ c.read_at.new.out c.in-Ok.length c.in-Err.fault (c.in-Ok.ensures.length told) (omega arith) front c.in-Err.ensures.refused)

pub returns-then-length-clause-same : goal.returns-then-length-clause-same
returns-then-length-clause-same g c = c.len.ensures.same

pub returns-then-length-clause-stays_told : goal.returns-then-length-clause-stays_told
returns-then-length-clause-stays_told g c = c.len.ensures.stays.told

pub returns-then-length-clause-stays_steady : goal.returns-then-length-clause-stays_steady
returns-then-length-clause-stays_steady g c = c.len.ensures.stays.steady

pub returns-then-length-clause-cause : goal.returns-then-length-clause-cause
returns-then-length-clause-cause g c = quiet c.in-Ok.ensures.cause.succeeded (file_other _)

pub returns-then-length-clause-succeeds : goal.returns-then-length-clause-succeeds
returns-then-length-clause-succeeds g c = λ told steady is. file_other _ is

pub returns-in-Ok-read_ref_header-clause-same : goal.returns-in-Ok-read_ref_header-clause-same
returns-in-Ok-read_ref_header-clause-same g c = λ told. c.read_at.ensures.same (rw c.len.ensures.stays.told told) ∙ c.len.ensures.same told

pub returns-in-Ok-read_ref_header-clause-cause : goal.returns-in-Ok-read_ref_header-clause-cause
returns-in-Ok-read_ref_header-clause-cause g c = quiet (c.in-Ok-read_at.ensures.cause.succeeded ∙ c.in-Ok.ensures.cause.succeeded) (header_other _)

pub returns-in-Err-clause-same : goal.returns-in-Err-clause-same
returns-in-Err-clause-same g c = λ told. c.read_at.ensures.same (rw c.len.ensures.stays.told told) ∙ c.len.ensures.same told

pub returns-in-Err-clause-cause : goal.returns-in-Err-clause-cause
returns-in-Err-clause-cause g c = quiet (c.in-Ok-read_at.ensures.cause.succeeded ∙ c.in-Ok.ensures.cause.succeeded) (file_other _)

pub returns-in_default-clause-cause : goal.returns-in_default-clause-cause
returns-in_default-clause-cause g c = loud refl c.in_default.ensures.cause.later c.in_default.ensures.cause.failed

pub returns-in_default-read_at-clause-cause : goal.returns-in_default-read_at-clause-cause
returns-in_default-read_at-clause-cause g c = loud_behind refl c.in-Ok.ensures.cause.succeeded c.in_default-read_at.ensures.cause.later c.in_default-read_at.ensures.cause.failed

pub returns-in-Ok-read_ref_header-clause-succeeds : goal.returns-in-Ok-read_ref_header-clause-succeeds
returns-in-Ok-read_ref_header-clause-succeeds g c = λ told steady is. header_other _ is

pub returns-in-Err-clause-succeeds : goal.returns-in-Err-clause-succeeds
returns-in-Err-clause-succeeds g c = λ told steady is. file_other _ is

pub returns-in-Ok-read_ref_header-clause-dealt : goal.returns-in-Ok-read_ref_header-clause-dealt
returns-in-Ok-read_ref_header-clause-dealt g c = c.in-Ok-read_ref_header.ensures.dealt

pub returns-in-Ok-read_ref_header-clause-stays_told : goal.returns-in-Ok-read_ref_header-clause-stays_told
returns-in-Ok-read_ref_header-clause-stays_told g c = c.read_at.ensures.stays.told ∙ c.len.ensures.stays.told

pub returns-in-Ok-read_ref_header-clause-stays_steady : goal.returns-in-Ok-read_ref_header-clause-stays_steady
returns-in-Ok-read_ref_header-clause-stays_steady g c = c.read_at.ensures.stays.steady ∙ c.len.ensures.stays.steady

pub returns-in-Err-clause-stays_told : goal.returns-in-Err-clause-stays_told
returns-in-Err-clause-stays_told g c = c.read_at.ensures.stays.told ∙ c.len.ensures.stays.told

pub returns-in-Err-clause-stays_steady : goal.returns-in-Err-clause-stays_steady
returns-in-Err-clause-stays_steady g c = c.read_at.ensures.stays.steady ∙ c.len.ensures.stays.steady

pub returns-in_default-read_at-clause-same : goal.returns-in_default-read_at-clause-same
returns-in_default-read_at-clause-same g c = λ told. c.read_at.ensures.same (rw c.len.ensures.stays.told told) ∙ c.len.ensures.same told
