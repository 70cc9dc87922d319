use Rattle.std.proofs.Common.{◌≡◌, ◌∙◌, refl}
use Rattle.lms_verify.proofs.Judged.{is-accepted-by, is-judged}
use Rattle.lms_verify.specs.Accepts.{root_of_digest, root_of_parts}
use Rattle.lms_verify.specs.Verdict.{IsVerdict, verdict_by}
use Rattle.lms_verify.specs.declared.verification.Verdict.TheVariants.{Accepted}
use Rattle.lms_verify.proofs.verification.verify.Goals as goal

pub returns-in-Err-clause-accepted : goal.returns-in-Err-clause-accepted
returns-in-Err-clause-accepted c = λ q a. absurd (c.in-Err.ensures.read q a.c a.y a.path a.layout)

pub returns-in-Ok-clause-verdict : goal.returns-in-Ok-clause-verdict
returns-in-Ok-clause-verdict c =
    let view = c.in-Ok.view in
    let key = c.args.key.now in
    let judged = is-judged key c.args.message.now c.args.sig.now view.leaf view.c.now view.chains.now view.path.now c.in-Ok.ensures.layout in
    rw (c.verdict_of.ensures, c.digest_of.ensures.digest) judged

pub returns-in-Ok-clause-accepted : goal.returns-in-Ok-clause-accepted
returns-in-Ok-clause-accepted c = λ q a.
    let key = c.args.key.now in
    let view = c.in-Ok.view in
    let parts = c.in-Ok.ensures.read q a.c a.y a.path a.layout in
    let moved : root_of_parts key c.args.message.now view.leaf view.c.now view.chains.now view.path.now
    ≡ root_of_parts key c.args.message.now q a.c a.y a.path =
    rw (parts.0, parts.1, parts.2, parts.3) refl in
    let accepted = is-accepted-by key view.leaf (root_of_parts key c.args.message.now view.leaf view.c.now view.chains.now view.path.now) (moved ∙ a.root_is) in
    rw (c.verdict_of.ensures, c.digest_of.ensures.digest, accepted, parts.0) refl
