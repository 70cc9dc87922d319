use Rattle.std.proofs.Common.{◌≡◌, refl}
use Rattle.lms_verify.proofs.Judged.{is-judged}
use Rattle.lms_verify.proofs.verification.verify_digest.Goals as goal

pub returns-in-Ok-clause-verdict : goal.returns-in-Ok-clause-verdict
returns-in-Ok-clause-verdict c = λ message is.
    let view = c.in-Ok.view in
    let judged = is-judged c.args.key.now message c.args.sig.now view.leaf view.c.now view.chains.now view.path.now c.in-Ok.ensures.layout in
    let digest = is view.leaf view.c.now view.chains.now view.path.now c.in-Ok.ensures.layout in
    rw (c.verdict_of.ensures, digest) judged
