use Rattle.std.proofs.Common.{refl}
use Rattle.rikselbe_c.proofs.Answering.{one-lms, verified, verified-no-key}
use Rattle.rikselbe_c.proofs.whole.rikselbe_lms_verify.Goals as goal

pub returns-in-Ok-clause-verified : goal.returns-in-Ok-clause-verified
returns-in-Ok-clause-verified c =
    verified c.in-Ok.key c.args.key.now c.args.message.now c.args.signature.now c.verify.result c.args.leaf.now _ _ c.in-Ok.ensures.key c.verify.ensures.verdict
    c.of_lms.ensures.number c.of_lms.ensures.leaf

pub returns-in-Ok-clause-alone : goal.returns-in-Ok-clause-alone
returns-in-Ok-clause-alone c = λ number new other.
    one-lms c.args.key.now c.args.message.now c.args.signature.now c.args.leaf.now number _ new _ other
    (verified c.in-Ok.key c.args.key.now c.args.message.now c.args.signature.now c.verify.result c.args.leaf.now _ _ c.in-Ok.ensures.key c.verify.ensures.verdict
    c.of_lms.ensures.number c.of_lms.ensures.leaf)

pub returns-in-Err-clause-verified : goal.returns-in-Err-clause-verified
returns-in-Err-clause-verified c =
    verified-no-key c.args.key.now c.args.message.now c.args.signature.now c.in-Err.fault c.args.leaf.now _ _ c.in-Err.ensures.refused
    (λ public is. c.in-Err.ensures.read public is) c.of_lms_key.ensures refl

pub returns-in-Err-clause-alone : goal.returns-in-Err-clause-alone
returns-in-Err-clause-alone c = λ number new other.
    one-lms c.args.key.now c.args.message.now c.args.signature.now c.args.leaf.now number _ new _ other
    (verified-no-key c.args.key.now c.args.message.now c.args.signature.now c.in-Err.fault c.args.leaf.now _ c.args.leaf.now c.in-Err.ensures.refused
    (λ public is. c.in-Err.ensures.read public is) c.of_lms_key.ensures refl)
