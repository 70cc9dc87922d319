use Rattle.std.proofs.Common.{refl}
use Rattle.lms_verify.specs.declared.verification.Verdict.TheVariants.{Malformed}
use Rattle.rikselbe_c.proofs.Answering.{verified, verified-no-key}
use Rattle.rikselbe_c.proofs.lms_stream.begun.Goals as goal

pub returns-in-Err : goal.returns-in-Err
returns-in-Err c = λ whole leaf.
    verified-no-key c.args.key.now whole c.args.signature.now c.in-Err.fault leaf _ _ c.in-Err.ensures.refused (λ public is. c.in-Err.ensures.read public is)
    c.of_lms_key-number.ensures refl

pub returns-in-Err-read_signature : goal.returns-in-Err-read_signature
returns-in-Err-read_signature c = λ whole leaf.
    verified c.in-Ok.key c.args.key.now whole c.args.signature.now (Malformed c.in-Err-read_signature.fault) leaf _ _ c.in-Ok.ensures.key
    c.in-Err-read_signature.ensures.refused c.of_lms_signature-number.ensures refl
