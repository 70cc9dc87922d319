use Rattle.std.proofs.Common.{subst}
use Rattle.rikselbe_c.specs.LmsStream.{HasTakenPart, IsHashing}
use Rattle.rikselbe_c.specs.declared.lms_stream.LmsStream.{LmsStream}
use Rattle.rikselbe_c.proofs.Answering.{verified}
use Rattle.rikselbe_c.proofs.lms_stream.finished.Goals as goal

pub returns-in-Refused : goal.returns-in-Refused
returns-in-Refused c = λ key message had. subst (λ (s : LmsStream). HasTakenPart s key c.args.signature.now message) c.in-Refused.is had message c.args.leaf.now

pub returns-in-Hashing : goal.returns-in-Hashing
returns-in-Hashing c = λ key message had.
    let was : IsHashing c.in-Hashing.key c.in-Hashing.hash key c.args.signature.now message =
    subst (λ (s : LmsStream). HasTakenPart s key c.args.signature.now message) c.in-Hashing.is had in
    verified c.in-Hashing.key key message c.args.signature.now c.verdict_of.result c.args.leaf.now _ _ was.key_is
    (c.verdict_of.ensures was.q was.c was.y was.path message was.layout was.taken) c.of_lms.ensures.number c.of_lms.ensures.leaf
