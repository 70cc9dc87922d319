use Rattle.std.proofs.Common.{◌≡◌, ◌∙◌, ℕ, subst, ap}
use Rattle.lms_bytes.specs.Signature.{HasLayout}
use Rattle.lms_bytes.specs.declared.public_key.PublicKey.{PublicKey}
use Rattle.lms_verify.specs.Verdict.{IsVerdict}
use Rattle.rikselbe_c.specs.HssStream.{HasTakenPart, IsHashing}
use Rattle.rikselbe_c.specs.Numbers.{at_last_level, hss_number}
use Rattle.rikselbe_c.specs.declared.hss_stream.HssStream.{HssStream}
use Rattle.rikselbe_c.proofs.HssStreams.{verified}
use Rattle.rikselbe_c.proofs.hss_stream.finished.Goals as goal

pub returns-in-Refused : goal.returns-in-Refused
returns-in-Refused c = λ key message had. subst (λ (s : HssStream). HasTakenPart s key c.args.signature.now message) c.in-Refused.is had message

pub returns-in-Hashing : goal.returns-in-Hashing
returns-in-Hashing c = λ key message had.
    let was : IsHashing c.in-Hashing.level c.in-Hashing.place c.in-Hashing.key c.in-Hashing.hash key c.args.signature.now message =
    subst (λ (s : HssStream). HasTakenPart s key c.args.signature.now message) c.in-Hashing.is had in
    let last : c.behind.result.now ≡ was.levels.last = c.behind.ensures.bytes ∙ was.last_is in
    let layout : HasLayout c.in-Hashing.key.params c.behind.result.now was.q was.c was.y was.path = rw last was.layout in
    let says = c.verdict_of.ensures was.q was.c was.y was.path message layout was.taken in
    let moved : IsVerdict c.in-Hashing.key message was.levels.last c.verdict_of.result = rw (← last) says in
    verified was.top key message c.args.signature.now was.levels c.verdict_of.result _ was.key_is
    (subst (λ (k : PublicKey). IsVerdict k message was.levels.last c.verdict_of.result) was.public_is moved)
    (c.of_last_level.ensures ∙ ap (λ (n : ℕ). hss_number (at_last_level n c.verdict_of.result)) was.level_is)
