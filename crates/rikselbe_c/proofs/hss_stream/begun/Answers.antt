use Rattle.std.proofs.Common.{◌∙◌, refl, arith}
use Rattle.rikselbe_c.proofs.Answering.{hss-verified-no-key}
use Rattle.rikselbe_c.proofs.HssStreams.{level-inside, levels-accepted, levels-other, malformed, other-above}
use Rattle.rikselbe_c.proofs.hss_stream.begun.Goals as goal

pub returns-in-Err : goal.returns-in-Err
returns-in-Err c = λ whole.
    hss-verified-no-key c.args.key.now whole c.args.signature.now c.in-Err.fault _ c.in-Err.ensures.refused
    (λ public is. let read = c.in-Err.ensures.read public is in absurd (cc)) c.of_hss_key-number.ensures

pub hashing-requires : goal.hashing-requires
hashing-requires c = levels-accepted c.in-Ok.key _ c.args.signature.now c.in-Accepted.ensures.verdict.1

pub returns-in-Malformed : goal.returns-in-Malformed
returns-in-Malformed c = λ whole.
    malformed c.in-Ok.key c.args.key.now whole c.args.signature.now c.in-Malformed.field-0 _ c.in-Ok.ensures.key c.in-Malformed.ensures.verdict
    (c.of_hss-number.ensures ∙ rw (c.in-Malformed.is) refl)

pub returns-then-level-key : goal.returns-then-level-key
returns-then-level-key c = λ whole.
    other-above c.in-Ok.key c.args.key.now _ whole c.args.signature.now c.in-OtherRoot.level c.in-OtherRoot.got c.in-OtherRoot.want _ c.in-Ok.ensures.key
    (omega (arith, c.if-level-key.true)) c.in-OtherRoot.ensures.verdict c.of_hss-number-then-level-key.ensures

pub hashing-requires-in-OtherRoot : goal.hashing-requires-in-OtherRoot
hashing-requires-in-OtherRoot c =
    let first = c.in-Ok.key.first in
    let inside = level-inside c.in-Ok.key _ c.args.signature.now c.in-OtherRoot.level _ _ c.in-OtherRoot.ensures.verdict in
    levels-other c.in-Ok.key _ c.args.signature.now c.in-OtherRoot.level c.in-OtherRoot.got c.in-OtherRoot.want (omega (arith, c.if-level-key.false, inside, first)) c.in-OtherRoot.ensures.verdict
