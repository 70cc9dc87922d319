use Rattle.std.proofs.Common.{◌≡◌, ◌≢◌, ◌∙◌, ◌+◌, ◌-◌, ◌<◌, ◌≤◌, List, ℕ, None, Some, ap, sym, refl, drop, length, arith}
use Rattle.lms_bytes.specs.Bytes.{bytes_at, str_to_u32}
use Rattle.hss_levels.specs.Levels.{SignedKey}
use Rattle.hss_levels.specs.Parts.{ArePartsOf, levels, part, short}
use Rattle.hss_levels.specs.declared.faults.HssFault.{HssFault}
use Rattle.hss_levels.specs.declared.verification.HssVerdict.TheVariants.{Malformed}
use Rattle.hss_levels.proofs.Accepting.{accepted-verdict, fault-levels, fault-part, fault-short, parts-of, rest-of, verdict-of}
use Rattle.hss_levels.proofs.verification.hss_verify.Goals as goal

pub returns-then-sig-lt4-clause-verdict : goal.returns-then-sig-lt4-clause-verdict
returns-then-sig-lt4-clause-verdict c = short c.if-sig-lt4.true

pub returns-then-sig-lt4-clause-malformed : goal.returns-then-sig-lt4-clause-malformed
returns-then-sig-lt4-clause-malformed c = λ fault found. ap Malformed (fault-short c.args.key.now _ fault c.if-sig-lt4.true found)

pub returns-then-got-signed_keys-clause-verdict : goal.returns-then-got-signed_keys-clause-verdict
returns-then-got-signed_keys-clause-verdict c =
    let number = c.u32_at-got.ensures.number in
    let first = c.args.key.now.first in
    let other = c.if-got-signed_keys.true in
    let differs : str_to_u32 (bytes_at c.args.sig.now 0 4) + 1 ≢ c.args.key.now.levels = λ same. other (omega arith) in
    rw number (levels c.if-sig-lt4.false differs)

pub returns-then-got-signed_keys-clause-malformed : goal.returns-then-got-signed_keys-clause-malformed
returns-then-got-signed_keys-clause-malformed c = λ fault found.
    let number = c.u32_at-got.ensures.number in
    let first = c.args.key.now.first in
    let other = c.if-got-signed_keys.true in
    let differs : str_to_u32 (bytes_at c.args.sig.now 0 4) + 1 ≢ c.args.key.now.levels = λ same. other (omega arith) in
    rw number (ap Malformed (fault-levels c.args.key.now _ fault c.if-sig-lt4.false differs found))

pub returns-in-Some-clause-verdict : goal.returns-in-Some-clause-verdict
returns-in-Some-clause-verdict c =
    let first = c.args.key.now.first in
    let number = sym c.u32_at-got.ensures.number ∙ c.if-got-signed_keys.false in
    part (c.args.key.now.levels - 1) c.in-Some.fault c.if-sig-lt4.false number (omega arith) (rw (rest-of c.args.sig.now 4) at c.in-Some.ensures.fault)

pub returns-in-Some-clause-accepted : goal.returns-in-Some-clause-accepted
returns-in-Some-clause-accepted c = λ accepts.
    let first = c.args.key.now.first in
    let parts = parts-of c.args.key.now _ _ accepts in
    let none = c.in-Some.ensures.faultless parts.keys parts.last (rw (rest-of c.args.sig.now 4) (parts.are (c.args.key.now.levels - 1) (omega arith))) in
    absurd (cc)

pub returns-in-Some-clause-malformed : goal.returns-in-Some-clause-malformed
returns-in-Some-clause-malformed c = λ fault found.
    let first = c.args.key.now.first in
    let number = sym c.u32_at-got.ensures.number ∙ c.if-got-signed_keys.false in
    let here = fault-part c.args.key.now _ (c.args.key.now.levels - 1) fault c.if-sig-lt4.false number (omega arith) found in
    let same = c.in-Some.ensures.found fault (rw (rest-of c.args.sig.now 4) here) in
    let equal : c.in-Some.fault ≡ fault = cc in
    ap Malformed equal

pub returns-in-None-clause-verdict : goal.returns-in-None-clause-verdict
returns-in-None-clause-verdict c =
    let first = c.args.key.now.first in
    let parts = c.in-None.ensures.parts in
    let number = rw c.if-got-signed_keys.false at c.u32_at-got.ensures.bytes in
    verdict-of c.args.key.now c.args.message.now c.args.sig.now (c.args.key.now.levels - 1) parts.0 parts.1 c.verify_levels.result (omega arith) number
    (rw (rest-of c.args.sig.now 4) at parts.2) (c.verify_levels.ensures parts.0 parts.1 parts.2)

pub returns-in-None-clause-accepted : goal.returns-in-None-clause-accepted
returns-in-None-clause-accepted c =
    let first = c.args.key.now.first in
    accepted-verdict c.args.key.now c.args.message.now c.args.sig.now (c.args.key.now.levels - 1) c.verify_levels.result (omega arith)
    (λ keys last are. c.verify_levels.ensures keys last (rw (rest-of c.args.sig.now 4) are))

pub returns-in-None-clause-malformed : goal.returns-in-None-clause-malformed
returns-in-None-clause-malformed c = λ fault found.
    let first = c.args.key.now.first in
    let number = sym c.u32_at-got.ensures.number ∙ c.if-got-signed_keys.false in
    let here = fault-part c.args.key.now _ (c.args.key.now.levels - 1) fault c.if-sig-lt4.false number (omega arith) found in
    let some = c.in-None.ensures.found fault (rw (rest-of c.args.sig.now 4) here) in
    absurd (cc)
