use Rattle.std.proofs.Common.{◌≡◌, ◌∙◌, true, false, refl, sym}
use Rattle.std.specs.Str.{bytes_eq}
use Rattle.std.proofs.lemmas.Bool.{not-true, not-false}
use Rattle.lms_bytes.specs.Bytes.{bytes_at}
use Rattle.share_files.specs.Head.{code_fault, has_version, head_fault, magic_fault, version_fault}
use Rattle.share_files.proofs.FirstFault.{first_fault-end, first_fault-passed, first_fault-failed}
use Rattle.share_files.proofs.Versions.{code-passes, version-passes}
use Rattle.share_files.proofs.head.read_head.Goals as goal

pub returns-then-ne-clause-refused : goal.returns-then-ne-clause-refused
unfolding head_fault
returns-then-ne-clause-refused c =
    let other : bytes_eq c.part.result.now c.as_slice.result.now ≡ false = not-true _ (sym c.if-ne.ensures) in
    let test : bytes_eq (bytes_at c.args.bytes.now 0 4) c.args.magic.now ≡ false = rw (c.part.ensures.bytes, c.as_slice.ensures) at other in
    first_fault-failed (magic_fault c.args.magic.now c.args.bytes.now) _ _ (rw test refl)

pub returns-in_default-clause-refused : goal.returns-in_default-clause-refused
unfolding head_fault
returns-in_default-clause-refused c =
    let same : bytes_eq c.part.result.now c.as_slice.result.now ≡ true = not-false _ (sym c.if-ne.ensures) in
    let magic : bytes_eq (bytes_at c.args.bytes.now 0 4) c.args.magic.now ≡ true = rw (c.part.ensures.bytes, c.as_slice.ensures) at same in
    first_fault-passed (magic_fault c.args.magic.now c.args.bytes.now) _ (rw magic refl) ∙ c.refused_codes.ensures

pub returns-clause-faultless : goal.returns-clause-faultless
unfolding head_fault
returns-clause-faultless c =
    let same : bytes_eq c.part.result.now c.as_slice.result.now ≡ true = not-false _ (sym c.if-ne.ensures) in
    let magic : bytes_eq (bytes_at c.args.bytes.now 0 4) c.args.magic.now ≡ true = rw (c.part.ensures.bytes, c.as_slice.ensures) at same in
    let has : has_version c.args.bytes.now ≡ true = sym c.in-Some.ensures.found in
    first_fault-passed (magic_fault c.args.magic.now c.args.bytes.now) _ (rw magic refl)
    ∙ (first_fault-passed (version_fault c.args.bytes.now) _ (version-passes c.args.bytes.now has)
    ∙ (first_fault-passed (code_fault c.args.bytes.now) _ (code-passes c.args.bytes.now has) ∙ first_fault-end))
