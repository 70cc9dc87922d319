use Rattle.std.proofs.Common.{◌≡◌, ◌∙◌, ◌==◌, true, false, refl}
use Rattle.std.specs.Prelude.{slice_index}
use Rattle.std.proofs.lemmas.Bool.{ne_eqb, eq-eqb}
use Rattle.share_files.specs.Head.{code_fault, version_fault}
use Rattle.share_files.proofs.FirstFault.{first_fault-failed, first_fault-passed}
use Rattle.share_files.proofs.head.refused_codes.Goals as goal

pub returns-then-bytes-ne1 : goal.returns-then-bytes-ne1
returns-then-bytes-ne1 c =
    let other : slice_index c.args.bytes.now 4 == 1 ≡ false = ne_eqb _ _ c.if-bytes-ne1.true in
    first_fault-failed (version_fault c.args.bytes.now) _ _ (rw (c.requires.none, other) refl)

pub returns : goal.returns
returns c =
    let one : slice_index c.args.bytes.now 4 == 1 ≡ true = eq-eqb _ _ c.if-bytes-ne1.false in
    first_fault-passed (version_fault c.args.bytes.now) _ (rw one refl)
    ∙ first_fault-failed (code_fault c.args.bytes.now) _ _ (rw (c.requires.none, ← c.u32_at.ensures.number, ← c.u32_at-2.ensures.number) refl)
