use Rattle.std.proofs.Common.{◌≡◌, ◌∙◌, ◌-◌, refl, sym, take, length, arith}
use Rattle.std.proofs.lemmas.Result.{err_from_is_err_and}
use Rattle.share_files.specs.Reference.{reference_fault, reference_head}
use Rattle.share_files.proofs.FirstFault.{first_fault-end, first_fault-passed, first_fault-failed}
use Rattle.share_files.proofs.HeadParts.{head_and_rest}
use Rattle.share_files.proofs.References.{front_is, leaves_at, reference_length_is}
use Rattle.share_files.proofs.TreeFiles.{rest_length}
use Rattle.share_files.proofs.reference_layout.read_reference.Goals as goal

pub returns-in_err-check_front-clause-refused : goal.returns-in_err-check_front-clause-refused
unfolding reference_fault
returns-in_err-check_front-clause-refused c =
    let p = err_from_is_err_and c.from_residual.result c.from_residual.ensures.1 in
    rw (p.1, p.2) (first_fault-failed _ _ _ c.in_err-check_front.ensures.refused)

pub returns-in_err-read_ref_header-clause-read : goal.returns-in_err-read_ref_header-clause-read
returns-in_err-read_ref_header-clause-read c = λ header leaves l.
    let head : c.copy_from_slice.new.self ≡ reference_head header =
    c.copy_from_slice.ensures.after ∙ (c.part.ensures.bytes ∙ front_is header leaves c.args.bytes.now l.parts) in
    absurd (c.in_err-read_ref_header.ensures.read header l.dealt head (reference_length_is header c.args.bytes.now leaves l))

pub returns-in_err-read_ref_header-clause-refused : goal.returns-in_err-read_ref_header-clause-refused
unfolding reference_fault
returns-in_err-read_ref_header-clause-refused c =
    let p = err_from_is_err_and c.from_residual-in_err-read_ref_header.result c.from_residual-in_err-read_ref_header.ensures.1 in
    let head : c.copy_from_slice.new.self ≡ take 32 c.args.bytes.now = c.copy_from_slice.ensures.after ∙ c.part.ensures.bytes in
    rw (p.1, p.2)
    (first_fault-passed _ _ c.in_ok-check_front.ensures.faultless
    ∙ first_fault-failed _ _ _ (rw head at c.in_err-read_ref_header.ensures.refused))

pub returns-clause-layout : goal.returns-clause-layout
returns-clause-layout c =
    let header = c.in_ok-read_ref_header.field-0 in
    let front : take 32 c.args.bytes.now ≡ reference_head header =
    sym (c.copy_from_slice.ensures.after ∙ c.part.ensures.bytes) ∙ c.in_ok-read_ref_header.ensures.header in
    record {
      dealt = c.in_ok-read_ref_header.ensures.dealt;
      leaves_are = c.part-2.ensures.length ∙ rest_length _ _ _ refl c.in_ok-read_ref_header.ensures.size;
      parts = head_and_rest c.args.bytes.now (reference_head header) c.part-2.result.now (length c.args.bytes.now - 32)
          (omega (arith, c.in_ok-check_front.ensures.room)) front c.part-2.ensures.bytes;
    }

pub returns-clause-read : goal.returns-clause-read
returns-clause-read c = λ header leaves l.
    let head : c.copy_from_slice.new.self ≡ reference_head header =
    c.copy_from_slice.ensures.after ∙ (c.part.ensures.bytes ∙ front_is header leaves c.args.bytes.now l.parts) in (
      c.in_ok-read_ref_header.ensures.read header l.dealt head (reference_length_is header c.args.bytes.now leaves l),
      c.part-2.ensures.bytes ∙ leaves_at header c.args.bytes.now leaves l,
    )

pub returns-clause-faultless : goal.returns-clause-faultless
unfolding reference_fault
returns-clause-faultless c =
    let head : c.copy_from_slice.new.self ≡ take 32 c.args.bytes.now = c.copy_from_slice.ensures.after ∙ c.part.ensures.bytes in
    first_fault-passed _ _ c.in_ok-check_front.ensures.faultless
    ∙ (first_fault-passed _ _ (rw head at c.in_ok-read_ref_header.ensures.faultless) ∙ first_fault-end)
