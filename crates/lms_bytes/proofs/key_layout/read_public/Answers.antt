use Rattle.std.proofs.Common.{◌∙◌, ap, arith}
use Rattle.lms_bytes.specs.Bytes.{bytes_at}
use Rattle.lms_bytes.proofs.Parts.{four_parts}
use Rattle.lms_bytes.proofs.Layouts.{key_lies, codes_accepted, same_hash_length}
use Rattle.lms_bytes.proofs.key_layout.read_public.Goals as goal

pub returns-clause-key : goal.returns-clause-key
returns-clause-key c =
    let codes = c.in_ok-params.ensures.codes in
    let id = c.copy_from_slice.ensures.after in
    four_parts c.args.bytes.now _ _ c.copy_from_slice.new.self c.of.result c.in_ok-params.params.n (omega arith)
    (rw (← codes.0) at c.u32_at.ensures.bytes) (rw (← codes.1) at c.u32_at-2.ensures.bytes) (id ∙ c.part.ensures.bytes) (c.of.ensures ∙ c.part-2.ensures.bytes)

pub returns-in_err-params-clause-read : goal.returns-in_err-params-clause-read
returns-in_err-params-clause-read c = λ key parts.
    let lies = key_lies key c.args.bytes.now parts in
    let fails = c.in_err-params.ensures.refused in
    let accepted = codes_accepted key.params in
    let lms = c.u32_at.ensures.number ∙ lies.lms_at in
    let ots = c.u32_at-2.ensures.number ∙ lies.ots_at in
    absurd (cc)

pub returns-then-bytes-want-clause-read : goal.returns-then-bytes-want-clause-read
returns-then-bytes-want-clause-read c = λ key parts.
    let lies = key_lies key c.args.bytes.now parts in
    let same = c.in_ok-params.ensures.codes.0 ∙ (c.u32_at.ensures.number ∙ lies.lms_at) in
    let hash_length = same_hash_length c.in_ok-params.params key.params same in
    let len = lies.len in
    let other = c.if-bytes-want.true in
    omega arith

pub returns-clause-read : goal.returns-clause-read
returns-clause-read c = λ key parts.
    let lies = key_lies key c.args.bytes.now parts in
    let codes = c.in_ok-params.ensures.codes in
    let lms = codes.0 ∙ (c.u32_at.ensures.number ∙ lies.lms_at) in
    let hash_length = same_hash_length c.in_ok-params.params key.params lms in
    record {
      lms = lms;
      ots = codes.1 ∙ (c.u32_at-2.ensures.number ∙ lies.ots_at);
      id = c.copy_from_slice.ensures.after ∙ (c.part.ensures.bytes ∙ lies.id_at);
      root = c.of.ensures ∙ (c.part-2.ensures.bytes ∙ (ap (bytes_at c.args.bytes.now 24) hash_length ∙ lies.root_at));
    }
