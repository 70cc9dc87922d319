use Rattle.std.proofs.Common.{◌≡◌, ◌+◌, ◌*◌, arith}
use Rattle.lms_bytes.specs.Bytes.{bytes_at, u32str}
use Rattle.lms_bytes.specs.Signature.{tree_place}
use Rattle.lms_bytes.proofs.Parts.{six_parts}
use Rattle.lms_bytes.proofs.Layouts.{layout_passes, one_layout, next_row}
use Rattle.lms_bytes.proofs.signature_layout.read_signature.Goals as goal

pub returns-in-Some-clause-read : goal.returns-in-Some-clause-read
returns-in-Some-clause-read c = λ q c' y path l.
    let passes = layout_passes c.args.params.now c.args.bytes.now q c' y path l in
    let fails = c.in-Some.ensures.fault in
    cc

pub returns-clause-layout : goal.returns-clause-layout
returns-clause-layout c =
    let params = c.args.params.now in
    let row = next_row params.n params.p in
    let length = c.in_default.ensures.length in
    let place : tree_place params ≡ 8 + params.n + params.n * params.p = omega arith in
    let lms : u32str params.lms ≡ bytes_at c.args.bytes.now (8 + params.n + params.n * params.p) 4 = rw place at c.in_default.ensures.lms in
    record {
      leaf = rw c.u32_at.ensures.number c.in_default.ensures.leaf;
      c_length = c.part.ensures.length;
      y_length = c.part-2.ensures.length;
      path_length = c.part-3.ensures.length;
      parts = six_parts c.args.bytes.now _ _ c.part.result.now c.part-2.result.now _ c.part-3.result.now params.n _ _ (omega arith)
          c.u32_at.ensures.bytes c.in_default.ensures.ots c.part.ensures.bytes c.part-2.ensures.bytes lms c.part-3.ensures.bytes;
    }

pub returns-clause-read : goal.returns-clause-read
returns-clause-read c = λ q c' y path l.
    let same = one_layout c.args.params.now c.args.bytes.now _ q _ _ _ c' y path (returns-clause-layout c) l in
    (same.leaf, same.c_same, same.y_same, same.path_same)
