use Rattle.std.proofs.Common.{◌+◌, ◌∙◌, ap, length, arith}
use Rattle.lms_bytes.proofs.Parts.{deeper}
use Rattle.lms_bytes.proofs.key_layout.write_public.Goals as goal

pub returns-clause-rest : goal.returns-clause-rest
returns-clause-rest c =
    let end = 24 + c.args.key.now.params.n in
    let root = ap length c.bytes.ensures.bytes in
    let lms = ap length c.to_be_bytes.ensures in
    let ots = ap length c.to_be_bytes-2.ensures in
    let root_length = c.args.key.now.root_length in
    let id_length = c.args.key.now.id_length in
    let four = deeper _ _ (24 + length c.bytes.result.now) end c.put-4.ensures.after (omega arith) in
    let three = deeper _ _ (8 + length c.args.key.now.id) end c.put-3.ensures.after (omega arith) in
    let two = deeper _ _ (4 + length c.to_be_bytes-2.result) end c.put-2.ensures.after (omega arith) in
    let one = deeper _ _ (0 + length c.to_be_bytes.result) end c.put.ensures.after (omega arith) in
    four ∙ (three ∙ (two ∙ one))

pub returns-clause-bytes : goal.returns-clause-bytes
returns-clause-bytes c =
    let one = rw c.to_be_bytes.ensures at c.put.ensures.front in
    let two = rw (c.to_be_bytes-2.ensures, one) at c.put-2.ensures.front in
    let three = rw (c.args.key.now.id_length, two) at c.put-3.ensures.front in
    rw (c.bytes.ensures.bytes, c.args.key.now.root_length, three) at c.put-4.ensures.front
