use Rattle.std.proofs.Common.{◌+◌, ◌∙◌, ap, length, append_assoc, arith}
use Rattle.lms_bytes.proofs.Parts.{deeper}
use Rattle.lms_bytes.proofs.signature_layout.write_layout.Goals as goal

pub returns-clause-rest : goal.returns-clause-rest
returns-clause-rest c =
    let end = 8 + c.args.params.now.n + length c.args.chains.now + 4 + length c.args.path.now in
    let leaf = ap length c.to_be_bytes.ensures in
    let ots = ap length c.to_be_bytes-2.ensures in
    let randomizer = ap length c.bytes.ensures.bytes in
    let lms = ap length c.to_be_bytes-3.ensures in
    let six = deeper _ _ end end c.put-6.ensures.after (omega arith) in
    let five = deeper _ _ (8 + c.args.params.now.n + length c.args.chains.now + length c.to_be_bytes-3.result) end c.put-5.ensures.after (omega arith) in
    let four = deeper _ _ (8 + c.args.params.now.n + length c.args.chains.now) end c.put-4.ensures.after (omega arith) in
    let three = deeper _ _ (8 + length c.bytes.result.now) end c.put-3.ensures.after (omega arith) in
    let two = deeper _ _ (4 + length c.to_be_bytes-2.result) end c.put-2.ensures.after (omega arith) in
    let one = deeper _ _ (0 + length c.to_be_bytes.result) end c.put.ensures.after (omega arith) in
    six ∙ (five ∙ (four ∙ (three ∙ (two ∙ one))))

pub returns-clause-bytes : goal.returns-clause-bytes
returns-clause-bytes c =
    let one = rw c.to_be_bytes.ensures at c.put.ensures.front in
    let two = rw (c.to_be_bytes-2.ensures, one) at c.put-2.ensures.front in
    let three = rw (c.bytes.ensures.bytes, c.requires.c, two) at c.put-3.ensures.front in
    let four = rw three at c.put-4.ensures.front in
    let five = rw (c.to_be_bytes-3.ensures, four) at c.put-5.ensures.front in
    let six = rw five at c.put-6.ensures.front in
    six ∙ simp append_assoc
