use Rattle.std.proofs.Common.{◌+◌, ◌∙◌, ap, length, append_assoc, arith}
use Rattle.lms_bytes.proofs.Parts.{deeper}
use Rattle.share_files.proofs.head.write_head.Goals as goal

pub returns-clause-rest : goal.returns-clause-rest
returns-clause-rest c =
    let lms = ap length c.to_be_bytes.ensures in
    let ots = ap length c.to_be_bytes-2.ensures in
    let magic = c.told-magic in
    let own = c.told-own in
    let id = c.told-id in
    let six = deeper _ _ (16 + length c.args.id.now) 32 c.put-6.ensures.after (omega arith) in
    let five = deeper _ _ (12 + length c.to_be_bytes-2.result) 32 c.put-5.ensures.after (omega arith) in
    let four = deeper _ _ (8 + length c.to_be_bytes.result) 32 c.put-4.ensures.after (omega arith) in
    let three = deeper _ _ (5 + length c.args.own.now) 32 c.put-3.ensures.after (omega arith) in
    let two = deeper c.put-2.new.out c.put.new.out 5 32 c.put-2.ensures.after (omega arith) in
    let one = deeper _ _ (0 + length c.args.magic.now) 32 c.put.ensures.after (omega arith) in
    six ∙ (five ∙ (four ∙ (three ∙ (two ∙ one))))

pub returns-clause-head : goal.returns-clause-head
returns-clause-head c =
    let one = rw c.told-magic at c.put.ensures.front in
    let two = rw (one, c.version_of.ensures.version) at c.put-2.ensures.front in
    let three = rw (c.told-own, two) at c.put-3.ensures.front in
    let four = rw (c.to_be_bytes.ensures, three) at c.put-4.ensures.front in
    let five = rw (c.to_be_bytes-2.ensures, four) at c.put-5.ensures.front in
    let six = rw (c.told-id, five) at c.put-6.ensures.front in
    six ∙ simp append_assoc
