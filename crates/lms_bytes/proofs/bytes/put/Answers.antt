use Rattle.std.proofs.Common.{◌+◌, length, arith}
use Rattle.std.proofs.lemmas.Slice.{drop-put_mid}
use Rattle.lms_bytes.proofs.bytes.put.Goals as goal

pub returns-clause-after : goal.returns-clause-after
returns-clause-after c =
    let written = c.copy_from_slice.ensures.len in
    drop-put_mid c.args.place _ c.args.out.now c.copy_from_slice.new.self (c.args.place + length c.args.bytes.now) (omega arith) (omega arith) (omega arith)
