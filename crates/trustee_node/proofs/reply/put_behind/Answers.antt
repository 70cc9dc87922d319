use Rattle.std.proofs.Common.{◌-◌, ◌++◌, List, ℕ, length, take, ap, ◌∙◌, arith}
use Rattle.std.proofs.lemmas.List.{length-take}
use Rattle.stream_io.proofs.Pieces.{part-front}
use Rattle.trustee_node.proofs.reply.put_behind.Goals as goal

pub returns-clause-bytes : goal.returns-clause-bytes
returns-clause-bytes c =
    let room = c.args.room.now in
    let front = c.args.front in
    part-front front (4096 - front) c.put_kept.result room c.put_kept.new.out (omega arith) (omega arith) (omega arith)
    ∙ ap (λ (l : List ℕ). take front room ++ l) c.put_kept.ensures.bytes

pub returns-clause-keeps : goal.returns-clause-keeps
returns-clause-keeps c =
    let size = c.put_kept.ensures.length in
    let few = length-take c.put_kept.result c.put_kept.new.out in
    let is = ap length c.put_kept.ensures.bytes in
    omega (arith, size, few, is)
