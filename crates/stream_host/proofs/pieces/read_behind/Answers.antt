use Rattle.std.proofs.Common.{◌≡◌, ◌-◌, length, ap, ◌∙◌, arith, length-drop, length-take-le, drop, take, ◌++◌}
use Rattle.stream_io.proofs.Pieces.{if-both, part-front}
use Rattle.stream_host.proofs.pieces.read_behind.Goals as goal

pub returns-clause-bytes : goal.returns-clause-bytes
returns-clause-bytes g c told =
    let done = c.args.done in
    let out = c.args.out.now in
    let room = length out - done in
    let full : length c.read_at.new.out ≡ room = c.read_at.auto.out ∙ length-take-le room (drop done out) (let e = length-drop done out in omega arith) in
    if-both c.read_at.result _ _ _ (λ n few same. part-front done room n out c.read_at.new.out (let lt = c.requires in omega arith) full (let e = c.read_at.auto.out in omega arith) ∙ ap (λ t. take done out ++ t) same) c.read_at.ensures.size (c.read_at.ensures.bytes told)
