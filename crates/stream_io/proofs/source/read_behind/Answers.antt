use Rattle.std.proofs.Common.{◌≡◌, ◌-◌, length, ap, ◌∙◌, arith, length-drop, length-take-le, drop, take, ◌++◌}
use Rattle.stream_io.proofs.Pieces.{if-both, part-front}
use Rattle.stream_io.proofs.source.read_behind.Goals as goal

pub returns-clause-bytes : goal.returns-clause-bytes
returns-clause-bytes g c told =
    let at = c.args.at in
    let out = c.args.out.now in
    let room = length out - at in
    let full : length c.read.new.out ≡ room = c.read.auto.out ∙ length-take-le room (drop at out) (let e = length-drop at out in omega arith) in
    if-both c.read.result _ _ _ (λ n few same. part-front at room n out c.read.new.out (let lt = c.requires in omega arith) full (let e = c.read.auto.out in omega arith) ∙ ap (λ t. take at out ++ t) same) c.read.ensures.read.size (c.read.ensures.read.bytes told)
