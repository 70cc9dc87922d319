use Rattle.std.proofs.Common.{◌++◌, take, ap, ◌∙◌, arith}
use Rattle.stream_io.proofs.Pieces.{only-then, piece, took-then}
use Rattle.stream_io.proofs.source.read_whole.Goals as goal

pub pieces-preserved : goal.pieces-preserved
pieces-preserved g c =
    let talk = g.S.Stream.talk in
    let v = c.pieces.invariant in
    let r = c.in_ok-count.ensures in
    let at = c.pieces.at in
    let n = c.in_ok-count.count in
    record {
      within = (let e = c.read_behind.auto.out in let s = r.size in omega arith);
      only = only-then _ _ _ v.only r.only;
      quiet = r.cause.succeeded ∙ v.quiet;
      steady = r.steady ∙ v.steady;
      bytes = λ is. r.bytes (v.only.told ∙ is) ∙ ap (λ t. t ++ take n (talk c.pieces.source).left) (v.bytes is) ∙ piece at n _ _ (v.took is);
      took = λ is. took-then at n _ _ _ (v.took is) (r.took (v.only.told ∙ is));
    }
