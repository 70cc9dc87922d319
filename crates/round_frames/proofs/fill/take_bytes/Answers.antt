use Rattle.std.proofs.Common.{◌++◌, ap, ◌∙◌, sym, subst, arith, length, take}
use Rattle.std.proofs.lemmas.Result.{err_from_is_err_and}
use Rattle.stream_io.specs.Talk.{Took}
use Rattle.round_frames.specs.declared.fault.FrameFault.TheVariants.{NoMemory}
use Rattle.round_frames.proofs.Reading.{not-err, only-then, passed-or, piece, took-then}
use Rattle.round_frames.proofs.fill.take_bytes.Goals as goal

pub pieces-preserved : goal.pieces-preserved
pieces-preserved g c =
    let talk = g.S.Stream.talk in
    let v = c.pieces.invariant in
    let r = c.in_ok-take_more.ensures in
    let more = c.count_behind-more.result in
    let at = length c.pieces.bytes.items in
    let left = (talk c.pieces.source).left in
    let first = (talk c.args.source.now).left in
    record {
      within = (let m = c.count_behind-more.ensures in let l = r.length in let a = c.len-in-pieces.ensures in let t = c.pieces-test.true in let w = v.within in grind (arith, m, l, a, t, w));
      only = only-then _ _ _ v.only r.only;
      quiet = r.cause.same (λ is. absurd (cc)) ∙ v.quiet;
      steady = r.steady ∙ v.steady;
      bytes = λ is. r.bytes (v.only.told ∙ is) ∙ ap (λ t. t ++ take more left) (v.bytes is) ∙ piece at more (talk c.args.source.now) (talk c.pieces.source) (v.took is) ∙ ap (λ k. take k first) (sym r.length);
      took = λ is. subst (Took (talk c.args.source.now) (talk c.take_more.new.source)) (sym r.length) (took-then at more _ _ _ (v.took is) (not-err _ NoMemory (r.passed (v.only.told ∙ is))));
    }

pub returns-in_err-take_more-clause-passed : goal.returns-in_err-take_more-clause-passed
returns-in_err-take_more-clause-passed g c told =
    let talk = g.S.Stream.talk in
    let v = c.pieces.invariant in
    let p = err_from_is_err_and c.from_residual.result c.from_residual.ensures.1 in
    rw (p.1, p.2) (passed-or (length c.pieces.bytes.items) c.count_behind-more.result c.args.size (talk c.args.source.now) (talk c.pieces.source) (talk c.take_more.new.source) c.in_err-take_more.field-0.0
    (let m = c.count_behind-more.ensures in let a = c.len-in-pieces.ensures in let t = c.pieces-test.true in let w = v.within in grind (arith, m, a, t, w))
    (v.took told) (c.in_err-take_more.ensures.passed (v.only.told ∙ told)))
