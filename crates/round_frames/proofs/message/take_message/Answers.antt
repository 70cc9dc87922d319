use Rattle.std.proofs.Common.{◌≡◌, ◌++◌, ◌∙◌, ℕ, [], refl, subst, arith, length, length-take-le, length-append, length-drop, take}
use Rattle.std.proofs.lemmas.List.{length-replicate}
use Rattle.std.proofs.lemmas.Result.{err_from_is_err_and}
use Rattle.lms_bytes.specs.IdHash.{HasTaken as IdTaken}
use Rattle.ots_chain.specs.MessageHash.{HasTaken}
use Rattle.stream_io.specs.Talk.{Took}
use Rattle.round_frames.proofs.Reading.{only-same, only-then, passed-then, piece, took-none, took-then}
use Rattle.round_frames.proofs.message.take_message.Goals as goal

pub pieces-init : goal.pieces-init
pieces-init g c =
    let talk = g.S.Stream.talk c.args.source.now in
    record {
      within = omega arith;
      room = length-replicate {A = ℕ} 4096 0;
      counted = c.requires;
      only = only-same talk;
      quiet = refl;
      steady = refl;
      id = λ is start. start;
      digest = λ is params key q rand start. start;
      some = λ params key q rand start. ([], start);
      took = λ _. took-none talk;
    }

pub pieces-preserved : goal.pieces-preserved
pieces-preserved g c =
    let talk = g.S.Stream.talk in
    let v = c.pieces.invariant in
    let r = c.in_ok-take_piece.ensures in
    let xs = (talk c.args.source.now).left in
    let at = c.pieces.at in
    let n = c.min-count.result in
    let left = (talk c.pieces.source).left in
    let full : length (take n c.pieces.piece) ≡ n = length-take-le n c.pieces.piece (let m = c.min-count.ensures in let w = v.room in omega arith) in
    record {
      within = (let m = c.min-count.ensures in let t = c.pieces-test.true in omega arith);
      room = (let k = c.take_piece.auto.room in let w = v.room in let m = c.min-count.ensures in grind (arith, length-append, length-drop, full, k, w, m));
      counted = r.length ∙ (let w = v.counted in omega arith);
      only = only-then _ _ _ v.only r.takes.only;
      quiet = r.takes.cause.same (λ is. absurd (cc)) ∙ v.quiet;
      steady = r.takes.steady ∙ v.steady;
      id = λ is start. subst (IdTaken c.take_piece.new.hashes.id) (piece at n _ _ (v.took is))
          (subst (λ k. IdTaken c.take_piece.new.hashes.id (take at xs ++ take k left)) full ((r.hashed (v.only.told ∙ is) (take at xs)).id (v.id is start)));
      digest = λ is params key q rand start. subst (HasTaken c.take_piece.new.hashes.digest params key q rand) (piece at n _ _ (v.took is))
          (subst (λ k. HasTaken c.take_piece.new.hashes.digest params key q rand (take at xs ++ take k left)) full ((r.hashed (v.only.told ∙ is) (take at xs)).digest params key q rand (v.digest is params key q rand start)));
      some = λ params key q rand start. let before = v.some params key q rand start in r.some params key q rand before.0 before.1;
      took = λ is. took-then at n _ _ _ (v.took is) (subst (Took (talk c.pieces.source) (talk c.take_piece.new.source)) full (r.passed (v.only.told ∙ is)));
    }

pub returns-clause-hashed : goal.returns-clause-hashed
returns-clause-hashed g c told =
    let v = c.pieces.invariant in
    let xs = (g.S.Stream.talk c.args.source.now).left in
    let whole : c.pieces.at ≡ c.args.size = (let a = c.pieces-test.false in let b = v.within in omega (arith, a, b)) in
    record {
      id = λ start. subst (λ n. IdTaken c.pieces.hashes.id (take n xs)) whole (v.id told start);
      digest = λ params key q r taken.
          subst (λ n. HasTaken c.pieces.hashes.digest params key q r (take n xs)) whole (v.digest told params key q r taken);
    }

pub returns-in_err-take_piece-clause-passed : goal.returns-in_err-take_piece-clause-passed
returns-in_err-take_piece-clause-passed g c told =
    let talk = g.S.Stream.talk in
    let v = c.pieces.invariant in
    let n = c.min-count.result in
    let full : length (take n c.pieces.piece) ≡ n = length-take-le n c.pieces.piece (let m = c.min-count.ensures in let w = v.room in omega arith) in
    let p = err_from_is_err_and c.from_residual.result c.from_residual.ensures.1 in
    rw (p.1, p.2) (passed-then c.pieces.at (length (take n c.pieces.piece)) (talk c.args.source.now) (talk c.pieces.source) (talk c.take_piece.new.source) c.in_err-take_piece.field-0.0 c.args.size
    (let m = c.min-count.ensures in let t = c.pieces-test.true in omega (arith, full, m, t)) (v.took told) (c.in_err-take_piece.ensures.passed (v.only.told ∙ told)))

pub returns-clause-passed : goal.returns-clause-passed
returns-clause-passed g c told =
    let talk = g.S.Stream.talk in
    let v = c.pieces.invariant in
    let whole : c.pieces.at ≡ c.args.size = (let a = c.pieces-test.false in let b = v.within in omega arith) in
    subst (Took (talk c.args.source.now) (talk c.pieces.source)) whole (v.took told)

pub returns-clause-some : goal.returns-clause-some
returns-clause-some g c = c.pieces.invariant.some
