use Rattle.std.proofs.Common.{length, refl, rules}
use Rattle.stream_memory.proofs.MemFiles.{follows-more}
use Rattle.stream_memory.proofs.Outcomes.{if_refused, on_err, refusal}
use Rattle.stream_memory.proofs.mem_file.write_part.Goals as goal

pub returns-in_err-write_piece-clause-images : goal.returns-in_err-write_piece-clause-images
returns-in_err-write_piece-clause-images c =
    follows-more c.args.at _ (length c.args.bytes.now) _ _ (search rules) c.write_piece.ensures.images

pub returns-clause-images : goal.returns-clause-images
returns-clause-images c =
    follows-more c.args.at _ (length c.args.bytes.now) _ _ (search rules) c.write_piece.ensures.images

pub returns-in_err-write_piece-clause-size : goal.returns-in_err-write_piece-clause-size
returns-in_err-write_piece-clause-size c = if_refused _ _ _ (refusal c.from_residual.result _ c.from_residual.ensures.1)

pub returns-in_err-write_piece-clause-some : goal.returns-in_err-write_piece-clause-some
returns-in_err-write_piece-clause-some c = if_refused _ _ _ (refusal c.from_residual.result _ c.from_residual.ensures.1)

pub returns-in_err-write_piece-clause-bytes : goal.returns-in_err-write_piece-clause-bytes
returns-in_err-write_piece-clause-bytes c = if_refused _ _ _ (refusal c.from_residual.result _ c.from_residual.ensures.1)

pub returns-in_err-write_piece-clause-same : goal.returns-in_err-write_piece-clause-same
returns-in_err-write_piece-clause-same c = on_err _ _ c.in_err-write_piece.ensures.same

pub returns-in_err-write_piece-clause-steady : goal.returns-in_err-write_piece-clause-steady
returns-in_err-write_piece-clause-steady c = c.write_piece.ensures.steady

pub returns-in_err-write_piece-clause-room : goal.returns-in_err-write_piece-clause-room
returns-in_err-write_piece-clause-room c = c.write_piece.ensures.room

pub returns-clause-same : goal.returns-clause-same
returns-clause-same c = tt

pub returns-clause-succeeds : goal.returns-clause-succeeds
returns-clause-succeeds c = λ steady within fits. refl

pub returns-clause-steady : goal.returns-clause-steady
returns-clause-steady c = c.write_piece.ensures.steady

pub returns-clause-room : goal.returns-clause-room
returns-clause-room c = c.write_piece.ensures.room
