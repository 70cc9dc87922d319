use Rattle.std.proofs.Common.{◌∙◌}
use Rattle.std.proofs.lemmas.Result.{err_from_is_err_and}
use Rattle.drill.proofs.steps.put_ask.Goals as goal

pub ask-trustees-requires-clause-low : goal.ask-trustees-requires-clause-low
ask-trustees-requires-clause-low c = c.requires.member.0

pub ask-trustees-requires-clause-high : goal.ask-trustees-requires-clause-high
ask-trustees-requires-clause-high c = c.requires.member.1

pub ask-trustees-requires-clause-c : goal.ask-trustees-requires-clause-c
ask-trustees-requires-clause-c c = c.requires.sizes.c

pub ask-trustees-requires-clause-digest : goal.ask-trustees-requires-clause-digest
ask-trustees-requires-clause-digest c = c.requires.sizes.digest

pub returns-clause-shares : goal.returns-clause-shares
returns-clause-shares c = c.ask-trustees.ensures.shares

pub returns-clause-ask : goal.returns-clause-ask
returns-clause-ask c = c.ask-trustees.ensures.ask

pub returns-clause-granted : goal.returns-clause-granted
returns-clause-granted c = c.ask-trustees.ensures.granted

pub returns-clause-sets : goal.returns-clause-sets
returns-clause-sets c = c.ask-trustees.ensures.sets

pub returns-clause-notes : goal.returns-clause-notes
returns-clause-notes c = c.in_ok-note.ensures.notes

pub returns-clause-some : goal.returns-clause-some
returns-clause-some c = λ granted second. c.in_ok-note.ensures.some (c.is_some.ensures ∙ granted) second

pub returns-in_err-note-clause-shares : goal.returns-in_err-note-clause-shares
returns-in_err-note-clause-shares c = rw (err_from_is_err_and c.from_residual.result c.from_residual.ensures.1).1 tt

pub returns-in_err-note-clause-ask : goal.returns-in_err-note-clause-ask
returns-in_err-note-clause-ask c = rw (err_from_is_err_and c.from_residual.result c.from_residual.ensures.1).1 tt

pub returns-in_err-note-clause-granted : goal.returns-in_err-note-clause-granted
returns-in_err-note-clause-granted c = λ may. rw (err_from_is_err_and c.from_residual.result c.from_residual.ensures.1).1 tt

pub returns-in_err-note-clause-sets : goal.returns-in_err-note-clause-sets
returns-in_err-note-clause-sets c = λ may. rw (err_from_is_err_and c.from_residual.result c.from_residual.ensures.1).1 tt

pub returns-in_err-note-clause-notes : goal.returns-in_err-note-clause-notes
returns-in_err-note-clause-notes c = rw (err_from_is_err_and c.from_residual.result c.from_residual.ensures.1).1 tt

pub returns-in_err-note-clause-some : goal.returns-in_err-note-clause-some
returns-in_err-note-clause-some c = rw (err_from_is_err_and c.from_residual.result c.from_residual.ensures.1).1 tt
