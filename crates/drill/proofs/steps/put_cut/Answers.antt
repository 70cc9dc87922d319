use Rattle.std.proofs.lemmas.Result.{err_from_is_err_and}
use Rattle.drill.proofs.steps.put_cut.Goals as goal

pub cut-requires-clause-low : goal.cut-requires-clause-low
cut-requires-clause-low c = c.requires.member.0

pub cut-requires-clause-high : goal.cut-requires-clause-high
cut-requires-clause-high c = c.requires.member.1

pub cut-requires-clause-c : goal.cut-requires-clause-c
cut-requires-clause-c c = c.requires.sizes.c

pub cut-requires-clause-digest : goal.cut-requires-clause-digest
cut-requires-clause-digest c = c.requires.sizes.digest

pub returns-clause-shares : goal.returns-clause-shares
returns-clause-shares c = c.in_ok-trustees.ensures.shares

pub returns-clause-sets : goal.returns-clause-sets
returns-clause-sets c = c.in_ok-trustees.ensures.sets

pub returns-clause-notes : goal.returns-clause-notes
returns-clause-notes c = c.in_ok-note.ensures.notes

pub returns-in_err-trustees-clause-shares : goal.returns-in_err-trustees-clause-shares
returns-in_err-trustees-clause-shares c = rw (err_from_is_err_and c.from_residual.result c.from_residual.ensures.1).1 tt

pub returns-in_err-trustees-clause-sets : goal.returns-in_err-trustees-clause-sets
returns-in_err-trustees-clause-sets c = λ may. rw (err_from_is_err_and c.from_residual.result c.from_residual.ensures.1).1 tt

pub returns-in_err-trustees-clause-notes : goal.returns-in_err-trustees-clause-notes
returns-in_err-trustees-clause-notes c = rw (err_from_is_err_and c.from_residual.result c.from_residual.ensures.1).1 tt

pub returns-in_err-note-clause-shares : goal.returns-in_err-note-clause-shares
returns-in_err-note-clause-shares c = rw (err_from_is_err_and c.from_residual-in_err-note.result c.from_residual-in_err-note.ensures.1).1 tt

pub returns-in_err-note-clause-sets : goal.returns-in_err-note-clause-sets
returns-in_err-note-clause-sets c = λ may. rw (err_from_is_err_and c.from_residual-in_err-note.result c.from_residual-in_err-note.ensures.1).1 tt

pub returns-in_err-note-clause-notes : goal.returns-in_err-note-clause-notes
returns-in_err-note-clause-notes c = rw (err_from_is_err_and c.from_residual-in_err-note.result c.from_residual-in_err-note.ensures.1).1 tt
