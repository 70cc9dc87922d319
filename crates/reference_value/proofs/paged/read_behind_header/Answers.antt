use Rattle.std.proofs.Common.{arith, length-drop}
use Rattle.std.proofs.lemmas.List.{drop-drop}
use Rattle.reference_value.proofs.paged.read_behind_header.Goals as goal

pub returns-in-Ok-clause-bytes : goal.returns-in-Ok-clause-bytes
returns-in-Ok-clause-bytes g c = λ told. rw (drop-drop c.args.place 32 (g.V.Pages.reads c.args.pages.now)) (c.in-Ok.ensures.bytes told)

pub returns-in-Err-clause-succeeds : goal.returns-in-Err-clause-succeeds
returns-in-Err-clause-succeeds g c = λ steady told within.
    c.in-Err.ensures.succeeds steady told (omega (arith, within, length-drop 32 (g.V.Pages.reads c.args.pages.now)))
