use Rattle.std.proofs.lemmas.Bool.{false≢true}
use Rattle.tool_blame.specs.Names.{named, unread}
use Rattle.tool_blame.proofs.names.name_blamed.Goals as goal

pub returns-in-Ok-clause-names : goal.returns-in-Ok-clause-names
returns-in-Ok-clause-names g c = named c.in-Ok.members c.in-Ok.ensures.ascending (λ told. rw (← c.digest-digest.ensures.digest) (c.in-Ok.ensures.blamed told))

pub returns-in-Err-clause-names : goal.returns-in-Err-clause-names
returns-in-Err-clause-names g c = unread c.in-Err.ensures.looks.cause.failed (λ told steady. false≢true (c.in-Err.ensures.looks.succeeds steady told (c.requires.whole told)))
