use Rattle.tool_journals.proofs.Enrolling.{reference_goes, share_goes}
use Rattle.tool_journals.proofs.blank.blank_of.Goals as goal

pub returns-in-Ok-clause-blank : goal.returns-in-Ok-clause-blank
returns-in-Ok-clause-blank c =
    share_goes _ c.in-Ok.share _ _ c.in-Ok.ensures.share c.in-Ok.ensures.dealt c.journal_of.ensures.header c.journal_of.ensures.count

pub returns-in-Ok-read_reference-clause-blank : goal.returns-in-Ok-read_reference-clause-blank
returns-in-Ok-read_reference-clause-blank c =
    reference_goes _ _ c.in-Ok-read_reference.reference.header _ _ c.in-Ok-read_reference.ensures.layout c.table_of.ensures.header c.table_of.ensures.count
