-- Where an end of the command comes from.
use Rattle.std.proofs.Common.{ℕ, Bool, List, [], Option, Result, Err, IsTrue}
use Rattle.aggregator_session.specs.Runs.{CellsRead}
use Rattle.aggregator_session.specs.Signing.{Signature}
use Rattle.disk_trait.specs.Faults.{Rose}
use Rattle.session_core.specs.State.{State}
use Rattle.share_files.specs.declared.reference.RefHeader.{RefHeader}
use Rattle.tool_base.specs.Ending.{Ending}
use Rattle.tool_base.specs.Outputs.{CallFailed}
use Rattle.tool_base.specs.World.{StoreRun}
use Rattle.tool_blame.specs.Blame.{BlameEnds, EndsNaming, FailsToBegin}
use Rattle.tool_blame.specs.Blame as blame
use Rattle.tool_blame.specs.Commits.{FailsCommits, ReadsCommits, commits_name}
use Rattle.tool_blame.specs.Commits as commits
use Rattle.tool_blame.specs.Names.{NamesEnd, TellsEnd}
use Rattle.tool_blame.specs.Names as names
use Rattle.tool_sign.proofs.Origins.{AnswerComes, Comes, Origins, SignsCome, TaskComes, Unread, keys-comes, lacks-comes, new-comes, reference-comes, table-comes, unwritten-comes}
use Rattle.tool_sign.specs.Ended.{last_in}
use Rattle.tool_sign.specs.Ports.{NetRun}
use Rattle.tool_sign.specs.Sign.{session_words}
use Rattle.tool_sign.specs.Tasks.{MessageSource, SessionWords, message_in}
use Rattle.tool_words.specs.Words.{SignWords}

module _ (o : Origins) (words : SignWords) (store : StoreRun) (net : NetRun) where
  abbrev asked : SessionWords
  asked = session_words words

  abbrev source : MessageSource
  source = message_in store words.message

  -- a commitment was not read
  abbrev pub UnreadCommits : CellsRead → Bool → Type 0
  UnreadCommits reads steady = Rose reads.before reads.now → (IsTrue reads.told → IsTrue steady → ⊥) → o.device

  pub record BlameComes : Type 0 where
    pub failed : CallFailed store → o.store
    pub task : TaskComes o asked store source
    pub signs : SignsCome o asked store source net
    pub commits : Unread o store (commits_name words.prefix)
    pub reads : (header : RefHeader) (reads : CellsRead) (steady : Bool) → ReadsCommits asked store header reads steady → UnreadCommits reads steady

  commits-comes : BlameComes → (header : RefHeader) (end : Ending) → FailsCommits store (commits_name words.prefix) header end → Comes o end
  commits-comes come header _ (commits.no_view read) = come.commits read
  commits-comes come header _ (commits.not_in_grammar f read) = tt
  commits-comes come header _ (commits.device fails) = come.task.device fails
  commits-comes come header _ commits.no_memory = tt

  begin-comes : BlameComes → (end : Ending) → FailsToBegin asked store source end → Comes o end
  begin-comes come _ (blame.no_key_files end fails) = keys-comes o store words.prefix end come.task.key come.task.tree fails
  begin-comes come _ (blame.no_reference keys end read fails) = reference-comes o store _ end come.task.reference come.task.device fails
  begin-comes come _ (blame.no_commits keys header end has fails) = commits-comes come header end fails
  begin-comes come _ (blame.no_task keys header end has are lacks) = lacks-comes o asked store source come.task keys header end lacks

  names-comes : (reads : CellsRead) (steady : Bool) (session : State) (digest : List ℕ) (end : Ending) → UnreadCommits reads steady → NamesEnd reads steady session digest end → Comes o end
  names-comes reads steady session digest _ unread (names.named members ascending are) = tt
  names-comes reads steady session digest _ unread (names.unread rose never) = unread rose never

  told-comes : (reads : CellsRead) (steady : Bool) (message : List ℕ) (session : Option State) (answer told : Result Signature Ending) → UnreadCommits reads steady
      → TellsEnd reads steady message session answer told → AnswerComes o answer → AnswerComes o told
  told-comes reads steady message session _ _ unread (names.as_signed signature) comes = tt
  told-comes reads steady message session _ _ unread (names.as_ended end other) comes = comes
  told-comes reads steady message session _ _ unread (names.by_names end told last status some ends) comes = names-comes reads steady last _ told unread ends

  naming-comes : BlameComes → (told : Result Signature Ending) (touched : List (List ℕ)) → EndsNaming words store net told touched → AnswerComes o told
  naming-comes come _ _ (blame.not_begun end fails same) = begin-comes come end fails
  naming-comes come _ _ (blame.ended s reads steady answer told touched task ends are tells) =
      told-comes reads steady s.message (last_in ends) answer told (come.reads task.header reads steady are) tells
      (table-comes o store net words.table s (come.signs s task) answer touched ends)

  pub blame-comes : BlameComes → (end : Ending) (touched : List (List ℕ)) → BlameEnds words store net end touched → Comes o end
  blame-comes come _ _ (blame.not_new end fails same) = new-comes o store words.out end come.failed fails
  blame-comes come _ _ (blame.not_signed end touched new ends) = naming-comes come (Err end) touched ends
  blame-comes come _ _ (blame.not_written signature end touched new ends cause) = unwritten-comes o store [] words.out end come.failed cause
  blame-comes come _ _ (blame.signed signature touched new ends written) = tt
