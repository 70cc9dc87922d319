-- A member that a command lost over a steady net whose links have room for the asks.
use Rattle.std.proofs.Common.{◌≡◌, ◌≤◌, ℕ, Bool, List, [], Option, Result, Err, IsTrue, refl, ap, subst}
use Rattle.aggregator_session.specs.Runs.{CellsRead}
use Rattle.aggregator_session.specs.Signing.{Signature}
use Rattle.session_core.specs.State.{State}
use Rattle.share_files.specs.declared.reference.RefHeader.{RefHeader}
use Rattle.tool_base.specs.Ending.{Ending}
use Rattle.tool_base.specs.World.{Outside, StoreRun, from_to}
use Rattle.tool_blame.specs.Blame.{BlameEnds, EndsNaming, FailsToBegin}
use Rattle.tool_blame.specs.Blame as blame
use Rattle.tool_blame.specs.Commits.{FailsCommits}
use Rattle.tool_blame.specs.Commits as commits
use Rattle.tool_blame.specs.Names.{NamesEnd, TellsEnd, as_ended, as_signed, by_names, named, unread}
use Rattle.tool_sign.proofs.HssCauses as levels
use Rattle.laws_commands.specs.Losing.{LosesByPeer}
use Rattle.tool_run.specs.ToolRun.{CommandRun}
use Rattle.tool_sign.proofs.Losses.{loses-peer, missing, new-heard, peer-why, session-by, unwritten-heard, upto-heard}
use Rattle.tool_sign.specs.Lost.{LosesPeer, longest_asks}
use Rattle.tool_sign.specs.Ports.{NetRun, over_net}
use Rattle.tool_sign.specs.Sessions.{SessionEnds}
use Rattle.tool_sign.specs.Sessions as sessions
use Rattle.tool_sign.specs.Sign.{session_words}
use Rattle.tool_sign.specs.Tasks.{MessageSource, message_in, message_limit}
use Rattle.tool_sign.specs.Tasks as tasks
use Rattle.tool_words.specs.Words.{Row, Sign, Blame, HssSign, SignWords}

abbrev err_of : Ending → Result Signature Ending
err_of end = Err end

module _ (member round : ℕ) (words : SignWords) (store : StoreRun) (net : NetRun) (steady : IsTrue net.before.steady) (room : longest_asks ≤ net.before.room) where
  abbrev source : MessageSource
  source = message_in store words.message

  abbrev Loses : Type 0
  Loses = LosesPeer (session_words words) store source net member round

  session-loses : (answer : Result Signature Ending) (touched : List (List ℕ)) → SessionEnds (session_words words) store source net answer touched → answer ≡ Err (missing member round) → Loses
  session-loses answer touched ends is =
      session-by member round (session_words words) store source (upto-heard member round store message_limit words.message) net Loses
      (peer-why member round (session_words words) store source net steady room) answer touched ends is

  commits-heard : (name : List ℕ) (header : RefHeader) (end : Ending) → FailsCommits store name header end → end ≡ missing member round → ⊥
  commits-heard name header _ (commits.no_view read) is = absurd (cc)
  commits-heard name header _ (commits.not_in_grammar f reads) is = absurd (cc)
  commits-heard name header _ (commits.device fails) is = absurd (cc)
  commits-heard name header _ commits.no_memory is = absurd (cc)

  begin-loses : (end : Ending) → FailsToBegin (session_words words) store source end → net.after ≡ net.before → end ≡ missing member round → Loses
  begin-loses _ (blame.no_key_files end fails) same is = session-loses (Err end) [] (sessions.no_task end (tasks.no_key_files end fails) same) (ap err_of is)
  begin-loses _ (blame.no_reference files end read fails) same is = session-loses (Err end) [] (sessions.no_task end (tasks.no_reference files end read fails) same) (ap err_of is)
  begin-loses _ (blame.no_commits files header end has fails) same is = absurd (commits-heard _ header end fails is)
  begin-loses _ (blame.no_task files header end has are lacks) same is = session-loses (Err end) [] (sessions.no_task end (tasks.no_task files header end has lacks) same) (ap err_of is)

  names-heard : (reads : CellsRead) (view : Bool) (session : State) (digest : List ℕ) (end : Ending) → NamesEnd reads view session digest end → end ≡ missing member round → ⊥
  names-heard reads view session digest _ (named members ascending are) is = absurd (cc)
  names-heard reads view session digest _ (unread rose never) is = absurd (cc)

  -- what is told as a missing reply was a missing reply
  told-heard : (reads : CellsRead) (view : Bool) (text : List ℕ) (session : Option State) (answer told : Result Signature Ending) → TellsEnd reads view text session answer told
      → told ≡ Err (missing member round) → answer ≡ Err (missing member round)
  told-heard reads view text session _ _ (as_signed signature) is = is
  told-heard reads view text session _ _ (as_ended one other) is = is
  told-heard reads view text session _ _ (by_names one given last masks at names) is =
      let same : given ≡ missing member round = cc in absurd (names-heard reads view last _ given names same)

  naming-loses : (answer : Result Signature Ending) (touched : List (List ℕ)) → EndsNaming words store net answer touched → answer ≡ Err (missing member round) → Loses
  naming-loses _ _ (blame.not_begun end fails same) is = let e : end ≡ missing member round = cc in begin-loses end fails same e
  naming-loses _ _ (blame.ended s reads view answer told touched task ends read tells) is =
      session-loses answer touched (sessions.ended s answer touched task ends) (told-heard reads view s.message _ answer told tells is)

  ends-loses : (end : Ending) (touched : List (List ℕ)) → BlameEnds words store net end touched → end ≡ missing member round → Loses
  ends-loses _ _ (blame.not_new end fails same) is = absurd (new-heard member round store words.out end fails is)
  ends-loses _ _ (blame.not_signed end touched new ends) is = naming-loses (Err end) touched ends (ap err_of is)
  ends-loses _ _ (blame.not_written signature end touched new ends cause) is = absurd (unwritten-heard member round store [] words.out end cause is)
  ends-loses _ _ (blame.signed signature touched new ends written) is = absurd (cc)

module _ (before after : Outside) (steady : IsTrue before.net.steady) (room : longest_asks ≤ before.net.room) (member round : ℕ) where
  abbrev run : StoreRun
  run = from_to before.store after.store

  abbrev over : NetRun
  over = over_net before.net after.net

  row-loses : (row : Row) → CommandRun row before after (missing member round) → LosesByPeer row before after member round
  row-loses (Sign words) ran = loses-peer words run over member round steady room ran
  row-loses (Blame words) ran = ends-loses member round words run over steady room (missing member round) ran.touched ran.ends refl
  row-loses (HssSign words) ran = levels.loses-peer words run over member round steady room ran
  row-loses row ran = tt

  pub command-loses : (row : Row) (end : Ending) → CommandRun row before after end → end ≡ missing member round → LosesByPeer row before after member round
  command-loses row end ran is = row-loses row (subst (CommandRun row before after) is ran)
