-- What an end comes from, whatever the command: one thing for each end that a law speaks of, and nothing for the others.
use Rattle.std.proofs.Common.{◌≡◌, ℕ, List, [], IsTrue, Option, Result, Ok, Err, IfErr, refl}
use Rattle.aggregator_session.specs.Desks.{DeskState}
use Rattle.aggregator_session.specs.Runs.{CellsRead}
use Rattle.aggregator_session.specs.declared.fault.SignFault.{SignFault}
use Rattle.aggregator_session.specs.declared.fault.SignFault.TheVariants as fault
use Rattle.aggregator_session.specs.declared.fault.Why.{Why}
use Rattle.aggregator_session.specs.Signing.{IsEnd, RunsOn, Signature, SignsLeased, ToSign, not_started, ran, signed_with}
use Rattle.aggregator_session.specs.Signing as signing
use Rattle.aggregator_session.specs.Tables.{AsksLeaf, TableSeen}
use Rattle.disk_trait.specs.Faults.{Rose}
use Rattle.leaf_table.specs.declared.faults.TableFault.{TableFault}
use Rattle.leaf_table.specs.declared.faults.TableFault.TheVariants as table
use Rattle.lms_bytes.specs.PublicKey.{public_bytes}
use Rattle.lms_bytes.specs.declared.message.MessageId.{MessageId}
use Rattle.session_core.specs.declared.faults.SessionFault.TheVariants as session
use Rattle.share_files.specs.declared.reference.RefHeader.{RefHeader}
use Rattle.slot_file.specs.declared.header.Header.{Header}
use Rattle.stream_io.specs.Net.{PortState}
use Rattle.tool_base.specs.Disks.{DeviceFails}
use Rattle.tool_base.specs.Ending as ending
use Rattle.tool_base.specs.Ending.{Ending}
use Rattle.tool_base.specs.Grammars.{FailsGrammar, not_in_grammar, not_read}
use Rattle.tool_base.specs.Loads.{FailsToLoad}
use Rattle.tool_base.specs.Loads as loads
use Rattle.tool_base.specs.Outputs.{CallFailed, IsNotNew, IsNotWritten, Output, is_there, no_memory_to_name, no_memory_to_write, test_failed, was_there, write_failed}
use Rattle.tool_base.specs.Reads.{FailsUpTo}
use Rattle.tool_base.specs.Reads as reads
use Rattle.tool_base.specs.World.{Failed, IsRead, StoreRun}
use Rattle.tool_base.specs.declared.unsigned.Unsigned.TheVariants as unsigned
use Rattle.tool_desk.specs.Files.{FailsKeyFiles, IsOfOtherKey, key_name, reference_name, tree_name}
use Rattle.tool_desk.specs.Files as files
use Rattle.tool_desk.specs.Reference.{FailsReference}
use Rattle.tool_desk.specs.Reference as references
use Rattle.tool_desk.specs.declared.files.KeyFiles.{KeyFiles}
use Rattle.tool_sign.specs.Faults.{end_of_fault}
use Rattle.tool_sign.specs.HssSign.{HssSignEnds}
use Rattle.tool_sign.specs.HssSign as hss
use Rattle.tool_sign.specs.Lower.{FailsLower, IsReady, Lower}
use Rattle.tool_sign.specs.Lower as lowers
use Rattle.tool_sign.specs.Ports.{NetRun, Signing, answer_of, sign_of}
use Rattle.tool_sign.specs.Sessions.{SessionEnds}
use Rattle.tool_sign.specs.Sessions as sessions
use Rattle.tool_sign.specs.Sign.{SignEnds}
use Rattle.tool_sign.specs.Sign as sign
use Rattle.tool_sign.specs.Signs.{SignedTable, TableEnds}
use Rattle.tool_sign.specs.Signs as signs
use Rattle.tool_sign.specs.Tasks.{FailsTask, IsTask, LacksTask, MessageSource, SessionWords, message_in, message_of}
use Rattle.tool_sign.specs.Tasks as tasks
use Rattle.tool_words.specs.Words.{HssSignWords, SignWords}

-- what a session that has a fault says: if it is the table's device, the count of the table rose, and its disk is not
-- steady or does not tell its content; and no reply is missing, since a member is lost before
abbrev pub Says : TableSeen → TableSeen → SignFault → Type 0
Says old new (fault.Table table.Device) = Rose old.faults new.faults × (IsTrue old.name.steady → IsTrue old.name.told → ⊥)
Says old new (fault.Session (session.Missing member round)) = ⊥
Says old new f = Unit {0}

abbrev pub SaysOf : {V : Type 0} → TableSeen → TableSeen → Result V SignFault → Type 0
SaysOf old new (Ok v) = Unit {0}
SaysOf old new (Err f) = Says old new f

module _ (old new : TableSeen) where
  end-says : (leaf : ℕ) (f : SignFault) → IsEnd leaf f → Says old new f
  end-says leaf (fault.TooLong got) ends = tt
  end-says leaf fault.Worn ends = tt
  end-says leaf (fault.Table f) ends = absurd ends
  end-says leaf (fault.Lost member round why) ends = tt
  end-says leaf (fault.Stray member round) ends = tt
  end-says leaf (fault.Session (session.Missing member round)) ends = ends
  end-says leaf (fault.Session (session.SpentLeaf spent member kept)) ends = tt
  end-says leaf (fault.Session (session.WrongCheck spent member)) ends = tt
  end-says leaf (fault.Session (session.WrongRoot spent got want)) ends = tt
  end-says leaf (fault.Session (session.MemberRefused member code)) ends = tt
  end-says leaf (fault.Session session.Reference) ends = tt
  end-says leaf (fault.Session session.NoMemory) ends = tt
  end-says leaf fault.NoMemory ends = tt

  result-says : (leaf : ℕ) (result : Result (List ℕ) SignFault) → IfErr result (IsEnd leaf) → SaysOf old new (signed_with leaf result)
  result-says leaf (Ok bytes) ends = tt
  result-says leaf (Err f) ends = end-says leaf f ends

  run-says : (desk : DeskState) (reads : CellsRead) (leaf : ℕ) (message : List ℕ) (port now : PortState) (result : Result (List ℕ) SignFault) → RunsOn desk reads leaf message port now result
      → SaysOf old new (signed_with leaf result)
  run-says desk reads leaf message port _ _ (not_started same) = tt
  run-says desk reads leaf message port _ _ (ran after last result run ends) = result-says leaf result ends

  asks-says : (members : List ℕ) (message : MessageId) (f : TableFault) → AsksLeaf old members message (Err f) new → Says old new (fault.Table f)
  asks-says members message table.NotACoalition asks = tt
  asks-says members message table.Device asks = (asks.entered.cause.failed refl, λ firm tells. asks.entered.succeeds firm tells refl)
  asks-says members message (table.Damaged leaf a b) asks = tt
  asks-says members message (table.NoLeaf c) asks = tt

pub signs-says : (sign : ToSign) (old new : TableSeen) (port done : PortState) (outcome : Result Signature SignFault) → SignsLeased sign old port new done outcome → SaysOf old new outcome
signs-says sign old _ port _ _ (signing.too_long long same) = tt
signs-says sign old _ port _ _ (signing.not_leased after f short same asks) = asks-says old after sign.members _ f asks
signs-says sign old _ port _ _ (signing.leased leaf mid after now result short asks runs spends) = run-says old after sign.desk sign.reads leaf sign.message port now result runs

-- the message of a session for a lower key
abbrev pub of_lower : Lower → MessageSource
of_lower lower = message_of (public_bytes lower.key)

-- what holds if the store failed, if a device did, if the net did, and if a member's reply is missing
pub record Origins : Type 1 where
  pub store : Type 0
  pub device : Type 0
  pub net : Type 0
  pub missing : ℕ → ℕ → Type 0

module _ (o : Origins) where
  -- the end comes from what holds when it comes
  abbrev pub Comes : Ending → Type 0
  Comes ending.StoreFailed = o.store
  Comes ending.DeviceFailed = o.device
  Comes ending.NetFailed = o.net
  Comes (ending.NotSigned (unsigned.Missing member round)) = o.missing member round
  Comes end = Unit {0}

  pub comes-by : (end : Ending) → (end ≡ ending.StoreFailed → o.store) → (end ≡ ending.DeviceFailed → o.device) → (end ≡ ending.NetFailed → o.net)
      → ((member round : ℕ) → end ≡ ending.NotSigned (unsigned.Missing member round) → o.missing member round) → Comes end
  comes-by ending.StoreFailed store device net missing = store refl
  comes-by ending.DeviceFailed store device net missing = device refl
  comes-by ending.NetFailed store device net missing = net refl
  comes-by (ending.NotSigned (unsigned.Missing member round)) store device net missing = missing member round refl
  comes-by end store device net missing = tt

  -- the same for an answer that is no signature
  abbrev pub AnswerComes : Result Signature Ending → Type 0
  AnswerComes (Ok signature) = Unit {0}
  AnswerComes (Err end) = Comes end

  pub other-comes : (prefix : List ℕ) (keys : KeyFiles) (header : RefHeader) (end : Ending) → IsOfOtherKey prefix keys header end → Comes end
  other-comes prefix keys header _ (files.other_tree never) = tt
  other-comes prefix keys header _ (files.other_reference one never) = tt
  other-comes prefix keys header _ files.no_memory = tt

  -- what is read, tested and written
  module _ (store : StoreRun) where
    abbrev pub Unread : List ℕ → Type 0
    Unread name = IsRead store name Failed → o.store

    pub upto-comes : (limit : ℕ) (name : List ℕ) (end : Ending) → Unread name → FailsUpTo limit store name end → Comes end
    upto-comes limit name _ unread (reads.failed read) = unread read
    upto-comes limit name _ unread (reads.too_long got read) = tt
    upto-comes limit name _ unread reads.no_memory = tt

    pub grammar-comes : (f : List ℕ → Option ℕ) (name : List ℕ) (end : Ending) → Unread name → FailsGrammar f store name end → Comes end
    grammar-comes f name _ unread (not_read end fails) = upto-comes _ name end unread fails
    grammar-comes f name _ unread (not_in_grammar bytes why read found) = tt

    pub keys-comes : (prefix : List ℕ) (end : Ending) → Unread (key_name prefix) → Unread (tree_name prefix) → FailsKeyFiles store prefix end → Comes end
    keys-comes prefix _ key tree (files.no_key end fails) = grammar-comes _ _ end key fails
    keys-comes prefix _ key tree (files.no_tree public end read fails) = grammar-comes _ _ end tree fails

    pub new-comes : (name : List ℕ) (end : Ending) → (CallFailed store → o.store) → IsNotNew store name end → Comes end
    new-comes name _ failed (test_failed fails) = failed fails
    new-comes name _ failed (is_there has) = tt
    new-comes name _ failed no_memory_to_name = tt

    pub unwritten-comes : (written : List Output) (name : List ℕ) (end : Ending) → (CallFailed store → o.store) → IsNotWritten store written name end → Comes end
    unwritten-comes written name _ failed (write_failed fails) = failed fails
    unwritten-comes written name _ failed (was_there never) = tt
    unwritten-comes written name _ failed no_memory_to_write = tt

    pub reference-comes : (name : List ℕ) (end : Ending) → Unread name → (DeviceFails store → o.device) → FailsReference store name end → Comes end
    reference-comes name _ unread device (references.no_view read) = unread read
    reference-comes name _ unread device (references.not_in_grammar f read) = tt
    reference-comes name _ unread device (references.device fails) = device fails
    reference-comes name _ unread device references.no_memory = tt

    pub load-comes : (header : Header) (count : ℕ) (name : List ℕ) (end : Ending) → (DeviceFails store → o.device) → FailsToLoad header count store name end → Comes end
    load-comes header count name _ device (loads.other_file f reads) = tt
    load-comes header count name _ device (loads.damaged reads) = tt
    load-comes header count name _ device (loads.device fails) = device fails
    load-comes header count name _ device loads.no_memory = tt

  -- signing with the table of a name
  module _ (store : StoreRun) (net : NetRun) (name : List ℕ) (s : Signing) where
    pub record TableComes : Type 0 where
      pub unread : Unread store name
      pub unloaded : DeviceFails store → o.device
      pub unoffered : Rose net.before.port_count net.after.port_count → (IsTrue net.before.told → IsTrue net.before.steady → ⊥) → o.net
      pub table : SignedTable s name store net (Err (fault.Table table.Device)) → o.device
      pub reference : SignedTable s name store net (Err (fault.Session session.Reference)) → o.device
      pub lost : (member round : ℕ) (why : Why) → SignedTable s name store net (Err (fault.Lost member round why)) → o.missing member round

    fault-comes : TableComes → (f : SignFault) → SignedTable s name store net (Err f) → Comes (end_of_fault f)
    fault-comes come (fault.TooLong got) signed = tt
    fault-comes come fault.Worn signed = tt
    fault-comes come (fault.Table table.NotACoalition) signed = tt
    fault-comes come (fault.Table table.Device) signed = come.table signed
    fault-comes come (fault.Table (table.Damaged leaf a b)) signed = tt
    fault-comes come (fault.Table (table.NoLeaf c)) signed = tt
    fault-comes come (fault.Lost member round why) signed = come.lost member round why signed
    fault-comes come (fault.Stray member round) signed = tt
    fault-comes come (fault.Session (session.Missing member round)) signed = absurd (signs-says (sign_of s) signed.old signed.new signed.over.port signed.over.done _ signed.over.signs)
    fault-comes come (fault.Session (session.SpentLeaf leaf member kept)) signed = tt
    fault-comes come (fault.Session (session.WrongCheck leaf member)) signed = tt
    fault-comes come (fault.Session (session.WrongRoot leaf got want)) signed = tt
    fault-comes come (fault.Session (session.MemberRefused member code)) signed = tt
    fault-comes come (fault.Session session.Reference) signed = come.reference signed
    fault-comes come (fault.Session session.NoMemory) signed = tt
    fault-comes come fault.NoMemory signed = tt

    outcome-comes : TableComes → (outcome : Result Signature SignFault) → SignedTable s name store net outcome → AnswerComes (answer_of outcome)
    outcome-comes come (Ok signature) signed = tt
    outcome-comes come (Err f) signed = fault-comes come f signed

    pub table-comes : TableComes → (answer : Result Signature Ending) (touched : List (List ℕ)) → TableEnds s name store net answer touched → AnswerComes answer
    table-comes come _ _ (signs.no_table idle read) = come.unread read
    table-comes come _ _ (signs.no_memory touched idle stays) = tt
    table-comes come _ _ (signs.not_loaded end idle fails stays) = load-comes store _ _ name end come.unloaded fails
    table-comes come _ _ (signs.no_port entries idle reads rose never stays) = come.unoffered rose never
    table-comes come _ _ (signs.signed outcome signed) = outcome-comes come outcome signed

  -- sessions, wherever their message comes from
  module _ (asked : SessionWords) (store : StoreRun) (source : MessageSource) where
    pub record TaskComes : Type 0 where
      pub message : (end : Ending) → source.fails end → Comes end
      pub key : Unread store (key_name asked.prefix)
      pub tree : Unread store (tree_name asked.prefix)
      pub reference : Unread store (reference_name asked.prefix)
      pub device : DeviceFails store → o.device

    pub lacks-comes : TaskComes → (keys : KeyFiles) (header : RefHeader) (end : Ending) → LacksTask asked source keys header end → Comes end
    lacks-comes come keys header _ tasks.no_memory = tt
    lacks-comes come keys header _ (tasks.no_message end fails) = come.message end fails
    lacks-comes come keys header _ (tasks.other_key message end read other) = other-comes asked.prefix keys header end other
    lacks-comes come keys header _ (tasks.no_coalition message read one never) = tt

    task-comes : TaskComes → (end : Ending) → FailsTask asked store source end → Comes end
    task-comes come _ (tasks.no_key_files end fails) = keys-comes store asked.prefix end come.key come.tree fails
    task-comes come _ (tasks.no_reference keys end read fails) = reference-comes store _ end come.reference come.device fails
    task-comes come _ (tasks.no_task keys header end has lacks) = lacks-comes come keys header end lacks

    -- what each session for what the words name comes from
    abbrev pub SignsCome : NetRun → Type 0
    SignsCome net = (s : Signing) → IsTask asked store source s → TableComes store net asked.table s

    pub session-comes : TaskComes → (net : NetRun) → SignsCome net → (answer : Result Signature Ending) (touched : List (List ℕ)) → SessionEnds asked store source net answer touched → AnswerComes answer
    session-comes come net all _ _ (sessions.no_task end fails same) = task-comes come end fails
    session-comes come net all answer touched (sessions.ended s _ _ task ends) = table-comes store net asked.table s (all s task) answer touched ends

  -- the commands
  pub sign-comes : (words : SignWords) (store : StoreRun) (net : NetRun) → (CallFailed store → o.store) → TaskComes (sign.session_words words) store (message_in store words.message)
      → SignsCome (sign.session_words words) store (message_in store words.message) net → (end : Ending) (touched : List (List ℕ)) → SignEnds words store net end touched → Comes end
  sign-comes words store net failed task signs _ _ (sign.not_new end fails same) = new-comes store words.out end failed fails
  sign-comes words store net failed task signs _ _ (sign.not_signed end touched new ends) =
      session-comes (sign.session_words words) store (message_in store words.message) task net signs (Err end) touched ends
  sign-comes words store net failed task signs _ _ (sign.not_written signature end touched new ends cause) = unwritten-comes store [] words.out end failed cause
  sign-comes words store net failed task signs _ _ (sign.signed signature touched new ends written) = tt

  module _ (words : HssSignWords) (store : StoreRun) (net : NetRun) where
    pub record LowerComes : Type 0 where
      pub key : Unread store words.low_key
      pub signature : Unread store words.low_signature
      pub message : Unread store words.message

    lower-comes : LowerComes → (end : Ending) → FailsLower words store end → Comes end
    lower-comes come _ (lowers.no_key end fails) = grammar-comes store _ _ end come.key fails
    lower-comes come _ (lowers.no_signature key end has fails) = upto-comes store _ _ end come.signature fails
    lower-comes come _ (lowers.no_message key bytes end has its fails) = upto-comes store _ _ end come.message fails

    abbrev asked : SessionWords
    asked = hss.session_words words

    pub levels-comes : (CallFailed store → o.store) → LowerComes → ((lower : Lower) → IsReady words store lower → TaskComes asked store (of_lower lower))
        → ((lower : Lower) → IsReady words store lower → SignsCome asked store (of_lower lower) net) → (end : Ending) (touched : List (List ℕ)) → HssSignEnds words store net end touched → Comes end
    levels-comes failed lower task signs _ _ (hss.not_new end fails same) = new-comes store fails.name end failed fails.cause
    levels-comes failed lower task signs _ _ (hss.no_lower end new fails same) = lower-comes lower end fails
    levels-comes failed lower task signs _ _ (hss.not_accepted read says new has verdict status same) = tt
    levels-comes failed lower task signs _ _ (hss.not_signed read end touched ready ends) =
        session-comes asked store (of_lower read) (task read ready) net (signs read ready) (Err end) touched ends
    levels-comes failed lower task signs _ _ (hss.no_memory_to_join read top made touched ready by) = tt
    levels-comes failed lower task signs _ _ (hss.stopped read top made touched written end ready by stops are) = unwritten-comes store written stops.output.name end failed stops.cause
    levels-comes failed lower task signs _ _ (hss.signed read top made touched ready by are accepted) = tt
