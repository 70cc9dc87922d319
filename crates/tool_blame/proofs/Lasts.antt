-- The session of a message that was signed with a table, in its state at the end.
use Rattle.std.proofs.Common.{◌≡◌, ◌==◌, ℕ, false, List, Option, Some, None, Result, Ok, Err, IfErr, IfSome, IsTrue, is_some, refl, sym, ap, ◌∙◌}
use Rattle.std.proofs.lemmas.Bool.{false≢true}
use Rattle.aggregator_session.specs.Desks.{DeskState}
use Rattle.aggregator_session.specs.Runs.{CellsRead}
use Rattle.aggregator_session.specs.declared.fault.SignFault.{SignFault}
use Rattle.aggregator_session.specs.declared.fault.SignFault.TheVariants as fault
use Rattle.leaf_table.specs.declared.faults.TableFault.TheVariants as table
use Rattle.aggregator_session.specs.Ended.{last_of, last_on}
use Rattle.aggregator_session.specs.Signing.{RunsOn, Signature, SignsLeased, ToSign, not_started, ran, signed_with}
use Rattle.aggregator_session.specs.Signing as signing
use Rattle.aggregator_session.specs.Tables.{TableSeen}
use Rattle.session_core.specs.State.{State}
use Rattle.session_core.specs.declared.faults.SessionFault.{SessionFault}
use Rattle.share_blame.specs.Commits.{AreOf}
use Rattle.share_blame.specs.declared.commits.Commits.{Commits}
use Rattle.mask_prf.specs.Lengths.{all_commits_length}
use Rattle.share_files.specs.declared.reference.RefHeader.{RefHeader}
use Rattle.slot_file.specs.declared.header.Header.{Header}
use Rattle.stream_io.specs.Net.{PortState}
use Rattle.tool_base.specs.Ending.{Ending, status_of}
use Rattle.tool_base.specs.Endings as endings
use Rattle.tool_base.specs.World.{StoreRun}
use Rattle.tool_base.specs.declared.ending.Ending as declared
use Rattle.tool_base.specs.Loads.{FailsToLoad}
use Rattle.tool_base.specs.Loads as loads
use Rattle.tool_sign.specs.Ended.{last_in}
use Rattle.tool_sign.specs.Faults.{end_of_fault}
use Rattle.tool_sign.specs.Ports.{NetRun, Signing, answer_of, sign_of}
use Rattle.tool_sign.specs.Sessions.{answer_by}
use Rattle.tool_sign.specs.Signs.{SignedTable, TableEnds}
use Rattle.tool_sign.specs.Signs as signs
use Rattle.tool_sign.specs.declared.task.SignedBy.{SignedBy}

-- the session in its state at the end is of this desk's key and plan
pub record IsOfDesk (desk : DeskState) (last : State) : Type 0 where
  pub key : last.key ≡ desk.key
  pub plan : last.plan ≡ desk.plan

-- a fault of the session itself
data IsOfSession : SignFault → Type 0 where
  of_session : (f : SessionFault) → IsOfSession (fault.Session f)

-- another number than 8
other_number : (n : ℕ) → (n == 8) ≡ false → n ≡ 8 → ⊥
other_number n differs is = false≢true (sym differs ∙ ap (λ m. m == 8) is)

abbrev no_state : Option State
no_state = None

abbrev some_state : State → Option State
some_state last = Some last

no_last : (last : State) → no_state ≡ some_state last → ⊥
no_last last is = cc

-- the fault of an end of status 8 is one of the session itself
judged : (f : SignFault) → status_of (end_of_fault f) ≡ 8 → IsOfSession f
judged (fault.TooLong got) is = absurd (other_number 12 refl is)
judged fault.Worn is = absurd (other_number 14 refl is)
judged (fault.Table table.NotACoalition) is = absurd (other_number 18 refl is)
judged (fault.Table table.Device) is = absurd (other_number 10 refl is)
judged (fault.Table (table.Damaged leaf a b)) is = absurd (other_number 13 refl is)
judged (fault.Table (table.NoLeaf c)) is = absurd (other_number 9 refl is)
judged (fault.Lost member round why) is = absurd (other_number 6 refl is)
judged (fault.Stray member round) is = absurd (other_number 11 refl is)
judged (fault.Session f) is = of_session f
judged fault.NoMemory is = absurd (other_number 14 refl is)

-- a session that was run and has a fault of its own was started
begun-on : (desk : DeskState) (reads : CellsRead) (leaf : ℕ) (message : List ℕ) (port now : PortState) (result : Result (List ℕ) SignFault) (f : SessionFault)
    → result ≡ Err (fault.Session f) → (runs : RunsOn desk reads leaf message port now result) → IsTrue (is_some (last_on runs))
begun-on desk reads leaf message port _ _ f is (not_started same) = absurd (cc)
begun-on desk reads leaf message port _ _ f is (ran after last result run ends) = refl

abbrev failed_with : SignFault → Result (List ℕ) SignFault
failed_with one = Err one

with-session : (leaf : ℕ) (result : Result (List ℕ) SignFault) (f : SessionFault) → signed_with leaf result ≡ Err (fault.Session f) → result ≡ Err (fault.Session f)
with-session leaf (Ok bytes) f is = absurd (cc)
with-session leaf (Err why) f is = let same : why ≡ fault.Session f = cc in ap failed_with same

begun-of : (sign : ToSign) (before after : TableSeen) (port now : PortState) (result : Result Signature SignFault) (f : SessionFault)
    → result ≡ Err (fault.Session f) → (signs : SignsLeased sign before port after now result) → IsTrue (is_some (last_of signs))
begun-of sign before _ port _ _ f is (signing.too_long long same) = absurd (cc)
begun-of sign before _ port _ _ f is (signing.not_leased after why short same asks) = absurd (cc)
begun-of sign before _ port _ _ f is (signing.leased leaf mid after now result short asks runs spends) =
    begun-on sign.desk sign.reads leaf sign.message port now result f (with-session leaf result f is) runs

-- the session is of the desk with which it was started
desk-on : (desk : DeskState) (reads : CellsRead) (leaf : ℕ) (message : List ℕ) (port now : PortState) (result : Result (List ℕ) SignFault) (runs : RunsOn desk reads leaf message port now result)
    (last : State) → last_on runs ≡ Some last → IsOfDesk desk last
desk-on desk reads leaf message port _ _ (not_started same) last is = absurd (no_last last is)
desk-on desk reads leaf message port _ _ (ran after end result run ends) last is =
    let same : end ≡ last = cc in
    record { key = ap (λ (s : State). s.key) (sym same) ∙ run.same.key; plan = ap (λ (s : State). s.plan) (sym same) ∙ run.same.plan }

desk-of : (sign : ToSign) (before after : TableSeen) (port now : PortState) (result : Result Signature SignFault)
    (signs : SignsLeased sign before port after now result) (last : State) → last_of signs ≡ Some last → IsOfDesk sign.desk last
desk-of sign before _ port _ _ (signing.too_long long same) last is = absurd (no_last last is)
desk-of sign before _ port _ _ (signing.not_leased after why short same asks) last is = absurd (no_last last is)
desk-of sign before _ port _ _ (signing.leased leaf mid after now result short asks runs spends) last is = desk-on sign.desk sign.reads leaf sign.message port now result runs last is

-- the status by which an answer is told
abbrev answer_status : Result Signature Ending → ℕ
answer_status (Ok signature) = 0
answer_status (Err end) = status_of end

module _ (s : Signing) (name : List ℕ) (store : StoreRun) (net : NetRun) where
  other-status : (header : Header) (count : ℕ) (end : Ending) → FailsToLoad header count store name end → status_of end ≡ 8 → ⊥
  other-status header count _ (loads.other_file f reads) is = other_number 13 refl is
  other-status header count _ (loads.damaged reads) is = other_number 13 refl is
  other-status header count _ (loads.device fails) is = other_number 10 refl is
  other-status header count _ loads.no_memory is = other_number 14 refl is

  fault-begun : (f : SignFault) → IsOfSession f → (signed : SignedTable s name store net (Err f)) → IsTrue (is_some (last_of signed.over.signs))
  fault-begun _ (of_session f) signed =
      begun-of (sign_of s) signed.old signed.new signed.over.port signed.over.done (Err (fault.Session f)) f refl signed.over.signs

  outcome-begun : (outcome : Result Signature SignFault) → answer_status (answer_of outcome) ≡ 8 → (signed : SignedTable s name store net outcome) → IsTrue (is_some (last_of signed.over.signs))
  outcome-begun (Ok signature) is signed = absurd (other_number 0 refl is)
  outcome-begun (Err f) is signed = fault-begun f (judged f is) signed

  -- an end of status 8 is that of a session
  begun : (answer : Result Signature Ending) (touched : List (List ℕ)) → answer_status answer ≡ 8 → (ends : TableEnds s name store net answer touched) → IsTrue (is_some (last_in ends))
  begun _ _ is (signs.no_table idle read) = absurd (other_number 3 refl is)
  begun _ _ is (signs.no_memory touched idle stays) = absurd (other_number 14 refl is)
  begun _ _ is (signs.not_loaded why idle fails stays) = absurd (other-status _ _ why fails is)
  begun _ _ is (signs.no_port entries idle reads rose never stays) = absurd (other_number 17 refl is)
  begun _ _ is (signs.signed outcome signed) = outcome-begun outcome is signed

  -- the session is of the desk's key and plan
  pub desk_is : (answer : Result Signature Ending) (touched : List (List ℕ)) (ends : TableEnds s name store net answer touched) (last : State) → last_in ends ≡ Some last → IsOfDesk s.desk last
  desk_is _ _ (signs.no_table idle read) last is = absurd (no_last last is)
  desk_is _ _ (signs.no_memory touched idle stays) last is = absurd (no_last last is)
  desk_is _ _ (signs.not_loaded end idle fails stays) last is = absurd (no_last last is)
  desk_is _ _ (signs.no_port entries idle reads rose never stays) last is = absurd (no_last last is)
  desk_is _ _ (signs.signed outcome signed) last is =
      desk-of (sign_of s) signed.old signed.new signed.over.port signed.over.done outcome signed.over.signs last is

  -- commitments that go with the reference go with the session
  pub session_fits : {V : Type 0} (answer : Result Signature Ending) (touched : List (List ℕ)) (ends : TableEnds s name store net answer touched) (session : Option State) → session ≡ last_in ends
      → (header : RefHeader) (commits : Commits V) → AreOf header.params header.plan commits → header.params ≡ s.desk.key.params → header.plan ≡ s.desk.plan
      → IfSome session (λ last. (last.key ≡ s.desk.key) × AreOf s.desk.key.params last.plan commits)
  session_fits answer touched ends None is header commits of params plan = tt
  session_fits answer touched ends (Some last) is header commits of params plan =
      let desk = desk_is answer touched ends last (sym is) in
      (desk.key, record { set = of.set ∙ params; plan = of.plan ∙ (plan ∙ sym desk.plan) })

  -- and so they have its length, if that is told
  pub session_whole : (answer : Result Signature Ending) (touched : List (List ℕ)) (ends : TableEnds s name store net answer touched) (session : Option State) → session ≡ last_in ends
      → (header : RefHeader) (told : Type 0) (size : ℕ) → (told → size ≡ all_commits_length header.params header.plan) → header.params ≡ s.desk.key.params → header.plan ≡ s.desk.plan
      → IfSome session (λ last. told → size ≡ all_commits_length s.desk.key.params last.plan)
  session_whole answer touched ends None is header told size whole params plan = tt
  session_whole answer touched ends (Some last) is header told size whole params plan =
      let desk = desk_is answer touched ends last (sym is) in
      let same : header.plan ≡ last.plan = plan ∙ sym desk.plan in
      λ it. rw (← params, ← same) (whole it)

  -- if a command ends with status 8, there is a session
  pub begun_if : (outcome : Result SignedBy declared.Ending) (touched : List (List ℕ)) (ends : TableEnds s name store net (answer_by outcome) touched) (session : Option State) → session ≡ last_in ends
      → IfErr outcome (λ end. status_of (endings.ending end) ≡ 8 → IsTrue (is_some session))
  begun_if (Ok by) touched ends session is = tt
  begun_if (Err end) touched ends session is = λ status. rw is (begun (Err (endings.ending end)) touched status ends)
