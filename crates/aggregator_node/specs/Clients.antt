-- A client's connection: its requests are read one after the other, and each is signed and answered.
use Rattle.std.specs.Prelude.{◌≡◌, ◌≢◌, ◌+◌, ◌*◌, ◌≤◌, ◌++◌, ℕ, Bool, List, [], ◌∷◌, length, Option, None, Some}
use Rattle.std.specs.Prelude.{Result, Ok, Err, IfOk, IsOk, IsTrue, MatchResult}
use Rattle.aggregator_session.specs.Desks.{DeskState}
use Rattle.aggregator_session.specs.declared.fault.SignFault.{SignFault}
use Rattle.aggregator_session.specs.declared.fault.SignFault.TheVariants as sign
use Rattle.aggregator_node.specs.Failures.{failure_of}
use Rattle.aggregator_node.specs.Logs.{Shows}
use Rattle.aggregator_node.specs.Signing.{SignsInTurns}
use Rattle.disk_trait.specs.Faults.{HasCause, Rose}
use Rattle.leaf_table.specs.declared.lease.Lease.{Lease}
use Rattle.leaf_table.specs.declared.table.TableName.{TableName}
use Rattle.aggregator_session.specs.Causes.{PortCauses}
use Rattle.aggregator_session.specs.Signing.{Signature}
use Rattle.lms_bytes.specs.MessageId.{message_id}
use Rattle.lms_bytes.specs.Signature.{signature_length}
use Rattle.lms_bytes.specs.declared.params.Params.{Params}
use Rattle.lms_verify.specs.Accepts.{AcceptsAt}
use Rattle.round_frames.specs.Frames.{frame_of}
use Rattle.round_frames.specs.Reads.{Reads}
use Rattle.round_frames.specs.Requests.{requests}
use Rattle.round_frames.specs.Results.{failure_frame, signature_frame}
use Rattle.round_frames.specs.declared.fault.FrameFault.{FrameFault}
use Rattle.round_frames.specs.declared.fault.FrameFault.TheVariants as frame
use Rattle.session_core.specs.declared.faults.SessionFault as session
use Rattle.session_core.specs.declared.faults.SessionFault.TheVariants.{MemberRefused, Missing, Reference, SpentLeaf}
use Rattle.session_core.specs.declared.faults.SessionFault.TheVariants.{WrongCheck, WrongRoot}
use Rattle.mask_prf.specs.Lengths.{leaves_length}
use Rattle.stream_io.specs.Net.{PortState}
use Rattle.stream_io.specs.Store.{RisesWhere}
use Rattle.stream_io.specs.Talk.{OnlyRead, OnlyWrote, Talk, WrotePart}
use Rattle.stream_io.specs.declared.failed.Failed.{Failed}
use Rattle.node_workers.specs.Ends.{end_by}
use Rattle.node_workers.specs.declared.served.Served.{Served}
use Rattle.node_workers.specs.declared.served.ServedEnd.{ServedEnd}
use Rattle.node_workers.specs.declared.served.ServedEnd.TheVariants.{Frame, Full, Worn, WriteFailed}
use Rattle.turn_lock.specs.Pass.{Seen}

-- where a connection stands: what the pass has seen, the port of its sessions, the count of faults of the cells that
-- they read, and the client's link
pub record Stand : Type 0 where
  pub pass : Seen Lease TableName
  pub port : PortState
  pub faults : ℕ
  pub talk : Talk

-- the frame that answers a request
abbrev pub reply_frame : Result Signature SignFault → List ℕ
reply_frame (Ok signature) = signature_frame signature.bytes
reply_frame (Err fault) = failure_frame (failure_of fault)

-- this project's profile: no reply is longer than this, the frame of a signature: the 8 bytes of its header and the
-- signature, beside which a failure's 15 bytes are few
abbrev pub longest_reply : Params → ℕ
longest_reply params = 8 + signature_length params

-- how a connection ends after a request whose session had this fault, or none if it goes on
abbrev pub end_by_session : session.SessionFault → Option ServedEnd
end_by_session (Missing member round) = None
end_by_session (SpentLeaf leaf member kept) = None
end_by_session (WrongCheck leaf member) = None
end_by_session (WrongRoot leaf got want) = None
end_by_session (MemberRefused member code) = None
end_by_session Reference = None
end_by_session session.TheVariants.NoMemory = Some (Frame frame.NoMemory)

-- the same for any fault of a request
abbrev pub end_by_fault : SignFault → Option ServedEnd
end_by_fault (sign.TooLong got) = None
end_by_fault sign.Worn = Some Worn
end_by_fault (sign.Table fault) = None
end_by_fault (sign.Lost member round why) = None
end_by_fault (sign.Stray member round) = None
end_by_fault (sign.Session fault) = end_by_session fault
end_by_fault sign.NoMemory = Some (Frame frame.NoMemory)

-- the same for an outcome: a request for which there was no memory, or no turn, is the last
abbrev pub end_after : Result Signature SignFault → Option ServedEnd
end_after (Ok signature) = None
end_after (Err fault) = end_by_fault fault

-- the request that the link gave next: these trustees are to sign this message
pub record RequestRead (old new : Talk) (members message : List ℕ) : Type 0 where
  pub reads : IsTrue old.told → Reads old new (Ok (members, message)) (frame_of requests old.left)
  pub only : OnlyRead old new
  pub count : new.count ≡ old.count

-- the link gave no request: its bytes have this fault, or a read failed
pub record NoRequest (old new : Talk) (fault : FrameFault) : Type 0 where
  pub reads : IsTrue old.told → Reads {V = List ℕ × List ℕ} old new (Err fault) (frame_of requests old.left)
  pub only : OnlyRead old new
  pub cause : RisesWhere (fault ≡ frame.ReadFault) old.count new.count

-- there was no memory for the message of the next request
pub record NoRoom (old new : Talk) : Type 0 where
  pub only : OnlyRead old new
  pub count : new.count ≡ old.count

-- these bytes were written whole
pub record HasReplied (old new : Talk) (bytes : List ℕ) : Type 0 where
  pub wrote : IsTrue old.told → new.written ≡ old.written ++ bytes
  pub only : OnlyWrote old new
  pub count : new.count ≡ old.count

-- a beginning of these bytes was written, and a write failed
pub record FailedToReply (old new : Talk) (bytes : List ℕ) : Type 0 where
  pub wrote : IsTrue old.told → WrotePart old new bytes
  pub only : OnlyWrote old new
  pub rose : Rose old.count new.count

-- the reference that is read: whether it is told, whether its calls fail for their arguments alone, and its leaves
pub record ReferenceState : Type 0 where
  pub told : Bool
  pub steady : Bool
  pub leaves : List ℕ

-- the reference gives what it has whenever it is asked: it is steady and tells all leaves
pub record IsExact (desk : DeskState) (reference : ReferenceState) : Type 0 where
  pub steady : IsTrue reference.steady
  pub told : IsTrue reference.told
  pub whole : length reference.leaves ≡ leaves_length desk.key.params desk.plan

-- the same reference at a later time
pub record SameReference (old new : ReferenceState) : Type 0 where
  pub told : new.told ≡ old.told
  pub steady : new.steady ≡ old.steady
  pub leaves : IsTrue old.told → new.leaves ≡ old.leaves

-- a request that was read: these trustees were to sign this message. What came of it, and the entries that it added.
pub record Request : Type 0 where
  pub members : List ℕ
  pub message : List ℕ
  pub outcome : Result Signature SignFault
  pub added : List Lease

-- What signing the message of a request did to pass, port and cells. Before the first fault the pass has added just the
-- entries of the request. The reference is found unread only if its count rose, and never if it gives what it has.
pub record IsSigned (desk : DeskState) (reference : ReferenceState) (old new : Stand) (request : Request) : Type 0 where
  pub read : List ℕ
  pub read_is : IsTrue reference.told → read ≡ reference.leaves
  pub signs : SignsInTurns (record {
    desk = desk;
    reads = record { told = reference.told; leaves = read; before = old.faults; now = new.faults };
    members = request.members;
    message = request.message;
  }) old.pass old.port new.pass new.port request.outcome
  pub shows : Shows desk.plan request.members (message_id request.message) old.pass new.pass request.outcome
      request.added
  pub own : new.pass.floor ≡ 0 → new.pass.own ≡ old.pass.own ++ request.added
  pub accepted : IfOk request.outcome
      (λ signature. AcceptsAt desk.key request.message signature.bytes signature.leaf)
  pub port : PortCauses request.message old.port new.port request.outcome
  pub rises : request.outcome ≡ Err (sign.Session Reference) → Rose old.faults new.faults
  pub succeeds : IsExact desk reference → request.outcome ≢ Err (sign.Session Reference)

-- a request was read and signed, and still has to be answered
pub record Exchange (desk : DeskState) (reference : ReferenceState) (old new : Stand) (request : Request) : Type 0 where
  pub read : RequestRead old.talk new.talk request.members request.message
  pub signed : IsSigned desk reference old new request

-- One request: what it was, if it was read whole, how many replies were written whole, and how the connection ends
-- after it, if it does.
pub data Answers (desk : DeskState) (reference : ReferenceState) (old : Stand)
    : List Request → ℕ → Option ServedEnd → Stand → Type 0 where
  no_request : (talk : Talk) (fault : FrameFault) → fault ≢ frame.NoMemory → NoRequest old.talk talk fault
      → Answers desk reference old [] 0 (Some (end_by fault)) (record old { talk = talk })
  no_room : (mid talk : Talk) → NoRoom old.talk mid → HasReplied mid talk (reply_frame (Err sign.NoMemory))
      → Answers desk reference old [] 1 (Some (Frame frame.NoMemory)) (record old { talk = talk })
  no_room_unanswered : (mid talk : Talk) → NoRoom old.talk mid
      → FailedToReply mid talk (reply_frame (Err sign.NoMemory))
      → Answers desk reference old [] 0 (Some WriteFailed) (record old { talk = talk })
  answered : (mid : Stand) (talk : Talk) (request : Request) → Exchange desk reference old mid request
      → HasReplied mid.talk talk (reply_frame request.outcome)
      → Answers desk reference old (request ∷ []) 1 (end_after request.outcome) (record mid { talk = talk })
  unanswered : (mid : Stand) (talk : Talk) (request : Request) → Exchange desk reference old mid request
      → FailedToReply mid.talk talk (reply_frame request.outcome)
      → Answers desk reference old (request ∷ []) 0 (Some WriteFailed) (record mid { talk = talk })

-- internal: the same, with the request that there was
pub record HasAnswered (desk : DeskState) (reference : ReferenceState) (old new : Stand) (replies : ℕ)
    (ended : Option ServedEnd) : Type 0 where
  pub requests : List Request
  pub answers : Answers desk reference old requests replies ended new

-- internal: What came of a request that was not read because of this fault. Either the answer was that there was no
-- memory for it, or a write of that failed, which no write does if this is sure; or nothing was written.
pub data IsUnread (fault : FrameFault) (old new : Talk) (sure : Type 0) : ℕ → Option ServedEnd → Type 0 where
  memory_wanted : (written : Result (Unit {0}) Failed) (replies : ℕ) (ended : Option ServedEnd)
      → fault ≢ frame.ReadFault
      → (IsTrue old.told → MatchResult written (λ _. new.written ≡ old.written ++ reply_frame (Err sign.NoMemory))
      (λ _. WrotePart old new (reply_frame (Err sign.NoMemory))))
      → OnlyWrote old new → HasCause old.count new.count written
      → MatchResult written (λ _. (replies ≡ 1) × (ended ≡ end_after (Err sign.NoMemory)))
      (λ _. (replies ≡ 0) × (ended ≡ Some WriteFailed))
      → (sure → IsOk written) → IsUnread fault old new sure replies ended
  nothing_written : fault ≢ frame.NoMemory → new ≡ old → IsUnread fault old new sure 0 (Some (end_by fault))

-- internal: What is known of one request, by whether its link is steady and has room for a reply: at most one reply was
-- written whole, and exactly one if the connection goes on. Reading a steady link never fails, nor does writing to it
-- if it has that room.
pub record StepEnds (steady fits : Type 0) (replies : ℕ) (ended : Option ServedEnd) : Type 0 where
  pub most : replies ≤ 1
  pub one : ended ≡ None → replies ≡ 1
  pub not_full : ended ≢ Some Full
  pub reads : steady → ended ≢ Some (Frame frame.ReadFault)
  pub writes : steady → fits → ended ≢ Some WriteFailed

-- A connection from where it stands: the requests that were read whole, in their order, how many replies were written
-- whole in all, and how it ended: by a request that was the last, or because it was full.
pub data Serves (desk : DeskState) (reference : ReferenceState)
    : Stand → List Request → ℕ → ServedEnd → Stand → Type 0 where
  ended : (old new : Stand) (requests : List Request) (replies : ℕ) (end : ServedEnd)
      → Answers desk reference old requests replies (Some end) new
      → Serves desk reference old requests replies end new
  more : (old mid new : Stand) (requests others : List Request) (replies later : ℕ) (end : ServedEnd)
      → Answers desk reference old requests replies None mid → Serves desk reference mid others later end new
      → Serves desk reference old (requests ++ others) (replies + later) end new
  full : (old : Stand) → Serves desk reference old [] 0 Full old

-- the same, with the requests that there were
pub record HasServed (desk : DeskState) (reference : ReferenceState) (old new : Stand) (replies : ℕ) (end : ServedEnd)
    : Type 0 where
  pub requests : List Request
  pub serves : Serves desk reference old requests replies end new

-- How serving a link ended that is steady if this says so, and has this room: with at most 65536 replies, and full only
-- with that many. Reading a steady link never fails, nor does writing to it if it has room for that many of the longest
-- replies.
pub record HasEnded (params : Params) (steady : Bool) (room : ℕ) (served : Served) : Type 0 where
  pub most : served.frames ≤ 65536
  pub full : served.ended ≡ Full → served.frames ≡ 65536
  pub answers : IsTrue steady → served.ended ≢ Frame frame.ReadFault
  pub writes : IsTrue steady → 65536 * longest_reply params ≤ room → served.ended ≢ WriteFailed
