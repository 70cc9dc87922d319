-- One request of a client, read, signed and answered.
use Rattle.std.proofs.Common.{◌≡◌, ◌≢◌, ◌⊎◌, inl, inr, ◌++◌, ℕ, List, [], ◌∷◌, length, Option, Some, Result, Ok, Err, IfOk, MatchResult, IsTrue, sym, ap, ◌∙◌, subst}
use Rattle.aggregator_session.specs.Desks.{DeskState}
use Rattle.aggregator_session.specs.Tasks as tasks
use Rattle.aggregator_session.specs.declared.fault.SignFault.{SignFault}
use Rattle.aggregator_session.specs.declared.fault.SignFault.TheVariants as sign
use Rattle.aggregator_node.specs.Clients.{Answers, Exchange, IsExact, IsSigned, IsUnread, NoRoom, ReferenceState, Request, SameReference, Stand, answered, end_after, memory_wanted, no_request, no_room, no_room_unanswered, nothing_written, reply_frame, unanswered}
use Rattle.disk_trait.specs.Faults.{HasCause, Rose}
use Rattle.disk_trait.specs.declared.faults.Faults as faults
use Rattle.reference_value.specs.Stay.{CellsStay}
use Rattle.reference_value.specs.declared.cells.Cells as cells
use Rattle.aggregator_session.specs.Causes.{PortCauses}
use Rattle.aggregator_session.specs.Signing.{Signature, signature_in}
use Rattle.aggregator_session.specs.declared.sign.Signed.{Signed}
use Rattle.lms_bytes.specs.declared.public_key.PublicKey.{PublicKey}
use Rattle.lms_verify.specs.Accepts.{AcceptsAt}
use Rattle.session_core.specs.declared.faults.SessionFault.TheVariants.{Reference}
use Rattle.mask_prf.specs.Lengths.{leaves_length}
use Rattle.stream_io.specs.Net.{PortState}
use Rattle.node_workers.specs.Ends.{end_by}
use Rattle.round_frames.specs.Frames.{frame_of}
use Rattle.round_frames.specs.Reads.{Reads}
use Rattle.round_frames.specs.Requests.{requests}
use Rattle.round_frames.specs.declared.fault.FrameFault.{FrameFault}
use Rattle.round_frames.specs.declared.fault.FrameFault.TheVariants as frame
use Rattle.stream_io.specs.Store.{RisesWhere}
use Rattle.stream_io.specs.Talk.{OnlyRead, OnlyWrote, Talk, WrotePart}
use Rattle.stream_io.specs.declared.failed.Failed.{Failed}
use Rattle.node_workers.specs.declared.served.ServedEnd.{ServedEnd}
use Rattle.node_workers.specs.declared.served.ServedEnd.TheVariants.{WriteFailed}

-- answers of the same kind and of other kinds
module _ {V E : Type 0} where
  pub ok_never : (value : V) (fault : E) → ◌≡◌ {A = Result V E} (Ok value) (Err fault) → ⊥
  ok_never value fault is = absurd (cc)

  pub err_is : (fault other : E) → ◌≡◌ {A = Result V E} (Err fault) (Err other) → fault ≡ other
  err_is fault other is = cc

-- what is said about an answer is said about its signature
pub accepted_as : (key : PublicKey) (message : List ℕ) (result : Result Signed SignFault) → IfOk result (λ signed. AcceptsAt key message signed.bytes.items signed.leaf)
    → IfOk (signature_in result) (λ signature. AcceptsAt key message signature.bytes signature.leaf)
accepted_as key message (Ok signed) accepted = accepted
accepted_as key message (Err fault) accepted = accepted

pub port_as : (message : List ℕ) (before now : PortState) (result : Result Signed SignFault) → PortCauses message before now result → PortCauses message before now (signature_in result)
port_as message before now (Ok signed) p = record { dialled = p.dialled; unwritten = p.unwritten; unread = p.unread; reads = p.reads; writes = p.writes; onward = p.onward; accepting = p.accepting }
port_as message before now (Err fault) p = record { dialled = p.dialled; unwritten = p.unwritten; unread = p.unread; reads = p.reads; writes = p.writes; onward = p.onward; accepting = p.accepting }

pub reference_as : (before now : ℕ) (result : Result Signed SignFault) → (result ≡ Err (sign.Session Reference) → Rose before now)
    → signature_in result ≡ Err (sign.Session Reference) → Rose before now
reference_as before now (Ok signed) rises is = absurd (cc)
reference_as before now (Err fault) rises is = let same : fault ≡ sign.Session Reference = cc in rises (ap Err same)

pub never_as : (result : Result Signed SignFault) → result ≢ Err (sign.Session Reference) → signature_in result ≢ Err (sign.Session Reference)
never_as (Ok signed) never is = absurd (cc)
never_as (Err fault) never is = let same : fault ≡ sign.Session Reference = cc in never (ap Err same)

-- how many replies were written, and the end, by whether the answer was written
abbrev pub Answered : Result (Unit {0}) Failed → Result Signature SignFault → ℕ → Option ServedEnd → Type 0
Answered written outcome replies ended =
    MatchResult written (λ _. (replies ≡ 1) × (ended ≡ end_after outcome)) (λ _. (replies ≡ 0) × (ended ≡ Some WriteFailed))

abbrev pub Wrote : Talk → Talk → List ℕ → Result (Unit {0}) Failed → Type 0
Wrote old new bytes written = IsTrue old.told → MatchResult written (λ _. new.written ≡ old.written ++ bytes) (λ _. WrotePart old new bytes)

module _ (desk : DeskState) (reference : ReferenceState) (old : Stand) where
  pub exchange_answered : (mid : Stand) (talk : Talk) (request : Request) (written : Result (Unit {0}) Failed) (replies : ℕ) (ended : Option ServedEnd)
      → Exchange desk reference old mid request → Wrote mid.talk talk (reply_frame request.outcome) written → OnlyWrote mid.talk talk → HasCause mid.talk.count talk.count written
      → Answered written request.outcome replies ended → Answers desk reference old (request ∷ []) replies ended (record mid { talk = talk })
  exchange_answered mid talk request (Ok done) replies ended exchange wrote only cause is =
      rw (is.0, is.1) (answered mid talk request exchange (record { wrote = wrote; only = only; count = cause.succeeded }))
  exchange_answered mid talk request (Err failed) replies ended exchange wrote only cause is =
      rw (is.0, is.1) (unanswered mid talk request exchange (record { wrote = wrote; only = only; rose = cause.failed }))

  pub room_answered : (mid talk : Talk) (written : Result (Unit {0}) Failed) (replies : ℕ) (ended : Option ServedEnd)
      → NoRoom old.talk mid → Wrote mid talk (reply_frame (Err sign.NoMemory)) written → OnlyWrote mid talk → HasCause mid.count talk.count written
      → Answered written (Err sign.NoMemory) replies ended → Answers desk reference old [] replies ended (record old { talk = talk })
  room_answered mid talk (Ok done) replies ended room wrote only cause is =
      rw (is.0, is.1) (no_room mid talk room (record { wrote = wrote; only = only; count = cause.succeeded }))
  room_answered mid talk (Err failed) replies ended room wrote only cause is =
      rw (is.0, is.1) (no_room_unanswered mid talk room (record { wrote = wrote; only = only; rose = cause.failed }))

  -- a request that was not read
  pub unread_answers : (mid talk : Talk) (fault : FrameFault) {sure : Type 0} (replies : ℕ) (ended : Option ServedEnd) → IsUnread fault mid talk sure replies ended
      → (IsTrue old.talk.told → (fault ≡ frame.NoMemory) ⊎ Reads {V = List ℕ × List ℕ} old.talk mid (Err fault) (frame_of requests old.talk.left))
      → OnlyRead old.talk mid → RisesWhere (fault ≡ frame.ReadFault) old.talk.count mid.count
      → Answers desk reference old [] replies ended (record old { talk = talk })
  unread_answers mid talk fault replies ended (memory_wanted written _ _ found wrote only cause is sure) told read count =
      room_answered mid talk written replies ended (record { only = read; count = count.same found }) wrote only cause is
  unread_answers mid talk fault _ _ (nothing_written differs same) told read count =
      subst (λ (after : Talk). Answers desk reference old [] 0 (Some (end_by fault)) (record old { talk = after })) (sym same)
      (no_request mid fault differs (record {
        reads = λ is. elim (told is) [ inl none ↦ absurd (differs none) | inr reads ↦ reads ];
        only = read;
        cause = count;
      }))

-- what is said about a request whose message has this value
pub signed_at : (desk : DeskState) (reference : ReferenceState) (old new : Stand) (request : Request) (given : List ℕ) → given ≡ request.message
    → IsSigned desk reference old new (record request { message = given }) → IsSigned desk reference old new request
signed_at desk reference old new request given is signed = subst (λ (message : List ℕ). IsSigned desk reference old new (record request { message = message })) is signed

exact_then : (desk : DeskState) (old new : ReferenceState) → SameReference old new → IsExact desk old → IsExact desk new
exact_then desk old new same is = record {
  steady = rw same.steady is.steady;
  told = rw same.told is.told;
  whole = ap length (same.leaves is.told) ∙ is.whole;
}

-- what is said about the reference later is also said about it as it was
signed_told : (desk : DeskState) (before reference : ReferenceState) (old new : Stand) (request : Request)
    → SameReference before reference → IsSigned desk reference old new request → IsSigned desk before old new request
signed_told desk before reference old new request same s = record {
  read = s.read;
  read_is = λ is. s.read_is (rw same.told is) ∙ same.leaves is;
  signs = rw same.told at s.signs;
  shows = s.shows;
  own = s.own;
  accepted = s.accepted;
  port = s.port;
  rises = s.rises;
  succeeds = λ is. s.succeeds (exact_then desk before reference same is);
}

exchange_told : (desk : DeskState) (before reference : ReferenceState) (old new : Stand) (request : Request)
    → SameReference before reference → Exchange desk reference old new request → Exchange desk before old new request
exchange_told desk before reference old new request same e = record {
  read = e.read;
  signed = signed_told desk before reference old new request same e.signed;
}

pub answers_told : (desk : DeskState) (before reference : ReferenceState) (old new : Stand) (requests : List Request) (replies : ℕ) (ended : Option ServedEnd)
    → SameReference before reference → Answers desk reference old requests replies ended new → Answers desk before old requests replies ended new
answers_told desk before reference old _ _ replies ended same (no_request talk fault other none) = no_request talk fault other none
answers_told desk before reference old _ _ replies ended same (no_room mid talk room replied) = no_room mid talk room replied
answers_told desk before reference old _ _ replies ended same (no_room_unanswered mid talk room failed) = no_room_unanswered mid talk room failed
answers_told desk before reference old _ _ replies ended same (answered mid talk request exchange replied) =
    answered mid talk request (exchange_told desk before reference old mid request same exchange) replied
answers_told desk before reference old _ _ replies ended same (unanswered mid talk request exchange failed) =
    unanswered mid talk request (exchange_told desk before reference old mid request same exchange) failed

module _ {C : Type 0} (c : cells.Ghosts C) (f : faults.Ghosts C) where
  -- cells seen as a reference
  abbrev pub reference_of : C → ReferenceState
  reference_of r = record { told = c.told r; steady = f.steady r; leaves = c.leaves r }

  pub same_cells : (old new : C) → CellsStay c f old new → SameReference (reference_of old) (reference_of new)
  same_cells old new stays = record { told = stays.told; steady = stays.steady; leaves = stays.leaves }

  -- a reference that gives what it has is made of cells that do
  pub exact_cells : (desk : DeskState) (r : C) → c.set r ≡ desk.key.params → c.plan r ≡ desk.plan → IsExact desk (reference_of r) → tasks.IsExact c f r
  exact_cells desk r set plan is = record { steady = is.steady; told = is.told; whole = is.whole ∙ (λ i. leaves_length (sym set i) (sym plan i)) }
