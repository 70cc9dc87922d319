-- A session of a leaf that was leased.
use Rattle.std.proofs.Common.{◌≡◌, ◌≤◌, ℕ, List, [], IfOk, Some, Result, Ok, Err, refl, sym, subst, ap, ◌∙◌, arith}
use Rattle.std.proofs.lemmas.List.{append-nil}
use Rattle.std.specs.declared.alloc.Global.{Global}
use Rattle.std.specs.declared.vec.Vec.{Vec}
use Rattle.aggregator_session.specs.Desks.{DeskState}
use Rattle.aggregator_session.specs.Runs.{CellsRead, HasRun, SameSession, SignRun, bytes_in, judged_in_one, judged_in_two, lost_in_one, lost_in_two, no_memory, signed}
use Rattle.aggregator_session.specs.declared.fault.SignFault.{SignFault}
use Rattle.aggregator_session.specs.declared.fault.SignFault.TheVariants.{NoMemory}
use Rattle.aggregator_session.proofs.Ending.{started-end}
use Rattle.aggregator_session.specs.Ended.{RunsTo}
use Rattle.aggregator_session.specs.Signing.{ran}
use Rattle.lms_bytes.specs.MessageId.{message_id}
use Rattle.lms_bytes.specs.declared.message.MessageId.{MessageId}
use Rattle.lms_bytes.specs.declared.public_key.PublicKey.{PublicKey}
use Rattle.lms_verify.specs.Accepts.{AcceptsAt}
use Rattle.session_core.specs.State.{State, started}
use Rattle.stream_io.specs.Net.{PortState}
use Rattle.stream_io.specs.Talk.{Talk}

module _ {desk : DeskState} {reads : CellsRead} {leaf : ℕ} {message : List ℕ} {id : MessageId} {port after : PortState} {s last : State} {result : Result (List ℕ) SignFault} where
  pub ran-to : s ≡ started desk.key desk.plan leaf id → id ≡ message_id message → HasRun desk reads message port after s last result
      → RunsTo desk reads leaf message port after result (Some last)
  ran-to is named run =
      let begun = subst (λ (x : State). HasRun desk reads message port after x last result) (is ∙ ap (λ (m : MessageId). started desk.key desk.plan leaf m) named) run in
      record {
        runs = ran after last result begun (started-end desk.key desk.plan leaf (message_id message) desk reads message port after last result begun);
        session_is = refl;
      }

abbrev Accepted : State → List ℕ → Result (List ℕ) SignFault → Type 0
Accepted s message result = IfOk result (λ bytes. AcceptsAt s.key message bytes s.leaf)

accepted-as : (x y : State) (message bytes : List ℕ) → SameSession x y → AcceptsAt y.key message bytes y.leaf → AcceptsAt x.key message bytes x.leaf
accepted-as x y message bytes same accepts = subst (λ (k : PublicKey). AcceptsAt k message bytes x.leaf) same.key (subst (λ (q : ℕ). AcceptsAt y.key message bytes q) same.leaf accepts)

-- what a run signs is accepted for the session that it began with
run-accepted : (desk : DeskState) (reads : CellsRead) (message : List ℕ) (port : PortState) (s : State) (talks : List Talk) (last : State) (result : Result (List ℕ) SignFault)
    → SignRun desk reads message port s talks last result → SameSession s last → Accepted s message result
run-accepted desk reads message port s talks last result no_memory same = tt
run-accepted desk reads message port s talks last result (lost_in_one t kept fault run) same = tt
run-accepted desk reads message port s talks last result (judged_in_one t kept fault run stops) same = tt
run-accepted desk reads message port s talks last result (lost_in_two mids t turned kept fault opens run) same = tt
run-accepted desk reads message port s talks last result (judged_in_two mids t turned kept fault opens run fails) same = tt
run-accepted desk reads message port s talks last result (signed mids t turned kept bytes opens run signs) same = accepted-as s kept message bytes same signs.accepted

of-bytes : (result : Result (Vec ℕ Global) SignFault) (key : PublicKey) (message : List ℕ) (leaf : ℕ) → IfOk (bytes_in result) (λ bytes. AcceptsAt key message bytes leaf) → IfOk result (λ bytes. AcceptsAt key message bytes.items leaf)
of-bytes (Ok bytes) key message leaf accepts = accepts
of-bytes (Err fault) key message leaf accepts = tt

module _ {desk : DeskState} {reads : CellsRead} {message : List ℕ} {port after : PortState} {s last first : State} (result : Result (Vec ℕ Global) SignFault) where
  pub has-accepted : s ≡ first → HasRun desk reads message port after s last (bytes_in result) → IfOk result (λ bytes. AcceptsAt first.key message bytes.items first.leaf)
  has-accepted is run = of-bytes result first.key message first.leaf
      (subst (λ (x : State). Accepted x message (bytes_in result)) is (run-accepted desk reads message port s run.talks last (bytes_in result) run.run run.same))

-- a call for which there was no memory dialled nobody
pub run-none : (desk : DeskState) (reads : CellsRead) (message : List ℕ) (port : PortState) (s : State) → reads.before ≤ reads.now → HasRun desk reads message port port s s (Err NoMemory)
run-none desk reads message port s later = record {
  talks = [];
  lasts = [];
  ended = tt;
  hung_up = λ _. sym (append-nil _);
  run = no_memory;
  same = record { key = refl; plan = refl; leaf = refl; message = refl };
  later = later;
  rises = λ some. absurd (some refl);
  counts = record { once = omega arith; same = λ _. omega arith };
}
