-- A session over the one port of a net.
use Rattle.std.proofs.Common.{◌≡◌, ◌≢◌, ◌++◌, ℕ, List, [], ◌∷◌, All, IfOk, IsTrue, Option, None, Result, Ok, Err, get_or, length, map, refl, sym, ap, ◌∙◌, set, subst, arith}
use Rattle.std.proofs.lemmas.List.Elements.{All-cons, All-head, All-nil}
use Rattle.aggregator_session.specs.declared.fault.SignFault.{SignFault}
use Rattle.aggregator_session.specs.declared.sign.Signed.{Signed}
use Rattle.disk_trait.specs.Faults.{Rose}
use Rattle.disk_trait.specs.declared.disk.Pages as pages
use Rattle.disk_trait.specs.declared.faults.Faults as faults
use Rattle.aggregator_session.specs.Causes.{PortCauses}
use Rattle.aggregator_session.specs.Ended.{LeasedTo}
use Rattle.aggregator_session.specs.Signing.{Signature, signature_in}
use Rattle.aggregator_session.specs.Tables.{TableSeen}
use Rattle.leaf_table.specs.Table.{Stays}
use Rattle.leaf_table.specs.declared.table.Table.{Table}
use Rattle.lms_verify.specs.Accepts.{AcceptsAt}
use Rattle.reference_value.specs.Stay.{CellsStay}
use Rattle.reference_value.specs.declared.cells.Cells as cells
use Rattle.session_core.specs.State.{State}
use Rattle.stream_io.specs.Net.{Gathers, IsNewPort, MakesPorts, NetOnward, NetState, PortState, SameNet, SomeFailed, SomeUnaccepted}
use Rattle.stream_io.specs.Store.{RisesWhere}
use Rattle.stream_io.specs.declared.call_fault.CallFault.{CallFault}
use Rattle.tool_base.proofs.Nets.{net_back}
use Rattle.tool_base.specs.Ending as ending
use Rattle.tool_base.specs.Ending.{Ending}
use Rattle.tool_base.specs.World.{IsNetBack}
use Rattle.tool_base.specs.declared.ending.Ending as declared
use Rattle.tool_sign.proofs.Ports.{accepted_as, causes_as}
use Rattle.tool_sign.specs.Ended.{NetTo, last_over}
use Rattle.tool_sign.specs.Ports.{IsIdle, IsUnread, NetRun, SignedOver, Signing, answer_of, no_memory, no_port, over_net, sign_of, signed}
use Rattle.tool_sign.specs.Signs.{answer_in}

-- what came of a call of the net
abbrev told_as : (T : Type 0) → CallFault → Result T CallFault
told_as T f = Err f

abbrev done_as : (T : Type 0) → T → Result T CallFault
done_as T made = Ok made

pub failed_as : (T : Type 0) (f g : CallFault) → f ≡ g → told_as T f ≡ told_as T g
failed_as T f g is = ap (told_as T) is

pub never_failed : (T : Type 0) (made : T) (f : CallFault) → done_as T made ≡ told_as T f → ⊥
never_failed T made f is = cc

module _ {P : Type 0} (f : P → PortState) where
  none-one : length (map f []) ≡ 1 → ⊥
  none-one many = omega (arith, many)

  more-one : (a b : P) (ports : List P) → length (map f (a ∷ b ∷ ports)) ≡ 1 → ⊥
  more-one a b ports many = omega (arith, many)

  pub one_before : (ports : List P) (other : P) → length (map f ports) ≡ 1 → map f ports ≡ f (get_or ports 0 other) ∷ []
  one_before [] other many = absurd (none-one many)
  one_before (port ∷ []) other many = refl
  one_before (a ∷ b ∷ ports) other many = absurd (more-one a b ports many)

  pub one_after : (ports : List P) (port : P) → length (map f ports) ≡ 1 → map f (set ports 0 port) ≡ f port ∷ []
  one_after [] port many = absurd (none-one many)
  one_after (other ∷ []) port many = refl
  one_after (a ∷ b ∷ ports) port many = absurd (more-one a b ports many)

  pub first_made : (ports : List P) (port : P) → length (map f ports) ≡ 1 → port ≡ get_or ports 0 port → map f ports ≡ f port ∷ []
  first_made ports port many is = one_before ports port many ∙ ap (λ one. f one ∷ []) (sym is)

  pub same_many : (ports : List P) (port : P) → length (map f ports) ≡ 1 → length (map f (set ports 0 port)) ≡ length (map f ports)
  same_many ports port many = ap length (one_after ports port many) ∙ sym many

-- what the counts of one port mean for those of a net
module _ (done : PortState) where
  abbrev is_counted : PortState → Type 0
  is_counted port = port.count ≡ 0

  abbrev is_accepted : PortState → Type 0
  is_accepted port = port.accept_count ≡ 0

  some_failed : done.count ≢ 0 → SomeFailed (done ∷ [])
  some_failed counted all = counted (All-head is_counted done [] all)

  none_failed : (done.count ≢ 0 → ⊥) → SomeFailed (done ∷ []) → ⊥
  none_failed never some = never (λ none. some (All-cons is_counted done [] none (All-nil is_counted)))

  some_unaccepted : done.accept_count ≢ 0 → SomeUnaccepted (done ∷ [])
  some_unaccepted counted all = counted (All-head is_accepted done [] all)

  none_unaccepted : (done.accept_count ≢ 0 → ⊥) → SomeUnaccepted (done ∷ []) → ⊥
  none_unaccepted never some = never (λ none. some (All-cons is_accepted done [] none (All-nil is_accepted)))

  rises_counted : (before mid now : ℕ) → mid ≡ before → RisesWhere (SomeFailed (done ∷ [])) mid now → RisesWhere (done.count ≢ 0) before now
  rises_counted before mid now same rises = record {
    later = let later = rises.later in omega (arith, later, same);
    rose = λ counted. subst (λ n. Rose n now) same (rises.rose (some_failed counted));
    same = λ never. rises.same (none_failed never) ∙ same;
  }

  rises_unaccepted : (before mid now : ℕ) → mid ≡ before → RisesWhere (SomeUnaccepted (done ∷ [])) mid now → RisesWhere (done.accept_count ≢ 0) before now
  rises_unaccepted before mid now same rises = record {
    later = let later = rises.later in omega (arith, later, same);
    rose = λ counted. subst (λ n. Rose n now) same (rises.rose (some_unaccepted counted));
    same = λ never. rises.same (none_unaccepted never) ∙ same;
  }

module _ (signing : Signing) (old new : TableSeen) (a b c : NetState) (port done : PortState) where
  -- what was signed over the port, and how the session stands at its end
  pub record SignedTo (outcome : Result Signature SignFault) (session : Option State) : Type 0 where
    pub over : SignedOver signing old new (over_net a c) outcome
    pub session_is : session ≡ last_over over

  -- what was signed over the port, which was made and came back
  pub over_one : (made returned : List PortState) (outcome : Result Signature SignFault) (session : Option State) → made ≡ port ∷ [] → returned ≡ done ∷ [] → MakesPorts a None 1 made b → Gathers b returned c
      → b.told ≡ a.told → b.count ≡ a.count → b.port_count ≡ a.port_count
      → LeasedTo (sign_of signing) old port new done outcome session
      → IfOk outcome (λ signature. AcceptsAt signing.desk.key signing.message signature.bytes signature.leaf) → PortCauses signing.message port done outcome → IsUnread signing outcome
      → SignedTo outcome session
  over_one made returned outcome session is back makes gathers told count port_count leased accepted causes unread =
      let gathered : Gathers b (done ∷ []) c = subst (λ ports. Gathers b ports c) back gathers in
      record {
        over = record {
          port = port;
          done = done;
          made = All-head (IsNewPort a None) port [] (subst (All (IsNewPort a None)) is makes.new_ports);
          signs = leased.signs;
          accepted = accepted;
          dialled = causes;
          unread = unread;
          kept = λ is_told. gathered.kept (rw told is_told) ∙ ap (λ kept. kept ++ (done ∷ [])) makes.kept;
          count = rises_counted done a.count b.count c.count count gathered.count;
          port_count = rises_unaccepted done a.port_count b.port_count c.port_count port_count gathered.port_count;
        };
        session_is = leased.session_is;
      }

  -- the same, by the answer of the call
  pub ends_over : (same : Type 0) (outcome : Result Signature SignFault) (session : Option State) (answer : Result Signature Ending) → answer ≡ answer_of outcome → SignedTo outcome session
      → NetTo signing same old new (over_net a c) answer session
  ends_over same outcome session answer is to = rw is (record { ends = signed outcome to.over; session_is = to.session_is })

-- nothing was begun over the net
module _ (signing : Signing) (same : Type 0) (old new : TableSeen) (net : NetRun) (answer : Result Signature Ending) (session : Option State) where
  pub had_none : answer ≡ Err ending.NoMemory → session ≡ None → same → IsIdle signing net → NetTo signing same old new net answer session
  had_none is none stays idle = rw is (record { ends = no_memory stays idle; session_is = none })

  pub had_no_port : answer ≡ Err ending.NetFailed → session ≡ None → same → IsIdle signing net → Rose net.before.port_count net.after.port_count
      → (IsTrue net.before.told → IsTrue net.before.steady → ⊥) → NetTo signing same old new net answer session
  had_no_port is none stays idle rose never = rw is (record { ends = no_port stays idle rose never; session_is = none })

-- the same, by the outcome of the call
module _ (signing : Signing) (same : Type 0) (old new : TableSeen) (net : NetRun) (outcome : Result Signed declared.Ending) (session : Option State) where
  pub none_had : outcome ≡ Err declared.TheVariants.NoMemory → session ≡ None → same → signing.reads.now ≡ signing.reads.before → SameNet net.before net.after
      → NetTo signing same old new net (answer_in outcome) session
  none_had is none stays reads ports = had_none signing same old new net (answer_in outcome) session (ap answer_in is) none stays (record { reads = reads; ports = ports })

  pub no_port_had : outcome ≡ Err declared.TheVariants.NetFailed → session ≡ None → same → signing.reads.now ≡ signing.reads.before → SameNet net.before net.after
      → Rose net.before.port_count net.after.port_count → (IsTrue net.before.told → IsTrue net.before.steady → ⊥) → NetTo signing same old new net (answer_in outcome) session
  no_port_had is none stays reads ports rose never = had_no_port signing same old new net (answer_in outcome) session (ap answer_in is) none stays (record { reads = reads; ports = ports }) rose never

-- the one port that was made is given back, as it then is
module _ {P : Type 0} (state : P → PortState) (a b c : NetState) (ports : List P) (done : P) where
  pub port_back : MakesPorts a None 1 (map state ports) b → NetOnward a b → Gathers b (map state (set ports 0 done)) c → NetOnward b c → IsNetBack a c
  port_back makes onward gathers later = net_back a b c None 1 (map state ports) (map state (set ports 0 done)) makes onward (same_many state ports done makes.many) gathers later

  module _ (port : P) (signing : Signing) (same : Type 0) (old new : TableSeen) (result : Result Signed SignFault) (session : Option State) (answer : Result Signature Ending) where
    pub port_over : port ≡ get_or ports 0 port → MakesPorts a None 1 (map state ports) b → NetOnward a b → b.count ≡ a.count → b.port_count ≡ a.port_count → Gathers b (map state (set ports 0 done)) c
        → LeasedTo (sign_of signing) old (state port) new (state done) (signature_in result) session
        → IfOk result (λ made. AcceptsAt signing.desk.key signing.message made.bytes.items made.leaf) → PortCauses signing.message (state port) (state done) result → IsUnread signing (signature_in result)
        → answer ≡ answer_of (signature_in result) → NetTo signing same old new (over_net a c) answer session
    port_over is makes onward count port_count gathers leased accepted causes unread told =
        ends_over signing old new a b c (state port) (state done) same (signature_in result) session answer told
        (over_one signing old new a b c (state port) (state done) (map state ports) (map state (set ports 0 done)) (signature_in result) session
        (first_made state ports port makes.many is) (one_after state ports done makes.many) makes gathers onward.told count port_count leased
        (accepted_as signing.desk.key signing.message result accepted) (causes_as signing.message (state port) (state done) result causes) unread)

-- ---- if nothing was changed
pub net_same : (a b : NetState) → SameNet a b → NetOnward a b → IsNetBack a b
net_same a b same onward = record { onward = onward; out = λ told. same.out }

pub table_same : {D : Type 0} {p : pages.Ghosts D} {f : faults.Ghosts D} (table : Table D p f) → Stays table table
table_same table = record { plan = refl; header = refl; disk = record { told = refl; honest = refl; steady = refl; room = refl; count = omega arith } }

pub cells_same : {C : Type 0} (c : cells.Ghosts C) (f : faults.Ghosts C) (own : C) → CellsStay c f own own
cells_same c f own = record { set = refl; plan = refl; told = refl; steady = refl; leaves = λ told. refl }
