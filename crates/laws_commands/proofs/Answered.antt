-- A request for which all is well comes to the undivided key's signature, or memory ran out, or the pass is worn.
use Rattle.std.proofs.Common.{◌≡◌, ◌^◌, ◌≤◌, ◌<◌, ◌++◌, ℕ, List, All, None, Result, Ok, Err, IsTrue, IsSomeAnd, length, inl, inr, refl, sym, ap, subst, ◌∙◌, arith}
use Rattle.aggregator_session.proofs.Telling.{sign-tell}
use Rattle.aggregator_session.specs.Addresses.{place_of}
use Rattle.aggregator_session.specs.Desks.{DeskState}
use Rattle.aggregator_session.specs.Faults.{LostBy}
use Rattle.aggregator_session.specs.Runs.{CellsRead}
use Rattle.aggregator_session.specs.declared.fault.SignFault.{SignFault}
use Rattle.aggregator_session.specs.declared.fault.SignFault.TheVariants as sign
use Rattle.aggregator_session.specs.declared.fault.Why.TheVariants.{DialFailed}
use Rattle.laws_commands.specs.Requests.{IsComplete, IsDealtDesk, IsDealtTable, IsWell, RanWith, answer, no_memory, signed, worn}
use Rattle.laws_signing.proofs.Ended.{all-gave-before}
use Rattle.laws_commands.proofs.Desks.{key-is, leaves-are, places, plan-is, tree-same}
use Rattle.laws_commands.proofs.LeaseTurns.{TurnFinds, turn-finds, turn_bare, turn_failed, turn_found, turn_worn}
use Rattle.aggregator_node.specs.Clients.{IsExact, IsSigned, Request, Stand}
use Rattle.aggregator_node.specs.Signing.{SignsInTurns}
use Rattle.aggregator_node.specs.Signing as signing
use Rattle.aggregator_node.specs.Ports.{Place}
use Rattle.aggregator_node.proofs.PortTurns.{signs-device}
use Rattle.coalition_map.specs.Coalitions.{IsLeafAfter, coalition, leaf_members}
use Rattle.leaf_table.specs.Leasing.{IsCoalition, LeaseOf}
use Rattle.leaf_table.specs.declared.faults.TableFault.TheVariants.{Device}
use Rattle.leaf_table.specs.declared.lease.Lease.{Lease}
use Rattle.leaf_table.specs.declared.table.TableName.{TableName}
use Rattle.aggregator_session.specs.Signing.{RunsOn, Signature, signed_with}
use Rattle.aggregator_session.specs.Signing as sessions
use Rattle.lms_bytes.specs.MessageId.{message_id, message_id_bytes}
use Rattle.lms_bytes.specs.declared.message.MessageId.{MessageId}
use Rattle.lms_bytes.specs.declared.public_key.PublicKey.{PublicKey}
use Rattle.lms_verify.specs.UndividedKey.{UndividedKey, public_key_of}
use Rattle.reference_value.specs.Dealing.{Dealing}
use Rattle.reference_value.proofs.Reference.{length-reference}
use Rattle.session_core.specs.State.{State, started}
use Rattle.session_core.specs.declared.faults.SessionFault.TheVariants.{Reference}
use Rattle.mask_prf.specs.Lengths.{leaves_length}
use Rattle.share_files.specs.declared.reference.RefHeader.{RefHeader}
use Rattle.laws_signing.specs.Answering.{AllGave}
use Rattle.laws_signing.proofs.Sessions.{IsReady, session-goes}
use Rattle.stream_io.specs.Net.{PortState}
use Rattle.stream_io.specs.Talk.{Talk}
use Rattle.tool_base.specs.World.{StoreRun}
use Rattle.tool_words.specs.Words.{AggregateWords}
use Rattle.turn_lock.specs.Pass.{Seen}

abbrev broken : SignFault → Result Signature SignFault
broken fault = Err fault

lost-in : (leaf : ℕ) (result : Result (List ℕ) SignFault) → LostBy DialFailed result → LostBy DialFailed (signed_with leaf result)
lost-in leaf (Ok bytes) lost = lost
lost-in leaf (Err fault) lost = lost

module _ (words : AggregateWords) (store : StoreRun) (d : Dealing) (key : UndividedKey) (header : RefHeader) (desk : DeskState) (place : Place)
    (dealt : IsDealtDesk words store d key header desk place) where
  abbrev public : PublicKey
  public = public_key_of key

  module _ (reads : CellsRead) (told : reads.told ≡ place.reference.told) (read_is : IsTrue place.reference.told → reads.leaves ≡ place.reference.leaves) (members message : List ℕ) (c : ℕ)
      (of : IsCoalition d.plan members c) (limit : length message ≤ 16777216) (placed : All (λ t. place_of desk.addresses t ≡ None → ⊥) members) where
    abbrev id : MessageId
    id = message_id message

    abbrev Complete : Seen Lease TableName → Result Signature SignFault → Type 0
    Complete new outcome = IsComplete d key message new outcome

    reads-told : IsTrue place.reference.told
    reads-told = dealt.reads.told dealt.made.told

    own-members : (leaf : ℕ) → IsLeafAfter d.plan c None leaf → leaf_members d.plan leaf ≡ members
    own-members leaf own = ap (coalition d.plan) own.own ∙ of.members_are

    -- the session has what the dealer made
    is-ready : (leaf : ℕ) → IsLeafAfter d.plan c None leaf → IsReady d key public leaf message reads desk.tree
    is-ready leaf own = record {
      of = record {
        plan_is = dealt.made.dealing.plan;
        plan = refl;
        params = dealt.made.dealing.own.params;
        id = dealt.made.dealing.own.id;
        root_is = refl;
        key_params = dealt.made.dealing.own.params;
        key_id = dealt.made.dealing.own.id;
        key_seed = dealt.made.dealing.own.seed;
      };
      height = dealt.made.dealing.height;
      leaf_is = subst (λ (h : ℕ). leaf < 2 ^ h) dealt.made.dealing.height own.leaf;
      told = subst (λ b. IsTrue b) (sym told) reads-told;
      leaves_are = read_is reads-told ∙ leaves-are words store d key header desk place dealt;
      tree_is = tree-same words store d key header desk place dealt;
    }

    start-is : (leaf : ℕ) → started desk.key desk.plan leaf id ≡ started public d.plan leaf id
    start-is leaf = rw (key-is words store d key header desk place dealt, plan-is words store d key header desk place dealt) refl

    -- a session of this leaf
    runs-complete : (leaf : ℕ) (new : Seen Lease TableName) (port now : PortState) (result : Result (List ℕ) SignFault) → IsLeafAfter d.plan c None leaf → IsTrue port.told
        → RunsOn desk reads leaf message port now result → (LostBy DialFailed result → ⊥) → (result ≡ Err (sign.Session Reference) → ⊥)
        → ((talks : List Talk) → now.talks ≡ port.talks ++ talks → AllGave d (started public d.plan leaf id) message members talks) → Complete new (signed_with leaf result)
    runs-complete leaf new port now result own tells (sessions.not_started unread) dials read gave = answer no_memory
    runs-complete leaf new port now result own tells (sessions.ran after last r has ends) dials read gave =
        let begins : State = started desk.key desk.plan leaf id in
        let lasts : AllGave d (started public d.plan leaf id) message (leaf_members d.plan leaf) has.lasts =
        subst (λ (l : List ℕ). AllGave d (started public d.plan leaf id) message l has.lasts) (sym (own-members leaf own)) (gave has.lasts (has.hung_up tells)) in
        let tell = sign-tell desk reads message port begins last has.talks result has.run tells in
        let all = all-gave-before d (started public d.plan leaf id) message (leaf_members d.plan leaf) has.talks has.lasts tell has.ended lasts in
        let there = subst (λ (l : List ℕ). All (λ t. place_of desk.addresses t ≡ None → ⊥) l) (sym (own-members leaf own)) placed in
        let goes = session-goes d key public leaf message reads desk (is-ready leaf own) port tells there begins last has.talks result has.run (start-is leaf) dials read all in
        elim goes [
          | inl none ↦ subst (λ (r : Result (List ℕ) SignFault). Complete new (signed_with leaf r)) (sym none) (answer no_memory)
          | inr made ↦ subst (λ (r : Result (List ℕ) SignFault). Complete new (signed_with leaf r)) (sym made) (answer (signed leaf))
        ]

    refused-complete : (new : Seen Lease TableName) (result : Result ℕ SignFault) (fault : SignFault) → TurnFinds d.plan members id c of new result → result ≡ Err fault
        → (fault ≡ sign.Table Device → ⊥) → (LeaseOf d.plan new.log c (message_id_bytes id) None → ⊥) → Complete new (Err fault)
    refused-complete new result fault (turn_found leaf own) is disk left = absurd (cc)
    refused-complete new result fault (turn_bare number bare) is disk left = absurd (left bare)
    refused-complete new result fault turn_failed is disk left = absurd (disk (let same : fault ≡ sign.Table Device = cc in same))
    refused-complete new result fault (turn_worn large) is disk left =
        let same : fault ≡ sign.Worn = cc in
        subst (λ (f : SignFault). Complete new (Err f)) (sym same) (worn refl large)

    found-own : (new : Seen Lease TableName) (result : Result ℕ SignFault) (leaf : ℕ) → TurnFinds d.plan members id c of new result → result ≡ Ok leaf → IsLeafAfter d.plan c None leaf
    found-own new result leaf (turn_found other own) is = let same : other ≡ leaf = cc in subst (λ (q : ℕ). IsLeafAfter d.plan c None q) same own
    found-own new result leaf (turn_bare number bare) is = absurd (cc)
    found-own new result leaf turn_failed is = absurd (cc)
    found-own new result leaf (turn_worn large) is = absurd (cc)

    pub signs-complete : (old new : Seen Lease TableName) (port now : PortState) (outcome : Result Signature SignFault)
        → (signs : SignsInTurns (record { desk = desk; reads = reads; members = members; message = message }) old port new now outcome)
        → IsSomeAnd old.name (λ (name : TableName). (name.plan ≡ d.plan) × IsTrue name.told) → IsTrue port.told → (outcome ≡ Err (sign.Table Device) → ⊥)
        → (LeaseOf d.plan new.log c (message_id_bytes id) None → ⊥) → (LostBy DialFailed outcome → ⊥) → (outcome ≡ Err (sign.Session Reference) → ⊥)
        → ((leaf : ℕ) (talks : List Talk) → RanWith leaf signs → now.talks ≡ port.talks ++ talks → AllGave d (started public d.plan leaf id) message members talks)
        → Complete new outcome
    signs-complete old new port now outcome (signing.too_long long unread) fits tells disk left dials read gave = absurd (omega (arith, long, limit))
    signs-complete old new port now outcome (signing.not_leased after fault short unread turn) fits tells disk left dials read gave =
        refused-complete new (Err fault) fault (turn-finds d.plan members id c of old new (Err fault) fits turn) refl (λ is. disk (ap broken is)) left
    signs-complete old new port now outcome (signing.leased leaf mid after later result short turn runs burns) fits tells disk left dials read gave =
        let own = found-own mid (Ok leaf) leaf (turn-finds d.plan members id c of old mid (Ok leaf) fits turn) refl in
        runs-complete leaf new port now result own tells runs (λ lost. dials (lost-in leaf result lost)) (λ is. read (ap (signed_with leaf) is)) (λ talks is. gave leaf talks refl is)

  -- a steady reference of the dealing gives what it has
  is-exact : IsTrue place.reference.steady → IsExact desk place.reference
  is-exact steady = record {
    steady = steady;
    told = dealt.reads.told dealt.made.told;
    whole =
        ap length (leaves-are words store d key header desk place dealt)
        ∙ (length-reference d dealt.made.dealing.plan ∙ (λ i. leaves_length (sym dealt.made.dealing.own.params i) (sym (plan-is words store d key header desk place dealt) i))
        ∙ ap (λ (k : PublicKey). leaves_length k.params desk.plan) (sym (key-is words store d key header desk place dealt)));
  }

  pub request-complete : (old new : Stand) (request : Request) → IsDealtTable d old.pass → (s : IsSigned desk place.reference old new request) → IsWell words d key s
      → IsComplete d key request.message new.pass request.outcome
  request-complete old new request fits s well =
      let has = well.leaf in
      let none = well.failed in
      signs-complete _ refl (λ is. s.read_is is) request.members request.message has.number has.coalition has.limit (places words store d key header desk place dealt request.members has.placed)
      old.pass new.pass old.port new.port request.outcome s.signs fits none.port (λ is. none.disk (signs-device _ _ _ _ _ _ s.signs is)) has.left
      (λ lost. none.links (s.port.dialled lost)) (λ is. elim none.reference_is [
        | inl steady ↦ s.succeeds (is-exact steady) is
        | inr quiet ↦ quiet (s.rises is)
      ]) well.given
