-- What signing with the table comes to if all is well: the undivided key's signature, or want of memory.
use Rattle.std.proofs.Common.{◌≡◌, ◌≢◌, ◌⊎◌, ◌++◌, ◌+◌, ◌-◌, ◌^◌, ◌<◌, ◌≤◌, min, ℕ, zero, suc, true, false, List, All, IsTrue, Some, None, Result, Ok, Err, length, refl, sym, ap, subst, ◌∙◌, inl, inr, arith}
use Rattle.aggregator_session.proofs.Telling.{sign-tell}
use Rattle.aggregator_session.specs.Addresses.{place_of}
use Rattle.aggregator_session.specs.Desks.{DeskState}
use Rattle.aggregator_session.specs.Faults.{LostBy}
use Rattle.aggregator_session.specs.Runs.{SignRun}
use Rattle.aggregator_session.specs.declared.fault.SignFault.{SignFault}
use Rattle.aggregator_session.specs.declared.fault.SignFault.TheVariants.{NoMemory, Session}
use Rattle.aggregator_session.specs.declared.fault.Why.TheVariants.{DialFailed}
use Rattle.coalition_map.specs.Coalitions.{PlanNumbers, coalition, leaf_members}
use Rattle.disk_trait.specs.Faults.{Rose}
use Rattle.leaf_table.specs.Leasing.{LeaseOf, Leases}
use Rattle.leaf_table.specs.declared.faults.TableFault.{TableFault}
use Rattle.leaf_table.specs.declared.faults.TableFault.TheVariants.{Device}
use Rattle.leaf_table.specs.declared.lease.Lease.{Lease}
use Rattle.aggregator_session.specs.Signing.{RunsOn, Signature, SignsLeased, leased, not_leased, not_started, ran, signed_with, too_long}
use Rattle.aggregator_session.specs.Tables.{Entered, TableSeen}
use Rattle.lms_bytes.specs.MessageId.{message_id, message_id_bytes}
use Rattle.lms_bytes.specs.declared.public_key.PublicKey.{PublicKey}
use Rattle.lms_verify.specs.UndividedKey.{UndividedKey, public_key_of, rfc_signature}
use Rattle.reference_value.specs.Dealing.{Dealing, leaf_randomizer, reference}
use Rattle.session_core.specs.State.{State, started}
use Rattle.session_core.specs.declared.faults.SessionFault.TheVariants.{Reference}
use Rattle.slot_file.specs.Copies.{is_damaged}
use Rattle.slot_file.specs.Layout.{load_fault, slot_at}
use Rattle.stream_io.specs.Net.{PortState}
use Rattle.stream_io.specs.Talk.{Talk}
use Rattle.tool_base.specs.Ending as ending
use Rattle.tool_base.specs.Ending.{Ending}
use Rattle.tool_base.specs.World.{StoreRun, file_limit}
use Rattle.tool_desk.specs.Files.{reference_name}
use Rattle.tool_sign.specs.Members.{members_placed}
use Rattle.tool_base.specs.Loads.{FailsToLoad, damaged, device, no_memory, other_file}
use Rattle.tool_sign.specs.Ports.{NetRun, SignedOver, Signing, answer_of, sign_of}
use Rattle.tool_sign.specs.Signs.{SignedTable, TableEnds}
use Rattle.tool_sign.specs.Signs as signs
use Rattle.tool_sign.specs.Tables.{IsTable, table_header}
use Rattle.tool_sign.specs.Sign.{session_words}
use Rattle.tool_sign.specs.Tasks.{IsTask, message_in}
use Rattle.tool_words.specs.Words.{SignWords}
use Rattle.laws_signing.specs.AllIsWell.{AllIsWell, IsQuiet}
use Rattle.laws_signing.specs.Answering.{AllGave}
use Rattle.laws_signing.proofs.Ended.{all-gave-before}
use Rattle.laws_signing.proofs.Dialling.{all-placed}
use Rattle.laws_signing.proofs.FilesRead.{device-not, read-not, same-file}
use Rattle.laws_signing.proofs.Leaves.{lease-own, leases-well, one-table}
use Rattle.tool_base.proofs.Parses.{one-reference}
use Rattle.laws_signing.proofs.Sessions.{IsReady, session-goes}
use Rattle.laws_signing.proofs.Tasks.{AreDealt, are-dealt, id-length}

-- what was added to a count that did not rise was nothing
none-added : (before after more : ℕ) → IsQuiet before after → min (before + more) (2 ^ 64 - 1) ≤ after → more ≡ 0
none-added before after zero quiet rise = refl
none-added before after (suc more) quiet rise =
    let rose : Rose before after = omega arith in
    absurd (quiet rose)

-- a count of nothing has not risen
none-rose : (before now : ℕ) → now ≡ 0 → Rose before now → ⊥
none-rose before now is rose = absurd (omega arith)

-- a count that is not other than nothing
is-none : (n : ℕ) → (n ≢ 0 → ⊥) → n ≡ 0
is-none zero quiet = refl
is-none (suc n) quiet = absurd (quiet (λ same. absurd (omega arith)))

lost-in : (leaf : ℕ) (result : Result (List ℕ) SignFault) → LostBy DialFailed result → LostBy DialFailed (signed_with leaf result)
lost-in leaf (Ok bytes) lost = lost
lost-in leaf (Err fault) lost = lost

-- the outcome of a fault
abbrev broken : SignFault → Result Signature SignFault
broken fault = Err fault

unread-in : (leaf : ℕ) (result : Result (List ℕ) SignFault) → result ≡ Err (Session Reference) → signed_with leaf result ≡ broken (Session Reference)
unread-in leaf result is = ap (signed_with leaf) is

module _ (words : SignWords) (store : StoreRun) (net : NetRun) (d : Dealing) (key : UndividedKey) (message : List ℕ) (leaf : ℕ) (well : AllIsWell words store net d key message leaf) (signing : Signing)
    (task : IsTask (session_words words) store (message_in store words.message) signing) where
  abbrev public : PublicKey
  public = public_key_of key

  abbrev told : IsTrue store.before.told
  told = well.fails.store_told

  are : AreDealt d key well.dealing words store net message well.fails well.files task.files task.header
  are = are-dealt d key well.dealing words store net message well.fails well.files task.files task.header task.has

  pub key-is : signing.desk.key ≡ public
  key-is = ap (λ (k : DeskState). k.key) task.desk ∙ are.key_is

  plan-is : signing.desk.plan ≡ d.plan
  plan-is = ap (λ (k : DeskState). k.plan) task.desk ∙ are.plan_is

  message-is : signing.message ≡ message
  message-is = same-file store words.message signing.message message (task.goes.message_is.1 told) well.files.message_is

  leaf-own : leaf_members d.plan leaf ≡ members_placed words.places
  leaf-own =
      let own = lease-own d.plan well.leased.entries well.leased.number (message_id_bytes (message_id message)) (Some leaf) leaf well.leased.leaf_is refl in
      ap (coalition d.plan) own.own ∙ well.leased.coalition.members_are

  abbrev signature : List ℕ
  signature = rfc_signature key leaf (leaf_randomizer d leaf) message

  abbrev written : Result Signature SignFault
  written = Ok (record { leaf = leaf; bytes = signature })

  -- the undivided key's signature, or want of memory
  abbrev pub Well : Result Signature SignFault → Type 0
  Well outcome = (outcome ≡ broken NoMemory) ⊎ (outcome ≡ written)

  table-is : (plan : PlanNumbers) (k : PublicKey) (entries : List Lease) (file : List ℕ) → plan ≡ d.plan → k ≡ public → store.before.file words.table ≡ Some file
      → IsTable (table_header k) plan entries file → entries ≡ well.leased.entries
  table-is plan k entries file plan_same key_same is table =
      let here = subst (λ (p : PlanNumbers). IsTable (table_header public) p entries file) plan_same (subst (λ (x : PublicKey). IsTable (table_header x) plan entries file) key_same table) in
      let file_same = same-file store words.table well.leased.file file well.leased.file_is is in
      one-table (table_header public) d.plan entries well.leased.entries file here (subst (λ (f : List ℕ). IsTable (table_header public) d.plan well.leased.entries f) file_same well.leased.table)

  -- the session has what the dealer made
  is-ready : IsReady d key public leaf message signing.reads signing.desk.tree
  is-ready =
      let view = task.reads.leaves in
      let layout = view.is told in
      let same = one-reference task.header d.params d.plan d.id signing.reads.leaves (reference d) view.file (id-length d key well.dealing) layout.parts
      (same-file store (reference_name words.prefix) view.file _ (view.is_read told) well.files.reference_is) in
      let own = lease-own d.plan well.leased.entries well.leased.number (message_id_bytes (message_id message)) (Some leaf) leaf well.leased.leaf_is refl in
      record {
        of = record {
          plan_is = well.dealing.plan;
          plan = refl;
          params = well.dealing.own.params;
          id = well.dealing.own.id;
          root_is = refl;
          key_params = well.dealing.own.params;
          key_id = well.dealing.own.id;
          key_seed = well.dealing.own.seed;
        };
        height = well.dealing.height;
        leaf_is = subst (λ (h : ℕ). leaf < 2 ^ h) well.dealing.height own.leaf;
        told = task.reads.told told;
        leaves_are = same.file.same_rest;
        tree_is = ap (λ (k : DeskState). k.tree) task.desk ∙ are.nodes;
      }

  module _ (old new : TableSeen) (outcome : Result Signature SignFault) (over : SignedOver signing old new net outcome) where
    quiet-port : over.done.count ≡ 0
    quiet-port = is-none over.done.count (λ some. well.fails.links (over.count.rose some))

    dials-not : LostBy DialFailed outcome → ⊥
    dials-not lost = none-rose over.port.count over.done.count quiet-port (over.dialled.dialled lost)

    reads-not : outcome ≡ broken (Session Reference) → ⊥
    reads-not is = elim well.fails.store_holds [
      | inl steady ↦ over.unread.succeeds (task.reads.exact told steady) is
      | inr quiet ↦ none-rose signing.reads.before signing.reads.now (none-added store.before.disk_count store.after.disk_count signing.reads.now quiet.1 task.reads.rise) (over.unread.rises is)
    ]

    -- what the links of the session gave
    gave : (talks : List Talk) → over.done.talks ≡ talks → AllGave d (started public d.plan leaf (message_id message)) message (leaf_members d.plan leaf) talks
    gave talks is =
        let all = well.answered over.done (over.kept well.fails.net_told) in
        subst (λ (l : List Talk). AllGave d (started public d.plan leaf (message_id message)) message (leaf_members d.plan leaf) l) is
        (subst (λ (l : List ℕ). AllGave d (started public d.plan leaf (message_id message)) message l over.done.talks) (sym leaf-own) all)

    places : All (λ t. place_of signing.desk.addresses t ≡ None → ⊥) (leaf_members d.plan leaf)
    places = all-placed signing.desk.addresses _ (leaf_members d.plan leaf) task.goes.addresses_are (sym leaf-own)

    start-is : started signing.desk.key signing.desk.plan leaf (message_id signing.message) ≡ started public d.plan leaf (message_id message)
    start-is = rw (key-is, plan-is, message-is) refl

    runs-well : (result : Result (List ℕ) SignFault) (now : PortState) → over.done ≡ now → outcome ≡ signed_with leaf result → RunsOn signing.desk signing.reads leaf signing.message over.port now result
        → Well (signed_with leaf result)
    runs-well result now is same (not_started idle) = inl refl
    runs-well result now is same (ran after last r has ends) =
        let port_told = over.made.told well.fails.net_told in
        let lasts : over.done.talks ≡ has.lasts = ap (λ (p : PortState). p.talks) is ∙ (has.hung_up port_told ∙ ap (λ (l : List Talk). l ++ has.lasts) over.made.talks) in
        let begins : State = started signing.desk.key signing.desk.plan leaf (message_id signing.message) in
        let run = subst (λ (m : List ℕ). SignRun signing.desk signing.reads m over.port begins has.talks last result) message-is has.run in
        let tell = sign-tell signing.desk signing.reads message over.port begins last has.talks result run port_told in
        let answers = all-gave-before d (started public d.plan leaf (message_id message)) message (leaf_members d.plan leaf) has.talks has.lasts tell has.ended (gave has.lasts lasts) in
        let goes = session-goes d key public leaf message signing.reads signing.desk is-ready over.port port_told places begins last has.talks result run start-is
        (λ lost. dials-not (subst (λ (o : Result Signature SignFault). LostBy DialFailed o) (sym same) (lost-in leaf result lost)))
        (λ unread. reads-not (same ∙ unread-in leaf result unread)) answers in
        elim goes [
          | inl none ↦ inl (ap (signed_with leaf) none)
          | inr signed ↦ inr (ap (signed_with leaf) signed)
        ]

  module _ (outcome : Result Signature SignFault) (st : SignedTable signing words.table store net outcome) where
    no-device : (after : TableSeen) (answer : Result ℕ TableFault) → after ≡ st.new → Entered st.old after answer → answer ≡ Err Device → ⊥
    no-device after answer is entered device_is = elim well.fails.store_holds [
      | inl steady ↦ entered.succeeds (st.fresh.steady steady) (st.fresh.told told) device_is
      | inr quiet ↦
          let none = none-added store.before.disk_count store.after.disk_count st.new.faults quiet.1 st.rise in
          none-rose st.old.faults after.faults (ap (λ (t : TableSeen). t.faults) is ∙ none) (entered.cause.failed device_is)
    ]

    entries-are : st.old.state.entries ≡ well.leased.entries
    entries-are = table-is signing.desk.plan signing.desk.key st.old.state.entries st.table_is.file plan-is key-is (st.table_is.is_read told) (st.table_is.is told)

    old-leaf : LeaseOf d.plan st.old.state.entries well.leased.number (message_id_bytes (message_id message)) (Some leaf)
    old-leaf = subst (λ (e : List Lease). LeaseOf d.plan e well.leased.number (message_id_bytes (message_id message)) (Some leaf)) (sym entries-are) well.leased.leaf_is

    asked : (answer : Result ℕ TableFault) (after : TableSeen) → Leases st.old.name.plan st.old.state signing.members (message_id signing.message) answer after.state → (answer ≡ Ok leaf) ⊎ (answer ≡ Err Device)
    asked answer after leases =
        let plan : st.old.name.plan ≡ d.plan = st.fresh.plan_is ∙ plan-is in
        let here = subst (λ (p : PlanNumbers). Leases p st.old.state signing.members (message_id signing.message) answer after.state) plan leases in
        let there = subst (λ (m : List ℕ). Leases d.plan st.old.state m (message_id signing.message) answer after.state) task.goes.members_are here in
        let now = subst (λ (m : List ℕ). Leases d.plan st.old.state (members_placed words.places) (message_id m) answer after.state) message-is there in
        leases-well d.plan st.old.state after.state (members_placed words.places) (message_id message) answer well.leased.number leaf now st.fresh.doubt well.leased.coalition old-leaf

    signs-well : (new : TableSeen) (port now : PortState) (o : Result Signature SignFault) → new ≡ st.new → st.over.port ≡ port → st.over.done ≡ now → outcome ≡ o
        → SignsLeased (sign_of signing) st.old port new now o → Well o
    signs-well new port now o new_is port_is done_is is (too_long long idle) =
        let size : length signing.message ≡ length message = ap length message-is in
        let limit = well.files.limit in
        absurd (omega arith)
    signs-well new port now o new_is port_is done_is is (not_leased after fault limit idle asks) = elim (asked (Err fault) after asks.event) [
      | inl leaf_is ↦ absurd (cc)
      | inr device_is ↦ absurd (no-device after (Err fault) new_is asks.entered device_is)
    ]
    signs-well new port now o new_is port_is done_is is (leased q mid after later result limit asks runs spends) = elim (asked (Ok q) mid asks.event) [
      | inl leaf_is ↦
          let same : q ≡ leaf = cc in
          let here = subst (λ (p : PortState). RunsOn signing.desk signing.reads q signing.message p later result) (sym port_is) runs in
          let there = subst (λ (k : ℕ). RunsOn signing.desk signing.reads k signing.message st.over.port later result) same here in
          let own : outcome ≡ signed_with leaf result = is ∙ ap (λ (k : ℕ). signed_with k result) same in
          subst (λ (k : ℕ). Well (signed_with k result)) (sym same) (runs-well st.old st.new outcome st.over result later done_is own there)
      | inr device_is ↦ absurd (cc)
    ]

    pub table-signed : Well outcome
    table-signed = signs-well st.new st.over.port st.over.done outcome refl refl refl refl st.over.signs

  loads-well : (end : Ending) → FailsToLoad (table_header signing.desk.key) (2 ^ signing.desk.plan.h) store words.table end → end ≡ ending.NoMemory
  loads-well end fails =
      load-by end (subst (λ (p : PlanNumbers). FailsToLoad (table_header public) (2 ^ p.h) store words.table end) plan-is
      (subst (λ (k : PublicKey). FailsToLoad (table_header k) (2 ^ signing.desk.plan.h) store words.table end) key-is fails))
    where
      opens : load_fault (table_header public) (2 ^ d.plan.h) well.leased.file ≡ None
      opens = subst (λ (n : ℕ). load_fault (table_header public) n well.leased.file ≡ None) well.leased.table.many well.leased.table.has.opens

      sound : (slot : ℕ) → slot < 2 ^ d.plan.h → is_damaged (slot_at 1 slot well.leased.file) ≡ false
      sound slot lt = well.leased.table.has.sound slot (subst (λ (n : ℕ). slot < n) (sym well.leased.table.many) lt)

      load-by : (end : Ending) → FailsToLoad (table_header public) (2 ^ d.plan.h) store words.table end → end ≡ ending.NoMemory
      load-by end (other_file fault reads) =
          let same = same-file store words.table reads.file well.leased.file (reads.is_read told) well.leased.file_is in
          let found = (reads.is told).fault_is in
          let here : load_fault (table_header public) (2 ^ d.plan.h) reads.file ≡ None = ap (load_fault (table_header public) (2 ^ d.plan.h)) same ∙ opens in
          absurd (cc)
      load-by end (damaged reads) =
          let same = same-file store words.table reads.file well.leased.file (reads.is_read told) well.leased.file_is in
          let found = reads.is told in
          let here : is_damaged (slot_at 1 found.slot reads.file) ≡ false = ap (λ (f : List ℕ). is_damaged (slot_at 1 found.slot f)) same ∙ sound found.slot found.first.within in
          let there : is_damaged (slot_at 1 found.slot reads.file) ≡ true = ap is_damaged found.first.here in
          absurd (cc)
      load-by end (device fails) = absurd (device-not store told well.fails.store_holds fails)
      load-by end no_memory = refl

  abbrev unsigned : Ending → Result Signature Ending
  unsigned end = Err end

  -- if there is no signature, it is for want of memory
  pub table-ends : (answer : Result Signature Ending) (touched : List (List ℕ)) (end : Ending) → TableEnds signing words.table store net answer touched → answer ≡ unsigned end → end ≡ ending.NoMemory
  table-ends answer touched end (signs.no_table idle fails) is =
      absurd (read-not store told well.fails.store_holds file_limit words.table well.leased.file well.leased.file_is fails)
  table-ends answer touched end (signs.no_memory names idle stays) is = cc
  table-ends answer touched end (signs.not_loaded e idle fails stays) is =
      let same : e ≡ end = cc in
      sym same ∙ loads-well e fails
  table-ends answer touched end (signs.no_port entries idle reads rose never stays) is = elim well.fails.ports_hold [
    | inl steady ↦ absurd (never well.fails.net_told steady)
    | inr quiet ↦ absurd (quiet rose)
  ]
  table-ends answer touched end (signs.signed outcome st) is = elim (table-signed outcome st) [
    | inl none ↦
        let told_as : answer_of outcome ≡ unsigned ending.NoMemory = ap answer_of none in
        cc
    | inr signed ↦
        let told_as : answer_of outcome ≡ answer_of written = ap answer_of signed in
        absurd (cc)
  ]

  abbrev made_of : Signature → Result Signature Ending
  made_of made = Ok made

  -- if there is a signature, it is the undivided key's
  pub table-made : (answer : Result Signature Ending) (touched : List (List ℕ)) (made : Signature) → TableEnds signing words.table store net answer touched → answer ≡ made_of made
      → made ≡ record { leaf = leaf; bytes = signature }
  table-made answer touched made (signs.no_table idle fails) is = absurd (cc)
  table-made answer touched made (signs.no_memory names idle stays) is = absurd (cc)
  table-made answer touched made (signs.not_loaded e idle fails stays) is = absurd (cc)
  table-made answer touched made (signs.no_port entries idle reads rose never stays) is = absurd (cc)
  table-made answer touched made (signs.signed outcome st) is = elim (table-signed outcome st) [
    | inl none ↦
        let told_as : answer_of outcome ≡ unsigned ending.NoMemory = ap answer_of none in
        absurd (cc)
    | inr signed ↦
        let told_as : answer_of outcome ≡ answer_of written = ap answer_of signed in
        cc
  ]
