-- Signing with a table of a store, from what signing over a net says.
use Rattle.std.proofs.Common.{◌≡◌, ◌^◌, Bool, List, [], ◌∷◌, ℕ, Option, None, Some, Result, Err, IsTrue, drop, refl, sym, ap, subst, ◌∙◌}
use Rattle.std.proofs.lemmas.List.Elements.{All-cons, All-nil}
use Rattle.aggregator_session.specs.declared.desk.Address.{Address}
use Rattle.aggregator_session.specs.declared.fault.SignFault.{SignFault}
use Rattle.aggregator_session.specs.declared.sign.Signed.{Signed}
use Rattle.coalition_map.specs.Coalitions.{PlanNumbers}
use Rattle.disk_trait.specs.declared.disk.Pages as pages
use Rattle.disk_trait.specs.declared.faults.Faults as faults
use Rattle.leaf_table.specs.Loaded.{IsLoaded}
use Rattle.leaf_table.specs.Table.{Holds, disk_of}
use Rattle.leaf_table.specs.Table as leaf_tables
use Rattle.leaf_table.specs.declared.table.Table.{Table}
use Rattle.leaf_table.specs.declared.table.TableName.{TableName}
use Rattle.lms_bytes.specs.declared.params.Params.{Params}
use Rattle.aggregator_session.specs.Signing.{Signature}
use Rattle.aggregator_session.specs.Tables.{TableSeen, table_seen}
use Rattle.session_core.specs.State.{State}
use Rattle.share_files.specs.declared.reference.RefHeader.{RefHeader}
use Rattle.slot_file.specs.declared.header.Header.{Header}
use Rattle.stream_io.specs.Net.{NetState}
use Rattle.stream_io.specs.Store.{Returned, SameStore, StoreOnward, StoreState, Taken, handed}
use Rattle.tool_base.proofs.Nets.{net_none}
use Rattle.tool_base.proofs.Outs.{keeps_unchanged, out_here, taken_out}
use Rattle.tool_base.specs.Ending.{Ending}
use Rattle.tool_base.specs.Endings as endings
use Rattle.tool_base.specs.World.{Failed, IsNetBack, IsRead, IsUnchanged, StoreRun, from_to}
use Rattle.tool_base.specs.declared.ending.Ending as declared
use Rattle.tool_base.specs.Disks.{Stays}
use Rattle.tool_sign.proofs.Leases.{lease-of}
use Rattle.tool_desk.specs.declared.files.KeyFiles.{KeyFiles}
use Rattle.tool_sign.proofs.Tables.{TableRefused, TableRound, disk_seen, same_disk, table_round}
use Rattle.tool_sign.specs.Ended.{NetTo, TableTo, last_in, last_over_net}
use Rattle.tool_sign.specs.Ports.{IsIdle, NetEnds, NetRun, SignedOver, Signing, is_exact, over_net, reads_on}
use Rattle.tool_sign.specs.Ports as ports
use Rattle.tool_sign.specs.Signs.{SignedTable, TableEnds, TableRun, answer_in, no_memory, no_port, no_table, not_loaded, signed}
use Rattle.tool_sign.specs.Tables.{table_header}
use Rattle.tool_sign.specs.Tasks.{desk_of}

module _ (signing : Signing) (name : List ℕ) (a e : StoreState) (net : NetRun) (same : Type 0) (old new : TableSeen)
    (round : TableRound a e name (table_header signing.desk.key) signing.desk.plan same old new) where
  abbrev table_signed : (outcome : Result Signature SignFault) → SignedOver signing old new net outcome → SignedTable signing name (from_to a e) net outcome
  table_signed outcome over = record {
    old = old;
    new = new;
    fresh = round.fresh;
    table_is = round.table_is;
    name_is = round.name_is;
    over = over;
    left = round.left;
    sure = round.sure;
    rise = round.rise;
    lease = lease-of signing name (from_to a e) old new over.port over.done outcome round.fresh.plan_is round.left round.rise over.signs;
  }

  -- how it ends, and how the session stands then
  pub record EndsTo (answer : Result Signature Ending) (session : Option State) : Type 0 where
    pub ends : TableEnds signing name (from_to a e) net answer (name ∷ [])
    pub session_is : session ≡ last_in ends

  ends_to : (answer : Result Signature Ending) (session : Option State) (ends : NetEnds signing same old new net answer) → session ≡ last_over_net ends → EndsTo answer session
  ends_to _ session (ports.no_memory is idle) last = record { ends = no_memory (name ∷ []) idle (All-cons (Stays (from_to a e)) name [] (round.stays is) (All-nil (Stays (from_to a e)))); session_is = last }
  ends_to _ session (ports.no_port is idle rose never) last = record { ends = no_port old.state.entries idle round.table_is rose never (round.stays is); session_is = last }
  ends_to _ session (ports.signed outcome over) last = record { ends = signed outcome (table_signed outcome over); session_is = last }

  pub ends_whole : (answer : Result Signature Ending) (session : Option State) → NetTo signing same old new net answer session → EndsTo answer session
  ends_whole answer session to = ends_to answer session to.ends to.session_is

-- no session was begun
pub unbegun_to : {signing : Signing} {table : List ℕ} {store : StoreRun} {net : NetRun} {answer : Result Signature Ending} {session : Option State} {end : Ending} → answer ≡ Err end → session ≡ None
    → (run : TableRun signing table store net (Err end)) → last_in run.ends ≡ None → TableTo signing table store net answer session
unbegun_to is none run last = rw is (record { run = run; session_is = none ∙ sym last })

abbrev name_with : Header → PlanNumbers → Bool → Bool → Bool → TableName
name_with header plan told honest steady = record { header = header; plan = plan; told = told; honest = honest; steady = steady }

pub same_name : {h k : Header} {p q : PlanNumbers} {a b c d e f : Bool} → h ≡ k → p ≡ q → a ≡ b → c ≡ d → e ≡ f → name_with h p a c e ≡ name_with k q b d f
same_name header plan told honest steady = cc

-- no call changes what tells a table from others
pub name_stays : {D : Type 0} {p : pages.Ghosts D} {f : faults.Ghosts D} (old new : Table D p f) → leaf_tables.Stays old new → (table_seen new).name ≡ (table_seen old).name
name_stays old new stays = same_name stays.header stays.plan stays.disk.told stays.disk.honest stays.disk.steady

idle_at : (signing : Signing) (net : NetState) → signing.reads.now ≡ signing.reads.before → IsIdle signing (over_net net net)
idle_at signing net reads = record { reads = reads; ports = record { offers = refl; out = refl; kept = refl } }

-- no session was begun: the disk of the table was not obtained
module _ (signing : Signing) (name : List ℕ) (a e : StoreState) (net : NetState) (outcome : Result Signed declared.Ending) (session : Option State) where
  pub no_table_to : outcome ≡ Err declared.TheVariants.StoreFailed → session ≡ None → signing.reads.now ≡ signing.reads.before → SameStore a e → StoreOnward a e → IsRead (from_to a e) name Failed
      → TableTo signing name (from_to a e) (over_net net net) (answer_in outcome) session
  no_table_to is none reads same onward failed =
      let unchanged : IsUnchanged a e = record { same = same; onward = onward } in
      unbegun_to (ap answer_in is) none (record { touched = []; ends = no_table (idle_at signing net reads) failed; keeps = keeps_unchanged [] a e unchanged; ports = net_none net }) refl

  pub no_room_to : outcome ≡ Err declared.TheVariants.NoMemory → session ≡ None → signing.reads.now ≡ signing.reads.before → SameStore a e → StoreOnward a e
      → TableTo signing name (from_to a e) (over_net net net) (answer_in outcome) session
  no_room_to is none reads same onward =
      let unchanged : IsUnchanged a e = record { same = same; onward = onward } in
      unbegun_to (ap answer_in is) none (record { touched = []; ends = no_memory [] (idle_at signing net reads) (All-nil (Stays (from_to a e))); keeps = keeps_unchanged [] a e unchanged; ports = net_none net }) refl

  -- or the table was not loaded
  pub refused_to : (end : declared.Ending) → outcome ≡ Err end → session ≡ None → signing.reads.now ≡ signing.reads.before
      → TableRefused a e name (table_header signing.desk.key) (2 ^ signing.desk.plan.h) (endings.ending end) → TableTo signing name (from_to a e) (over_net net net) (answer_in outcome) session
  refused_to end is none reads refused =
      unbegun_to (ap answer_in is) none
      (record { touched = name ∷ []; ends = not_loaded (endings.ending end) (idle_at signing net reads) refused.fails refused.stays; keeps = refused.keeps; ports = net_none net }) refl

-- the table was loaded, and its disk is given back
module _ {D : Type 0} (p : pages.Ghosts D) (f : faults.Ghosts D) (first mid last : StoreState) (name : List ℕ) (header : Header) (disk now : D) (old new : Table D p f) where
  pub out_again : (plan : PlanNumbers) → IsLoaded p f header plan disk old → leaf_tables.Stays old new → now ≡ disk_of new → Taken first name (disk_seen p f disk) mid → StoreOnward first mid
      → IsTrue mid.told → mid.out name ≡ Some (handed (disk_seen p f now))
  out_again plan loaded stays is taken goes told =
      out_here first mid name (disk_seen p f disk) (taken_out first mid name (disk_seen p f disk) taken goes) told ∙ ap Some (same_disk p f header plan disk now old new loaded (name_stays old new stays) is)

  pub signed_to : (signing : Signing) (net : NetRun) (answer : Result Signature Ending) (session : Option State) → header ≡ table_header signing.desk.key → IsLoaded p f header signing.desk.plan disk old
      → leaf_tables.Stays old new → now ≡ disk_of new → Holds new → Taken first name (disk_seen p f disk) mid → StoreOnward first mid → Returned mid name (disk_seen p f now) last → StoreOnward mid last
      → NetTo signing (new ≡ old) (table_seen old) (table_seen new) net answer session → IsNetBack net.before net.after → TableTo signing name (from_to first last) net answer session
  signed_to signing net answer session header_is loaded stays is holds taken goes step comes to returned =
      let read = subst (λ (h : Header). IsLoaded p f h signing.desk.plan disk old) header_is loaded in
      let round = table_round p f (table_header signing.desk.key) signing.desk.plan disk now old new read (name_stays old new stays) is holds first mid last name taken goes step comes in
      let whole = ends_whole signing name first last net (new ≡ old) (table_seen old) (table_seen new) round answer session to in
      record { run = record { touched = name ∷ []; ends = whole.ends; keeps = round.keeps; ports = returned }; session_is = whole.session_is }

-- the reference is read from a view
module _ {V : Type 0} (p : pages.Ghosts V) (f : faults.Ghosts V) (files : KeyFiles) (header : RefHeader) (given : List Address) (members message : List ℕ) (view last : V)
    (set : Params) (plan : PlanNumbers) (before now : V) (addresses : List Address) (bytes : List ℕ) where
  pub viewed_to : set ≡ files.key.params → plan ≡ header.plan → before ≡ view → last ≡ now → addresses ≡ given → bytes ≡ message
      → (table : List ℕ) (store : StoreRun) (net : NetRun) (got answer : Result Signature Ending) (session : Option State) → answer ≡ got
      → TableTo (record {
        desk = record { key = files.key; plan = header.plan; tree = files.tree.nodes; addresses = addresses };
        reads = reads_on p f before now;
        exact = is_exact (p.told before) (f.steady before) (drop 32 (p.reads before)) set plan;
        members = members;
        message = bytes;
      }) table store net got session
      → TableTo (record {
        desk = desk_of files header given;
        reads = reads_on p f view last;
        exact = is_exact (p.told view) (f.steady view) (drop 32 (p.reads view)) files.key.params header.plan;
        members = members;
        message = message;
      }) table store net answer session
  viewed_to set_is plan_is before_is last_is addresses_is bytes_is table store net got answer session answer_is run =
      rw (answer_is, last_is) (rw (set_is, plan_is, before_is, addresses_is, bytes_is) at run)
