-- What holds while a view is out, stated for the whole run.
use Rattle.std.proofs.Common.{◌≡◌, ◌+◌, ◌-◌, ◌^◌, ℕ, List, Option, Result, IsTrue, inl, inr, refl, sym, ◌∙◌, arith}
use Rattle.std.proofs.lemmas.List.Elements.{All-weaker}
use Rattle.aggregator_session.specs.declared.fault.SignFault.{SignFault}
use Rattle.aggregator_session.specs.Signing.{Signature}
use Rattle.lms_bytes.specs.MessageId.{message_id}
use Rattle.session_core.specs.State.{State}
use Rattle.slot_file.specs.declared.header.Header.{Header}
use Rattle.stream_io.specs.Store.{PagesState, SameNames, StoreOnward, StoreState, ViewEnded, Viewed}
use Rattle.tool_base.proofs.Runs.{onward_on}
use Rattle.tool_base.specs.Ending.{Ending}
use Rattle.tool_base.specs.Reads.{FailsUpTo, failed, no_memory, too_long}
use Rattle.tool_base.specs.Touched.{Keeps}
use Rattle.tool_base.specs.World.{Bytes, Failed, IsUnchanged, IsReadUpTo, Reading, StoreRun, TooLong, file_limit, from_to}
use Rattle.tool_base.specs.Disks.{DeviceFails, Stays}
use Rattle.tool_base.specs.Loads.{FailsToLoad, ReadsAs, IsOtherFile, IsDamagedFile, damaged, device, other_file}
use Rattle.tool_base.specs.Loads as loads
use Rattle.tool_sign.specs.Ended.{last_in}
use Rattle.tool_sign.specs.Leases.{AllLeave, IsBurntIn, IsLeasedIn, LeaseIsLeft}
use Rattle.tool_sign.specs.Leases as leases
use Rattle.tool_sign.specs.Ports.{NetRun, Signing}
use Rattle.tool_sign.specs.Signs.{SignedTable, TableEnds}
use Rattle.tool_sign.specs.Signs as signs
use Rattle.tool_sign.specs.Sources.{source_of}
use Rattle.tool_sign.specs.Tables.{IsTable, table_header}
use Rattle.tool_sign.specs.Tasks.{message_limit}
use Rattle.tool_sign.specs.declared.task.Message.{Message}
use Rattle.tool_sign.specs.declared.task.Message.TheVariants.{InFile, Known}

-- nothing was changed but that a view went out, or came back
pub record SameButViews (old new : StoreState) : Type 0 where
  pub names : SameNames old new
  pub onward : StoreOnward old new

pub out_view : (first a b : StoreState) (name : List ℕ) (view : PagesState) → IsUnchanged first a → Viewed a name view b → StoreOnward a b → SameButViews first b
out_view first a b name view unchanged viewed onward = record {
  names = record {
    file = viewed.names.file ∙ unchanged.same.names.file;
    leaves = λ other image. let x = unchanged.same.names.leaves other image in let y = viewed.names.leaves other image in (λ z. x.0 (y.0 z), λ z. y.1 (x.1 z));
    out = viewed.names.out ∙ unchanged.same.names.out;
  };
  onward = onward_on first a b unchanged.onward onward;
}

pub back_view : (c d : StoreState) (view : PagesState) → ViewEnded c view d → StoreOnward c d → SameButViews c d
back_view c d view ended onward = record { names = ended.names; onward = onward }

-- a message that was obtained while the view was out was obtained, however the run goes on
pub source_had : (a b c d : StoreState) → SameButViews a b → (message : Message) (bytes : List ℕ) → (source_of message (from_to b c)).is bytes → (source_of message (from_to a d)).is bytes
source_had a b c d goes (InFile name) bytes is = (is.0, λ told. rw (← goes.names.file) (is.1 (rw goes.onward.told told)))
source_had a b c d goes (Known given) bytes is = is

-- how signing with a table ends, stated for a wider run, with the same session at its end
pub record EndsWider (s : Signing) (name : List ℕ) (store : StoreRun) (net : NetRun) (answer : Result Signature Ending) (touched : List (List ℕ)) (last : Option State) : Type 0 where
  pub ends : TableEnds s name store net answer touched
  pub last_is : last_in ends ≡ last

-- from a state with the view in to one with it in again
module _ (a b c d : StoreState) (goes : SameButViews a b) (same : b.disk_count ≡ a.disk_count) (comes : SameButViews c d) where
  told_b : IsTrue a.told → IsTrue b.told
  told_b told = rw goes.onward.told told

  steady_b : IsTrue a.steady → IsTrue b.steady
  steady_b steady = rw goes.onward.steady steady

  pub read_in : (limit : ℕ) (name : List ℕ) (reading : Reading) → IsReadUpTo limit (from_to b c) name reading → IsReadUpTo limit (from_to a d) name reading
  read_in limit name Failed r = (
    let rose = r.0 in let begins = goes.onward.count in let ends = comes.onward.count in omega arith,
    λ told steady. rw (← goes.names.file) (r.1 (told_b told) (steady_b steady)),
  )
  read_in limit name (TooLong got) r = (r.0, λ told. rw (← goes.names.file) (r.1 (told_b told)))
  read_in limit name (Bytes bytes) r = (r.0, λ told. rw (← goes.names.file) (r.1 (told_b told)))

  pub fails_in : (limit : ℕ) (name : List ℕ) (end : Ending) → FailsUpTo limit (from_to b c) name end → FailsUpTo limit (from_to a d) name end
  fails_in limit name _ (failed r) = failed (read_in limit name Failed r)
  fails_in limit name _ (too_long got r) = too_long got (read_in limit name (TooLong got) r)
  fails_in limit name _ no_memory = no_memory

  -- a message that was not obtained
  pub no_source_in : (message : Message) (end : Ending) → (source_of message (from_to b c)).fails end → (source_of message (from_to a d)).fails end
  no_source_in (InFile name) end fails = fails_in message_limit name.now end fails
  no_source_in (Known given) end fails = fails

  pub reads_as_in : (name : List ℕ) (Is : List ℕ → Type 0) → ReadsAs (from_to b c) name Is → ReadsAs (from_to a d) name Is
  reads_as_in name Is reads = record {
    file = reads.file;
    is_read = λ told. rw (← goes.names.file) (reads.is_read (told_b told));
    is = λ told. reads.is (told_b told);
  }

  honest_b : (name : List ℕ) → IsTrue (a.disks name).honest → IsTrue (b.disks name).honest
  honest_b name honest = rw (goes.onward.disks name) honest

  stays_in : (name : List ℕ) → Stays (from_to b c) name → Stays (from_to a d) name
  stays_in name stays = record {
    file = λ told. rw (comes.names.file, ← goes.names.file) (stays.file (told_b told));
    leaves = λ told honest image left.
        (goes.names.leaves name image).0 (stays.leaves (told_b told) (honest_b name honest) image ((comes.names.leaves name image).0 left));
  }

  pub device_in : DeviceFails (from_to b c) → DeviceFails (from_to a d)
  device_in fails = record {
    rose = let rose = fails.rose in let later = comes.onward.disk_count in omega (arith, rose, same, later);
    unsteady = λ told steady. fails.unsteady (told_b told) (steady_b steady);
  }

  not_loaded_in : (header : Header) (count : ℕ) (name : List ℕ) (end : Ending) → FailsToLoad header count (from_to b c) name end → FailsToLoad header count (from_to a d) name end
  not_loaded_in header count name _ (other_file fault reads) = other_file fault (reads_as_in name (IsOtherFile header count fault) reads)
  not_loaded_in header count name _ (damaged reads) = damaged (reads_as_in name (IsDamagedFile header count) reads)
  not_loaded_in header count name _ (device fails) = device (device_in fails)
  not_loaded_in header count name _ loads.no_memory = loads.no_memory

  all_in : (name : List ℕ) (Is : List ℕ → Type 0) → AllLeave (from_to b c) name Is → AllLeave (from_to a d) name Is
  all_in name Is all = record {
    file = λ told file is. all.file (told_b told) file (rw (← comes.names.file) is);
    images = λ told honest image left. all.images (told_b told) (honest_b name honest) image ((comes.names.leaves name image).0 left);
  }

  lease_in : (s : Signing) (name : List ℕ) (outcome : Result Signature SignFault) → LeaseIsLeft s name (from_to b c) outcome → LeaseIsLeft s name (from_to a d) outcome
  lease_in s name _ (leases.too_long got) = leases.too_long got
  lease_in s name _ (leases.not_leased fault) = leases.not_leased fault
  lease_in s name _ (leases.leased leaf result all burnt) = leases.leased leaf result (all_in name (IsLeasedIn leaf (message_id s.message)) all)
      (λ member some. elim (burnt member some) [
        | inl left ↦ inl (all_in name (IsBurntIn leaf) left)
        | inr rose ↦ inr (let later = comes.onward.disk_count in omega (arith, rose, same, later))
      ])

  module _ (s : Signing) (name : List ℕ) (net : NetRun) where
    abbrev table_in : (outcome : Result Signature SignFault) → SignedTable s name (from_to b c) net outcome → SignedTable s name (from_to a d) net outcome
    table_in outcome signed = record {
      old = signed.old;
      new = signed.new;
      fresh = record {
        told = λ told. signed.fresh.told (told_b told);
        steady = λ steady. signed.fresh.steady (steady_b steady);
        kind = λ told. sym (goes.onward.disks name) ∙ signed.fresh.kind (told_b told);
        header_is = signed.fresh.header_is;
        plan_is = signed.fresh.plan_is;
        faults = signed.fresh.faults;
        doubt = signed.fresh.doubt;
      };
      table_is = reads_as_in name (IsTable (table_header s.desk.key) s.desk.plan signed.old.state.entries) signed.table_is;
      name_is = signed.name_is;
      over = signed.over;
      left = record {
        file = signed.left.file;
        is_read = λ told. rw comes.names.file (signed.left.is_read (told_b told));
        stands = λ told. signed.left.stands (told_b told);
        images = λ told honest image left. signed.left.images (told_b told) (honest_b name honest) image ((comes.names.leaves name image).0 left);
        many = signed.left.many;
        one_lease = signed.left.one_lease;
      };
      sure = signed.sure;
      rise = let rise = signed.rise in let later = comes.onward.disk_count in omega (arith, rise, same, later);
      lease = lease_in s name outcome signed.lease;
    }

    pub ends_in : (answer : Result Signature Ending) (touched : List (List ℕ)) (ends : TableEnds s name (from_to b c) net answer touched) → EndsWider s name (from_to a d) net answer touched (last_in ends)
    ends_in _ _ (signs.no_table idle read) = record { ends = signs.no_table idle (read_in file_limit name Failed read); last_is = refl }
    ends_in _ _ (signs.no_memory touched idle stays) = record { ends = signs.no_memory touched idle (All-weaker (Stays (from_to b c)) (Stays (from_to a d)) stays_in touched stays); last_is = refl }
    ends_in _ _ (signs.not_loaded end idle fails stays) =
        record { ends = signs.not_loaded end idle (not_loaded_in (table_header s.desk.key) (2 ^ s.desk.plan.h) name end fails) (stays_in name stays); last_is = refl }
    ends_in _ _ (signs.no_port entries idle reads rose never stays) =
        record { ends = signs.no_port entries idle (reads_as_in name (IsTable (table_header s.desk.key) s.desk.plan entries) reads) rose never (stays_in name stays); last_is = refl }
    ends_in _ _ (signs.signed outcome table) = record { ends = signs.signed outcome (table_in outcome table); last_is = refl }

  pub keeps_in : (touched : List (List ℕ)) → Keeps touched b c → (IsTrue a.told → b.views ≡ a.views + 1) → (IsTrue c.told → d.views ≡ c.views - 1) → Keeps touched a d
  keeps_in touched keeps out back = record {
    back = record {
      onward = onward_on a b d goes.onward (onward_on b c d keeps.back.onward comes.onward);
      out = λ told name. rw (comes.names.out, ← goes.names.out) (keeps.back.out (told_b told) name);
      views = λ told.
          let first = out told in
          let between = keeps.back.views (told_b told) in
          let last = back (rw keeps.back.onward.told (told_b told)) in
          omega (arith, first, between, last);
    };
    file = λ told name other. rw (comes.names.file, ← goes.names.file) (keeps.file (told_b told) name other);
    leaves = λ told name image other.
        let x = goes.names.leaves name image in
        let y = keeps.leaves (told_b told) name image other in
        let z = comes.names.leaves name image in
        (λ w. x.0 (y.0 (z.0 w)), λ w. z.1 (y.1 (x.1 w)));
  }
