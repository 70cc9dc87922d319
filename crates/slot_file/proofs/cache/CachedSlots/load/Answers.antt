use Rattle.std.proofs.Common.{◌≡◌, ℕ, List, length, None, refl, sym, ◌∙◌, ap, subst}
use Rattle.std.proofs.lemmas.List.{length-replicate}
use Rattle.slot_file.specs.Reading.{IsReadRefused}
use Rattle.slot_file.specs.State.{HasSlots}
use Rattle.slot_file.specs.Loading.{no_memory}
use Rattle.slot_file.specs.Slots.{IsTold, disk_of, doubt_of, file_of, header_of}
use Rattle.slot_file.specs.declared.header.Header.{Header}
use Rattle.slot_file.specs.declared.slot.Slot.TheVariants.{Free}
use Rattle.slot_file.specs.declared.slots.Doubt.TheVariants.{Nowhere}
use Rattle.slot_file.proofs.Unwritten.{unwritten-then}
use Rattle.slot_file.proofs.Files.{doubt-none}
use Rattle.slot_file.proofs.Read.{all-read, refused-file, refused-read}
use Rattle.slot_file.proofs.Sure.{images-sure, reads-sure}
use Rattle.std.proofs.Common.{◌≢◌, Result, Err}
use Rattle.slot_file.specs.Disks.{Unwritten}
use Rattle.slot_file.specs.Reading.{refused_by}
use Rattle.slot_file.specs.declared.faults.CacheLoad.{CacheLoad}
use Rattle.slot_file.specs.declared.faults.CacheLoad.TheVariants as load
use Rattle.slot_file.specs.declared.header.LoadFault.{LoadFault}
use Rattle.slot_file.specs.declared.header.LoadFault.TheVariants as file
use Rattle.disk_trait.proofs.FaultLaws.{rises-as, rises-fine}
use Rattle.disk_trait.specs.Faults.{RisesAt}
use Rattle.slot_file.specs.Slots.{faults_of}
use Rattle.slot_file.proofs.cache.CachedSlots.load.Goals as goal

load-fault : {T : Type 0} (fault : CacheLoad) → ◌≡◌ {A = Result T CacheLoad} (Err fault) (Err load.Device) → fault ≡ load.Device
load-fault fault is = cc

device-from : (fault : LoadFault) → refused_by fault ≡ load.Device → fault ≡ file.Device
device-from file.Device is = refl
device-from (file.Length got want) is = absurd (cc)
device-from (file.NotReady gate) is = absurd (cc)
device-from (file.Version got) is = absurd (cc)
device-from (file.Foreign kept) is = absurd (cc)

no-memory : load.NoMemory ≢ load.Device
no-memory is = cc

other-load : {T : Type 0} (fault : CacheLoad) → ◌≢◌ {A = Result T CacheLoad} (Err fault) (Err load.Device) → fault ≢ load.Device
other-load fault differs is = differs (ap Err is)

pub returns-in-Err-clause-refused : goal.returns-in-Err-clause-refused
returns-in-Err-clause-refused g c = λ told. rw c.refused_by.ensures (refused-file _ _ _ c.in-Err.fault (c.in-Err.ensures.refuses told))

pub returns-in-Err-free-clause-refused : goal.returns-in-Err-free-clause-refused
returns-in-Err-free-clause-refused g c = λ told. no_memory (c.in-Ok.ensures.opened.opens told)

pub invariant_of-result : goal.invariant_of-result
invariant_of-result g c =
    let header = c.args.header.now in
    let opened = c.in-Ok.ensures.opened in
    let start = c.in-Ok.slots in
    let new = c.read_slots.new.slots in
    let list = c.read_slots.new.out in
    let call = c.in-Ok-read_slots.ensures in
    let all = all-read header c.args.count c.args.disk start _ list opened c.in-Ok-free.ensures call.size call.whole call.shows in
    let names : header_of new ≡ header = call.looks.stays.header ∙ opened.named in
    let nowhere : doubt_of new ≡ Nowhere = call.looks.doubt opened.doubt in
    let has : IsTold new → HasSlots header list (file_of new) = λ told_new.
    let told_start = sym call.looks.unwritten.stays.told ∙ told_new in
    subst (HasSlots header list) (sym (call.looks.unwritten.same told_start)) (all.has told_start) in
    record {
      count = call.looks.stays.count ∙ opened.size ∙ sym all.size;
      whole = all.whole;
      in_doubt = doubt-none _ (doubt_of new) nowhere;
      faulted = λ none. refl;
      reads = reads-sure new header names list None refl has;
      images = images-sure new header names list None refl has nowhere;
    }

pub returns-in-Ok-read_slots-clause-loaded : goal.returns-in-Ok-read_slots-clause-loaded
returns-in-Ok-read_slots-clause-loaded g c =
    let header = c.args.header.now in
    let opened = c.in-Ok.ensures.opened in
    let start = c.in-Ok.slots in
    let new = c.read_slots.new.slots in
    let list = c.read_slots.new.out in
    let call = c.in-Ok-read_slots.ensures in
    let all = all-read header c.args.count c.args.disk start _ list opened c.in-Ok-free.ensures call.size call.whole call.shows in
    record {
      file = λ told. subst (HasSlots header list) (opened.unwritten.same told) (all.has (opened.unwritten.stays.told ∙ told));
      settled = refl;
      named = call.looks.stays.header ∙ opened.named;
      size = all.size;
      unwritten = unwritten-then g.D.Pages g.D.Faults c.args.disk (disk_of start) (disk_of new) opened.unwritten call.looks.unwritten;
      faults = call.cause.others (λ is. cc) ∙ opened.faults;
    }

pub returns-in-Err-read_slots-clause-refused : goal.returns-in-Err-read_slots-clause-refused
returns-in-Err-read_slots-clause-refused g c = λ told.
    let opened = c.in-Ok.ensures.opened in
    let fault = c.in-Err-read_slots.fault in
    let told_start = opened.unwritten.stays.told ∙ told in
    let free = ap length c.in-Ok-free.ensures ∙ length-replicate c.args.count Free in
    let first = c.in-Err-read_slots.ensures.refused told_start in
    refused-read _ _ _ fault (opened.opens told)
    (subst (λ (l : List ℕ). IsReadRefused c.args.header.now.version 0 c.args.count l fault) (opened.unwritten.same told)
    (subst (λ (n : ℕ). IsReadRefused c.args.header.now.version 0 n (file_of c.in-Ok.slots) fault) free
    (subst (λ (h : Header). IsReadRefused h.version 0 (length c.in-Ok-free.cached) (file_of c.in-Ok.slots) fault) opened.named first)))

pub returns-in-Err-clause-unwritten : goal.returns-in-Err-clause-unwritten
returns-in-Err-clause-unwritten g c = c.in-Err.ensures.unwritten

pub returns-in-Err-clause-succeeds : goal.returns-in-Err-clause-succeeds
returns-in-Err-clause-succeeds g c = λ steady told is. c.in-Err.ensures.succeeds steady told (device-from c.in-Err.fault (sym c.refused_by.ensures ∙ is))

pub returns-in-Err-clause-cause : goal.returns-in-Err-clause-cause
returns-in-Err-clause-cause g c =
    rises-as _ _ _ _ _ _ (λ is. device-from c.in-Err.fault (sym c.refused_by.ensures ∙ is)) (λ is. c.refused_by.ensures ∙ ap refused_by is) c.in-Err.ensures.cause

pub returns-in-Err-clause-loaded : goal.returns-in-Err-clause-loaded
returns-in-Err-clause-loaded g c = tt

pub returns-in-Err-free-clause-loaded : goal.returns-in-Err-free-clause-loaded
returns-in-Err-free-clause-loaded g c = tt

pub returns-in-Err-read_slots-clause-loaded : goal.returns-in-Err-read_slots-clause-loaded
returns-in-Err-read_slots-clause-loaded g c = tt

pub returns-in-Err-free-clause-succeeds : goal.returns-in-Err-free-clause-succeeds
returns-in-Err-free-clause-succeeds g c = λ steady told. no-memory

pub returns-in-Err-free-clause-unwritten : goal.returns-in-Err-free-clause-unwritten
returns-in-Err-free-clause-unwritten g c = subst (Unwritten g.D.Pages g.D.Faults c.args.disk) (sym c.end.ensures) c.in-Ok.ensures.opened.unwritten

pub returns-in-Err-free-clause-cause : goal.returns-in-Err-free-clause-cause
returns-in-Err-free-clause-cause g c = rises-fine _ _ _ _ no-memory (ap g.D.Faults.count c.end.ensures ∙ c.in-Ok.ensures.opened.faults)

pub returns-in-Err-read_slots-clause-succeeds : goal.returns-in-Err-read_slots-clause-succeeds
returns-in-Err-read_slots-clause-succeeds g c = λ steady told.
    let stays = c.in-Ok.ensures.opened.unwritten.stays in
    other-load c.in-Err-read_slots.fault (c.in-Err-read_slots.ensures.succeeds (stays.steady ∙ steady) (stays.told ∙ told))

pub returns-in-Err-read_slots-clause-unwritten : goal.returns-in-Err-read_slots-clause-unwritten
returns-in-Err-read_slots-clause-unwritten g c =
    let opened = c.in-Ok.ensures.opened in
    subst (Unwritten g.D.Pages g.D.Faults c.args.disk) (sym c.end-in-Err-read_slots.ensures)
    (unwritten-then g.D.Pages g.D.Faults c.args.disk (disk_of c.in-Ok.slots) (disk_of c.read_slots.new.slots) opened.unwritten c.in-Err-read_slots.ensures.looks.unwritten)

pub returns-in-Err-read_slots-clause-cause : goal.returns-in-Err-read_slots-clause-cause
returns-in-Err-read_slots-clause-cause g c =
    let opened = c.in-Ok.ensures.opened in
    let fault = c.in-Err-read_slots.fault in
    subst (λ (n : ℕ). RisesAt n (g.D.Faults.count c.end-in-Err-read_slots.result) fault load.Device) opened.faults
    (subst (λ (d : _). RisesAt (faults_of c.in-Ok.slots) (g.D.Faults.count d) fault load.Device) (sym c.end-in-Err-read_slots.ensures)
    (rises-as _ _ _ _ _ _ (λ is. ap Err is) (load-fault fault) c.in-Err-read_slots.ensures.cause))

pub read_slots-requires : goal.read_slots-requires
read_slots-requires g c = record { count = c.in-Ok.ensures.opened.size ∙ sym (ap length c.in-Ok-free.ensures ∙ length-replicate c.args.count Free) }

pub returns-in-Ok-read_slots-clause-refused : goal.returns-in-Ok-read_slots-clause-refused
returns-in-Ok-read_slots-clause-refused g c = λ told. tt

pub returns-in-Ok-read_slots-clause-unwritten : goal.returns-in-Ok-read_slots-clause-unwritten
returns-in-Ok-read_slots-clause-unwritten g c = tt

pub returns-in-Ok-read_slots-clause-succeeds : goal.returns-in-Ok-read_slots-clause-succeeds
returns-in-Ok-read_slots-clause-succeeds g c = λ steady told. tt

pub returns-in-Ok-read_slots-clause-cause : goal.returns-in-Ok-read_slots-clause-cause
returns-in-Ok-read_slots-clause-cause g c = tt
