-- How copying a journal ends.
use Rattle.std.proofs.Common.{◌≡◌, ◌⊎◌, ℕ, List, [], ◌∷◌, Some, None, IsTrue, refl, ◌∙◌, inl, inr, subst}
use Rattle.share_files.specs.declared.share.Share.{Share}
use Rattle.slot_file.specs.Copies.{IsCopy, IsFirstDamaged, slots_in, taken_count}
use Rattle.slot_file.specs.Layout.{load_fault}
use Rattle.slot_file.specs.declared.copies.CopyFault.{CopyFault}
use Rattle.slot_file.specs.declared.copies.CopyFault.TheVariants as copying
use Rattle.slot_file.specs.declared.header.Header.{Header}
use Rattle.slot_file.specs.declared.header.LoadFault.{LoadFault}
use Rattle.slot_file.specs.declared.header.LoadFault.TheVariants.{Length, NotReady, Version, Foreign, Device}
use Rattle.stream_io.specs.declared.store.NewFault.{NewFault}
use Rattle.stream_io.specs.declared.store.NewFault.TheVariants.{Exists, Failed, NoMemory}
use Rattle.stream_io.specs.declared.store.Readers.{Readers}
use Rattle.stream_io.specs.declared.store.Readers.TheVariants.{OwnerAlone}
use Rattle.tool_base.specs.Ending.{Ending}
use Rattle.tool_base.specs.Outputs.{CallFailed, IsEndOfNew, IsNotWritten, no_memory_to_write, was_there, write_failed}
use Rattle.tool_base.specs.World.{StoreRun}
use Rattle.tool_journals.specs.Blanks.{IsNeverHalf, IsOwners}
use Rattle.tool_journals.specs.Faults.{end_of_copy, end_of_load}
use Rattle.tool_journals.specs.Migrate.{CopyEnds, IsCopied, IsShut, damaged, device, migrated, not_empty, not_made, not_opened, not_read, old_header, slot_count}
use Rattle.trustee_core.specs.Trustee.{journal_header}

pub not_written_of : (run : StoreRun) (name : List ℕ) (fault : NewFault) (end : Ending) → IsEndOfNew name fault end
    → (fault ≡ Exists → IsTrue run.before.told → ⊥) → (fault ≡ Failed → CallFailed run) → IsNotWritten run [] name end
not_written_of run name Exists end (inl none) there failed = rw none no_memory_to_write
not_written_of run name Exists end (inr is) there failed = rw is (was_there (there refl))
not_written_of run name Failed end is there failed = rw is (write_failed (failed refl))
not_written_of run name NoMemory end is there failed = rw is no_memory_to_write

pub copy_is : (header want : Header) (count many version : ℕ) (from file : List ℕ) → header ≡ want → count ≡ many → version ≡ 1
    → IsCopy header count version from file → IsCopy want many 1 from file
copy_is header want count many version from file names size old is =
    subst (λ v. IsCopy want many v from file) old (subst (λ n. IsCopy want n version from file) size (subst (λ h. IsCopy h count version from file) names is))

pub taken_is : (count many version taken : ℕ) (file : List ℕ) → count ≡ many → version ≡ 1
    → taken ≡ taken_count (slots_in version count file) → taken ≡ taken_count (slots_in 1 many file)
taken_is count many version taken file size old is =
    subst (λ v. taken ≡ taken_count (slots_in v many file)) old (subst (λ n. taken ≡ taken_count (slots_in version n file)) size is)

pub damaged_is : (count many version : ℕ) (file : List ℕ) (slot a b : ℕ) → count ≡ many → version ≡ 1
    → IsFirstDamaged version count file slot a b → IsFirstDamaged 1 many file slot a b
damaged_is count many version file slot a b size old is =
    subst (λ v. IsFirstDamaged v many file slot a b) old (subst (λ n. IsFirstDamaged version n file slot a b) size is)

pub load_is : (header want : Header) (count many : ℕ) (file : List ℕ) (fault : LoadFault) → header ≡ want → count ≡ many
    → (fault ≡ Device) ⊎ (load_fault header count file ≡ Some fault) → (fault ≡ Device) ⊎ (load_fault want many file ≡ Some fault)
load_is header want count many file fault names size (inl e) = inl e
load_is header want count many file fault names size (inr e) =
    inr (subst (λ n. load_fault want n file ≡ Some fault) size (subst (λ h. load_fault h count file ≡ Some fault) names e))

abbrev pub Opens : StoreRun → Share → List ℕ → Type 0
Opens store share file = IsTrue store.before.told → load_fault (old_header share) (slot_count share) file ≡ None

pub copy_fails : (failed : Type 0) (store : StoreRun) (share : Share) (new file : List ℕ) (fault : CopyFault) (end : Ending) → end ≡ end_of_copy fault
    → (IsTrue store.before.told → load_fault (old_header share) (slot_count share) file ≡ None)
    → ((held : ℕ) → fault ≡ copying.NotEmpty held → IsTrue store.before.told → ⊥)
    → ((slot a b : ℕ) → fault ≡ copying.Damaged slot a b → (IsTrue store.before.told → IsFirstDamaged 1 (slot_count share) file slot a b) × IsShut store new)
    → (fault ≡ copying.Device → failed) → IsNeverHalf (IsCopy (journal_header share) (slot_count share) 1 file) store new
    → CopyEnds failed store share new file end (new ∷ [])
copy_fails failed store share new file (copying.NotEmpty held) end is opens empty broken fails half = rw is (not_empty (empty held refl))
copy_fails failed store share new file (copying.Damaged slot a b) end is opens empty broken fails half =
    rw is (damaged slot a b opens (broken slot a b refl).0 (broken slot a b refl).1)
copy_fails failed store share new file copying.Device end is opens empty broken fails half = rw is (device opens (fails refl) half)

pub load_fails : (failed : Type 0) (store : StoreRun) (share : Share) (new file : List ℕ) (fault : LoadFault) (end : Ending) → end ≡ end_of_load fault
    → (fault ≡ Device → failed)
    → (IsTrue store.before.told → (fault ≡ Device) ⊎ (load_fault (old_header share) (slot_count share) file ≡ Some fault))
    → CopyEnds failed store share new file end []
load_fails failed store share new file (Length got want) end is fails why = rw is (not_opened (Length got want) (λ told. elim (why told) [ inl e ↦ cc | inr e ↦ e ]))
load_fails failed store share new file (NotReady gate) end is fails why = rw is (not_opened (NotReady gate) (λ told. elim (why told) [ inl e ↦ cc | inr e ↦ e ]))
load_fails failed store share new file (Version got) end is fails why = rw is (not_opened (Version got) (λ told. elim (why told) [ inl e ↦ cc | inr e ↦ e ]))
load_fails failed store share new file (Foreign kept) end is fails why = rw is (not_opened (Foreign kept) (λ told. elim (why told) [ inl e ↦ cc | inr e ↦ e ]))
load_fails failed store share new file Device end is fails why = rw is (not_read (fails refl))

-- a run that is part of a later one: what it left of a name stands
pub record Later (one two : StoreRun) (name : List ℕ) : Type 0 where
  pub told : IsTrue two.before.told → IsTrue one.before.told
  pub call : CallFailed one → CallFailed two
  pub kind : two.before.disks name ≡ one.before.disks name
  pub readers : IsTrue two.before.told → (who : Readers) → one.after.readers name ≡ Some who → two.after.readers name ≡ Some who
  pub file : IsTrue two.before.told → two.after.file name ≡ one.after.file name
  pub leaves : IsTrue two.before.told → (image : List ℕ) → two.after.leaves name image → one.after.leaves name image

pub later_none : (run : StoreRun) (name : List ℕ) → Later run run name
later_none run name = record { told = λ is. is; call = λ is. is; kind = refl; readers = λ told who is. is; file = λ told. refl; leaves = λ told image left. left }

module _ (one two : StoreRun) (name : List ℕ) (later : Later one two name) where
  honest_later : IsTrue (two.before.disks name).honest → IsTrue (one.before.disks name).honest
  honest_later is = rw (← later.kind) is

  owners_later : IsOwners one name → IsOwners two name
  owners_later owners = λ told. later.readers told OwnerAlone (owners (later.told told))

  pub shut_later : IsShut one name → IsShut two name
  shut_later shut = record {
    file = λ told. let was = shut.file (later.told told) in (was.0, later.file told ∙ was.1, was.2);
    images = λ told honest image left. shut.images (later.told told) (honest_later honest) image (later.leaves told image left);
    owners = owners_later shut.owners;
  }

  pub half_later : (whole also : List ℕ → Type 0) → (IsTrue two.before.told → (image : List ℕ) → whole image → also image) → IsNeverHalf whole one name → IsNeverHalf also two name
  half_later whole also same half = record {
    stays = λ told. rw (later.file told) (half.stays (later.told told));
    owners = owners_later half.owners;
    images = λ told honest image left. elim (half.images (later.told told) (honest_later honest) image (later.leaves told image left))
        [ inl shut ↦ inl shut | inr is ↦ inr (same told image is) ];
  }

  written_later : (end : Ending) → IsNotWritten one [] name end → IsNotWritten two [] name end
  written_later _ (write_failed f) = write_failed (later.call f)
  written_later _ (was_there untold) = was_there (λ told. untold (later.told told))
  written_later _ no_memory_to_write = no_memory_to_write

  module _ (share : Share) (file other : List ℕ) (same : IsTrue two.before.told → file ≡ other) where
    opens_later : Opens one share file → Opens two share other
    opens_later opens = λ told. rw (← same told) (opens (later.told told))

    copied_later : IsCopied one share name file → IsCopied two share name other
    copied_later copied = record {
      owners = owners_later copied.owners;
      copy = λ told. let was = copied.copy (later.told told) in (
        was.0,
        later.file told ∙ was.1,
        rw (← same told) was.2,
        λ honest image left. was.3 (honest_later honest) image (later.leaves told image left),
      );
    }

    pub copy_later : (f g : Type 0) → (f → g) → (end : Ending) (touched : List (List ℕ)) → CopyEnds f one share name file end touched → CopyEnds g two share name other end touched
    copy_later f g fails _ _ (not_read failed) = not_read (fails failed)
    copy_later f g fails _ _ (not_opened fault why) = not_opened fault (λ told. rw (← same told) (why (later.told told)))
    copy_later f g fails _ _ (not_made end opens cause) = not_made end (opens_later opens) (written_later end cause)
    copy_later f g fails _ _ (not_empty untold) = not_empty (λ told. untold (later.told told))
    copy_later f g fails _ _ (damaged slot a b opens first shut) =
        damaged slot a b (opens_later opens) (λ told. rw (← same told) (first (later.told told))) (shut_later shut)
    copy_later f g fails _ _ (device opens failed half) =
        device (opens_later opens) (fails failed) (half_later _ _ (λ told image is. rw (← same told) is) half)
    copy_later f g fails _ _ (migrated taken opens many copied) =
        migrated taken (opens_later opens) (λ told. rw (← same told) (many (later.told told))) (copied_later copied)
