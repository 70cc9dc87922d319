-- What a blank file goes with.
use Rattle.std.proofs.Common.{◌≡◌, ◌⊎◌, ◌∙◌, ◌^◌, ℕ, true, false, List, Option, Some, IsTrue, length, take, drop, ap, refl, sym, inl, inr, arith, option_map}
use Rattle.share_files.specs.FaultNumbers.{file_fault_number}
use Rattle.share_files.specs.Reference.{HasReferenceLayout, reference_head, reference_head_fault, reference_length, reference_magic}
use Rattle.share_files.specs.Sets.{CanBeDealt}
use Rattle.share_files.specs.Share.{share_bytes}
use Rattle.share_files.specs.declared.faults.FileFault.{FileFault}
use Rattle.share_files.specs.declared.reference.RefHeader.{RefHeader}
use Rattle.share_files.specs.declared.share.Share.{Share}
use Rattle.slot_file.specs.declared.header.Header.{Header}
use Rattle.tool_base.specs.Ending as spec
use Rattle.tool_base.specs.Ending.{Ending}
use Rattle.tool_base.specs.Contents.{HasHead, no_memory}
use Rattle.tool_base.specs.Loads.{ReadsAs}
use Rattle.tool_base.specs.World.{StoreRun, Bytes, TooLong, IsRead}
use Rattle.tool_base.proofs.Fronts.{layout-by-head, reads-long, refused-by-head, same-letters}
use Rattle.tool_journals.specs.Enrol.{FailsToEnrol, GoWith, IsEnrolled, IsOther, IsReferenceOf, begins_with, enrol_fault, journal, no_reference, not_found, not_in_grammar, table, table_header, too_long}
use Rattle.tool_journals.specs.Enrol as enrol
use Rattle.trustee_core.specs.Trustee.{journal_header}

pub share_goes : (bytes : List ℕ) (share : Share) (header : Header) (count : ℕ) → bytes ≡ share_bytes share → CanBeDealt share.params
    → header ≡ journal_header share → count ≡ 2 ^ share.params.h → GoWith bytes header count
share_goes bytes share header count is dealt names many = rw (names, many) (journal share is dealt)

pub reference_goes : (bytes leaves : List ℕ) (reference : RefHeader) (header : Header) (count : ℕ) → HasReferenceLayout reference bytes leaves
    → header ≡ table_header reference → count ≡ 2 ^ reference.params.h → GoWith bytes header count
reference_goes bytes leaves reference header count layout names many = rw (names, many) (table reference leaves layout)

-- a file that is neither kind leads to the end that names its first fault
pub enrol_refused : (store : StoreRun) (name bytes : List ℕ) (fault : FileFault) (number : ℕ) (end : Ending)
    → IsRead store name (Bytes bytes) → enrol_fault bytes ≡ Some fault → number ≡ file_fault_number fault
    → (end ≡ spec.NoMemory) ⊎ (end ≡ spec.Unreadable name number) → FailsToEnrol store name end
enrol_refused store name bytes fault number end read is number_is (inl none) = rw none (not_found spec.NoMemory no_memory)
enrol_refused store name bytes fault number end read is number_is (inr told) = rw (told, number_is) (not_in_grammar bytes fault read is)

-- a file that is too long to be read whole, of which the head was read
module _ (store : StoreRun) (name head : List ℕ) (got : ℕ) (found : IsRead store name (TooLong got) × ReadsAs store name (HasHead head)) where
  pub long_other : begins_with reference_magic head ≡ false → FailsToEnrol store name (spec.TooLong got)
  long_other other = too_long got found.0 (reads-long store name head got found (λ bytes. begins_with reference_magic bytes ≡ false) (λ file has is. same-letters reference_magic head file has ∙ other))

  pub long_refused : (fault : FileFault) (number : ℕ) (end : Ending) → begins_with reference_magic head ≡ true → reference_head_fault head got ≡ Some fault
      → number ≡ file_fault_number fault → (end ≡ spec.NoMemory) ⊎ (end ≡ spec.Unreadable name number) → FailsToEnrol store name end
  long_refused fault number end begins is number_is (inl none) = rw none (not_found spec.NoMemory no_memory)
  long_refused fault number end begins is number_is (inr told) =
      rw (told, number_is) (no_reference got fault found.0 (reads-long store name head got found (IsOther fault) (λ file has many. record {
        letters = same-letters reference_magic head file has ∙ begins;
        fault_is = refused-by-head file head got fault (sym many) (let limit = found.0.0 in omega arith) (sym has) is;
      })))

  pub long_goes : (reference : RefHeader) (header : Header) (count : ℕ) → head ≡ reference_head reference → got ≡ reference_length reference
      → CanBeDealt reference.params → header ≡ table_header reference → count ≡ 2 ^ reference.params.h → IsEnrolled store name header count
  long_goes reference header count parts many dealt names slots =
      rw (names, slots) (enrol.long got reference found.0 dealt (reads-long store name head got found (IsReferenceOf reference) (λ file has is.
      (drop 32 file, layout-by-head file head got reference (sym is) (sym has) parts many dealt))))
