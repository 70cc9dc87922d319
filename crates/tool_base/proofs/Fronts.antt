-- Files by their head and length.
use Rattle.std.proofs.Common.{◌≡◌, ◌≤◌, ◌∙◌, ℕ, List, ◌++◌, Option, length, take, drop, Some, None, option_map, sym, ap, refl, arith}
use Rattle.std.proofs.lemmas.Bool.{le-ltb}
use Rattle.std.proofs.lemmas.List.{length-drop, take-append-drop, take-take}
use Rattle.std.specs.Str.{bytes_eq}
use Rattle.share_files.specs.Head.{short_fault}
use Rattle.share_files.specs.Reference.{HasReferenceLayout, reference_fault, reference_head, reference_head_fault, reference_length}
use Rattle.share_files.specs.Sets.{CanBeDealt}
use Rattle.share_files.specs.declared.faults.FileFault.{FileFault}
use Rattle.share_files.specs.declared.reference.RefHeader.{RefHeader}
use Rattle.share_files.proofs.FirstFault.{first_fault-failed, first_fault-passed}
use Rattle.tool_base.specs.Contents.{HasHead}
use Rattle.tool_base.specs.Loads.{ReadsAs}
use Rattle.tool_base.specs.World.{StoreRun, TooLong, IsRead}

-- the letters of a file are those of its head
pub same-letters : (magic head file : List ℕ) → HasHead head file → bytes_eq magic (take 4 file) ≡ bytes_eq magic (take 4 head)
same-letters magic head file has = rw (← has) (ap (bytes_eq magic) (sym (take-take 4 32 file (omega arith))))

length-of : (bytes : Option (List ℕ)) (file : List ℕ) (got : ℕ) → bytes ≡ Some file → option_map length bytes ≡ Some got → length file ≡ got
length-of _ file got refl is = cc

-- what every file with this head and length is, a file is that was found too long
pub reads-long : (store : StoreRun) (name head : List ℕ) (got : ℕ) → IsRead store name (TooLong got) × ReadsAs store name (HasHead head) → (Is : List ℕ → Type 0)
    → ((file : List ℕ) → HasHead head file → length file ≡ got → Is file) → ReadsAs store name Is
reads-long store name head got found Is is = record {
  file = found.1.file;
  is_read = found.1.is_read;
  is = λ told. is found.1.file (found.1.is told) (length-of (store.before.file name) found.1.file got (found.1.is_read told) (found.0.1 told));
}

-- a head that is refused in a file of this length
pub refused-by-head : (bytes head : List ℕ) (n : ℕ) (fault : FileFault) → n ≡ length bytes → 32 ≤ n → head ≡ take 32 bytes
    → reference_head_fault head n ≡ Some fault → reference_fault bytes ≡ Some fault
unfolding reference_fault
refused-by-head bytes head n fault is long front refused =
    let test : short_fault 32 bytes ≡ None = rw (le-ltb (length bytes) 32 (rw is at long)) refl in
    let rest : reference_head_fault (take 32 bytes) (length bytes) ≡ Some fault = rw (front, is) at refused in
    first_fault-passed _ _ test ∙ first_fault-failed _ _ _ rest

-- a head that is read in a file of this length
pub layout-by-head : (bytes head : List ℕ) (n : ℕ) (header : RefHeader) → n ≡ length bytes → head ≡ take 32 bytes
    → head ≡ reference_head header → n ≡ reference_length header → CanBeDealt header.params → HasReferenceLayout header bytes (drop 32 bytes)
layout-by-head bytes head n header is front parts size dealt = record {
  dealt = dealt;
  leaves_are = omega (arith, is, size, length-drop 32 bytes);
  parts = sym (take-append-drop 32 bytes) ∙ ap (λ start. start ++ drop 32 bytes) (sym front ∙ parts);
}
