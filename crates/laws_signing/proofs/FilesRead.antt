-- Files that are read with no fault, if they are what they should be and nothing outside fails.
use Rattle.std.proofs.Common.{◌≡◌, ◌≤◌, ℕ, false, List, Option, Some, None, length, IsTrue, inl, inr, refl, sym, ap, ◌∙◌, arith}
use Rattle.std.specs.Option.{option_map}
use Rattle.share_files.specs.Reference.{reference_fault}
use Rattle.tool_base.specs.Ending as ending
use Rattle.tool_base.specs.Ending.{Ending}
use Rattle.tool_base.specs.Grammars.{FailsGrammar, not_in_grammar, not_read}
use Rattle.tool_base.specs.Outputs.{CallFailed, Output, IsNotNew, IsNotWritten, is_there, no_memory_to_name, no_memory_to_write, test_failed, was_there, write_failed}
use Rattle.tool_base.specs.Reads.{FailsUpTo, failed, no_memory, too_long}
use Rattle.tool_base.specs.World.{Failed, IsReadUpTo, StoreRun, file_limit}
use Rattle.tool_base.specs.Disks.{DeviceFails}
use Rattle.tool_desk.specs.Reference.{FailsReference}
use Rattle.tool_desk.specs.Reference as viewed
use Rattle.stream_io.specs.Store.{has_name}
use Rattle.laws_signing.specs.AllIsWell.{StoreHolds}

-- the file of a name is the file that is there
pub same-file : (store : StoreRun) (name a b : List ℕ) → store.before.file name ≡ Some a → store.before.file name ≡ Some b → a ≡ b
same-file store name a b left right =
    let same : Some a ≡ Some b = sym left ∙ right in
    cc

module _ (store : StoreRun) (told : IsTrue store.before.told) (holds : StoreHolds store) where
  -- no call fails
  pub call-not : CallFailed store → ⊥
  call-not fails = elim holds [
    | inl steady ↦ fails.unsteady steady
    | inr quiet ↦ quiet.0 fails.rose
  ]

  pub device-not : DeviceFails store → ⊥
  device-not fails = elim holds [
    | inl steady ↦ fails.unsteady told steady
    | inr quiet ↦ quiet.1 fails.rose
  ]

  pub read-not : (limit : ℕ) (name bytes : List ℕ) → store.before.file name ≡ Some bytes → IsReadUpTo limit store name Failed → ⊥
  read-not limit name bytes is fails = elim holds [
    | inl steady ↦
        let gone = fails.1 told steady in
        absurd (cc)
    | inr quiet ↦ quiet.0 fails.0
  ]

  pub reads-well : (limit : ℕ) (name bytes : List ℕ) → store.before.file name ≡ Some bytes → length bytes ≤ limit → (end : Ending) → FailsUpTo limit store name end → end ≡ ending.NoMemory
  reads-well limit name bytes is small end (failed fails) = absurd (read-not limit name bytes is fails)
  reads-well limit name bytes is small end (too_long got long) =
      let size : Some (length bytes) ≡ Some got = ap (option_map length) (sym is) ∙ long.1 told in
      let same : length bytes ≡ got = cc in
      let over = long.0 in
      absurd (omega arith)
  reads-well limit name bytes is small end no_memory = refl

  pub grammar-well : (fault_of : List ℕ → Option ℕ) (name bytes : List ℕ) → store.before.file name ≡ Some bytes → length bytes ≤ file_limit → fault_of bytes ≡ None → (end : Ending)
      → FailsGrammar fault_of store name end → end ≡ ending.NoMemory
  grammar-well fault_of name bytes is small passes end (not_read e fails) = reads-well file_limit name bytes is small end fails
  grammar-well fault_of name bytes is small passes end (not_in_grammar read fault has found) =
      let same = same-file store name bytes read is (has.1 told) in
      let none : fault_of read ≡ None = ap fault_of (sym same) ∙ passes in
      absurd (cc)

  pub view-well : (name bytes : List ℕ) → store.before.file name ≡ Some bytes → reference_fault bytes ≡ None → (end : Ending)
      → FailsReference store name end → end ≡ ending.NoMemory
  view-well name bytes is passes end (viewed.no_view fails) = absurd (read-not file_limit name bytes is fails)
  view-well name bytes is passes end (viewed.not_in_grammar fault reads) =
      let same = same-file store name bytes reads.file is (reads.is_read told) in
      let found = (reads.is told).fault_is in
      let none : reference_fault reads.file ≡ None = ap reference_fault (sym same) ∙ passes in
      absurd (cc)
  view-well name bytes is passes end (viewed.device fails) = absurd (device-not fails)
  view-well name bytes is passes end viewed.no_memory = refl

  pub new-well : (name : List ℕ) → has_name store.before name ≡ false → (end : Ending) → IsNotNew store name end → end ≡ ending.NoMemory
  new-well name is end (test_failed fails) = absurd (call-not fails)
  new-well name is end (is_there there) =
      let found = there told in
      absurd (cc)
  new-well name is end no_memory_to_name = refl

  pub written-well : (written : List Output) (name : List ℕ) (end : Ending) → IsNotWritten store written name end → end ≡ ending.NoMemory
  written-well written name end (write_failed fails) = absurd (call-not fails)
  written-well written name end (was_there untold) = absurd (untold told)
  written-well written name end no_memory_to_write = refl
