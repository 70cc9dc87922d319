use Rattle.std.proofs.Common.{◌≡◌, ◌<◌, ◌*◌, ℕ, length}
use Rattle.std.specs.Prelude.{slice_index_or}
use Rattle.slot_file.specs.Layout.{part, slot_of, slot_size}
use Rattle.slot_file.specs.declared.slot.Slot.TheVariants.{Free}
use Rattle.slot_file.proofs.slot.read_block.Given as goal

abbrev pub invariant-loop-place : goal.invariant-loop-place
invariant-loop-place l = record {
  count : length l.out ≡ length l.initial.out;
  slots : (k : ℕ) → k < l.place → slice_index_or l.out k Free ≡ slot_of l.version (part (slot_size l.version * k) (slot_size l.version) l.block);
}
