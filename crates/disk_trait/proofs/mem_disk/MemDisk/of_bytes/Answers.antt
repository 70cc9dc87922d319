use Rattle.std.proofs.Common.{◌≡◌, false, length, take, replicate, ap, sym, ◌∙◌, arith, rules}
use Rattle.std.proofs.lemmas.List.{length-replicate, take-replicate}
use Rattle.disk_trait.proofs.Fronts.{agree-begun}
use Rattle.disk_trait.proofs.States.{state_with-stable}
use Rattle.disk_trait.proofs.mem_disk.MemDisk.of_bytes.Goals as goal

unmarked : (c : goal.In_ok-vec) → c.in_ok-vec.field-0.items ≡ replicate c.args.capacity false
unmarked c = search rules

pub returns : goal.returns
returns c =
    let n = length c.args.bytes.now in
    state_with-stable c.args.bytes.now _ _ _ c.args.capacity _ _ c.in_ok-buffer_of.ensures.begins c.in_ok-buffer_of-2.ensures.begins
    (ap (take n) (unmarked c) ∙ take-replicate n c.args.capacity false c.requires) c.in_ok-buffer_of.ensures.size

pub invariant_of-result : goal.invariant_of-result
invariant_of-result c =
    let size = c.in_ok-buffer_of.ensures.size in
    record {
      stable_size = c.in_ok-buffer_of-2.ensures.size ∙ sym size;
      pending_size = ap length (unmarked c) ∙ length-replicate c.args.capacity false ∙ sym size;
      stable_within = omega arith;
      within = omega (arith, c.requires, size);
      agree = agree-begun _ c.args.bytes.now _ _ _ c.in_ok-buffer_of.ensures.begins c.in_ok-buffer_of-2.ensures.begins;
    }
