use Rattle.std.proofs.Common.{◌≡◌, ◌-◌, ℕ, List, false, take, replicate, sym, ◌∙◌, ap, arith}
use Rattle.std.proofs.lemmas.List.{length-replicate, length-take-le}
use Rattle.disk_trait.specs.Images.{written}
use Rattle.disk_trait.specs.MemDiskFields.{state_of}
use Rattle.disk_trait.proofs.Fronts.{agree-settled, written-front}
use Rattle.disk_trait.proofs.States.{with-stable}
use Rattle.disk_trait.proofs.mem_disk.MemDisk.settle.Goals as goal

-- the stable buffer after the call that writes to it
stable-is : (c : goal.After-self-1) → c.put.new.buffer.items ≡ written c.self.inside.stable.items 0 (take c.self.inside.len c.self.inside.bytes.items)
stable-is c = c.put.ensures.items ∙ ap (λ (l : List ℕ). written c.self.inside.stable.items 0 (take c.self.inside.len l)) c.deref.ensures.value

pub invariant_of-self : goal.invariant_of-self
invariant_of-self c =
    let inside = c.self.inside in
    let whole = c.self.invariant in
    record {
      stable_size = omega (arith, whole.stable_size, c.put.ensures.len, c.put.new.buffer.ok.0, inside.stable.ok.0);
      pending_size = omega (arith, whole.pending_size, c.mark.ensures.len, c.mark.new.pending.ok.0, inside.pending.ok.0);
      stable_within = omega arith;
      within = whole.within;
      agree = agree-settled inside.len inside.bytes.items inside.stable.items _ _ whole.within (stable-is c);
    }

pub returns : goal.returns
returns c =
    let inside = c.self.inside in
    let len = inside.len in
    let size = length-take-le len inside.bytes.items c.self.invariant.within in
    let none : len - 0 ≡ len = omega arith in
    let marks = c.mark.ensures.items ∙ ap (λ (n : ℕ). written inside.pending.items 0 (replicate n false)) none in
    rw (← c.self.view_is)
    (with-stable (state_of inside) _ _ (ap (take len) (stable-is c) ∙ written-front inside.stable.items (take len inside.bytes.items) len size)
    (ap (take len) marks ∙ written-front inside.pending.items (replicate len false) len (length-replicate len false) ∙ ap (λ (n : ℕ). replicate n false) (sym size)))
