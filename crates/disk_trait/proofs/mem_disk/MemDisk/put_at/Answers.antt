use Rattle.std.proofs.Common.{◌≡◌, ℕ, ◌+◌, ◌-◌, ◌≤◌, length, take, replicate, true, refl, ◌∙◌, ap, arith, rules, length-take}
use Rattle.std.proofs.lemmas.List.{length-replicate}
use Rattle.disk_trait.specs.Images.{written}
use Rattle.disk_trait.specs.MemDisk.{MemState}
use Rattle.disk_trait.specs.MemDiskFields.{state_of}
use Rattle.disk_trait.proofs.Images.{follows, changes-written}
use Rattle.disk_trait.proofs.Marks.{agree-written}
use Rattle.disk_trait.proofs.States.{with-bytes}
use Rattle.disk_trait.proofs.Written.{take-written}
use Rattle.disk_trait.proofs.mem_disk.MemDisk.put_at.Goals as goal

-- what the two calls on the buffers leave
record Left (c : goal.After-self-1) : Type 0 where
  at_len : c.args.at ≤ c.self.inside.len
  fits : c.args.at + length c.args.bytes.now ≤ length c.self.inside.bytes.items
  marks : c.mark.new.pending.items ≡ written c.self.inside.pending.items c.args.at (replicate (length c.args.bytes.now) true)

left : (c : goal.After-self-1) → Left c
left c =
    let inside = c.self.inside in
    let whole = c.self.invariant in
    let size : length (take inside.len inside.bytes.items) ≡ length c.args.self.now.bytes = ap (λ (s : MemState). length s.bytes) c.self.view_is in
    let room : length inside.bytes.items ≡ c.args.self.now.capacity = ap (λ (s : MemState). s.capacity) c.self.view_is in
    let count : (c.args.at + length c.args.bytes.now) - c.args.at ≡ length c.args.bytes.now = omega arith in
    record {
      at_len = omega (arith, c.requires.within, size, length-take inside.len inside.bytes.items);
      fits = omega (arith, c.requires.fits, room);
      marks = c.mark.ensures.items ∙ ap (λ (n : ℕ). written inside.pending.items c.args.at (replicate n true)) count;
    }

pub invariant_of-self : goal.invariant_of-self
invariant_of-self c =
    let inside = c.self.inside in
    let whole = c.self.invariant in
    let l = left c in
    let agree = agree-written _ _ _ _ _ whole.agree c.args.at c.args.bytes.now l.at_len whole.within whole.pending_size in
    record {
      stable_size = search rules;
      pending_size = search rules;
      stable_within = omega (arith, whole.stable_within, c.max-self-inside.ensures);
      within = omega (arith, l.fits, whole.within, c.max-self-inside.ensures, c.put.ensures.len, c.put.new.buffer.ok.0, inside.bytes.ok.0);
      agree = rw (c.max-self-inside.ensures, c.put.ensures.items, l.marks) agree;
    }

pub returns-clause-after : goal.returns-clause-after
returns-clause-after c =
    let inside = c.self.inside in
    let whole = c.self.invariant in
    let l = left c in
    let ys = c.args.bytes.now in
    let n = length ys in
    let bytes : take c.max-self-inside.result c.put.new.buffer.items ≡ written (take inside.len inside.bytes.items) c.args.at ys =
    rw (c.max-self-inside.ensures, c.put.ensures.items) (take-written inside.bytes.items ys inside.len c.args.at n refl l.at_len whole.within l.fits) in
    let pending : take c.max-self-inside.result c.mark.new.pending.items ≡ written (take inside.len inside.pending.items) c.args.at (replicate n true) =
    rw (c.max-self-inside.ensures, l.marks) (take-written inside.pending.items (replicate n true) inside.len c.args.at n (length-replicate n true) l.at_len (omega arith) (omega arith)) in
    let capacity : length c.put.new.buffer.items ≡ length inside.bytes.items = search rules in
    rw (← c.self.view_is, capacity) (with-bytes (state_of inside) _ _ _ _ bytes pending)

pub returns-clause-images : goal.returns-clause-images
returns-clause-images c =
    let inside = c.self.inside in
    let whole = c.self.invariant in
    let l = left c in
    rw (← c.self.view_is, c.max-self-inside.ensures, c.put.ensures.items, l.marks)
    (follows c.args.at (length c.args.bytes.now) _ _ _ _ _ (changes-written inside.bytes.items c.args.bytes.now inside.pending.items inside.len c.args.at l.at_len whole.within whole.pending_size l.fits))
