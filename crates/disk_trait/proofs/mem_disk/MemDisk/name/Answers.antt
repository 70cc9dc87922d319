use Rattle.std.proofs.Common.{◌-◌, ◌≤◌, length, take, true, ◌∙◌, ap, arith, rules}
use Rattle.disk_trait.specs.MemDiskFields.{state_of}
use Rattle.disk_trait.proofs.Images.{follows, changes-named}
use Rattle.disk_trait.proofs.Marks.{agree-marked}
use Rattle.disk_trait.proofs.States.{with-pending}
use Rattle.disk_trait.proofs.Written.{take-named}
use Rattle.disk_trait.proofs.mem_disk.MemDisk.name.Goals as goal

pub invariant_of-self : goal.invariant_of-self
invariant_of-self c =
    let whole = c.self.invariant in
    let from = c.min-from.result in
    let to = c.min-to.result in
    let there : from ≤ length c.self.inside.pending.items = omega (arith, whole.pending_size, whole.within) in
    record {
      stable_size = whole.stable_size;
      pending_size = search rules;
      stable_within = whole.stable_within;
      within = whole.within;
      agree = rw c.mark.ensures.items (agree-marked _ _ _ _ _ whole.agree from (to - from) there);
    }

pub returns-clause-after : goal.returns-clause-after
returns-clause-after c =
    rw (← c.self.view_is) (with-pending (state_of c.self.inside) _ _ (ap (take c.self.inside.len) c.mark.ensures.items ∙ take-named c.self.inside.pending.items true c.self.inside.len c.args.at c.args.n c.min-from.result c.min-to.result (omega arith) (omega arith) (omega arith)))

pub returns-clause-images : goal.returns-clause-images
returns-clause-images c =
    let inside = c.self.inside in
    let whole = c.self.invariant in
    rw (← c.self.view_is, c.mark.ensures.items)
    (follows c.args.at c.args.n _ _ _ _ _ (changes-named inside.bytes.items inside.pending.items inside.len c.args.at c.args.n c.min-from.result c.min-to.result (omega arith) (omega arith) (omega arith) (omega arith)))
