use Rattle.std.proofs.Common.{◌≡◌, ◌<◌, ℕ, refl, ◌∙◌, ap, subst}
use Rattle.disk_trait.specs.MemDisk.{is_steady}
use Rattle.drill_trustees.specs.Members.{leaf_in}
use Rattle.opening_journal.specs.Entries.{IsFree, state_in_file}
use Rattle.drill_trustees.proofs.Results.{if_ok_then}
use Rattle.drill_trustees.proofs.Starting.{new-file, new-free}
use Rattle.drill_trustees.specs.declared.member.Member.{Member}
use Rattle.slot_file.specs.Fresh.{IsNew}
use Rattle.slot_file.specs.declared.header.Header.{Header}
use Rattle.drill_trustees.proofs.member.Member.new.Goals as goal

pub load-requires-clause-steady : goal.load-requires-clause-steady
load-requires-clause-steady c = c.prepare.ensures.stays.steady ∙ ap is_steady c.in_ok-disk.ensures

pub load-requires-clause-file : goal.load-requires-clause-file
load-requires-clause-file c =
    new-file c.args.share.now 32 c.prepare.new.disk.bytes (subst (λ (h : Header). IsNew h 32 c.prepare.new.disk.bytes) c.header_of.ensures (c.in-Ok.ensures.new refl))

pub returns-clause-free : goal.returns-clause-free
returns-clause-free c =
    let new = subst (λ (h : Header). IsNew h 32 c.prepare.new.disk.bytes) c.header_of.ensures (c.in-Ok.ensures.new refl) in
    if_ok_then (λ (member : Member). (q : ℕ) → q < 32 → leaf_in member q ≡ state_in_file 32 c.prepare.new.disk.bytes q)
    (λ (member : Member). (q : ℕ) → q < 32 → leaf_in member q ≡ IsFree) c.load.result
    (λ member same q within. same q within ∙ new-free c.args.share.now 32 c.prepare.new.disk.bytes new 32 q within) c.load.ensures.leaves
