use Rattle.std.proofs.Common.{◌≡◌, ◌<◌, ℕ, refl, sym, ◌∙◌, subst}
use Rattle.disk_trait.specs.MemDisk.{MemState}
use Rattle.drill_trustees.specs.Members.{SameLeaves, leaf_in}
use Rattle.opening_journal.specs.Entries.{state_in_file}
use Rattle.drill_trustees.proofs.Journals.{file-of, leaves-of}
use Rattle.drill_trustees.proofs.Results.{if_ok_then}
use Rattle.drill_trustees.specs.declared.member.Member.{Member}
use Rattle.drill_trustees.proofs.member.Member.restarted.Goals as goal

pub load-requires-clause-steady : goal.load-requires-clause-steady
load-requires-clause-steady c = rw c.end.ensures.disk c.args.self.steady

pub load-requires-clause-file : goal.load-requires-clause-file
load-requires-clause-file c =
    let m = c.args.self in
    let e = c.end.ensures in
    rw e.disk (file-of m.trustee m.share m.own m.hash_length m.height e.header e.params _ (e.holds.reads refl))

pub returns-clause-leaves : goal.returns-clause-leaves
returns-clause-leaves c =
    let m = c.args.self in
    let e = c.end.ensures in
    let was = leaves-of m.trustee m.share m.own m.hash_length m.height e.header e.params _ m.settled (e.holds.reads refl) in
    let here = subst (λ (disk : MemState). (q : ℕ) → q < 32 → state_in_file 32 disk.bytes q ≡ leaf_in m q) (sym e.disk) was in
    if_ok_then (λ (member : Member). (q : ℕ) → q < 32 → leaf_in member q ≡ state_in_file 32 c.end.result.bytes q) (λ (member : Member). SameLeaves (leaf_in m) (leaf_in member))
    c.load.result (λ member same q within. same q within ∙ here q within) c.load.ensures.leaves
