use Rattle.std.proofs.Common.{refl}
use Rattle.drill_trustees.proofs.Journals.{file-of, leaves-of}
use Rattle.drill_trustees.proofs.member.Member.end.Goals as goal

pub returns : goal.returns
returns c =
    let m = c.args.self in
    let e = c.end.ensures in
    rw e.disk (record {
      file = file-of m.trustee m.share m.own m.hash_length m.height e.header e.params _ (e.holds.reads refl);
      leaves = leaves-of m.trustee m.share m.own m.hash_length m.height e.header e.params _ m.settled (e.holds.reads refl);
    })
