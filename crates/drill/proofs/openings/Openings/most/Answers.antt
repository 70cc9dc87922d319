use Rattle.std.proofs.Common.{arith}
use Rattle.drill.proofs.Noting.{here-one}
use Rattle.drill.proofs.openings.Openings.most.Goals.{else-most-count, then-most-count}
use Rattle.drill.proofs.openings.Openings.most.Goals as goal

pub openings-preserved : goal.openings-preserved
openings-preserved c =
    let counted = c.count-count.ensures in
    let before = c.openings.invariant in
    let o = c.index.result.now in
    let p = c.index-in-openings.result.now in
    let one = counted.least (here-one c.args.self.now.list.items c.openings.i o p (omega arith) c.index.ensures c.index-in-openings.ensures) in
    elim c.if-most-count.branch [
      | then-most-count w ↦
          let e = w.most-is in
          record {
            single = λ single. let few = single o.member p.leaf in let most = counted.most in omega arith;
            none = λ is. absurd (omega arith);
            some = λ low. omega arith;
          }
      | else-most-count w ↦
          let e = w.most-is in
          let test = w.if-most-count in
          record { single = λ single. let was = before.single single in omega arith; none = λ is. absurd (omega arith); some = λ low. omega arith }
    ]
