use Rattle.std.proofs.Common.{ap}
use Rattle.std.proofs.lemmas.List.Sorted.{IsPermutation-insert}
use Rattle.sorted_list.proofs.Places.{absent}
use Rattle.sorted_list.proofs.sorted_list.SortedList.insert.Goals as goal

pub returns-in-Err-clause-added : goal.returns-in-Err-clause-added
returns-in-Err-clause-added g c was_added =
    let same = ap (λ s. s.items) c.self.view_is in
    let gap = c.in-Err.ensures.absent in (
      absent g.T.Ord.cmp g.met.T.Ord.total c.args.self.now.items c.args.item c.in-Err.place gap.0 gap.1,
      rw (c.insert.ensures.items, c.unwrap.ensures, same)
          (IsPermutation-insert c.args.self.now.items c.in-Err.place c.args.item),
    )
