use Rattle.sorted_list.proofs.Places.{held}
use Rattle.sorted_list.proofs.sorted_list.SortedList.holds.Goals as goal

pub returns : goal.returns
returns g c =
    rw c.is_ok.ensures.value
    (held g.T.Ord.cmp g.met.T.Ord.total _ _ c.search.result c.search.ensures.found c.search.ensures.absent)
