use Rattle.sorted_list.proofs.Places.{below-equal}
use Rattle.sorted_list.proofs.sorted_list.SortedList.place_from.Goals as goal

pub returns-in-Ok-clause-lower : goal.returns-in-Ok-clause-lower
returns-in-Ok-clause-lower g c k d low below =
    let found = c.in-Ok.ensures.found in
    below-equal g.T.Ord.cmp g.met.T.Ord.total _ _ _ (c.search.ensures.ascending k c.in-Ok.place d below found.0) (found.1 d)
