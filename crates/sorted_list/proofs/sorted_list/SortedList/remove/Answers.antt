use Rattle.std.proofs.Common.{◌≡◌, ap, slice_index_or}
use Rattle.std.proofs.lemmas.List.Sorted.{IsPermutation-remove}
use Rattle.sorted_list.proofs.sorted_list.SortedList.remove.Goals as goal

pub returns-in-Ok-clause-removed : goal.returns-in-Ok-clause-removed
returns-in-Ok-clause-removed g c holds =
    let same = ap (λ s. s.items) c.self.view_is in
    let found = c.in-Ok.ensures.found in
    let taken : c.remove.result ≡ slice_index_or c.args.self.now.items c.in-Ok.place c.remove.result =
    rw (← same) c.remove.ensures.value in (
      c.remove.result,
      rw taken (found.1 c.remove.result),
      rw (c.remove.ensures.items, same) (IsPermutation-remove _ _ _ found.0 taken),
    )
