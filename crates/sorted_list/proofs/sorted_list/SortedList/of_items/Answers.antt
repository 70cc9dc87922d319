use Rattle.std.proofs.Common.{sym, subst}
use Rattle.std.proofs.lemmas.List.Filters.{dedup_is}
use Rattle.std.proofs.lemmas.List.Kept.{Contains-from_dedup}
use Rattle.std.proofs.lemmas.List.Sorted.{Contains-permutation, IsPermutation-sym}
use Rattle.sorted_list.specs.Sorted.{Holds, IsAscending}
use Rattle.sorted_list.proofs.Sorting.{ascending-dedup, holds-dedup}
use Rattle.sorted_list.proofs.sorted_list.SortedList.of_items.Goals as goal

pub invariant_of-result : goal.invariant_of-result
invariant_of-result g c =
    let is = dedup_is _ _ _ c.dedup.ensures.filtered in
    subst (IsAscending g.T.Ord.cmp) (sym is)
    (ascending-dedup g.T.Ord.cmp g.met.T.Ord.total g.T.PartialEq.eq g.met.T.Ord.matches_eq _ c.sort_unstable.ensures.sorted)

pub returns-clause-among : goal.returns-clause-among
returns-clause-among g c item has =
    let is = dedup_is _ _ _ c.dedup.ensures.filtered in
    Contains-permutation _ _ item (IsPermutation-sym _ _ c.sort_unstable.ensures.permutation)
    (Contains-from_dedup _ _ item (rw is at has))

pub returns-clause-complete : goal.returns-clause-complete
returns-clause-complete g c item has =
    let is = dedup_is _ _ _ c.dedup.ensures.filtered in
    let there = Contains-permutation _ _ item c.sort_unstable.ensures.permutation has in
    subst (λ items. Holds g.T.Ord.cmp items item) (sym is)
    (holds-dedup g.T.Ord.cmp g.met.T.Ord.total g.T.PartialEq.eq g.met.T.Ord.matches_eq g.met.T.Eq.laws _ item there)
