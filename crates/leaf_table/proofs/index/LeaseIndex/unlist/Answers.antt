use Rattle.std.proofs.Common.{◌≡◌, ◌∙◌, ◌%◌, List, ◌∷◌, subst, sym, arith}
use Rattle.std.specs.List.Sorted.{IsPermutation}
use Rattle.std.proofs.lemmas.List.{length-set}
use Rattle.coalition_map.specs.Coalitions.{count_of}
use Rattle.leaf_table.specs.Index.{IsIndex, Listed}
use Rattle.leaf_table.proofs.Indexing.{full≢free, half≢free, lists-less}
use Rattle.leaf_table.proofs.Orders.{key_cmp, listed-exact, pair_cmp}
use Rattle.leaf_table.proofs.Walking.{free-kept}
use Rattle.sorted_list.specs.Sorted.{Holds, IsAscending}
use Rattle.slot_file.specs.declared.slot.Slot.{Slot}
use Rattle.slot_file.specs.declared.slot.Slot.TheVariants.{Full}
use Rattle.leaf_table.proofs.index.LeaseIndex.unlist.Goals as goal

pub returns : goal.returns
returns c a b moment slots was =
    let plan = c.args.plan.now in
    let leaf = c.args.leaf in
    let id = c.args.id.now in
    let self = c.args.self.now in
    let old = self.leases.items in
    let new = c.remove.new.self in
    let slot = Full a b moment in
    let item : Listed = ((leaf % count_of plan, id), leaf) in
    let ascending = subst (λ (l : List Listed). IsAscending (pair_cmp key_cmp) l) c.items-leases.ensures.items c.items-leases.ensures.ascending in
    let same_item : ((c.coalition_of.result, id), leaf) ≡ item = λ i. ((c.coalition_of.ensures.number i, id), leaf) in
    subst (λ (slots : List Slot). IsIndex plan slots (record { leases = new; free = self.free })) (sym was.is)
    (record {
      leases = lists-less plan was.earlier leaf was.within id old new.items was.indexed.leases ascending a b moment was.was
          (λ holds.
          let takes = c.remove.ensures.removed (subst (λ (x : Listed). Holds (pair_cmp key_cmp) old x) (sym same_item) holds) in
          let taken : takes.0 ≡ item = listed-exact _ _ takes.1 ∙ same_item in
          subst (λ (x : Listed). IsPermutation old (x ∷ new.items)) taken takes.2)
          c.remove.ensures.length;
      room = omega (arith, was.indexed.room, c.remove.ensures.room, length-set was.earlier leaf slot);
      count = was.indexed.count;
      free = free-kept plan was.earlier leaf was.within slot (full≢free a b moment) self.free.items was.indexed.free
          (λ free. half≢free id (sym was.was ∙ free));
    })
