use Rattle.std.proofs.Common.{◌≡◌, ◌↔◌, ◌⊎◌, ◌%◌, ◌<◌, ◌∙◌, ℕ, None, List, get_or, length, set, ap, subst, sym, arith}
use Rattle.std.proofs.lemmas.List.{get_or-set_other, get_or-set_same, length-set}
use Rattle.std.specs.List.{Contains}
use Rattle.std.specs.Vec.{with_item}
use Rattle.coalition_map.specs.Coalitions.{count_of}
use Rattle.leaf_table.specs.Entries.{IsFree}
use Rattle.leaf_table.specs.Index.{IsFound, IsIndex, Listed}
use Rattle.leaf_table.proofs.Indexing.{half≢free, lists-more, taken-less}
use Rattle.leaf_table.proofs.Orders.{key_cmp, listed-exact, pair_cmp}
use Rattle.leaf_table.proofs.Walking.{free-taken}
use Rattle.slot_file.specs.declared.slot.Slot.{Slot}
use Rattle.slot_file.specs.declared.slot.Slot.TheVariants.{Half}
use Rattle.sorted_list.proofs.Exact.{contains-added}
use Rattle.leaf_table.proofs.index.LeaseIndex.list.Goals as goal

pub insert-requires : goal.insert-requires
insert-requires g c =
    let was = c.requires.index in
    omega (arith, was.indexed.leases.few, was.indexed.room, taken-less was.earlier c.args.leaf was.within was.was)

pub returns : goal.returns
returns g c =
    let was = c.requires.index in
    let plan = c.args.plan.now in
    let leaf = c.args.leaf in
    let id = c.args.id.now in
    let k = c.coalition_of-c.result in
    let own = c.coalition_of-c.ensures.number in
    let free = c.args.self.now.free.items in
    let new = set free k c.free_after-free.result in
    let old = c.args.self.now.leases.items in
    let made = set was.earlier leaf (Half id) in
    let inside : k < length free = omega (arith, c.coalition_of-c.ensures.within, was.indexed.count) in
    let has = contains-added (pair_cmp key_cmp) listed-exact c.insert.result old c.insert.new.self.items ((k, id), leaf) (λ yes. (c.insert.ensures.added yes).1)
    (λ absent. let found = c.insert.ensures.there absent in (found.0, ap (λ l. l.items) found.1)) in
    let ours = subst (λ (n : ℕ). (other : Listed) → Contains c.insert.new.self.items other ↔ ((other ≡ ((n, id), leaf)) ⊎ Contains old other)) own has in
    let kept = subst (λ (n : ℕ). get_or new n None ≡ c.free_after-free.result) own (get_or-set_same free k c.free_after-free.result None inside) in
    let found = subst (IsFound plan made (leaf % count_of plan) IsFree) (sym kept)
    (subst (λ (slots : List Slot). IsFound plan slots (leaf % count_of plan) IsFree c.free_after-free.result) was.is c.free_after-free.ensures) in
    subst (λ (slots : List Slot). IsIndex plan slots (record { leases = c.insert.new.self; free = with_item c.args.self.now.free k c.free_after-free.result })) (sym was.is)
    (record {
      leases = lists-more plan was.earlier leaf was.within id old _ was.indexed.leases was.was ours c.insert.ensures.length;
      room = omega (arith, was.indexed.room, c.insert.ensures.room, length-set was.earlier leaf (Half id));
      count = length-set free k c.free_after-free.result ∙ was.indexed.count;
      free = free-taken plan was.earlier leaf was.within (Half id) (half≢free id) free was.indexed.free new found
          (λ other differs. get_or-set_other free k other c.free_after-free.result None (λ same. differs (same ∙ own)));
    })
