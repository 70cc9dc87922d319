use Rattle.std.proofs.Common.{◌≡◌, ◌∙◌, List, Option, subst, sym}
use Rattle.std.specs.List.{All}
use Rattle.std.specs.Option.{MatchOption}
use Rattle.std.specs.declared.cmp.Ordering.TheVariants.{Less}
use Rattle.sorted_list.specs.Sorted.{IsAscending, IsLeastFrom}
use Rattle.leaf_table.specs.Index.{Listed}
use Rattle.leaf_table.proofs.Looking.{below-none, found-least, other-none}
use Rattle.leaf_table.proofs.Orders.{key-differs, key-is, key_cmp, pair_cmp}
use Rattle.leaf_table.proofs.index.LeaseIndex.leased.Goals as goal

pub returns-in-Some : goal.returns-in-Some
returns-in-Some c plan slots size index =
    let items = c.args.self.now.leases.items in
    let key = key-is c.in-Some.key (c.args.c, c.args.id.now) (sym c.eq.ensures ∙ c.if-eq.true) in
    let ascending = subst (λ (l : List Listed). IsAscending (pair_cmp key_cmp) l) c.items-leases.ensures.items c.items-leases.ensures.ascending in
    found-least plan slots size items index.leases c.args.c c.args.id.now c.in-Some.leaf
    (c.in-Some.key, c.in-Some.leaf) (λ i. (key i, c.in-Some.leaf)) ascending c.in-Some.ensures

pub returns-in_default : goal.returns-in_default
returns-in_default c plan slots size index =
    let items = c.args.self.now.leases.items in
    let key = key-differs c.in-Some.key (c.args.c, c.args.id.now) (sym c.eq.ensures ∙ c.if-eq.false) in
    let ascending = subst (λ (l : List Listed). IsAscending (pair_cmp key_cmp) l) c.items-leases.ensures.items c.items-leases.ensures.ascending in
    other-none plan slots size items index.leases c.args.c c.args.id.now
    (c.in-Some.key, c.in-Some.leaf) key ascending c.in-Some.ensures

pub returns-in_default-2 : goal.returns-in_default-2
returns-in_default-2 c plan slots size index =
    let items = c.args.self.now.leases.items in
    let low : Listed = ((c.args.c, c.args.id.now), 0) in
    below-none plan slots size items index.leases c.args.c c.args.id.now
    (subst (λ (found : Option Listed).
    MatchOption found (All (λ item. pair_cmp key_cmp item low ≡ Less) items) (IsLeastFrom (pair_cmp key_cmp) items low))
    c.in_default.is c.least_from.ensures)
