use Rattle.std.proofs.Common.{◌≡◌, ◌∙◌, ℕ, List, ap, length, refl}
use Rattle.coalition_map.specs.Coalitions.{PlanNumbers}
use Rattle.lms_bytes.specs.declared.params.Params.{Params}
use Rattle.reference_value.specs.Joins.{joined_chains}
use Rattle.dealer.proofs.Mapped.{length_over, over_all}
use Rattle.dealer.proofs.signing.unmask_chains.Goals as goal

pub join_chains-requires-clause-room : goal.join_chains-requires-clause-room
join_chains-requires-clause-room c = c.deref_mut-2.ensures.len ∙ c.in_ok-chains.ensures.len

pub join_chains-requires-clause-sums : goal.join_chains-requires-clause-sums
join_chains-requires-clause-sums c = c.deref-2.ensures.len ∙ c.in_ok-sums.ensures.len

pub returns-clause-length : goal.returns-clause-length
returns-clause-length c =
    let size = c.join_chains.auto.out ∙ c.deref_mut-2.ensures.len in
    length_over c.in_ok-chains.chains.len c.join_chains.new.out c.in_ok-chains.chains.items size ∙ c.in_ok-chains.ensures.len

pub write_chain_sums-requires-clause-digest : goal.write_chain_sums-requires-clause-digest
write_chain_sums-requires-clause-digest c = c.requires.digest

pub write_chain_sums-requires-clause-room : goal.write_chain_sums-requires-clause-room
write_chain_sums-requires-clause-room c = c.deref_mut.ensures.len ∙ c.in_ok-sums.ensures.len

pub join_chains-requires-clause-digest : goal.join_chains-requires-clause-digest
join_chains-requires-clause-digest c = c.requires.digest

pub join_chains-requires-clause-leaf : goal.join_chains-requires-clause-leaf
join_chains-requires-clause-leaf c = c.requires.leaf

pub join_chains-requires-clause-set : goal.join_chains-requires-clause-set
join_chains-requires-clause-set c = c.new-cells.ensures.set

pub new-cells-requires-clause-exact : goal.new-cells-requires-clause-exact
new-cells-requires-clause-exact c = ap length c.deref.ensures.value ∙ c.requires.fits.reference

pub new-cells-requires-clause-height : goal.new-cells-requires-clause-height
new-cells-requires-clause-height c = c.requires.fits.height

pub unwrap-requires : goal.unwrap-requires
unwrap-requires c =
    c.join_chains.ensures.succeeds refl refl (rw c.new-cells.ensures.plan (ap length (c.new-cells.ensures.leaves ∙ c.deref.ensures.value) ∙ c.requires.fits.reference))

-- chains that are joined from the same parts
same_chains : (params : Params) (plan plan' : PlanNumbers) (leaves leaves' : List ℕ) (q : ℕ) (digest sums sums' : List ℕ) → plan ≡ plan' → leaves ≡ leaves' → sums ≡ sums'
    → joined_chains params plan leaves q digest sums ≡ joined_chains params plan' leaves' q digest sums'
same_chains params plan plan' leaves leaves' q digest sums sums' a b e = rw (a, b, e) refl

pub returns-clause-chains : goal.returns-clause-chains
returns-clause-chains c =
    let values = rw c.unwrap.ensures at (c.join_chains.ensures.values refl) in
    let leaves = c.new-cells.ensures.leaves ∙ c.deref.ensures.value in
    let sums = c.deref-2.ensures.value
    ∙ over_all c.in_ok-sums.sums.len c.write_chain_sums.new.out c.in_ok-sums.sums.items _ (c.write_chain_sums.auto.out ∙ c.deref_mut.ensures.len) c.write_chain_sums.ensures in
    over_all c.in_ok-chains.chains.len c.join_chains.new.out c.in_ok-chains.chains.items _ (c.join_chains.auto.out ∙ c.deref_mut-2.ensures.len)
    (values ∙ same_chains _ _ _ _ _ _ _ _ _ c.new-cells.ensures.plan leaves sums)
