use Rattle.std.proofs.Common.{subst, ◌%◌, ◌≡◌, ℕ, List, [], ◌∷◌, ◌<◌, ◌≤◌, Contains, sym, refl, arith, length-append}
use Rattle.coalition_map.specs.Coalitions.{IsSubset, PlanNumbers, coalition, count_of, leaf_members}
use Rattle.coalition_map.specs.Members.{below}
use Rattle.coalition_map.proofs.MemberLaws.{below-none, below-more_in, below-more_out, All-from_IsAscendingIn}
use Rattle.std.proofs.lemmas.List.Elements.{All-contains}
use Rattle.reference_value.proofs.Members.{member-room, members-are}
use Rattle.reference_value.proofs.layout.rank.Goals as goal
use Rattle.reference_value.proofs.layout.rank.Goals.{then-has, else-has}

pub others-init : goal.others-init
others-init c =
    let none = below-none 1 _ 1 c.members_of-members.result c.members_of-members.ensures.subset.ascending (omega arith) in
    record { value = rw none refl; small = omega arith }

pub others-preserved : goal.others-preserved
others-preserved c =
    let before = c.others.invariant in
    elim c.if-has.branch [
      | then-has w ↦
          let next = below-more_in 1 _ c.others.other c.members_of-members.result c.members_of-members.ensures.subset.ascending (c.has.ensures.0 w.if-has.true) in
          record {
            value = rw (next, w.before-is) (omega (arith, before.value, length-append (below c.others.other c.members_of-members.result) (c.others.other ∷ [])));
            small = rw w.before-is (omega (arith, before.small));
          }
      | else-has w ↦
          let same = below-more_out c.others.other c.members_of-members.result (λ m. let has = c.has.ensures.1 m in let not = w.if-has.false in cc) in
          record { value = rw (same, w.before-is) before.value; small = rw w.before-is (omega (arith, before.small)) }
    ]

-- the walk ends at the trustee, who is a member
record IsDone (plan : PlanNumbers) (q t : ℕ) (members : List ℕ) (other : ℕ) : Type 0 where
  pub members_are : members ≡ leaf_members plan q
  pub member : Contains members t
  pub other_is : other ≡ t

done : (plan : PlanNumbers) (q t e k other : ℕ) (members : List ℕ) → members ≡ leaf_members plan q → IsSubset 1 e k members
    → Contains (leaf_members plan q) t → t ≤ other → (1 ≤ t → other ≤ t) → IsDone plan q t members other
done plan q t e k other members same subset member past within =
    let mine : Contains members t = subst (λ (l : List ℕ). Contains l t) (sym same) member in
    let first = All-contains (λ x. (1 ≤ x) × (x < e)) members t (All-from_IsAscendingIn 1 e members subset.ascending) mine in
    let end = within first.0 in
    record { members_are = same; member = mine; other_is = omega arith }

pub returns-clause-value : goal.returns-clause-value
returns-clause-value c =
    let d = done c.args.plan.now c.args.q c.args.t _ _ c.others.other _ c.members_of-members.ensures.members c.members_of-members.ensures.subset
    c.requires.member c.others-test.false c.others.auto.other-end in
    rw (← d.members_are, ← d.other_is) c.others.invariant.value

pub returns-clause-within : goal.returns-clause-within
returns-clause-within c =
    let d = done c.args.plan.now c.args.q c.args.t _ _ c.others.other _ c.members_of-members.ensures.members c.members_of-members.ensures.subset
    c.requires.member c.others-test.false c.others.auto.other-end in
    let room = rw (← d.other_is) at (member-room _ c.args.t c.members_of-members.result c.members_of-members.ensures.subset.ascending d.member) in
    omega (arith, c.others.invariant.value, c.members_of-members.ensures.subset.size)
