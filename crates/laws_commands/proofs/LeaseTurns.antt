-- What a turn for a lease comes to if the table is of the dealing's plan and tells its content.
use Rattle.std.proofs.Common.{◌≡◌, ◌^◌, ◌≤◌, ℕ, List, [], Option, Some, None, Result, Ok, Err, IsTrue, IsSomeAnd, refl, sym, subst, ◌∙◌}
use Rattle.std.proofs.lemmas.List.{get_or_default}
use Rattle.aggregator_session.specs.declared.fault.SignFault.{SignFault}
use Rattle.aggregator_session.specs.declared.fault.SignFault.TheVariants as sign
use Rattle.aggregator_node.specs.Signing.{LeaseTurn, lease_answer}
use Rattle.aggregator_node.specs.Signing as signing
use Rattle.coalition_map.specs.Coalitions.{IsLeafAfter, PlanNumbers, coalitions}
use Rattle.coalition_map.proofs.CoalitionLaws.{coalition-distinct}
use Rattle.leaf_table.specs.Leasing.{IsCoalition, LeaseOf, Leases}
use Rattle.leaf_table.specs.Leasing as leasing
use Rattle.leaf_table.specs.State.{TableState}
use Rattle.leaf_table.specs.declared.faults.TableFault.{TableFault}
use Rattle.leaf_table.specs.declared.faults.TableFault.TheVariants.{Damaged, Device, NoLeaf}
use Rattle.leaf_table.specs.declared.lease.Lease.{Lease}
use Rattle.leaf_table.specs.declared.table.TableName.{TableName}
use Rattle.lms_bytes.specs.MessageId.{message_id_bytes}
use Rattle.lms_bytes.specs.declared.message.MessageId.{MessageId}
use Rattle.laws_signing.proofs.Leaves.{lease-own}
use Rattle.turn_lock.specs.Pass.{Seen}

module _ (plan : PlanNumbers) (members : List ℕ) (message : MessageId) (c : ℕ) (coalition : IsCoalition plan members c) where
  -- the table is of this plan, and tells its content
  abbrev pub Fits : Option TableName → Type 0
  Fits o = IsSomeAnd o (λ (name : TableName). (name.plan ≡ plan) × IsTrue name.told)

  -- a leaf of the coalition, or why there is none
  data Found (entries : List Lease) : Result ℕ TableFault → Type 0 where
    found : (leaf : ℕ) → IsLeafAfter plan c None leaf → Found entries (Ok leaf)
    bare : (number : ℕ) → LeaseOf plan entries c (message_id_bytes message) None → Found entries (Err (NoLeaf number))
    failed : Found entries (Err Device)
    damaged : (leaf a b : ℕ) → Found entries (Err (Damaged leaf a b))

  number : (other : ℕ) → IsCoalition plan members other → other ≡ c
  number other own = coalition-distinct plan other c own.within coalition.within (own.members_are ∙ sym coalition.members_are)

  own-leaf : (entries : List Lease) (other leaf : ℕ) → IsCoalition plan members other → LeaseOf plan entries other (message_id_bytes message) (Some leaf) → IsLeafAfter plan c None leaf
  own-leaf entries other leaf own is =
      subst (λ (k : ℕ). IsLeafAfter plan k None leaf) (number other own) (lease-own plan entries other (message_id_bytes message) (Some leaf) leaf is refl)

  leases-find : (before after : TableState) (answer : Result ℕ TableFault) → Leases plan before members message answer after → Found after.entries answer
  leases-find before after answer (leasing.no_coalition never) =
      absurd (never (c, coalition.within, get_or_default (coalitions plan.n plan.k) c members [] coalition.within ∙ coalition.members_are))
  leases-find before after answer (leasing.kept settled other leaf own settles is used) = found leaf (own-leaf settled.entries other leaf own is)
  leases-find before after answer (leasing.made settled other leaf own settles is used) = found leaf (own-leaf settled.entries other leaf own is)
  leases-find before after answer (leasing.no_leaf settled other own settles is) =
      bare other (subst (λ (k : ℕ). LeaseOf plan settled.entries k (message_id_bytes message) None) (number other own) is)
  leases-find before after answer (leasing.unsettled other own doubt) = failed
  leases-find before after answer (leasing.unwritten settled other leaf own settles is used) = failed
  leases-find before after answer (leasing.damaged other a b doubted own doubt neither) = damaged _ a b

  -- the same for a turn: or the pass is worn
  pub data TurnFinds (new : Seen Lease TableName) : Result ℕ SignFault → Type 0 where
    turn_found : (leaf : ℕ) → IsLeafAfter plan c None leaf → TurnFinds new (Ok leaf)
    turn_bare : (number : ℕ) → LeaseOf plan new.log c (message_id_bytes message) None → TurnFinds new (Err (sign.Table (NoLeaf number)))
    turn_failed : TurnFinds new (Err (sign.Table Device))
    turn_worn : 2 ^ 62 ≤ new.greatest → TurnFinds new (Err sign.Worn)

  as-turn : (entries : List Lease) (new : Seen Lease TableName) (answer : Result ℕ TableFault) → new.log ≡ entries → ((leaf a b : ℕ) → answer ≡ Err (Damaged leaf a b) → ⊥) → Found entries answer
      → TurnFinds new (lease_answer answer)
  as-turn entries new answer log whole (found leaf is) = turn_found leaf is
  as-turn entries new answer log whole (bare other is) =
      turn_bare other (subst (λ (e : List Lease). LeaseOf plan e c (message_id_bytes message) None) (sym log) is)
  as-turn entries new answer log whole failed = turn_failed
  as-turn entries new answer log whole (damaged leaf a b) = absurd (whole leaf a b refl)

  pub turn-finds : (old new : Seen Lease TableName) (result : Result ℕ SignFault) → Fits old.name → LeaseTurn members message old new result → TurnFinds new result
  turn-finds old new result fits (signing.no_turn t) = turn_worn t.worn
  turn-finds old new result fits (signing.asked before after answer t asks) =
      let here : Fits (Some before.name) = subst Fits (sym t.named) fits in
      let leases = subst (λ (p : PlanNumbers). Leases p before.state members message answer after.state) here.0 asks.event in
      as-turn after.state.entries new answer t.log (asks.entered.told here.1) (leases-find before.state after.state answer leases)
