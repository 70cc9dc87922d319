-- Requests after requests, and what they did to a pass and to the count of a reference.
use Rattle.aggregator_session.specs.Desks.{DeskState}
use Rattle.std.proofs.Common.{◌≡◌, ◌+◌, ◌*◌, ◌-◌, ◌^◌, ◌≤◌, ◌<◌, ℕ, List, [], ◌∷◌, ◌++◌, length, refl, sym, ap, ◌∙◌, subst, arith, append_assoc, append-nil, length-append}
use Rattle.std.proofs.lemmas.Grind.{flat_map-append}
use Rattle.aggregator_node.specs.Clients.{IsExact, IsSigned, ReferenceState, Request, Stand}
use Rattle.aggregator_node.specs.Turns.{HasSteadyDisk}
use Rattle.aggregator_node.specs.Connections.{added_by, with_status}
use Rattle.aggregator_node.proofs.Statuses.{another, device, other, sixteen, ten, ten-covered, unread, with_status-append, worn}
use Rattle.aggregator_node.proofs.PortTurns.{Steps, signs-count, signs-device, signs-steps, signs-worn, steps-none, steps-then}
use Rattle.leaf_table.specs.declared.lease.Lease.{Lease}
use Rattle.leaf_table.specs.declared.table.TableName.{TableName}
use Rattle.turn_lock.specs.Pass.{Seen}

-- what requests did to a pass, and to the count of the reference that they read
pub record Goes (desk : DeskState) (reference : ReferenceState) (old new : Seen Lease TableName) (before now : ℕ) (requests : List Request) : Type 0 where
  pub steps : Steps old new (2 * length requests)
  pub count : before ≤ now
  pub fresh : new.greatest < 2 ^ 62 → with_status 16 requests ≡ 0
  pub rises : new.floor < 2 ^ 64 - 1 → now < 2 ^ 64 - 1 → old.rises + before + with_status 10 requests ≤ new.rises + now
  pub steady : HasSteadyDisk new.name → IsExact desk reference → with_status 10 requests ≡ 0
  pub own : new.floor ≡ 0 → new.own ≡ old.own ++ added_by requests

module _ (desk : DeskState) (reference : ReferenceState) where
  pub goes-none : (pass : Seen Lease TableName) (count : ℕ) → Goes desk reference pass pass count count []
  goes-none pass count = record {
    steps = steps-none pass 0;
    count = omega arith;
    fresh = λ _. refl;
    rises = λ _ _. omega arith;
    steady = λ _ _. refl;
    own = λ _. sym (append-nil pass.own);
  }

  pub goes-then : (old mid new : Seen Lease TableName) (before count now : ℕ) (requests more : List Request) → Goes desk reference old mid before count requests
      → Goes desk reference mid new count now more → Goes desk reference old new before now (requests ++ more)
  goes-then old mid new before count now requests more a b =
      let first = a.steps in
      let second = b.steps in
      let both : 2 * length requests + 2 * length more ≡ 2 * length (requests ++ more) = omega (arith, length-append requests more) in
      record {
        steps = subst (Steps old new) both (steps-then old mid new (2 * length requests) (2 * length more) first second);
        count = (let p = a.count in let q = b.count in omega (arith, p, q));
        fresh = λ small.
            let later = second.greatest in
            let p = a.fresh (omega (arith, later, small)) in
            let q = b.fresh small in
            omega (arith, p, q, with_status-append 16 requests more);
        rises = λ small few.
            let later = second.floor in
            let grown = b.count in
            let p = a.rises (omega (arith, later, small)) (omega (arith, grown, few)) in
            let q = b.rises small few in
            omega (arith, p, q, with_status-append 10 requests more);
        steady = λ is exact.
            let p = a.steady (subst HasSteadyDisk second.same.name is) exact in
            let q = b.steady is exact in
            omega (arith, p, q, with_status-append 10 requests more);
        own = λ zero.
            let later = second.floor in
            b.own zero ∙ ap (λ (o : List Lease). o ++ added_by more) (a.own (omega (arith, later, zero))) ∙ append_assoc old.own (added_by requests) (added_by more)
            ∙ ap (λ (o : List Lease). old.own ++ o) (sym (flat_map-append (λ (request : Request). request.added) requests more));
      }

  -- one request that was signed
  pub goes-one : (old new : Stand) (request : Request) → IsSigned desk reference old new request → Goes desk reference old.pass new.pass old.faults new.faults (request ∷ [])
  goes-one old new request s =
      let steps = signs-steps _ _ _ _ _ _ s.signs in
      let count = signs-count _ _ _ _ _ _ s.signs in
      record {
        steps = steps;
        count = count;
        fresh = λ small. elim (sixteen request.outcome) [
          | worn is ↦ absurd (let large = signs-worn _ _ _ _ _ _ s.signs is in omega (arith, large, small))
          | another none ↦ omega (arith, none)
        ];
        rises = λ small few.
            let covered = ten-covered request.outcome old.pass.rises new.pass.rises old.faults new.faults steps.rises count
            (λ is. (signs-device _ _ _ _ _ _ s.signs is).0 small) (λ is. let rose = s.rises is in omega (arith, rose, few)) (ten request.outcome) in
            omega (arith, covered);
        steady = λ is exact. elim (ten request.outcome) [
          | device failed ↦ absurd ((signs-device _ _ _ _ _ _ s.signs failed).1 is)
          | unread failed ↦ absurd (s.succeeds exact failed)
          | other none ↦ omega (arith, none)
        ];
        own = λ zero. s.own zero ∙ ap (λ (l : List Lease). old.pass.own ++ l) (sym (append-nil request.added));
      }
