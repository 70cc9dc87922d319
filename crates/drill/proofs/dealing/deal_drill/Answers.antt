use Rattle.std.proofs.Common.{inl, inr, subst, sym}
use Rattle.dealer.specs.Dealt.{IsDealt}
use Rattle.dealer.specs.Entropy.{dealing_of}
use Rattle.lms_bytes.specs.declared.params.Params.{Params}
use Rattle.drill.proofs.Desks.{desk-of, no-fault}
use Rattle.drill.proofs.dealing.deal_drill.Goals as goal

pub memory_fault-requires : goal.memory_fault-requires
memory_fault-requires c = elim c.in-Err.ensures.cause [
  | inl none ↦ none.0
  | inr has ↦ absurd (no-fault c.rehearsal_params.result c.plan_of_three-plan.result c.args.entropy.now c.requires.0 _ c.rehearsal_params.ensures.height c.plan_of_three-plan.ensures c.requires.1 has)
]

pub invariant_of-result : goal.invariant_of-result
invariant_of-result c =
    let d = desk-of c.rehearsal_params.result c.plan_of_three-plan.result c.args.entropy.now c.in-Ok.dealt c.rehearsal_params.ensures.lms c.rehearsal_params.ensures.ots c.rehearsal_params.ensures.hash_length c.rehearsal_params.ensures.chains c.rehearsal_params.ensures.height
    c.plan_of_three-plan.ensures c.in-Ok.ensures.dealt in
    record {
      plan_is = c.plan_of_three-plan.ensures;
      lms = d.lms;
      ots = d.ots;
      hash_length = d.hash_length;
      chains = d.chains;
      height = d.height;
      exact = d.exact;
      nodes = d.nodes;
      levels = d.levels;
      count = d.count;
      shares = d.shares;
    }

pub returns-in-Ok : goal.returns-in-Ok
returns-in-Ok c =
    subst (λ (p : Params). IsDealt (dealing_of p c.plan_of_three-plan.result c.args.entropy.now) c.in-Ok.dealt) (sym c.in-Ok.ensures.dealt.params) c.in-Ok.ensures.dealt
