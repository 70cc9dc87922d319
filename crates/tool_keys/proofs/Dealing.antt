-- What is dealt as the words say.
use Rattle.std.proofs.Common.{◌≡◌, ◌<◌, ◌≤◌, ◌⊎◌, ℕ, false, List, Option, IsTrue, ◌^◌, length, refl, sym, ap, subst, inl, inr, ◌∙◌, arith, map}
use Rattle.std.proofs.lemmas.List.{length-map}
use Rattle.std.proofs.lemmas.List.FromFn.{length-map-range_with_len}
use Rattle.coalition_map.specs.Coalitions.{IsPlan, PlanNumbers, count_of}
use Rattle.dealer.specs.Committed.{FailsCommitted, not_dealt}
use Rattle.dealer.specs.Entropy.{dealing_of}
use Rattle.dealer.specs.Faults.{HasFault, IsDealable}
use Rattle.dealer.specs.Files.{AreFiles, share_file}
use Rattle.dealer.specs.declared.committed.CommittedFault.{CommittedFault}
use Rattle.dealer.specs.declared.committed.CommittedFault.TheVariants.{Deal, TooLarge}
use Rattle.dealer.specs.declared.faults.DealFault.{DealFault}
use Rattle.dealer.specs.declared.faults.DealFault.TheVariants.{NoMemory}
use Rattle.dealer.specs.declared.files.DealingFiles.{DealingFiles}
use Rattle.lms_bytes.specs.declared.params.Params.{Params}
use Rattle.reference_value.specs.Dealing.{Dealing}
use Rattle.share_files.specs.Commits.{commits_length}
use Rattle.tool_keys.specs.Deal.{DealEnds, IsDealableBy, IsDealtTo, IsNotDealt, IsReady, IsSet, asked_commits, outputs_of, plan_of}
use Rattle.tool_keys.specs.Deal.{faulty, no_memory, too_large}
use Rattle.tool_base.specs.Ending as ending
use Rattle.tool_base.specs.Ending.{Ending}
use Rattle.tool_keys.specs.Naming.{named_files}
use Rattle.tool_keys.specs.Steps.{Writes, all_new, given}
use Rattle.tool_base.specs.Outputs.{AreDifferent, Output}
use Rattle.tool_keys.specs.Undealt.{end_of_fault}
use Rattle.tool_base.specs.World.{StoreRun}
use Rattle.tool_base.specs.declared.undealt.Undealt.TheVariants.{Commitments}
use Rattle.tool_words.specs.Words.{DealWords}
use Rattle.tool_keys.proofs.Names.{deal_differ}
use Rattle.tool_keys.proofs.Naming.{named_all}

pub refused : (words : DealWords) (entropy : List ℕ) (params : Params) (plan : PlanNumbers) (fault : DealFault) → words.large ≡ false → IsSet words params
    → plan ≡ plan_of words params → IsPlan plan
    → ((fault ≡ NoMemory) × IsDealable false params plan entropy) ⊎ HasFault false params plan entropy fault → IsNotDealt words entropy (end_of_fault fault)
refused words entropy params plan fault small set same sound (inl none) = rw none.0 no_memory
refused words entropy params plan fault small set same sound (inr has) = faulty params fault set (rw (← same) sound) (rw (small, ← same) has)

-- the end if there is no dealing with commitments
abbrev pub end_of_committed : CommittedFault → Ending
end_of_committed (Deal fault) = end_of_fault fault
end_of_committed (TooLarge bytes) = ending.NotDealt (Commitments bytes)

pub committed_refused : (words : DealWords) (entropy : List ℕ) (params : Params) (plan : PlanNumbers) (fault : CommittedFault) → words.large ≡ false → IsTrue words.commit
    → IsSet words params → plan ≡ plan_of words params → IsPlan plan
    → FailsCommitted params plan entropy fault → IsNotDealt words entropy (end_of_committed fault)
committed_refused words entropy params plan _ small commit set same sound (not_dealt fault has) = faulty params fault set (rw (← same) sound) (rw (small, ← same) has)
committed_refused words entropy params plan _ less commit set same sound (FailsCommitted.too_large dealable large) =
    subst (λ p. IsNotDealt words entropy (ending.NotDealt (Commitments (commits_length params p)))) (sym same)
    (too_large params commit set (rw (← same) sound) (rw (← same) dealable) (subst (λ p. 67108864 < commits_length params p) same large))
committed_refused words entropy params plan _ less commit set same sound (FailsCommitted.no_memory dealable small) = no_memory

pub few_shares : (d : Dealing) (files : DealingFiles) → IsPlan d.plan → AreFiles d files → length files.shares.items ≤ 12
few_shares d files sound are =
    let n = sound.threshold.n_within in
    let sizes = ap length are.shares_are in
    let made = length-map files.shares.items (λ file. file.items) in
    let all = length-map-range_with_len (share_file d) 1 d.plan.n in
    omega (arith, sizes, made, all, n)

pub named_dealing : (words : DealWords) (d : Dealing) (files : DealingFiles) (commits : Option (List ℕ)) → AreFiles d files
    → commits ≡ asked_commits words.commit d → named_files words.prefix files commits ≡ outputs_of words d
named_dealing words d files commits are asked =
    rw (are.public_is, are.tree_is, are.reference_is, are.shares_are, asked, named_all words.prefix (share_file d) 1 d.plan.n) refl

pub dealt_to : (words : DealWords) (entropy : List ℕ) (params : Params) (plan : PlanNumbers) (files : DealingFiles) (commits : Option (List ℕ))
    (outputs : List Output) (leaves coalitions : ℕ)
    → IsSet words params → plan ≡ plan_of words params → IsPlan plan → IsDealableBy words params plan entropy
    → AreFiles (dealing_of params plan entropy) files → commits ≡ asked_commits words.commit (dealing_of params plan entropy)
    → outputs ≡ named_files words.prefix files commits → leaves ≡ 2 ^ params.h → coalitions ≡ count_of plan
    → IsDealtTo words entropy outputs (ending.Dealt leaves coalitions)
dealt_to words entropy params plan files commits outputs leaves coalitions set same sound dealable are asked named all count = record {
  params = params;
  set = set;
  plan = rw (← same) sound;
  dealable = rw (← same) dealable;
  outputs_are = subst (λ p. outputs ≡ outputs_of words (dealing_of params p entropy)) same
      (named ∙ named_dealing words (dealing_of params plan entropy) files commits are asked);
  done_is = subst (λ p. ending.Dealt leaves coalitions ≡ ending.Dealt (2 ^ params.h) (count_of p)) same (rw (all, count) refl);
}

pub ready_then : (store : StoreRun) (words : DealWords) (outputs : List Output) (done end : Ending) (written : List Output) → IsReady store words outputs done
    → Writes store outputs done end written → DealEnds store words end written
ready_then store words outputs done end written ready writes =
    given ready.entropy end written ready.read (given (outputs, done) end written ready.dealt (all_new end written ready.new writes))

pub dealt_differ : (words : DealWords) (entropy : List ℕ) (outputs : List Output) (done : Ending) → IsDealtTo words entropy outputs done
    → AreDifferent (map (λ output. output.name) outputs)
dealt_differ words entropy outputs done dealt =
    rw dealt.outputs_are (deal_differ words (dealing_of dealt.params (plan_of words dealt.params) entropy) dealt.plan.threshold.n_within)
