-- How `deal` ends: it reads the entropy, tests the typecodes, the threshold, the number of coalitions, the height, the
-- width, the entropy and its keys, and, if commitments are asked for, the length of their file, tests that all outputs
-- are new, and writes them.
use Rattle.std.specs.Prelude.{◌≡◌, ◌<◌, ◌≤◌, ◌^◌, ◌++◌, ℕ, List, [], ◌∷◌, length, Option, None, Some, codes, map, All}
use Rattle.std.specs.Prelude.{Bool, IsTrue, false, if◌then◌else◌}
use Rattle.std.specs.Fmt.{decimal}
use Rattle.std.specs.List.{range_with_len}
use Rattle.coalition_map.specs.Coalitions.{IsPlan, IsThreshold, PlanNumbers, coalitions, count_of}
use Rattle.dealer.specs.Committed.{commits_file}
use Rattle.dealer.specs.Entropy.{dealing_of}
use Rattle.dealer.specs.Faults.{HasFault, IsDealable}
use Rattle.dealer.specs.Files.{public_file, reference_file, share_file, tree_file}
use Rattle.dealer.specs.declared.faults.DealFault.{DealFault}
use Rattle.lms_bytes.specs.Params.{codes_fault}
use Rattle.lms_bytes.specs.declared.faults.KeyFault.{KeyFault}
use Rattle.lms_bytes.specs.declared.params.Params.{Params}
use Rattle.reference_value.specs.Dealing.{Dealing}
use Rattle.share_files.specs.Commits.{commits_length}
use Rattle.stream_io.specs.declared.store.Readers.TheVariants.{Anyone, OwnerAlone}
use Rattle.tool_base.specs.Ending as ending
use Rattle.tool_base.specs.Ending.{Ending}
use Rattle.tool_base.specs.Outputs.{IsNew, Output}
use Rattle.tool_keys.specs.Undealt.{end_of_fault}
use Rattle.tool_desk.specs.Files.{key_name, reference_name, tree_name}
use Rattle.tool_words.specs.Words.{DealWords}
use Rattle.tool_base.specs.World.{StoreRun, Bytes, IsRead}
use Rattle.tool_keys.specs.Steps.{NewThen, StepThen, TextThen, Writes}
use Rattle.tool_base.specs.declared.undealt.Undealt.TheVariants.{Code, Threshold, Coalitions, Commitments}

-- the parameter set of the words
pub record IsSet (words : DealWords) (params : Params) : Type 0 where
  pub lms : params.lms ≡ words.lms
  pub ots : params.ots ≡ words.ots

-- the plan of the words, over a tree of this set
abbrev pub plan_of : DealWords → Params → PlanNumbers
plan_of words params = record { n = words.n; k = words.k; h = params.h }

-- the commitment file of a dealing, if it is asked for
abbrev pub asked_commits : Bool → Dealing → Option (List ℕ)
asked_commits commit d = if commit then Some (commits_file d) else None

-- the output with it, if there is one: anyone may read it
abbrev pub commits_outputs : List ℕ → Option (List ℕ) → List Output
commits_outputs prefix None = []
commits_outputs prefix (Some file) = record { name = prefix ++ codes ".commit"; bytes = file; readers = Anyone } ∷ []

-- the share of trustee t, which its owner alone may read
abbrev pub share_output : List ℕ → Dealing → ℕ → Output
share_output prefix d t = record {
  name = prefix ++ (codes ".share" ++ decimal t);
  bytes = share_file d t;
  readers = OwnerAlone;
}

-- The files of a dealing, in the order in which they are written: `.share1` and on for the trustees, and last the
-- commitment file if the words ask for it. Anyone may read those that are no shares.
abbrev pub outputs_of : DealWords → Dealing → List Output
outputs_of words d =
    record { name = key_name words.prefix; bytes = public_file d; readers = Anyone }
    ∷ record { name = tree_name words.prefix; bytes = tree_file d; readers = Anyone }
    ∷ record { name = reference_name words.prefix; bytes = reference_file d; readers = Anyone }
    ∷ (map (share_output words.prefix d) (range_with_len 1 d.plan.n)
    ++ commits_outputs words.prefix (asked_commits words.commit d))

-- The dealing that this entropy stands for is dealt, and if the words ask for its commitment file, this has at most
-- 67,108,864 bytes.
pub record IsDealableBy (words : DealWords) (params : Params) (plan : PlanNumbers) (entropy : List ℕ) : Type 0 where
  pub dealable : IsDealable false params plan entropy
  pub small : IsTrue words.commit → commits_length params plan ≤ 67108864

-- internal: the set and the plan are those of the words
pub record AreAsked (words : DealWords) (params : Params) (plan : PlanNumbers) : Type 0 where
  pub set : IsSet words params
  pub plan_is : plan ≡ plan_of words params
  pub sound : IsPlan plan

-- the entropy is dealt as the words say: these are the outputs, and the end once all are written
pub record IsDealtTo (words : DealWords) (entropy : List ℕ) (outputs : List Output) (done : Ending) : Type 0 where
  pub params : Params
  pub set : IsSet words params
  pub plan : IsPlan (plan_of words params)
  pub dealable : IsDealableBy words params (plan_of words params) entropy
  pub outputs_are : outputs ≡ outputs_of words (dealing_of params (plan_of words params) entropy)
  pub done_is : done ≡ ending.Dealt (2 ^ params.h) (count_of (plan_of words params))

-- the end if the entropy is not dealt
pub data IsNotDealt (words : DealWords) (entropy : List ℕ) : Ending → Type 0 where
  no_set : (fault : KeyFault) → codes_fault words.lms words.ots ≡ Some fault
      → IsNotDealt words entropy (ending.NotDealt Code)
  no_threshold : (params : Params) → IsSet words params → (IsThreshold words.n words.k → ⊥)
      → IsNotDealt words entropy (ending.NotDealt Threshold)
  too_many_coalitions : (params : Params) → IsSet words params → IsThreshold words.n words.k
      → 2 ^ params.h < length (coalitions words.n words.k)
      → IsNotDealt words entropy (ending.NotDealt (Coalitions (length (coalitions words.n words.k))))
  faulty : (params : Params) (fault : DealFault) → IsSet words params → IsPlan (plan_of words params)
      → HasFault words.large params (plan_of words params) entropy fault
      → IsNotDealt words entropy (end_of_fault fault)
  too_large : (params : Params) → IsTrue words.commit → IsSet words params → IsPlan (plan_of words params)
      → IsDealable false params (plan_of words params) entropy → 67108864 < commits_length params (plan_of words params)
      → IsNotDealt words entropy (ending.NotDealt (Commitments (commits_length params (plan_of words params))))
  no_memory : IsNotDealt words entropy ending.NoMemory

-- internal: the entropy is read and dealt as the words say, and no output is there yet
pub record IsReady (store : StoreRun) (words : DealWords) (outputs : List Output) (done : Ending) : Type 0 where
  pub entropy : List ℕ
  pub read : IsRead store words.entropy (Bytes entropy)
  pub dealt : IsDealtTo words entropy outputs done
  pub new : All (IsNew store) (map (λ output. output.name) outputs)

-- the end, and the outputs that were written
abbrev pub DealEnds : StoreRun → DealWords → Ending → List Output → Type 0
DealEnds store words =
    TextThen store words.entropy (λ entropy.
    StepThen (IsNotDealt words entropy) (λ (dealt : List Output × Ending). IsDealtTo words entropy dealt.0 dealt.1)
    (λ dealt. NewThen store (map (λ output. output.name) dealt.0) (Writes store dealt.0 dealt.1)))
