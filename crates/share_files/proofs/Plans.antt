-- The test of a plan's numbers.
use Rattle.std.proofs.Common.{◌≡◌, ℕ, ◌≤◌, ◌^◌, List, Some, None, true, false, refl}
use Rattle.std.specs.Prelude.{slice_index}
use Rattle.std.proofs.lemmas.Bool.{and_parts, and_from, leb-true, le-leb, false_from_ne_true}
use Rattle.coalition_map.specs.Coalitions.{PlanNumbers, IsPlan, count_of}
use Rattle.share_files.specs.Head.{is_plan, lms_at, plan_at, plan_fault}
use Rattle.share_files.specs.Sets.{height_of}
use Rattle.share_files.specs.declared.faults.FileFault.TheVariants.{Plan}

pub IsPlan-from : (p : PlanNumbers) → p.h ≤ 25 → is_plan p ≡ true → IsPlan p
unfolding is_plan
IsPlan-from p h e =
    let all = and_parts _ _ e in
    let three = and_parts _ _ all.0 in
    let two = and_parts _ _ three.0 in
    record {
      threshold = record {
        two_or_more = leb-true 2 p.k two.0;
        k_within = leb-true p.k p.n two.1;
        n_within = leb-true p.n 12 three.1;
      };
      h_within = h;
      each_has_a_leaf = leb-true (count_of p) (2 ^ p.h) all.1;
    }

pub is_plan-true : (p : PlanNumbers) → IsPlan p → is_plan p ≡ true
unfolding is_plan
is_plan-true p plan =
    let two = and_from _ _ (le-leb 2 p.k plan.threshold.two_or_more) (le-leb p.k p.n plan.threshold.k_within) in
    let three = and_from _ _ two (le-leb p.n 12 plan.threshold.n_within) in
    and_from _ _ three (le-leb (count_of p) (2 ^ p.h) plan.each_has_a_leaf)

pub is_plan-false : (p : PlanNumbers) → p.h ≤ 25 → (IsPlan p → ⊥) → is_plan p ≡ false
is_plan-false p h other = false_from_ne_true _ (λ e. other (IsPlan-from p h e))

pub plan_fault-passed : (bytes : List ℕ) (h : ℕ) → height_of (lms_at bytes) ≡ h
    → IsPlan (record { n = slice_index bytes 7; k = slice_index bytes 6; h = h }) → plan_fault bytes ≡ None
plan_fault-passed bytes h at plan =
    let numbers : PlanNumbers = record { n = slice_index bytes 7; k = slice_index bytes 6; h = h } in
    let test : is_plan (plan_at bytes) ≡ true = rw at (is_plan-true numbers plan) in
    rw test refl

pub plan_fault-refused : (bytes : List ℕ) (h : ℕ) → height_of (lms_at bytes) ≡ h → h ≤ 25
    → (IsPlan (record { n = slice_index bytes 7; k = slice_index bytes 6; h = h }) → ⊥) → plan_fault bytes ≡ Some Plan
plan_fault-refused bytes h at most other =
    let numbers : PlanNumbers = record { n = slice_index bytes 7; k = slice_index bytes 6; h = h } in
    let test : is_plan (plan_at bytes) ≡ false = rw at (is_plan-false numbers most other) in
    rw test refl
