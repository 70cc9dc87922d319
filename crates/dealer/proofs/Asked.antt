-- What is written if commitments are asked for, and if they are not.
use Rattle.std.proofs.Common.{◌≡◌, ℕ, zero, suc, ◌+◌, ◌*◌, ◌^◌, ◌≤◌, Bool, true, false, List, [], ◌++◌, length, take, min, refl, ap, ap₂, ◌∙◌, arith}
use Rattle.coalition_map.specs.Coalitions.{PlanNumbers}
use Rattle.lms_bytes.specs.Bytes.{joined}
use Rattle.lms_bytes.specs.declared.params.Params.{Params}
use Rattle.lms_bytes.proofs.Joined.{joined-none, joined-suc}
use Rattle.reference_value.specs.Commitments.{commitments}
use Rattle.reference_value.specs.Dealing.{Dealing}
use Rattle.dealer.specs.Runs.{HasRoom, asked_length, file_asked, leaf_asked, run_asked}
use Rattle.dealer.specs.declared.runs.Run.{Run}
use Rattle.dealer.proofs.Joins.{whole-run}

-- nothing, any number of times
joined-nothing : (count : ℕ) → joined (λ _. []) count ≡ []
joined-nothing zero = joined-none (λ _. [])
joined-nothing (suc count) = rw (joined-suc (λ _. []) count, joined-nothing count) refl

-- the commitments begin within their file
pub begins-within : (file : List ℕ) → min (length file) 32 ≤ length file
begins-within file = omega arith

-- after the head there is room for the commitments of all leaves
pub room-behind : (commit : Bool) (params : Params) (plan : PlanNumbers) (id file behind : List ℕ) (count : ℕ) → HasRoom commit params plan id file
    → length behind + min (length file) 32 ≡ length file → count ≡ 2 ^ params.h → length behind ≡ asked_length commit params plan.k * count
room-behind true params plan id file behind count room cut all = rw all (let size = room.size in omega arith)
room-behind false params plan id file behind count room cut all = let size = room.size in omega arith

-- the head and all commitments are the file
pub file-joined : (commit : Bool) (d : Dealing) (file head behind : List ℕ) → HasRoom commit d.params d.plan d.id file
    → head ≡ take (min (length file) 32) file → behind ≡ joined (leaf_asked commit d) (2 ^ d.params.h) → head ++ behind ≡ file_asked commit d
unfolding commitments
file-joined true d file head behind room cut is =
    let size = room.size in
    let start : min (length file) 32 ≡ 32 = omega arith in
    ap₂ ◌++◌ (cut ∙ (ap (λ (n : ℕ). take n file) start ∙ room.head)) is
file-joined false d file head behind room cut is =
    let size = room.size in
    let start : min (length file) 32 ≡ 0 = omega arith in
    rw (cut, start, is) (joined-nothing (2 ^ d.params.h))

pub file-whole : (commit : Bool) (d : Dealing) (run : Run) (file head behind : List ℕ) → HasRoom commit d.params d.plan d.id file
    → head ≡ take (min (length file) 32) file → behind ≡ run_asked commit d run → run.first ≡ 0 → run.count ≡ 2 ^ d.params.h
    → head ++ behind ≡ file_asked commit d
file-whole commit d run file head behind room cut is first count =
    file-joined commit d file head behind room cut (is ∙ whole-run (leaf_asked commit d) run (2 ^ d.params.h) first count)
