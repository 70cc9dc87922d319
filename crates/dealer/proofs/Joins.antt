-- Leaves that several threads build, each a run of them.
use Rattle.std.proofs.Common.{◌≡◌, ℕ, zero, suc, ◌+◌, ◌^◌, Bool, List, ◌++◌, length, refl, sym, ap, ◌∙◌, arith, append-nil, append_assoc, take, take_all, ◌*◌, ◌≤◌}
use Rattle.std.proofs.Math.Nat.{mul-add}
use Rattle.lms_bytes.specs.Bytes.{joined}
use Rattle.lms_bytes.proofs.Joined.{joined-none, joined-same, joined-suc}
use Rattle.reference_value.specs.Dealing.{Dealing, leaf_part, reference}
use Rattle.dealer.specs.Runs.{IsRunBuilt, dealt_leaf_key, leaf_asked, run_leaves}
use Rattle.dealer.specs.declared.runs.Run.{Run}

-- the strings of one run and those of the run after it, joined
pub runs-joined : (f : ℕ → List ℕ) (first next m n count : ℕ) → next ≡ first + m → m + n ≡ count
    → joined (λ i. f (first + i)) m ++ joined (λ i. f (next + i)) n ≡ joined (λ i. f (first + i)) count
runs-joined f first next m zero count behind all =
    let whole : m ≡ count = omega arith in
    rw (joined-none (λ i. f (next + i)), append-nil (joined (λ i. f (first + i)) m), whole) refl
runs-joined f first next m (suc n) count behind all =
    let before = runs-joined f first next m n (m + n) behind refl in
    let last : next + n ≡ first + (m + n) = omega arith in
    let whole : suc (m + n) ≡ count = omega arith in
    rw (← whole, joined-suc (λ i. f (next + i)) n, joined-suc (λ i. f (first + i)) (m + n), ← before, last)
    (sym (append_assoc (joined (λ i. f (first + i)) m) (joined (λ i. f (next + i)) n) (f (first + (m + n)))))

-- the strings of a run of all leaves are those of all leaves
pub whole-run : (f : ℕ → List ℕ) (run : Run) (count : ℕ) → run.first ≡ 0 → run.count ≡ count
    → joined (λ i. f (run.first + i)) run.count ≡ joined f count
whole-run f run count first all = rw (first, all) (joined-same (λ i. f (0 + i)) f count (λ i _. ap f (omega arith)))

-- a run of all leaves is the reference value
pub whole-leaves : (d : Dealing) (run : Run) → run.first ≡ 0 → run.count ≡ 2 ^ d.params.h → run_leaves d run ≡ reference d
unfolding reference
whole-leaves d run first count = whole-run (leaf_part d) run (2 ^ d.params.h) first count

-- what two threads wrote, each a run, is the run that was cut
pub runs-written : (f : ℕ → List ℕ) (a b : List ℕ) (first front back m n count : ℕ) → front ≡ first → back ≡ first + m → m + n ≡ count
    → a ≡ joined (λ i. f (front + i)) m → b ≡ joined (λ i. f (back + i)) n → a ++ b ≡ joined (λ i. f (first + i)) count
runs-written f a b first front back m n count here behind all one other =
    rw (one, other, here) (runs-joined f first back m n count behind all)

-- what is built of two runs that were cut is what is built of the run
pub runs-built : {commit : Bool} {d : Dealing} {run one other : Run} (leaves commits keys leaves' commits' keys' : List ℕ)
    → one.first ≡ run.first → other.first ≡ run.first + one.count → one.count + other.count ≡ run.count
    → IsRunBuilt commit d one leaves commits keys → IsRunBuilt commit d other leaves' commits' keys'
    → IsRunBuilt commit d run (leaves ++ leaves') (commits ++ commits') (keys ++ keys')
runs-built {commit} {d} {run} {one} {other} leaves commits keys leaves' commits' keys' first next all a b =
    let join : (f : ℕ → List ℕ) (x y : List ℕ) → x ≡ joined (λ i. f (one.first + i)) one.count → y ≡ joined (λ i. f (other.first + i)) other.count
    → x ++ y ≡ joined (λ i. f (run.first + i)) run.count =
    λ f x y. runs-written f x y run.first one.first other.first one.count other.count run.count first next all in
    record {
      leaves_are = join (leaf_part d) _ _ a.leaves_are b.leaves_are;
      commits_are = join (leaf_asked commit d) _ _ a.commits_are b.commits_are;
      keys_are = join (dealt_leaf_key d) _ _ a.keys_are b.keys_are;
    }

-- a run whose last leaf was written
pub run-written : (f : ℕ → List ℕ) (size i count : ℕ) (out : List ℕ) → length out ≡ size * count → i ≡ count → take (size * i) out ≡ joined f i
    → out ≡ joined f count
run-written f size i count out room last taken =
    let all : length out ≤ size * i = rw last (omega (arith, room)) in
    sym (take_all (size * i) out all) ∙ (taken ∙ ap (joined f) last)

-- the room of a run's first leaves, and of the others
pub part-first : (size each first room : ℕ) → size ≡ each → room ≡ size * first → room ≡ each * first
part-first size each first room same cut = cut ∙ ap (λ (s : ℕ). s * first) same

pub part-behind : (size each first next count room rest : ℕ) → size ≡ each → room ≡ each * count → first + next ≡ count
    → rest + size * first ≡ room → rest ≡ each * next
part-behind size each first next count room rest same all cut left =
    let start : size * first ≡ each * first = ap (λ (s : ℕ). s * first) same in
    let whole : each * (first + next) ≡ each * count = ap (λ (n : ℕ). each * n) cut in
    omega (arith, start, whole, all, left, mul-add each first next)

-- the first leaves lie within those of the run
pub first-within : (size each first next count room : ℕ) → size ≡ each → room ≡ each * count → first + next ≡ count → size * first ≤ room
first-within size each first next count room same all cut =
    let start : size * first ≡ each * first = ap (λ (s : ℕ). s * first) same in
    let whole : each * (first + next) ≡ each * count = ap (λ (n : ℕ). each * n) cut in
    omega (arith, start, whole, all, mul-add each first next)
