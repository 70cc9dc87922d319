-- The names of the files of a dealing are all different.
use Rattle.std.proofs.Common.{◌≡◌, ◌≢◌, ◌≤◌, ◌<◌, ◌+◌, ◌^◌, ℕ, zero, suc, List, [], ◌∷◌, ◌++◌, Option, None, Some}
use Rattle.std.proofs.Common.{map, get_or, All, ap, arith, refl, subst, sym}
use Rattle.std.specs.Prelude.{codes}
use Rattle.std.specs.Fmt.{decimal}
use Rattle.std.specs.List.{range_with_len}
use Rattle.std.proofs.lemmas.Fmt.{decimal_injective}
use Rattle.std.proofs.lemmas.List.{append_cancel_left, map-append}
use Rattle.std.proofs.lemmas.List.Elements.{All-append, All-cons, All-head, All-nil, All-tail}
use Rattle.reference_value.specs.Dealing.{Dealing}
use Rattle.tool_keys.specs.Deal.{asked_commits, commits_outputs, outputs_of, share_output}
use Rattle.tool_keys.specs.Large.{key_outputs}
use Rattle.tool_keys.specs.Naming.{all_names}
use Rattle.tool_base.specs.Outputs.{AreDifferent}
use Rattle.tool_base.proofs.Writing.{names_of}
use Rattle.tool_words.specs.Words.{DealWords}

-- a test that holds of each number from a on, as many as n
all_range : (P : List ℕ → Type 0) (f : ℕ → List ℕ) (a n : ℕ) → ((t : ℕ) → a ≤ t → t < a + n → P (f t)) → All P (map f (range_with_len a n))
all_range P f a zero each = All-nil P
all_range P f a (suc n) each =
    All-cons P (f a) (map f (range_with_len (a + 1) n)) (each a (omega arith) (omega arith)) (all_range P f (a + 1) n (λ t first last. each t (omega arith) (omega arith)))

abbrev share_name : List ℕ → ℕ → List ℕ
share_name prefix t = prefix ++ (codes ".share" ++ decimal t)

shares_differ : (prefix : List ℕ) (a n : ℕ) → a + n < 2 ^ 64 → AreDifferent (map (share_name prefix) (range_with_len a n))
shares_differ prefix a zero small = tt
shares_differ prefix a (suc n) small = (
  all_range (λ other. share_name prefix a ≢ other) (share_name prefix) (a + 1) n (λ t first last same.
      let numbers = append_cancel_left (codes ".share") (decimal a) (decimal t) (append_cancel_left prefix _ _ same) in
      let equal = decimal_injective a t (omega arith) (omega arith) numbers in
      omega arith),
  shares_differ prefix (a + 1) n (omega arith),
)

-- a suffix with another second byte is no share's
no_share : (prefix suffix : List ℕ) (t : ℕ) → get_or suffix 1 0 ≢ 115 → prefix ++ suffix ≢ share_name prefix t
no_share prefix suffix t other same = other (ap (λ bytes. get_or bytes 1 0) (append_cancel_left prefix suffix _ same))

-- suffixes with different second bytes
suffixes_differ : (prefix a b : List ℕ) → get_or a 1 0 ≢ get_or b 1 0 → prefix ++ a ≢ prefix ++ b
suffixes_differ prefix a b other same = other (ap (λ bytes. get_or bytes 1 0) (append_cancel_left prefix a b same))

-- a test that holds of the name of the commitment file holds of all names after the shares
all_commits : (P : List ℕ → Type 0) (prefix : List ℕ) (commits : Option (List ℕ)) → P (prefix ++ codes ".commit")
    → All P (map (λ output. output.name) (commits_outputs prefix commits))
all_commits P prefix None holds = All-nil P
all_commits P prefix (Some file) holds = All-cons P (prefix ++ codes ".commit") [] holds (All-nil P)

commits_differ : (prefix : List ℕ) (commits : Option (List ℕ)) → AreDifferent (map (λ output. output.name) (commits_outputs prefix commits))
commits_differ prefix None = tt
commits_differ prefix (Some file) = (All-nil (λ other. prefix ++ codes ".commit" ≢ other), tt)

both_differ : (xs ys : List (List ℕ)) → AreDifferent xs → AreDifferent ys → All (λ x. All (λ y. x ≢ y) ys) xs → AreDifferent (xs ++ ys)
both_differ [] ys first second apart = second
both_differ (x ∷ xs) ys first second apart = (
  All-append (λ other. x ≢ other) xs ys first.0 (All-head (λ x. All (λ y. x ≢ y) ys) x xs apart),
  both_differ xs ys first.1 second (All-tail (λ x. All (λ y. x ≢ y) ys) x xs apart),
)

-- the names from the first share's on
rest_names : (prefix : List ℕ) (d : Dealing) (commits : Option (List ℕ))
    → map (λ output. output.name) (map (share_output prefix d) (range_with_len 1 d.plan.n) ++ commits_outputs prefix commits)
    ≡ map (share_name prefix) (range_with_len 1 d.plan.n) ++ map (λ output. output.name) (commits_outputs prefix commits)
rest_names prefix d commits =
    rw (map-append, names_of (share_output prefix d) (range_with_len 1 d.plan.n)) refl

rest_differ : (prefix : List ℕ) (n : ℕ) (commits : Option (List ℕ)) → n ≤ 12
    → AreDifferent (map (share_name prefix) (range_with_len 1 n) ++ map (λ output. output.name) (commits_outputs prefix commits))
rest_differ prefix n commits few =
    let last = map (λ output. output.name) (commits_outputs prefix commits) in
    both_differ (map (share_name prefix) (range_with_len 1 n)) last (shares_differ prefix 1 n (omega arith)) (commits_differ prefix commits)
    (all_range (λ x. All (λ y. x ≢ y) last) (share_name prefix) 1 n (λ t _ _.
    all_commits (λ y. share_name prefix t ≢ y) prefix commits (λ same. no_share prefix (codes ".commit") t (omega arith) (sym same))))

-- a suffix with another second byte is none of those from the first share's on
none_rest : (prefix suffix : List ℕ) (n : ℕ) (commits : Option (List ℕ)) → get_or suffix 1 0 ≢ 115 → get_or suffix 1 0 ≢ 99
    → All (λ other. prefix ++ suffix ≢ other) (map (share_name prefix) (range_with_len 1 n) ++ map (λ output. output.name) (commits_outputs prefix commits))
none_rest prefix suffix n commits share commit =
    All-append (λ other. prefix ++ suffix ≢ other) (map (share_name prefix) (range_with_len 1 n)) (map (λ output. output.name) (commits_outputs prefix commits))
    (all_range (λ name. prefix ++ suffix ≢ name) (share_name prefix) 1 n (λ t _ _. no_share prefix suffix t share))
    (all_commits (λ name. prefix ++ suffix ≢ name) prefix commits (suffixes_differ prefix suffix (codes ".commit") commit))

pub deal_differ : (words : DealWords) (d : Dealing) → d.plan.n ≤ 12 → AreDifferent (map (λ output. output.name) (outputs_of words d))
deal_differ words d few =
    let prefix = words.prefix in
    let commits = asked_commits words.commit d in
    let names = map (share_name prefix) (range_with_len 1 d.plan.n) ++ map (λ output. output.name) (commits_outputs prefix commits) in
    let reference = prefix ++ codes ".ref" in
    let tree = prefix ++ codes ".tree" in
    let public = prefix ++ codes ".pub" in
    let from_reference = none_rest prefix (codes ".ref") d.plan.n commits (omega arith) (omega arith) in
    let from_tree = All-cons (λ other. tree ≢ other) reference names (suffixes_differ prefix (codes ".tree") (codes ".ref") (omega arith))
    (none_rest prefix (codes ".tree") d.plan.n commits (omega arith) (omega arith)) in
    let from_public = All-cons (λ other. public ≢ other) tree (reference ∷ names) (suffixes_differ prefix (codes ".pub") (codes ".tree") (omega arith))
    (All-cons (λ other. public ≢ other) reference names (suffixes_differ prefix (codes ".pub") (codes ".ref") (omega arith))
    (none_rest prefix (codes ".pub") d.plan.n commits (omega arith) (omega arith))) in
    rw (rest_names prefix d commits) (from_public, (from_tree, (from_reference, rest_differ prefix d.plan.n commits few)))

-- those of the files besides the reference
pub key_differ : (prefix : List ℕ) (d : Dealing) → d.plan.n ≤ 12 → AreDifferent (map (λ output. output.name) (key_outputs prefix d))
key_differ prefix d few =
    let names = map (share_name prefix) (range_with_len 1 d.plan.n) in
    let tree = prefix ++ codes ".tree" in
    let public = prefix ++ codes ".pub" in
    let none = λ (suffix : List ℕ) (share : get_or suffix 1 0 ≢ 115). all_range (λ name. prefix ++ suffix ≢ name) (share_name prefix) 1 d.plan.n (λ t _ _. no_share prefix suffix t share) in
    rw (names_of (share_output prefix d) (range_with_len 1 d.plan.n)) (
      All-cons (λ other. public ≢ other) tree names (suffixes_differ prefix (codes ".pub") (codes ".tree") (omega arith)) (none (codes ".pub") (omega arith)),
      (none (codes ".tree") (omega arith), shares_differ prefix 1 d.plan.n (omega arith)),
    )

key_names : (prefix : List ℕ) (d : Dealing) → map (λ output. output.name) (key_outputs prefix d)
    ≡ (prefix ++ codes ".pub") ∷ (prefix ++ codes ".tree") ∷ map (share_name prefix) (range_with_len 1 d.plan.n)
key_names prefix d = ap (λ rest. (prefix ++ codes ".pub") ∷ (prefix ++ codes ".tree") ∷ rest) (names_of (share_output prefix d) (range_with_len 1 d.plan.n))

-- none of them is the reference's
pub key_others : (prefix : List ℕ) (d : Dealing) → All (λ other. other ≢ prefix ++ codes ".ref") (map (λ output. output.name) (key_outputs prefix d))
key_others prefix d =
    let names = map (share_name prefix) (range_with_len 1 d.plan.n) in
    let reference = prefix ++ codes ".ref" in
    subst (All (λ other. other ≢ reference)) (sym (key_names prefix d))
    (All-cons (λ other. other ≢ reference) (prefix ++ codes ".pub") ((prefix ++ codes ".tree") ∷ names) (suffixes_differ prefix (codes ".pub") (codes ".ref") (omega arith))
    (All-cons (λ other. other ≢ reference) (prefix ++ codes ".tree") names (suffixes_differ prefix (codes ".tree") (codes ".ref") (omega arith))
    (all_range (λ other. other ≢ reference) (share_name prefix) 1 d.plan.n (λ t _ _ same. no_share prefix (codes ".ref") t (omega arith) (sym same)))))

-- what holds of all names of a dealing holds of those of the files besides the reference
pub key_among : (P : List ℕ → Type 0) (prefix : List ℕ) (d : Dealing) → All P (all_names prefix d.plan.n) → All P (map (λ output. output.name) (key_outputs prefix d))
key_among P prefix d all =
    let public = prefix ++ codes ".pub" in
    let tree = prefix ++ codes ".tree" in
    let reference = prefix ++ codes ".ref" in
    let names = map (share_name prefix) (range_with_len 1 d.plan.n) in
    let behind = All-tail P public (tree ∷ reference ∷ names) all in
    subst (All P) (sym (key_names prefix d))
    (All-cons P public (tree ∷ names) (All-head P public (tree ∷ reference ∷ names) all)
    (All-cons P tree names (All-head P tree (reference ∷ names) behind) (All-tail P reference names (All-tail P tree (reference ∷ names) behind))))

-- the reference is among all names
pub reference_among : (P : List ℕ → Type 0) (prefix : List ℕ) (n : ℕ) → All P (all_names prefix n) → P (prefix ++ codes ".ref")
reference_among P prefix n all =
    let public = prefix ++ codes ".pub" in
    let tree = prefix ++ codes ".tree" in
    let reference = prefix ++ codes ".ref" in
    let names = map (share_name prefix) (range_with_len 1 n) in
    All-head P reference names (All-tail P tree (reference ∷ names) (All-tail P public (tree ∷ reference ∷ names) all))
