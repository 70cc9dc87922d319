-- Where the values of a dealing lie in its reference.
use Rattle.std.proofs.Common.{take_all, ◌≡◌, ℕ, suc, ◌+◌, ◌-◌, ◌*◌, ◌%◌, ◌^◌, ◌<◌, ◌≤◌, List, [], ◌∷◌, ◌++◌, Contains, length, take, drop, nat_lt, true, refl, sym, ◌∙◌, ap, arith, inl, inr, length-append}
use Rattle.std.proofs.lemmas.Bool.Decides.{nat_tests}
use Rattle.std.proofs.lemmas.List.{drop-drop, drop-take, take-take}
use Rattle.std.proofs.lemmas.List.Elements.{All-contains}
use Rattle.std.proofs.Math.Nat.{mod-lt}
use Rattle.std.proofs.Math.Seq.{drop-append-add}
use Rattle.coalition_map.specs.Coalitions.{IsPlan, count_of}
use Rattle.coalition_map.proofs.CoalitionLaws.{IsSubset-coalition, count_of-pos}
use Rattle.coalition_map.specs.Members.{below, IsAscendingIn}
use Rattle.coalition_map.proofs.MemberLaws.{All-from_IsAscendingIn, Contains-cases, Contains-nil, below-none}
use Rattle.lms_bytes.specs.Bytes.{bytes_at, joined}
use Rattle.mask_prf.proofs.Lengths.{length-check_tag_of}
use Rattle.reference_value.specs.Dealing.{Dealing, cell, cells, check_tag, key_of, leaf_part, leaf_randomizer, masked_randomizer, members_of, reference, tags}
use Rattle.reference_value.specs.Places.{cell_in, leaf_place, cell_place, randomizer_in, tag_in, tag_place}
use Rattle.mask_prf.specs.Lengths.{leaf_length, leaves_length}
use Rattle.lms_bytes.proofs.Joined.{AllOfLength, joined-at, length-joined, part-left, row-fits}
use Rattle.reference_value.proofs.Members.{cell_of, chain_of, length-cell_of, length-chain_of, length-random_of, length-tags_of, random_of, tag-room, tags_of}

-- a part of a part
part-part : (s : List ℕ) (place size r n : ℕ) → r + n ≤ size → bytes_at (bytes_at s place size) r n ≡ bytes_at s (place + r) n
part-part s place size r n inside =
    let whole : r + (size - r) ≡ size = omega arith in
    let cut : drop r (take size (drop place s)) ≡ take (size - r) (drop (place + r) s) =
    ap (λ m. drop r (take m (drop place s))) (sym whole) ∙ (drop-take r (size - r) (drop place s) ∙ ap (take (size - r)) (drop-drop r place s)) in
    ap (take n) cut ∙ take-take n (size - r) (drop (place + r) s) (omega arith)

-- a part of the second of two strings
pub part-second : (a b : List ℕ) (place r n : ℕ) → place ≡ length a + r → bytes_at (a ++ b) place n ≡ bytes_at b r n
part-second a b place r n e = rw (e, drop-append-add a b r) refl

-- a part of one of the joined strings
pub joined-inside : (f : ℕ → List ℕ) (size count i r n : ℕ) → AllOfLength f size count → i < count → r + n ≤ size
    → bytes_at (joined f count) (size * i + r) n ≡ bytes_at (f i) r n
joined-inside f size count i r n sized inside within =
    sym (part-part (joined f count) (size * i) size r n within) ∙ ap (λ s. bytes_at s r n) (joined-at f size count i sized inside)

-- the lengths of a leaf and of its parts
pub length-members_of : (d : Dealing) (q : ℕ) → IsPlan d.plan → length (members_of d q) ≡ d.plan.k
length-members_of d q plan =
    let some = count_of-pos d.plan plan in
    (IsSubset-coalition d.plan (q % count_of d.plan) (mod-lt q some)).size

length-front : (d : Dealing) (q : ℕ) → IsPlan d.plan → length (masked_randomizer d q ++ tags d q) ≡ d.params.n + 32 * d.plan.k
unfolding masked_randomizer tags
length-front d q plan =
    omega (arith, length-append (random_of d q (members_of d q)) (tags_of d q (members_of d q)), length-random_of d q (members_of d q), length-tags_of d q (members_of d q), length-members_of d q plan)

length-cells : (d : Dealing) (q : ℕ) → length (cells d q) ≡ d.params.n * 2 ^ d.params.w * d.params.p
unfolding cells cell
length-cells d q = length-joined (chain_of d q (members_of d q)) (d.params.n * 2 ^ d.params.w) d.params.p (λ i _. length-chain_of d q (members_of d q) i)

pub length-leaf_part : (d : Dealing) (q : ℕ) → IsPlan d.plan → length (leaf_part d q) ≡ leaf_length d.params d.plan.k
unfolding leaf_part
length-leaf_part d q plan =
    omega (arith, length-append (masked_randomizer d q ++ tags d q) (cells d q), length-front d q plan, length-cells d q)

pub length-reference : (d : Dealing) → IsPlan d.plan → length (reference d) ≡ leaves_length d.params d.plan
unfolding reference
length-reference d plan = length-joined (leaf_part d) (leaf_length d.params d.plan.k) (2 ^ d.params.h) (λ q _. length-leaf_part d q plan)

-- a part of a leaf, found in the reference
in_reference : (d : Dealing) (q place r n : ℕ) → IsPlan d.plan → q < 2 ^ d.params.h → place ≡ leaf_place d.params d.plan q + r
    → r + n ≤ leaf_length d.params d.plan.k → bytes_at (reference d) place n ≡ bytes_at (leaf_part d q) r n
unfolding reference
in_reference d q place r n plan inside e within =
    rw e (joined-inside (leaf_part d) (leaf_length d.params d.plan.k) (2 ^ d.params.h) q r n (λ k _. length-leaf_part d k plan) inside within)

pub randomizer_in-reference : (d : Dealing) (q : ℕ) → IsPlan d.plan → q < 2 ^ d.params.h → randomizer_in d.params d.plan (reference d) q ≡ masked_randomizer d q
unfolding randomizer_in leaf_part masked_randomizer
randomizer_in-reference d q plan inside =
    let n = d.params.n in
    let r = random_of d q (members_of d q) in
    let size : length r ≡ n = length-random_of d q (members_of d q) in
    let front = length-front d q plan in
    in_reference d q (leaf_place d.params d.plan q) 0 n plan inside (omega arith) (omega arith)
    ∙ (part-left (r ++ tags d q) (cells d q) 0 n (omega arith) ∙ (part-left r (tags d q) 0 n (omega arith) ∙ take_all n r (omega arith)))

pub cell_in-reference : (d : Dealing) (q i j : ℕ) → IsPlan d.plan → q < 2 ^ d.params.h → i < d.params.p → j < 2 ^ d.params.w
    → cell_in d.params d.plan (reference d) q i j ≡ cell d q i j
unfolding cell_in leaf_part cells cell
cell_in-reference d q i j plan inside chain step =
    let n = d.params.n in
    let size = n * 2 ^ d.params.w in
    let k = d.plan.k in
    let ms = members_of d q in
    let within = row-fits n j (2 ^ d.params.w) step in
    let among = row-fits size i d.params.p chain in
    let front = length-front d q plan in
    in_reference d q (cell_place d.params d.plan q i j) (n + 32 * k + (size * i + n * j)) n plan inside (omega arith) (omega arith)
    ∙ (part-second (masked_randomizer d q ++ tags d q) (cells d q) (n + 32 * k + (size * i + n * j)) (size * i + n * j) n (omega arith)
    ∙ (joined-inside (chain_of d q ms) size d.params.p i (n * j) n (λ m _. length-chain_of d q ms m) chain within
    ∙ joined-at (cell_of d q ms i) n (2 ^ d.params.w) j (λ m _. length-cell_of d q ms i m) step))

-- the tag of a trustee among those of trustees that ascend
kept : (t x : ℕ) (xs : List ℕ) → x < t → below t (x ∷ xs) ≡ x ∷ below t xs
kept t x xs h = let test : nat_lt x t ≡ true = grind (arith, nat_tests) in rw test refl

tag_among : (d : Dealing) (q a e t : ℕ) (ts : List ℕ) → IsAscendingIn a e ts → Contains ts t → bytes_at (tags_of d q ts) (32 * length (below t ts)) 32 ≡ check_tag d q t
tag_among d q a e t [] ascending member = absurd (Contains-nil t member)
tag_among d q a e t (x ∷ xs) ascending member =
    let size : length (check_tag d q x) ≡ 32 = length-check_tag_of (key_of d x) d.id q (leaf_randomizer d q) in
    elim (Contains-cases x xs t member) [
      | inl same ↦
          let none : below t (x ∷ xs) ≡ [] = below-none x e t (x ∷ xs) (omega arith, ascending.1, ascending.2) (omega arith) in
          rw none (part-left (check_tag d q x) (tags_of d q xs) 0 32 (omega arith) ∙ (take_all 32 (check_tag d q x) (omega arith) ∙ rw same refl))
      | inr later ↦
          let above = All-contains (λ y. (x + 1 ≤ y) × (y < e)) xs t (All-from_IsAscendingIn (x + 1) e xs ascending.2) later in
          let less : x < t = omega (arith, above.0) in
          rw (kept t x xs less) (part-second (check_tag d q x) (tags_of d q xs) (32 * suc (length (below t xs))) (32 * length (below t xs)) 32 (omega arith)
          ∙ tag_among d q (x + 1) e t xs ascending.2 later)
    ]

pub tag_in-reference : (d : Dealing) (q t : ℕ) → IsPlan d.plan → q < 2 ^ d.params.h → Contains (members_of d q) t
    → tag_in d.params d.plan (reference d) q t ≡ check_tag d q t
unfolding tag_in leaf_part tags masked_randomizer
tag_in-reference d q t plan inside member =
    let n = d.params.n in
    let ms = members_of d q in
    let rank = length (below t ms) in
    let some = count_of-pos d.plan plan in
    let subset = IsSubset-coalition d.plan (q % count_of d.plan) (mod-lt q some) in
    let room = tag-room (d.plan.n + 1) d.plan.k t ms subset member in
    let front = length-front d q plan in
    let size : length (random_of d q ms) ≡ n = length-random_of d q ms in
    in_reference d q (tag_place d.params d.plan q t) (n + 32 * rank) 32 plan inside (omega arith) (omega arith)
    ∙ (part-left (masked_randomizer d q ++ tags d q) (cells d q) (n + 32 * rank) 32 (omega arith)
    ∙ (part-second (random_of d q ms) (tags d q) (n + 32 * rank) (32 * rank) 32 (omega arith)
    ∙ tag_among d q 1 (d.plan.n + 1) t ms subset.ascending member))
