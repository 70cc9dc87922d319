-- The one list of masks that joins cells to given values.
use Rattle.std.proofs.Common.{◌≡◌, ℕ, zero, suc, ◌^◌, ◌<◌, List, [], ◌∷◌, ◌++◌, All, length, map, replicate, bit_xor, sym, ◌∙◌, ap, arith}
use Rattle.std.specs.List.{range_with_len}
use Rattle.std.proofs.lemmas.List.{ext_get_or, length-replicate, map-append}
use Rattle.std.proofs.lemmas.List.Elements.{All-from_get_or, All-get_or, All-map, All-replicate}
use Rattle.std.proofs.lemmas.List.FromFn.{get_or-map-range_with_len, length-map-range_with_len}
use Rattle.std.proofs.lemmas.List.Sums.{fold-append}
use Rattle.std.proofs.lemmas.Nat.{xor_of_8}
use Rattle.lms_bytes.specs.Bytes.{xor}
use Rattle.reference_value.specs.Dealing.{masked, sum_of_masks}
use Rattle.reference_value.specs.Pads.{AreValues, ExactlyOne, IsValue, JoinTo, at_chain}
use Rattle.reference_value.proofs.Unmasking.{AllSized, length-sum, masked-sum}
use Rattle.reference_value.proofs.Xor.{length-xor, xor-assoc, xor-comm, xor-twice}

All-first_and_rest : (x : ℕ) (xs : List ℕ) → x < 2 ^ 8 → All (λ z. z < 2 ^ 8) xs → All (λ z. z < 2 ^ 8) (x ∷ xs)
All-first_and_rest x xs one all zero d inside = one
All-first_and_rest x xs one all (suc k) d inside = all k d (omega arith)

-- a value of bytes XOR another
IsBytes-xor : (a b : List ℕ) → All (λ x. x < 2 ^ 8) a → All (λ x. x < 2 ^ 8) b → All (λ x. x < 2 ^ 8) (xor a b)
IsBytes-xor [] b h k = λ i d inside. absurd (omega arith)
IsBytes-xor (x ∷ a) [] h k = λ i d inside. absurd (omega arith)
IsBytes-xor (x ∷ a) (y ∷ b) h k =
    All-first_and_rest (bit_xor x y) (xor a b) (xor_of_8 x y (h 0 x (omega arith)) (k 0 y (omega arith)))
    (IsBytes-xor a b (λ i d inside. h (suc i) d (omega arith)) (λ i d inside. k (suc i) d (omega arith)))

value-xor : (n : ℕ) (a b : List ℕ) → IsValue n a → IsValue n b → IsValue n (xor a b)
value-xor n a b v w =
    let size = v.size in
    let other = w.size in
    record { size = length-xor a b (omega arith) ∙ v.size; bytes = IsBytes-xor a b v.bytes w.bytes }

value-zeros : (n : ℕ) → IsValue n (replicate n 0)
value-zeros n = record { size = length-replicate n 0; bytes = All-replicate (λ x. x < 2 ^ 8) n 0 (omega arith) }

-- the sum of values is one
value-masked : (n : ℕ) (value : List ℕ) (masks : List (List ℕ)) → IsValue n value → All (IsValue n) masks → IsValue n (masked value masks)
value-masked n value [] v all = v
value-masked n value (m ∷ masks) v all =
    value-masked n (xor value m) masks (value-xor n value m v (all 0 m (omega arith))) (λ k d inside. all (suc k) d (omega arith))

value-at : (n p i : ℕ) (values : List (List ℕ)) → AreValues n p values → i < p → IsValue n (at_chain i values)
value-at n p i values v inside = let count = v.count in All-get_or (IsValue n) values i [] (omega arith) v.each

values-at : (n p i : ℕ) (masks : List (List (List ℕ))) → All (AreValues n p) masks → i < p → All (IsValue n) (map (at_chain i) masks)
values-at n p i masks all inside = All-map (IsValue n) (at_chain i) masks (λ k d within. value-at n p i _ (all k d within) inside)

sizes : (n : ℕ) (masks : List (List ℕ)) → All (IsValue n) masks → AllSized n masks
sizes n masks all = λ k d inside. (all k d inside).size

-- the sum of masks of which one is picked out
sum-split : (n : ℕ) (before after : List (List ℕ)) (m : List ℕ) → AllSized n before → length m ≡ n → AllSized n after
    → sum_of_masks n (before ++ m ∷ after) ≡ xor (xor (sum_of_masks n before) m) (sum_of_masks n after)
sum-split n before after m b e a =
    let size = length-sum n before b in
    fold-append xor (replicate n 0) before (m ∷ after)
    ∙ masked-sum n (xor (sum_of_masks n before) m) after (length-xor (sum_of_masks n before) m (omega arith) ∙ size) a

-- an equation in one unknown
reorder : (c b a m : List ℕ) → xor c (xor (xor b m) a) ≡ xor (xor c (xor b a)) m
reorder c b a m =
    let inner : xor (xor b m) a ≡ xor (xor b a) m = xor-assoc b m a ∙ (ap (xor b) (xor-comm m a) ∙ sym (xor-assoc b a m)) in
    ap (xor c) inner ∙ sym (xor-assoc c (xor b a) m)

cancel : (w m : List ℕ) → length w ≡ length m → xor w (xor w m) ≡ m
cancel w m e = xor-comm w (xor w m) ∙ (ap (λ x. xor x w) (xor-comm w m) ∙ xor-twice m w (sym e))

solve : (c b a v m : List ℕ) → length (xor c (xor b a)) ≡ length m → xor c (xor (xor b m) a) ≡ v → m ≡ xor (xor c (xor b a)) v
solve c b a v m size e = sym (ap (xor (xor c (xor b a))) (sym e ∙ reorder c b a m) ∙ cancel (xor c (xor b a)) m size)

solved : (c b a v m : List ℕ) → length (xor c (xor b a)) ≡ length v → m ≡ xor (xor c (xor b a)) v → xor c (xor (xor b m) a) ≡ v
solved c b a v m size e = reorder c b a m ∙ (ap (xor (xor c (xor b a))) e ∙ cancel (xor c (xor b a)) v size)

-- the mask for chain i, from the cell, the other members' masks and the value
pad_at : ℕ → List (List ℕ) → List (List (List ℕ)) → List (List (List ℕ)) → List (List ℕ) → ℕ → List ℕ
pad_at n cells before after values i =
    xor (xor (at_chain i cells) (xor (sum_of_masks n (map (at_chain i) before)) (sum_of_masks n (map (at_chain i) after)))) (at_chain i values)

pad_at-value : (n p i : ℕ) (cells : List (List ℕ)) (before after : List (List (List ℕ))) (values : List (List ℕ)) → AreValues n p cells → All (AreValues n p) before
    → All (AreValues n p) after → AreValues n p values → i < p → IsValue n (pad_at n cells before after values i)
unfolding pad_at
pad_at-value n p i cells before after values c b a v inside =
    let left = value-masked n (replicate n 0) (map (at_chain i) before) (value-zeros n) (values-at n p i before b inside) in
    let right = value-masked n (replicate n 0) (map (at_chain i) after) (value-zeros n) (values-at n p i after a inside) in
    value-xor n _ _ (value-xor n _ _ (value-at n p i cells c inside) (value-xor n _ _ left right)) (value-at n p i values v inside)

-- the join of chain i, with the mask of one member picked out
join-split : (n p i : ℕ) (before after : List (List (List ℕ))) (masks : List (List ℕ)) → All (AreValues n p) before → AreValues n p masks → All (AreValues n p) after → i < p
    → sum_of_masks n (map (at_chain i) (before ++ masks ∷ after))
    ≡ xor (xor (sum_of_masks n (map (at_chain i) before)) (at_chain i masks)) (sum_of_masks n (map (at_chain i) after))
join-split n p i before after masks b m a inside =
    rw (map-append (at_chain i) before (masks ∷ after)) (sum-split n (map (at_chain i) before) (map (at_chain i) after) (at_chain i masks)
    (sizes n _ (values-at n p i before b inside)) (value-at n p i masks m inside).size (sizes n _ (values-at n p i after a inside)))

-- what the mask is put on has n bytes
length-left : (n p i : ℕ) (cells : List (List ℕ)) (before after : List (List (List ℕ))) → AreValues n p cells → All (AreValues n p) before → All (AreValues n p) after → i < p
    → length (xor (at_chain i cells) (xor (sum_of_masks n (map (at_chain i) before)) (sum_of_masks n (map (at_chain i) after)))) ≡ n
length-left n p i cells before after c b a inside =
    let left = value-masked n (replicate n 0) (map (at_chain i) before) (value-zeros n) (values-at n p i before b inside) in
    let right = value-masked n (replicate n 0) (map (at_chain i) after) (value-zeros n) (values-at n p i after a inside) in
    (value-xor n _ _ (value-at n p i cells c inside) (value-xor n _ _ left right)).size

-- the mask joins, and no other does
joins : (n p i : ℕ) (cells : List (List ℕ)) (before after : List (List (List ℕ))) (values masks : List (List ℕ)) → AreValues n p cells → All (AreValues n p) before
    → All (AreValues n p) after → AreValues n p values → AreValues n p masks → i < p → at_chain i masks ≡ pad_at n cells before after values i
    → xor (at_chain i cells) (sum_of_masks n (map (at_chain i) (before ++ masks ∷ after))) ≡ at_chain i values
unfolding pad_at
joins n p i cells before after values masks c b a v m inside e =
    rw (join-split n p i before after masks b m a inside)
    (solved (at_chain i cells) (sum_of_masks n (map (at_chain i) before)) (sum_of_masks n (map (at_chain i) after)) (at_chain i values) (at_chain i masks)
    (length-left n p i cells before after c b a inside ∙ sym (value-at n p i values v inside).size) e)

forced : (n p i : ℕ) (cells : List (List ℕ)) (before after : List (List (List ℕ))) (values masks : List (List ℕ)) → AreValues n p cells → All (AreValues n p) before
    → All (AreValues n p) after → AreValues n p masks → i < p
    → xor (at_chain i cells) (sum_of_masks n (map (at_chain i) (before ++ masks ∷ after))) ≡ at_chain i values → at_chain i masks ≡ pad_at n cells before after values i
unfolding pad_at
forced n p i cells before after values masks c b a m inside e =
    let split = join-split n p i before after masks b m a inside in
    solve (at_chain i cells) (sum_of_masks n (map (at_chain i) before)) (sum_of_masks n (map (at_chain i) after)) (at_chain i values) (at_chain i masks)
    (length-left n p i cells before after c b a inside ∙ sym (value-at n p i masks m inside).size) (ap (xor (at_chain i cells)) (sym split) ∙ e)

pub pads : (n p : ℕ) (cells values : List (List ℕ)) (before after : List (List (List ℕ))) → AreValues n p cells → AreValues n p values
    → All (AreValues n p) before → All (AreValues n p) after
    → ExactlyOne (λ masks. AreValues n p masks × JoinTo n p cells (before ++ masks ∷ after) values)
pads n p cells values before after c v b a =
    let f = pad_at n cells before after values in
    let one : List (List ℕ) = map f (range_with_len 0 p) in
    let count : length one ≡ p = length-map-range_with_len f 0 p in
    let here : (i : ℕ) → i < p → at_chain i one ≡ f i = λ i inside. get_or-map-range_with_len f 0 p i i [] inside (omega arith) in
    let are : AreValues n p one = record {
      count = count;
      each = All-from_get_or (IsValue n) one [] (λ i inside. let within : i < p = omega arith in rw (here i within) (pad_at-value n p i cells before after values c b a v within));
    } in
    record {
      one = one;
      meets = (are, λ i inside. joins n p i cells before after values one c b a v are inside (here i inside));
      only = λ other met.
          let size = met.0.count in
          ext_get_or [] other one (met.0.count ∙ sym count) (λ i inside.
          let within : i < p = omega arith in
          forced n p i cells before after values other c b a met.0 within (met.1 i within) ∙ sym (here i within));
    }
