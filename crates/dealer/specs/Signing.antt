-- What a dealing to two trustees and the masks of both sign.
use Rattle.std.specs.Prelude.{◌≡◌, ℕ, List, [], ◌∷◌, length, map}
use Rattle.coalition_map.specs.Coalitions.{PlanNumbers}
use Rattle.lms_bytes.specs.Bytes.{joined, xor}
use Rattle.lms_bytes.specs.Digits.{digit_of}
use Rattle.lms_bytes.specs.Signature.{signature_bytes}
use Rattle.lms_bytes.specs.declared.params.Params.{Params}
use Rattle.mask_prf.specs.Masks.{chain_mask_of, random_mask_of}
use Rattle.merkle_path.specs.Tree.{path_at}
use Rattle.ots_chain.specs.MessageHash.{message_digest}
use Rattle.reference_value.specs.Dealing.{sum_of_masks}
use Rattle.reference_value.specs.Joins.{joined_chains}
use Rattle.reference_value.specs.Places.{randomizer_in}
use Rattle.mask_prf.specs.Lengths.{leaves_length}
use Rattle.dealer.specs.declared.dealing.Dealt.{Dealt}
use Rattle.dealer.specs.declared.masks.Keys.{Keys}

-- the XOR of the masks of n bytes that both keys give
abbrev pub mask_sum : ℕ → Keys → (List ℕ → List ℕ) → List ℕ
mask_sum n keys mask = sum_of_masks n (map mask (keys.first ∷ keys.second ∷ []))

-- that of the masks for chain i of leaf q at the digest's digit
abbrev pub digit_sum : Params → List ℕ → Keys → ℕ → List ℕ → ℕ → List ℕ
digit_sum params id keys q digest i =
    mask_sum params.n keys (λ key. chain_mask_of params key id q i (digit_of params digest i))

-- the parts of what was dealt have the lengths of its parameter set and of this plan
pub record FitsPlan (plan : PlanNumbers) (dealt : Dealt) : Type 0 where
  pub height : plan.h ≡ dealt.public.params.h
  pub reference : length dealt.reference.items ≡ leaves_length dealt.public.params plan
  pub hash_length : dealt.tree.n ≡ dealt.public.params.n
  pub levels : dealt.tree.h ≡ dealt.public.params.h

-- the randomizer of leaf q, as both trustees lay it open
abbrev pub signed_randomizer : PlanNumbers → Dealt → Keys → ℕ → List ℕ
signed_randomizer plan dealt keys q =
    let params = dealt.public.params in
    let masks = mask_sum params.n keys (λ key. random_mask_of params key dealt.public.id q) in
    xor (randomizer_in params plan dealt.reference.items q) masks

-- the values of the chains of leaf q at the digest's digits, as both trustees lay them open
abbrev pub signed_chains : PlanNumbers → Dealt → Keys → ℕ → List ℕ → List ℕ
signed_chains plan dealt keys q digest =
    let params = dealt.public.params in
    let sums = joined (digit_sum params dealt.public.id keys q digest) params.p in
    joined_chains params plan dealt.reference.items q digest sums

-- the signature of the message with leaf q
abbrev pub signed_leaf : PlanNumbers → Dealt → Keys → ℕ → List ℕ → List ℕ
signed_leaf plan dealt keys q message =
    let params = dealt.public.params in
    let c = signed_randomizer plan dealt keys q in
    let digest = message_digest params dealt.public.id q c message in
    signature_bytes params q c (signed_chains plan dealt keys q digest) (path_at dealt.tree q)
