-- The lengths of what is derived from a key.
use Rattle.std.proofs.Common.{◌≡◌, ℕ, List, length, take}
use Rattle.sha2.proofs.Facts256.{length-sha256}
use Rattle.lms_bytes.specs.declared.params.Params.{Params}
use Rattle.lms_bytes.proofs.Lengths.{length-cut}
use Rattle.mask_prf.specs.Hmac.{hmac}
use Rattle.mask_prf.specs.Masks.{chain_mask_of, check_tag_of, random_mask_of, randomizer_of}

pub length-hmac : (key text : List ℕ) → length (hmac key text) ≡ 32
unfolding hmac
length-hmac key text = length-sha256 _

first : (params : Params) (key text : List ℕ) → length (take params.n (hmac key text)) ≡ params.n
first params key text = length-cut params.n (hmac key text) params.hash_length (length-hmac key text)

pub length-chain_mask_of : (params : Params) (key id : List ℕ) (q i j : ℕ) → length (chain_mask_of params key id q i j) ≡ params.n
unfolding chain_mask_of
length-chain_mask_of params key id q i j = first params key _

pub length-random_mask_of : (params : Params) (key id : List ℕ) (q : ℕ) → length (random_mask_of params key id q) ≡ params.n
unfolding random_mask_of
length-random_mask_of params key id q = first params key _

pub length-check_tag_of : (key id : List ℕ) (q : ℕ) (c : List ℕ) → length (check_tag_of key id q c) ≡ 32
unfolding check_tag_of
length-check_tag_of key id q c = length-hmac key _

pub length-randomizer_of : (params : Params) (key id : List ℕ) (q : ℕ) → length (randomizer_of params key id q) ≡ params.n
unfolding randomizer_of
length-randomizer_of params key id q = first params key _
