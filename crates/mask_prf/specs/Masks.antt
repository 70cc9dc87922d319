-- What is derived from the keys of a dealing. These formulas are this project's own.
use Rattle.std.specs.Prelude.{ℕ, List, ◌++◌, take}
use Rattle.lms_bytes.specs.Bytes.{u8str, u16str, u32str}
use Rattle.lms_bytes.specs.declared.params.Params.{Params}
use Rattle.mask_prf.specs.Hmac.{hmac}

-- what every text begins with: its kind, I and q
abbrev pub leaf_text : ℕ → List ℕ → ℕ → List ℕ
leaf_text kind id q = u8str kind ++ id ++ u32str q

-- the mask of the value of chain i of leaf q after j steps, from a trustee's key: the first n bytes
unfoldable pub chain_mask_of : Params → List ℕ → List ℕ → ℕ → ℕ → ℕ → List ℕ
chain_mask_of params key id q i j = take params.n (hmac key (leaf_text 0x01 id q ++ u16str i ++ u8str j))

-- the mask of the randomizer of leaf q, from a trustee's key: the first n bytes
unfoldable pub random_mask_of : Params → List ℕ → List ℕ → ℕ → List ℕ
random_mask_of params key id q = take params.n (hmac key (leaf_text 0x02 id q))

-- the check tag of the randomizer C of leaf q, from a trustee's key: all 32 bytes
unfoldable pub check_tag_of : List ℕ → List ℕ → ℕ → List ℕ → List ℕ
check_tag_of key id q c = hmac key (leaf_text 0x03 id q ++ c)

-- the randomizer C of leaf q, from the randomizer key: the first n bytes
unfoldable pub randomizer_of : Params → List ℕ → List ℕ → ℕ → List ℕ
randomizer_of params key id q = take params.n (hmac key (leaf_text 0x04 id q))
