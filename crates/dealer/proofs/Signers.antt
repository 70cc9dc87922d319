-- What both trustees sign is what the undivided key signs.
use Rattle.std.proofs.Common.{◌≡◌, ℕ, ◌<◌, ◌^◌, List, [], ◌∷◌, length, refl}
use Rattle.coalition_map.specs.Coalitions.{IsPlan}
use Rattle.lms_bytes.specs.Bytes.{joined}
use Rattle.lms_bytes.specs.Signature.{signature_bytes}
use Rattle.lms_bytes.specs.Digits.{digit_of}
use Rattle.lms_bytes.specs.declared.params.Params.{Params}
use Rattle.lms_verify.specs.UndividedKey.{UndividedKey, chain_values, rfc_signature}
use Rattle.merkle_path.specs.Nodes.{path}
use Rattle.merkle_path.specs.Tree.{path_at}
use Rattle.merkle_path.proofs.Trees.{path_at-tree_of}
use Rattle.ots_chain.specs.LeafKey.{seed_leaf_key}
use Rattle.ots_chain.specs.MessageHash.{message_digest}
use Rattle.reference_value.specs.Dealing.{Dealing, chain_sums, chain_value, key_of, leaf_randomizer, members_of}
use Rattle.reference_value.proofs.Reference.{randomizer_in-reference}
use Rattle.reference_value.proofs.Unmasking.{chains-unmasked, randomizer-unmasked}
use Rattle.dealer.specs.Dealt.{IsDealt}
use Rattle.dealer.specs.declared.dealing.Dealt.{Dealt}
use Rattle.dealer.specs.Signing.{digit_sum, signed_chains, signed_leaf, signed_randomizer}
use Rattle.dealer.specs.declared.masks.Keys.{Keys}

-- what was dealt, and the keys of trustees 1 and 2, who are the members of leaf q
pub record AreSigners (d : Dealing) (dealt : Dealt) (keys : Keys) (q : ℕ) : Type 0 where
  pub dealing : IsDealt d dealt
  pub plan : IsPlan d.plan
  pub leaf : q < 2 ^ d.params.h
  pub members : members_of d q ≡ 1 ∷ 2 ∷ []
  pub first : keys.first ≡ key_of d 1
  pub second : keys.second ≡ key_of d 2

-- the key that was dealt
abbrev pub dealt_key : (d : Dealing) → length d.id ≡ 16 → length d.seed ≡ d.params.n → UndividedKey
dealt_key d id_length seed_length = record { params = d.params; id = d.id; seed = d.seed; id_length = id_length; seed_length = seed_length }

randomizer-is : (d : Dealing) (dealt : Dealt) (keys : Keys) (q : ℕ) → AreSigners d dealt keys q → signed_randomizer d.plan dealt keys q ≡ leaf_randomizer d q
randomizer-is d dealt keys q s =
    let place = randomizer_in-reference d q s.plan s.leaf in
    rw (s.dealing.params, s.dealing.id, s.dealing.reference_is, s.first, s.second, place) (rw s.members at (randomizer-unmasked d q))

sums-are : (d : Dealing) (keys : Keys) (q : ℕ) (digest : List ℕ) → members_of d q ≡ 1 ∷ 2 ∷ [] → keys.first ≡ key_of d 1 → keys.second ≡ key_of d 2
    → joined (digit_sum d.params d.id keys q digest) d.params.p ≡ chain_sums d q digest
unfolding chain_sums
sums-are d keys q digest members first second = rw (members, first, second) refl

chains-are : (d : Dealing) (dealt : Dealt) (keys : Keys) (q : ℕ) (digest : List ℕ) → AreSigners d dealt keys q
    → signed_chains d.plan dealt keys q digest ≡ joined (λ i. chain_value d q i (digit_of d.params digest i)) d.params.p
chains-are d dealt keys q digest s =
    let sums = sums-are d keys q digest s.members s.first s.second in
    rw (s.dealing.params, s.dealing.id, s.dealing.reference_is, sums) (chains-unmasked d q digest s.plan s.leaf)

-- K of leaf q
abbrev leaf_key_in : Dealing → ℕ → List ℕ
leaf_key_in d q = seed_leaf_key d.params d.id q d.seed

path-is : (d : Dealing) (dealt : Dealt) (q : ℕ) → IsDealt d dealt → q < 2 ^ d.params.h → path_at dealt.tree q ≡ path d.params d.id (leaf_key_in d) q
path-is d dealt q dealing leaf = rw dealing.tree (path_at-tree_of d.params d.id (leaf_key_in d) q leaf)

-- signatures with the same parts
same-parts : (params params' : Params) (id id' : List ℕ) (q : ℕ) (message c c' path path' : List ℕ) (chains chains' : List ℕ → List ℕ)
    → params ≡ params' → id ≡ id' → c ≡ c' → path ≡ path' → ((digest : List ℕ) → chains digest ≡ chains' digest)
    → signature_bytes params q c (chains (message_digest params id q c message)) path
    ≡ signature_bytes params' q c' (chains' (message_digest params' id' q c' message)) path'
same-parts params params' id id' q message c c' path path' chains chains' a b e p each =
    rw (a, b, e, p, each (message_digest params' id' q c' message)) refl

pub signature-is : (d : Dealing) (dealt : Dealt) (keys : Keys) (q : ℕ) (message : List ℕ) (id_length : length d.id ≡ 16) (seed_length : length d.seed ≡ d.params.n)
    → AreSigners d dealt keys q
    → signed_leaf d.plan dealt keys q message ≡ rfc_signature (dealt_key d id_length seed_length) q (leaf_randomizer d q) message
signature-is d dealt keys q message id_length seed_length s =
    same-parts dealt.public.params d.params dealt.public.id d.id q message (signed_randomizer d.plan dealt keys q) (leaf_randomizer d q)
    (path_at dealt.tree q) (path d.params d.id (leaf_key_in d) q)
    (signed_chains d.plan dealt keys q) (chain_values (dealt_key d id_length seed_length) q)
    s.dealing.params s.dealing.id (randomizer-is d dealt keys q s) (path-is d dealt q s.dealing s.leaf) (λ digest. chains-are d dealt keys q digest s)
