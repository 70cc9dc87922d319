-- The key that is dealt is the undivided key of the dealing.
use Rattle.std.proofs.Common.{◌≡◌, ℕ, Bool, ◌+◌, ◌<◌, ◌≤◌, ◌^◌, List, length, drop, refl, sym, ◌∙◌, arith, inl, inr, length-take, length-drop}
use Rattle.coalition_map.specs.Coalitions.{PlanNumbers}
use Rattle.lms_bytes.specs.Bytes.{bytes_at}
use Rattle.lms_bytes.specs.PublicKey.{public_bytes}
use Rattle.lms_bytes.specs.declared.params.Params.{Params}
use Rattle.lms_bytes.specs.declared.public_key.PublicKey.{PublicKey}
use Rattle.lms_verify.specs.Accepts.{AcceptsAt}
use Rattle.lms_verify.specs.UndividedKey.{UndividedKey, leaf_key, public_key_of, rfc_signature}
use Rattle.lms_verify.proofs.Signed.{accepted}
use Rattle.merkle_path.specs.Tree.{tree_of}
use Rattle.ots_chain.specs.LeafKey.{seed_leaf_key}
use Rattle.reference_value.specs.Dealing.{Dealing}
use Rattle.dealer.specs.Dealt.{IsDealt, IsKeyOf}
use Rattle.dealer.specs.Entropy.{dealing_of}
use Rattle.dealer.specs.Faults.{IsDealable}
use Rattle.dealer.specs.declared.dealing.Dealt.{Dealt}

pub inside : (s : List ℕ) (place count : ℕ) → place + count ≤ length s → length (bytes_at s place count) ≡ count
inside s place count within = omega (arith, length-take count (drop place s), length-drop place s)

hash_small : (params : Params) → params.n ≤ 32
hash_small params = elim params.hash_length [ inl e ↦ omega arith | inr e ↦ omega arith ]

pub undivided : (large : Bool) (params : Params) (plan : PlanNumbers) (entropy : List ℕ) → IsDealable large params plan entropy
    → (key : UndividedKey) × IsKeyOf (dealing_of params plan entropy) key
undivided large params plan entropy dealable =
    let size = dealable.size in
    let key : UndividedKey = record {
      params = params;
      id = bytes_at entropy 0 16;
      seed = bytes_at entropy 16 params.n;
      id_length = inside entropy 0 16 (omega arith);
      seed_length = inside entropy 16 params.n (omega (arith, hash_small params));
    } in
    (key, record { params = refl; id = refl; seed = refl })

pub public_is : (d : Dealing) (dealt : Dealt) (key : UndividedKey) → IsKeyOf d key → IsDealt d dealt
    → public_bytes dealt.public ≡ public_bytes (public_key_of key)
public_is d dealt key is dealt_is = rw (dealt_is.params, dealt_is.id, dealt_is.root_is, is.params, is.id, is.seed) refl

same_tree : (params params' : Params) (id id' seed seed' : List ℕ) → params ≡ params' → id ≡ id' → seed ≡ seed'
    → tree_of params id (λ q. seed_leaf_key params id q seed) ≡ tree_of params' id' (λ q. seed_leaf_key params' id' q seed')
same_tree params params' id id' seed seed' a b e = rw (a, b, e) refl

pub tree_is : (d : Dealing) (dealt : Dealt) (key : UndividedKey) → IsKeyOf d key → IsDealt d dealt
    → dealt.tree ≡ tree_of key.params key.id (leaf_key key)
tree_is d dealt key is dealt_is = dealt_is.tree ∙ same_tree d.params key.params d.id key.id d.seed key.seed (sym is.params) (sym is.id) (sym is.seed)

-- a signature that is accepted under one key is so under a key with the same set, identifier and root
carried : (key other : PublicKey) (message signature : List ℕ) (q : ℕ) → other.params ≡ key.params → other.id ≡ key.id → other.root ≡ key.root
    → AcceptsAt key message signature q → AcceptsAt other message signature q
carried key other message signature q params id root a = record {
  c = a.c;
  y = a.y;
  path = a.path;
  layout = rw params a.layout;
  root_is = rw (params, id, root) a.root_is;
}

pub accepted_is : (d : Dealing) (dealt : Dealt) (key : UndividedKey) (q : ℕ) (c message : List ℕ) → IsKeyOf d key → IsDealt d dealt
    → q < 2 ^ key.params.h → length c ≡ key.params.n → AcceptsAt dealt.public message (rfc_signature key q c message) q
accepted_is d dealt key q c message is dealt_is leaf size =
    carried (public_key_of key) dealt.public message (rfc_signature key q c message) q
    (rw is.params dealt_is.params) (rw is.id dealt_is.id) (rw (is.params, is.id, is.seed) dealt_is.root_is)
    (accepted key q c message leaf size)
