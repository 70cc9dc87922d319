-- What the members' own masks give over the dealer's reference and tree.
use Rattle.std.proofs.Common.{◌≡◌, ℕ, ◌*◌, ◌<◌, ◌^◌, List, [], ◌∷◌, All, None, Some, Option, length, map, refl, sym, ◌∙◌}
use Rattle.std.proofs.lemmas.List.Elements.{All-head, All-tail}
use Rattle.lms_bytes.specs.Bytes.{joined}
use Rattle.lms_bytes.specs.Digits.{digit_of}
use Rattle.lms_bytes.specs.Signature.{signature_bytes}
use Rattle.lms_bytes.specs.declared.params.Params.{Params}
use Rattle.lms_bytes.specs.declared.public_key.PublicKey.{PublicKey}
use Rattle.lms_verify.specs.Accepts.{AcceptsAt}
use Rattle.lms_verify.specs.UndividedKey.{UndividedKey, chain_values, leaf_key, public_key_of, rfc_signature}
use Rattle.lms_verify.proofs.Signed.{accepted}
use Rattle.mask_prf.proofs.Lengths.{length-chain_mask_of, length-randomizer_of}
use Rattle.merkle_path.specs.Nodes.{path}
use Rattle.merkle_path.specs.Tree.{TreeNodes, path_at, tree_of}
use Rattle.merkle_path.proofs.Trees.{path_at-tree_of}
use Rattle.ots_chain.specs.MessageHash.{message_digest}
use Rattle.reference_value.specs.Dealing.{Dealing, chain_mask, chain_sums, chain_value, key_of, leaf_randomizer, members_of, random_mask, reference, sum_of_masks}
use Rattle.reference_value.proofs.Reference.{randomizer_in-reference}
use Rattle.reference_value.proofs.Unmasking.{chains-unmasked, randomizer-unmasked}
use Rattle.session_core.specs.Dealing.{FirstMasks, IsAnswered, IsOfDealing, SecondMasks, digit_masks}
use Rattle.session_core.specs.Judging.{first_fault, round_fault, seat_fault}
use Rattle.session_core.specs.Seats.{Seat}
use Rattle.session_core.specs.State.{IsSession, State, asked_c}
use Rattle.session_core.specs.Verdicts.{bodies_of, digest_of, joined_bytes, joined_c, joined_values}
use Rattle.session_core.specs.declared.faults.SessionFault.{SessionFault}
use Rattle.session_core.proofs.Sums.{sum-joined}
use Rattle.session_core.proofs.Taking.{second-round}

-- each seat keeps masks, and these are a function of the member
abbrev pub Keeps : (ℕ → List ℕ) → Seat → Type 0
Keeps mask seat = (seat.code ≡ Some 0) × (seat.body ≡ mask seat.member)

bodies-are : (mask : ℕ → List ℕ) (seats : List Seat) → All (Keeps mask) seats → bodies_of seats ≡ map mask (map (λ (seat : Seat). seat.member) seats)
bodies-are mask [] all = refl
bodies-are mask (seat ∷ seats) all =
    let head = All-head (Keeps mask) seat seats all in
    let rest = bodies-are mask seats (All-tail (Keeps mask) seat seats all) in
    rw (head.1, rest) refl

first-of-masks : (s : State) (digest : List ℕ) (seat : Seat) (rest : List (Option SessionFault)) → seat.code ≡ Some 0
    → first_fault (seat_fault s digest seat ∷ rest) ≡ first_fault rest
unfolding first_fault
first-of-masks s digest seat rest is = rw is refl

first-of-none : first_fault [] ≡ None
unfolding first_fault
first-of-none = refl

masks-faultless : (s : State) (digest : List ℕ) (mask : ℕ → List ℕ) (seats : List Seat) → All (Keeps mask) seats
    → first_fault (map (seat_fault s digest) seats) ≡ None
masks-faultless s digest mask [] all = first-of-none
masks-faultless s digest mask (seat ∷ seats) all =
    let head = All-head (Keeps mask) seat seats all in
    first-of-masks s digest seat (map (seat_fault s digest) seats) head.0 ∙ masks-faultless s digest mask seats (All-tail (Keeps mask) seat seats all)

-- the dealer's randomizer comes out of round one
pub randomizer-is : (d : Dealing) (key : UndividedKey) (s : State) → IsSession s → IsOfDealing d key s → FirstMasks d s
    → joined_c s (reference d) ≡ leaf_randomizer d s.leaf
randomizer-is d key s session of masks =
    let leaf : s.leaf < 2 ^ d.params.h = rw of.params at session.leaf in
    let place = randomizer_in-reference d s.leaf of.plan_is leaf in
    let members : map (λ (seat : Seat). seat.member) s.first ≡ members_of d s.leaf = session.first.theirs ∙ rw of.plan refl in
    rw (of.params, of.plan, bodies-are (random_mask d s.leaf) s.first masks, members, place) (randomizer-unmasked d s.leaf)

sums-are : (d : Dealing) (q : ℕ) (digest : List ℕ)
    → sum_of_masks (d.params.n * d.params.p) (map (digit_masks d q digest) (members_of d q)) ≡ chain_sums d q digest
unfolding chain_sums
sums-are d q digest =
    sum-joined d.params.n d.params.p (λ i t. chain_mask d q i (digit_of d.params digest i) t) (members_of d q)
    (λ i t. length-chain_mask_of d.params (key_of d t) d.id q i (digit_of d.params digest i))

values-are : (d : Dealing) (key : UndividedKey) (s : State) (digest : List ℕ) → IsSession s → IsOfDealing d key s → SecondMasks d s digest
    → joined_values s (reference d) digest ≡ joined (λ i. chain_value d s.leaf i (digit_of d.params digest i)) d.params.p
values-are d key s digest session of masks =
    let leaf : s.leaf < 2 ^ d.params.h = rw of.params at session.leaf in
    let members : map (λ (seat : Seat). seat.member) s.second ≡ members_of d s.leaf = session.second.theirs ∙ rw of.plan refl in
    rw (of.params, of.plan, bodies-are (digit_masks d s.leaf digest) s.second masks, members, sums-are d s.leaf digest) (chains-unmasked d s.leaf digest of.plan_is leaf)

-- the values are those of the undivided key
key-values : (d : Dealing) (key : UndividedKey) (q : ℕ) (digest : List ℕ) → key.params ≡ d.params → key.id ≡ d.id → key.seed ≡ d.seed
    → joined (λ i. chain_value d q i (digit_of d.params digest i)) d.params.p ≡ chain_values key q digest
key-values d key q digest params id seed = rw (← params, ← id, ← seed) refl

-- the path is that of the tree
key-path : (key : UndividedKey) (tree : TreeNodes) (q : ℕ) → tree ≡ tree_of key.params key.id (leaf_key key) → q < 2 ^ key.params.h
    → path_at tree q ≡ path key.params key.id (leaf_key key) q
key-path key tree q is leaf = rw is (path_at-tree_of key.params key.id (leaf_key key) q leaf)

-- signatures with the same parts
same-parts : (params params' : Params) (id id' : List ℕ) (q : ℕ) (message c c' path path' : List ℕ) (values values' : List ℕ → List ℕ)
    → params ≡ params' → id ≡ id' → c ≡ c' → path ≡ path'
    → values (message_digest params id q c message) ≡ values' (message_digest params id q c message)
    → signature_bytes params q c (values (message_digest params id q c message)) path
    ≡ signature_bytes params' q c' (values' (message_digest params' id' q c' message)) path'
same-parts params params' id id' q message c c' path path' values values' a b e p each =
    rw (← a, ← b, ← e, ← p, each) refl

asked-c : (s : State) (c : List ℕ) → s.c ≡ Some c → asked_c s ≡ c
asked-c s c is = rw is refl

pub signature-is : (d : Dealing) (key : UndividedKey) (s : State) (leaves : List ℕ) (tree : TreeNodes) (message : List ℕ) → IsSession s
    → IsAnswered d key s (digest_of s message) leaves tree
    → joined_bytes s leaves tree message ≡ rfc_signature key s.leaf (leaf_randomizer d s.leaf) message
signature-is d key s leaves tree message session a =
    let of = a.dealing in
    let params : s.key.params ≡ key.params = of.params ∙ sym of.key_params in
    let leaf : s.leaf < 2 ^ key.params.h = rw params at session.leaf in
    let values : joined_values s leaves (digest_of s message) ≡ chain_values key s.leaf (digest_of s message) =
    rw a.leaves_are (values-are d key s (digest_of s message) session of a.masks ∙ key-values d key s.leaf (digest_of s message) of.key_params of.key_id of.key_seed) in
    same-parts s.key.params key.params s.key.id key.id s.leaf message (asked_c s) (leaf_randomizer d s.leaf) (path_at tree s.leaf)
    (path key.params key.id (leaf_key key) s.leaf) (joined_values s leaves) (chain_values key s.leaf)
    params (of.id ∙ sym of.key_id) (asked-c s _ a.c) (key-path key tree s.leaf a.tree_is leaf) values

-- a signature that is accepted under one key is also accepted under a key with the same set, identifier and root
carried : (key other : PublicKey) (message signature same : List ℕ) (q : ℕ) → other.params ≡ key.params → other.id ≡ key.id → other.root ≡ key.root → same ≡ signature
    → AcceptsAt key message signature q → AcceptsAt other message same q
carried key other message signature same q params id root e a = record {
  c = a.c;
  y = a.y;
  path = a.path;
  layout = rw (params, e) a.layout;
  root_is = rw (params, id, root) a.root_is;
}

pub signature-accepted : (d : Dealing) (key : UndividedKey) (s : State) (leaves : List ℕ) (tree : TreeNodes) (message : List ℕ) → IsSession s
    → IsAnswered d key s (digest_of s message) leaves tree → AcceptsAt s.key message (joined_bytes s leaves tree message) s.leaf
signature-accepted d key s leaves tree message session a =
    let of = a.dealing in
    let params : s.key.params ≡ key.params = of.params ∙ sym of.key_params in
    let leaf : s.leaf < 2 ^ key.params.h = rw params at session.leaf in
    let size : length (leaf_randomizer d s.leaf) ≡ key.params.n = rw of.key_params (length-randomizer_of d.params d.random_key d.id s.leaf) in
    carried (public_key_of key) s.key message (rfc_signature key s.leaf (leaf_randomizer d s.leaf) message) (joined_bytes s leaves tree message) s.leaf
    params (of.id ∙ sym of.key_id) of.root_is (signature-is d key s leaves tree message session a) (accepted key s.leaf (leaf_randomizer d s.leaf) message leaf size)

pub answered-faultless : (d : Dealing) (key : UndividedKey) (s : State) (leaves : List ℕ) (tree : TreeNodes) (digest : List ℕ)
    → IsAnswered d key s digest leaves tree → round_fault s digest ≡ None
answered-faultless d key s leaves tree digest a =
    rw (second-round s (leaf_randomizer d s.leaf) a.c) (masks-faultless s digest (digit_masks d s.leaf digest) s.second a.masks)
