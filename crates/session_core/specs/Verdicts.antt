-- What a round without a fault gives.
use Rattle.std.specs.Prelude.{◌≡◌, ◌≢◌, ◌⊎◌, ℕ, ◌*◌, Bool, IsTrue, List, length, map, All, Some, None}
use Rattle.lms_bytes.specs.Bytes.{xor}
use Rattle.lms_bytes.specs.Signature.{HasLayout, signature_bytes}
use Rattle.lms_bytes.specs.declared.params.Params.{Params}
use Rattle.lms_verify.specs.Accepts.{LeadsTo}
use Rattle.merkle_path.specs.Tree.{TreeNodes, path_at}
use Rattle.ots_chain.specs.MessageHash.{message_digest}
use Rattle.reference_value.specs.Dealing.{sum_of_masks}
use Rattle.reference_value.specs.Joins.{joined_chains}
use Rattle.reference_value.specs.Places.{randomizer_in}
use Rattle.disk_trait.specs.Faults.{Rose}
use Rattle.session_core.specs.Judging.{round_fault}
use Rattle.session_core.specs.Seats.{Seat}
use Rattle.session_core.specs.State.{State, asked_c, turned}
use Rattle.session_core.specs.declared.faults.SessionFault.{SessionFault}
use Rattle.session_core.specs.declared.faults.SessionFault.TheVariants.{NoMemory, Reference, WrongRoot}

-- the kept reply of every member is masks
abbrev pub AreMasks : List Seat → Type 0
AreMasks seats = All (λ (seat : Seat). seat.code ≡ Some 0) seats

-- all bodies have n bytes
abbrev pub HaveLength : ℕ → List Seat → Type 0
HaveLength n seats = All (λ (seat : Seat). length seat.body ≡ n) seats

abbrev pub bodies_of : List Seat → List (List ℕ)
bodies_of seats = map (λ (seat : Seat). seat.body) seats

-- the randomizer C: that of the reference, XOR the masks of all members
abbrev pub joined_c : State → List ℕ → List ℕ
joined_c s leaves =
    xor (randomizer_in s.key.params s.plan leaves s.leaf) (sum_of_masks s.key.params.n (bodies_of s.first))

-- the digest of the message under the session's randomizer
abbrev pub digest_of : State → List ℕ → List ℕ
digest_of s message = message_digest s.key.params s.key.id s.leaf (asked_c s) message

-- the digest of some message under the session's randomizer
abbrev pub IsDigest : State → List ℕ → Type 0
IsDigest s digest = (message : List ℕ) × (digest ≡ digest_of s message)

-- the values of the chains: the cells of the reference, XOR the masks of all members
abbrev pub joined_values : State → List ℕ → List ℕ → List ℕ
joined_values s leaves digest =
    let params = s.key.params in
    joined_chains params s.plan leaves s.leaf digest (sum_of_masks (params.n * params.p) (bodies_of s.second))

-- the layout of the signature, with the path of the tree
abbrev pub joined_bytes : State → List ℕ → TreeNodes → List ℕ → List ℕ
joined_bytes s leaves tree message =
    signature_bytes s.key.params s.leaf (asked_c s) (joined_values s leaves (digest_of s message)) (path_at tree s.leaf)

-- the session went to round two: all replies of round one were masks, and it has a randomizer
pub record Turned (old new : State) : Type 0 where
  pub masks : AreMasks old.first
  pub c : List ℕ
  pub c_length : length c ≡ old.key.params.n
  pub same : new ≡ turned old c

-- a round without a fault that could not end because of the reference: the count of the cells rose
pub record Unread (s : State) (digest : List ℕ) (before now : ℕ) (fault : SessionFault) : Type 0 where
  pub faultless : round_fault s digest ≡ None
  pub reference : fault ≡ Reference
  pub rose : Rose before now

-- these bytes are a signature that leads to another root than the key's
pub record LeadsAstray (s : State) (message bytes : List ℕ) (fault : SessionFault) : Type 0 where
  pub got : List ℕ
  pub fault_is : fault ≡ WrongRoot s.leaf got s.key.root
  pub leads : LeadsTo s.key message bytes s.leaf got
  pub other : got ≢ s.key.root

-- a round without a fault, whose bytes, if these are told, lead to another root than the key's
pub record Astray (s : State) (message : List ℕ) (told : Bool) (bytes : List ℕ) (fault : SessionFault) : Type 0 where
  pub faultless : round_fault s (digest_of s message) ≡ None
  pub got : List ℕ
  pub fault_is : fault ≡ WrongRoot s.leaf got s.key.root
  pub other : got ≢ s.key.root
  pub leads : IsTrue told → LeadsTo s.key message bytes s.leaf got

-- internal: the bytes are the layout of a signature of leaf q with the randomizer c
pub record LaysOut (params : Params) (bytes : List ℕ) (q : ℕ) (c : List ℕ) : Type 0 where
  pub y : List ℕ
  pub path : List ℕ
  pub layout : HasLayout params bytes q c y path

-- internal: why masks are not joined to the values of chains
abbrev pub JoinFails : ℕ → ℕ → SessionFault → Type 0
JoinFails before now fault = (fault ≡ NoMemory) ⊎ ((fault ≡ Reference) × Rose before now)

-- why round two gives no signature: memory ran out, the first fault of the round, a reference that was not read, or a
-- signature that leads to another root, if it was told what it is
abbrev pub FinishFails : State → List ℕ → Bool → List ℕ → ℕ → ℕ → SessionFault → Type 0
FinishFails s message told bytes before now fault =
    (fault ≡ NoMemory) ⊎ (round_fault s (digest_of s message) ≡ Some fault)
    ⊎ Unread s (digest_of s message) before now fault ⊎ Astray s message told bytes fault
