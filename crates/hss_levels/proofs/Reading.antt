-- The front of a string of signed keys, found again.
use Rattle.std.proofs.Common.{◌≡◌, ◌≢◌, ℕ, suc, zero, ◌+◌, ◌*◌, ◌^◌, ◌<◌, ◌≤◌, List, [], ◌∷◌, ◌++◌, length, take, drop, Option, Some, None, Bool, true, false, nat_lt, ◌==◌, refl, sym, ap, ◌∙◌, append_assoc, arith, length-append, inl, inr, ◌⊎◌, cond}
use Rattle.std.specs.Prelude.{if◌then◌else◌}
use Rattle.std.proofs.lemmas.List.{drop_at, take_at}
use Rattle.std.proofs.lemmas.Nat.{from_be_bytes-to_be_bytes_4}
use Rattle.std.proofs.lemmas.Bool.Decides.{nat_tests}
use Rattle.lms_bytes.specs.Bytes.{bytes_at, str_to_u32, u32str}
use Rattle.lms_bytes.specs.Params.{codes_fault}
use Rattle.lms_bytes.specs.PublicKey.{public_bytes, public_fault, public_length}
use Rattle.lms_bytes.specs.Signature.{signature_fault, signature_length, tree_place}
use Rattle.lms_bytes.specs.declared.faults.KeyFault.{KeyFault}
use Rattle.lms_bytes.specs.declared.faults.SigFault.{SigFault}
use Rattle.lms_bytes.specs.declared.faults.SigFault.TheVariants.{Short, OtsCode, TooShort, LmsCode, Leaf, Length}
use Rattle.lms_bytes.specs.declared.params.Params.{Params}
use Rattle.lms_bytes.specs.declared.public_key.PublicKey.{PublicKey}
use Rattle.lms_bytes.proofs.Layouts.{codes_accepted}
use Rattle.hss_levels.specs.Levels.{SignedKey, signed_keys_bytes}
use Rattle.hss_levels.specs.Parts.{AllRead, ArePartsOf, PartsFault, SignedKeyFault, behind_signature, further, key_behind, key_front, last_signature, signature, signature_front, signed_key}
use Rattle.hss_levels.specs.declared.faults.HssFault.{HssFault}
use Rattle.hss_levels.specs.declared.faults.HssFault.TheVariants.{Sig, Pub}

-- a test that has passed
passed : (b : Bool) (fault : SigFault) (rest : Option SigFault) → (if b then Some fault else rest) ≡ None → rest ≡ None
passed true fault rest e = absurd (cc)
passed false fault rest e = e

holds : (b : Bool) (fault : SigFault) (rest : Option SigFault) → (if b then rest else Some fault) ≡ None → (b ≡ true) × (rest ≡ None)
holds true fault rest e = (refl, e)
holds false fault rest e = absurd (cc)

-- a signature in which no fault is found has its set's length
pub length-read : (params : Params) (bytes : List ℕ) → signature_fault params bytes ≡ None → length bytes ≡ signature_length params
unfolding signature_fault
length-read params bytes e =
    let ots = str_to_u32 (bytes_at bytes 4 4) in
    let lms = str_to_u32 (bytes_at bytes (tree_place params) 4) in
    let q = str_to_u32 (bytes_at bytes 0 4) in
    let exact = length bytes == signature_length params in
    let from_exact : Option SigFault = if exact then None else Some (Length (length bytes) (signature_length params)) in
    let from_leaf : Option SigFault = if nat_lt q (2 ^ params.h) then from_exact else Some (Leaf q) in
    let from_lms : Option SigFault = if lms == params.lms then from_leaf else Some (LmsCode lms) in
    let from_short : Option SigFault = if nat_lt (length bytes) (12 + params.n * (params.p + 1)) then Some (TooShort (length bytes)) else from_lms in
    let from_ots : Option SigFault = if ots == params.ots then from_short else Some (OtsCode ots) in
    let one = passed (nat_lt (length bytes) 8) Short from_ots e in
    let two = holds (ots == params.ots) (OtsCode ots) from_short one in
    let three = passed (nat_lt (length bytes) (12 + params.n * (params.p + 1))) (TooShort (length bytes)) from_lms two.1 in
    let four = holds (lms == params.lms) (LmsCode lms) from_leaf three in
    let five = holds (nat_lt q (2 ^ params.h)) (Leaf q) from_exact four.1 in
    let six = (holds exact (Length (length bytes) (signature_length params)) None five.1).0 in
    grind (arith, nat_tests)

length-key : (params : Params) → public_length params.lms ≡ 24 + params.n
length-key params = rw (params.lms_is, public_length) refl

length-public : (key : PublicKey) → length (public_bytes key) ≡ 24 + key.params.n
length-public key =
    let id_length = key.id_length in
    let root_length = key.root_length in
    simp length-append (omega arith)

-- as many bytes as the set of the typecodes has
front_by : Bool → ℕ → ℕ → List ℕ → List ℕ
front_by short lms ots parts =
    if short then parts else
    elim (codes_fault lms ots) [ None ↦ take (public_length lms) parts | Some fault ↦ parts ]

front_by-set : (short : Bool) (lms ots n : ℕ) (parts : List ℕ) → short ≡ false → codes_fault lms ots ≡ None → public_length lms ≡ n
    → front_by short lms ots parts ≡ take n parts
unfolding front_by
front_by-set short lms ots n parts long accepted size = rw long (rw accepted (ap (λ (k : ℕ). take k parts) size))

-- a key is read from its own bytes, whatever follows them
pub key_front-at : (key : PublicKey) (behind : List ℕ) → key_front (public_bytes key ++ behind) ≡ public_bytes key
unfolding key_front front_by
key_front-at key behind =
    let bytes = public_bytes key ++ behind in
    let size = length-public key in
    let all : length bytes ≡ length (public_bytes key) + length behind = length-append (public_bytes key) behind in
    let long : nat_lt (length bytes) 8 ≡ false = grind (arith, nat_tests) in
    let lms : str_to_u32 (bytes_at bytes 0 4) ≡ key.params.lms = from_be_bytes-to_be_bytes_4 key.params.lms (omega (arith, key.params.lms_small)) in
    let ots : str_to_u32 (bytes_at bytes 4 4) ≡ key.params.ots = from_be_bytes-to_be_bytes_4 key.params.ots (omega (arith, key.params.ots_small)) in
    let accepted : codes_fault (str_to_u32 (bytes_at bytes 0 4)) (str_to_u32 (bytes_at bytes 4 4)) ≡ None =
    ap (λ (k : ℕ). codes_fault k (str_to_u32 (bytes_at bytes 4 4))) lms ∙ (ap (λ (k : ℕ). codes_fault key.params.lms k) ots ∙ codes_accepted key.params) in
    let want : public_length (str_to_u32 (bytes_at bytes 0 4)) ≡ 24 + key.params.n = ap public_length lms ∙ length-key key.params in
    front_by-set (nat_lt (length bytes) 8) (str_to_u32 (bytes_at bytes 0 4)) (str_to_u32 (bytes_at bytes 4 4)) (24 + key.params.n) bytes long accepted want
    ∙ take_at (public_bytes key) behind (24 + key.params.n) size

-- the signed key at the front of a string
pub record Front (key : PublicKey) (parts : List ℕ) (signed : SignedKey) (behind : List ℕ) : Type 0 where
  pub signature : signature_front key parts ≡ signed.signature
  pub rest : behind_signature key parts ≡ public_bytes signed.key ++ behind
  pub message : key_front (behind_signature key parts) ≡ public_bytes signed.key

pub front : (key : PublicKey) (parts : List ℕ) (signed : SignedKey) (behind : List ℕ) → signature_fault key.params signed.signature ≡ None
    → parts ≡ signed.signature ++ public_bytes signed.key ++ behind → Front key parts signed behind
front key parts signed behind read parts_are =
    let size = length-read key.params signed.signature read in
    let rest = public_bytes signed.key ++ behind in
    let moved : parts ≡ signed.signature ++ rest = parts_are ∙ append_assoc signed.signature (public_bytes signed.key) behind in
    let rest_is : behind_signature key parts ≡ rest =
    ap (drop (signature_length key.params)) moved ∙ drop_at signed.signature rest (signature_length key.params) size in
    record {
      signature = ap (take (signature_length key.params)) moved ∙ take_at signed.signature rest (signature_length key.params) size;
      rest = rest_is;
      message = ap key_front rest_is ∙ key_front-at signed.key behind;
    }

-- what a fault says if no key stands below
pub record LastFault (key : PublicKey) (level : ℕ) (parts : List ℕ) (fault : HssFault) : Type 0 where
  pub of : SigFault
  pub is : fault ≡ Sig level of
  pub found : signature_fault key.params parts ≡ Some of

pub fault-last : (key : PublicKey) (level below : ℕ) (parts : List ℕ) (fault : HssFault) → PartsFault key level below parts fault → below ≡ 0
    → LastFault key level parts fault
fault-last key level below parts fault (last_signature _ _ _ of found) none = record { of = of; is = refl; found = found }
fault-last key level below parts fault (signed_key _ _ _ _ _ _) none = absurd (omega arith)
fault-last key level below parts fault (further _ _ _ _ _ _ _ _ _ _) none = absurd (omega arith)

-- what a fault says after the signed key at the front
pub record FurtherFault (key : PublicKey) (level below : ℕ) (parts : List ℕ) (fault : HssFault) : Type 0 where
  pub signed : SignedKey
  pub behind : List ℕ
  pub read : signature_fault key.params signed.signature ≡ None
  pub parts_are : parts ≡ signed.signature ++ public_bytes signed.key ++ behind
  pub fault_is : PartsFault signed.key (level + 1) below behind fault

pub fault-key : (key : PublicKey) (level below keys : ℕ) (parts : List ℕ) (fault : HssFault) → PartsFault key level keys parts fault → keys ≡ below + 1
    → SignedKeyFault key level parts fault ⊎ FurtherFault key level below parts fault
fault-key key level below keys parts fault (last_signature _ _ _ _ _) more = absurd (omega arith)
fault-key key level below keys parts fault (signed_key _ _ _ _ _ first) more = inl first
fault-key key level below keys parts fault (further _ _ below' _ _ signed behind read parts_are rest) more =
    let same : below' ≡ below = omega arith in
    inr (record { signed = signed; behind = behind; read = read; parts_are = parts_are; fault_is = rw same at rest })

-- the one fault of a string whose signature does not read
pub refused-signature : (key : PublicKey) (level : ℕ) (parts : List ℕ) (of : SigFault) (fault : HssFault)
    → signature_fault key.params (signature_front key parts) ≡ Some of → SignedKeyFault key level parts fault → Sig level of ≡ fault
refused-signature key level parts of fault found (signature of' found') =
    let same : Some of ≡ Some of' = sym found ∙ found' in
    let equal : of ≡ of' = cc in
    ap (Sig level) equal
refused-signature key level parts of fault found (key_behind of' read found') = absurd (cc)

-- the one fault of a string whose signature reads, and whose key does not
pub refused-key : (key : PublicKey) (level : ℕ) (parts : List ℕ) (of : KeyFault) (fault : HssFault)
    → signature_fault key.params (signature_front key parts) ≡ None → public_fault (key_front (behind_signature key parts)) ≡ Some of
    → SignedKeyFault key level parts fault → Pub (level + 1) of ≡ fault
refused-key key level parts of fault read found (signature of' found') = absurd (cc)
refused-key key level parts of fault read found (key_behind of' read' found') =
    let same : Some of ≡ Some of' = sym found ∙ found' in
    let equal : of ≡ of' = cc in
    ap (Pub (level + 1)) equal

-- no fault if both read
pub faultless : (key : PublicKey) (level : ℕ) (parts : List ℕ) (fault : HssFault)
    → signature_fault key.params (signature_front key parts) ≡ None → public_fault (key_front (behind_signature key parts)) ≡ None
    → SignedKeyFault key level parts fault → ⊥
faultless key level parts fault read found (signature of' found') = cc
faultless key level parts fault read found (key_behind of' read' found') = cc
