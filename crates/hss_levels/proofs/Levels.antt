-- Signed keys, one in front of the others.
use Rattle.std.proofs.Common.{◌≡◌, ◌≢◌, ℕ, suc, zero, ◌+◌, ◌-◌, ◌<◌, List, [], ◌∷◌, ◌++◌, length, Option, Some, None, refl, sym, ap, ◌∙◌, append_assoc, arith, inl, inr, ◌⊎◌}
use Rattle.std.specs.Prelude.{IfNone, IfSome}
use Rattle.lms_bytes.specs.PublicKey.{public_bytes}
use Rattle.lms_bytes.specs.Signature.{signature_fault}
use Rattle.lms_bytes.specs.declared.faults.SigFault.{SigFault}
use Rattle.lms_bytes.specs.declared.public_key.PublicKey.{PublicKey}
use Rattle.hss_levels.specs.Levels.{SignedKey, signed_keys_bytes}
use Rattle.hss_levels.specs.Parts.{AllRead, ArePartsOf, PartsFault, SignedKeyFault, further, last_signature, signed_key}
use Rattle.hss_levels.specs.declared.faults.HssFault.{HssFault}
use Rattle.hss_levels.specs.declared.faults.HssFault.TheVariants.{Sig}

pub if-none : {T : Type 0} {P Q : Type 0} (o : Option T) → (P → Q) → IfNone o P → IfNone o Q
if-none None map holds = map holds
if-none (Some x) map holds = holds

pub if-some : {T : Type 0} (P Q : T → Type 0) (o : Option T) → ((x : T) → P x → Q x) → IfSome o P → IfSome o Q
if-some P Q None map holds = holds
if-some P Q (Some x) map holds = map x holds

one-more : (below : ℕ) → (below ≡ 0 → ⊥) → suc (below - 1) ≡ below
one-more below some = omega arith

-- the fault of a last signature
pub fault-of-last : (key : PublicKey) (level below : ℕ) (parts : List ℕ) (of : SigFault) → below ≡ 0
    → signature_fault key.params parts ≡ Some of → PartsFault key level below parts (Sig level of)
fault-of-last key level below parts of none found = rw none (last_signature key level parts of found)

-- the fault of a signed key at the front
pub fault-of-first : (key : PublicKey) (level below : ℕ) (parts : List ℕ) (fault : HssFault) → (below ≡ 0 → ⊥)
    → SignedKeyFault key level parts fault → PartsFault key level below parts fault
fault-of-first key level below parts fault some first = rw (← one-more below some) (signed_key key level (below - 1) parts fault first)

-- a fault after the signed key at the front
pub fault-further : (key : PublicKey) (level below : ℕ) (parts : List ℕ) (fault : HssFault) (signed : SignedKey) (behind : List ℕ)
    → (below ≡ 0 → ⊥) → signature_fault key.params signed.signature ≡ None → parts ≡ signed.signature ++ public_bytes signed.key ++ behind
    → PartsFault signed.key (level + 1) (below - 1) behind fault → PartsFault key level below parts fault
fault-further key level below parts fault signed behind some read parts_are rest =
    rw (← one-more below some) (further key level (below - 1) parts fault signed behind read parts_are rest)

-- parts with one more signed key at their front
pub parts-cons : (key : PublicKey) (below : ℕ) (parts : List ℕ) (signed : SignedKey) (behind : List ℕ) (keys : List SignedKey) (last : List ℕ)
    → (below ≡ 0 → ⊥) → signature_fault key.params signed.signature ≡ None → parts ≡ signed.signature ++ public_bytes signed.key ++ behind
    → ArePartsOf signed.key (below - 1) behind keys last → ArePartsOf key below parts (signed ∷ keys) last
parts-cons key below parts signed behind keys last some read parts_are rest =
    let count = rest.count in
    record {
      count = omega (arith, one-more below some);
      parts_are =
          parts_are
          ∙ (ap (λ (t : List ℕ). signed.signature ++ public_bytes signed.key ++ t) rest.parts_are
          ∙ sym (append_assoc (signed.signature ++ public_bytes signed.key) (signed_keys_bytes keys) last));
      read = (read, rest.read);
    }

-- the signed key at the front of parts, and the parts after it
pub record First (key : PublicKey) (below : ℕ) (parts : List ℕ) (keys : List SignedKey) (last : List ℕ) : Type 0 where
  pub signed : SignedKey
  pub more : List SignedKey
  pub keys_are : keys ≡ signed ∷ more
  pub read : signature_fault key.params signed.signature ≡ None
  pub parts_are : parts ≡ signed.signature ++ public_bytes signed.key ++ (signed_keys_bytes more ++ last)
  pub rest : ArePartsOf signed.key (below - 1) (signed_keys_bytes more ++ last) more last

pub first-of : (key : PublicKey) (below : ℕ) (parts : List ℕ) (keys : List SignedKey) (last : List ℕ) → (below ≡ 0 → ⊥)
    → ArePartsOf key below parts keys last → First key below parts keys last
first-of key below parts [] last some are = let count = are.count in absurd (some (sym count))
first-of key below parts (signed ∷ more) last some are =
    let count = are.count in
    record {
      signed = signed;
      more = more;
      keys_are = refl;
      read = are.read.0;
      parts_are = are.parts_are ∙ append_assoc (signed.signature ++ public_bytes signed.key) (signed_keys_bytes more) last;
      rest = record { count = omega arith; parts_are = refl; read = are.read.1 };
    }

-- parts with no signed key are the last signature
pub record Alone (key : PublicKey) (parts : List ℕ) (keys : List SignedKey) (last : List ℕ) : Type 0 where
  pub keys_are : keys ≡ []
  pub parts_are : parts ≡ last
  pub read : signature_fault key.params parts ≡ None

pub alone : (key : PublicKey) (below : ℕ) (parts : List ℕ) (keys : List SignedKey) (last : List ℕ) → below ≡ 0
    → ArePartsOf key below parts keys last → Alone key parts keys last
alone key below parts [] last none are =
    record { keys_are = refl; parts_are = are.parts_are; read = ap (λ (t : List ℕ). signature_fault key.params t) are.parts_are ∙ are.read }
alone key below parts (signed ∷ more) last none are = let count = are.count in absurd (omega arith)
