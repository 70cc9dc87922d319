-- What is written for one member of a leaf after the other.
use Rattle.std.proofs.Common.{◌≡◌, ℕ, ◌+◌, ◌*◌, ◌^◌, ◌<◌, List, [], ◌∷◌, ◌++◌, length, map, take, take_all, get_or, refl, sym, ◌∙◌, ap, arith, append-nil, length-append}
use Rattle.std.specs.List.{concat}
use Rattle.std.proofs.lemmas.List.{get_or_default, map-append}
use Rattle.std.proofs.lemmas.List.Folds.{concat-append}
use Rattle.sha2.specs.Sha256.{sha256}
use Rattle.lms_bytes.specs.Bytes.{bytes_at, joined, xor}
use Rattle.mask_prf.specs.Masks.{check_tag_of}
use Rattle.reference_value.specs.Commitments.{commitments_to, leaf_commitments}
use Rattle.reference_value.specs.Dealing.{Dealing, cell, cells, chain_mask, chain_value, key_of, leaf_part, leaf_randomizer, masked, masked_randomizer, members_of, random_mask, tags}
use Rattle.reference_value.proofs.Members.{masked-push}

-- what stands for a missing element does not matter if the element is there
pub key-known : (keys : List (List ℕ)) (i : ℕ) (key : List ℕ) → i < length keys → get_or keys i key ≡ get_or keys i []
key-known keys i key inside = get_or_default keys i key [] inside

-- all of a string is written
pub whole-put : (new c bytes : List ℕ) → bytes ≡ c → length new ≡ length c → take (0 + length bytes) new ≡ bytes → new ≡ c
whole-put new c bytes is size written = sym (take_all (0 + length bytes) new (omega (arith, size, ap length is))) ∙ (written ∙ is)

-- 32 bytes stand for each of the trustees ts, up to a place
pub record IsWriting (f : ℕ → List ℕ) (ts : List ℕ) (place : ℕ) (out : List ℕ) : Type 0 where
  pub ends : place ≡ 32 * length ts
  pub front : take place out ≡ concat (map f ts)

pub writing-none : (f : ℕ → List ℕ) (out : List ℕ) → IsWriting f [] 0 out
writing-none f out = record { ends = refl; front = refl }

pub writing-more : (f : ℕ → List ℕ) (ts : List ℕ) (t place : ℕ) (out out' part : List ℕ) → IsWriting f ts place out → part ≡ f t → length part ≡ 32
    → take (place + length part) out' ≡ take place out ++ part → IsWriting f (ts ++ t ∷ []) (place + 32) out'
writing-more f ts t place out out' part w is size written =
    let push : concat (map f (ts ++ t ∷ [])) ≡ concat (map f ts) ++ f t =
    rw (map-append f ts (t ∷ []), concat-append (map f ts) (f t ∷ []), append-nil (f t)) refl in
    record {
      ends = omega (arith, w.ends, length-append ts (t ∷ []));
      front = rw (push, ← is, ← w.front) (rw size at written);
    }

pub writing-all : (f : ℕ → List ℕ) (ts : List ℕ) (place : ℕ) (out : List ℕ) → IsWriting f ts place out → length out ≡ 32 * length ts
    → out ≡ concat (map f ts)
writing-all f ts place out w size = sym (take_all place out (omega (arith, w.ends))) ∙ w.front

-- the masks of the trustees ts are on a value, and the commitments to them stand up to a place
pub record IsCommitting (mask : ℕ → List ℕ) (first ts : List ℕ) (place : ℕ) (out commits : List ℕ) : Type 0 where
  pub value : out ≡ masked first (map mask ts)
  pub writes : IsWriting (λ t. sha256 (mask t)) ts place commits

pub committing-none : (mask : ℕ → List ℕ) (out commits : List ℕ) → IsCommitting mask out [] 0 out commits
committing-none mask out commits = record { value = refl; writes = writing-none (λ t. sha256 (mask t)) commits }

-- one mask more is on a value that is all of a string
masked-more : (out out' m : List ℕ) → length m ≡ length out → length out' ≡ length out
    → take (0 + length m) out' ≡ take 0 out ++ xor (bytes_at out 0 (length m)) m → out' ≡ xor out m
masked-more out out' m size same written =
    let whole : take (length m) out ≡ out = take_all (length m) out (omega arith) in
    let new : take (0 + length m) out' ≡ out' = take_all (0 + length m) out' (omega arith) in
    sym new ∙ (written ∙ rw whole refl)

pub committing-more : (mask : ℕ → List ℕ) (first ts : List ℕ) (t place : ℕ) (out out' commits commits' m hash : List ℕ)
    → IsCommitting mask first ts place out commits → m ≡ mask t → length m ≡ length out → length out' ≡ length out
    → take (0 + length m) out' ≡ take 0 out ++ xor (bytes_at out 0 (length m)) m → hash ≡ sha256 m → length hash ≡ 32
    → take (place + length hash) commits' ≡ take place commits ++ hash → IsCommitting mask first (ts ++ t ∷ []) (place + 32) out' commits'
committing-more mask first ts t place out out' commits commits' m hash before is size same put hashed long written = record {
  value = masked-more out out' m size same put ∙ rw (before.value, is) (sym (masked-push mask first ts t));
  writes = writing-more (λ t. sha256 (mask t)) ts t place commits commits' hash before.writes (hashed ∙ ap sha256 is) long written;
}

-- the parts of a leaf, and of its commitments
pub leaf-is : (d : Dealing) (q : ℕ) (ms c value marks chains : List ℕ) → ms ≡ members_of d q → c ≡ leaf_randomizer d q
    → value ≡ masked c (map (random_mask d q) ms) → marks ≡ concat (map (λ t. check_tag_of (key_of d t) d.id q c) ms)
    → chains ≡ joined (λ i. joined (λ j. masked (chain_value d q i j) (map (chain_mask d q i j) ms)) (2 ^ d.params.w)) d.params.p
    → value ++ marks ++ chains ≡ leaf_part d q
unfolding leaf_part masked_randomizer tags cells cell
leaf-is d q ms c value marks chains members random a b e = rw (a, b, e, random, members) refl

pub commitments-are : (d : Dealing) (q : ℕ) (ms first others : List ℕ) → ms ≡ members_of d q → first ≡ commitments_to (random_mask d q) ms
    → others ≡ joined (λ i. joined (λ j. commitments_to (chain_mask d q i j) ms) (2 ^ d.params.w)) d.params.p
    → first ++ others ≡ leaf_commitments d q
unfolding leaf_commitments
commitments-are d q ms first others members a b = rw (a, b, members) refl
