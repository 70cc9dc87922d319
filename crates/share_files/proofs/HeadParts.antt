-- What lies where in a head.
use Rattle.std.proofs.Common.{◌≡◌, ℕ, ◌+◌, ◌^◌, ◌<◌, true, List, [], ◌∷◌, ◌++◌, length, take, drop, None, refl, sym, ap, ◌∙◌, arith, length-append, length-drop, take-append-drop}
use Rattle.std.specs.Prelude.{slice_index}
use Rattle.std.proofs.lemmas.Bool.Decides.{nat_tests}
use Rattle.std.proofs.lemmas.List.{take_at, drop_at, take_all}
use Rattle.std.proofs.lemmas.Nat.{from_be_bytes-to_be_bytes_4}
use Rattle.std.proofs.lemmas.Slice.Eq.{bytes_eq-Decides}
use Rattle.lms_bytes.specs.Bytes.{bytes_at, str_to_u32, u32str}
use Rattle.lms_bytes.specs.declared.params.Params.{Params}
use Rattle.share_files.specs.Head.{has_version, head_bytes, head_fault, lms_at, ots_at, magic_fault, version_fault, code_fault}
use Rattle.share_files.specs.Sets.{CanBeDealt, version_of}
use Rattle.share_files.proofs.FirstFault.{first_fault-end, first_fault-passed}
use Rattle.share_files.proofs.Versions.{code-passes, has_version-codes, version-passes}

-- what lies where in bytes that begin with a head
pub record HeadLies (magic : List ℕ) (own5 own6 own7 : ℕ) (params : Params) (id rest bytes : List ℕ) : Type 0 where
  pub size : length bytes ≡ 32 + length rest
  pub magic_at : bytes_at bytes 0 4 ≡ magic
  pub version_at : slice_index bytes 4 ≡ version_of params.lms params.ots
  pub own5_at : slice_index bytes 5 ≡ own5
  pub own6_at : slice_index bytes 6 ≡ own6
  pub own7_at : slice_index bytes 7 ≡ own7
  pub lms_is : lms_at bytes ≡ params.lms
  pub ots_is : ots_at bytes ≡ params.ots
  pub id_at : bytes_at bytes 16 16 ≡ id
  pub rest_at : drop 32 bytes ≡ rest

number_of : (x : ℕ) → x < 2 ^ 32 → str_to_u32 (u32str x) ≡ x
number_of x fits = from_be_bytes-to_be_bytes_4 x fits

pub head_lies : (m0 m1 m2 m3 own5 own6 own7 : ℕ) (params : Params) (id rest bytes : List ℕ) → length id ≡ 16
    → bytes ≡ head_bytes (m0 ∷ m1 ∷ m2 ∷ m3 ∷ []) (own5 ∷ own6 ∷ own7 ∷ []) params id ++ rest
    → HeadLies (m0 ∷ m1 ∷ m2 ∷ m3 ∷ []) own5 own6 own7 params id rest bytes
head_lies m0 m1 m2 m3 own5 own6 own7 params id rest bytes id_length parts = record {
  size = ap length parts ∙ simp length-append (omega arith);
  magic_at = rw parts refl;
  version_at = rw parts refl;
  own5_at = rw parts refl;
  own6_at = rw parts refl;
  own7_at = rw parts refl;
  lms_is = rw parts (number_of params.lms (omega (arith, params.lms_small)));
  ots_is = rw parts (number_of params.ots (omega (arith, params.ots_small)));
  id_at = rw parts (take_at id rest 16 id_length);
  rest_at = rw parts (drop_at id rest 16 id_length);
}

-- the same for any magic of four bytes
pub head_lies-any : (magic : List ℕ) (own5 own6 own7 : ℕ) (params : Params) (id rest bytes : List ℕ) → length magic ≡ 4 → length id ≡ 16
    → bytes ≡ head_bytes magic (own5 ∷ own6 ∷ own7 ∷ []) params id ++ rest → HeadLies magic own5 own6 own7 params id rest bytes
head_lies-any [] own5 own6 own7 params id rest bytes four id_length parts = absurd (omega arith)
head_lies-any (a ∷ []) own5 own6 own7 params id rest bytes four id_length parts = absurd (omega arith)
head_lies-any (a ∷ b ∷ []) own5 own6 own7 params id rest bytes four id_length parts = absurd (omega arith)
head_lies-any (a ∷ b ∷ c ∷ []) own5 own6 own7 params id rest bytes four id_length parts = absurd (omega arith)
head_lies-any (a ∷ b ∷ c ∷ d ∷ []) own5 own6 own7 params id rest bytes four id_length parts =
    head_lies a b c d own5 own6 own7 params id rest bytes id_length parts
head_lies-any (a ∷ b ∷ c ∷ d ∷ e ∷ more) own5 own6 own7 params id rest bytes four id_length parts = absurd (omega arith)

version-has : (bytes : List ℕ) (params : Params) → lms_at bytes ≡ params.lms → ots_at bytes ≡ params.ots
    → slice_index bytes 4 ≡ version_of params.lms params.ots → CanBeDealt params → has_version bytes ≡ true
version-has bytes params lms ots version dealt =
    let low = dealt.height in
    rw (has_version-codes bytes params (sym lms) (sym ots), version) (grind (arith, nat_tests))

-- a head passes its tests
pub head_passes : (magic : List ℕ) (own5 own6 own7 : ℕ) (params : Params) (id rest bytes : List ℕ) → HeadLies magic own5 own6 own7 params id rest bytes → CanBeDealt params
    → head_fault magic bytes ≡ None
unfolding head_fault
head_passes magic own5 own6 own7 params id rest bytes l dealt =
    let magic_same = (bytes_eq-Decides (bytes_at bytes 0 4) magic).1 l.magic_at in
    let has = version-has bytes params l.lms_is l.ots_is l.version_at dealt in
    first_fault-passed (magic_fault magic bytes) _ (rw magic_same refl)
    ∙ (first_fault-passed (version_fault bytes) _ (version-passes bytes has)
    ∙ (first_fault-passed (code_fault bytes) _ (code-passes bytes has) ∙ first_fault-end))

-- bytes are their head followed by the rest
pub head_and_rest : (bytes head rest : List ℕ) (size : ℕ) → length bytes ≡ 32 + size → take 32 bytes ≡ head → rest ≡ bytes_at bytes 32 size
    → bytes ≡ head ++ rest
head_and_rest bytes head rest size len front back =
    let all : take size (drop 32 bytes) ≡ drop 32 bytes = take_all size (drop 32 bytes) (omega (arith, length-drop 32 bytes)) in
    rw (← front, back, all) (sym (take-append-drop 32 bytes))
