-- A signature's parts, found again in its bytes.
use Rattle.std.proofs.Common.{◌≡◌, ℕ, ◌+◌, ◌*◌, ◌^◌, ◌<◌, List, [], ◌++◌, length, Option, None, Some, true, false, nat_lt, ◌==◌, refl, sym, ◌∙◌, ap, append_assoc, arith, length-append, append-nil}
use Rattle.std.proofs.Math.Seq.{drop-append_seam, take-append_seam}
use Rattle.std.proofs.lemmas.Nat.{from_be_bytes-to_be_bytes_4}
use Rattle.std.proofs.lemmas.Bool.Decides.{nat_tests}
use Rattle.lms_bytes.specs.Bytes.{bytes_at, u32str, str_to_u32}
use Rattle.lms_bytes.specs.ParameterSets.{lms_row}
use Rattle.lms_bytes.specs.Params.{codes_fault}
use Rattle.lms_bytes.specs.PublicKey.{public_bytes}
use Rattle.lms_bytes.specs.Signature.{HasLayout, signature_fault, signature_length, tree_place}
use Rattle.lms_bytes.specs.declared.params.LmsRow.{LmsRow}
use Rattle.lms_bytes.specs.declared.params.Params.{Params}
use Rattle.lms_bytes.specs.declared.public_key.PublicKey.{PublicKey}

-- a part that stands between others
middle : (x y z s : List ℕ) (place count : ℕ) → s ≡ x ++ (y ++ z) → place ≡ length x → count ≡ length y → bytes_at s place count ≡ y
middle x y z s place count e at size = rw (e, at, size, drop-append_seam x (y ++ z)) (take-append_seam y z)

-- what lies where in a signature with these parts
pub record Lies (params : Params) (bytes : List ℕ) (q : ℕ) (c y path : List ℕ) : Type 0 where
  pub len : length bytes ≡ signature_length params
  pub q_at : bytes_at bytes 0 4 ≡ u32str q
  pub ots_at : bytes_at bytes 4 4 ≡ u32str params.ots
  pub c_at : bytes_at bytes 8 params.n ≡ c
  pub y_at : bytes_at bytes (8 + params.n) (params.n * params.p) ≡ y
  pub lms_at : bytes_at bytes (tree_place params) 4 ≡ u32str params.lms
  pub path_at : bytes_at bytes (8 + params.n + params.n * params.p + 4) (params.n * params.h) ≡ path

pub next_row : (n p : ℕ) → n * (p + 1) ≡ n * p + n
next_row n p = grind arith

length-parts : (a b c d e f : List ℕ) → length (a ++ b ++ c ++ d ++ e ++ f) ≡ length a + length b + length c + length d + length e + length f
length-parts a b c d e f = simp length-append

pub lies : (params : Params) (bytes : List ℕ) (q : ℕ) (c y path : List ℕ) → HasLayout params bytes q c y path → Lies params bytes q c y path
lies params bytes q c y path l =
    let a = u32str q in
    let b = u32str params.ots in
    let e = u32str params.lms in
    let parts = l.parts in
    let row = next_row params.n params.p in
    let c_length = l.c_length in
    let y_length = l.y_length in
    let path_length = l.path_length in
    let front : length (((a ++ b) ++ c) ++ y) ≡ 8 + length c + length y = simp length-append in
    let place : tree_place params ≡ length (((a ++ b) ++ c) ++ y) = rw front (omega arith) in
    record {
      len = ap length parts ∙ rw (length-parts a b c y e path) (omega arith);
      q_at = rw parts refl;
      ots_at = rw parts refl;
      c_at = middle (a ++ b) c (y ++ (e ++ path)) bytes _ _ (parts ∙ simp append_assoc) refl (sym c_length);
      y_at = middle ((a ++ b) ++ c) y (e ++ path) bytes _ _ (parts ∙ simp append_assoc) (simp length-append (omega arith)) (sym y_length);
      lms_at = middle (((a ++ b) ++ c) ++ y) e path bytes _ _ (parts ∙ simp append_assoc) place refl;
      path_at = middle ((((a ++ b) ++ c) ++ y) ++ e) path [] bytes _ _ (parts ∙ rw (append-nil path) refl) (simp length-append (omega arith)) (sym path_length);
    }

number_of : (x : ℕ) (s : List ℕ) → x < 2 ^ 32 → s ≡ u32str x → str_to_u32 s ≡ x
number_of x s fits e = rw e (from_be_bytes-to_be_bytes_4 x fits)

-- a signature's parts are no other signature's
pub record SameParts (q : ℕ) (c y path : List ℕ) (q' : ℕ) (c' y' path' : List ℕ) : Type 0 where
  pub leaf : q ≡ q'
  pub c_same : c ≡ c'
  pub y_same : y ≡ y'
  pub path_same : path ≡ path'

leaf_fits : (params : Params) (q : ℕ) → q < 2 ^ params.h → q < 2 ^ 32
leaf_fits params q h = omega (arith, params.leaf_count)

pub one_layout : (params : Params) (bytes : List ℕ) (q q' : ℕ) (c y path c' y' path' : List ℕ)
    → HasLayout params bytes q c y path → HasLayout params bytes q' c' y' path' → SameParts q c y path q' c' y' path'
one_layout params bytes q q' c y path c' y' path' l l' =
    let a = lies params bytes q c y path l in
    let b = lies params bytes q' c' y' path' l' in
    record {
      leaf = sym (number_of q _ (leaf_fits params q l.leaf) a.q_at) ∙ number_of q' _ (leaf_fits params q' l'.leaf) b.q_at;
      c_same = sym a.c_at ∙ b.c_at;
      y_same = sym a.y_at ∙ b.y_at;
      path_same = sym a.path_at ∙ b.path_at;
    }

-- what has a layout passes every test
pub layout_passes : (params : Params) (bytes : List ℕ) (q : ℕ) (c y path : List ℕ) → HasLayout params bytes q c y path
    → signature_fault params bytes ≡ None
unfolding signature_fault
layout_passes params bytes q c y path l =
    let a = lies params bytes q c y path l in
    let len = a.len in
    let leaf = l.leaf in
    let e0 = number_of q _ (leaf_fits params q l.leaf) a.q_at in
    let e4 = number_of params.ots _ (omega (arith, params.ots_small)) a.ots_at in
    let et = number_of params.lms _ (omega (arith, params.lms_small)) a.lms_at in
    let row = next_row params.n params.p in
    let long : nat_lt (length bytes) 8 ≡ false = grind (arith, nat_tests) in
    let enough : nat_lt (length bytes) (12 + params.n * (params.p + 1)) ≡ false = grind (arith, nat_tests) in
    let inside : nat_lt q (2 ^ params.h) ≡ true = grind (arith, nat_tests) in
    let exact : length bytes == signature_length params ≡ true = grind (arith, nat_tests) in
    let same_ots : params.ots == params.ots ≡ true = grind (arith, nat_tests) in
    let same_lms : params.lms == params.lms ≡ true = grind (arith, nat_tests) in
    rw (e0, e4, et, long, same_ots, enough, same_lms, inside, exact) refl

-- what lies where in the bytes of a public key
pub record KeyLies (key : PublicKey) (bytes : List ℕ) : Type 0 where
  pub len : length bytes ≡ 24 + key.params.n
  pub lms_at : str_to_u32 (bytes_at bytes 0 4) ≡ key.params.lms
  pub ots_at : str_to_u32 (bytes_at bytes 4 4) ≡ key.params.ots
  pub id_at : bytes_at bytes 8 16 ≡ key.id
  pub root_at : bytes_at bytes 24 key.params.n ≡ key.root

pub key_lies : (key : PublicKey) (bytes : List ℕ) → bytes ≡ public_bytes key → KeyLies key bytes
key_lies key bytes parts =
    let a = u32str key.params.lms in
    let b = u32str key.params.ots in
    let id_length = key.id_length in
    let root_length = key.root_length in
    record {
      len = ap length parts ∙ simp length-append (omega arith);
      lms_at = number_of key.params.lms (bytes_at bytes 0 4) (omega (arith, key.params.lms_small)) (rw parts refl);
      ots_at = number_of key.params.ots (bytes_at bytes 4 4) (omega (arith, key.params.ots_small)) (rw parts refl);
      id_at = middle (a ++ b) key.id key.root bytes _ _ (parts ∙ simp append_assoc) refl (sym id_length);
      root_at = middle ((a ++ b) ++ key.id) key.root [] bytes 24 key.params.n (parts ∙ rw (append-nil key.root) refl) (simp length-append (omega arith)) (sym root_length);
    }

-- the typecodes of a parameter set are accepted
pub codes_accepted : (params : Params) → codes_fault params.lms params.ots ≡ None
unfolding codes_fault
codes_accepted params =
    let same : params.n == params.n ≡ true = grind (arith, nat_tests) in
    rw (params.lms_is, codes_fault) (rw (params.ots_is) (rw same refl))

-- the LMS typecode decides the hash length
pub same_hash_length : (a b : Params) → a.lms ≡ b.lms → a.n ≡ b.n
same_hash_length a b same =
    let m : Option LmsRow → ℕ = λ row. elim row [ None ↦ 0 | Some tree ↦ tree.m ] in
    ap m (sym a.lms_is ∙ (ap lms_row same ∙ b.lms_is))
