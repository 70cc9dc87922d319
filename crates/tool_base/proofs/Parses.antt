-- A file of a dealing is the file of one key, one tree or one reference, and its reader finds no fault in it.
use Rattle.std.proofs.lemmas.List.{take_at}
use Rattle.std.proofs.Common.{◌≡◌, ℕ, ◌+◌, ◌==◌, List, [], ◌++◌, append-nil, None, true, false, nat_lt, length, take, refl, sym, ap, ◌∙◌, arith}
use Rattle.std.specs.Prelude.{codes, slice_index}
use Rattle.std.proofs.lemmas.Bool.Decides.{nat_tests}
use Rattle.coalition_map.specs.Coalitions.{IsPlan, PlanNumbers}
use Rattle.lms_bytes.specs.Bytes.{bytes_at, str_to_u32}
use Rattle.lms_bytes.specs.PublicKey.{public_bytes, public_fault, public_length}
use Rattle.lms_bytes.specs.declared.params.Params.{Params}
use Rattle.lms_bytes.specs.declared.public_key.PublicKey.{PublicKey}
use Rattle.lms_bytes.proofs.Layouts.{codes_accepted, key_lies}
use Rattle.share_files.specs.Head.{head_fault, length_fault, lms_at, ots_at, plan_fault, short_fault, zero_fault}
use Rattle.share_files.specs.Reference.{length_of, reference_fault, reference_head, plan_head_fault, reference_head_fault, reference_head_of, reference_magic}
use Rattle.mask_prf.specs.Lengths.{leaves_length}
use Rattle.share_files.specs.Sets.{CanBeDealt}
use Rattle.share_files.specs.TreeFile.{HasTreeLayout, tree_fault, tree_head, tree_length, tree_magic}
use Rattle.share_files.specs.declared.reference.RefHeader.{RefHeader}
use Rattle.share_files.proofs.FirstFault.{first_fault-end, first_fault-passed}
use Rattle.share_files.proofs.HeadParts.{HeadLies, head_lies, head_passes}
use Rattle.share_files.proofs.References.{reference_lies, want_is}
use Rattle.share_files.proofs.Shares.{plan_passes}
use Rattle.share_files.proofs.TreeFiles.{length_passes, tree_lies, tree_length_passes, zero_passes}
use Rattle.hss_levels.proofs.Sets.{same-set}

-- two keys with the same parts
pub record SameKey (a b : PublicKey) : Type 0 where
  pub params : a.params ≡ b.params
  pub id : a.id ≡ b.id
  pub root_is : a.root ≡ b.root

pub one-key : (a b : PublicKey) → public_bytes a ≡ public_bytes b → SameKey a b
one-key a b same =
    let left = key_lies a (public_bytes a) refl in
    let right = key_lies b (public_bytes a) same in
    let lms : a.params.lms ≡ b.params.lms = sym left.lms_at ∙ right.lms_at in
    let ots : a.params.ots ≡ b.params.ots = sym left.ots_at ∙ right.ots_at in
    let set = same-set a.params b.params lms ots in
    let n : a.params.n ≡ b.params.n = ap (λ (p : Params). p.n) set in
    record {
      params = set;
      id = sym left.id_at ∙ right.id_at;
      root_is = sym left.root_at ∙ (ap (λ (n : ℕ). bytes_at (public_bytes a) 24 n) n ∙ right.root_at);
    }

length-of-key : (params : Params) → public_length params.lms ≡ 24 + params.n
length-of-key params = rw (params.lms_is, public_length) refl

pub key-passes : (key : PublicKey) (bytes : List ℕ) → bytes ≡ public_bytes key → public_fault bytes ≡ None
unfolding public_fault
key-passes key bytes is =
    let lies = key_lies key bytes is in
    let size = lies.len in
    let long : nat_lt (length bytes) 8 ≡ false = grind (arith, nat_tests) in
    let want : public_length (str_to_u32 (bytes_at bytes 0 4)) ≡ 24 + key.params.n = ap public_length lies.lms_at ∙ length-of-key key.params in
    let exact : length bytes == public_length (str_to_u32 (bytes_at bytes 0 4)) ≡ true = grind (arith, nat_tests) in
    rw (long, lies.lms_at, lies.ots_at, codes_accepted key.params) (rw exact refl)

-- two files with the same head and the same rest after it
pub record SameFile (params params' : Params) (id id' rest rest' : List ℕ) : Type 0 where
  pub set : params ≡ params'
  pub same_id : id ≡ id'
  pub same_rest : rest ≡ rest'

one-head : (magic : List ℕ) (a b c a' b' c' : ℕ) (params params' : Params) (id id' rest rest' bytes : List ℕ)
    → HeadLies magic a b c params id rest bytes → HeadLies magic a' b' c' params' id' rest' bytes → SameFile params params' id id' rest rest'
one-head magic a b c a' b' c' params params' id id' rest rest' bytes left right = record {
  set = same-set params params' (sym left.lms_is ∙ right.lms_is) (sym left.ots_is ∙ right.ots_is);
  same_id = sym left.id_at ∙ right.id_at;
  same_rest = sym left.rest_at ∙ right.rest_at;
}

tree-head-lies : (params : Params) (id nodes bytes : List ℕ) → length id ≡ 16 → bytes ≡ tree_head params id ++ nodes → HeadLies (codes "TLTR") 0 0 0 params id nodes bytes
tree-head-lies params id nodes bytes size parts = head_lies _ _ _ _ 0 0 0 params id nodes bytes size parts

pub one-tree : (params params' : Params) (id id' nodes nodes' : List ℕ) → length id ≡ 16 → length id' ≡ 16
    → tree_head params id ++ nodes ≡ tree_head params' id' ++ nodes' → SameFile params params' id id' nodes nodes'
one-tree params params' id id' nodes nodes' size size' same =
    let bytes = tree_head params id ++ nodes in
    one-head (codes "TLTR") 0 0 0 0 0 0 params params' id id' nodes nodes' bytes (tree-head-lies params id nodes bytes size refl) (tree-head-lies params' id' nodes' bytes size' same)

pub tree-passes : (params : Params) (bytes id nodes : List ℕ) → HasTreeLayout params bytes id nodes → tree_fault bytes ≡ None
unfolding tree_fault
tree-passes params bytes id nodes layout =
    let lies = tree_lies params bytes id nodes layout in
    let size = lies.size in
    let long : nat_lt (length bytes) 32 ≡ false = grind (arith, nat_tests) in
    let short : short_fault 32 bytes ≡ None = rw long refl in
    let head = head_passes (codes "TLTR") 0 0 0 params id nodes bytes lies layout.dealt in
    let all : length_fault (length bytes) (tree_length (lms_at bytes)) ≡ None = rw lies.lms_is (tree_length_passes params bytes id nodes layout) in
    first_fault-passed (short_fault 32 bytes) _ short
    ∙ (first_fault-passed (head_fault tree_magic bytes) _ head
    ∙ (first_fault-passed (zero_fault 5 bytes) _ (zero_passes 5 bytes lies.own5_at)
    ∙ (first_fault-passed (zero_fault 6 bytes) _ (zero_passes 6 bytes lies.own6_at)
    ∙ (first_fault-passed (zero_fault 7 bytes) _ (zero_passes 7 bytes lies.own7_at)
    ∙ (first_fault-passed (length_fault (length bytes) (tree_length (lms_at bytes))) _ all ∙ first_fault-end)))))

-- two references with the same head and the same leaves
pub record SameReference (header : RefHeader) (params : Params) (plan : PlanNumbers) (id leaves leaves' : List ℕ) : Type 0 where
  pub file : SameFile header.params params header.id id leaves leaves'
  pub k : header.plan.k ≡ plan.k
  pub n : header.plan.n ≡ plan.n

reference-head-lies : (params : Params) (plan : PlanNumbers) (id leaves bytes : List ℕ) → length id ≡ 16 → bytes ≡ reference_head_of params plan id ++ leaves
    → HeadLies (codes "TLRF") 0 plan.k plan.n params id leaves bytes
reference-head-lies params plan id leaves bytes size parts = head_lies _ _ _ _ 0 plan.k plan.n params id leaves bytes size parts

pub one-reference : (header : RefHeader) (params : Params) (plan : PlanNumbers) (id leaves leaves' bytes : List ℕ) → length id ≡ 16
    → bytes ≡ reference_head header ++ leaves → bytes ≡ reference_head_of params plan id ++ leaves' → SameReference header params plan id leaves leaves'
one-reference header params plan id leaves leaves' bytes size left right =
    let a = reference_lies header leaves bytes left in
    let b = reference-head-lies params plan id leaves' bytes size right in
    record {
      file = one-head (codes "TLRF") 0 header.plan.k header.plan.n 0 plan.k plan.n header.params params header.id id leaves leaves' bytes a b;
      k = sym a.own6_at ∙ b.own6_at;
      n = sym a.own7_at ∙ b.own7_at;
    }

-- a head with a plan passes its tests
plan-head-passes : (params : Params) (plan : PlanNumbers) (id head : List ℕ) → HeadLies (codes "TLRF") 0 plan.k plan.n params id [] head
    → CanBeDealt params → IsPlan plan → plan.h ≡ params.h → plan_head_fault reference_magic head ≡ None
unfolding plan_head_fault
plan-head-passes params plan id head lies dealt is height =
    first_fault-passed (head_fault reference_magic head) _ (head_passes (codes "TLRF") 0 plan.k plan.n params id [] head lies dealt)
    ∙ (first_fault-passed (plan_fault head) _ (plan_passes (codes "TLRF") 0 plan params id [] head lies is height)
    ∙ (first_fault-passed (zero_fault 5 head) _ (zero_passes 5 head lies.own5_at) ∙ first_fault-end))

-- the head alone passes its tests, for a file of the length that it asks for
head-alone-passes : (params : Params) (plan : PlanNumbers) (id head : List ℕ) (size : ℕ) → length id ≡ 16 → head ≡ reference_head_of params plan id
    → CanBeDealt params → IsPlan plan → plan.h ≡ params.h → size ≡ 32 + leaves_length params plan → reference_head_fault head size ≡ None
unfolding reference_head_fault
head-alone-passes params plan id head size id_length parts dealt is height whole =
    let lies = reference-head-lies params plan id [] head id_length (parts ∙ sym (append-nil (reference_head_of params plan id))) in
    let want : size ≡ length_of (lms_at head) (ots_at head) (slice_index head 6) = want_is params head plan.k size (sym lies.lms_is) (sym lies.ots_is) (sym lies.own6_at) whole in
    first_fault-passed (plan_head_fault reference_magic head) _ (plan-head-passes params plan id head lies dealt is height)
    ∙ (first_fault-passed (length_fault size (length_of (lms_at head) (ots_at head) (slice_index head 6))) _ (length_passes size _ want) ∙ first_fault-end)

pub reference-passes : (params : Params) (plan : PlanNumbers) (id leaves bytes : List ℕ) → length id ≡ 16 → bytes ≡ reference_head_of params plan id ++ leaves
    → CanBeDealt params → IsPlan plan → plan.h ≡ params.h → length leaves ≡ leaves_length params plan → reference_fault bytes ≡ None
unfolding reference_fault
reference-passes params plan id leaves bytes id_length parts dealt is height whole =
    let lies = reference-head-lies params plan id leaves bytes id_length parts in
    let size = lies.size in
    let long : nat_lt (length bytes) 32 ≡ false = grind (arith, nat_tests) in
    let short : short_fault 32 bytes ≡ None = rw long refl in
    let head_length : length (reference_head_of params plan id) ≡ 32 = omega arith in
    let front : take 32 bytes ≡ reference_head_of params plan id = rw parts (take_at (reference_head_of params plan id) leaves 32 head_length) in
    let all : reference_head_fault (take 32 bytes) (length bytes) ≡ None =
    head-alone-passes params plan id (take 32 bytes) (length bytes) id_length front dealt is height (size ∙ ap (λ (k : ℕ). 32 + k) whole) in
    first_fault-passed (short_fault 32 bytes) _ short ∙ (first_fault-passed (reference_head_fault (take 32 bytes) (length bytes)) _ all ∙ first_fault-end)
