-- Files with a plan in their head pass the tests of their readers.
use Rattle.std.proofs.Common.{◌≡◌, ℕ, ◌+◌, ◌-◌, ◌*◌, ◌^◌, List, [], ◌++◌, length, take, refl, sym, ap, ◌∙◌, append-nil, arith}
use Rattle.std.specs.Prelude.{codes, slice_index}
use Rattle.std.proofs.lemmas.List.{take_all, take_at}
use Rattle.lms_bytes.specs.Bytes.{bytes_at}
use Rattle.lms_bytes.specs.declared.params.Params.{Params}
use Rattle.share_files.specs.Head.{lms_at, ots_at}
use Rattle.share_files.specs.Commits.{commits_length_of}
use Rattle.mask_prf.specs.Lengths.{leaf_commits_length, leaf_length}
use Rattle.share_files.specs.Reference.{HasReferenceLayout, length_of, plan_head, reference_head, reference_length}
use Rattle.share_files.specs.declared.reference.RefHeader.{RefHeader}
use Rattle.share_files.proofs.Dealt.{chain_count-ots, height_of-lms, node_length-lms, width_of-ots}
use Rattle.share_files.proofs.HeadParts.{HeadLies, head_lies, head_lies-any}

pub reference_lies : (header : RefHeader) (leaves bytes : List ℕ) → bytes ≡ reference_head header ++ leaves
    → HeadLies (codes "TLRF") 0 header.plan.k header.plan.n header.params header.id leaves bytes
reference_lies header leaves bytes parts = head_lies _ _ _ _ 0 header.plan.k header.plan.n header.params header.id leaves bytes header.id_length parts

-- a head with a plan, and nothing after it
pub plan_lies : (magic : List ℕ) (header : RefHeader) (head : List ℕ) → length magic ≡ 4 → head ≡ plan_head magic header
    → HeadLies magic 0 header.plan.k header.plan.n header.params header.id [] head
plan_lies magic header head four parts =
    head_lies-any magic 0 header.plan.k header.plan.n header.params header.id [] head four header.id_length
    (parts ∙ sym (append-nil (plan_head magic header)))

pub length_of-codes : (params : Params) (k : ℕ) → length_of params.lms params.ots k ≡ 32 + leaf_length params k * 2 ^ params.h
length_of-codes params k = rw (node_length-lms params, height_of-lms params, chain_count-ots params, width_of-ots params) refl

-- the length that the reader requires
pub want_is : (params : Params) (head : List ℕ) (k want : ℕ) → params.lms ≡ lms_at head → params.ots ≡ ots_at head → k ≡ slice_index head 6
    → want ≡ 32 + leaf_length params k * 2 ^ params.h → want ≡ length_of (lms_at head) (ots_at head) (slice_index head 6)
want_is params head k want lms ots threshold size = size ∙ (sym (length_of-codes params k) ∙ rw (lms, ots, threshold) refl)

pub commits_length_of-codes : (params : Params) (k : ℕ) → commits_length_of params.lms params.ots k ≡ 32 + leaf_commits_length params k * 2 ^ params.h
commits_length_of-codes params k = rw (height_of-lms params, chain_count-ots params, width_of-ots params) refl

-- the head that the leaves of a reference file follow
pub front_is : (header : RefHeader) (leaves bytes : List ℕ) → bytes ≡ reference_head header ++ leaves → take 32 bytes ≡ reference_head header
front_is header leaves bytes parts =
    let size : length (reference_head header) ≡ 32 = omega (arith, header.id_length) in
    rw parts (take_at (reference_head header) leaves 32 size)

pub reference_length_is : (header : RefHeader) (bytes leaves : List ℕ) → HasReferenceLayout header bytes leaves → length bytes ≡ reference_length header
reference_length_is header bytes leaves l = (reference_lies header leaves bytes l.parts).size ∙ ap (λ k. 32 + k) l.leaves_are

pub leaves_at : (header : RefHeader) (bytes leaves : List ℕ) → HasReferenceLayout header bytes leaves → bytes_at bytes 32 (length bytes - 32) ≡ leaves
leaves_at header bytes leaves l =
    let lies = reference_lies header leaves bytes l.parts in
    rw lies.rest_at (take_all (length bytes - 32) leaves (omega (arith, lies.size)))
