-- A share passes the tests of its reader.
use Rattle.std.proofs.Common.{◌≡◌, ℕ, nat_le, true, List, None, refl, sym, ap, ◌∙◌, arith}
use Rattle.std.specs.Prelude.{codes, slice_index}
use Rattle.std.proofs.lemmas.Bool.{le-leb}
use Rattle.std.proofs.lemmas.List.{take_all}
use Rattle.lms_bytes.specs.Bytes.{bytes_at}
use Rattle.lms_bytes.specs.declared.params.Params.{Params}
use Rattle.coalition_map.specs.Coalitions.{IsPlan, PlanNumbers}
use Rattle.share_files.specs.Head.{lms_at, plan_fault}
use Rattle.share_files.specs.Sets.{height_of}
use Rattle.share_files.specs.Share.{member_fault, share_bytes}
use Rattle.share_files.specs.declared.share.Share.{Share}
use Rattle.share_files.proofs.Dealt.{height_of-lms}
use Rattle.share_files.proofs.HeadParts.{HeadLies, head_lies}
use Rattle.share_files.proofs.Plans.{plan_fault-passed}

pub share_lies : (share : Share) (bytes : List ℕ) → bytes ≡ share_bytes share
    → HeadLies (codes "TLSH") share.member share.plan.k share.plan.n share.params share.id share.key bytes
share_lies share bytes parts = head_lies _ _ _ _ share.member share.plan.k share.plan.n share.params share.id share.key bytes share.id_length parts

-- a plan that lies in a head
pub plan_passes : (magic : List ℕ) (own5 : ℕ) (plan : PlanNumbers) (params : Params) (id rest bytes : List ℕ)
    → HeadLies magic own5 plan.k plan.n params id rest bytes → IsPlan plan → plan.h ≡ params.h → plan_fault bytes ≡ None
plan_passes magic own5 plan params id rest bytes l is height =
    let at : height_of (lms_at bytes) ≡ plan.h = rw l.lms_is (height_of-lms params ∙ sym height) in
    let here : IsPlan (record { n = slice_index bytes 7; k = slice_index bytes 6; h = plan.h }) = rw (l.own7_at, l.own6_at) is in
    plan_fault-passed bytes plan.h at here

pub member_passes : (share : Share) (bytes : List ℕ)
    → HeadLies (codes "TLSH") share.member share.plan.k share.plan.n share.params share.id share.key bytes → member_fault bytes ≡ None
member_passes share bytes l =
    let first : nat_le 1 (slice_index bytes 5) ≡ true = rw l.own5_at (le-leb 1 share.member share.first) in
    let last : nat_le (slice_index bytes 5) (slice_index bytes 7) ≡ true = rw (l.own5_at, l.own7_at) (le-leb share.member share.plan.n share.last) in
    rw (first, last) refl

pub key_at : (share : Share) (bytes : List ℕ)
    → HeadLies (codes "TLSH") share.member share.plan.k share.plan.n share.params share.id share.key bytes → bytes_at bytes 32 32 ≡ share.key
key_at share bytes l = rw l.rest_at (take_all 32 share.key (omega (arith, share.key_length)))

-- the plan that lies in a head is the one that is read from it
pub same_plan : (plan : PlanNumbers) (params read : Params) (bytes : List ℕ) → slice_index bytes 6 ≡ plan.k → slice_index bytes 7 ≡ plan.n
    → plan.h ≡ params.h → read.lms ≡ params.lms → record { n = slice_index bytes 7; k = slice_index bytes 6; h = read.h } ≡ plan
same_plan plan params read bytes k n h lms =
    let height : read.h ≡ plan.h = sym (height_of-lms read) ∙ (ap height_of lms ∙ (height_of-lms params ∙ sym h)) in
    rw (k, n, height) refl
