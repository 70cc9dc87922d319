-- The head of a commitment file, compared with the header of a reference.
use Rattle.std.proofs.Common.{◌≡◌, ◌==◌, ◌&&◌, true, ◌<◌, ◌≤◌, ◌∙◌, ◌*◌, ◌^◌, ◌+◌, ℕ, List, length, take, Some, None, refl, sym}
use Rattle.std.proofs.lemmas.Bool.{and_parts, eq-eqb, eqb-true, false_from_ne_true, le-ltb, lt-ltb}
use Rattle.std.proofs.lemmas.Slice.Eq.{bytes_eq-Decides}
use Rattle.std.specs.Str.{bytes_eq}
use Rattle.lms_bytes.specs.declared.params.Params.{Params}
use Rattle.share_files.specs.Commits.{commits_head, commits_head_fault, commits_length, commits_magic}
use Rattle.mask_prf.specs.Lengths.{leaf_commits_length}
use Rattle.share_files.specs.Head.{short_fault}
use Rattle.share_files.specs.declared.faults.FileFault.{FileFault}
use Rattle.share_files.specs.declared.faults.FileFault.TheVariants.{Length, OtherKey, Plan}
use Rattle.share_files.specs.declared.reference.RefHeader.{RefHeader}
use Rattle.share_files.proofs.FirstFault.{first_fault-end, first_fault-failed, first_fault-passed}
use Rattle.share_files.proofs.References.{commits_length_of-codes, plan_lies}
use Rattle.share_blame.specs.Loads.{IsOfKey, IsOfPlan, commits_fault, difference, head_difference, key_fault, plan_fault}

-- a file that is shorter than its head
pub too_short : (header : RefHeader) (bytes : List ℕ) (n : ℕ) → n ≡ length bytes → n < 32 → commits_fault header bytes ≡ Some (Length n 32)
unfolding commits_fault
too_short header bytes n is short =
    let test : short_fault 32 bytes ≡ Some (Length n 32) = rw (is, lt-ltb (length bytes) 32 (rw is at short)) refl in
    first_fault-failed _ _ _ test

long_enough : (bytes : List ℕ) (n : ℕ) → n ≡ length bytes → 32 ≤ n → short_fault 32 bytes ≡ None
long_enough bytes n is long = rw (le-ltb (length bytes) 32 (rw is at long)) refl

-- a head that is refused in a file of this length
pub head_refused : (header : RefHeader) (bytes head : List ℕ) (n : ℕ) (fault : FileFault) → n ≡ length bytes → 32 ≤ n → head ≡ take 32 bytes
    → commits_head_fault head n ≡ Some fault → commits_fault header bytes ≡ Some fault
unfolding commits_fault
head_refused header bytes head n fault is long front refused =
    let rest : commits_head_fault (take 32 bytes) (length bytes) ≡ Some fault = rw (front, is) at refused in
    first_fault-passed _ _ (long_enough bytes n is long) ∙ first_fault-failed _ _ _ rest

-- the head says what was found
found-in : (header found : RefHeader) (head : List ℕ) → head ≡ commits_head found
    → head_difference header head ≡ difference header found.id found.params.lms found.params.ots found.plan.k found.plan.n
found-in header found head is =
    let l = plan_lies commits_magic found head refl is in
    rw (l.id_at, l.lms_is, l.ots_is, l.own6_at, l.own7_at) refl

-- a head that differs from the header of the reference, or not
pub head_differs : (header found : RefHeader) (bytes head : List ℕ) (n : ℕ) (fault : FileFault) → n ≡ length bytes → 32 ≤ n → head ≡ take 32 bytes
    → commits_head_fault head n ≡ None → head ≡ commits_head found
    → difference header found.id found.params.lms found.params.ots found.plan.k found.plan.n ≡ Some fault → commits_fault header bytes ≡ Some fault
unfolding commits_fault
head_differs header found bytes head n fault is long front passed read other =
    let rest : commits_head_fault (take 32 bytes) (length bytes) ≡ None = rw (front, is) at passed in
    let differs : head_difference header (take 32 bytes) ≡ Some fault = rw front at (found-in header found head read ∙ other) in
    first_fault-passed _ _ (long_enough bytes n is long) ∙ (first_fault-passed _ _ rest ∙ first_fault-failed _ _ _ differs)

pub head_same : (header found : RefHeader) (bytes head : List ℕ) (n : ℕ) → n ≡ length bytes → 32 ≤ n → head ≡ take 32 bytes
    → commits_head_fault head n ≡ None → head ≡ commits_head found
    → difference header found.id found.params.lms found.params.ots found.plan.k found.plan.n ≡ None → commits_fault header bytes ≡ None
unfolding commits_fault
head_same header found bytes head n is long front passed read same =
    let rest : commits_head_fault (take 32 bytes) (length bytes) ≡ None = rw (front, is) at passed in
    let none : head_difference header (take 32 bytes) ≡ None = rw front at (found-in header found head read ∙ same) in
    first_fault-passed _ _ (long_enough bytes n is long) ∙ (first_fault-passed _ _ rest ∙ (first_fault-passed _ _ none ∙ first_fault-end))

-- typecodes and threshold decide the length
length-as : (params : Params) (k : ℕ) (other : Params) (k' : ℕ) → params.lms ≡ other.lms → params.ots ≡ other.ots → k ≡ k'
    → 32 + leaf_commits_length params k * 2 ^ params.h ≡ 32 + leaf_commits_length other k' * 2 ^ other.h
length-as params k other k' lms ots threshold =
    sym (commits_length_of-codes params k) ∙ (rw (lms, ots, threshold) refl ∙ commits_length_of-codes other k')

pub length_is : (header found : RefHeader) (bytes : List ℕ) (n : ℕ) → n ≡ length bytes → n ≡ commits_length found.params found.plan
    → found.params.lms ≡ header.params.lms → found.params.ots ≡ header.params.ots → found.plan.k ≡ header.plan.k
    → length bytes ≡ commits_length header.params header.plan
length_is header found bytes n is size lms ots k =
    sym is ∙ (size ∙ length-as found.params found.plan.k header.params header.plan.k lms ots k)

-- the differences from the header of a reference
pub of_key : (header : RefHeader) (id : List ℕ) (lms ots : ℕ) → IsOfKey header id lms ots → key_fault header id lms ots ≡ None
of_key header id lms ots is =
    let same = (bytes_eq-Decides id header.id).1 is.id_is in
    let one = eq-eqb lms header.params.lms is.lms_is in
    let two = eq-eqb ots header.params.ots is.ots_is in
    rw (same, one, two) refl

pub of_plan : (header : RefHeader) (k n : ℕ) → IsOfPlan header k n → plan_fault header k n ≡ None
of_plan header k n is = rw (eq-eqb k header.plan.k is.k_is, eq-eqb n header.plan.n is.n_is) refl

key-test : (header : RefHeader) (id : List ℕ) (lms ots : ℕ) → bytes_eq id header.id && (lms == header.params.lms) && (ots == header.params.ots) ≡ true
    → IsOfKey header id lms ots
key-test header id lms ots e =
    let all = and_parts _ _ e in
    let two = and_parts _ _ all.0 in
    record { id_is = (bytes_eq-Decides id header.id).0 two.0; lms_is = eqb-true lms header.params.lms two.1; ots_is = eqb-true ots header.params.ots all.1 }

pub not_of_key : (header : RefHeader) (id : List ℕ) (lms ots : ℕ) → (IsOfKey header id lms ots → ⊥) → key_fault header id lms ots ≡ Some (OtherKey id)
not_of_key header id lms ots other =
    let test = false_from_ne_true (bytes_eq id header.id && (lms == header.params.lms) && (ots == header.params.ots)) (λ e. other (key-test header id lms ots e)) in
    rw test refl

plan-test : (header : RefHeader) (k n : ℕ) → (k == header.plan.k) && (n == header.plan.n) ≡ true → IsOfPlan header k n
plan-test header k n e =
    let both = and_parts _ _ e in
    record { k_is = eqb-true k header.plan.k both.0; n_is = eqb-true n header.plan.n both.1 }

pub not_of_plan : (header : RefHeader) (k n : ℕ) → (IsOfPlan header k n → ⊥) → plan_fault header k n ≡ Some Plan
not_of_plan header k n other =
    let test = false_from_ne_true ((k == header.plan.k) && (n == header.plan.n)) (λ e. other (plan-test header k n e)) in
    rw test refl

pub no_difference : (header : RefHeader) (id : List ℕ) (lms ots k n : ℕ) → IsOfKey header id lms ots → IsOfPlan header k n → difference header id lms ots k n ≡ None
unfolding difference
no_difference header id lms ots k n key plan =
    first_fault-passed _ _ (of_key header id lms ots key) ∙ (first_fault-passed _ _ (of_plan header k n plan) ∙ first_fault-end)

pub other_key : (header : RefHeader) (id : List ℕ) (lms ots k n : ℕ) → (IsOfKey header id lms ots → ⊥) → difference header id lms ots k n ≡ Some (OtherKey id)
unfolding difference
other_key header id lms ots k n other = first_fault-failed _ _ _ (not_of_key header id lms ots other)

pub other_plan : (header : RefHeader) (id : List ℕ) (lms ots k n : ℕ) → IsOfKey header id lms ots → (IsOfPlan header k n → ⊥) → difference header id lms ots k n ≡ Some Plan
unfolding difference
other_plan header id lms ots k n key other = first_fault-passed _ _ (of_key header id lms ots key) ∙ first_fault-failed _ _ _ (not_of_plan header k n other)
