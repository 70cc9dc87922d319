-- No leaf is in two leases.
use Rattle.std.proofs.Common.{◌≡◌, ◌≢◌, ◌<◌, ◌≤◌, ℕ, zero, suc, List, [], ◌∷◌, ◌++◌, length, get_or, take, true, inl, inr, refl, sym, ◌∙◌, ap, arith, add-one}
use Rattle.std.proofs.lemmas.Bool.{cases_eq, cases_order}
use Rattle.std.proofs.lemmas.List.{take_more}
use Rattle.lms_bytes.specs.declared.message.MessageId.{MessageId}
use Rattle.leaf_table.specs.Entries.{LeafUse, IsFree, IsLeased, IsBurnt, IsTorn, OneLease, leaf_of, map_of, may_follow, use_after}
use Rattle.leaf_table.specs.declared.lease.Lease.{Lease}
use Rattle.leaf_table.specs.declared.lease.Lease.TheVariants.{Leased, Burnt}
use Rattle.leaf_table.proofs.Maps.{map_of-other, map_of-same}

use-taken : (entry : Lease) → use_after entry ≢ IsFree
use-taken (Leased leaf message) is = absurd (cc)
use-taken (Burnt leaf) is = absurd (cc)

-- a leaf that had an entry is not free
taken : (entries : List Lease) (none : Lease) (i leaf k : ℕ) → i < k → k ≤ length entries → leaf_of (get_or entries i none) ≡ leaf
    → map_of (take k entries) leaf ≢ IsFree
taken entries none i leaf zero before within is free = absurd (omega (arith, before))
taken entries none i leaf (suc k) before within is free =
    let entry = get_or entries k none in
    let next : take (suc k) entries ≡ take k entries ++ entry ∷ [] = ap (λ (n : ℕ). take n entries) (sym (add-one k)) ∙ take_more entries k none (omega (arith, within)) in
    let now : map_of (take k entries ++ entry ∷ []) leaf ≡ IsFree = ap (λ (l : List Lease). map_of l leaf) (sym next) ∙ free in
    elim (cases_eq leaf (leaf_of entry)) [
      | inl same ↦ use-taken entry (sym (map_of-same (take k entries) entry leaf same) ∙ now)
      | inr differs ↦ elim (cases_eq i k) [
        | inl here ↦ differs (sym is ∙ ap (λ (n : ℕ). leaf_of (get_or entries n none)) here)
        | inr earlier ↦
            taken entries none i leaf k (omega (arith, before, earlier)) (omega (arith, within)) is
            (sym (map_of-other (take k entries) entry leaf differs) ∙ now)
      ]
    ]

-- a lease may follow only if its leaf is free
free-before : (leaf : ℕ) (message : MessageId) (found : LeafUse) → may_follow (Leased leaf message) found ≡ true → found ≡ IsFree
free-before leaf message IsFree may = refl
free-before leaf message (IsLeased kept) may = absurd (cc)
free-before leaf message IsBurnt may = absurd (cc)
free-before leaf message IsTorn may = absurd (cc)

earlier : (entries : List Lease) (none : Lease) (i j leaf : ℕ) (one other : MessageId) → OneLease entries → i < j → j < length entries
    → get_or entries i none ≡ Leased leaf one → get_or entries j none ≡ Leased leaf other → ⊥
earlier entries none i j leaf one other legal before within first second =
    let follows = legal j none within in
    let may : may_follow (Leased leaf other) (map_of (take j entries) leaf) ≡ true =
    ap (λ (e : Lease). may_follow e (map_of (take j entries) (leaf_of e))) (sym second) ∙ follows in
    taken entries none i leaf j before (omega (arith, within)) (ap leaf_of first) (free-before leaf other (map_of (take j entries) leaf) may)

pub once : (entries : List Lease) (none : Lease) (i j leaf : ℕ) (one other : MessageId) → OneLease entries → i < length entries → j < length entries
    → get_or entries i none ≡ Leased leaf one → get_or entries j none ≡ Leased leaf other → i ≡ j
once entries none i j leaf one other legal in_i in_j first second = elim (cases_order i j) [
  | inl same ↦ same
  | inr (inl less) ↦ absurd (earlier entries none i j leaf one other legal less in_j first second)
  | inr (inr more) ↦ absurd (earlier entries none j i leaf other one legal more in_i second first)
]
