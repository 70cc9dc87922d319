-- A leaf that is leased stays leased for its message, or is burnt.
use Rattle.std.proofs.Common.{◌≡◌, ℕ, true, List, [], ◌∷◌, ◌++◌, length, refl, sym, ap, subst, arith, inl, inr, append_assoc, append-nil, length-append}
use Rattle.std.proofs.Math.Seq.{get_or-append_seam, take-append_seam}
use mathlib.Core.List.{IsPrefix}
use Rattle.leaf_table.specs.Entries.{IsLeased, LeafUse, OneLease, leaf_of, map_of, may_follow, use_after}
use Rattle.leaf_table.specs.Leasing.{WasLeasedFor}
use Rattle.leaf_table.specs.declared.lease.Lease.{Lease}
use Rattle.leaf_table.specs.declared.lease.Lease.TheVariants.{Burnt, Leased}
use Rattle.leaf_table.proofs.Maps.{map_of-other, map_of-same}
use native.Mathlib.Decide.{ℕ_discrete}
use mathlib.Core.Logic.{dite}

-- an entry that may follow a use like this leaves one like it
pub follows-lease : (entry : Lease) (message : List ℕ) (found : LeafUse) → WasLeasedFor message found → may_follow entry found ≡ true → WasLeasedFor message (use_after entry)
follows-lease (Leased leaf id) message found (inl is) may = absurd (let never = ap (may_follow (Leased leaf id)) is in cc)
follows-lease (Leased leaf id) message found (inr is) may = absurd (let never = ap (may_follow (Leased leaf id)) is in cc)
follows-lease (Burnt leaf) message found was may = inr refl

-- one more entry
pub kept-more : (log : List Lease) (entry : Lease) (leaf : ℕ) (message : List ℕ) → may_follow entry (map_of log (leaf_of entry)) ≡ true
    → WasLeasedFor message (map_of log leaf) → WasLeasedFor message (map_of (log ++ entry ∷ []) leaf)
kept-more log entry leaf message may was = dite (ℕ_discrete leaf (leaf_of entry))
    (λ same. subst (WasLeasedFor message) (sym (map_of-same log entry leaf same))
    (follows-lease entry message (map_of log (leaf_of entry)) (subst (λ q. WasLeasedFor message (map_of log q)) same was) may))
    (λ other. subst (WasLeasedFor message) (sym (map_of-other log entry leaf other)) was)

-- all entries
pub kept-all : (log more : List Lease) (leaf : ℕ) (message : List ℕ) → OneLease (log ++ more) → WasLeasedFor message (map_of log leaf)
    → WasLeasedFor message (map_of (log ++ more) leaf)
kept-all log [] leaf message legal was = subst (λ (l : List Lease). WasLeasedFor message (map_of l leaf)) (sym (append-nil log)) was
kept-all log (entry ∷ more) leaf message legal was =
    let again : (log ++ entry ∷ []) ++ more ≡ log ++ entry ∷ more = append_assoc log (entry ∷ []) more in
    let follows : may_follow entry (map_of log (leaf_of entry)) ≡ true =
    let first = legal (length log) entry (omega (arith, length-append log (entry ∷ more))) in
    rw (take-append_seam log (entry ∷ more), get_or-append_seam log entry more entry) at first in
    subst (λ (l : List Lease). WasLeasedFor message (map_of l leaf)) again
    (kept-all (log ++ entry ∷ []) more leaf message (subst OneLease (sym again) legal) (kept-more log entry leaf message follows was))

pub kept : (log entries : List Lease) (leaf : ℕ) (message : List ℕ) → IsPrefix log entries → OneLease entries → map_of log leaf ≡ IsLeased message
    → WasLeasedFor message (map_of entries leaf)
kept log entries leaf message begins legal is =
    subst (λ (l : List Lease). WasLeasedFor message (map_of l leaf)) begins.1
    (kept-all log begins.0 leaf message (subst OneLease (sym begins.1) legal) (inl is))
