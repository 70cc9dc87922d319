-- What one more entry does to the leaves.
use Rattle.std.proofs.Common.{◌≡◌, ◌≢◌, ℕ, List, [], ◌∷◌, ◌++◌, refl}
use Rattle.leaf_table.specs.Entries.{IsFree, leaf_of, map_of, use_after}
use Rattle.leaf_table.specs.declared.lease.Lease.{Lease}
use Rattle.slot_file.proofs.Logs.{log-other, log-same}

pub map_of-none : (leaf : ℕ) → map_of [] leaf ≡ IsFree
unfolding map_of
map_of-none leaf = refl

-- its leaf is what the entry makes of it, and each other leaf is as before
pub map_of-same : (entries : List Lease) (entry : Lease) (leaf : ℕ) → leaf ≡ leaf_of entry → map_of (entries ++ entry ∷ []) leaf ≡ use_after entry
unfolding map_of
map_of-same = log-same leaf_of use_after (λ leaf. IsFree)

pub map_of-other : (entries : List Lease) (entry : Lease) (leaf : ℕ) → leaf ≢ leaf_of entry → map_of (entries ++ entry ∷ []) leaf ≡ map_of entries leaf
unfolding map_of
map_of-other = log-other leaf_of use_after (λ leaf. IsFree)
