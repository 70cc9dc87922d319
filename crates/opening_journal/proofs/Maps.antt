-- What one more entry does to the leaves.
use Rattle.std.proofs.Common.{◌≡◌, ◌≢◌, ℕ, List, [], ◌∷◌, ◌++◌, refl}
use Rattle.opening_journal.specs.Entries.{IsFree, leaf_of, map_of, state_after}
use Rattle.opening_journal.specs.declared.entry.Entry.{Entry}
use Rattle.slot_file.proofs.Logs.{log-other, log-same}

pub map_of-none : (leaf : ℕ) → map_of [] leaf ≡ IsFree
unfolding map_of
map_of-none leaf = refl

-- its leaf is what the entry makes of it, and each other leaf is as before
pub map_of-same : (entries : List Entry) (entry : Entry) (leaf : ℕ) → leaf ≡ leaf_of entry → map_of (entries ++ entry ∷ []) leaf ≡ state_after entry
unfolding map_of
map_of-same = log-same leaf_of state_after (λ leaf. IsFree)

pub map_of-other : (entries : List Entry) (entry : Entry) (leaf : ℕ) → leaf ≢ leaf_of entry → map_of (entries ++ entry ∷ []) leaf ≡ map_of entries leaf
unfolding map_of
map_of-other = log-other leaf_of state_after (λ leaf. IsFree)
