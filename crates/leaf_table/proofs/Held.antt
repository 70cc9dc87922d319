-- What holds of every leaf table.
use Rattle.std.proofs.Common.{◌≡◌, ◌<◌, ℕ, List, Some, length, inl, inr, sym, ◌∙◌, ap, subst, arith}
use Rattle.std.proofs.lemmas.List.{length-set}
use Rattle.disk_trait.specs.declared.disk.Pages as pages
use Rattle.disk_trait.specs.declared.faults.Faults as faults
use Rattle.leaf_table.specs.Entries.{Follows, OneLease, map_of, may_follow}
use Rattle.leaf_table.specs.Loading.{IsTableFile}
use Rattle.leaf_table.specs.Slots.{HasEntries, use_of_slot}
use Rattle.leaf_table.specs.Runs.{KeepsOneLease}
use Rattle.leaf_table.specs.State.{IsSound, StandsFor, TableState, lease_of, state_with}
use Rattle.leaf_table.specs.Table.{Holds, Keeps, header_of, state_of}
use Rattle.leaf_table.specs.declared.lease.Lease.{Lease}
use Rattle.leaf_table.specs.declared.table.Table.{Table}
use Rattle.slot_file.proofs.Logs.{legal-more}
use Rattle.leaf_table.proofs.Sound.{have-made, leaf_of-lease, may-follow}
use Rattle.slot_file.specs.State.{CacheState, HasSlots, StandsFor as CacheStandsFor, slot_in, with_made}
use Rattle.slot_file.specs.declared.doubted.Doubted.{Doubted}
use Rattle.slot_file.specs.Cache.{state_of as cache_state}
use Rattle.slot_file.proofs.Held.{holds as cache_holds}
use Rattle.slot_file.proofs.Logs.{stands-whole}
use Rattle.slot_file.specs.Layout.{slot_at}
use Rattle.slot_file.specs.declared.header.Header.{Header}
use Rattle.slot_file.specs.declared.slot.Slot.{Slot}

shown : (header : Header) (slots : List Slot) (file : List ℕ) → header.version ≡ 1 → HasSlots header slots file
    → (entries : List Lease) → ((leaf : ℕ) → leaf < length slots → use_of_slot (slot_in slots leaf) ≡ map_of entries leaf)
    → HasEntries (length slots) file entries
shown header slots file version has entries have leaf below =
    ap use_of_slot (ap (λ (v : ℕ). slot_at v leaf file) (sym version) ∙ has.shows leaf below) ∙ have leaf below

stands : (header : Header) (cache : CacheState) (entries : List Lease) (file : List ℕ) → header.version ≡ 1
    → IsSound (state_with cache entries) → CacheStandsFor header cache file → StandsFor file (state_with cache entries)
stands header cache entries file version sound stands_for = elim stands_for [
  | inl has ↦ inl (shown header cache.slots file version has entries sound.slots)
  | inr put ↦
      let d = put.0 in
      let have = have-made (state_with cache entries) (lease_of d) d.slot d.after (sound.within d put.1) sound (sound.next d put.1)
      (leaf_of-lease d.slot d.after) (sound.makes d put.1) in
      inr (
        d,
        put.1,
        λ leaf below.
            shown header (with_made cache.slots d) file version put.2 _ have leaf (omega (arith, below, length-set cache.slots d.slot d.after)),
      )
]

follows-doubted : (state : TableState) (d : Doubted) → IsSound state → state.doubt ≡ Some d → Follows state.entries (lease_of d)
follows-doubted state d sound is =
    let own = leaf_of-lease d.slot d.after in
    let there = sound.slots d.slot (sound.within d is) in
    ap (λ (k : ℕ). may_follow (lease_of d) (map_of state.entries k)) own ∙ ap (may_follow (lease_of d)) (sym there)
    ∙ may-follow (lease_of d) (slot_in state.slots d.slot) d.after (sound.next d is) (sound.makes d is)

-- the entry in doubt may follow too
keeps-sound : (state : TableState) → IsSound state → KeepsOneLease state
keeps-sound state sound settled (inl same) = subst (λ (s : TableState). OneLease s.entries) (sym same) sound.legal
keeps-sound state sound settled (inr made) =
    subst (λ (s : TableState). OneLease s.entries) (sym made.2) (legal-more Follows state.entries (lease_of made.0) sound.legal (follows-doubted state made.0 sound made.1))

module _ {D : Type 0} {p : pages.Ghosts D} {f : faults.Ghosts D} (table : Table D p f) where
  keeps : (file : List ℕ) → CacheStandsFor (header_of table) (cache_state table.slots) file → Keeps table file
  keeps file stands_for =
      let cache = cache_state table.slots in
      let header = header_of table in
      record {
        loads = subst (λ (count : ℕ). IsTableFile header count file) table.count (stands-whole 1 header cache file table.version stands_for);
        stands = stands header cache table.entries.items file table.version table.sound stands_for;
      }

  pub holds : Holds table
  holds =
      let cache = cache_holds table.slots in
      record {
        reads = λ told. keeps _ (cache.reads told);
        images = λ told honest image leaves. keeps image (cache.images told honest image leaves);
        cause = cache.cause;
        one_lease = keeps-sound (state_of table) table.sound;
      }
