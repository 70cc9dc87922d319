-- What a store in memory says after a call that left its names unchanged.
use Rattle.std.proofs.Common.{◌≡◌, ◌≤◌, ◌+◌, ◌&&◌, ℕ, Bool, true, false, List, Option, Some, None, Result, Ok, Err}
use Rattle.std.proofs.Common.{OnErr, is_none, refl, arith}
use Rattle.std.specs.declared.alloc.Global.{Global}
use Rattle.std.specs.declared.vec.Vec.{Vec}
use Rattle.disk_trait.specs.MemDisk.{is_steady}
use Rattle.stream_io.specs.Store.{SameNames, SameStore, StoreOnward, Viewed}
use Rattle.stream_memory.specs.Calls.{is_empty}
use Rattle.stream_memory.specs.MemStore.{are_steady, file_of, full_disk, is_steady_store, state_of}
use Rattle.stream_memory.specs.declared.entries.Entry.{Entry}
use Rattle.stream_memory.specs.declared.stored_disk.StoredDisk.{StoredDisk}
use Rattle.stream_memory.proofs.Links.{first_true, last_true}
use Rattle.stream_memory.proofs.Loans.{stored}

module _ (old new : List Entry) (stops : Option ℕ) (steady steady' : Bool) (count count' disk_count : ℕ) where
  names : (views views' : ℕ) → new ≡ old
      → SameNames (state_of old stops steady count disk_count views)
      (state_of new stops steady' count' disk_count views')
  names views views' same = rw same (record { file = refl; leaves = λ name image. (λ is. is, λ is. is); out = refl })

  pub kept_store : (views : ℕ) → new ≡ old
      → SameStore (state_of old stops steady count disk_count views) (state_of new stops steady' count' disk_count views)
  kept_store views same = record { names = names views views same; loans = record { disk_count = refl; views = refl } }

  pub same_store : (views : ℕ) → new ≡ old → {T E : Type 0} (result : Result T E)
      → OnErr result (SameStore (state_of old stops steady count disk_count views)
      (state_of new stops steady' count' disk_count views))
  same_store views same (Ok value) = tt
  same_store views same (Err fault) = kept_store views same

-- the calls that fail are those that were listed
pub onward : (old new : List Entry) (stops fails : Option ℕ) (failing failing' : Vec ℕ Global)
    (count count' disk_count views views' : ℕ) → new ≡ old → failing' ≡ failing → count ≤ count'
    → StoreOnward (state_of old stops (is_steady_store failing.items fails stops old) count disk_count views)
    (state_of new stops (is_steady_store failing'.items fails stops new) count' disk_count views')
onward old new stops fails failing failing' count count' disk_count views views' same listed later =
    rw (same, listed) (record {
      told = refl;
      steady = refl;
      disks = λ name. refl;
      readers = λ told name who was. was;
      count = later;
      disk_count = omega arith;
    })

-- a steady store lets no call of a view fail
view_steady : (bytes : List ℕ) (calls : Bool) (fails : Option ℕ) → (calls && is_none fails) ≡ true
    → is_steady (record (full_disk bytes) { fails = fails }) ≡ true
view_steady bytes calls None is = refl
view_steady bytes calls (Some call) is = let no : false ≡ true = last_true calls false is in cc

-- a view of a name that is there
pub viewed : (entries : List Entry) (name bytes : List ℕ) (stops : Option ℕ) (steady' : Bool)
    (count count' disk_count views : ℕ) (failing : List ℕ) (fails : Option ℕ) (view : StoredDisk)
    → file_of entries name ≡ Some bytes → view.disk ≡ record (full_disk bytes) { fails = fails } → view.faults ≡ 0
    → Viewed (state_of entries stops (is_steady_store failing fails stops entries) count disk_count views) name
    (stored view.disk view.faults) (state_of entries stops steady' count' disk_count (views + 1))
viewed entries name bytes stops steady' count count' disk_count views failing fails view there disk fresh =
    let calls = is_empty failing in
    let before = calls && is_none fails in
    let all = is_steady_store failing fails stops entries in
    record {
      given = record {
        fresh = fresh;
        told = λ told. refl;
        steady = λ is.
            let made = first_true (before && is_none stops) (are_steady entries) is in
            rw disk (view_steady bytes calls fails (first_true before (is_none stops) made));
      };
      reads = λ told. rw disk there;
      names = names entries entries stops all steady' count count' disk_count views (views + 1) refl;
      disk_count = refl;
      views = λ told. refl;
    }
