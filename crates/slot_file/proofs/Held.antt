-- What holds of every cache.
use Rattle.disk_trait.specs.declared.disk.Pages as pages
use Rattle.disk_trait.specs.declared.faults.Faults as faults
use Rattle.slot_file.specs.Cache.{Holds}
use Rattle.slot_file.specs.declared.cache.CachedSlots.{CachedSlots}
use Rattle.slot_file.proofs.Files.{stands}

module _ {D : Type 0} {p : pages.Ghosts D} {f : faults.Ghosts D} (cache : CachedSlots D p f) where
  pub holds : Holds cache
  holds = record {
    reads = λ told. stands _ _ _ _ cache.in_doubt.within (cache.reads told);
    images = λ told honest image leaves. stands _ _ _ _ cache.in_doubt.within (cache.images told honest image leaves);
    whole = cache.whole;
    within = cache.in_doubt.within;
    cause = cache.faulted;
  }
