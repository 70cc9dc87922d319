-- Why a journal is not loaded.
use Rattle.std.proofs.Common.{◌≡◌, ℕ, List, subst}
use Rattle.opening_journal.specs.Faults.{journal_load}
use Rattle.opening_journal.specs.Loading.{LoadRefused, damaged, device, no_memory, other_file}
use Rattle.slot_file.specs.Loading as cache_refused
use Rattle.slot_file.specs.Loading.{LoadRefused as CacheRefused}
use Rattle.slot_file.specs.declared.faults.CacheLoad.{CacheLoad}
use Rattle.slot_file.specs.Copies.{IsFirstDamaged}
use Rattle.slot_file.specs.declared.header.Header.{Header}

-- why a journal is not loaded if its slots are not
pub refused-load : (header : Header) (count : ℕ) (file : List ℕ) (fault : CacheLoad) → header.version ≡ 2 → CacheRefused header count file fault → LoadRefused header count file (journal_load fault)
refused-load header count file fault version (cache_refused.other_file why is) = other_file why is
refused-load header count file fault version (cache_refused.no_memory opens) = no_memory opens
refused-load header count file fault version (cache_refused.damaged slot a b opens first) =
    damaged slot a b opens (subst (λ (v : ℕ). IsFirstDamaged v count file slot a b) version first)
refused-load header count file fault version cache_refused.device = device
