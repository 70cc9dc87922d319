-- A table that was just made.
use Rattle.std.proofs.Common.{◌≡◌, ◌≢◌, ℕ, List, refl, sym, ◌∙◌}
use Rattle.slot_file.specs.Loading.{LoadRefused, damaged, no_memory, other_file}
use Rattle.slot_file.specs.Loading as refused
use Rattle.slot_file.specs.declared.faults.CacheLoad.{CacheLoad}
use Rattle.slot_file.specs.declared.faults.CacheLoad.TheVariants as load
use Rattle.slot_file.specs.Fresh.{IsNew}
use Rattle.slot_file.specs.declared.header.Header.{Header}

-- it is loaded, unless memory runs out or the disk failed
pub new-refused : (header : Header) (count : ℕ) (file : List ℕ) (why : CacheLoad) → IsNew header count file → LoadRefused header count file why
    → why ≢ load.Device → why ≡ load.NoMemory
new-refused header count file why new (other_file fault opens) goes = absurd (let e = sym new.1.opens ∙ opens in cc)
new-refused header count file why new (no_memory opens) goes = refl
new-refused header count file why new (damaged slot a b opens first) goes = absurd (let e = sym (new.1.free slot first.within) ∙ first.here in cc)
new-refused header count file why new refused.device goes = absurd (goes refl)
