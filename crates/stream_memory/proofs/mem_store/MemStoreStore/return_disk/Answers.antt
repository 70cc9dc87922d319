use Rattle.std.proofs.Common.{ap, arith, refl, sym, ◌∙◌}
use Rattle.disk_trait.specs.MemDisk.{is_steady}
use Rattle.stream_memory.specs.MemStore.{kind_of}
use Rattle.stream_memory.specs.declared.entries.Slot.TheVariants.{Here}
use Rattle.stream_memory.proofs.Loans.{out_of, returned, same_for_all}
use Rattle.stream_memory.proofs.mem_store.MemStoreStore.return_disk.Goals as goal

pub returns-clause-returned : goal.returns-clause-returned
returns-clause-returned c =
    returned c.args.self.now.entries.list.items c.take_back.new.self.list.items c.args.name.now _ _ _ _ _ _ c.args.disk.disk c.args.disk.faults _
    c.take_back.ensures.slots c.saturating_add-self.ensures

pub returns-clause-onward : goal.returns-clause-onward
returns-clause-onward c =
    let out = out_of _ (is_steady c.args.disk.disk) (c.requires.out refl) in
    record {
      told = refl;
      steady = rw c.take_back.ensures.steady refl;
      disks = same_for_all c.args.self.now.entries.list.items c.take_back.new.self.list.items c.args.name.now (Here c.args.disk.disk)
          c.take_back.ensures.slots (kind_of c.args.self.now.new_stops) (sym (ap (kind_of c.args.self.now.new_stops) out));
      readers = λ told name who is. c.take_back.ensures.readers name ∙ is;
      count = omega arith;
      disk_count = omega arith;
    }
