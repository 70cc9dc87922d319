use Rattle.stream_memory.proofs.mem_store.MemStoreStore.write_new.Goals as goal

pub returns : goal.returns
returns c =
    let entered = c.enter.ensures in
    record {
      written = entered.written;
      exists = λ told. entered.exists;
      answers = entered.answers;
      refused = entered.refused;
      cause = entered.cause;
      onward = entered.onward;
    }
