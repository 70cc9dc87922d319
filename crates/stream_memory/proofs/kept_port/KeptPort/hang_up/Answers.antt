use Rattle.std.proofs.Common.{arith, refl, sym, append-nil, []}
use Rattle.stream_io.specs.Talk.{Ended, Talk}
use Rattle.stream_memory.specs.Chain.{own}
use Rattle.stream_memory.specs.Links.{talk_of}
use Rattle.stream_memory.proofs.kept_port.KeptPort.hang_up.Goals as goal

ended-same : (talk : Talk) → Ended talk talk
ended-same talk = record {
  told = refl;
  place = refl;
  count = omega arith;
  unread = [];
  taken = λ _. sym (append-nil talk.taken);
  left = λ _. refl;
  lost = [];
  written = λ _. append-nil talk.written;
  whole = λ _ _. refl;
}

pub returns-clause-kept : goal.returns-clause-kept
returns-clause-kept c = record {
  last = talk_of (own c.args.node.value);
  ended = ended-same (talk_of (own c.args.node.value));
  kept = c.keep.ensures.kept;
}
