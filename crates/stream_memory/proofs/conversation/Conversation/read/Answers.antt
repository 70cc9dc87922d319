use Rattle.std.proofs.Common.{drop, take, refl, sym, ap}
use Rattle.stream_memory.specs.declared.conversation.Conversation.{Conversation}
use Rattle.stream_memory.proofs.Talks.{has_read}
use Rattle.stream_memory.proofs.conversation.Conversation.read.Goals as goal

pub returns-clause-read : goal.returns-clause-read
returns-clause-read c =
    let same = sym c.in_ok-begin_read.ensures.same in
    rw c.count.ensures.same
    (has_read _ _ _ _ refl (ap (λ (link : Conversation). take link.source.at link.source.bytes.items) same)
    (ap (λ (link : Conversation). drop link.source.at link.source.bytes.items) same) refl refl _ _ _ c.read-answer.ensures.read)
