use Rattle.std.proofs.Common.{refl}
use Rattle.stream_memory.proofs.Talks.{has_written}
use Rattle.stream_memory.proofs.conversation.Conversation.write.Goals as goal

pub returns-clause-written : goal.returns-clause-written
returns-clause-written c =
    rw c.count.ensures.same (has_written _ _ _ _ _ _ refl refl refl c.write-answer.ensures.written)
