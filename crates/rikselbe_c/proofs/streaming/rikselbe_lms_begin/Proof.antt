-- The first state is made and written into its room.
use Rattle.rikselbe_c.proofs.Beginning.{begins}
use Rattle.rikselbe_c.proofs.Placed.{lms}
use Rattle.rikselbe_c.specs.contracts.streaming.rikselbe_lms_begin.Key.{name}
use Rattle.rikselbe_c.specs.contracts.lms_stream.begun.Key.{name as callee}
use Rattle.rikselbe_c.proofs.streaming.rikselbe_lms_begin.Statement.{statement}
use Rattle.rikselbe_c.proofs.streaming.rikselbe_lms_begin.Code as code
use Rattle.rikselbe_c.proofs.lms_stream.begun.Met.{met}

pub rikselbe_lms_begin_spec : {M : Type 1} → statement M
rikselbe_lms_begin_spec 𝓤 𝓛 𝓜 𝓡 wired =
    begins lms 𝓛 𝓜 𝓡 name callee (code.unfolded 𝓤 𝓛.H 𝓜 𝓡 wired) (met 𝓤 𝓛 𝓜 𝓡 (code.calls-rikselbe_c::lms_stream::begun 𝓡.env wired))
