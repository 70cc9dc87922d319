-- The first state is made and written into its room.
use Rattle.rikselbe_c.proofs.Beginning.{begins}
use Rattle.rikselbe_c.proofs.Placed.{hss}
use Rattle.rikselbe_c.specs.contracts.streaming.rikselbe_hss_begin.Key.{name}
use Rattle.rikselbe_c.specs.contracts.hss_stream.begun.Key.{name as callee}
use Rattle.rikselbe_c.proofs.streaming.rikselbe_hss_begin.Statement.{statement}
use Rattle.rikselbe_c.proofs.streaming.rikselbe_hss_begin.Code as code
use Rattle.rikselbe_c.proofs.hss_stream.begun.Met.{met}

pub rikselbe_hss_begin_spec : {M : Type 1} → statement M
rikselbe_hss_begin_spec 𝓤 𝓛 𝓜 𝓡 wired =
    begins hss 𝓛 𝓜 𝓡 name callee (code.unfolded 𝓤 𝓛.H 𝓜 𝓡 wired) (met 𝓤 𝓛 𝓜 𝓡 (code.calls-rikselbe_c::hss_stream::begun 𝓡.env wired))
