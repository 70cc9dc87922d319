-- The state is read, goes on by a piece, and is written back.
use Rattle.rikselbe_c.proofs.Updating.{updates}
use Rattle.rikselbe_c.proofs.Placed.{hss}
use Rattle.rikselbe_c.specs.contracts.streaming.rikselbe_hss_update.Key.{name}
use Rattle.rikselbe_c.specs.contracts.hss_stream.updated.Key.{name as callee}
use Rattle.rikselbe_c.proofs.streaming.rikselbe_hss_update.Statement.{statement}
use Rattle.rikselbe_c.proofs.streaming.rikselbe_hss_update.Code as code
use Rattle.rikselbe_c.proofs.hss_stream.updated.Met.{met}

pub rikselbe_hss_update_spec : {M : Type 1} → statement M
rikselbe_hss_update_spec 𝓤 𝓛 𝓜 𝓡 wired =
    updates hss 𝓛 𝓜 𝓡 name callee (code.unfolded 𝓤 𝓛.H 𝓜 𝓡 wired) (met 𝓤 𝓛 𝓜 𝓡 (code.calls-rikselbe_c::hss_stream::updated 𝓡.env wired))
