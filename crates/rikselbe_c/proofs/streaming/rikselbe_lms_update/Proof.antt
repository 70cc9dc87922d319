-- The state is read, goes on by a piece, and is written back.
use Rattle.rikselbe_c.proofs.Updating.{updates}
use Rattle.rikselbe_c.proofs.Placed.{lms}
use Rattle.rikselbe_c.specs.contracts.streaming.rikselbe_lms_update.Key.{name}
use Rattle.rikselbe_c.specs.contracts.lms_stream.updated.Key.{name as callee}
use Rattle.rikselbe_c.proofs.streaming.rikselbe_lms_update.Statement.{statement}
use Rattle.rikselbe_c.proofs.streaming.rikselbe_lms_update.Code as code
use Rattle.rikselbe_c.proofs.lms_stream.updated.Met.{met}

pub rikselbe_lms_update_spec : {M : Type 1} → statement M
rikselbe_lms_update_spec 𝓤 𝓛 𝓜 𝓡 wired =
    updates lms 𝓛 𝓜 𝓡 name callee (code.unfolded 𝓤 𝓛.H 𝓜 𝓡 wired) (met 𝓤 𝓛 𝓜 𝓡 (code.calls-rikselbe_c::lms_stream::updated 𝓡.env wired))
