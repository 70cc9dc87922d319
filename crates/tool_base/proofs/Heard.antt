-- Nets over which nobody was heard.
use Rattle.std.proofs.Common.{◌≡◌, ◌++◌, append-nil, List, [], ℕ, Some, All, IsTrue, sym, ◌∙◌}
use Rattle.std.proofs.lemmas.List.Elements.{All-nil}
use Rattle.stream_io.specs.Net.{IsNewPort, NetState, PortState}
use Rattle.tool_base.specs.Heard.{HeardNobody}

-- ports came back as they were made
pub heard_new : (old new : NetState) (place : List ℕ) (ports : List PortState) → All (IsNewPort old (Some place)) ports
    → (IsTrue old.told → new.kept ≡ old.kept ++ ports) → HeardNobody place old new
heard_new old new place ports made kept = record { ports = ports; made = made; kept = kept }

-- no port came back
pub heard_none : (place : List ℕ) (old new : NetState) → new.kept ≡ old.kept → HeardNobody place old new
heard_none place old new is = record { ports = []; made = All-nil (IsNewPort old (Some place)); kept = λ told. is ∙ sym (append-nil old.kept) }
