-- What is said of a net over which nobody was heard.
use Rattle.std.specs.Prelude.{◌≡◌, ◌++◌, ℕ, List, All, Some, IsTrue}
use Rattle.stream_io.specs.Net.{IsNewPort, NetState, PortState}

-- Nobody was heard: the ports that were given back, if any, are as they were made at this place. So none of them has a
-- conversation.
pub record HeardNobody (place : List ℕ) (old new : NetState) : Type 0 where
  pub ports : List PortState
  pub made : All (IsNewPort old (Some place)) ports
  pub kept : IsTrue old.told → new.kept ≡ old.kept ++ ports
