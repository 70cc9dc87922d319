-- What a trustee did over the ports of a net.
use Rattle.std.specs.Prelude.{◌≡◌, ◌++◌, ℕ, List, All, length, Option, Some, IsTrue, false, Ok}
use Rattle.disk_trait.specs.Faults.{Rose}
use Rattle.share_files.specs.declared.share.Share.{Share}
use Rattle.stream_io.specs.Net.{IsNewPort, NetState, PortState, SomeUnaccepted}
use Rattle.tool_base.specs.Ending as ending
use Rattle.tool_base.specs.Ending.{Ending}
use Rattle.tool_base.specs.Heard.{HeardNobody}
use Rattle.tool_base.specs.Services.{HasAccepted, ServiceEnds}
use Rattle.tool_base.specs.World.{TimeState}
use Rattle.tool_words.specs.Words.{TrusteeWords}
use Rattle.trustee_node.specs.Connections.{ClockState}
use Rattle.trustee_node.specs.Ports.{ServedPorts, ports_run}
use Rattle.trustee_node.specs.Trustees.{TrusteeState}
use Rattle.stream_io.specs.declared.totals.Totals.{Totals}

-- a clock that was made here tells what all clocks of this time answer, from the first answer on
pub record IsNewClock (time : TimeState) (clock : ClockState) : Type 0 where
  pub told : IsTrue time.told → IsTrue clock.told
  pub answers : IsTrue time.told → (j : ℕ) → clock.answers j ≡ time.answers j

-- a service: the share of its trustee, and the trustee before and after
pub record Service : Type 0 where
  pub share : Share
  pub old : TrusteeState
  pub new : TrusteeState

-- the service with this share, from this trustee to that one
abbrev pub service_of : Share → TrusteeState → TrusteeState → Service
service_of share old new = record { share = share; old = old; new = new }

-- Ports were made at the place of the words, which the net offers, one for each worker, and the trustee was served over
-- them; then all were given back, and the net keeps them. The end says what was served, or that accepting failed.
pub record ServedNet (words : TrusteeWords) (service : Service) (ids : Option (List (List ℕ)))
    (net_old net_new : NetState) (time : TimeState) (end : Ending) : Type 0 where
  pub ports_old : List PortState
  pub ports_new : List PortState
  pub clocks : List ClockState
  pub totals : Totals
  pub many : length ports_old ≡ words.workers
  pub offered : IsTrue net_old.told → IsTrue (net_old.offers words.place)
  pub made : All (IsNewPort net_old (Some words.place)) ports_old
  pub dated : All (IsNewClock time) clocks
  pub served : ServedPorts service.share ids words.connections service.old service.new
      (ports_run ports_old ports_new clocks) totals
  pub kept : IsTrue net_old.told → net_new.kept ≡ net_old.kept ++ ports_new
  pub ends : ServiceEnds ports_new (Ok totals) end
  pub deaf : SomeUnaccepted ports_new → Rose net_old.port_count net_new.port_count
  pub hears : IsTrue net_old.steady → All HasAccepted ports_new

-- How service over a net ends: the trustee was served, or there were no ports and the trustee is as it was.
pub data NetServiceEnds (words : TrusteeWords) (service : Service) (ids : Option (List (List ℕ))) (same : Type 0)
    (net_old net_new : NetState) (time : TimeState) : Ending → Type 0 where
  no_memory : same → HeardNobody words.place net_old net_new
      → NetServiceEnds words service ids same net_old net_new time ending.NoMemory
  no_ports : same → HeardNobody words.place net_old net_new → Rose net_old.port_count net_new.port_count
      → (IsTrue net_old.told → IsTrue net_old.steady → net_old.offers words.place ≡ false)
      → NetServiceEnds words service ids same net_old net_new time ending.NetFailed
  served : (end : Ending) → ServedNet words service ids net_old net_new time end
      → NetServiceEnds words service ids same net_old net_new time end
