-- Workers that were given ports, that are done, and whose passes are joined.
use Rattle.std.specs.Prelude.{◌≡◌, ◌≤◌, ◌<◌, ◌*◌, ◌^◌, ℕ, List, All, length, map, Option}
use Rattle.share_files.specs.declared.share.Share.{Share}
use Rattle.trustee_core.specs.Notes.{entries_in}
use Rattle.trustee_core.specs.declared.kept.TrusteeName.{TrusteeName}
use Rattle.trustee_core.specs.declared.note.Note.{Note}
use Rattle.trustee_node.specs.Turns.{Draws, Faults, NotedBy, added_by}
use Rattle.trustee_node.specs.Workers.{WorkEnds, WorkerState, Worked}
use Rattle.trustee_node.specs.Ports.{HasTotals, IsPortRun, PortRun, PortsRun, turns_in}
use Rattle.stream_io.specs.declared.totals.Totals.{Totals}
use Rattle.turn_lock.specs.Lock.{Lock}
use Rattle.turn_lock.specs.Pass.{SamePass, Seen, first_pass}

-- internal: a worker of this kind, before and after it was run
pub record IsDone (share : Share) (ids : Option (List (List ℕ))) (asked : ℕ) (old new : WorkerState) : Type 0 where
  pub worked : Worked share ids old new
  pub small : asked < 2 ^ 32
  pub most : new.connections ≤ asked
  pub ends : WorkEnds asked new

-- internal: the pass in which the passes of these ports' workers are joined
pub record Gathered (share : Share) (ids : Option (List (List ℕ))) (asked : ℕ) (lock : Lock Note TrusteeName)
    (pass : Seen Note TrusteeName) (ports : PortsRun) (totals : Totals) : Type 0 where
  pub runs : List PortRun
  pub before : map (λ (run : PortRun). run.before) runs ≡ ports.before
  pub after : map (λ (run : PortRun). run.after) runs ≡ ports.after
  pub by_clocks : map (λ (run : PortRun). run.clock) runs ≡ ports.clocks
  pub are : pass.greatest < 2 ^ 62
      → All (IsPortRun share ids asked (entries_in lock.opening_log) (entries_in pass.log)) runs
  pub same : SamePass (first_pass lock) pass
  pub draws : Draws (first_pass lock) pass (turns_in runs)
  pub faults : Faults (first_pass lock) pass (turns_in runs)
  pub own : pass.floor ≡ 0 → entries_in pass.own ≡ added_by (turns_in runs)
  pub notes : NotedBy share ids (first_pass lock) pass (turns_in runs)
  pub most : length (turns_in runs) ≤ 2 ^ 48 * length runs
  pub joined : pass.joined ≡ length runs
  pub totals_are : HasTotals runs totals
