use Rattle.std.proofs.Common.{◌≢◌, ◌<◌, ◌≤◌, ℕ, Contains, None}
use Rattle.coalition_map.specs.Coalitions.{leaf_members}
use Rattle.session_core.specs.Asks.{kept_masks}
use Rattle.session_core.specs.State.{round_of}
use Rattle.drill.proofs.asks.next_member.Given as goal

-- a reply from each member before this one is kept
abbrev pub invariant-trustees : goal.invariant-trustees
invariant-trustees l = (u : ℕ) → 1 ≤ u → u < l.t → Contains (leaf_members l.session.plan l.session.leaf) u
    → kept_masks l.session (round_of l.session) u ≢ None
