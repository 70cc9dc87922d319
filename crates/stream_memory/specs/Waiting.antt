-- What links and ports that wait stand for.
use Rattle.std.specs.Prelude.{◌&&◌, ◌+◌, ◌-◌, ◌^◌, ℕ, Bool, min}
use Rattle.stream_io.specs.Net.{PortState}
use Rattle.stream_io.specs.Talk.{Talk}

-- what has gone over a link, with one more fault for each wait in vain
abbrev pub with_vain : Talk → ℕ → Talk
with_vain talk vain = record talk { count = min (talk.count + vain) (2 ^ 64 - 1) }

-- a port in one state, whose links wait for something or for nothing
abbrev pub with_waits : PortState → Bool → PortState
with_waits port wait_for_nothing = record port { steady = port.steady && wait_for_nothing }
