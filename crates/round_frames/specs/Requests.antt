-- This project's profile: requests. Kind 6: u16str(members) || message, where bit t - 1 of the members stands for
-- trustee t.
use Rattle.std.specs.Prelude.{◌+◌, ◌==◌, ◌++◌, ℕ, List, take, drop, nat_le, Result, Ok, Err}
use Rattle.std.specs.Int.{w16, from_be_bytes}
use Rattle.std.specs.declared.alloc.Global.{Global}
use Rattle.std.specs.declared.vec.Vec.{Vec}
use Rattle.coalition_map.specs.Members.{bits_of, member_numbers}
use Rattle.lms_bytes.specs.Bytes.{u16str}
use Rattle.round_frames.specs.Frames.{Reader, frame, limit}
use Rattle.round_frames.specs.declared.fault.FrameFault.{FrameFault}

-- the reader of requests: trustees, in ascending order, and a message
abbrev pub requests : Reader (List ℕ × List ℕ)
requests = record {
  reads = λ kind. kind == 6;
  most = 2 + limit;
  has_length = λ header. nat_le 2 header.length;
  value = λ header payload. Ok (member_numbers (from_be_bytes w16 (take 2 payload)), drop 2 payload);
}

abbrev pub request_frame : List ℕ → List ℕ → List ℕ
request_frame members message = frame 6 (u16str (bits_of members) ++ message)

-- what a request was read as
abbrev pub request_seen : Result (List ℕ × Vec ℕ Global) FrameFault → Result (List ℕ × List ℕ) FrameFault
request_seen (Ok found) = Ok (found.0, found.1.items)
request_seen (Err fault) = Err fault
