-- This project's profile: results. Kind 7: an LMS signature. Kind 8: u8str(status) || u8str(member) || u8str(round) ||
-- u32str(leaf), of a session that failed.
use Rattle.std.specs.Prelude.{◌+◌, ◌==◌, ◌||◌, ◌∷◌, ℕ, List, slice_index, Result, Ok, Err}
use Rattle.std.specs.Prelude.{if◌then◌else◌}
use Rattle.lms_bytes.specs.Bytes.{bytes_at, str_to_u32, u32str}
use Rattle.lms_bytes.specs.Signature.{signature_length}
use Rattle.lms_bytes.specs.declared.params.Params.{Params}
use Rattle.round_frames.specs.Frames.{Reader, frame, limit}
use Rattle.round_frames.specs.declared.outcome.Failure.{Failure}
use Rattle.round_frames.specs.declared.outcome.Outcome.{Outcome}
use Rattle.round_frames.specs.declared.outcome.Outcome.TheVariants as outcome
use Rattle.round_frames.specs.declared.fault.FrameFault.{FrameFault}

-- a signature's bytes, or a failure
pub data Said : Type 0 where
  Signature : (bytes : List ℕ) → Said
  Failed : (failure : Failure) → Said

-- what a result was read as
abbrev pub said : Outcome → Said
said (outcome.Signature bytes) = Signature bytes.items
said (outcome.Failure failure) = Failed failure

abbrev pub result_seen : Result Outcome FrameFault → Result Said FrameFault
result_seen (Ok outcome) = Ok (said outcome)
result_seen (Err fault) = Err fault

abbrev pub failure_of : List ℕ → Failure
failure_of payload = record {
  status = slice_index payload 0;
  member = slice_index payload 1;
  round = slice_index payload 2;
  leaf = str_to_u32 (bytes_at payload 3 4);
}

-- the reader of results
abbrev pub results : Params → Reader Said
results params = record {
  reads = λ kind. kind == 7 || kind == 8;
  most = 52 + params.n + limit;
  has_length = λ header. if header.kind == 7 then header.length == signature_length params else header.length == 7;
  value = λ header payload. Ok (if header.kind == 7 then Signature payload else Failed (failure_of payload));
}

abbrev pub signature_frame : List ℕ → List ℕ
signature_frame bytes = frame 7 bytes

abbrev pub failure_frame : Failure → List ℕ
failure_frame failure = frame 8 (failure.status ∷ failure.member ∷ failure.round ∷ u32str failure.leaf)
