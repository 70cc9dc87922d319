use Rattle.std.proofs.Common.{◌≡◌, ◌≤◌, ◌-◌, List, [], ℕ, length, take, IsTrue}
use Rattle.lms_bytes.specs.IdHash.{taken_length}
use Rattle.lms_bytes.specs.IdHash.{HasTaken as IdTaken}
use Rattle.lms_bytes.specs.declared.params.Params.{Params}
use Rattle.ots_chain.specs.MessageHash.{HasTaken}
use Rattle.stream_io.specs.Talk.{OnlyRead, Took}
use Rattle.round_frames.proofs.message.take_message.Given as goal

abbrev pub invariant-pieces : goal.invariant-pieces
invariant-pieces g l =
    let talk = g.S.Stream.talk in
    let xs = (talk l.initial.source).left in
    record {
      within : l.at ≤ l.size;
      room : length l.piece ≡ 4096;
      counted : taken_length l.hashes.id ≡ l.at;
      only : OnlyRead (talk l.initial.source) (talk l.source);
      quiet : (talk l.source).count ≡ (talk l.initial.source).count;
      steady : g.S.Faults.steady l.source ≡ g.S.Faults.steady l.initial.source;
      id : IsTrue (talk l.initial.source).told → IdTaken l.initial.hashes.id [] → IdTaken l.hashes.id (take l.at xs);
      digest : IsTrue (talk l.initial.source).told → (params : Params) (key : List ℕ) (q : ℕ) (c : List ℕ) → HasTaken l.initial.hashes.digest params key q c [] → HasTaken l.hashes.digest params key q c (take l.at xs);
      some : (params : Params) (key : List ℕ) (q : ℕ) (c : List ℕ) → HasTaken l.initial.hashes.digest params key q c [] → (xs : List ℕ) × HasTaken l.hashes.digest params key q c xs;
      took : IsTrue (talk l.initial.source).told → Took (talk l.initial.source) (talk l.source) l.at;
    }

abbrev pub decreases-pieces : goal.decreases-pieces
decreases-pieces g l = l.size - l.at
