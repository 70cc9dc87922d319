-- A port that tells nothing of its content hangs a link up.
use Rattle.std.proofs.Common.{◌≢◌, ◌+◌, ◌≤◌, ℕ, List, [], Option, min, refl, sym, append-nil, arith}
use Rattle.std.proofs.lemmas.Bool.{false≢true}
use Rattle.stream_host.specs.Untold.{untold_port}
use Rattle.stream_io.specs.Net.{HangsUp}
use Rattle.stream_io.specs.Store.{RisesWhere}
use Rattle.stream_io.specs.Talk.{Talk}

pub hangs_up : (place : Option (List ℕ)) (old new accepting : ℕ) (talk : Talk) → RisesWhere (talk.count ≢ 0) old new → new ≤ old + min talk.count 1
    → HangsUp (untold_port place old accepting) talk (untold_port place new accepting)
hangs_up place old new accepting talk rises once = record {
  last = talk;
  ended = record {
    told = refl;
    place = refl;
    count = omega arith;
    unread = [];
    taken = λ _. sym (append-nil talk.taken);
    left = λ _. refl;
    lost = [];
    written = λ _. append-nil talk.written;
    whole = λ _ _. refl;
  };
  kept = record {
    count = rises;
    once = once;
    accept_count = refl;
    waiting = refl;
    reaches = refl;
    talks = λ told. absurd (false≢true told);
  };
}
