-- How a connection ends, depending on what its last call gave.
use Rattle.std.proofs.Common.{◌≡◌, ◌+◌, ◌<◌, ◌≤◌, ℕ, List, [], ◌∷◌, ◌++◌, Bool, Option, IsTrue, Result, Err, length, refl, ap, ◌∙◌, subst, arith}
use Rattle.disk_trait.specs.Faults.{Rose}
use Rattle.lms_bytes.specs.declared.ask.Ask.{Ask}
use Rattle.node_workers.specs.Ends.{IsLinkFault, end_by}
use Rattle.node_workers.specs.declared.served.ServedEnd.{ServedEnd}
use Rattle.node_workers.specs.declared.served.ServedEnd.TheVariants.{WriteFailed, Worn, Full}
use Rattle.round_frames.specs.Asks.{asks}
use Rattle.round_frames.specs.Frames.{frame_of}
use Rattle.round_frames.specs.Reads.{Reads}
use Rattle.round_frames.specs.declared.fault.FrameFault.{FrameFault}
use Rattle.round_frames.specs.declared.fault.FrameFault.TheVariants.{NoMemory}
use Rattle.share_files.specs.declared.share.Share.{Share}
use Rattle.stream_io.specs.Store.{RisesWhere}
use Rattle.stream_io.specs.Talk.{OnlyRead, Talk, WrotePart}
use Rattle.trustee_node.specs.Connections.{Conversation, ServerState}
use Rattle.trustee_node.specs.Replies.{reply_bytes}
use Rattle.trustee_node.specs.Turns.{Turn, is_code, with_code}
use Rattle.trustee_node.proofs.Asking.{Heard, Replied}
use Rattle.trustee_node.proofs.Conversing.{FailsAs, cause-ended, ends-ended, failed-cause, fault-read, left-ended, length-more, link-fault, quiet-cause, room-short, worn-more, worn-most, written-ended, written-part}

module _ (share : Share) (ids : Option (List (List ℕ))) (old mid : ServerState) (first link : Talk) (steady : Bool) (turns : List Turn) (frames counter : ℕ)
    (heard : Heard share ids old mid first link turns) (replied : Replied share first link turns) (fresh : with_code 11 turns ≡ 0)
    (counted : frames ≡ counter) (many : length turns ≡ counter) where
  as-many : frames ≡ length turns
  as-many = omega (arith, counted, many)

  -- no ask was read
  pub ends-unread : (new : Talk) (fault : FrameFault) (ended : ServedEnd) → ended ≡ end_by fault → counter < 65536
      → (IsTrue link.told → Reads {V = Ask} link new (Err fault) (frame_of (asks share.params) link.left)) → OnlyRead link new
      → RisesWhere (FailsAs fault) link.count new.count → (IsTrue steady → FailsAs fault → ⊥) → (◌≡◌ {A = Result Ask FrameFault} (Err fault) (Err NoMemory) → ⊥)
      → Conversation share ids old mid (record { steady = steady; talk = first }) new (record { frames = frames; ended = ended })
  ends-unread new fault ended is below reads only cause answers no_memory = record {
    turns = turns;
    serves = heard.serves;
    dated = heard.dated;
    read = λ told.
        let none = fault-read share.params link new fault (reads (heard.told ∙ told)) in
        record { rest = link.left; asks_read = heard.asks told; behind = left-ended share.params ended fault link.left new.left is none.behind; all = none.all ∙ heard.all told };
    written = λ told. written-ended share first new turns ended fault is (only.written ∙ replied.written told);
    ends = ends-ended frames turns as-many fresh ended fault is (λ want. no_memory (ap Err want));
    most = omega (arith, many, below);
    small = heard.small;
    fails = λ is_steady failed. absurd (answers is_steady (ap Err (link-fault fault (subst IsLinkFault is failed))));
    cause = cause-ended ended fault first.count link.count new.count is replied.quiet cause;
    told = only.told ∙ heard.told;
    place = only.place ∙ heard.place;
  }

  -- as many asks were read as one connection may have
  pub ends-full : length turns ≡ 65536 → Conversation share ids old mid (record { steady = steady; talk = first }) link (record { frames = frames; ended = Full })
  ends-full all = record {
    turns = turns;
    serves = heard.serves;
    dated = heard.dated;
    read = λ told. record { rest = link.left; asks_read = heard.asks told; behind = refl; all = heard.all told };
    written = replied.written;
    ends = (as-many, all, fresh);
    most = omega (arith, all);
    small = heard.small;
    fails = λ _ never. absurd never;
    cause = quiet-cause Full first.count link.count (λ never. absurd never) replied.quiet;
    told = heard.told;
    place = heard.place;
  }

  module _ (new : ServerState) (last next : Talk) (turn : Turn) (below : counter < 65536) (read : OnlyRead link last)
      (more : Heard share ids old new first next (turns ++ turn ∷ [])) where
    one-more : frames + 1 ≡ length (turns ++ turn ∷ [])
    one-more = omega (arith, counted, many, length-more turns turn)

    within : length (turns ++ turn ∷ []) ≤ 65536
    within = omega (arith, many, below, length-more turns turn)

    -- its reply was not written whole
    pub ends-unwritten : is_code 11 turn.outcome ≤ 1 → last.count ≡ link.count → (IsTrue last.told → WrotePart last next (reply_bytes share turn.ask turn.outcome))
        → last.count ≤ next.count → Rose last.count next.count → (IsTrue steady → length (reply_bytes share turn.ask turn.outcome) ≤ last.room → ⊥)
        → Conversation share ids old new (record { steady = steady; talk = first }) next (record { frames = frames; ended = WriteFailed })
    ends-unwritten few still wrote later rose full = record {
      turns = turns ++ turn ∷ [];
      serves = more.serves;
      dated = more.dated;
      read = λ told. record { rest = next.left; asks_read = more.asks told; behind = refl; all = more.all told };
      written = λ told. written-part share turns turn first last next (read.written ∙ replied.written told) (wrote (read.told ∙ (heard.told ∙ told)));
      ends = (one-more, worn-most turns turn fresh few);
      most = within;
      small = more.small;
      fails = λ is_steady _. (refl, room-short share turns turn first.room link.room last.room replied.room read.room (full is_steady));
      cause = failed-cause WriteFailed first.count last.count next.count tt (still ∙ replied.quiet) later rose;
      told = more.told;
      place = more.place;
    }

    -- its reply was written whole, and says that the pass is worn
    pub ends-worn : is_code 11 turn.outcome ≡ 1 → Replied share first next (turns ++ turn ∷ [])
        → Conversation share ids old new (record { steady = steady; talk = first }) next (record { frames = frames + 1; ended = Worn })
    ends-worn one done = record {
      turns = turns ++ turn ∷ [];
      serves = more.serves;
      dated = more.dated;
      read = λ told. record { rest = next.left; asks_read = more.asks told; behind = refl; all = more.all told };
      written = done.written;
      ends = (one-more, worn-more turns turn 1 fresh one);
      most = within;
      small = more.small;
      fails = λ _ never. absurd never;
      cause = quiet-cause Worn first.count next.count (λ never. absurd never) done.quiet;
      told = more.told;
      place = more.place;
    }
