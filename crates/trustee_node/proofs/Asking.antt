-- One more ask of a connection.
use Rattle.std.proofs.Common.{◌≡◌, ◌+◌, ◌*◌, ◌≤◌, ℕ, List, [], ◌∷◌, ◌++◌, Option, IsTrue, Ok, length, ap, ◌∙◌, arith}
use Rattle.lms_bytes.specs.declared.ask.Ask.{Ask}
use Rattle.round_frames.specs.Asks.{asks}
use Rattle.round_frames.specs.Frames.{frame_of}
use Rattle.round_frames.specs.Reads.{Reads}
use Rattle.share_files.specs.declared.share.Share.{Share}
use Rattle.stream_io.specs.Talk.{OnlyRead, OnlyWrote, Talk}
use Rattle.trustee_node.specs.Connections.{IsDated, ReadsAsks, ServerState}
use Rattle.trustee_node.specs.Replies.{longest_reply, replies, reply_bytes}
use Rattle.trustee_node.specs.Turns.{Serves, Turn}
use Rattle.trustee_node.proofs.Conversing.{ask-read, asks-more, dated-more, room-more, small-more, written-more}
use Rattle.trustee_node.proofs.Serving.{serves-then}

-- the asks that were read at a link, and that had these turns
pub record Heard (share : Share) (ids : Option (List (List ℕ))) (old now : ServerState) (first link : Talk) (turns : List Turn) : Type 0 where
  pub serves : Serves share ids old.pass now.pass turns
  pub dated : IsTrue old.clock.told → IsDated old.clock.answers now.clock.answers turns
  pub asks : IsTrue first.told → ReadsAsks share.params first.left turns link.left
  pub all : IsTrue first.told → link.taken ++ link.left ≡ first.taken ++ first.left
  pub small : length (replies share turns) ≤ length turns * longest_reply share.params
  pub told : link.told ≡ first.told
  pub place : link.place ≡ first.place

-- all replies to these turns were written, and no call failed
pub record Replied (share : Share) (first link : Talk) (turns : List Turn) : Type 0 where
  pub written : IsTrue first.told → link.written ≡ first.written ++ replies share turns
  pub room : first.room ≤ link.room + length (replies share turns)
  pub quiet : link.count ≡ first.count

module _ (share : Share) (turns : List Turn) (turn : Turn) where
  -- one more was read and had its turn, and part of its reply was written
  pub heard-more : (ids : Option (List (List ℕ))) (old mid new : ServerState) (first link last next : Talk)
      → Heard share ids old mid first link turns → mid.clock.told ≡ old.clock.told → Serves share ids mid.pass new.pass (turn ∷ [])
      → (IsTrue mid.clock.told → turn.moment ≡ mid.clock.answers 0) → (IsTrue mid.clock.told → (j : ℕ) → new.clock.answers j ≡ mid.clock.answers (j + 1))
      → (IsTrue link.told → Reads {V = Ask} link last (Ok turn.ask) (frame_of (asks share.params) link.left)) → OnlyRead link last → OnlyWrote last next
      → length (reply_bytes share turn.ask turn.outcome) ≤ longest_reply share.params → Heard share ids old new first next (turns ++ turn ∷ [])
  heard-more ids old mid new first link last next heard same serves moment later reads read wrote small = record {
    serves = serves-then share ids old.pass mid.pass new.pass turns (turn ∷ []) heard.serves serves;
    dated = λ told.
        dated-more old.clock.answers mid.clock.answers new.clock.answers turns turn (heard.dated told) (moment (same ∙ told)) (later (same ∙ told));
    asks = λ told.
        let one = ask-read share.params link last turn.ask (reads (heard.told ∙ told)) in
        asks-more share.params first.left link.left next.left turns turn (heard.asks told) one.is (wrote.left ∙ one.left);
    all = λ told.
        let one = ask-read share.params link last turn.ask (reads (heard.told ∙ told)) in
        ap (λ (l : List ℕ). l ++ next.left) wrote.taken ∙ ap (λ (l : List ℕ). last.taken ++ l) wrote.left ∙ one.all ∙ heard.all told;
    small = small-more share turns turn (longest_reply share.params) heard.small small;
    told = wrote.told ∙ (read.told ∙ heard.told);
    place = wrote.place ∙ (read.place ∙ heard.place);
  }

  -- its reply was written whole
  pub replied-more : (first link last next : Talk) (room left : ℕ) → Replied share first link turns → link.told ≡ first.told → OnlyRead link last → last.count ≡ link.count
      → (IsTrue last.told → next.written ≡ last.written ++ reply_bytes share turn.ask turn.outcome) → next.count ≡ last.count
      → last.room ≡ room → next.room ≡ left → room ≤ left + length (reply_bytes share turn.ask turn.outcome) → Replied share first next (turns ++ turn ∷ [])
  replied-more first link last next room left replied told read still wrote quiet has keeps fits = record {
    written = λ is.
        written-more share turns turn first.written link.written last.written next.written (replied.written is) read.written (wrote (read.told ∙ (told ∙ is)));
    room = room-more share turns turn first.room link.room last.room next.room replied.room read.room (omega (arith, has, keeps, fits));
    quiet = quiet ∙ (still ∙ replied.quiet);
  }
