use Rattle.std.proofs.Common.{◌≡◌, ◌+◌, ◌≤◌, ℕ, Option, None, Some, Err, refl, sym, subst, ◌∙◌}
use Rattle.std.specs.Prelude.{⊤, MatchOption}
use Rattle.std.proofs.lemmas.Bool.{false≢true}
use Rattle.aggregator_session.specs.Hearing.{awaited, unwritten}
use Rattle.aggregator_session.specs.declared.fault.SignFault.TheVariants.{Lost}
use Rattle.aggregator_session.specs.declared.fault.Why.TheVariants.{DialFailed, ReadFailed, WriteFailed}
use Rattle.lms_bytes.specs.declared.ask.Second.{Second}
use Rattle.session_core.specs.State.{round_of}
use Rattle.aggregator_session.proofs.Hearing.{lost-reference}
use Rattle.aggregator_session.proofs.Numbers.{room-after}
use Rattle.aggregator_session.proofs.Tasks.{same-none}
use Rattle.aggregator_session.proofs.asks.ask_member.Goals as goal

not-dialled : WriteFailed ≡ DialFailed → ⊥
not-dialled is = absurd (cc)

not-read : WriteFailed ≡ ReadFailed → ⊥
not-read is = absurd (cc)

-- a message that is short is so in round two
short-in : (second : Option Second) (size : ℕ) → size ≤ 16777216 → MatchOption second ⊤ (λ _. size ≤ 16777216)
short-in None size short = tt
short-in (Some second) size short = short

pub returns-in-Err-clause-asked : goal.returns-in-Err-clause-asked
returns-in-Err-clause-asked g c =
    let w = c.in-Err.ensures in
    record {
      answer = Err (Lost c.args.member (round_of c.args.session.now) WriteFailed);
      asked = unwritten w.only w.wrote w.cause.failed;
      state = refl;
      told = rw c.round.ensures.round refl;
    }

pub returns-clause-asked : goal.returns-clause-asked
returns-clause-asked g c =
    let w = c.in_default.ensures in
    let h = c.hear.ensures.heard in
    record {
      answer = h.answer;
      asked = awaited (g.L.Stream.talk c.write_ask.new.sink) h.answer w.only w.cause.succeeded w.wrote h.heard;
      state = h.state;
      told = h.told;
    }

-- what was taken of the room is the ask's frame, and reading takes none
pub returns-clause-room : goal.returns-clause-room
returns-clause-room g c =
    let w = c.in_default.ensures in
    room-after _ _ _ _ _ _ _ w.room w.length c.hear.ensures.heard.heard.only.room (g.met.L.Sink.rooms c.write_ask.new.sink) (g.met.L.Sink.rooms c.hear.new.link)

pub returns-in-Err-clause-takes : goal.returns-in-Err-clause-takes
returns-in-Err-clause-takes g c = g.met.L.Sink.rooms c.args.link.now

pub returns-clause-takes : goal.returns-clause-takes
returns-clause-takes g c = g.met.L.Sink.rooms c.args.link.now

pub returns-in-Err-clause-links : goal.returns-in-Err-clause-links
returns-in-Err-clause-links g c =
    let w = c.in-Err.ensures in
    record {
      dialled = not-dialled;
      reads = λ steady. not-read;
      writes = λ steady fits lost. false≢true (w.succeeds steady (subst (λ (n : ℕ). n ≤ g.L.Sink.room c.args.link.now) (sym w.length) fits));
    }

pub returns-clause-links : goal.returns-clause-links
returns-clause-links g c =
    let w = c.in_default.ensures in
    let h = c.hear.ensures.links in
    record {
      dialled = h.dialled;
      reads = λ steady. h.reads (w.steady ∙ steady);
      writes = λ steady fits. h.writes (w.steady ∙ steady) tt;
    }

pub returns-in-Err-clause-room : goal.returns-in-Err-clause-room
returns-in-Err-clause-room g c =
    let w = c.in-Err.ensures in
    subst (λ (n : ℕ). g.L.Sink.room c.args.link.now ≤ g.L.Sink.room c.write_ask.new.sink + n) w.length w.room

pub returns-in-Err-clause-reference : goal.returns-in-Err-clause-reference
returns-in-Err-clause-reference g c = lost-reference _ _ _

pub returns-clause-reference : goal.returns-clause-reference
returns-clause-reference g c = c.hear.ensures.reference

pub returns-in-Err-clause-same : goal.returns-in-Err-clause-same
returns-in-Err-clause-same g c = same-none _ _ refl

pub returns-clause-same : goal.returns-clause-same
returns-clause-same g c = c.hear.ensures.same

pub returns-in-Err-clause-steady : goal.returns-in-Err-clause-steady
returns-in-Err-clause-steady g c = c.in-Err.ensures.steady

pub returns-clause-steady : goal.returns-clause-steady
returns-clause-steady g c = c.hear.ensures.steady ∙ c.in_default.ensures.steady

pub write_ask-requires-clause-id : goal.write_ask-requires-clause-id
write_ask-requires-clause-id g c = c.requires.ask.id

pub write_ask-requires-clause-c : goal.write_ask-requires-clause-c
write_ask-requires-clause-c g c = c.requires.ask.c

pub write_ask-requires-clause-limit : goal.write_ask-requires-clause-limit
write_ask-requires-clause-limit g c = short-in c.args.ask.now.second _ c.requires.ask.limit

pub hear-requires-clause-params : goal.hear-requires-clause-params
hear-requires-clause-params g c = c.requires.ask.set

pub hear-requires-clause-room : goal.hear-requires-clause-room
hear-requires-clause-room g c = c.requires.ask.room
