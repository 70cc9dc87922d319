use Rattle.std.proofs.Common.{[], ◌∷◌, ℕ, List, Err, map, refl, sym, ap, subst, ◌∙◌}
use Rattle.std.proofs.lemmas.List.{append-nil, map_push}
use Rattle.aggregator_session.specs.Hearing.{Asked}
use Rattle.aggregator_session.specs.Runs.{dialled, nowhere, undialled}
use Rattle.aggregator_session.specs.declared.fault.SignFault.TheVariants.{Lost}
use Rattle.aggregator_session.specs.declared.fault.Why.TheVariants.{DialFailed, NoAddress}
use Rattle.aggregator_session.proofs.Adding.{adds-none, adds-one}
use Rattle.aggregator_session.proofs.Standing.{may-ask}
use Rattle.aggregator_session.proofs.Frames.{first-frame, first-length}
use Rattle.aggregator_session.proofs.Tasks.{dials-failed, dials-nowhere}
use Rattle.aggregator_session.proofs.Numbers.{is-most, one-over, room-asked, room-first}
use Rattle.stream_io.specs.Net.{Dials}
use Rattle.aggregator_session.proofs.session.dial_member.Goals as goal

pub returns-in_default-clause-called : goal.returns-in_default-clause-called
returns-in_default-clause-called g c = record {
  answer = Err (Lost c.args.member 1 NoAddress);
  talks = [];
  calls = nowhere c.in_default.ensures.none;
  links = sym (append-nil _);
  state = refl;
  same = record { key = refl; plan = refl; leaf = refl; message = refl; c = refl };
  told = refl;
}

pub returns-in_default-dial-clause-called : goal.returns-in_default-dial-clause-called
returns-in_default-dial-clause-called g c =
    let d = c.in_default-dial.ensures in
    record {
      answer = Err (Lost c.args.member 1 DialFailed);
      talks = [];
      calls = undialled c.in-Some.place.now (g.P.Port.state c.dial.new.self) c.in-Some.ensures.some d.onward d.cause.failed d.refused d.nobody;
      links = sym (append-nil _);
      state = refl;
      same = record { key = refl; plan = refl; leaf = refl; message = refl; c = refl };
      told = refl;
    }

pub returns-clause-called : goal.returns-clause-called
returns-clause-called g c =
    let talk = g.P.Link.Stream.talk in
    let h = c.ask_member-answer.ensures.asked in
    let start = talk c.in-Ok.link in
    let last = talk c.ask_member-answer.new.link in
    let frame = first-frame c.args.session.now _ c.args.task.now.message.now c.first_ask-ask.result c.requires.task.round c.first_ask-ask.ensures.ask in
    record {
      answer = h.answer;
      talks = last ∷ [];
      calls = dialled c.in-Some.place.now start last (g.P.Link.Faults.steady c.in-Ok.link) (g.P.Port.state c.dial.new.self) h.answer c.in-Some.ensures.some c.in-Ok.ensures.onward c.in-Ok.ensures.cause.succeeded
          (subst (λ (room : ℕ). Dials (g.P.Port.state c.args.port.now) c.in-Some.place.now start (g.P.Link.Faults.steady c.in-Ok.link) room (g.P.Port.state c.dial.new.self)) (sym c.ask_member-answer.ensures.takes) c.in-Ok.ensures.link)
          (subst (λ (f : List _). Asked c.args.session.now c.args.member f start last h.answer) frame h.asked);
      links = ap (λ (l : List _). map talk l) c.push_reserved.ensures.items ∙ map_push talk _ _;
      state = h.state;
      same = c.ask_member-answer.ensures.same;
      told = h.told;
    }

pub returns-in_default-clause-links : goal.returns-in_default-clause-links
returns-in_default-clause-links g c = adds-none g.P.Link.Faults.steady g.P.Link.Sink.room (g.P.Port.state c.args.port.now) c.args.links.now.items

pub returns-in_default-dial-clause-links : goal.returns-in_default-dial-clause-links
returns-in_default-dial-clause-links g c = adds-none g.P.Link.Faults.steady g.P.Link.Sink.room (g.P.Port.state c.args.port.now) c.args.links.now.items

pub returns-clause-links : goal.returns-clause-links
returns-clause-links g c =
    let size = first-length c.args.task.now.desk.now.key.now.params c.args.session.now _ c.args.task.now.message.now c.first_ask-ask.result c.requires.task.round c.first_ask-ask.ensures.ask in
    let had = c.in-Ok.ensures.link.link.room in
    let has = c.ask_member-answer.ensures.room in
    adds-one g.P.Link.Faults.steady g.P.Link.Sink.room (g.P.Port.state c.args.port.now) c.args.links.now.items _ c.ask_member-answer.new.link c.push_reserved.ensures.items
    (λ steady. c.ask_member-answer.ensures.steady ∙ c.in-Ok.ensures.link.link.steady steady) (room-asked _ _ _ _ size had has)

pub returns-clause-dials : goal.returns-clause-dials
returns-clause-dials g c =
    let size = first-length c.args.task.now.desk.now.key.now.params c.args.session.now _ c.args.task.now.message.now c.first_ask-ask.result c.requires.task.round c.first_ask-ask.ensures.ask in
    let d = c.in-Ok.ensures in
    let had = d.link.link.room in
    let same = d.cause.succeeded in
    let links = c.ask_member-answer.ensures.links in
    record {
      dialled = λ lost. absurd (links.dialled lost);
      once = record { once = one-over _ _ (is-most _ _ same); same = λ _. is-most _ _ same };
      reads = λ steady lost. links.reads (d.link.link.steady steady) lost;
      writes = λ steady fits lost. links.writes (d.link.link.steady steady) (room-first _ _ _ size had fits) lost;
      only = record { onward = d.onward; talks = d.link.talks; accepting = d.accepting };
    }

pub ask_member-answer-requires : goal.ask_member-answer-requires
ask_member-answer-requires g c = record { ask = may-ask _ _ _ _ _ _ _ c.requires.task.stands c.first_ask-ask.ensures.ask }

pub returns-in_default-clause-dials : goal.returns-in_default-clause-dials
returns-in_default-clause-dials g c = dials-nowhere _ _ _

pub returns-in_default-dial-clause-dials : goal.returns-in_default-dial-clause-dials
returns-in_default-dial-clause-dials g c =
    let d = c.in_default-dial.ensures in
    dials-failed _ _ _ _ d.cause.failed d.once
    (record { onward = d.onward; talks = d.refused.talks; accepting = d.accepting })

pub returns-in_default-clause-cells : goal.returns-in_default-clause-cells
returns-in_default-clause-cells g c = c.first_ask-ask.ensures.cells

pub returns-in_default-dial-clause-cells : goal.returns-in_default-dial-clause-cells
returns-in_default-dial-clause-cells g c = c.first_ask-ask.ensures.cells

pub returns-clause-cells : goal.returns-clause-cells
returns-clause-cells g c = c.first_ask-ask.ensures.cells

pub first_ask-ask-requires-clause-round : goal.first_ask-ask-requires-clause-round
first_ask-ask-requires-clause-round g c = c.requires.task.round

pub first_ask-ask-requires-clause-member : goal.first_ask-ask-requires-clause-member
first_ask-ask-requires-clause-member g c = c.requires.member

pub first_ask-ask-requires-clause-cells : goal.first_ask-ask-requires-clause-cells
first_ask-ask-requires-clause-cells g c = (c.requires.task.stands.set, c.requires.task.stands.plan)

pub returns-in_default-clause-room : goal.returns-in_default-clause-room
returns-in_default-clause-room g c = (refl, tt)

pub returns-in_default-dial-clause-room : goal.returns-in_default-dial-clause-room
returns-in_default-dial-clause-room g c = (refl, tt)
