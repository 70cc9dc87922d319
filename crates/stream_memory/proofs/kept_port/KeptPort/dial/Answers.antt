use Rattle.std.proofs.Common.{◌≡◌, ◌&&◌, Some, true, refl, sym, ap, ◌∙◌, arith}
use Rattle.std.specs.List.{list_all}
use Rattle.stream_memory.specs.Calls.{is_empty}
use Rattle.stream_memory.specs.Ports.{is_steady_entry, is_steady_waiting, port_state}
use Rattle.stream_io.specs.Net.{SameLinks}
use Rattle.stream_memory.proofs.Removed.{given, no_less, room-taken_behind, rooms-left_behind, steady-dialled}
use Rattle.stream_memory.proofs.Outcomes.{fails_for_cause, fails_once, if_refused, never_fails, not_calm, not_once, on_err, refusal}
use Rattle.stream_memory.proofs.kept_port.KeptPort.dial.Goals as goal

pub returns-clause-link : goal.returns-clause-link
returns-clause-link c =
    let port = c.args.self.now in
    let left = c.take_at.new.dialled.items in
    let taken = c.in-Some.ensures in
    let begun = c.begin.ensures in
    let is_steady : is_steady_waiting c.in-Some.link ≡ c.is_steady.result = sym (c.is_steady.ensures ∙ begun.steady) in
    let first : list_all is_steady_entry port.dialled.items ≡ (c.is_steady.result && list_all is_steady_entry left) =
    taken.steady ∙ ap (λ b. b && list_all is_steady_entry left) is_steady in
    let steady = steady-dialled _ (is_empty port.calls.failing.items) port.gave_steady c.is_steady.result (list_all is_steady_waiting port.waiting.items) _ _
    (ap (λ f. is_empty f.items) c.in_ok-make.ensures.failing) first in
    record {
      there = λ _. taken.there;
      link = record {
        told = λ t. t;
        steady = λ t. let old : (port_state port).steady ≡ true = t in sym c.is_steady.ensures ∙ given _ port.gave_steady c.is_steady.result _ (steady ∙ old);
        place = λ _. begun.place ∙ ap Some taken.name;
        taken = λ _. begun.taken;
        written = λ _. begun.written;
        count = begun.count;
        room = room-taken_behind _ _ _ _ _ taken.room begun.room;
      };
      waiting = refl;
      reaches = λ _ other away. taken.others other away;
      talks = refl;
    }

pub returns-clause-onward : goal.returns-clause-onward
returns-clause-onward c =
    let port = c.args.self.now in
    let left = c.take_at.new.dialled.items in
    let taken = c.in-Some.ensures in
    let is_steady : is_steady_waiting c.in-Some.link ≡ c.is_steady.result = sym (c.is_steady.ensures ∙ c.begin.ensures.steady) in
    let first : list_all is_steady_entry port.dialled.items ≡ (c.is_steady.result && list_all is_steady_entry left) =
    taken.steady ∙ ap (λ b. b && list_all is_steady_entry left) is_steady in
    record {
      told = refl;
      steady = steady-dialled _ (is_empty port.calls.failing.items) port.gave_steady c.is_steady.result (list_all is_steady_waiting port.waiting.items) _ _
          (ap (λ f. is_empty f.items) c.in_ok-make.ensures.failing) first;
      place = refl;
      count = c.in_ok-make.ensures.later;
      accept_count = no_less _;
      room = rooms-left_behind _ _ _ _ taken.room;
    }

pub returns-in_default-clause-refused : goal.returns-in_default-clause-refused
returns-in_default-clause-refused c =
    rw c.in_default.ensures.same (record { waiting = refl; reaches = refl; talks = refl })

pub returns-in_default-clause-nobody : goal.returns-in_default-clause-nobody
returns-in_default-clause-nobody c = λ steady. c.in_default.ensures.none

pub returns-in_default-clause-onward : goal.returns-in_default-clause-onward
returns-in_default-clause-onward c =
    let made = c.in_ok-make.ensures.later in
    let failed = c.fail.ensures.later in
    rw (c.in_default.ensures.same, c.fail.ensures.failing, c.in_ok-make.ensures.failing) (record {
      told = refl;
      steady = refl;
      place = refl;
      count = omega (arith, made, failed);
      accept_count = no_less _;
      room = no_less _;
    })

pub returns-in_default-clause-cause : goal.returns-in_default-clause-cause
returns-in_default-clause-cause c = fails_for_cause _ _ _ _ _ refl c.in_ok-make.ensures.ok c.fail.ensures.later c.fail.ensures.fault

pub returns-in_default-clause-once : goal.returns-in_default-clause-once
returns-in_default-clause-once c = fails_once _ _ _ c.in_ok-make.ensures.ok c.fail.ensures.fault

pub returns-clause-refused : goal.returns-clause-refused
returns-clause-refused c = tt

pub returns-clause-nobody : goal.returns-clause-nobody
returns-clause-nobody c = λ steady. tt

pub returns-clause-cause : goal.returns-clause-cause
returns-clause-cause c = never_fails _ _ _ c.in_ok-make.ensures.ok

pub returns-clause-once : goal.returns-clause-once
returns-clause-once c = not_once _ _ c.in_ok-make.ensures.ok

-- if the call fails
pub returns-in_err-make : goal.returns-in_err-make
returns-in_err-make c =
    let is = refusal c.from_residual.result _ c.from_residual.ensures.1 in
    let made = c.in_err-make.ensures in
    let port = c.args.self.now in
    record {
      link = if_refused _ _ _ is;
      refused = on_err (SameLinks (port_state port) (port_state (record port { calls = c.make.new.self }))) _
          (record { waiting = refl; reaches = refl; talks = refl });
      nobody = λ steady. absurd (not_calm _ _ _ made.steady steady);
      cause = fails_for_cause _ _ _ _ _ is refl made.later made.fault;
      once = fails_once _ _ _ refl made.fault;
      accepting = refl;
      onward = record {
        told = refl;
        steady = rw made.failing refl;
        place = refl;
        count = made.later;
        accept_count = no_less _;
        room = no_less _;
      };
    }
