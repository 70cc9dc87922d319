use Rattle.std.proofs.Common.{if◌then◌else◌, not, is_some, option_map, string_bytes, ◌≡◌, ◌+◌, ◌&&◌, ◌==◌, ℕ, Bool, Option, Some, None, length, true, false, refl, sym, ap, ◌∙◌}
use Rattle.std.specs.List.{list_all}
use Rattle.stream_memory.specs.Calls.{is_empty}
use Rattle.stream_memory.specs.Ports.{is_steady_entry, is_steady_waiting, port_state}
use Rattle.std.specs.declared.alloc.Global.{Global}
use Rattle.std.specs.declared.string.String.{String}
use Rattle.stream_memory.proofs.Links.{first_true}
use Rattle.stream_memory.proofs.Outcomes.{end_failed, has_failed, has_not, link_end, link_failed, same_link}
use Rattle.stream_memory.proofs.Removed.{given, no_less, room-taken, rooms-left, steady-accepted}
use Rattle.stream_memory.proofs.kept_port.KeptPort.accept.Goals as goal

-- if a port listens and a link waits, one is to come
some_wait : (place : Option (String Global)) (many : ℕ) (empty : Bool) → is_some place ≡ true → empty ≡ (many == 0) → empty ≡ false
    → (if is_some place then many else 0) ≡ 0 → ⊥
some_wait (Some place) many empty there is some none = let never : (0 == 0) ≡ false = ap (λ n. n == 0) (sym none) ∙ sym is ∙ some in cc
some_wait None many empty there is some none = let never : false ≡ true = there in cc

not_deaf : (place : Option (String Global)) → is_some place ≡ true → option_map string_bytes place ≡ None → ⊥
not_deaf (Some place) there none = let no : Some (string_bytes place) ≡ None = none in cc
not_deaf None there none = let no : false ≡ true = there in cc

pub returns-clause-link : goal.returns-clause-link
returns-clause-link c link is =
    let port = c.args.self.now in
    let left = c.take_first-link.new.waiting.items in
    let taken = c.take_first-link.ensures in
    let begun = c.begin.ensures in
    let same = same_link c.begin.new.self link is in
    let is_steady : is_steady_waiting c.take_first-link.result ≡ c.is_steady.result = sym (c.is_steady.ensures ∙ begun.steady) in
    let first : list_all is_steady_waiting port.waiting.items ≡ (c.is_steady.result && list_all is_steady_waiting left) =
    taken.steady ∙ ap (λ b. b && list_all is_steady_waiting left) is_steady in
    let steady = steady-accepted _ (is_empty port.calls.failing.items) port.gave_steady c.is_steady.result _ _ (list_all is_steady_entry port.dialled.items) (ap (λ f. is_empty f.items) c.make.ensures.failing) first in
    let there = c.is_none.ensures ∙ ap not c.if-is_none.false in
    rw (← same) (record {
      listens = not_deaf port.place there;
      link = record {
        told = λ t. t;
        steady = λ t. let old : (port_state port).steady ≡ true = t in sym c.is_steady.ensures ∙ given _ port.gave_steady c.is_steady.result _ (steady ∙ old);
        place = λ _. begun.place;
        taken = λ _. begun.taken;
        written = λ _. begun.written;
        count = begun.count;
        room = room-taken _ _ _ _ _ taken.room begun.room;
      };
      waiting = λ _. ap (λ b. if b then length port.waiting.items else 0) there ∙ taken.many ∙ ap (λ b. (if b then length left else 0) + 1) (sym there);
      reaches = refl;
      talks = refl;
    })

pub returns-clause-refused : goal.returns-clause-refused
returns-clause-refused c never = absurd (never c.begin.new.self refl)

pub returns-clause-onward : goal.returns-clause-onward
returns-clause-onward c =
    let port = c.args.self.now in
    let left = c.take_first-link.new.waiting.items in
    let is_steady : is_steady_waiting c.take_first-link.result ≡ c.is_steady.result = sym (c.is_steady.ensures ∙ c.begin.ensures.steady) in
    let first : list_all is_steady_waiting port.waiting.items ≡ (c.is_steady.result && list_all is_steady_waiting left) =
    c.take_first-link.ensures.steady ∙ ap (λ b. b && list_all is_steady_waiting left) is_steady in
    record {
      told = refl;
      steady = steady-accepted _ (is_empty port.calls.failing.items) port.gave_steady c.is_steady.result _ _ (list_all is_steady_entry port.dialled.items) (ap (λ f. is_empty f.items) c.make.ensures.failing) first;
      place = refl;
      count = c.make.ensures.later;
      accept_count = no_less _;
      room = rooms-left _ _ _ _ c.take_first-link.ensures.room;
    }

pub returns-clause-end : goal.returns-clause-end
returns-clause-end c =
    let there = c.is_none.ensures ∙ ap not c.if-is_none.false in
    ((λ is. absurd (link_end _ _ refl is)), (λ none. absurd (some_wait c.args.self.now.place (length c.args.self.now.waiting.items) c.is_empty.result there (c.is_empty.ensures ∙ ap (λ n. n == 0) c.args.self.now.waiting.ok.0) c.if-is_empty.false none)))

pub returns-clause-deaf : goal.returns-clause-deaf
returns-clause-deaf c none =
    let there = c.is_none.ensures ∙ ap not c.if-is_none.false in
    absurd (not_deaf c.args.self.now.place there none)

pub returns-clause-cause : goal.returns-clause-cause
returns-clause-cause c = has_not _ _ _ (link_failed _ _ refl) c.in_default.ensures.ok

pub returns-clause-accept_cause : goal.returns-clause-accept_cause
returns-clause-accept_cause c = has_not _ _ _ (link_failed _ _ refl) refl

pub returns-clause-succeeds : goal.returns-clause-succeeds
returns-clause-succeeds c steady = link_failed _ _ refl

-- if the call fails
pub returns-in-Err-clause-end : goal.returns-in-Err-clause-end
returns-in-Err-clause-end c =
    let there = c.is_none.ensures ∙ ap not c.if-is_none.false in
    ((λ is. absurd (end_failed _ is refl)), (λ none. absurd (some_wait c.args.self.now.place (length c.args.self.now.waiting.items) c.is_empty.result there (c.is_empty.ensures ∙ ap (λ n. n == 0) c.args.self.now.waiting.ok.0) c.if-is_empty.false none)))

pub returns-in-Err-clause-deaf : goal.returns-in-Err-clause-deaf
returns-in-Err-clause-deaf c none =
    let there = c.is_none.ensures ∙ ap not c.if-is_none.false in
    absurd (not_deaf c.args.self.now.place there none)

pub returns-in-Err-clause-cause : goal.returns-in-Err-clause-cause
returns-in-Err-clause-cause c = has_failed _ _ _ _ refl refl c.make.ensures.later c.in-Err.ensures.fault

pub returns-in-Err-clause-succeeds : goal.returns-in-Err-clause-succeeds
returns-in-Err-clause-succeeds c steady is =
    let no : false ≡ true = c.in-Err.ensures.steady (first_true _ _ (first_true _ _ steady)) in
    cc
