use Rattle.std.proofs.Common.{drop, take, refl, sym, ap, ◌∙◌}
use Rattle.std.proofs.lemmas.List.{take-append-drop}
use Rattle.stream_memory.proofs.conversation.Conversation.begin.Goals as goal

pub returns-clause-taken : goal.returns-clause-taken
returns-clause-taken c = ap (λ n. take n c.begin.new.self.bytes.items) c.begin.ensures.at

pub returns-clause-left : goal.returns-clause-left
returns-clause-left c =
    let old = c.args.self.now.source in
    ap (λ n. drop n c.begin.new.self.bytes.items) c.begin.ensures.at ∙ ap (λ b. b.items) c.begin.ensures.bytes
    ∙ sym (take-append-drop old.at old.bytes.items)

pub returns-clause-written : goal.returns-clause-written
returns-clause-written c = c.begin-2.ensures.written

pub returns-clause-count : goal.returns-clause-count
returns-clause-count c = c.begin-3.ensures.faults

pub returns-clause-steady : goal.returns-clause-steady
returns-clause-steady c =
    rw (c.begin-3.ensures.failing, c.begin.ensures.failing, c.begin-2.ensures.failing) refl
