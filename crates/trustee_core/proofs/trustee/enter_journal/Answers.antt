use Rattle.std.proofs.Common.{◌≡◌, ◌<◌, ◌^◌, ◌∙◌, Option, IfSome, length, sym, ap, subst}
use Rattle.lms_bytes.specs.declared.ask.Second.{Second}
use Rattle.lms_bytes.specs.declared.params.Params.{Params}
use Rattle.opening_journal.specs.Journal.{state_of}
use Rattle.opening_journal.specs.Opening.{Opens}
use Rattle.trustee_core.specs.Decisions.{HasTag, first, second}
use Rattle.trustee_core.proofs.Extending.{binds-adds, no-pair, opens-adds, same-pair}
use Rattle.trustee_core.proofs.trustee.enter_journal.Goals as goal

pub returns-in-None-clause-event : goal.returns-in-None-clause-event
returns-in-None-clause-event g c = first _ _ c.requires.ask.own c.in-None.is c.bind.ensures.event

pub returns-in-Some-clause-event : goal.returns-in-Some-clause-event
returns-in-Some-clause-event g c =
    let share = c.args.share.now in
    let tag = subst (λ (o : Option Second). IfSome o (HasTag share c.args.ask.now)) c.in-Some.is c.requires.ask.tag in
    second _ _ c.in-Some.second c.requires.ask.own c.in-Some.is tag c.open_leaf.ensures.event

pub returns-in-None-clause-added : goal.returns-in-None-clause-added
returns-in-None-clause-added g c = binds-adds _ _ _ c.bind.result _ c.bind.ensures.event

pub returns-in-Some-clause-added : goal.returns-in-Some-clause-added
returns-in-Some-clause-added g c = opens-adds _ _ _ _ _ _ c.open_leaf.result _ c.open_leaf.ensures.event

pub returns-in-None-clause-opens : goal.returns-in-None-clause-opens
returns-in-None-clause-opens g c = λ pair some. absurd (no-pair c.in-None.is some)

pub returns-in-Some-clause-binds : goal.returns-in-Some-clause-binds
returns-in-Some-clause-binds g c = λ none. absurd (no-pair none c.in-Some.is)

pub returns-in-Some-clause-opens : goal.returns-in-Some-clause-opens
returns-in-Some-clause-opens g c = λ pair some.
    let same = same-pair c.in-Some.is some in
    subst (λ (p : Second). Opens (state_of c.args.journal.now) c.args.ask.now.leaf c.args.ask.now.message p.c p.digest c.args.moment c.open_leaf.result (state_of c.open_leaf.new.self)) same c.open_leaf.ensures.event

pub bind-requires : goal.bind-requires
bind-requires g c =
    subst (λ (q : Params). c.args.ask.now.leaf < 2 ^ q.h) (sym c.requires.params) c.requires.ask.own.leaf

pub open_leaf-requires-clause-leaf : goal.open_leaf-requires-clause-leaf
open_leaf-requires-clause-leaf g c =
    subst (λ (q : Params). c.args.ask.now.leaf < 2 ^ q.h) (sym c.requires.params) c.requires.ask.own.leaf

pub open_leaf-requires-clause-c : goal.open_leaf-requires-clause-c
open_leaf-requires-clause-c g c =
    let sized = subst (λ (o : Option Second). IfSome o (λ pair. length pair.c ≡ c.args.share.now.params.n))
    c.in-Some.is c.requires.ask.c in
    sized ∙ ap (λ (q : Params). q.n) (sym c.requires.params)

pub open_leaf-requires-clause-digest : goal.open_leaf-requires-clause-digest
open_leaf-requires-clause-digest g c =
    let sized = subst (λ (o : Option Second). IfSome o (λ pair. length pair.digest ≡ c.args.share.now.params.n))
    c.in-Some.is c.requires.ask.digest in
    sized ∙ ap (λ (q : Params). q.n) (sym c.requires.params)

pub returns-in-None-clause-idle : goal.returns-in-None-clause-idle
returns-in-None-clause-idle g c = c.bind.ensures.idle

pub returns-in-Some-clause-idle : goal.returns-in-Some-clause-idle
returns-in-Some-clause-idle g c = c.open_leaf.ensures.idle
