use Rattle.std.proofs.Common.{◌≡◌, Err, refl, ap, arith}
use Rattle.opening_journal.specs.Journal.{disk_of}
use Rattle.disk_trait.proofs.SameDisk.{same-none}
use Rattle.opening_journal.specs.declared.faults.JournalFault.TheVariants as journal
use Rattle.trustee_core.specs.Decisions.{tested}
use Rattle.trustee_core.specs.declared.refusal.Refusal.TheVariants.{Journal}
use Rattle.trustee_core.proofs.Refusals.{entered-never, fault-late, fault-of, granted-never, rises-granted}
use Rattle.trustee_core.proofs.Refusals.{rises-refusal, tests-journal}
use Rattle.trustee_core.proofs.trustee.Trustee.decide.Goals as goal

pub returns-in-Err-clause-event : goal.returns-in-Err-clause-event
returns-in-Err-clause-event g c = tested c.in-Err.why c.in-Err.ensures.refused

pub returns-in-Err-clause-decided : goal.returns-in-Err-clause-decided
returns-in-Err-clause-decided g c =
    let why = c.in-Err.why in
    let fails = c.in-Err.ensures.refused in
    record {
      told = λ told leaf a b is. tests-journal _ _ why fails (journal.Damaged leaf a b) (cc);
      succeeds = λ steady told is. tests-journal _ _ why fails journal.Device (cc);
      cause = record { later = omega arith; failed = λ is. absurd (tests-journal _ _ why fails journal.Device (cc)); others = λ differs. refl };
      share = refl;
      stays = record { params = refl; header = refl; disk = same-none g.D.Pages g.D.Faults (disk_of c.args.self.now.journal) };
    }

pub returns-in-Err-enter-clause-decided : goal.returns-in-Err-enter-clause-decided
returns-in-Err-enter-clause-decided g c =
    let fault = c.in-Err-enter.fault in
    let enters = c.in-Err-enter.ensures.enters in
    record {
      told = λ told leaf a b same. enters.told told leaf a b (ap Err (fault-of same));
      succeeds = λ steady told same. enters.succeeds steady told (ap Err (fault-of same));
      cause = rises-refusal _ _ fault enters.cause;
      share = c.enter.ensures.share;
      stays = enters.stays;
    }

pub enter-requires : goal.enter-requires
enter-requires g c = record {
  ask = record {
    own = c.in_default.ensures.own;
    tag = c.in_default.ensures.tag;
    c = c.requires.c;
    digest = c.requires.digest;
  };
}

pub returns-in-Err-clause-tested : goal.returns-in-Err-clause-tested
returns-in-Err-clause-tested g c = λ early. refl

pub returns-in-Err-clause-idle : goal.returns-in-Err-clause-idle
returns-in-Err-clause-idle g c = λ none device same. refl

pub returns-in-Err-enter-clause-tested : goal.returns-in-Err-enter-clause-tested
returns-in-Err-enter-clause-tested g c = λ early. absurd (fault-late c.in-Err-enter.fault early)

pub returns-in-Err-enter-clause-idle : goal.returns-in-Err-enter-clause-idle
returns-in-Err-enter-clause-idle g c = λ none other same.
    c.enter.ensures.idle none (λ new. c.enter.ensures.added new same) (λ fails.
    let device : c.in-Err-enter.fault ≡ journal.Device = cc in
    other (ap (λ (it : _). Err (Journal it)) device))

pub returns-in-Ok-clause-idle : goal.returns-in-Ok-clause-idle
returns-in-Ok-clause-idle g c = λ none other same.
    c.enter.ensures.idle none (λ new. c.enter.ensures.added new same) (λ fails. entered-never c.in-Ok.is fails)

pub returns-in-Ok-clause-decided : goal.returns-in-Ok-clause-decided
returns-in-Ok-clause-decided g c = record {
  told = λ tells leaf a b is. granted-never is;
  succeeds = λ steady tells is. granted-never is;
  cause = rises-granted _ c.in-Ok.is c.enter.ensures.enters.cause;
  share = c.enter.ensures.share;
  stays = c.enter.ensures.enters.stays;
}
