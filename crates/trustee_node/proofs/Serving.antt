-- Turns that follow other turns.
use Rattle.std.proofs.Common.{◌≡◌, false, ◌+◌, ◌≤◌, ℕ, List, [], ◌++◌, Option, IfSome, refl, sym, ap, ◌∙◌, subst, arith, append_assoc, append-nil, length-append}
use Rattle.std.proofs.lemmas.List.Sums.{sum_by-append}
use Rattle.std.proofs.lemmas.Grind.{flat_map-append}
use mathlib.Core.List.{IsPrefix}
use Rattle.opening_journal.specs.declared.entry.Entry.{Entry}
use Rattle.share_files.specs.declared.share.Share.{Share}
use Rattle.trustee_core.specs.Notes.{entries_in}
use Rattle.trustee_core.specs.declared.kept.TrusteeName.{TrusteeName}
use Rattle.trustee_core.specs.declared.note.Note.{Note}
use Rattle.turn_lock.specs.Lock.{Lock}
use Rattle.turn_lock.specs.Pass.{SamePass, Seen}
use Rattle.trustee_node.specs.Turns.{Draws, Faults, HasSteadyDisk, IsIdle, ServedTurns, Serves, TellsDisk, Turn, added_by, ended, is_code, next, with_code}
use Rattle.trustee_node.proofs.Noting.{noted-none, noted-then}
use Rattle.node_workers.proofs.Onward.{same-then}
use Rattle.node_workers.proofs.Prefixes.{prefix-same, prefix-then}

-- a pass that was idle and is idle again
pub idle-again : (lock : Lock Note TrusteeName) (share : Share) (old new : Seen Note TrusteeName) → IsIdle lock share old → SamePass old new → new.in_turn ≡ false → IsIdle lock share new
idle-again lock share old new is same idle =
    (same.lock ∙ is.0, idle, subst (λ (o : Option TrusteeName). IfSome o (λ name. name.share ≡ share)) (sym same.name) is.2)

-- how many of these turns and those after them have a code
pub with_code-append : (code : ℕ) (turns more : List Turn) → with_code code (turns ++ more) ≡ with_code code turns + with_code code more
with_code-append code turns more = sum_by-append (λ (t : Turn). is_code code t.outcome) turns more

module _ (share : Share) (ids : Option (List (List ℕ))) where
  -- a log that the first one goes on from
  served-from : (log from last : List Entry) (turns : List Turn) → IsPrefix log from → ServedTurns share ids from turns last → ServedTurns share ids log turns last
  served-from log from last turns begins (ended at end p) = ended log end (prefix-then log at end begins p)
  served-from log from last turns begins (next at end turn rest p answers served) = next log end turn rest (prefix-then log at turn.seen begins p) answers served

  pub served-then : (log mid last : List Entry) (turns more : List Turn) → ServedTurns share ids log turns mid → ServedTurns share ids mid more last → ServedTurns share ids log (turns ++ more) last
  served-then log mid last turns more (ended at end p) served = served-from log mid last more p served
  served-then log mid last turns more (next at end turn rest p answers first) served =
      next log last turn (rest ++ more) p answers (served-then (turn.seen ++ turn.added) mid last rest more first served)

draws-none : (pass : Seen Note TrusteeName) → Draws pass pass []
draws-none pass = record { most = omega arith; least = omega arith; greatest = omega arith; fresh = λ _. refl; worn = λ _. refl }

draws-then : (old mid new : Seen Note TrusteeName) (turns more : List Turn) → Draws old mid turns → Draws mid new more → Draws old new (turns ++ more)
draws-then old mid new turns more a b = record {
  most = (let p = a.most in let q = b.most in omega (arith, length-append turns more));
  least = (let p = a.least in let q = b.least in omega (arith, length-append turns more, with_code-append 11 turns more));
  greatest = (let p = a.greatest in let q = b.greatest in omega arith);
  fresh = λ small. (let f = b.greatest in let p = a.fresh (omega arith) in let q = b.fresh small in omega (arith, with_code-append 11 turns more));
  worn = λ large.
      (let f = a.greatest in let p = a.worn large in let q = b.worn (omega arith) in
      omega (arith, length-append turns more, with_code-append 11 turns more));
}

faults-none : (pass : Seen Note TrusteeName) → Faults pass pass []
faults-none pass = record { rises = λ _. omega arith; steady = λ _. refl; first = λ _. refl; told = λ _. refl }

faults-then : (old mid new : Seen Note TrusteeName) (turns more : List Turn) → mid.floor ≤ new.floor → new.name ≡ mid.name
    → Faults old mid turns → Faults mid new more → Faults old new (turns ++ more)
faults-then old mid new turns more floor name a b = record {
  rises = λ small. (let p = a.rises (omega arith) in let q = b.rises small in omega (arith, with_code-append 6 turns more));
  steady = λ is.
      (let p = a.steady (subst HasSteadyDisk name is) in let q = b.steady is in omega (arith, with_code-append 6 turns more));
  first = λ zero. (let p = a.first (omega arith) in let q = b.first zero in omega (arith, with_code-append 7 turns more));
  told = λ is. (let p = a.told (subst TellsDisk name is) in let q = b.told is in omega (arith, with_code-append 7 turns more));
}

module _ (share : Share) (ids : Option (List (List ℕ))) where
  pub serves-none : (pass : Seen Note TrusteeName) → pass.in_turn ≡ false → Serves share ids pass pass []
  serves-none pass idle = record {
    served = ended (entries_in pass.log) (entries_in pass.log) (prefix-same (entries_in pass.log));
    floor = omega arith;
    own = λ _. sym (append-nil (entries_in pass.own));
    notes = noted-none share ids pass;
    draws = draws-none pass;
    faults = faults-none pass;
    same = record { lock = refl; name = refl };
    joined = refl;
    idle = idle;
  }

  pub serves-then : (old mid new : Seen Note TrusteeName) (turns more : List Turn) → Serves share ids old mid turns → Serves share ids mid new more → Serves share ids old new (turns ++ more)
  serves-then old mid new turns more a b = record {
    served = served-then share ids (entries_in old.log) (entries_in mid.log) (entries_in new.log) turns more a.served b.served;
    floor = (let p = a.floor in let q = b.floor in omega arith);
    own = λ zero.
        let q = b.floor in
        let first = a.own (omega arith) in
        b.own zero ∙ ap (λ (o : List Entry). o ++ added_by more) first ∙ append_assoc (entries_in old.own) (added_by turns) (added_by more)
        ∙ ap (λ (e : List Entry). entries_in old.own ++ e) (sym (flat_map-append (λ (t : Turn). t.added) turns more));
    notes = noted-then share ids old mid new turns more a.notes b.notes;
    draws = draws-then old mid new turns more a.draws b.draws;
    faults = faults-then old mid new turns more b.floor b.same.name a.faults b.faults;
    same = same-then old mid new a.same b.same;
    joined = b.joined ∙ a.joined;
    idle = b.idle;
  }
