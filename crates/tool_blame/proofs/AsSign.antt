-- A run of `blame`, told as one of `sign`.
use Rattle.std.proofs.Common.{◌≡◌, ℕ, List, [], ◌∷◌, Result, Ok, Err, refl, subst}
use Rattle.aggregator_session.specs.Signing.{Signature}
use Rattle.tool_base.specs.Ending as ending
use Rattle.tool_base.specs.Ending.{Ending}
use Rattle.tool_base.specs.Outputs.{IsNew}
use Rattle.tool_base.specs.Touched.{Keeps}
use Rattle.tool_base.specs.World.{IsNetBack, StoreRun}
use Rattle.tool_blame.specs.AsSign.{IsAsSign}
use Rattle.tool_blame.specs.AsSign as as_sign
use Rattle.tool_blame.specs.Blame.{BlameEnds, BlameRun, EndsNaming, FailsToBegin}
use Rattle.tool_blame.specs.Blame as blame
use Rattle.tool_blame.specs.Names as names
use Rattle.tool_blame.proofs.Whole.{tells_ok}
use Rattle.tool_sign.specs.Ended.{last_in}
use Rattle.tool_sign.specs.Ports.{NetRun}
use Rattle.tool_sign.specs.Sessions.{SessionEnds}
use Rattle.tool_sign.specs.Sessions as sessions
use Rattle.tool_sign.specs.Sign.{SignEnds, SigningRun, session_words}
use Rattle.tool_sign.specs.Sign as sign
use Rattle.tool_sign.specs.Signs.{TableEnds}
use Rattle.tool_sign.specs.Tasks.{message_in}
use Rattle.tool_sign.specs.Tasks as tasks
use Rattle.tool_words.specs.Words.{SignWords}

module _ (words : SignWords) (store : StoreRun) (net : NetRun) where
  abbrev Session : Result Signature Ending → List (List ℕ) → Type 0
  Session answer touched = SessionEnds (session_words words) store (message_in store words.message) net answer touched

  run_of : (end : Ending) (touched : List (List ℕ)) → SignEnds words store net end touched → Keeps touched store.before store.after → IsNetBack net.before net.after → SigningRun words store net end
  run_of end touched ends keeps ports = record { touched = touched; ends = ends; keeps = keeps; ports = ports }

  not_begun : (end : Ending) → FailsToBegin (session_words words) store (message_in store words.message) end → IsNew store words.out → net.after ≡ net.before → Keeps [] store.before store.after
      → IsNetBack net.before net.after → IsAsSign words store net end
  not_begun _ (blame.no_key_files end fails) new same keeps ports =
      as_sign.as_sign end (run_of end [] (sign.not_signed end [] new (sessions.no_task end (tasks.no_key_files end fails) same)) keeps ports)
  not_begun _ (blame.no_reference files end read fails) new same keeps ports =
      as_sign.as_sign end (run_of end [] (sign.not_signed end [] new (sessions.no_task end (tasks.no_reference files end read fails) same)) keeps ports)
  not_begun _ (blame.no_commits files header end has fails) new same keeps ports = as_sign.no_commits files header end has fails keeps same
  not_begun _ (blame.no_task files header end has are lacks) new same keeps ports =
      as_sign.as_sign end (run_of end [] (sign.not_signed end [] new (sessions.no_task end (tasks.no_task files header end has lacks) same)) keeps ports)

  not_signed : (told : Result Signature Ending) (touched : List (List ℕ)) → EndsNaming words store net told touched → (end : Ending) → told ≡ Err end → IsNew store words.out
      → Keeps touched store.before store.after → IsNetBack net.before net.after → IsAsSign words store net end
  not_signed _ _ (blame.not_begun why fails same) end is new keeps ports =
      let one : why ≡ end = cc in subst (IsAsSign words store net) one (not_begun why fails new same keeps ports)
  not_signed told touched (blame.ended s reads steady answer _ _ task ends are tells) end is new keeps ports = told_so answer told tells ends is
    where
      told_so : (answer told : Result Signature Ending) → names.TellsEnd reads steady s.message (last_in ends) answer told → TableEnds s words.table store net answer touched → told ≡ Err end → IsAsSign words store net end
      told_so _ _ (names.as_signed signature) table is = absurd (cc)
      told_so _ _ (names.as_ended why other) table is =
          let one : why ≡ end = cc in
          subst (IsAsSign words store net) one (as_sign.as_sign why (run_of why touched (sign.not_signed why touched new (sessions.ended s (Err why) touched task table)) keeps ports))
      told_so _ _ (names.by_names why so last status some named_so) table is =
          as_sign.named why end status (run_of why touched (sign.not_signed why touched new (sessions.ended s (Err why) touched task table)) keeps ports)

  session_ok : (told : Result Signature Ending) (touched : List (List ℕ)) (signature : Signature) → EndsNaming words store net told touched → told ≡ Ok signature → Session (Ok signature) touched
  session_ok _ _ signature (blame.not_begun why fails same) is = absurd (cc)
  session_ok told touched signature (blame.ended s reads steady answer _ _ task ends are tells) is =
      sessions.ended s (Ok signature) touched task
      (subst (λ (one : Result Signature Ending). TableEnds s words.table store net one touched) (tells_ok reads steady s.message (last_in ends) answer told signature tells is) ends)

  ends_as : (end : Ending) (touched : List (List ℕ)) → BlameEnds words store net end touched → Keeps touched store.before store.after → IsNetBack net.before net.after → IsAsSign words store net end
  ends_as _ _ (blame.not_new end fails same) keeps ports = as_sign.as_sign end (run_of end [] (sign.not_new end fails same) keeps ports)
  ends_as _ _ (blame.not_signed end touched new ends) keeps ports = not_signed (Err end) touched ends end refl new keeps ports
  ends_as _ _ (blame.not_written signature end touched new ends cause) keeps ports =
      as_sign.as_sign end (run_of end touched (sign.not_written signature end touched new (session_ok (Ok signature) touched signature ends refl) cause) keeps ports)
  ends_as _ _ (blame.signed signature touched new ends written) keeps ports =
      as_sign.as_sign (ending.Signed signature.leaf) (run_of (ending.Signed signature.leaf) (words.out ∷ touched)
      (sign.signed signature touched new (session_ok (Ok signature) touched signature ends refl) written) keeps ports)

  pub as_sign-is : (end : Ending) → BlameRun words store net end → IsAsSign words store net end
  as_sign-is end run = ends_as end run.touched run.ends run.keeps run.ports
