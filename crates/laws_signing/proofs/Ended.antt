-- What links gave once they had ended is what they had given when they were hung up.
use Rattle.std.proofs.Common.{◌≡◌, ◌++◌, ℕ, List, [], ◌∷◌, IsTrue, sym, ap, subst, ◌∙◌, arith, append_assoc}
use Rattle.aggregator_session.specs.Tasks.{AllEnded}
use Rattle.aggregator_session.proofs.Telling.{AllTell}
use Rattle.laws_signing.specs.Answering.{AllGave, Answers, Gave}
use Rattle.reference_value.specs.Dealing.{Dealing, random_mask}
use Rattle.session_core.specs.State.{State}
use Rattle.stream_io.specs.Talk.{Ended, Talk}

same-bytes : (talk last : Talk) → IsTrue talk.told → Ended talk last → last.taken ++ last.left ≡ talk.taken ++ talk.left
same-bytes talk last told ended =
    ap (λ (l : List ℕ). l ++ last.left) (ended.taken told) ∙ append_assoc talk.taken ended.unread last.left
    ∙ ap (λ (l : List ℕ). talk.taken ++ l) (sym (ended.left told))

module _ (d : Dealing) (s : State) (message : List ℕ) where
  gave-before : (member : ℕ) (talk last : Talk) → IsTrue talk.told → Ended talk last → Gave d s message member last → Gave d s message member talk
  gave-before member talk last told ended gave = record {
    rest = gave.rest;
    last = gave.last;
    first = subst (λ (l : List ℕ). Answers s member l (random_mask d s.leaf member) gave.rest) (same-bytes talk last told ended) gave.first;
    second = gave.second;
    faultless = (let le = ended.count in let none = gave.faultless in omega (arith, le, none));
  }

  pub all-gave-before : (members : List ℕ) (talks lasts : List Talk) → AllTell talks → AllEnded talks lasts → AllGave d s message members lasts → AllGave d s message members talks
  all-gave-before members [] [] tell ended gave = tt
  all-gave-before members [] (last ∷ lasts) tell ended gave = absurd ended
  all-gave-before members (talk ∷ talks) [] tell ended gave = absurd ended
  all-gave-before [] (talk ∷ talks) (last ∷ lasts) tell ended gave = tt
  all-gave-before (member ∷ members) (talk ∷ talks) (last ∷ lasts) tell ended gave =
      (gave-before member talk last tell.0 ended.0 gave.0, all-gave-before members talks lasts tell.1 ended.1 gave.1)
