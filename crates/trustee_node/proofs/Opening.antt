-- Grants that stand in one legal log.
use Rattle.std.proofs.Common.{◌≡◌, ◌<◌, ◌^◌, ℕ, List, [], ◌∷◌, ◌++◌, Option, All, length, get_or, take, inl, inr, refl, sym, ap, ◌∙◌, subst, arith, append_assoc, append-nil, length-append, take_at}
use Rattle.std.proofs.Math.Seq.{get_or-append_seam}
use Rattle.std.proofs.lemmas.List.Elements.{All-append, All-cons, All-head, All-nil, All-tail, All-weaker}
use mathlib.Core.List.{IsPrefix}
use Rattle.trustee_core.specs.Approvals.{BookAnswer, BookDecides, Decided, Denied, decided, denied}
use Rattle.lms_bytes.specs.declared.ask.Ask.{Ask}
use Rattle.opening_journal.specs.Entries.{Adds, IsLegalList, JournalState, leaf_of, map_of}
use Rattle.opening_journal.specs.Opening.{settled_with}
use Rattle.opening_journal.specs.declared.entry.Entry.{Entry}
use Rattle.share_files.specs.declared.share.Share.{Share}
use Rattle.trustee_core.specs.Decisions.{Granted, Refused}
use Rattle.trustee_core.specs.Growth.{IsBelow}
use Rattle.trustee_core.specs.Lives.{OneOpening}
use Rattle.trustee_core.proofs.Adding.{IsSound, below-same, below-then, no-doubt, push-below}
use Rattle.trustee_core.proofs.Living.{opening-of}
use Rattle.trustee_core.proofs.Stepping.{Fits, Steps, fits-later, granted-fits, steps-loaded, steps-none, steps-then}
use Rattle.trustee_node.specs.Places.{IsLegal, Runs, StandUnder, run, stopped, granted_by, granted_in, if_granted}
use Rattle.trustee_node.specs.Turns.{Answers, InTurn, NoTurn, Outcome, ServedTurns, Turn, device, ended, next, step, torn, worn}
use Rattle.node_workers.proofs.Prefixes.{prefix-then}
use Rattle.trustee_node.proofs.Standing.{served-begins}

abbrev Follows : List Entry → Entry → Type 0
Follows before entry = Adds entry (map_of before (leaf_of entry))

-- an entry of a legal list may follow those before it
legal-at : (xs rest last : List Entry) (entry : Entry) → xs ++ entry ∷ rest ≡ last → IsLegalList last → Follows xs entry
legal-at xs rest last entry is legal =
    let size = length-append xs (entry ∷ rest) in
    let below : length xs < length last = (let e = ap length is in omega (arith, size, e)) in
    let here : get_or last (length xs) entry ≡ entry = ap (λ (l : List Entry). get_or l (length xs) entry) (sym is) ∙ get_or-append_seam xs entry rest entry in
    let front : take (length xs) last ≡ xs = ap (take (length xs)) (sym is) ∙ take_at xs (entry ∷ rest) (length xs) refl in
    subst (λ (b : List Entry). Follows b entry) front (subst (λ (e : Entry). Follows (take (length xs) last) e) here (legal (length xs) entry below))

-- entries that follow legally let each leaf grow
legal-below : (xs rest last : List Entry) (leaf : ℕ) → xs ++ rest ≡ last → IsLegalList last → IsBelow (map_of xs leaf) (map_of last leaf)
legal-below xs [] last leaf is legal = below-same _ _ (ap (λ (e : List Entry). map_of e leaf) (sym (append-nil xs) ∙ is))
legal-below xs (entry ∷ rest) last leaf is legal =
    let on : (xs ++ entry ∷ []) ++ rest ≡ last = append_assoc xs (entry ∷ []) rest ∙ is in
    below-then _ _ _ (push-below xs entry leaf (legal-at xs rest last entry is legal)) (legal-below (xs ++ entry ∷ []) rest last leaf on legal)

legal-steps : (count : ℕ) (xs last : List Entry) → IsPrefix xs last → IsLegalList last → Steps count (settled_with xs) (settled_with last)
legal-steps count xs last p legal = record {
  sound = no-doubt (settled_with last) refl;
  keeps = λ leaf within. legal-below xs p.0 last leaf p.1 legal;
}

module _ (share : Share) (ids : Option (List (List ℕ))) where
  book-fits : (before : JournalState) (ask : Ask) (moment : ℕ) (answer : BookAnswer) (after : JournalState) → answer ≡ Decided Granted → BookDecides share ids before ask moment answer after → Fits (2 ^ share.params.h) after ask
  book-fits before ask moment answer after is (denied out) = absurd (cc)
  book-fits before ask moment answer after is (decided given new approved decides) = let same : given ≡ Granted = cc in granted-fits share before ask moment given new same decides

  -- a turn that was granted
  turn-fits : (seen : List Entry) (ask : Ask) (moment : ℕ) (outcome : Outcome) (added : List Entry) → outcome ≡ InTurn (Decided Granted) → Answers share ids seen ask moment outcome added → Fits (2 ^ share.params.h) (settled_with (seen ++ added)) ask
  turn-fits seen ask moment outcome added is (step answer more decides) = let same : answer ≡ Decided Granted = cc in book-fits (settled_with seen) ask moment answer (settled_with (seen ++ more)) same decides
  turn-fits seen ask moment outcome added is (device reaches) = absurd (cc)
  turn-fits seen ask moment outcome added is (torn leaf a b reaches) = absurd (cc)
  turn-fits seen ask moment outcome added is worn = absurd (cc)

  all-granted : (P : Ask → Type 0) (outcome : Outcome) (ask : Ask) (rest : List Ask) → (outcome ≡ InTurn (Decided Granted) → P ask) → All P rest → All P (if_granted outcome ask rest)
  all-granted P (InTurn (Decided Granted)) ask rest p all = All-cons P ask rest (p refl) all
  all-granted P (InTurn (Decided (Refused why))) ask rest p all = all
  all-granted P (InTurn (Denied message)) ask rest p all = all
  all-granted P NoTurn ask rest p all = all

  served-fits : (log end last : List Entry) (turns : List Turn) → IsPrefix end last → IsLegalList last → ServedTurns share ids log turns end → All (Fits (2 ^ share.params.h) (settled_with last)) (granted_in turns)
  served-fits log end last turns begins legal (ended at to p) = All-nil (Fits (2 ^ share.params.h) (settled_with last))
  served-fits log end last turns begins legal (next at to turn rest p answers served) =
      let count = 2 ^ share.params.h in
      let whole = prefix-then (turn.seen ++ turn.added) to last (served-begins share ids (turn.seen ++ turn.added) to rest served) begins in
      all-granted (Fits count (settled_with last)) turn.outcome turn.ask (granted_in rest)
      (λ is. fits-later count (settled_with (turn.seen ++ turn.added)) (settled_with last) turn.ask (legal-steps count (turn.seen ++ turn.added) last whole legal) (turn-fits turn.seen turn.ask turn.moment turn.outcome turn.added is answers))
      (served-fits (turn.seen ++ turn.added) to last rest begins legal served)

all-fit : (share : Share) (last : List Entry) (passes : List (List Turn)) → IsLegalList last → All (StandUnder share last) passes → All (Fits (2 ^ share.params.h) (settled_with last)) (granted_by passes)
all-fit share last [] legal all = All-nil (Fits (2 ^ share.params.h) (settled_with last))
all-fit share last (turns ∷ others) legal all =
    let stand = All-head (StandUnder share last) turns others all in
    All-append (Fits (2 ^ share.params.h) (settled_with last)) (granted_in turns) (granted_by others)
    (served-fits share stand.ids stand.log stand.end last turns stand.begins legal stand.served)
    (all-fit share last others legal (All-tail (StandUnder share last) turns others all))

pub one-opening : (share : Share) (last : List Entry) (passes : List (List Turn)) → IsLegalList last → All (StandUnder share last) passes → OneOpening share (granted_by passes)
one-opening share last passes legal all = opening-of share (settled_with last) (granted_by passes) (all-fit share last passes legal all)

-- an entry in doubt may follow if both lists are legal
sound-of : (state : JournalState) → IsLegal state → IsSound state
sound-of state legal entry is = legal-at state.entries [] (state.entries ++ entry ∷ []) entry refl (legal (state.entries ++ entry ∷ []) (inr (entry, is, refl)))

granted-append : (passes rest : List (List Turn)) → granted_by (passes ++ rest) ≡ granted_by passes ++ granted_by rest
granted-append [] rest = refl
granted-append (turns ∷ passes) rest =
    ap (λ (l : List Ask). granted_in turns ++ l) (granted-append passes rest) ∙ sym (append_assoc (granted_in turns) (granted_by passes) (granted_by rest))

record RunsTo (share : Share) (before last : JournalState) (passes : List (List Turn)) : Type 0 where
  pub steps : Steps (2 ^ share.params.h) before last
  pub fits : All (Fits (2 ^ share.params.h) last) (granted_by passes)

runs-to : (share : Share) (before last : JournalState) (passes : List (List Turn)) → IsSound before → Runs share before passes last → RunsTo share before last passes
runs-to share before last passes sound (stopped state) =
    record { steps = steps-none (2 ^ share.params.h) state sound; fits = All-nil (Fits (2 ^ share.params.h) state) }
runs-to share before last _ sound (run begun after end kept entries passes rest settles same begins legal stand more) =
    let count = 2 ^ share.params.h in
    let plain = legal after.entries (inl refl) in
    let loaded = steps-loaded count begun kept entries sound settles same in
    let served = legal-steps count entries after.entries begins plain in
    let doubts : Steps count (settled_with after.entries) after = record { sound = sound-of after legal; keeps = λ leaf within. below-same _ _ refl } in
    let later = runs-to share after end rest (sound-of after legal) more in
    let on = steps-then count (settled_with after.entries) after end doubts later.steps in
    let here = All-weaker (Fits count (settled_with after.entries)) (Fits count end) (λ ask fits. fits-later count (settled_with after.entries) end ask on fits) (granted_by passes)
    (all-fit share after.entries passes plain stand) in
    record {
      steps = steps-then count begun (settled_with entries) end loaded (steps-then count (settled_with entries) (settled_with after.entries) end served on);
      fits = subst (All (Fits count end)) (sym (granted-append passes rest)) (All-append (Fits count end) (granted_by passes) (granted_by rest) here later.fits);
    }

pub one-opening-of-runs : (share : Share) (before last : JournalState) (passes : List (List Turn)) → IsLegal before → Runs share before passes last → OneOpening share (granted_by passes)
one-opening-of-runs share before last passes legal runs = opening-of share last (granted_by passes) (runs-to share before last passes (sound-of before legal) runs).fits
