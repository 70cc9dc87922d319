-- What all that happens to a journal says of the asks that were granted.
use Rattle.std.proofs.Common.{◌≡◌, ◌^◌, ◌∷◌, ℕ, List, Option, None, Some, All, Contains, is_some, refl, sym, ◌∙◌, ap, subst}
use Rattle.std.proofs.lemmas.List.Elements.{All-cons, All-contains, All-nil}
use Rattle.lms_bytes.specs.MessageId.{message_id_bytes}
use Rattle.lms_bytes.specs.declared.ask.Ask.{Ask}
use Rattle.lms_bytes.specs.declared.ask.Second.{Second}
use Rattle.opening_journal.specs.Entries.{JournalState, LeafState, map_of}
use Rattle.opening_journal.specs.Opening.{AnswersFor, bound, opened, settled_with}
use Rattle.share_files.specs.declared.share.Share.{Share}
use Rattle.lms_bytes.specs.Digits.{digit_of}
use Rattle.mask_prf.specs.Masks.{chain_mask_of}
use Rattle.trustee_core.specs.Decisions.{Answer, Decides, Granted, Refused}
use Rattle.trustee_core.specs.Grants.{mask_at}
use Rattle.trustee_core.specs.Growth.{MapGrows}
use Rattle.trustee_core.specs.Lives.{Answered, Lives, OneOpening, answered, ended, granted_in, lost, restarted}
use Rattle.trustee_core.proofs.Adding.{IsSound, no-doubt}
use Rattle.trustee_core.proofs.Stepping.{Fits, Steps, decides-steps, fits-later, granted-fits, steps-loaded, steps-none, steps-then}

-- the last state follows, and it fits each ask that was granted
record Ends (count : ℕ) (before : JournalState) (answers : List Answered) (last : JournalState) : Type 0 where
  pub steps : Steps count before last
  pub fits : All (Fits count last) (granted_in answers)

ends-later : (count : ℕ) (before after : JournalState) (answers : List Answered) (last : JournalState) → Steps count before after → Ends count after answers last → Ends count before answers last
ends-later count before after answers last steps ends = record { steps = steps-then count before after last steps ends.steps; fits = ends.fits }

-- one more answer
fits-more : (share : Share) (from after to : JournalState) (ask : Ask) (moment : ℕ) (answer : Answer) (rest : List Answered) → Decides share from ask moment answer after → Steps (2 ^ share.params.h) after to
    → All (Fits (2 ^ share.params.h) to) (granted_in rest) → All (Fits (2 ^ share.params.h) to) (granted_in (record { ask = ask; answer = answer } ∷ rest))
fits-more share from after to ask moment Granted rest decides steps fits =
    let count = 2 ^ share.params.h in
    All-cons (Fits count to) ask (granted_in rest) (fits-later count after to ask steps (granted-fits share from ask moment Granted after refl decides)) fits
fits-more share from after to ask moment (Refused why) rest decides steps fits = fits

lives-end : (share : Share) (before : JournalState) (answers : List Answered) (last : JournalState) → IsSound before → Lives share before answers last
    → Ends (2 ^ share.params.h) before answers last
lives-end share before answers last sound (ended state) =
    record { steps = steps-none (2 ^ share.params.h) state sound; fits = All-nil (Fits (2 ^ share.params.h) state) }
lives-end share before answers last sound (answered from after to ask moment answer rest decides lives) =
    let count = 2 ^ share.params.h in
    let steps = decides-steps count share from ask moment answer after sound decides in
    let ends = lives-end share after rest to steps.sound lives in
    record { steps = steps-then count from after to steps ends.steps; fits = fits-more share from after to ask moment answer rest decides ends.steps ends.fits }
lives-end share before answers last sound (lost from after to ask moment answer rest decides lives) =
    let count = 2 ^ share.params.h in
    let steps = decides-steps count share from ask moment answer after sound decides in
    ends-later count from after rest to steps (lives-end share after rest to steps.sound lives)
lives-end share before answers last sound (restarted from to old entries rest settles same lives) =
    let count = 2 ^ share.params.h in
    let steps = steps-loaded count from old entries sound settles same in
    ends-later count from (settled_with entries) rest to steps (lives-end share (settled_with entries) rest to steps.sound lives)

-- a leaf answers for one message
one-message : (x y : List ℕ) (state : LeafState) → AnswersFor x state → AnswersFor y state → x ≡ y
one-message x y state bound bound = refl
one-message x y state (opened c digest moment) (opened e other then) = refl

message-agrees : (count : ℕ) (state : JournalState) (a b : Ask) → a.leaf ≡ b.leaf → Fits count state a → Fits count state b → message_id_bytes a.message ≡ message_id_bytes b.message
message-agrees count state a b leaf first second =
    let here = subst (λ (q : ℕ). AnswersFor (message_id_bytes a.message) (map_of state.entries q)) leaf first.answers in
    one-message _ _ (map_of state.entries b.leaf) here second.answers

pair-agrees : (count : ℕ) (state : JournalState) (a b : Ask) (x y : Second) → a.leaf ≡ b.leaf → a.second ≡ Some x → b.second ≡ Some y → Fits count state a → Fits count state b → (x.c ≡ y.c) × (x.digest ≡ y.digest)
pair-agrees count state a b x y leaf is_x is_y first second =
    let of_a = first.opened x is_x in
    let of_b = second.opened y is_y in
    let same = sym of_a.1 ∙ ap (map_of state.entries) leaf ∙ of_b.1 in
    (cc, cc)

-- two asks of one round on one leaf have the same masks
masks-agree : (share : Share) (leaf : ℕ) (x y : Option Second) → is_some x ≡ is_some y → ((s t : Second) → x ≡ Some s → y ≡ Some t → s.digest ≡ t.digest) → (i : ℕ) → mask_at share leaf x i ≡ mask_at share leaf y i
masks-agree share leaf None None rounds same i = refl
masks-agree share leaf None (Some t) rounds same i = absurd (cc)
masks-agree share leaf (Some s) None rounds same i = absurd (cc)
masks-agree share leaf (Some s) (Some t) rounds same i =
    ap (λ (d : List ℕ). chain_mask_of share.params share.key share.id leaf i (digit_of share.params d i)) (same s t refl refl)

-- asks that one last state fits are of one opening
module _ (share : Share) (last : JournalState) (asks : List Ask) (fits : All (Fits (2 ^ share.params.h) last) asks) where
  fits-in : (ask : Ask) → Contains asks ask → Fits (2 ^ share.params.h) last ask
  fits-in ask within = All-contains (Fits (2 ^ share.params.h) last) asks ask fits within

  pub opening-of : OneOpening share asks
  opening-of =
      let count = 2 ^ share.params.h in
      let pair = λ (a b : Ask) (x y : Second) (in_a : Contains asks a) (in_b : Contains asks b) (leaf : a.leaf ≡ b.leaf) (is_x : a.second ≡ Some x) (is_y : b.second ≡ Some y).
      pair-agrees count last a b x y leaf is_x is_y (fits-in a in_a) (fits-in b in_b) in
      record {
        message = λ a b in_a in_b leaf. message-agrees count last a b leaf (fits-in a in_a) (fits-in b in_b);
        pair = pair;
        masks = λ a b in_a in_b leaf rounds i.
            ap (λ (q : ℕ). mask_at share q a.second i) leaf
            ∙ masks-agree share b.leaf a.second b.second rounds (λ x y is_x is_y. (pair a b x y in_a in_b leaf is_x is_y).1) i;
      }

module _ (share : Share) (before last : JournalState) (answers : List Answered) (none : before.doubt ≡ None) (lives : Lives share before answers last) where
  pub grows : MapGrows (2 ^ share.params.h) before.entries last.entries
  grows = (lives-end share before answers last (no-doubt before none) lives).steps.keeps

  pub one-opening : OneOpening share (granted_in answers)
  one-opening = opening-of share last (granted_in answers) (lives-end share before answers last (no-doubt before none) lives).fits
