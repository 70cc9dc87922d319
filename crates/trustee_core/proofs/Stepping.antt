-- What each decision leaves of the journal.
use Rattle.std.proofs.Common.{◌≡◌, ◌<◌, ◌^◌, ℕ, List, [], ◌∷◌, ◌++◌, None, Some, Result, Ok, Err, refl, sym, subst}
use Rattle.lms_bytes.specs.MessageId.{message_id_bytes}
use Rattle.lms_bytes.specs.declared.ask.Ask.{Ask}
use Rattle.lms_bytes.specs.declared.ask.Second.{Second}
use Rattle.lms_bytes.specs.declared.message.MessageId.{MessageId}
use Rattle.opening_journal.specs.Entries.{Adds, IsOpened, JournalState, leaf_of, map_of}
use Rattle.opening_journal.specs.Opening.{AnswersFor, Binds, Opens, SettlesTo, bound, damaged, kept, made, not_bound, opened, other_digest, settled_with, spent, unsettled, unwritten}
use Rattle.opening_journal.specs.declared.entry.Entry.{Entry}
use Rattle.opening_journal.specs.declared.entry.Entry.TheVariants.{Bound, Opened}
use Rattle.opening_journal.specs.declared.faults.Entered.{Entered}
use Rattle.opening_journal.specs.declared.faults.JournalFault.{JournalFault}
use Rattle.share_files.specs.declared.share.Share.{Share}
use Rattle.trustee_core.specs.Growth.{MapGrows}
use Rattle.trustee_core.specs.Decisions.{Answer, Decides, Granted, answer_of, first, second, tested}
use Rattle.trustee_core.proofs.Adding.{IsSound, below-answers, below-opened, below-same, below-then, map_of-made, no-doubt, push-below, settles-below}

-- a sound state follows, and each of that many leaves grows
pub record Steps (count : ℕ) (before after : JournalState) : Type 0 where
  pub sound : IsSound after
  pub keeps : MapGrows count before.entries after.entries

-- the leaf answers for the ask, and in round two it was opened with its pair
pub record Fits (count : ℕ) (state : JournalState) (ask : Ask) : Type 0 where
  pub within : ask.leaf < count
  pub answers : AnswersFor (message_id_bytes ask.message) (map_of state.entries ask.leaf)
  pub opened : (pair : Second) → ask.second ≡ Some pair
      → (moment : ℕ) × (map_of state.entries ask.leaf ≡ IsOpened (message_id_bytes ask.message) pair.c pair.digest moment)

pub fits-later : (count : ℕ) (before after : JournalState) (ask : Ask) → Steps count before after → Fits count before ask → Fits count after ask
fits-later count before after ask steps fits = record {
  within = fits.within;
  answers = below-answers (message_id_bytes ask.message) _ _ (steps.keeps ask.leaf fits.within) fits.answers;
  opened = λ pair is.
      let was = fits.opened pair is in
      (was.0, below-opened (message_id_bytes ask.message) pair.c pair.digest was.0 _ _ (steps.keeps ask.leaf fits.within) was.1);
}

pub steps-none : (count : ℕ) (state : JournalState) → IsSound state → Steps count state state
steps-none count state sound = record { sound = sound; keeps = λ leaf within. below-same _ _ refl }

pub steps-then : (count : ℕ) (a b c : JournalState) → Steps count a b → Steps count b c → Steps count a c
steps-then count a b c one next = record {
  sound = next.sound;
  keeps = λ leaf within. below-then _ _ _ (one.keeps leaf within) (next.keeps leaf within);
}

-- entries that make of each leaf what was kept of it
pub steps-loaded : (count : ℕ) (before : JournalState) (old entries : List Entry) → IsSound before → SettlesTo before old
    → ((leaf : ℕ) → leaf < count → map_of entries leaf ≡ map_of old leaf) → Steps count before (settled_with entries)
steps-loaded count before old entries sound settles same = record {
  sound = no-doubt (settled_with entries) refl;
  keeps = λ leaf within. below-then _ _ _ (settles-below before old leaf sound settles) (below-same _ _ (sym (same leaf within)));
}

module _ (count : ℕ) (before : JournalState) (entries : List Entry) (sound : IsSound before) (settles : SettlesTo before entries) where
  pub steps-settled : Steps count before (settled_with entries)
  steps-settled = record {
    sound = no-doubt (settled_with entries) refl;
    keeps = λ leaf within. settles-below before entries leaf sound settles;
  }

  module _ (entry : Entry) (adds : Adds entry (map_of entries (leaf_of entry))) where
    steps-made : Steps count before (settled_with (entries ++ entry ∷ []))
    steps-made = record {
      sound = no-doubt (settled_with (entries ++ entry ∷ [])) refl;
      keeps = λ leaf within. below-then _ _ _ (settles-below before entries leaf sound settles) (push-below entries entry leaf adds);
    }

    steps-unwritten : Steps count before (record { entries = entries; doubt = Some entry })
    steps-unwritten = record {
      sound = λ other is.
          let same : entry ≡ other = cc in
          subst (λ (e : Entry). Adds e (map_of entries (leaf_of e))) same adds;
      keeps = λ leaf within. settles-below before entries leaf sound settles;
    }

module _ (count : ℕ) (before : JournalState) (leaf : ℕ) (message : MessageId) (sound : IsSound before) where
  binds-steps : (result : Result Entered JournalFault) (after : JournalState) → Binds before leaf message result after → Steps count before after
  binds-steps result after (made entries settles free) = steps-made count before entries sound settles (Bound leaf message) free
  binds-steps result after (kept entries settles answers) = steps-settled count before entries sound settles
  binds-steps result after (spent entries other settles answers differs) = steps-settled count before entries sound settles
  binds-steps result after (unsettled some) = steps-none count before sound
  binds-steps result after (unwritten entries settles free) = steps-unwritten count before entries sound settles (Bound leaf message) free
  binds-steps result after (damaged entry a b is neither) = steps-none count before sound

  module _ (c digest : List ℕ) (moment : ℕ) where
    opens-steps : (result : Result Entered JournalFault) (after : JournalState) → Opens before leaf message c digest moment result after → Steps count before after
    opens-steps result after (made entries settles is) = steps-made count before entries sound settles (Opened leaf message c digest moment) is
    opens-steps result after (kept entries then settles is) = steps-settled count before entries sound settles
    opens-steps result after (not_bound entries settles free) = steps-settled count before entries sound settles
    opens-steps result after (spent entries other settles answers differs) = steps-settled count before entries sound settles
    opens-steps result after (other_digest entries x y then settles is differs) = steps-settled count before entries sound settles
    opens-steps result after (unsettled some) = steps-none count before sound
    opens-steps result after (unwritten entries settles is) =
        steps-unwritten count before entries sound settles (Opened leaf message c digest moment) is
    opens-steps result after (damaged entry a b is neither) = steps-none count before sound

pub decides-steps : (count : ℕ) (share : Share) (before : JournalState) (ask : Ask) (moment : ℕ) (answer : Answer) (after : JournalState) → IsSound before → Decides share before ask moment answer after → Steps count before after
decides-steps count share before ask moment answer after sound (tested why fails) = steps-none count before sound
decides-steps count share before ask moment answer after sound (first result new for_leaf none does) =
    binds-steps count before ask.leaf ask.message sound result new does
decides-steps count share before ask moment answer after sound (second result new pair for_leaf some tag does) =
    opens-steps count before ask.leaf ask.message sound pair.c pair.digest moment result new does

module _ (before : JournalState) (leaf : ℕ) (message : MessageId) (entered : Entered) where
  bound-answers : (result : Result Entered JournalFault) (after : JournalState) → result ≡ Ok entered → Binds before leaf message result after → AnswersFor (message_id_bytes message) (map_of after.entries leaf)
  bound-answers result after ok (made entries settles free) =
      subst (AnswersFor (message_id_bytes message)) (sym (map_of-made entries (Bound leaf message))) bound
  bound-answers result after ok (kept entries settles answers) = answers
  bound-answers result after ok (spent entries other settles answers differs) = absurd (cc)
  bound-answers result after ok (unsettled some) = absurd (cc)
  bound-answers result after ok (unwritten entries settles free) = absurd (cc)
  bound-answers result after ok (damaged entry a b is_in neither) = absurd (cc)

  module _ (c digest : List ℕ) (moment : ℕ) where
    opened-with : (result : Result Entered JournalFault) (after : JournalState) → result ≡ Ok entered → Opens before leaf message c digest moment result after → (when : ℕ) × (map_of after.entries leaf ≡ IsOpened (message_id_bytes message) c digest when)
    opened-with result after ok (made entries settles is) = (moment, map_of-made entries (Opened leaf message c digest moment))
    opened-with result after ok (kept entries then settles is) = (then, is)
    opened-with result after ok (not_bound entries settles free) = absurd (cc)
    opened-with result after ok (spent entries other settles answers differs) = absurd (cc)
    opened-with result after ok (other_digest entries x y then settles is differs) = absurd (cc)
    opened-with result after ok (unsettled some) = absurd (cc)
    opened-with result after ok (unwritten entries settles is) = absurd (cc)
    opened-with result after ok (damaged entry a b is_in neither) = absurd (cc)

entered-by : (result : Result Entered JournalFault) → answer_of result ≡ Granted → (entered : Entered) × (result ≡ Ok entered)
entered-by (Ok entered) is = (entered, refl)
entered-by (Err fault) is = absurd (cc)

fits-first : (count : ℕ) (state : JournalState) (ask : Ask) → ask.leaf < count → ask.second ≡ None → AnswersFor (message_id_bytes ask.message) (map_of state.entries ask.leaf) → Fits count state ask
fits-first count state ask within none answers = record { within = within; answers = answers; opened = λ pair is. absurd (cc) }

fits-second : (count : ℕ) (state : JournalState) (ask : Ask) (pair : Second) (moment : ℕ) → ask.leaf < count → ask.second ≡ Some pair → map_of state.entries ask.leaf ≡ IsOpened (message_id_bytes ask.message) pair.c pair.digest moment → Fits count state ask
fits-second count state ask pair moment within some is = record {
  within = within;
  answers = subst (AnswersFor (message_id_bytes ask.message)) (sym is) (opened pair.c pair.digest moment);
  opened = λ other has.
      let same : pair ≡ other = cc in
      (moment, subst (λ (p : Second). map_of state.entries ask.leaf ≡ IsOpened (message_id_bytes ask.message) p.c p.digest moment) same is);
}

-- the state after a grant fits its ask
pub granted-fits : (share : Share) (before : JournalState) (ask : Ask) (moment : ℕ) (answer : Answer) (after : JournalState) → answer ≡ Granted → Decides share before ask moment answer after → Fits (2 ^ share.params.h) after ask
granted-fits share before ask moment answer after is (tested why fails) = absurd (cc)
granted-fits share before ask moment answer after is (first result new for_leaf none does) =
    let entered = entered-by result is in
    fits-first (2 ^ share.params.h) new ask for_leaf.leaf none (bound-answers before ask.leaf ask.message entered.0 result new entered.1 does)
granted-fits share before ask moment answer after is (second result new pair for_leaf some tag does) =
    let entered = entered-by result is in
    let with_pair = opened-with before ask.leaf ask.message entered.0 pair.c pair.digest moment result new entered.1 does in
    fits-second (2 ^ share.params.h) new ask pair with_pair.0 for_leaf.leaf some with_pair.1
