-- What a trustee answers to an ask that may be put to it.
use Rattle.std.proofs.Common.{◌≡◌, ◌⊎◌, ℕ, List, [], ◌∷◌, ◌++◌, None, Some, Result, refl, sym, ◌∙◌, ap, subst, inl, inr, arith}
use Rattle.opening_journal.specs.declared.faults.JournalFault.TheVariants as journal
use Rattle.lms_bytes.specs.MessageId.{message_id_bytes}
use Rattle.lms_bytes.specs.declared.ask.Ask.{Ask}
use Rattle.lms_bytes.specs.declared.ask.Second.{Second}
use Rattle.lms_bytes.specs.declared.message.MessageId.{MessageId}
use Rattle.opening_journal.specs.Entries.{IsBound, IsFree, IsOpened, JournalState, LeafState, leaf_of, map_of, state_after as entry_state}
use Rattle.opening_journal.specs.Opening.{AnswersFor, Binds, Opens, SettlesTo, bound, damaged, kept, made, not_bound, opened, other_digest, settled_with, spent, unsettled, unwritten}
use Rattle.opening_journal.specs.declared.entry.Entry.{Entry}
use Rattle.opening_journal.specs.declared.entry.Entry.TheVariants.{Bound, Opened}
use Rattle.opening_journal.specs.declared.faults.Entered.{Entered}
use Rattle.opening_journal.specs.declared.faults.JournalFault.{JournalFault}
use Rattle.opening_journal.proofs.Maps.{map_of-other, map_of-same}
use Rattle.share_files.specs.declared.share.Share.{Share}
use Rattle.trustee_core.specs.Decisions.{Answer, Decides, FailsTest, Granted, Refused, answer_of, bad_check, first, foreign_key, no_such_leaf, not_member, second, tested, too_long}
use Rattle.trustee_core.specs.declared.refusal.Refusal.{Refusal}
use Rattle.trustee_core.specs.declared.refusal.Refusal.TheVariants.{Journal}
use Rattle.drill_trustees.specs.Members.{MayAsk, Sets, state_after, state_before}

-- an entry of the ask's leaf is in doubt, and the leaf is as before the ask
pub record Stops (before after : JournalState) (ask : Ask) : Type 0 where
  pub entries : after.entries ≡ before.entries
  pub entry : Entry
  pub doubt : after.doubt ≡ Some entry
  pub leaf : leaf_of entry ≡ ask.leaf
  pub makes : entry_state entry ≡ state_after ask
  pub state : map_of before.entries ask.leaf ≡ state_before ask

-- it is granted, and the leaf is as after the ask
pub record Grants (before after : JournalState) (ask : Ask) : Type 0 where
  pub doubt : after.doubt ≡ None
  pub sets : Sets (map_of before.entries) (map_of after.entries) ask.leaf (state_after ask)

-- an ask that may be put is granted, or stops the disk
abbrev pub Decided : JournalState → JournalState → Ask → Answer → Type 0
Decided before after ask answer =
    ((answer ≡ Granted) × Grants before after ask) ⊎ ((answer ≡ Refused (Journal journal.Device)) × Stops before after ask)

settles-none : (before : JournalState) (entries : List Entry) → before.doubt ≡ None → SettlesTo before entries → entries ≡ before.entries
settles-none before entries none settles = elim settles [ inl same ↦ same | inr was ↦ absurd (cc) ]

free-answers : (m : List ℕ) (s : LeafState) → s ≡ IsFree → AnswersFor m s → ⊥
free-answers m s is bound = cc
free-answers m s is (opened c digest moment) = cc

bound-answers : (m id : List ℕ) (s : LeafState) → s ≡ IsBound id → AnswersFor m s → m ≡ id
bound-answers m id s is bound = cc
bound-answers m id s is (opened c digest moment) = absurd (cc)

opened-answers : (m id c digest : List ℕ) (moment : ℕ) (s : LeafState) → s ≡ IsOpened id c digest moment → AnswersFor m s → m ≡ id
opened-answers m id c digest moment s is bound = absurd (cc)
opened-answers m id c digest moment s is (opened _ _ _) = cc

passes : (share : Share) (leaves : ℕ → LeafState) (ask : Ask) (why : Refusal) → MayAsk share leaves ask → FailsTest share ask why → ⊥
passes share leaves ask why may (foreign_key differs) = differs may.for_leaf.key
passes share leaves ask why may (no_such_leaf key high) = let low = may.for_leaf.leaf in omega arith
passes share leaves ask why may (not_member key leaf other) = other may.for_leaf.member
passes share leaves ask why may (too_long key leaf member long) = let short = may.for_leaf.length in omega arith
passes share leaves ask why may (bad_check pair own is differs) = differs (may.tag pair is)

sets-entry : (entries : List Entry) (entry : Entry) (q : ℕ) (state : LeafState) → leaf_of entry ≡ q → entry_state entry ≡ state
    → Sets (map_of entries) (map_of (entries ++ entry ∷ [])) q state
sets-entry entries entry q state leaf makes = record {
  here = map_of-same entries entry q (sym leaf) ∙ makes;
  others = λ other within differs. map_of-other entries entry other (λ same. differs (same ∙ leaf));
}

pub sets-none : (entries : List Entry) (q : ℕ) (state : LeafState) → map_of entries q ≡ state → Sets (map_of entries) (map_of entries) q state
sets-none entries q state is = record { here = is; others = λ other within differs. refl }

module _ (before : JournalState) (ask : Ask) (none : before.doubt ≡ None) where
  granted-by : (entry : Entry) (entries : List Entry) → entries ≡ before.entries → leaf_of entry ≡ ask.leaf → entry_state entry ≡ state_after ask
      → Grants before (settled_with (entries ++ entry ∷ [])) ask
  granted-by entry entries same leaf makes = record {
    doubt = refl;
    sets = rw same (sets-entry before.entries entry ask.leaf (state_after ask) leaf makes);
  }

  granted-again : (entries : List Entry) → entries ≡ before.entries → map_of before.entries ask.leaf ≡ state_after ask → Grants before (settled_with entries) ask
  granted-again entries same is = record { doubt = refl; sets = rw same (sets-none before.entries ask.leaf (state_after ask) is) }

  stopped-by : (entry : Entry) (entries : List Entry) → entries ≡ before.entries → leaf_of entry ≡ ask.leaf → entry_state entry ≡ state_after ask
      → map_of before.entries ask.leaf ≡ state_before ask → Stops before (record { entries = entries; doubt = Some entry }) ask
  stopped-by entry entries same leaf makes state = record { entries = same; entry = entry; doubt = refl; leaf = leaf; makes = makes; state = state }

  module _ (round : ask.second ≡ None) (state : (map_of before.entries ask.leaf ≡ state_before ask) ⊎ (map_of before.entries ask.leaf ≡ state_after ask)) where
    first-before : state_before ask ≡ IsFree
    first-before = rw round refl

    first-after : state_after ask ≡ IsBound (message_id_bytes ask.message)
    first-after = rw round refl

    binds-decided : (result : Result Entered JournalFault) (after : JournalState) → Binds before ask.leaf ask.message result after → Decided before after ask (answer_of result)
    binds-decided result after (made entries settles free) =
        inl (refl, granted-by (Bound ask.leaf ask.message) entries (settles-none before entries none settles) refl (sym first-after))
    binds-decided result after (kept entries settles answers) =
        let same = settles-none before entries none settles in
        let here = subst (λ (l : List Entry). AnswersFor (message_id_bytes ask.message) (map_of l ask.leaf)) same answers in
        elim state [
          | inl was ↦ absurd (free-answers _ _ (was ∙ first-before) here)
          | inr is ↦ inl (refl, granted-again entries same is)
        ]
    binds-decided result after (spent entries other settles answers differs) =
        let same = settles-none before entries none settles in
        let here = subst (λ (l : List Entry). AnswersFor (message_id_bytes other) (map_of l ask.leaf)) same answers in
        elim state [
          | inl was ↦ absurd (free-answers _ _ (was ∙ first-before) here)
          | inr is ↦ absurd (differs (bound-answers _ _ _ (is ∙ first-after) here))
        ]
    binds-decided result after (unsettled some) = absurd (let e = rw none at some in cc)
    binds-decided result after (unwritten entries settles free) =
        let same = settles-none before entries none settles in
        let was = ap (λ (l : List Entry). map_of l ask.leaf) (sym same) ∙ free in
        inr (refl, stopped-by (Bound ask.leaf ask.message) entries same refl (sym first-after) (was ∙ sym first-before))
    binds-decided result after (damaged entry a b is neither) = absurd (cc)

  module _ (pair : Second) (round : ask.second ≡ Some pair) (state : (map_of before.entries ask.leaf ≡ state_before ask) ⊎ (map_of before.entries ask.leaf ≡ state_after ask)) where
    second-before : state_before ask ≡ IsBound (message_id_bytes ask.message)
    second-before = rw round refl

    second-after : state_after ask ≡ IsOpened (message_id_bytes ask.message) pair.c pair.digest 0
    second-after = rw round refl

    here-of : (entries : List Entry) (wanted : LeafState) → entries ≡ before.entries → map_of entries ask.leaf ≡ wanted → map_of before.entries ask.leaf ≡ wanted
    here-of entries wanted same is = ap (λ (l : List Entry). map_of l ask.leaf) (sym same) ∙ is

    opens-decided : (result : Result Entered JournalFault) (after : JournalState) → Opens before ask.leaf ask.message pair.c pair.digest 0 result after
        → Decided before after ask (answer_of result)
    opens-decided result after (made entries settles is) =
        inl (refl, granted-by (Opened ask.leaf ask.message pair.c pair.digest 0) entries (settles-none before entries none settles) refl (sym second-after))
    opens-decided result after (kept entries then settles is) =
        let same = settles-none before entries none settles in
        let here = here-of entries _ same is in
        elim state [
          | inl was ↦ absurd (let e = sym here ∙ was ∙ second-before in cc)
          | inr now ↦ inl (refl, granted-again entries same now)
        ]
    opens-decided result after (not_bound entries settles free) =
        let here = here-of entries _ (settles-none before entries none settles) free in
        elim state [
          | inl was ↦ absurd (let e = sym here ∙ was ∙ second-before in cc)
          | inr now ↦ absurd (let e = sym here ∙ now ∙ second-after in cc)
        ]
    opens-decided result after (spent entries other settles answers differs) =
        let same = settles-none before entries none settles in
        let here = subst (λ (l : List Entry). AnswersFor (message_id_bytes other) (map_of l ask.leaf)) same answers in
        elim state [
          | inl was ↦ absurd (differs (bound-answers _ _ _ (was ∙ second-before) here))
          | inr now ↦ absurd (differs (opened-answers _ _ _ _ _ _ (now ∙ second-after) here))
        ]
    opens-decided result after (other_digest entries kept_c kept_digest then settles is differs) =
        let here = here-of entries _ (settles-none before entries none settles) is in
        elim state [
          | inl was ↦ absurd (let e = sym here ∙ was ∙ second-before in cc)
          | inr now ↦
              let e = sym here ∙ now ∙ second-after in
              elim differs [ inl c ↦ absurd (c cc) | inr digest ↦ absurd (digest cc) ]
        ]
    opens-decided result after (unsettled some) = absurd (let e = rw none at some in cc)
    opens-decided result after (unwritten entries settles is) =
        let same = settles-none before entries none settles in
        inr (refl, stopped-by (Opened ask.leaf ask.message pair.c pair.digest 0) entries same refl (sym second-after) (here-of entries _ same is ∙ sym second-before))
    opens-decided result after (damaged entry a b is neither) = absurd (cc)

pub decided : (share : Share) (before : JournalState) (ask : Ask) (moment : ℕ) (answer : Answer) (after : JournalState) → before.doubt ≡ None → moment ≡ 0
    → MayAsk share (map_of before.entries) ask → Decides share before ask moment answer after → Decided before after ask answer
decided share before ask moment answer after none zero may (tested why fails) = absurd (passes share (map_of before.entries) ask why may fails)
decided share before ask moment answer after none zero may (first result new for_leaf round does) =
    binds-decided before ask none round may.state result new does
decided share before ask moment answer after none zero may (second result new pair for_leaf round tag does) =
    opens-decided before ask none pair round may.state result new (rw zero at does)

-- with nothing in doubt before and no disk that stops, nothing is in doubt after
binds-settled : (before : JournalState) (leaf : ℕ) (message : MessageId) (result : Result Entered JournalFault) (after : JournalState) → before.doubt ≡ None
    → (answer_of result ≡ Refused (Journal journal.Device) → ⊥) → Binds before leaf message result after → after.doubt ≡ None
binds-settled before leaf message result after none goes (made entries settles free) = refl
binds-settled before leaf message result after none goes (kept entries settles answers) = refl
binds-settled before leaf message result after none goes (spent entries other settles answers differs) = refl
binds-settled before leaf message result after none goes (unsettled some) = none
binds-settled before leaf message result after none goes (unwritten entries settles free) = absurd (goes refl)
binds-settled before leaf message result after none goes (damaged entry a b is neither) = none

opens-settled : (before : JournalState) (leaf : ℕ) (message : MessageId) (c digest : List ℕ) (moment : ℕ) (result : Result Entered JournalFault) (after : JournalState) → before.doubt ≡ None
    → (answer_of result ≡ Refused (Journal journal.Device) → ⊥) → Opens before leaf message c digest moment result after → after.doubt ≡ None
opens-settled before leaf message c digest moment result after none goes (made entries settles is) = refl
opens-settled before leaf message c digest moment result after none goes (kept entries then settles is) = refl
opens-settled before leaf message c digest moment result after none goes (not_bound entries settles free) = refl
opens-settled before leaf message c digest moment result after none goes (spent entries other settles answers differs) = refl
opens-settled before leaf message c digest moment result after none goes (other_digest entries x y then settles is differs) = refl
opens-settled before leaf message c digest moment result after none goes (unsettled some) = none
opens-settled before leaf message c digest moment result after none goes (unwritten entries settles is) = absurd (goes refl)
opens-settled before leaf message c digest moment result after none goes (damaged entry a b is neither) = none

pub settled : (share : Share) (before : JournalState) (ask : Ask) (moment : ℕ) (answer : Answer) (after : JournalState) → before.doubt ≡ None
    → (answer ≡ Refused (Journal journal.Device) → ⊥) → Decides share before ask moment answer after → after.doubt ≡ None
settled share before ask moment answer after none goes (tested why fails) = none
settled share before ask moment answer after none goes (first result new for_leaf round does) = binds-settled before ask.leaf ask.message result new none goes does
settled share before ask moment answer after none goes (second result new pair for_leaf round tag does) =
    opens-settled before ask.leaf ask.message pair.c pair.digest moment result new none goes does
