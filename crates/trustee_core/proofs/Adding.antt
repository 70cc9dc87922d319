-- What one more entry leaves of each leaf.
use Rattle.std.proofs.Common.{◌≡◌, ℕ, List, [], ◌∷◌, ◌++◌, None, Some, inl, inr, refl, sym, ◌∙◌, ap, subst}
use Rattle.std.proofs.lemmas.Bool.{cases_eq}
use Rattle.lms_bytes.specs.MessageId.{message_id_bytes}
use Rattle.opening_journal.specs.Entries.{Adds, IsBound, IsFree, IsOpened, JournalState, LeafState, leaf_of, map_of, state_after, state_before}
use Rattle.opening_journal.specs.Opening.{AnswersFor, SettlesTo, bound, opened}
use Rattle.opening_journal.specs.declared.entry.Entry.{Entry}
use Rattle.opening_journal.specs.declared.entry.Entry.TheVariants.{Bound, Opened}
use Rattle.opening_journal.proofs.Maps.{map_of-other, map_of-same}
use Rattle.trustee_core.specs.Growth.{IsBelow, frees, opens, same}

pub below-same : (before after : LeafState) → before ≡ after → IsBelow before after
below-same before after is = subst (IsBelow before) is (same before)

pub below-then : (a b c : LeafState) → IsBelow a b → IsBelow b c → IsBelow a c
below-then a b c (same state) next = next
below-then a b c (frees state) next = frees c
below-then a b c (opens message x digest moment) (same state) = opens message x digest moment

free-never : (message : List ℕ) (state : LeafState) → state ≡ IsFree → AnswersFor message state → ⊥
free-never message state is bound = absurd (cc)
free-never message state is (opened c digest moment) = absurd (cc)

bound-opens : (message other c digest : List ℕ) (moment : ℕ) (state : LeafState) → state ≡ IsBound other → AnswersFor message state → AnswersFor message (IsOpened other c digest moment)
bound-opens message other c digest moment state is bound =
    let same : message ≡ other = cc in
    subst (λ (m : List ℕ). AnswersFor message (IsOpened m c digest moment)) same (opened c digest moment)
bound-opens message other c digest moment state is (opened x y then) = absurd (cc)

-- a leaf answers as before
pub below-answers : (message : List ℕ) (before after : LeafState) → IsBelow before after → AnswersFor message before → AnswersFor message after
below-answers message before after (same state) answer = answer
below-answers message before after (frees state) answer = absurd (free-never message IsFree refl answer)
below-answers message before after (opens other c digest moment) answer = bound-opens message other c digest moment (IsBound other) refl answer

-- and if it was opened it is the same
pub below-opened : (message c digest : List ℕ) (moment : ℕ) (before after : LeafState) → IsBelow before after → before ≡ IsOpened message c digest moment → after ≡ IsOpened message c digest moment
below-opened message c digest moment before after (same state) is = is
below-opened message c digest moment before after (frees state) is = absurd (cc)
below-opened message c digest moment before after (opens other x y then) is = absurd (cc)

entry-below : (entry : Entry) → IsBelow (state_before entry) (state_after entry)
entry-below (Bound leaf message) = frees (IsBound (message_id_bytes message))
entry-below (Opened leaf message c digest moment) = opens (message_id_bytes message) c digest moment

-- an entry that may follow lets each leaf grow
pub push-below : (entries : List Entry) (entry : Entry) (leaf : ℕ) → Adds entry (map_of entries (leaf_of entry)) → IsBelow (map_of entries leaf) (map_of (entries ++ entry ∷ []) leaf)
push-below entries entry leaf adds = elim (cases_eq leaf (leaf_of entry)) [
  | inl here ↦
      below-then _ _ _ (below-same _ _ (ap (map_of entries) here ∙ adds)) (below-then _ _ _ (entry-below entry)
      (below-same _ _ (sym (map_of-same entries entry leaf here))))
  | inr differs ↦ below-same _ _ (sym (map_of-other entries entry leaf differs))
]

pub map_of-made : (entries : List Entry) (entry : Entry) → map_of (entries ++ entry ∷ []) (leaf_of entry) ≡ state_after entry
map_of-made entries entry = map_of-same entries entry (leaf_of entry) refl

-- the doubt, if there is one, may follow the entries
abbrev pub IsSound : JournalState → Type 0
IsSound state = (entry : Entry) → state.doubt ≡ Some entry → Adds entry (map_of state.entries (leaf_of entry))

pub no-doubt : (state : JournalState) → state.doubt ≡ None → IsSound state
no-doubt state none entry is = absurd (cc)

-- settling lets each leaf grow
pub settles-below : (before : JournalState) (entries : List Entry) (leaf : ℕ) → IsSound before → SettlesTo before entries → IsBelow (map_of before.entries leaf) (map_of entries leaf)
settles-below before entries leaf sound settles = elim settles [
  | inl as_before ↦ below-same _ _ (ap (λ (e : List Entry). map_of e leaf) (sym as_before))
  | inr made ↦
      below-then _ _ _ (push-below before.entries made.0 leaf (sound made.0 made.1)) (below-same _ _ (ap (λ (e : List Entry). map_of e leaf) (sym made.2)))
]
