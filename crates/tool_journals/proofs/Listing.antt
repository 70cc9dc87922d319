-- What a book lists once an id is added.
use Rattle.std.proofs.Common.{◌≡◌, ◌||◌, ◌<◌, ℕ, zero, suc, List, [], ◌∷◌, length, get_or, set, Bool, true, false, true≢false, nat_eq, Ok, refl, sym, arith}
use Rattle.std.proofs.lemmas.List.Quantifiers.{position-Some}
use Rattle.std.specs.Cmp.Lexicographic.{pointwise, same_text}
use Rattle.std.specs.List.{list_any}
use Rattle.approval_book.specs.Listed.{AddsTo, is_listed, lists, new, old}
use Rattle.opening_journal.specs.declared.faults.Entered.{Entered}
use Rattle.slot_file.specs.State.{CacheState}
use Rattle.slot_file.specs.Copies.{is_free}
use Rattle.slot_file.specs.declared.slot.Slot.{Slot}
use Rattle.slot_file.specs.declared.slot.Slot.TheVariants as slot
use Rattle.tool_journals.specs.Adding.{ListsAlso}

or_swap : (a b c : Bool) → (a || (b || c)) ≡ (b || (a || c))
or_swap true true c = refl
or_swap true false c = refl
or_swap false true c = refl
or_swap false false c = refl

absorbed : (a b : Bool) → (a ≡ true → b ≡ true) → b ≡ (a || b)
absorbed true b so = so refl
absorbed false b so = refl

any_set : {X : Type 0} (p : X → Bool) (xs : List X) (i : ℕ) (y d : X) → i < length xs → p (get_or xs i d) ≡ false
    → list_any p (set xs i y) ≡ (p y || list_any p xs)
any_set p [] i y d inside none = absurd (omega arith)
any_set p (x ∷ xs) zero y d inside none = rw none refl
any_set p (x ∷ xs) (suc i) y d inside none = rw (any_set p xs i y d (omega arith) none) (or_swap (p x) (p y) (list_any p xs))

free_lists : (found : Slot) (id : List ℕ) → is_free found ≡ true → lists found id ≡ false
free_lists slot.Free id free = refl
free_lists (slot.Half a) id free = absurd (true≢false (sym free))
free_lists (slot.Full a b moment) id free = absurd (true≢false (sym free))
free_lists (slot.Damaged a b) id free = refl

-- a book that has taken an id lists it, and all that it listed before
pub lists_also : (slots : List Slot) (id : List ℕ) (entered : Entered) (after : CacheState) → AddsTo slots id (Ok entered) after → ListsAlso slots id after.slots
lists_also slots id _ _ (old listed) other =
    absorbed (pointwise nat_eq other id) (is_listed slots other) (λ same. rw (same_text other id (sym same)) listed)
lists_also slots id _ _ (new place absent first) other =
    let found = position-Some is_free slots place slot.Free first in
    any_set (λ one. lists one other) slots place (slot.Half id) slot.Free found.0 (free_lists (get_or slots place slot.Free) other found.1)
