-- What a book lists once an id is put into a free slot.
use Rattle.std.proofs.Common.{◌≡◌, ℕ, zero, suc, ◌+◌, ◌<◌, Bool, true, false, not, true≢false, ◌||◌, IsTrue, cond, Option, None, Some, IfSome, IsSomeAnd, Ok, subst, List, [], ◌∷◌, length, get_or, set, nat_eq, length-set, refl, sym, ap, ◌∙◌, arith}
use Rattle.std.specs.List.{count_by, list_any, position}
use Rattle.slot_file.specs.Copies.{is_free, taken_count}
use Rattle.slot_file.specs.declared.slot.Slot.{Slot}
use Rattle.slot_file.specs.declared.slot.Slot.TheVariants as slot
use Rattle.approval_book.specs.Listed.{AddsTo, IsAdding, IsFreeIn, IsSettled, old, is_half, is_listed, lists}
use Rattle.opening_journal.specs.declared.faults.Entered.TheVariants.{Old}
use Rattle.slot_file.specs.Calls.{Settles}
use Rattle.slot_file.specs.declared.faults.Settled.{Settled}
use Rattle.slot_file.specs.declared.faults.Settled.TheVariants.{Made, Nothing, NotMade}
use Rattle.slot_file.specs.State.{CacheState, settled_with, with_made}
use Rattle.slot_file.specs.declared.doubted.Doubted.{Doubted}
use Rattle.std.specs.Cmp.Lexicographic.{pointwise}
use Rattle.std.proofs.lemmas.List.Sums.{count_by-le-length, sum_by-set}
use Rattle.std.proofs.lemmas.List.Quantifiers.{position-Some}

or-swap : (a b c : Bool) → (a || (b || c)) ≡ (b || (a || c))
or-swap true true c = refl
or-swap true false c = refl
or-swap false true c = refl
or-swap false false c = refl

module _ {X : Type 0} (p : X → Bool) where
  pub any-set : (xs : List X) (i : ℕ) (y d : X) → i < length xs → p (get_or xs i d) ≡ false
      → list_any p (set xs i y) ≡ (p y || list_any p xs)
  any-set [] i y d inside none = absurd (omega arith)
  any-set (x ∷ xs) zero y d inside none = rw none refl
  any-set (x ∷ xs) (suc i) y d inside none =
      rw (any-set xs i y d (omega arith) none) (or-swap (p x) (p y) (list_any p xs))

  pub count-set : (xs : List X) (i : ℕ) (y d : X) → i < length xs → p (get_or xs i d) ≡ false → p y ≡ true
      → count_by p (set xs i y) ≡ count_by p xs + 1
  count-set xs i y d inside none one =
      let sums = sum_by-set (λ x. cond (p x) 1 0) xs i y d inside in
      let old : cond {A = ℕ} (p (get_or xs i d)) 1 0 ≡ 0 = ap (λ (b : Bool). cond b 1 0) none in
      let new : cond {A = ℕ} (p y) 1 0 ≡ 1 = ap (λ (b : Bool). cond b 1 0) one in
      omega (arith, sums, old, new)

  -- if one element fails the test, fewer pass than there are
  pub count-less : (xs : List X) (i : ℕ) (y d : X) → i < length xs → p (get_or xs i d) ≡ false → p y ≡ true
      → count_by p xs < length xs
  count-less xs i y d inside none one =
      let most = count_by-le-length p (set xs i y) in
      let size : length (set xs i y) ≡ length xs = length-set xs i y in
      omega (arith, most, size, count-set xs i y d inside none one)

-- slots

free-is : (found : Slot) → is_free found ≡ true → found ≡ slot.Free
free-is slot.Free free = refl
free-is (slot.Half a) free = absurd (true≢false (sym free))
free-is (slot.Full a b moment) free = absurd (true≢false (sym free))
free-is (slot.Damaged a b) free = absurd (true≢false (sym free))

pub free-in : (slots : List Slot) (place : ℕ) → position is_free slots ≡ Some place → IsFreeIn slots place
free-in slots place first =
    let found = position-Some is_free slots place slot.Free first in
    record { inside = found.0; free = free-is _ found.1 }

module _ (slots : List Slot) (place : ℕ) (here : IsFreeIn slots place) (id : List ℕ) where
  pub is_listed-put : (other : List ℕ)
      → is_listed (set slots place (slot.Half id)) other ≡ (pointwise nat_eq other id || is_listed slots other)
  is_listed-put other =
      any-set (λ found. lists found other) slots place (slot.Half id) slot.Free here.inside (ap (λ found. lists found other) here.free)

  pub taken_count-put : taken_count (set slots place (slot.Half id)) ≡ taken_count slots + 1
  taken_count-put =
      count-set (λ found. not (is_free found)) slots place (slot.Half id) slot.Free here.inside
      (ap (λ found. not (is_free found)) here.free) refl

  pub taken_count-less : taken_count slots < length slots
  taken_count-less =
      count-less (λ found. not (is_free found)) slots place (slot.Half id) slot.Free here.inside
      (ap (λ found. not (is_free found)) here.free) refl

pub settled-is : (slots : List Slot) (doubt : Option Doubted) → doubt ≡ None
    → ◌≡◌ {A = CacheState} (record { slots = slots; doubt = doubt }) (settled_with slots)
settled-is slots doubt none i = record { slots = slots; doubt = none i }

-- a settled state has no put in doubt
pub no_doubt : (state : CacheState) (slots : List Slot) → state ≡ settled_with slots → (put : Doubted) → state.doubt ≡ Some put → ⊥
no_doubt state slots is put some = let none : state.doubt ≡ None = ap (λ (s : CacheState). s.doubt) is in cc

-- once a put in doubt was made
module _ (slots : List Slot) (put : Doubted) (adding : IsAdding slots put) (id : List ℕ) (half : put.after ≡ slot.Half id) where
  pub is_listed-made : (other : List ℕ)
      → is_listed (with_made slots put) other ≡ (pointwise nat_eq other id || is_listed slots other)
  is_listed-made other = rw half (is_listed-put slots put.slot adding.place id other)

  pub taken_count-made : taken_count (with_made slots put) ≡ taken_count slots + 1
  taken_count-made = rw half (taken_count-put slots put.slot adding.place id)

-- what is known once settling has found that a put was made
pub record WasMade (before after : CacheState) (id : List ℕ) : Type 0 where
  pub listed : (other : List ℕ) → is_listed after.slots other ≡ (pointwise nat_eq other id || is_listed before.slots other)
  pub taken : taken_count after.slots ≡ taken_count before.slots + 1
  pub sure : after.doubt ≡ None
  pub room : taken_count before.slots < length before.slots

pub was_made : (before after : CacheState) (found : Settled) (doubt : Option Doubted) (id : List ℕ) → found ≡ Made
    → Settles 3 before (Ok found) after → doubt ≡ before.doubt → IfSome doubt (λ put. put.after ≡ slot.Half id)
    → ((put : Doubted) → before.doubt ≡ Some put → IsAdding before.slots put) → WasMade before after id
was_made before after found doubt id is event same half adding =
    let made : Settles 3 before (Ok Made) after = subst (λ (f : Settled). Settles 3 before (Ok f) after) is event in
    let put = made.0 in
    let adds = adding put made.1 in
    let its_half : put.after ≡ slot.Half id =
    subst (λ (o : Option Doubted). IfSome o (λ put. put.after ≡ slot.Half id)) (same ∙ made.1) half in
    let slots : after.slots ≡ with_made before.slots put = ap (λ (s : CacheState). s.slots) made.2 in
    record {
      listed = λ other. rw slots (is_listed-made before.slots put adds id its_half other);
      taken = rw slots (taken_count-made before.slots put adds id its_half);
      sure = ap (λ (s : CacheState). s.doubt) made.2;
      room = taken_count-less before.slots put.slot adds.place id;
    }

-- the put in doubt lists an id if settling has found that it was made
pub made_half : (before after : CacheState) (found : Settled) (doubt : Option Doubted) → found ≡ Made
    → Settles 3 before (Ok found) after → doubt ≡ before.doubt
    → ((put : Doubted) → before.doubt ≡ Some put → IsAdding before.slots put)
    → IsSomeAnd doubt (λ put. is_half put.after ≡ true)
made_half before after found doubt is event same adding =
    let made : Settles 3 before (Ok Made) after = subst (λ (f : Settled). Settles 3 before (Ok f) after) is event in
    let adds = adding made.0 made.1 in
    rw (same ∙ made.1) adds.half

pub settles-sure : (before after : CacheState) → IsSettled before (Ok tt) after → after.doubt ≡ None
settles-sure before after (found, event) = sure found event
  where
    sure : (found : Settled) → Settles 3 before (Ok found) after → after.doubt ≡ None
    sure Nothing event = ap (λ (s : CacheState). s.doubt) event.1 ∙ event.0
    sure Made event = ap (λ (s : CacheState). s.doubt) event.2
    sure NotMade event = ap (λ (s : CacheState). s.doubt) event.1

-- a settled book that lists the id
pub is_old : (state : CacheState) (id : List ℕ) → state.doubt ≡ None → IsTrue (is_listed state.slots id)
    → AddsTo state.slots id (Ok Old) state
is_old state id none listed = rw (settled-is state.slots state.doubt none) (old listed)
