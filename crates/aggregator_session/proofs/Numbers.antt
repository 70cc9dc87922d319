-- Counts, rooms and places, as numbers alone: a search among all that is known at a call takes far longer.
use Rattle.std.proofs.Common.{◌≡◌, ◌≢◌, ◌+◌, ◌<◌, ◌≤◌, ℕ, suc, List, Result, Ok, Err, get_or, length, set, subst, sym, arith}
use Rattle.std.proofs.lemmas.List.{get_or-set_other, length-set}
use Rattle.disk_trait.specs.Faults.{Rose}

-- a count that stayed the same and then did not fall
pub count-on : (a b c : ℕ) → b ≡ a → b ≤ c → a ≤ c
count-on a b c same le = omega arith

pub rose-then : (a b c : ℕ) → Rose a b → b ≤ c → Rose a c
rose-then a b c rose le = omega arith

-- one dial that failed, and the links that were hung up with faults
pub once-hung : (a b c faulty : ℕ) → b ≤ a + 1 → c ≤ b + faulty → c ≤ a + faulty + 1
once-hung a b c faulty once most = omega arith

pub none-hung : (a b c faulty : ℕ) → b ≤ a → c ≤ b + faulty → c ≤ a + faulty
none-hung a b c faulty once most = omega arith

-- the room of all asks has that of the first, and after the first that of the second
pub first-fits : (message room : ℕ) → 156 + message ≤ room → 64 ≤ room
first-fits message room fits = omega arith

pub second-fits : (message room left : ℕ) → room ≤ left + 64 → 156 + message ≤ room → 92 + message ≤ left
second-fits message room left kept fits = omega arith

pub one-over : (a b : ℕ) → a ≤ b → a ≤ b + 1
one-over a b le = omega arith

-- a loop that counts to its end, and the frames that are still to be read in one of eight
pub all-gone : (size count end items : ℕ) → size + count ≡ end → end ≤ count → size ≡ items → items ≡ 0
all-gone size count end items is done same = omega arith

pub steps-first : (most : ℕ) → most + 0 ≡ 8 → 8 ≡ most
steps-first most is = omega arith

pub steps-more : (most n : ℕ) → most + (n + 1) ≡ 8 → suc most + n ≡ 8
steps-more most n is = omega arith

pub steps-done : (n : ℕ) → 8 ≤ n → n ≤ 8 → 0 + n ≡ 8
steps-done n least most = omega arith

pub all-dialled : (dialled i many : ℕ) → dialled ≡ i → many ≤ i → i ≤ many → dialled ≡ many
all-dialled dialled i many is done most = omega arith

pub space-left : (dialled i many room : ℕ) → dialled ≡ i → i < many → many ≤ room → dialled < room
space-left dialled i many room is more fits = omega arith

-- a count that stayed the same did not rise
pub is-most : (now before : ℕ) → now ≡ before → now ≤ before
is-most now before same = omega arith

-- the room of a link that had a port's room, and on which the ask of round one was written
pub room-asked : (port had left size : ℕ) → size ≡ 64 → port ≤ had → had ≤ left + size → port ≤ left + 64
room-asked port had left size is some kept = omega arith

pub room-first : (port had size : ℕ) → size ≡ 64 → port ≤ had → 64 ≤ port → size ≤ had
room-first port had size is some fits = omega arith

-- what is left of a link's room once an ask was written and an answer read
pub room-after : (old mid new told seen frame size : ℕ) → old ≤ mid + frame → frame ≡ size → told ≤ seen → told ≡ mid → seen ≡ new → old ≤ new + size
room-after old mid new told seen frame size wrote long read before after = omega arith

-- links that are still to be hung up
pub none-gone : (len end : ℕ) → end ≡ len → len + 0 ≡ end
none-gone len end is = omega arith

pub some-left : (len count end items : ℕ) → len + count ≡ end → count < end → len ≡ items → 0 < items
some-left len count end items is more same = omega arith

pub inside : (i many links : ℕ) → links ≡ many → i < many → i < links
inside i many links same lt = omega arith

-- what holds of the elements from a place on holds of those after it, whatever is put there
module _ {L : Type 0} (P : L → Type 0) (links : List L) (i : ℕ) (link : L) where
  other-place : (k : ℕ) → i + 1 ≤ k → k ≢ i
  other-place k low is = absurd (omega arith)

  before-place : (k : ℕ) → i + 1 ≤ k → i ≤ k
  before-place k low = omega arith

  pub holds-behind : ((k : ℕ) (d : L) → i ≤ k → k < length links → P (get_or links k d))
      → (k : ℕ) (d : L) → i + 1 ≤ k → k < length (set links i link) → P (get_or (set links i link) k d)
  holds-behind all k d low lt = subst P (sym (get_or-set_other links i k link d (other-place k low)))
      (all k d (before-place k low) (subst (λ (n : ℕ). k < n) (length-set links i link) lt))

module _ {V E : Type 0} where
  pub ok-err : (result : Result V E) (value : V) (fault : E) → result ≡ Ok value → result ≡ Err fault → ⊥
  ok-err result value fault is other = absurd (cc)

  pub ok-never : (value : V) (fault : E) → ◌≡◌ {A = Result V E} (Ok value) (Err fault) → ⊥
  ok-never value fault is = absurd (cc)
