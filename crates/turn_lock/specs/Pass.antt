-- What a pass of a lock has seen.
use Rattle.std.specs.Prelude.{◌≡◌, ℕ, ◌+◌, ◌-◌, ◌^◌, ◌<◌, ◌≤◌, ◌⊎◌, max, Bool, true, false, List, [], ◌++◌, length}
use Rattle.std.specs.Prelude.{drop, count_by, Option, Some, nat_lt, if◌then◌else◌}
use mathlib.Core.List.{IsPrefix}
use Rattle.turn_lock.specs.Lock.{Lock}

-- A pass: its lock, the seven parts of what it has seen, how many passes are joined in it, and whether it holds the
-- turn.
-- log: the longest list of entries that it saw; floor: the greatest number that it saw
-- rises: by how much the number rose in its turns; draws: how many tickets it drew
-- own: the entries that its turns added; greatest: the greatest ticket that it drew, and 0 before the first
-- name: that of the value that the lock was made with
pub record Seen (E N : Type 0) : Type 0 where
  pub lock : Lock E N
  pub log : List E
  pub floor : ℕ
  pub rises : ℕ
  pub draws : ℕ
  pub own : List E
  pub greatest : ℕ
  pub name : Option N
  pub joined : ℕ
  pub in_turn : Bool

-- the longer of two logs
abbrev pub longer_of : {E : Type 0} → List E → List E → List E
longer_of xs ys = if nat_lt (length xs) (length ys) then ys else xs

module _ {E N : Type 0} where
  -- a pass that was just made with this lock
  abbrev pub first_pass : Lock E N → Seen E N
  first_pass lock = record {
    lock = lock;
    log = lock.opening_log;
    floor = lock.opening_number;
    rises = 0;
    draws = 0;
    own = [];
    greatest = 0;
    name = lock.name;
    joined = 1;
    in_turn = false;
  }

  -- what stays as it is for good
  pub record SamePass (old new : Seen E N) : Type 0 where
    pub lock : new.lock ≡ old.lock
    pub name : new.name ≡ old.name

  -- A turn begins, at a value with these entries, this number and this name: it goes on from what the pass had seen,
  -- and the pass has seen it now. The ticket of the turn is below 2^62.
  pub record Takes (entries : List E) (number : ℕ) (name : N) (old new : Seen E N) : Type 0 where
    pub begins : IsPrefix old.log entries
    pub reaches : old.floor ≤ number
    pub named : Some name ≡ old.name
    pub log : new.log ≡ entries
    pub floor : new.floor ≡ number
    pub turn : new.in_turn ≡ true
    pub fresh : new.greatest < 2 ^ 62

  -- no turn begins, since the pass has drawn a ticket of 2^62 or more: it has seen nothing more
  pub record IsWornOut (old new : Seen E N) : Type 0 where
    pub log : new.log ≡ old.log
    pub floor : new.floor ≡ old.floor
    pub turn : new.in_turn ≡ false
    pub worn : 2 ^ 62 ≤ new.greatest

  -- A ticket is drawn, so the greatest does not fall; a pass that is worn draws none. If all passes of the lock are
  -- joined in this one, the ticket is the first one plus the number of tickets that were drawn.
  pub record DrawsOne (lock : Lock E N) (old new : Seen E N) : Type 0 where
    pub draws : old.greatest < 2 ^ 62 → new.draws ≡ old.draws + 1
    pub still_worn : 2 ^ 62 ≤ old.greatest → new ≡ old
    pub greatest : old.greatest ≤ new.greatest
    pub next : old.greatest < 2 ^ 62 → old.joined ≡ lock.passes → new.greatest ≡ lock.first_ticket + old.draws

  -- what stays as it is when a turn is taken: what the turns of the pass did
  pub record SameDone (old new : Seen E N) : Type 0 where
    pub rises : new.rises ≡ old.rises
    pub own : new.own ≡ old.own
    pub joined : new.joined ≡ old.joined
    pub same : SamePass old new

  -- A turn ends, at a value with these entries and this number: what it added to the log, and by how much the number
  -- rose in it, is the pass's own.
  pub record Gives (entries : List E) (number : ℕ) (old new : Seen E N) : Type 0 where
    pub log : new.log ≡ entries
    pub floor : new.floor ≡ number
    pub rises : new.rises ≡ old.rises + (number - old.floor)
    pub own : new.own ≡ old.own ++ drop (length old.log) entries
    pub turn : new.in_turn ≡ false

  -- what stays as it is when a turn is given back: the tickets of the pass
  pub record SameDrawn (old new : Seen E N) : Type 0 where
    pub draws : new.draws ≡ old.draws
    pub greatest : new.greatest ≡ old.greatest
    pub joined : new.joined ≡ old.joined
    pub same : SamePass old new

  -- another pass is joined in this one: one of their two logs begins the other, and the longer is kept
  pub record Joins (old other new : Seen E N) : Type 0 where
    pub one_log : IsPrefix old.log other.log ⊎ IsPrefix other.log old.log
    pub log : new.log ≡ longer_of old.log other.log
    pub floor : new.floor ≡ max old.floor other.floor
    pub rises : new.rises ≡ old.rises + other.rises
    pub draws : new.draws ≡ old.draws + other.draws
    pub own : new.own ≡ old.own ++ other.own
    pub greatest : new.greatest ≡ max old.greatest other.greatest
    pub joined : new.joined ≡ old.joined + other.joined
    pub same : SamePass old new

  -- what is true of the pass in which all passes of the lock are joined
  pub record IsWhole (lock : Lock E N) (pass : Seen E N) : Type 0 where
    -- each ticket that was drawn is below the next one
    pub tickets : 0 < pass.draws → pass.greatest < lock.first_ticket + pass.draws
    pub no_ticket : pass.draws ≡ 0 → pass.greatest ≡ 0
    -- the number rose in turns alone
    pub rises : pass.floor ≡ lock.opening_number + pass.rises
    -- each entry is in the log as often as in the first list and the own entries together
    pub entries : (test : E → Bool) → count_by test pass.log ≡ count_by test lock.opening_log + count_by test pass.own
