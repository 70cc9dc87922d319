-- What a seat at a lock's table knows, and what each step does to it.
use Rattle.std.specs.Prelude.{◌≡◌, ℕ, ◌+◌, ◌-◌, ◌^◌, ◌<◌, max, Bool, true, false, List, [], ◌∷◌, ◌++◌, length, drop}
use Rattle.std.specs.Prelude.{Option, Some, None, nat_lt, nat_le, if◌then◌else◌}
use Rattle.atomic_table.specs.Seated.{TableId}
use Rattle.atomic_table.specs.Table.{Me}
use Rattle.turn_lock.specs.Lock.{Lock}
use Rattle.turn_lock.specs.Pass.{Seen, longer_of}
use Rattle.turn_lock.specs.declared.view.Known.{Known}
use Rattle.turn_lock.specs.declared.view.Opening.{Opening}
use Rattle.turn_lock.specs.declared.view.Stage.{Stage}
use Rattle.turn_lock.specs.declared.view.Stage.TheVariants.{Idle, Waiting, Holding}

-- what a lock is made with, in terms of what its value means
abbrev pub opening_of : {T E N : Type 0} → (T → List E) → (T → ℕ) → (T → N) → T → ℕ → ℕ → Opening E N
opening_of entries number name value first passes =
    record { entries = entries value; number = number value; name = Some (name value); first = first; passes = passes }

-- the shorter of two logs
abbrev pub shorter_of : {E : Type 0} → List E → List E → List E
shorter_of xs ys = if nat_lt (length xs) (length ys) then xs else ys

module _ {E N : Type 0} where
  -- the first seat, in which all passes are joined
  abbrev pub starting : Opening E N → Known E N
  starting o = record {
    log = o.entries;
    beside = [];
    floor = o.number;
    rises = 0;
    draws = 0;
    own = [];
    greatest = 0;
    parts = o.passes;
    stage = Idle;
    opening = o;
  }

  -- the seat, with one pass fewer
  abbrev pub rest_of : Known E N → Known E N
  rest_of d = record d { parts = d.parts - 1 }

  -- the seat of that pass
  abbrev pub one_of : Known E N → Known E N
  one_of d = record {
    log = d.log;
    beside = [];
    floor = d.floor;
    rises = 0;
    draws = 0;
    own = [];
    greatest = 0;
    parts = 1;
    stage = Idle;
    opening = d.opening;
  }

  -- the seat in which two are joined
  abbrev pub both_of : Known E N → Known E N → Known E N
  both_of d e = record {
    log = longer_of d.log e.log;
    beside = shorter_of d.log e.log;
    floor = max d.floor e.floor;
    rises = d.rises + e.rises;
    draws = d.draws + e.draws;
    own = d.own ++ e.own;
    greatest = max d.greatest e.greatest;
    parts = d.parts + e.parts;
    stage = Idle;
    opening = d.opening;
  }

  -- the seat that was joined to another
  abbrev pub spent : Known E N
  spent = record {
    log = [];
    beside = [];
    floor = 0;
    rises = 0;
    draws = 0;
    own = [];
    greatest = 0;
    parts = 0;
    stage = Idle;
    opening = record { entries = []; number = 0; name = None; first = 0; passes = 0 };
  }

  -- the seat that drew this ticket
  abbrev pub drawn_by : Known E N → ℕ → Known E N
  drawn_by d t = record d {
    draws = d.draws + 1;
    greatest = max d.greatest t;
    stage = if nat_lt t (2 ^ 62) then Waiting t else Idle;
  }

  -- the seat with the turn of this ticket, over a value with these entries and this number
  abbrev pub holding : Known E N → ℕ → List E → ℕ → Known E N
  holding d t entries number = record d { log = entries; floor = number; stage = Holding t }

  -- the seat that gave back a value with these entries and this number
  abbrev pub given : Known E N → List E → ℕ → Known E N
  given d entries number = record d {
    log = entries;
    floor = number;
    rises = d.rises + (number - d.floor);
    own = d.own ++ drop (length d.log) entries;
    stage = Idle;
  }

  -- the seat whose two logs were compared
  abbrev pub compared : Known E N → Known E N
  compared d = record d { beside = [] }

  -- how many worn tickets the passes in a seat may have drawn: a pass that drew one draws no more
  abbrev pub worn_parts : Known E N → ℕ
  worn_parts d = if nat_le (2 ^ 62) d.greatest then d.parts else 0

-- whether a seat holds the turn
abbrev pub holds_turn : Stage → Bool
holds_turn Idle = false
holds_turn (Waiting t) = false
holds_turn (Holding t) = true

-- whether a seat waits for its turn
abbrev pub is_waiting : Stage → Bool
is_waiting Idle = false
is_waiting (Waiting t) = true
is_waiting (Holding t) = false

-- the slots that are out with a seat, whose value is in the pass's hand
abbrev pub slots_of : {T : Type 0} → Stage → List (ℕ × Option T)
slots_of Idle = []
slots_of (Waiting t) = []
slots_of (Holding t) = (0, None) ∷ []

-- the lock of a table that was made with this
abbrev pub lock_of : {E N : Type 0} → TableId → Opening E N → Lock E N
lock_of id o = record {
  id = id;
  opening_log = o.entries;
  opening_number = o.number;
  name = o.name;
  first_ticket = o.first;
  passes = o.passes;
}

-- what a pass has seen, by what its seat knows
abbrev pub seen_of : {E N : Type 0} → TableId → Known E N → Seen E N
seen_of id d = record {
  lock = lock_of id d.opening;
  log = d.log;
  floor = d.floor;
  rises = d.rises;
  draws = d.draws;
  own = d.own;
  greatest = d.greatest;
  name = d.opening.name;
  joined = d.parts;
  in_turn = holds_turn d.stage;
}

-- a pass between two calls: its two numbers are its seat's, and its seat doesn't wait
pub record IsSettled {T E N : Type 0} (m : Me (Option T) (Known E N)) (joined greatest : ℕ) : Type 0 where
  pub count : joined ≡ m.0.parts
  pub drawn : greatest ≡ m.0.greatest
  pub some_part : 0 < m.0.parts
  pub alone : m.0.beside ≡ []
  pub slots : m.1 ≡ slots_of m.0.stage
  pub at_rest : is_waiting m.0.stage ≡ false
