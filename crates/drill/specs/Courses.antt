-- internal: How a session of a drill goes on, if no two messages have the same id.
use Rattle.std.specs.Prelude.{◌≡◌, ◌≢◌, ◌⊎◌, ◌<◌, ◌≤◌, ◌%◌, ◌+◌, ◌-◌, ◌*◌, ℕ, suc, List, [], ◌∷◌, All, Contains, IfSome}
use Rattle.std.specs.Prelude.{IsSome, None, Some, Option, length, replicate, slice_index_or, if◌then◌else◌}
use Rattle.coalition_map.specs.Coalitions.{leaf_members}
use Rattle.disk_trait.specs.declared.disk.Pages as pages
use Rattle.disk_trait.specs.declared.faults.Faults as faults
use Rattle.drill_schedule.specs.Draws.{message_bytes, state_at}
use Rattle.drill_schedule.specs.declared.event.Event.{Event}
use Rattle.drill_trustees.specs.Members.{state_after, state_before}
use Rattle.drill_trustees.specs.Trustees.{IsTrustee, SetsAt, leaf_at, share_at}
use Rattle.drill_trustees.specs.declared.trustees.Trustees.{Trustees}
use Rattle.leaf_table.specs.Entries.{IsFree, IsLeased, LeafUse, map_of}
use Rattle.leaf_table.specs.Table.{IsSteady, state_of}
use Rattle.leaf_table.specs.declared.table.Table.{Table}
use Rattle.lms_bytes.specs.Bytes.{joined}
use Rattle.lms_bytes.specs.declared.ask.Ask.{Ask}
use Rattle.lms_bytes.specs.declared.ask.ReplyHead.{ReplyHead}
use Rattle.lms_bytes.specs.declared.params.Params.{Params}
use Rattle.opening_journal.specs.Entries as journals
use Rattle.opening_journal.specs.Entries.{LeafState}
use Rattle.reference_value.specs.Dealing.{Dealing, key_of, leaf_randomizer, random_mask}
use Rattle.reference_value.specs.Places.{tag_in}
use Rattle.session_core.specs.Asks.{ask_with, kept_masks}
use Rattle.session_core.specs.Dealing.{digit_masks}
use Rattle.session_core.specs.Seats.{Seat, is_filled}
use Rattle.session_core.specs.State.{IsSession, State, round_of, seats_of}
use Rattle.session_core.specs.Verdicts.{digest_of}
use Rattle.share_files.specs.declared.share.Share.{Share}
use Rattle.trustee_core.specs.Grants.{ask_of, mask_of, masks_of as mask_count}
use Rattle.trustee_core.specs.declared.grant.Grant.{Grant}
use Rattle.drill.specs.Disks.{opened_for}
use Rattle.drill.specs.Counts.{free_of, held_by, holds, sum_below}
use Rattle.drill.specs.Ids.{DifferentIds, id_of}
use Rattle.drill.specs.Keys.{HasDealing}
use Rattle.drill.specs.Openings.{AreOwn}
use Rattle.drill.specs.Schedules.{Progress, after_event, after_step, cut_asks, cut_in, extra_asks, extra_in, leaves_of}
use Rattle.drill.specs.Schedules.{progress_of}
use Rattle.drill.specs.Seats.{IsOf}
use Rattle.drill.specs.declared.asks.NextAsk.{NextAsk}
use Rattle.drill.specs.declared.desk.Desk.{Desk}
use Rattle.drill.specs.declared.openings.Opening.{Opening}
use Rattle.drill.specs.declared.seat.Seat.{Seat as Place}
use Rattle.drill.specs.declared.state.Asks.{Asks}
use Rattle.drill.specs.declared.state.Drill.{Drill}
use Rattle.drill.specs.declared.tally.Tally.{Tally}
use Rattle.drill.specs.declared.seat.Seat.TheVariants.{Waiting, Running, Signed, Refused}

-- the masks that trustee t has for the present round of a session
abbrev pub own_masks : Dealing → State → List ℕ → ℕ → List ℕ
own_masks d s digest t = elim s.c [
  | None ↦ random_mask d s.leaf t
  | Some c ↦ digit_masks d s.leaf digest t
]

-- nothing from a member is kept, or its own masks are
abbrev pub IsHonest : Dealing → State → List ℕ → Seat → Type 0
IsHonest d s digest seat =
    (seat.code ≡ None) ⊎ ((seat.code ≡ Some 0) × (seat.body ≡ own_masks d s digest seat.member))

-- the ask of the present round, whatever the tag
abbrev pub asked : State → List ℕ → Ask
asked s message = ask_with s [] (digest_of s message)

-- Trustee t has the leaf as it is before the ask of the present round or as it is after it, and as after it if its
-- reply is kept.
pub record Stands (leaves : ℕ → ℕ → LeafState) (s : State) (message : List ℕ) (t : ℕ) : Type 0 where
  pub may : (leaves t s.leaf ≡ state_before (asked s message)) ⊎ (leaves t s.leaf ≡ state_after (asked s message))
  pub kept : kept_masks s (round_of s) t ≢ None → leaves t s.leaf ≡ state_after (asked s message)

-- no other leaf is leased for message i
abbrev pub IsOnly : ℕ → (ℕ → LeafUse) → ℕ → Type 0
IsOnly i map leaf = (q : ℕ) → q < 32 → map q ≡ IsLeased (id_of i) → q ≡ leaf

-- The session belongs to the key and to message i, with a leaf of its coalition that is leased for it, and no other is.
-- It has the dealer's randomizer in round two, and each reply that it keeps is the member's own masks.
pub record IsOnCourse (desk : Desk) (d : Dealing) (i : ℕ) (map : ℕ → LeafUse) (leaves : ℕ → ℕ → LeafState)
    (s : State) : Type 0 where
  pub session : IsSession s
  pub of : IsOf desk.dealt.public desk.plan i s
  pub coalition : s.leaf % 3 ≡ i % 3
  pub leased : map s.leaf ≡ IsLeased (id_of i)
  pub only : IsOnly i map s.leaf
  pub c : IfSome s.c (λ c. c ≡ leaf_randomizer d s.leaf)
  pub seats : All (IsHonest d s (digest_of s (message_bytes i))) (seats_of s)
  pub members : (t : ℕ) → Contains (leaf_members s.plan s.leaf) t → Stands leaves s (message_bytes i) t

-- a reply from each member is kept
abbrev pub AllKept : State → Type 0
AllKept s = (u : ℕ) → 1 ≤ u → u ≤ 3 → Contains (leaf_members s.plan s.leaf) u
    → kept_masks s (round_of s) u ≢ None

-- for how many seats a reply is kept
unfoldable pub count_filled : List Seat → ℕ
count_filled [] = 0
count_filled (seat ∷ seats) = (if is_filled seat then 1 else 0) + count_filled seats

-- no reply from trustee t is kept
abbrev pub Awaits : State → ℕ → Type 0
Awaits s t = Contains (leaf_members s.plan s.leaf) t × (kept_masks s (round_of s) t ≡ None)

-- the ask of the present round to a member for which nothing is kept, with the tag of the desk's reference
pub record IsNext (desk : Desk) (s : State) (message : List ℕ) (next : NextAsk) : Type 0 where
  pub trustee : IsTrustee next.member
  pub awaits : Awaits s next.member
  pub ask : next.ask
      ≡ ask_with s (tag_in s.key.params s.plan desk.dealt.reference.items s.leaf next.member) (digest_of s message)

-- the share is that of trustee t in a dealing
pub record IsShareOf (d : Dealing) (t : ℕ) (share : Share) : Type 0 where
  pub params : share.params ≡ d.params
  pub plan : share.plan ≡ d.plan
  pub id : share.id ≡ d.id
  pub key : share.key ≡ key_of d t
  pub member : share.member ≡ t

-- the leaf and no other is leased for message i, and its members have opened it for this message with the dealer's
-- randomizer
pub record IsSigned (d : Dealing) (i : ℕ) (map : ℕ → LeafUse) (leaves : ℕ → ℕ → LeafState) (leaf : ℕ) : Type 0 where
  pub within : leaf < 32
  pub coalition : leaf % 3 ≡ i % 3
  pub leased : map leaf ≡ IsLeased (id_of i)
  pub only : IsOnly i map leaf
  pub opened : (t : ℕ) → Contains (leaf_members d.plan leaf) t → leaves t leaf ≡ opened_for d i leaf

-- the head of the reply by which a trustee grants an ask
abbrev pub head_with : Params → ℕ → Ask → ReplyHead
head_with params t ask = record {
  key = ask.key;
  leaf = ask.leaf;
  member = t;
  message = ask.message;
  round = elim ask.second [ None ↦ 1 | Some second ↦ 2 ];
  c = elim ask.second [ None ↦ replicate params.n 0 | Some second ↦ second.c ];
  code = 0;
}

-- the masks of a share for an ask, one after the other
abbrev pub masks_joined : Share → Ask → List ℕ
masks_joined share ask = joined (mask_of share ask) (mask_count share.params ask)

-- trustees have the shares of a dealing
abbrev pub HaveShares : Dealing → Trustees → Type 0
HaveShares d trustees = (t : ℕ) → IsTrustee t → IsShareOf d t (share_at trustees t)

-- what the table says about each leaf, and the trustees
pub record World : Type 0 where
  pub uses : ℕ → LeafUse
  pub trustees : Trustees

abbrev pub world : (ℕ → LeafUse) → Trustees → World
world uses trustees = record { uses = uses; trustees = trustees }

-- the next ask of a session was granted: its trustee has the leaf as it is after the ask
pub record IsGranted (desk : Desk) (d : Dealing) (i : ℕ) (old : World) (new : Trustees) (s : State)
    (next : NextAsk) (grant : Option Grant) : Type 0 where
  pub course : IsOnCourse desk d i old.uses (leaf_at old.trustees) s
  pub next_is : IsNext desk s (message_bytes i) next
  pub shares : HaveShares d new
  pub sets : SetsAt old.trustees new next.member s.leaf (state_after (asked s (message_bytes i)))
  pub granted : IsSome grant
  pub ask : IfSome grant (λ grant. ask_of grant ≡ next.ask)

-- no leaf is leased for message i
abbrev pub IsBare : ℕ → (ℕ → LeafUse) → Type 0
IsBare i map = (q : ℕ) → q < 32 → map q ≢ IsLeased (id_of i)

-- Where session i stands: no leaf is leased for it, or it is on its course and a member is awaited, or it has signed,
-- or no leaf of its coalition is free and none is leased for it.
abbrev pub IsGoing : Desk → Dealing → ℕ → (ℕ → LeafUse) → (ℕ → ℕ → LeafState) → Place → Type 0
IsGoing desk d i map leaves Waiting = IsBare i map
IsGoing desk d i map leaves (Running s) = IsOnCourse desk d i map leaves s × ((t : ℕ) × Awaits s t)
IsGoing desk d i map leaves (Signed leaf) = IsSigned d i map leaves leaf
IsGoing desk d i map leaves Refused = ((q : ℕ) → q < 32 → q % 3 ≡ i % 3 → map q ≢ IsFree) × IsBare i map

-- how many steps a session with a leaf has taken: a lease, and an ask for each reply that is kept
abbrev pub steps_in : State → ℕ
steps_in s = (elim s.c [ None ↦ 1 | Some c ↦ 3 ]) + count_filled (seats_of s)

-- the same for every session: one that has ended has taken all five
abbrev pub steps_of : Place → ℕ
steps_of Waiting = 0
steps_of (Running s) = steps_in s
steps_of (Signed leaf) = 5
steps_of Refused = 5

-- session i goes to this place, and has then taken `steps` steps
pub record GoesTo (desk : Desk) (d : Dealing) (i : ℕ) (map : ℕ → LeafUse) (leaves : ℕ → ℕ → LeafState) (steps : ℕ)
    (place : Place) : Type 0 where
  pub going : IsGoing desk d i map leaves place
  pub steps_are : steps_of place ≡ steps

-- nothing is in doubt in a table, and its disk is steady
pub record IsSettled {D : Type 0} {p : pages.Ghosts D} {f : faults.Ghosts D} (table : Table D p f) : Type 0 where
  pub settled : (state_of table).doubt ≡ None
  pub steady : IsSteady table

-- a free leaf of the coalition of session i is leased now for its message, for which none was leased
pub record Takes (i : ℕ) (old new : ℕ → LeafUse) : Type 0 where
  pub leaf : ℕ
  pub within : leaf < 32
  pub coalition : leaf % 3 ≡ i % 3
  pub free : old leaf ≡ IsFree
  pub bare : IsBare i old
  pub leased : new leaf ≡ IsLeased (id_of i)
  pub others : (q : ℕ) → q ≢ leaf → new q ≡ old q

-- no leaf changes, or one is leased for session i
abbrev pub Grows : ℕ → (ℕ → LeafUse) → (ℕ → LeafUse) → Type 0
Grows i old new = ((q : ℕ) → q < 32 → new q ≡ old q) ⊎ Takes i old new

-- trustee t is no member of the coalition of leaf q
abbrev pub IsOut : ℕ → ℕ → Type 0
IsOut t q = Contains (leaf_members (record { n = 3; k = 2; h = 5 }) q) t → ⊥

-- the trustees have free what the table has free, and what is not of their coalitions
abbrev pub AreFree : (ℕ → LeafUse) → (ℕ → ℕ → LeafState) → Type 0
AreFree map leaves = (t q : ℕ) → IsTrustee t → q < 32 → (map q ≡ IsFree) ⊎ IsOut t q → leaves t q ≡ journals.IsFree

-- What session i does to the table and the trustees: at most a free leaf is leased for it, other leaves stay as they
-- are, and so does each leaf with a trustee that is no member, and every ask is granted or stops a disk.
pub record Moves (desk : Desk) (d : Dealing) (i : ℕ) (old new : World) (place : Place) (asks : Asks) : Type 0 where
  pub grows : Grows i old.uses new.uses
  pub going : IsGoing desk d i new.uses (leaf_at new.trustees) place
  pub shares : HaveShares d new.trustees
  pub stays : (t q : ℕ) → IsTrustee t → q < 32 → (new.uses q ≢ IsLeased (id_of i)) ⊎ IsOut t q
      → leaf_at new.trustees t q ≡ leaf_at old.trustees t q
  pub parts : asks.granted + asks.cut ≡ asks.put

-- how many steps at least a session has taken after one more
abbrev pub next_step : Place → ℕ
next_step Waiting = 1
next_step (Running s) = suc (steps_in s)
next_step (Signed leaf) = 5
next_step Refused = 5

-- how many asks a step of a session puts
abbrev pub asks_in : Place → ℕ
asks_in Waiting = 0
asks_in (Running s) = 1
asks_in (Signed leaf) = 0
asks_in Refused = 0

-- how many replies a session has taken in all
abbrev pub replies_of : Place → ℕ
replies_of Waiting = 0
replies_of (Running s) = steps_in s - 1
replies_of (Signed leaf) = 4
replies_of Refused = 0

-- the replies of all sessions
abbrev pub replies_in : List Place → ℕ
replies_in seats = sum_below (λ i. replies_of (slice_index_or seats i Refused)) (length seats)

-- the sessions have come as far as this
pub record Follows (p : Progress) (seats : List Place) : Type 0 where
  pub steps : (i : ℕ) → i < length seats → p.steps i ≡ steps_of (slice_index_or seats i Refused)
  pub leased : (c : ℕ) → c < 3 → p.leased c ≡ held_by c seats

-- A session goes from one place to another by a step: one that has a leaf then has taken one step more, and one that is
-- refused has taken at least as many.
pub record Advances (seat place : Place) (asks : Asks) : Type 0 where
  pub least : next_step seat ≤ steps_of place
  pub exact : holds place ≡ 1 → steps_of place ≡ next_step seat
  pub put : asks.put ≡ asks_in seat

-- a step of session i, from one place to another
pub record Steps (desk : Desk) (d : Dealing) (i : ℕ) (old new : World) (seat place : Place) (asks : Asks)
    : Type 0 where
  pub moves : Moves desk d i old new place asks
  pub advances : Advances seat place asks

-- the leaves of a table
abbrev pub uses_of : {D : Type 0} {p : pages.Ghosts D} {f : faults.Ghosts D} → Table D p f → ℕ → LeafUse
uses_of table = map_of (state_of table).entries

-- A session at this place may take a step: trustees have their shares, nothing is in doubt in the table, what it has
-- free they have free, and the session goes on.
pub record MayStep {D : Type 0} {p : pages.Ghosts D} {f : faults.Ghosts D} (desk : Desk) (d : Dealing) (i : ℕ)
    (table : Table D p f) (trustees : Trustees) (place : Place) : Type 0 where
  pub shares : HaveShares d trustees
  pub settled : IsSettled table
  pub free : AreFree (uses_of table) (leaf_at trustees)
  pub going : IsGoing desk d i (uses_of table) (leaf_at trustees) place

-- a session has signed
abbrev pub HasSigned : Place → Type 0
HasSigned Waiting = ⊥
HasSigned (Running s) = ⊥
HasSigned (Signed leaf) = Unit {0}
HasSigned Refused = ⊥

-- What a step to this place does to the openings: each is that of a session, none is taken away, and there is one if
-- the session has signed.
pub record Opens (desk : Desk) (d : Dealing) (count : ℕ) (map : ℕ → LeafUse) (old new : List Opening) (place : Place)
    : Type 0 where
  pub own : AreOwn desk d count map new
  pub keeps : length old ≤ length new
  pub some : HasSigned place → 0 < length new

-- the leaf is leased for one of `count` sessions, of its own coalition
pub record IsTaken (count : ℕ) (map : ℕ → LeafUse) (q : ℕ) : Type 0 where
  pub session : ℕ
  pub within : session < count
  pub coalition : q % 3 ≡ session % 3
  pub leased : map q ≡ IsLeased (id_of session)

-- each leaf is free, or leased for one of `count` sessions of its coalition
abbrev pub AreTaken : ℕ → (ℕ → LeafUse) → Type 0
AreTaken count map = (q : ℕ) → q < 32 → (map q ≡ IsFree) ⊎ IsTaken count map q

-- All is well in a drill: trustees have their shares, nothing is in doubt, each leaf that is leased is for a session,
-- each session goes on, each coalition has as many leaves that are not free as sessions that have one, each opening is
-- that of a session, and there is one if a session has signed.
pub record IsGood (desk : Desk) (d : Dealing) (drill : Drill) : Type 0 where
  pub different : DifferentIds (length drill.seats.items)
  pub shares : HaveShares d drill.trustees
  pub table : IsSettled drill.table
  pub free : AreFree (uses_of drill.table) (leaf_at drill.trustees)
  pub seats : (i : ℕ) (none : Place) → i < length drill.seats.items
      → IsGoing desk d i (uses_of drill.table) (leaf_at drill.trustees) (slice_index_or drill.seats.items i none)
  pub taken : AreTaken (length drill.seats.items) (uses_of drill.table)
  pub leaves : (c : ℕ) → c < 3 → held_by c drill.seats.items + free_of c (uses_of drill.table) ≡ leaves_of c
  pub openings : AreOwn desk d (length drill.seats.items) (uses_of drill.table) drill.openings.list.items
  pub some : (i : ℕ) (none : Place) → i < length drill.seats.items
      → HasSigned (slice_index_or drill.seats.items i none) → 0 < length drill.openings.list.items

-- a drill in which all is well stays so, and each ask was granted or stopped a disk
pub record StaysGood (desk : Desk) (d : Dealing) (drill : Drill) (asks : Asks) : Type 0 where
  pub good : IsGood desk d drill
  pub parts : asks.granted + asks.cut ≡ asks.put

-- Session i has taken a step in a drill in which all is well: each ask that was put was answered by a reply that it
-- took, and it has come as far as the schedule says.
pub record Stepped (desk : Desk) (d : Dealing) (i : ℕ) (old new : Drill) (asks : Asks) : Type 0 where
  pub stays : StaysGood desk d new asks
  pub goes_on : (none : Place)
      → next_step (slice_index_or old.seats.items i none) ≤ steps_of (slice_index_or new.seats.items i none)
  pub others : (j : ℕ) (none : Place) → j ≢ i
      → slice_index_or new.seats.items j none ≡ slice_index_or old.seats.items j none
  pub taken : asks.put + replies_in old.seats.items ≡ replies_in new.seats.items
  pub follows : (p : Progress) → Follows p old.seats.items → Follows (after_step p i) new.seats.items

-- the next ask of session i was put, if it has one, and the answer was dropped
pub record Drops (desk : Desk) (d : Dealing) (i : ℕ) (old new : Drill) (asks : Asks) : Type 0 where
  pub stays : StaysGood desk d new asks
  pub seats : new.seats.items ≡ old.seats.items
  pub put : asks.put ≡ asks_in (slice_index_or old.seats.items i Refused)

-- An event of session i in a drill in which all is well: the asks are those whose replies were taken, and those whose
-- answers were dropped. A disk stops only if the event is of that kind and the session has a next ask.
pub record Plays (desk : Desk) (d : Dealing) (event : Event) (i : ℕ) (old new : Drill) (asks : Asks) : Type 0 where
  pub stays : StaysGood desk d new asks
  pub follows : (p : Progress) → Follows p old.seats.items → Follows (after_event event p i) new.seats.items
  pub put : (p : Progress) → Follows p old.seats.items
      → asks.put + replies_in old.seats.items ≡ replies_in new.seats.items + extra_in event p i
  pub cut : (p : Progress) → Follows p old.seats.items → asks.cut ≤ cut_in event p i

-- the next ask of session i, if it stands at this place
abbrev pub IsNextOf : Desk → ℕ → NextAsk → Place → Type 0
IsNextOf desk i next Waiting = ⊥
IsNextOf desk i next (Running s) = IsNext desk s (message_bytes i) next
IsNextOf desk i next (Signed leaf) = ⊥
IsNextOf desk i next Refused = ⊥

-- the session has no next ask
abbrev pub HasNoNext : Place → Type 0
HasNoNext Waiting = Unit {0}
HasNoNext (Running s) = AllKept s
HasNoNext (Signed leaf) = Unit {0}
HasNoNext Refused = Unit {0}

-- All is well in a drill. Each ask that was counted was granted or stopped a disk, and all but `extra` are those whose
-- replies the sessions took.
pub record IsWell (desk : Desk) (d : Dealing) (extra : ℕ) (drill : Drill) (tally : Tally) : Type 0 where
  pub good : IsGood desk d drill
  pub parts : tally.granted + tally.cuts ≡ tally.asks
  pub taken : tally.asks ≡ replies_in drill.seats.items + extra

-- `events` events were played, and all is well: a disk has stopped only when it may
pub record HasPlayed (desk : Desk) (d : Dealing) (number sessions events : ℕ) (drill : Drill) (tally : Tally)
    : Type 0 where
  pub well : IsWell desk d (extra_asks number sessions events) drill tally
  pub follows : Follows (progress_of number sessions events) drill.seats.items
  pub cuts : tally.cuts ≤ cut_asks number sessions events

-- If a number of events of a schedule were played and all is well, one more has been played, and all is well. The next
-- is drawn from this state.
abbrev pub PlaysOn : Desk → ℕ → ℕ → Drill → Tally → Drill → Tally → Type 0
PlaysOn desk sessions state drill tally after now =
    (own : HasDealing desk.plan desk.dealt) (number k : ℕ) → state ≡ state_at number (176 + 3 * k)
    → HasPlayed desk own.dealing number sessions k drill tally
    → HasPlayed desk own.dealing number sessions (k + 1) after now

-- session i has ended, and the others are where they were
pub record IsFinished (desk : Desk) (d : Dealing) (extra i : ℕ) (old new : Drill) (tally : Tally) : Type 0 where
  pub well : IsWell desk d extra new tally
  pub ended : (none : Place) → 5 ≤ steps_of (slice_index_or new.seats.items i none)
  pub others : (j : ℕ) (none : Place) → j ≢ i
      → slice_index_or new.seats.items j none ≡ slice_index_or old.seats.items j none

-- all is well, and the first `count` sessions have ended
pub record AreFinished (desk : Desk) (d : Dealing) (extra count : ℕ) (drill : Drill) (tally : Tally) : Type 0 where
  pub well : IsWell desk d extra drill tally
  pub ended : (j : ℕ) (none : Place) → j < count → 5 ≤ steps_of (slice_index_or drill.seats.items j none)

-- a session has signed, or was refused
abbrev pub HasEnded : Place → Type 0
HasEnded Waiting = ⊥
HasEnded (Running s) = ⊥
HasEnded (Signed leaf) = Unit {0}
HasEnded Refused = Unit {0}
