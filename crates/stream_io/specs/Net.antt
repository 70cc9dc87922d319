-- What ports and nets are in one state, and what their calls make of them.
use Rattle.std.specs.Prelude.{◌≡◌, ◌≢◌, ◌+◌, ◌-◌, ◌++◌, ◌≤◌, ℕ, Bool, false, List, [], ◌∷◌, length, Option, Some, None}
use Rattle.std.specs.Prelude.{IsTrue, All, min, ⊤}
use Rattle.std.specs.Str.{bytes_eq}
use Rattle.stream_io.specs.Store.{RisesWhere}
use Rattle.stream_io.specs.Talk.{Ended, Talk}

-- A port in one state. What is said of links, of who is there to be dialled and of conversations means something only
-- if the port tells its content.
pub record PortState : Type 0 where
  -- whether it tells its content, and whether its calls fail for their arguments alone
  pub told : Bool
  pub steady : Bool
  -- the place that it listens at, and none if it only dials
  pub place : Option (List ℕ)
  -- its count of faults, and how often accepting failed
  pub count : ℕ
  pub accept_count : ℕ
  -- how many links there still are to accept
  pub waiting : ℕ
  -- at which places somebody is there to be dialled
  pub reaches : List ℕ → Bool
  -- how many bytes each link that it makes takes for sure, if that link is steady
  pub room : ℕ
  -- the conversations that were hung up, each as it had ended then, the oldest first
  pub talks : List Talk

-- what no call changes, and counts that no call lowers
pub record PortOnward (old new : PortState) : Type 0 where
  pub told : new.told ≡ old.told
  pub steady : new.steady ≡ old.steady
  pub place : new.place ≡ old.place
  pub count : old.count ≤ new.count
  pub accept_count : old.accept_count ≤ new.accept_count
  pub room : old.room ≤ new.room

-- a link that a port has just made, to a place that was dialled or to none, and how many bytes it takes for sure
pub record IsNewLink (port : PortState) (dialled : Option (List ℕ)) (talk : Talk) (is_steady : Bool) (takes : ℕ)
    : Type 0 where
  pub told : IsTrue port.told → IsTrue talk.told
  pub steady : IsTrue port.steady → IsTrue is_steady
  pub place : IsTrue port.told → talk.place ≡ dialled
  pub taken : IsTrue port.told → talk.taken ≡ []
  pub written : IsTrue port.told → talk.written ≡ []
  pub count : talk.count ≡ 0
  pub room : port.room ≤ takes

-- no link is gone from those that wait, and nobody from those who can be dialled
pub record SameLinks (old new : PortState) : Type 0 where
  pub waiting : new.waiting ≡ old.waiting
  pub reaches : new.reaches ≡ old.reaches
  pub talks : new.talks ≡ old.talks

-- a link was accepted
pub record Accepts (old : PortState) (talk : Talk) (steady : Bool) (room : ℕ) (new : PortState) : Type 0 where
  pub listens : old.place ≢ None
  pub link : IsNewLink old None talk steady room
  pub waiting : IsTrue old.told → old.waiting ≡ new.waiting + 1
  pub reaches : new.reaches ≡ old.reaches
  pub talks : new.talks ≡ old.talks

-- somebody was dialled at a place: it may be that nobody else is there, and at every other place nothing changed
pub record Dials (old : PortState) (place : List ℕ) (talk : Talk) (steady : Bool) (room : ℕ) (new : PortState)
    : Type 0 where
  pub there : IsTrue old.told → IsTrue (old.reaches place)
  pub link : IsNewLink old (Some place) talk steady room
  pub waiting : new.waiting ≡ old.waiting
  pub reaches : IsTrue old.told → (other : List ℕ) → bytes_eq other place ≡ false
      → new.reaches other ≡ old.reaches other
  pub talks : new.talks ≡ old.talks

-- A conversation is kept. The count rises by one if its count is not 0.
pub record KeepsTalk (old : PortState) (last : Talk) (new : PortState) : Type 0 where
  pub count : RisesWhere (last.count ≢ 0) old.count new.count
  pub once : new.count ≤ old.count + min last.count 1
  pub accept_count : new.accept_count ≡ old.accept_count
  pub waiting : new.waiting ≡ old.waiting
  pub reaches : new.reaches ≡ old.reaches
  pub talks : IsTrue old.told → new.talks ≡ old.talks ++ (last ∷ [])

-- a link was hung up, and its conversation is kept as it then ended
pub record HangsUp (old : PortState) (talk : Talk) (new : PortState) : Type 0 where
  pub last : Talk
  pub ended : Ended talk last
  pub kept : KeepsTalk old last new

-- A net in one state. What is said of places and of ports means something only if the net tells its content.
pub record NetState : Type 0 where
  -- whether it tells its content, and whether its calls fail for their arguments alone
  pub told : Bool
  pub steady : Bool
  -- its count of faults, and how often making ports failed or ports came back that had failed to accept
  pub count : ℕ
  pub port_count : ℕ
  -- at which places ports may listen
  pub offers : List ℕ → Bool
  -- how many bytes each link of its ports takes for sure, if that link is steady
  pub room : ℕ
  -- how many ports are out
  pub out : ℕ
  -- the ports that were given back
  pub kept : List PortState

-- what no call changes, and counts that no call lowers
pub record NetOnward (old new : NetState) : Type 0 where
  pub told : new.told ≡ old.told
  pub steady : new.steady ≡ old.steady
  pub count : old.count ≤ new.count
  pub port_count : old.port_count ≤ new.port_count
  pub room : old.room ≤ new.room

-- no port is out or back beyond those that were, and the places are as they were
pub record SameNet (old new : NetState) : Type 0 where
  pub offers : new.offers ≡ old.offers
  pub out : new.out ≡ old.out
  pub kept : new.kept ≡ old.kept

-- the net has this place to listen at, or is asked for ports that only dial
abbrev pub IsOffered : NetState → Option (List ℕ) → Type 0
IsOffered net None = ⊤
IsOffered net (Some place) = IsTrue (net.offers place)

-- a port that a net has just made
pub record IsNewPort (net : NetState) (listens : Option (List ℕ)) (port : PortState) : Type 0 where
  pub told : IsTrue net.told → IsTrue port.told
  pub steady : IsTrue net.steady → IsTrue port.steady
  pub place : port.place ≡ listens
  pub count : port.count ≡ 0
  pub accept_count : port.accept_count ≡ 0
  pub talks : port.talks ≡ []
  pub room : net.room ≤ port.room

-- `count` ports were made
pub record MakesPorts (old : NetState) (place : Option (List ℕ)) (count : ℕ) (ports : List PortState) (new : NetState)
    : Type 0 where
  pub many : length ports ≡ count
  pub new_ports : All (IsNewPort old place) ports
  pub offered : IsTrue old.told → IsOffered old place
  pub out : IsTrue old.told → new.out ≡ old.out + count
  pub kept : new.kept ≡ old.kept

-- at least one of these ports has counted a fault
abbrev pub SomeFailed : List PortState → Type 0
SomeFailed ports = All (λ port. port.count ≡ 0) ports → ⊥

-- at least one of these ports failed to accept
abbrev pub SomeUnaccepted : List PortState → Type 0
SomeUnaccepted ports = All (λ port. port.accept_count ≡ 0) ports → ⊥

-- ports were given back
pub record Gathers (old : NetState) (ports : List PortState) (new : NetState) : Type 0 where
  pub count : RisesWhere (SomeFailed ports) old.count new.count
  pub port_count : RisesWhere (SomeUnaccepted ports) old.port_count new.port_count
  pub out : IsTrue old.told → new.out ≡ old.out - length ports
  pub kept : IsTrue old.told → new.kept ≡ old.kept ++ ports
