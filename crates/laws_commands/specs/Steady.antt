-- Calls of the tool over objects that do not fail except for their arguments.
use Rattle.std.specs.Prelude.{◌≡◌, ◌≢◌, ◌⊎◌, ◌≤◌, ℕ, List, [], ◌∷◌, Option, None, Some, Contains, IsTrue, All}
use Rattle.std.specs.Prelude.{IsSome, true, false, if◌then◌else◌}
use Rattle.std.specs.Str.{bytes_eq}
use Rattle.stream_io.specs.Net.{NetState}
use Rattle.stream_io.specs.Store.{StoreState}
use Rattle.tool_base.specs.Ending.{Ending, DeviceFailed, Exists, NoMemory, NotLoaded, NotSigned, Served, StoreFailed}
use Rattle.tool_base.specs.Ending.{TooLong, Unreadable, Verified, line_of, status_of}
use Rattle.tool_base.specs.World.{World}
use Rattle.tool_base.specs.declared.unsigned.Unsigned.TheVariants.{Missing, NotACoalition}
use Rattle.tool_blame.specs.Commits.{commits_name}
use Rattle.tool_desk.specs.Files.{key_name, reference_name, tree_name}
use Rattle.laws_commands.specs.Losing.{LosesByPeer}
use Rattle.laws_commands.specs.Serving.{ServesAll}
use Rattle.tool_run.specs.ToolRun.{CommandRun, IsPrinted}
use Rattle.tool_sign.specs.Lost.{longest_asks}
use Rattle.tool_words.specs.Words.{Row, Verify, Rehearse, Deal, Enrol, Migrate, Approve, Trustee, Sign, Aggregate}
use Rattle.tool_words.specs.Words.{Blame, Drill, HssCheck, HssSign, Show, TrusteeWords}

-- the book of a trustee, if there is one
abbrev pub book_of : Option (List ℕ) → List (List ℕ)
book_of None = []
book_of (Some book) = book ∷ []

-- the files of a dealing that an aggregator reads
abbrev pub dealing_names : List ℕ → List (List ℕ) → List (List ℕ)
dealing_names prefix names = key_name prefix ∷ tree_name prefix ∷ reference_name prefix ∷ names

-- the names that a command reads, takes or views
abbrev pub names_read : Row → List (List ℕ)
names_read (Verify key message signature) = key ∷ message ∷ signature ∷ []
names_read (Rehearse entropy message key_out signature_out) = entropy ∷ message ∷ []
names_read (Deal words) = words.entropy ∷ []
names_read (Enrol file journal) = file ∷ []
names_read (Migrate share journal new) = share ∷ journal ∷ []
names_read (Approve share book message) = share ∷ message ∷ book ∷ []
names_read (Trustee words) = words.share ∷ words.journal ∷ book_of words.book
names_read (Sign words) = dealing_names words.prefix (words.message ∷ words.table ∷ [])
names_read (Blame words) =
    dealing_names words.prefix (commits_name words.prefix ∷ words.message ∷ words.table ∷ [])
names_read (HssCheck key message signature) = key ∷ message ∷ signature ∷ []
names_read (HssSign words) = words.low_key ∷ words.low_signature ∷ words.message
    ∷ dealing_names words.prefix (words.table ∷ [])
names_read (Aggregate words) = dealing_names words.prefix (words.table ∷ [])
names_read (Drill number sessions events) = []
names_read (Show file leaves) = file ∷ []

-- Those of them that have to be there, in the order in which they are asked for: `approve` makes its book if there is
-- none.
abbrev pub names_needed : Row → List (List ℕ)
names_needed (Approve share book message) = share ∷ message ∷ []
names_needed row = names_read row

-- those that a command has found by the time it finds that a name is taken which has to be new
abbrev pub before_outputs : Row → List (List ℕ)
before_outputs (Deal words) = words.entropy ∷ []
before_outputs (Enrol file journal) = file ∷ []
before_outputs (Migrate share journal new) = share ∷ []
before_outputs row = []

-- those that it has found by the time a file of slots does not load: a trustee loads its journal before its book
abbrev pub up_to_slots : Row → List (List ℕ)
up_to_slots (Trustee words) = words.share ∷ words.journal ∷ []
up_to_slots row = names_needed row

-- those that it has found by the time its members are no coalition: all but the leaf table
abbrev pub before_table : Row → List (List ℕ)
before_table (Sign words) = dealing_names words.prefix (words.message ∷ [])
before_table (Blame words) = dealing_names words.prefix (commits_name words.prefix ∷ words.message ∷ [])
before_table (HssSign words) =
    words.low_key ∷ words.low_signature ∷ words.message ∷ dealing_names words.prefix []
before_table row = names_needed row

-- those that it has found by the time it tells of a verdict: `hss sign` begins with the lower signature
abbrev pub up_to_verdict : Row → List (List ℕ)
up_to_verdict (HssSign words) = words.low_key ∷ words.low_signature ∷ words.message ∷ []
up_to_verdict row = names_needed row

-- the first of names
abbrev pub first_of : List (List ℕ) → List (List ℕ)
first_of [] = []
first_of (name ∷ names) = name ∷ []

-- names up to this one, which is the last
abbrev pub up_to : List ℕ → List (List ℕ) → List (List ℕ)
up_to name [] = []
up_to name (one ∷ names) = one ∷ (if bytes_eq one name then [] else up_to name names)

-- The names that a command has surely found if it ends like this: those that it asks for before the test that this end
-- shows. A call that failed and memory that ran out show no test. A file that is too long may be the first one.
abbrev pub names_found : Row → Ending → List (List ℕ)
names_found row StoreFailed = []
names_found row DeviceFailed = []
names_found row NoMemory = []
names_found row (TooLong got) = first_of (names_needed row)
names_found row (Unreadable name fault) = up_to name (names_needed row)
names_found row (Exists name) = before_outputs row
names_found row (NotLoaded fault) = up_to_slots row
names_found row (NotSigned NotACoalition) = before_table row
names_found row (Verified verdict) = up_to_verdict row
names_found row end = names_needed row

-- the place at which a command listens
abbrev pub place_of : Row → Option (List ℕ)
place_of (Verify key message signature) = None
place_of (Rehearse entropy message key_out signature_out) = None
place_of (Deal words) = None
place_of (Enrol file journal) = None
place_of (Migrate share journal new) = None
place_of (Approve share book message) = None
place_of (Trustee words) = Some words.place
place_of (Sign words) = None
place_of (Blame words) = None
place_of (HssCheck key message signature) = None
place_of (HssSign words) = None
place_of (Aggregate words) = Some words.place
place_of (Drill number sessions events) = None
place_of (Show file leaves) = None

-- Nothing is read under a name that the command reads, takes or views. For a trustee this is also so if its book is to
-- be its journal, whose disk is out by then.
pub data Lacks (store : StoreState) (row : Row) : Type 0 where
  no_file : (name : List ℕ) → Contains (names_read row) name → store.file name ≡ None → Lacks store row
  one_file : (words : TrusteeWords) (name : List ℕ) → row ≡ Trustee words → words.book ≡ Some name
      → bytes_eq name words.journal ≡ true → Lacks store row

-- the net does not offer the place at which the command listens
pub record IsUnoffered (net : NetState) (row : Row) : Type 0 where
  pub place : List ℕ
  pub is : place_of row ≡ Some place
  pub none : net.offers place ≡ false

-- What is known of a call with this command that answers this status, by the end whose line it printed and by the one
-- that it came to, which is another one only if there was no memory for the line. Status 3 comes only if nothing is
-- read under one of its names, 17 only if its place is not offered, and 10 never. The names that the command asks for
-- before the test that this end shows are there; if it served, its place is offered, and nothing failed; and if the
-- net's links have room for the asks of the longest message, it lost a member only because of the peer.
pub record HasCauses (world : World) (row : Row) (status : ℕ) : Type 0 where
  pub end : Ending
  pub came : Ending
  pub end_is : (end ≡ NoMemory) ⊎ (end ≡ came)
  pub ran : CommandRun row world.before world.after came
  pub is_printed : IsPrinted world.output (line_of end)
  pub status_is : status ≡ status_of end
  pub lacks : status ≡ 3 → Lacks world.before.store row
  pub no_device : status ≢ 10
  pub unoffered : status ≡ 17 → IsUnoffered world.before.net row
  pub found : All (λ name. IsSome (world.before.store.file name)) (names_found row end)
  pub offered : (place : List ℕ) (connections frames : ℕ) → place_of row ≡ Some place → end ≡ Served connections frames
      → IsTrue (world.before.net.offers place)
  pub serves : (place : List ℕ) (connections frames : ℕ) → place_of row ≡ Some place → came ≡ Served connections frames
      → ServesAll world.before world.after row came
  pub peer : (member round : ℕ) → longest_asks ≤ world.before.net.room → came ≡ NotSigned (Missing member round)
      → LosesByPeer row world.before world.after member round
