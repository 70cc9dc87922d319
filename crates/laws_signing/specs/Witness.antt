-- Runs over objects in memory for which the premises of a law hold together.
use Rattle.std.specs.Prelude.{◌≡◌, ◌≤◌, ◌++◌, ℕ, List, [], ◌∷◌, Option, None, Some, IsTrue, length, map, option_map}
use Rattle.std.specs.Prelude.{slice_get}
use Rattle.std.specs.declared.alloc.Global.{Global}
use Rattle.std.specs.declared.string.String.{String}
use Rattle.std.specs.declared.vec.Vec.{Vec}
use Rattle.dealer.specs.Files.{public_file, reference_file, tree_file}
use Rattle.leaf_table.specs.Leasing.{IsCoalition, LeaseOf}
use Rattle.leaf_table.specs.declared.lease.Lease.{Lease}
use Rattle.lms_bytes.specs.MessageId.{message_id, message_id_bytes}
use Rattle.lms_verify.specs.UndividedKey.{UndividedKey, public_key_of}
use Rattle.reference_value.specs.Dealing.{Dealing}
use Rattle.session_core.specs.State.{State, started}
use Rattle.share_files.specs.declared.share.Share.{Share}
use Rattle.stream_io.specs.Net.{NetState, PortState}
use Rattle.stream_io.specs.Store.{StoreState}
use Rattle.stream_io.specs.Talk.{Talk}
use Rattle.stream_memory.specs.MemStore.{file_disk, first_of}
use Rattle.stream_memory.specs.Ports.{is_steady_script, least_room}
use Rattle.stream_memory.specs.declared.port_script.PortScript.{PortScript}
use Rattle.tool_base.specs.Ending as ending
use Rattle.tool_base.specs.Ending.{Ending}
use Rattle.tool_base.specs.World.{Outside, StoreRun}
use Rattle.tool_base.specs.declared.unsigned.Unsigned.TheVariants.{Missing}
use Rattle.tool_desk.specs.Files.{key_name, reference_name, tree_name}
use Rattle.tool_sign.specs.Members.{members_placed}
use Rattle.tool_sign.specs.Lost.{longest_asks}
use Rattle.tool_sign.specs.Ports.{NetRun}
use Rattle.tool_sign.specs.Sign.{SigningRun}
use Rattle.tool_sign.specs.Tables.{IsTable, table_header}
use Rattle.tool_sign.specs.Tasks.{message_limit}
use Rattle.tool_trustee.specs.Trustee.{ServedTrustee}
use Rattle.tool_words.specs.Words.{SignWords, TrusteeWords}
use Rattle.trustee_node.specs.Ports.{TakesAll}
use Rattle.laws_signing.specs.AllIsWell.{AllIsWell, IsDealing}
use Rattle.laws_signing.specs.Answering.{IsShareOf, grants}

-- a store that tells its content, and whose calls fail only because of their arguments
pub record IsSteadyStore (store : StoreState) : Type 0 where
  pub told : IsTrue store.told
  pub steady : IsTrue store.steady

-- the same for a net
pub record IsSteadyNet (net : NetState) : Type 0 where
  pub told : IsTrue net.told
  pub steady : IsTrue net.steady

-- internal: the same for a net that nothing was done with, each link of which takes `room` bytes
pub record IsNewNet (room : ℕ) (net : NetState) : Type 0 where
  pub is : IsSteadyNet net
  pub takes : room ≤ net.room
  pub count : net.count ≡ 0
  pub kept : net.kept ≡ []

-- internal: a port of this script is steady, and each of its links takes `room` bytes
pub record IsRoomyScript (room : ℕ) (script : PortScript) : Type 0 where
  pub steady : IsTrue (is_steady_script script)
  pub takes : room ≤ least_room script.waiting.items script.dialled.items

-- a link at which no call failed gave just these bytes
pub record GaveJust (bytes : List ℕ) (talk : Talk) : Type 0 where
  pub faultless : talk.count ≡ 0
  pub bytes_are : talk.taken ++ talk.left ≡ bytes

-- the first link of the first port that a net kept gave just these bytes, and no call of it failed
pub record GaveFirst (net : NetState) (bytes : List ℕ) : Type 0 where
  pub port : PortState
  pub kept : slice_get net.kept 0 ≡ Some port
  pub talk : Talk
  pub first : slice_get port.talks 0 ≡ Some talk
  pub gave : GaveJust bytes talk

-- A trustee was served for which the premises of `steady_trustee` hold: store and net tell their content and are
-- steady, and the net's links take all replies of a connection. The store has just these files, the net kept no port
-- before, and the first link of its first one gave just these asks.
pub record SteadyTrustee (words : TrusteeWords) (file : List ℕ → Option (List ℕ)) (asks : List ℕ)
    (before after : Outside) : Type 0 where
  pub end : Ending
  pub run : ServedTrustee words before after end
  pub store : IsSteadyStore before.store
  pub files : (name : List ℕ) → before.store.file name ≡ file name
  pub net : IsSteadyNet before.net
  pub takes : TakesAll run.share.params before.net.room
  pub unused : before.net.kept ≡ []
  pub gave : GaveFirst after.net asks

-- A run of `sign` for which the premises of the clause `peer` of `causes` hold: it ends with a member that is missing,
-- though the net is steady and its links take the longest asks.
pub record SteadyLoss (words : SignWords) (store : StoreRun) (net : NetRun) : Type 0 where
  pub member : ℕ
  pub round : ℕ
  pub run : SigningRun words store net (ending.NotSigned (Missing member round))
  pub store_is : IsSteadyStore store.before
  pub net_is : IsSteadyNet net.before
  pub takes : longest_asks ≤ net.before.room

-- the bytes of the first of these files under a name
abbrev pub file_in : List (String Global × Vec ℕ Global) → List ℕ → Option (List ℕ)
file_in files name = option_map (λ disk. disk.bytes) (first_of (map file_disk files) name)

-- what the trustee of this number in the dealing replies when it grants both asks
pub record IsGranted (d : Dealing) (s : State) (message : List ℕ) (member : ℕ) (bytes : List ℕ) : Type 0 where
  pub share : Share
  pub own : IsShareOf d share
  pub number : share.member ≡ member
  pub tag : List ℕ
  pub bytes_are : bytes ≡ grants d s message share tag

-- the same for each of these members, in their order
abbrev pub AreGranted : Dealing → State → List ℕ → List ℕ → List (List ℕ) → Type 0
AreGranted d s message [] replies = Unit {0}
AreGranted d s message (member ∷ members) [] = ⊥
AreGranted d s message (member ∷ members) (bytes ∷ replies) =
    IsGranted d s message member bytes × AreGranted d s message members replies

-- These files and replies are of a dealing, by the definitions of their bytes alone: OUT is new, the files of PREFIX
-- are the dealing's, MESSAGE is not too long, TABLE is a leaf table by whose entries this is the coalition's leaf, and
-- the replies are those of its members, which grant both asks of a session with the leaf.
pub record AreDealt (words : SignWords) (file : List ℕ → Option (List ℕ)) (replies : List (List ℕ)) (d : Dealing)
    (key : UndividedKey) (message : List ℕ) (leaf : ℕ) : Type 0 where
  pub dealing : IsDealing d key
  pub out_is_new : file words.out ≡ None
  pub key_is : file (key_name words.prefix) ≡ Some (public_file d)
  pub tree_is : file (tree_name words.prefix) ≡ Some (tree_file d)
  pub reference_is : file (reference_name words.prefix) ≡ Some (reference_file d)
  pub message_is : file words.message ≡ Some message
  pub limit : length message ≤ message_limit
  pub table : List ℕ
  pub table_is : file words.table ≡ Some table
  pub entries : List Lease
  pub has : IsTable (table_header (public_key_of key)) d.plan entries table
  pub number : ℕ
  pub coalition : IsCoalition d.plan (members_placed words.places) number
  pub leaf_is : LeaseOf d.plan entries number (message_id_bytes (message_id message)) (Some leaf)
  pub granted : AreGranted d (started (public_key_of key) d.plan leaf (message_id message)) message
      (members_placed words.places) replies

-- A run of `sign` for which the premise of `completeness` holds, for each dealing that these files and replies are of.
pub record WellRun (words : SignWords) (file : List ℕ → Option (List ℕ)) (replies : List (List ℕ)) (store : StoreRun)
    (net : NetRun) : Type 0 where
  pub end : Ending
  pub run : SigningRun words store net end
  pub well : (d : Dealing) (key : UndividedKey) (message : List ℕ) (leaf : ℕ)
      → AreDealt words file replies d key message leaf → AllIsWell words store net d key message leaf

-- internal: each of these links for which a reply is known gave just that reply
abbrev pub AllGaveJust : List Talk → List (List ℕ) → Type 0
AllGaveJust talks replies = (k : ℕ) (talk : Talk) (bytes : List ℕ) → slice_get talks k ≡ Some talk
    → slice_get replies k ≡ Some bytes → GaveJust bytes talk

-- internal: A run of `sign` in which no call of the net failed, and each link of the one port that was kept gave just
-- the reply of its peer.
pub record HeardRun (words : SignWords) (replies : List (List ℕ)) (store : StoreRun) (net : NetRun) : Type 0 where
  pub end : Ending
  pub run : SigningRun words store net end
  pub faultless : net.after.count ≡ 0
  pub heard : (port : PortState) → net.after.kept ≡ port ∷ [] → AllGaveJust port.talks replies
