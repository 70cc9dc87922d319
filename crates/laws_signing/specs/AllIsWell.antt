-- When all is well for the command `sign`: what it finds, that nothing outside fails, and what the members answer.
use Rattle.std.specs.Prelude.{◌≡◌, ◌⊎◌, ◌≤◌, ◌++◌, ℕ, false, List, [], ◌∷◌, length, Some, IsTrue}
use Rattle.coalition_map.specs.Coalitions.{IsPlan}
use Rattle.dealer.specs.Dealt.{IsKeyOf}
use Rattle.dealer.specs.Files.{public_file, reference_file, tree_file}
use Rattle.disk_trait.specs.Faults.{Rose}
use Rattle.leaf_table.specs.Leasing.{IsCoalition, LeaseOf}
use Rattle.leaf_table.specs.declared.lease.Lease.{Lease}
use Rattle.lms_bytes.specs.MessageId.{message_id, message_id_bytes}
use Rattle.lms_verify.specs.UndividedKey.{UndividedKey, public_key_of}
use Rattle.reference_value.specs.Dealing.{Dealing}
use Rattle.session_core.specs.State.{started}
use Rattle.share_files.specs.Sets.{CanBeDealt}
use Rattle.stream_io.specs.Net.{PortState}
use Rattle.stream_io.specs.Store.{has_name}
use Rattle.tool_base.specs.World.{StoreRun}
use Rattle.tool_desk.specs.Files.{key_name, reference_name, tree_name}
use Rattle.tool_sign.specs.Members.{members_placed}
use Rattle.tool_sign.specs.Ports.{NetRun}
use Rattle.tool_sign.specs.Tables.{IsTable, table_header}
use Rattle.tool_sign.specs.Tasks.{message_limit}
use Rattle.tool_words.specs.Words.{SignWords}
use Rattle.laws_signing.specs.Answering.{AllGave}

-- a dealing that can be made, and its undivided key
pub record IsDealing (d : Dealing) (key : UndividedKey) : Type 0 where
  pub set : CanBeDealt d.params
  pub plan : IsPlan d.plan
  pub height : d.plan.h ≡ d.params.h
  pub own : IsKeyOf d key

-- a count of faults has neither risen nor come to its end
abbrev pub IsQuiet : ℕ → ℕ → Type 0
IsQuiet before after = ¬ Rose before after

-- nothing of a store fails: it is steady, or neither of its counts of faults rose
abbrev pub StoreHolds : StoreRun → Type 0
StoreHolds store =
    IsTrue store.before.steady
    ⊎ (IsQuiet store.before.count store.after.count × IsQuiet store.before.disk_count store.after.disk_count)

-- a net makes ports: it is steady, or its count of ports that failed did not rise
abbrev pub PortsHold : NetRun → Type 0
PortsHold net = IsTrue net.before.steady ⊎ IsQuiet net.before.port_count net.after.port_count

-- Store and net tell their content, and nothing outside fails. No dial failed, and no link up to its end, so that the
-- net's count of faults did not rise.
pub record NothingFails (store : StoreRun) (net : NetRun) : Type 0 where
  pub store_told : IsTrue store.before.told
  pub net_told : IsTrue net.before.told
  pub store_holds : StoreHolds store
  pub ports_hold : PortsHold net
  pub links : IsQuiet net.before.count net.after.count

-- OUT is new, the files of PREFIX are those of the dealing, and MESSAGE is the message, which is not too long
pub record HasDealtFiles (words : SignWords) (store : StoreRun) (d : Dealing) (message : List ℕ) : Type 0 where
  pub out_is_new : has_name store.before words.out ≡ false
  pub key : store.before.file (key_name words.prefix) ≡ Some (public_file d)
  pub tree : store.before.file (tree_name words.prefix) ≡ Some (tree_file d)
  pub reference_is : store.before.file (reference_name words.prefix) ≡ Some (reference_file d)
  pub message_is : store.before.file words.message ≡ Some message
  pub limit : length message ≤ message_limit

-- The members that the words name are a coalition, TABLE is a leaf table of the dealing's key and plan, and this is the
-- leaf that its entries have for the coalition and the message.
pub record HasLeaf (words : SignWords) (store : StoreRun) (d : Dealing) (key : UndividedKey) (message : List ℕ)
    (leaf : ℕ) : Type 0 where
  pub number : ℕ
  pub coalition : IsCoalition d.plan (members_placed words.places) number
  pub file : List ℕ
  pub file_is : store.before.file words.table ≡ Some file
  pub entries : List Lease
  pub table : IsTable (table_header (public_key_of key)) d.plan entries file
  pub leaf_is : LeaseOf d.plan entries number (message_id_bytes (message_id message)) (Some leaf)

-- On the links of the one port that was made, in their order, the members gave their own masks for a session of this
-- leaf. Nothing is said about a member that was not dialled.
abbrev pub HaveAnswered : SignWords → NetRun → Dealing → UndividedKey → List ℕ → ℕ → Type 0
HaveAnswered words net d key message leaf =
    (port : PortState) → net.after.kept ≡ net.before.kept ++ (port ∷ [])
    → AllGave d (started (public_key_of key) d.plan leaf (message_id message)) message (members_placed words.places)
    port.talks

-- All is well: the files are of one dealing, a leaf is left for the coalition and the message, nothing outside fails,
-- and the members answer with their own masks.
pub record AllIsWell (words : SignWords) (store : StoreRun) (net : NetRun) (d : Dealing) (key : UndividedKey)
    (message : List ℕ) (leaf : ℕ) : Type 0 where
  pub dealing : IsDealing d key
  pub fails : NothingFails store net
  pub files : HasDealtFiles words store d message
  pub leased : HasLeaf words store d key message leaf
  pub answered : HaveAnswered words net d key message leaf
