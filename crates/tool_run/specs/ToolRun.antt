-- What a call of the tool does: words, status, store and output before and after.
use Rattle.std.specs.Prelude.{◌≡◌, ◌⊎◌, ◌<◌, ⊤, ℕ, List, [], Option, Some, None, ◌++◌, length, IsTrue, ◌==◌}
use Rattle.std.specs.Prelude.{if◌then◌else◌}
use Rattle.disk_trait.specs.Faults.{Rose}
use Rattle.stream_io.specs.Talk.{WrotePart}
use Rattle.tool_base.specs.Ending.{Ending, Usage, NoMemory, status_of, line_of}
use Rattle.tool_keys.specs.Runs.{DealRun}
use Rattle.tool_base.specs.Outputs.{EndsWith}
use Rattle.tool_base.specs.Touched.{EndsTouching}
use Rattle.tool_blame.specs.Blame.{BlameRun}
use Rattle.tool_aggregate.specs.Aggregate.{AggregateRun}
use Rattle.tool_journals.specs.Approve.{ApproveEnds}
use Rattle.tool_journals.specs.Enrol.{EnrolEnds}
use Rattle.tool_journals.specs.Migrate.{MigrateEnds}
use Rattle.tool_sign.specs.HssSign.{HssSigningRun}
use Rattle.tool_run.specs.Drill.{DrillEnds}
use Rattle.tool_keys.specs.HssCheck.{HssCheckEnds}
use Rattle.tool_keys.specs.Rehearse.{RehearseEnds}
use Rattle.tool_keys.specs.Verify.{VerifyEnds}
use Rattle.tool_show.specs.Show.{ShowEnds}
use Rattle.tool_trustee.specs.Trustee.{TrusteeRun}
use Rattle.tool_sign.specs.Ports.{over_net}
use Rattle.tool_sign.specs.Sign.{SigningRun}
use Rattle.tool_words.specs.Words.{Row, Verify, Rehearse, Deal, Enrol, Migrate, Approve, Trustee, Sign, Aggregate}
use Rattle.tool_words.specs.Words.{AggregateWords, Blame, Drill, HssCheck, HssSign, HssSignWords, Show, SignWords}
use Rattle.tool_words.specs.Words.{command_of}
use Rattle.tool_base.specs.World.{AllBack, Onward, Outside, OutputRun, StoreRun, World, from_to}

-- a command that works on the store alone: the net is as it was
pub record OnStore (Run : StoreRun → Ending → Type 0) (before after : Outside) (end : Ending) : Type 0 where
  pub run : Run (from_to before.store after.store) end
  pub net : after.net ≡ before.net

-- the command that signs: it works on the store, over the net
abbrev pub Signs : SignWords → Outside → Outside → Ending → Type 0
Signs words before after = SigningRun words (from_to before.store after.store) (over_net before.net after.net)

-- the command that signs or names members: likewise
abbrev pub Blames : SignWords → Outside → Outside → Ending → Type 0
Blames words before after = BlameRun words (from_to before.store after.store) (over_net before.net after.net)

-- the command that signs for clients: likewise
abbrev pub Aggregates : AggregateWords → Outside → Outside → Ending → Type 0
Aggregates words before after = AggregateRun words (from_to before.store after.store) (over_net before.net after.net)

-- the command that signs a lower key: likewise
abbrev pub SignsLevels : HssSignWords → Outside → Outside → Ending → Type 0
SignsLevels words before after =
    HssSigningRun words (from_to before.store after.store) (over_net before.net after.net)

-- words that are no command: a faulty command line, which changes nothing
abbrev pub IsUsage : Outside → Outside → Ending → Type 0
IsUsage = OnStore (λ store. EndsWith (λ end written. (end ≡ Usage) × (written ≡ [])) store)

-- what a command does and how it ends, according to the rules of that command
abbrev pub CommandRun : Row → Outside → Outside → Ending → Type 0
CommandRun (Verify key message signature) =
    OnStore (λ store. EndsWith (VerifyEnds store key message signature) store)
CommandRun (Rehearse entropy message key_out signature_out) =
    OnStore (λ store. EndsWith (RehearseEnds store entropy message key_out signature_out) store)
CommandRun (Deal words) = OnStore (DealRun words)
CommandRun (Enrol file journal) = OnStore (λ store. EndsTouching (EnrolEnds store file journal) store)
CommandRun (Migrate share journal new) = OnStore (λ store. EndsTouching (MigrateEnds store share journal new) store)
CommandRun (Approve share book message) = OnStore (λ store. EndsTouching (ApproveEnds store share book message) store)
CommandRun (Trustee words) = TrusteeRun words
CommandRun (Sign words) = Signs words
CommandRun (Blame words) = Blames words
CommandRun (HssCheck key message signature) =
    OnStore (λ store. EndsWith (HssCheckEnds store key message signature) store)
CommandRun (HssSign words) = SignsLevels words
CommandRun (Aggregate words) = Aggregates words
CommandRun (Drill number sessions events) =
    OnStore (λ store. EndsWith (λ end written. DrillEnds number sessions events end × (written ≡ [])) store)
CommandRun (Show file leaves) =
    OnStore (λ store. EndsWith (λ end written. ShowEnds store file leaves end × (written ≡ [])) store)

-- internal: the command works on the store alone, and deals nothing
abbrev pub IsOnStore : Row → Type 0
IsOnStore (Deal words) = ⊥
IsOnStore (Trustee words) = ⊥
IsOnStore (Sign words) = ⊥
IsOnStore (Blame words) = ⊥
IsOnStore (HssSign words) = ⊥
IsOnStore (Aggregate words) = ⊥
IsOnStore row = ⊤

-- what words do: words other than a command's are a faulty command line, and change nothing
abbrev pub WordsRun : Option Row → Outside → Outside → Ending → Type 0
WordsRun None = IsUsage
WordsRun (Some row) = CommandRun row

-- the line was printed whole
pub record IsPrinted (output : OutputRun) (line : List ℕ) : Type 0 where
  pub grown : IsTrue output.before.told → output.after.written ≡ output.before.written ++ line

-- The line was not printed whole: the count of faults rose. A steady output lacked the room.
pub record IsCutShort (output : OutputRun) (line : List ℕ) : Type 0 where
  pub grown : IsTrue output.before.told → WrotePart output.before output.after line
  pub rose : Rose output.before.count output.after.count
  pub no_room : IsTrue output.steady → output.room < length line

-- the status if the line could not be printed whole
abbrev pub status_cut_short : Ending → ℕ
status_cut_short ending = if status_of ending == 0 then 3 else status_of ending

-- The status and the output are this end's.
abbrev pub IsAnswered : OutputRun → Ending → ℕ → Type 0
IsAnswered output ending status =
    (IsPrinted output (line_of ending) × (status ≡ status_of ending))
    ⊎ (IsCutShort output (line_of ending) × (status ≡ status_cut_short ending))

-- The status and the output are this end's, or those of want of memory.
pub record EndsSo (output : OutputRun) (end : Ending) (status : ℕ) : Type 0 where
  pub shown : Ending
  pub is : (shown ≡ NoMemory) ⊎ (shown ≡ end)
  pub answered : IsAnswered output shown status

-- A call with these words: it came to an end according to the rules of its command, which say what it did, and its
-- status and its output are that end's or, if there was no memory for the line, those of want of memory. No object
-- changed its kind, no count fell, and all that was handed out is back.
pub record ToolRun (words : List (List ℕ)) (world : World) (status : ℕ) : Type 0 where
  pub end : Ending
  pub ended : WordsRun (command_of words) world.before world.after end
  pub answered : EndsSo world.output end status
  pub onward : Onward world.before world.after
  pub back : AllBack world.before world.after
