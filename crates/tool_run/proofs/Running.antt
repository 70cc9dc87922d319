-- What a command does to the outside.
use denote.Bor.{Bor}
use Rattle.std.proofs.Common.{◌≡◌, ℕ, Bool, false, List, [], None, Some, refl}
use Rattle.std.proofs.lemmas.List.Elements.{All-nil}
use Rattle.std.specs.Str.{bytes_eq}
use Rattle.disk_trait.specs.Images.{Only}
use Rattle.stream_io.specs.Net.{NetState}
use Rattle.stream_io.specs.Store.{StoreState}
use Rattle.tool_base.specs.Ending as ending
use Rattle.tool_base.specs.Ending.{Ending}
use Rattle.tool_base.specs.Outputs.{EndsWith, IsLeft, Output, all_added}
use Rattle.tool_base.specs.Touched.{Keeps}
use Rattle.tool_base.specs.World.{IsUnchanged, Outside, StoreRun, TimeState, from_to}
use Rattle.tool_base.proofs.Runs.{unchanged_none}
use Rattle.tool_base.proofs.Writing.{ends_untouched}
use Rattle.tool_run.specs.ToolRun.{IsOnStore, OnStore, WordsRun}
use Rattle.tool_words.specs.Rows.{row}
use Rattle.tool_words.specs.declared.command.Command.{Command}
use Rattle.tool_words.specs.declared.command.Command.TheVariants.{Verify, Rehearse, Deal, Enrol, Migrate, Approve}
use Rattle.tool_words.specs.declared.command.Command.TheVariants.{Trustee, Sign, Blame, HssCheck, HssSign}
use Rattle.tool_words.specs.declared.command.Command.TheVariants.{Aggregate, Drill, Show}
use Rattle.tool_words.specs.declared.aggregate_words.AggregateWords.{AggregateWords}
use Rattle.tool_words.specs.declared.deal_words.DealWords.{DealWords}
use Rattle.tool_words.specs.declared.drill_words.DrillWords.{DrillWords}
use Rattle.tool_words.specs.declared.hss_sign_words.HssSignWords.{HssSignWords}
use Rattle.tool_words.specs.declared.sign_words.SignWords.{SignWords}
use Rattle.tool_words.specs.declared.trustee_words.TrusteeWords.{TrusteeWords}

-- a command that leaves the store and the net as they were
pub untouched : (ends : StoreRun → Ending → List Output → Type 0) (before after : Outside) (end : Ending) → IsUnchanged before.store after.store
    → after.net ≡ before.net → ends (from_to before.store after.store) end [] → OnStore (λ store. EndsWith (ends store) store) before after end
untouched ends before after end unchanged same cause = record {
  run = ends_untouched before.store after.store unchanged (ends (from_to before.store after.store)) end cause;
  net = same;
}

left-kept : (a b : StoreState) → Keeps [] a b → IsLeft (from_to a b) []
unfolding all_added
left-kept a b keeps = record {
  file = λ told name. keeps.file told name (All-nil (λ one. bytes_eq name one ≡ false));
  stable = λ told. All-nil (λ output. Only output.bytes (b.leaves output.name));
  readers = λ told. All-nil (λ output. b.readers output.name ≡ Some output.readers);
  others = λ told name image other. keeps.leaves told name image (All-nil (λ one. bytes_eq name one ≡ false));
}

-- a command that keeps all names of the store, and leaves the net as it was
pub kept : (ends : StoreRun → Ending → List Output → Type 0) (before after : Outside) (end : Ending) → Keeps [] before.store after.store
    → after.net ≡ before.net → ends (from_to before.store after.store) end [] → OnStore (λ store. EndsWith (ends store) store) before after end
kept ends before after end keeps same cause = record {
  run = record { written = []; cause = cause; left = left-kept before.store after.store keeps };
  net = same;
}

-- words that are no command
pub usage_run : (a : StoreState) (net : NetState) (time : TimeState)
    → WordsRun None (record { store = a; net = net; time = time }) (record { store = a; net = net; time = time }) ending.Usage
usage_run a net time =
    let still : Outside = record { store = a; net = net; time = time } in
    untouched (λ store end written. (end ≡ ending.Usage) × (written ≡ [])) still still ending.Usage (unchanged_none a) refl (refl, refl)

-- a command that is none of those that need more than the store
pub on_store : (command : Command) → ((words : DealWords) → command ≡ Deal words → ⊥) → ((words : TrusteeWords) → command ≡ Trustee words → ⊥)
    → ((words : SignWords) → command ≡ Sign words → ⊥) → ((words : SignWords) → command ≡ Blame words → ⊥)
    → ((words : HssSignWords) → command ≡ HssSign words → ⊥) → ((words : AggregateWords) → command ≡ Aggregate words → ⊥) → IsOnStore (row command)
on_store (Verify key message signature) deal trustee sign blame hss_sign aggregate = tt
on_store (Rehearse entropy message key_out signature_out) deal trustee sign blame hss_sign aggregate = tt
on_store (Deal words) deal trustee sign blame hss_sign aggregate = deal words refl
on_store (Enrol file journal) deal trustee sign blame hss_sign aggregate = tt
on_store (Migrate share journal new) deal trustee sign blame hss_sign aggregate = tt
on_store (Approve share book message) deal trustee sign blame hss_sign aggregate = tt
on_store (Trustee words) deal trustee sign blame hss_sign aggregate = trustee words refl
on_store (Sign words) deal trustee sign blame hss_sign aggregate = sign words refl
on_store (Blame words) deal trustee sign blame hss_sign aggregate = blame words refl
on_store (HssCheck key message signature) deal trustee sign blame hss_sign aggregate = tt
on_store (HssSign words) deal trustee sign blame hss_sign aggregate = hss_sign words refl
on_store (Aggregate words) deal trustee sign blame hss_sign aggregate = aggregate words refl
on_store (Drill words) deal trustee sign blame hss_sign aggregate = tt
on_store (Show file leaves) deal trustee sign blame hss_sign aggregate = tt

-- a command on the store alone is one of these
pub all_done : (command : Command) → IsOnStore (row command) → ((a b c : Bor (List ℕ)) → command ≡ Verify a b c → ⊥)
    → ((a b c d : Bor (List ℕ)) → command ≡ Rehearse a b c d → ⊥) → ((a b : Bor (List ℕ)) → command ≡ Enrol a b → ⊥)
    → ((a b c : Bor (List ℕ)) → command ≡ Migrate a b c → ⊥) → ((a b c : Bor (List ℕ)) → command ≡ Approve a b c → ⊥)
    → ((a b c : Bor (List ℕ)) → command ≡ HssCheck a b c → ⊥) → ((words : DrillWords) → command ≡ Drill words → ⊥)
    → ((a : Bor (List ℕ)) (b : Bool) → command ≡ Show a b → ⊥) → ⊥
all_done (Verify key message signature) alone verify rehearse enrol migrate approve hss_check drill show = verify key message signature refl
all_done (Rehearse entropy message key_out signature_out) alone verify rehearse enrol migrate approve hss_check drill show = rehearse entropy message key_out signature_out refl
all_done (Deal words) alone verify rehearse enrol migrate approve hss_check drill show = alone
all_done (Enrol file journal) alone verify rehearse enrol migrate approve hss_check drill show = enrol file journal refl
all_done (Migrate share journal new) alone verify rehearse enrol migrate approve hss_check drill show = migrate share journal new refl
all_done (Approve share book message) alone verify rehearse enrol migrate approve hss_check drill show = approve share book message refl
all_done (Trustee words) alone verify rehearse enrol migrate approve hss_check drill show = alone
all_done (Sign words) alone verify rehearse enrol migrate approve hss_check drill show = alone
all_done (Blame words) alone verify rehearse enrol migrate approve hss_check drill show = alone
all_done (HssCheck key message signature) alone verify rehearse enrol migrate approve hss_check drill show = hss_check key message signature refl
all_done (HssSign words) alone verify rehearse enrol migrate approve hss_check drill show = alone
all_done (Aggregate words) alone verify rehearse enrol migrate approve hss_check drill show = alone
all_done (Drill words) alone verify rehearse enrol migrate approve hss_check drill show = drill words refl
all_done (Show file leaves) alone verify rehearse enrol migrate approve hss_check drill show = show file leaves refl
