-- What is told of a dealing, by how it ends.
use Rattle.std.proofs.Common.{◌≡◌, ◌≢◌, ◌⊎◌, false, ℕ, List, sym, ap, ◌∙◌, inl, inr}
use Rattle.dealer.specs.Told.{told_of}
use Rattle.dealer.specs.declared.faults.DealFault.{DealFault}
use Rattle.dealer.specs.declared.faults.DealFault.TheVariants.{TooHigh, TooWide, BadEntropy, SameKeys, NoMemory}
use Rattle.lms_bytes.specs.declared.params.Params.{Params}
use Rattle.tool_base.specs.Ending as ending
use Rattle.tool_base.specs.Ending.{Ending, status_of}
use Rattle.tool_base.specs.Outputs as outputs
use Rattle.tool_base.specs.Outputs.{FirstNotNew, IsNotNew, IsNotWritten, Output, StopsAfter}
use Rattle.tool_base.specs.Reads as reads
use Rattle.tool_base.specs.Reads.{FailsUpTo}
use Rattle.tool_base.specs.World.{StoreRun}
use Rattle.tool_keys.specs.Deal.{IsDealtTo, IsNotDealt, IsSet}
use Rattle.tool_keys.specs.Deal as deal
use Rattle.tool_keys.specs.Told.{ToldBy, all_told, nothing_told}
use Rattle.tool_keys.specs.Undealt.{end_of_fault}
use Rattle.tool_words.specs.Words.{DealWords}

-- a file that could not be read
pub unread-status : (limit : ℕ) (store : StoreRun) (name : List ℕ) (end : Ending) → FailsUpTo limit store name end → status_of end ≢ 0
unread-status limit store name _ (reads.failed _) = λ e. cc
unread-status limit store name _ (reads.too_long got _) = λ e. cc
unread-status limit store name _ reads.no_memory = λ e. cc

pub fault-status : (fault : DealFault) → status_of (end_of_fault fault) ≢ 0
fault-status (TooHigh h) = λ e. cc
fault-status TooWide = λ e. cc
fault-status (BadEntropy got want) = λ e. cc
fault-status (SameKeys t u) = λ e. cc
fault-status NoMemory = λ e. cc

-- entropy that is not dealt
pub undealt-status : (words : DealWords) (entropy : List ℕ) (end : Ending) → IsNotDealt words entropy end → status_of end ≢ 0
undealt-status words entropy _ (deal.no_set fault is) = λ e. cc
undealt-status words entropy _ (deal.no_threshold params set not) = λ e. cc
undealt-status words entropy _ (deal.too_many_coalitions params set t many) = λ e. cc
undealt-status words entropy _ (deal.faulty params fault set sound has) = fault-status fault
undealt-status words entropy _ (deal.too_large params commit set sound dealable large) = λ e. cc
undealt-status words entropy _ deal.no_memory = λ e. cc

not_new-status : (store : StoreRun) (name : List ℕ) (end : Ending) → IsNotNew store name end → status_of end ≢ 5
not_new-status store name _ (outputs.test_failed failed) = λ e. cc
not_new-status store name _ (outputs.is_there there) = λ e. cc
not_new-status store name _ outputs.no_memory_to_name = λ e. cc

-- a name that was not found new
pub taken-status : (store : StoreRun) (names : List (List ℕ)) (end : Ending) → FirstNotNew store names end → status_of end ≢ 5
taken-status store names end first = not_new-status store first.name end first.cause

not_written-status : (store : StoreRun) (written : List Output) (name : List ℕ) (end : Ending) → IsNotWritten store written name end → status_of end ≢ 5
not_written-status store written name _ (outputs.write_failed failed) = λ e. cc
not_written-status store written name _ (outputs.was_there there) = λ e. cc
not_written-status store written name _ outputs.no_memory_to_write = λ e. cc

-- an output that could not be written
pub unwritten-status : (store : StoreRun) (outputs written : List Output) (end : Ending) → StopsAfter store outputs written end → status_of end ≢ 5
unwritten-status store outputs written end stops = not_written-status store written stops.output.name end stops.cause

-- the end once all outputs are written
pub dealt-status : (words : DealWords) (entropy : List ℕ) (outputs : List Output) (done : Ending) → IsDealtTo words entropy outputs done → status_of done ≢ 5
dealt-status words entropy outputs done dealt = λ (e : status_of done ≡ 5). let is : ◌≡◌ {A = ℕ} 0 5 = sym (ap status_of dealt.done_is) ∙ e in cc

-- memory ran out after all leaves
pub no_memory-all : {P : Type 0} (told : P → ℕ → ℕ → P) (words : DealWords) (params : Params) (old new : P) → words.large ≡ false → IsSet words params
    → new ≡ told_of told params.h old → ToldBy told words 14 old new
no_memory-all told words params old new small set all = all_told (λ e. cc) (record { params = params; set = set; all = rw small all })

-- what a dealing told that was refused, or that ran out of memory
pub refused-told : {P : Type 0} (told : P → ℕ → ℕ → P) (words : DealWords) (params : Params) (entropy : List ℕ) (end : Ending) (old new : P) → words.large ≡ false → IsSet words params
    → IsNotDealt words entropy end → (new ≡ old) ⊎ ((end ≡ ending.NoMemory) × (new ≡ told_of told params.h old)) → ToldBy told words (status_of end) old new
refused-told told words params entropy end old new small set refused (inl nothing) = nothing_told (undealt-status words entropy end refused) nothing
refused-told told words params entropy end old new small set refused (inr all) =
    rw all.0 (no_memory-all told words params old new small set all.1)
