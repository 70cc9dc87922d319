-- What is told of a large dealing, by how it ends.
use Rattle.std.proofs.Common.{◌≡◌, ◌≢◌, ◌⊎◌, ◌*◌, ◌^◌, ◌≤◌, true, ℕ, List, inl, inr}
use Rattle.dealer.specs.Onto.{part_leaves, told_all, told_first}
use Rattle.lms_bytes.specs.declared.params.Params.{Params}
use Rattle.reference_value.specs.Dealing.{Dealing}
use Rattle.stream_io.specs.Store.{PagesState}
use Rattle.tool_base.specs.Ending.{Dealt, Ending, status_of}
use Rattle.tool_base.specs.Outputs.{Output}
use Rattle.tool_base.specs.World.{StoreRun}
use Rattle.tool_keys.specs.Deal.{IsSet}
use Rattle.tool_keys.specs.Large as large
use Rattle.tool_keys.specs.Large.{EndsOn, FailsOnDisk}
use Rattle.tool_keys.specs.Told.{ToldBy, all_told, nothing_told, some_told}
use Rattle.tool_keys.proofs.Telling.{unwritten-status}
use Rattle.tool_words.specs.Words.{DealWords}

failed-status : (d : Dealing) (disk : PagesState) (end : Ending) → FailsOnDisk d disk end → (status_of end ≢ 0) × (status_of end ≢ 5)
failed-status d disk _ (large.out_of_memory is) = (λ e. cc, λ e. cc)
failed-status d disk _ (large.device is) = (λ e. cc, λ e. cc)

pub failed_told : {P : Type 0} (told : P → ℕ → ℕ → P) (words : DealWords) (params : Params) (d : Dealing) (disk : PagesState) (end : Ending) (old new : P)
    → words.large ≡ true → IsSet words params → FailsOnDisk d disk end
    → (new ≡ old) ⊎ (new ≡ told_all told params old) ⊎ ((status_of end ≡ 10)
    × ((k : ℕ) × (k * part_leaves params ≤ 2 ^ params.h) × (new ≡ told_first told params k old))) → ToldBy told words (status_of end) old new
failed_told told words params d disk end old new is set fails (inl nothing) = nothing_told (failed-status d disk end fails).0 nothing
failed_told told words params d disk end old new is set fails (inr (inl all)) =
    all_told (failed-status d disk end fails).1 (record { params = params; set = set; all = rw is all })
failed_told told words params d disk end old new is set fails (inr (inr some)) =
    some_told (inl some.0) (record { large = is; params = params; set = set; k = some.1.0; most = some.1.1; first = some.1.2 })

published-status : (store : StoreRun) (prefix : List ℕ) (d : Dealing) (leaves coalitions : ℕ) (disk : PagesState) (end : Ending) (written : List Output)
    → EndsOn store prefix d (Dealt leaves coalitions) disk end written → status_of end ≢ 5
published-status store prefix d leaves coalitions disk _ written (large.fails end fails) = (failed-status d disk end fails).1
published-status store prefix d leaves coalitions disk _ _ (large.stops end written stop is) = unwritten-status store (large.key_outputs prefix d) written end stop
published-status store prefix d leaves coalitions disk _ written (large.stays_shut is) = λ e. cc
published-status store prefix d leaves coalitions disk _ written (large.opens is) = λ e. cc

pub published_told : {P : Type 0} (told : P → ℕ → ℕ → P) (words : DealWords) (params : Params) (store : StoreRun) (prefix : List ℕ) (d : Dealing)
    (leaves coalitions : ℕ) (disk : PagesState) (end : Ending) (written : List Output) (old new : P) → words.large ≡ true → IsSet words params
    → EndsOn store prefix d (Dealt leaves coalitions) disk end written → new ≡ told_all told params old → ToldBy told words (status_of end) old new
published_told told words params store prefix d leaves coalitions disk end written old new is set ends all =
    all_told (published-status store prefix d leaves coalitions disk end written ends) (record { params = params; set = set; all = rw is all })
