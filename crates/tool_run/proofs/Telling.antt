-- What words tell, depending on the status that is answered.
use denote.Bor.{Bor}
use Rattle.std.proofs.Common.{◌≡◌, ◌≢◌, ◌==◌, ◌⊎◌, ℕ, zero, suc, Option, Some, None, if◌then◌else◌, inl, inr, refl, sym, ap, ◌∙◌, arith}
use Rattle.std.proofs.lemmas.Bool.Decides.{nat_tests}
use Rattle.tool_base.specs.Ending.{Ending, status_of}
use Rattle.tool_base.specs.World.{OutputRun}
use Rattle.tool_keys.specs.Told.{all_told, nothing_told, some_told}
use Rattle.tool_run.specs.Told.{WordsTell}
use Rattle.tool_run.specs.ToolRun.{EndsSo}
use Rattle.tool_words.specs.Rows.{row}
use Rattle.tool_words.specs.Words as words
use Rattle.tool_words.specs.Words.{Row}
use Rattle.tool_words.specs.declared.command.Command.{Command}
use Rattle.tool_words.specs.declared.command.Command.TheVariants.{Verify, Rehearse, Deal, Enrol, Migrate, Approve}
use Rattle.tool_words.specs.declared.command.Command.TheVariants.{Trustee, Sign, Blame, HssCheck, HssSign}
use Rattle.tool_words.specs.declared.command.Command.TheVariants.{Aggregate, Drill, Show}
use Rattle.tool_words.specs.declared.deal_words.DealWords.{DealWords}

-- a command that deals nothing tells nothing
pub tells-nothing : {P : Type 0} (told : P → ℕ → ℕ → P) (command : Command) (status : ℕ) (it : P) → ((words : DealWords) → command ≡ Deal words → ⊥)
    → WordsTell told (Some (row command)) status it it
tells-nothing told (Verify key message signature) status it other = refl
tells-nothing told (Rehearse entropy message key_out signature_out) status it other = refl
tells-nothing told (Deal words) status it other = absurd (other words refl)
tells-nothing told (Enrol file journal) status it other = refl
tells-nothing told (Migrate share journal new) status it other = refl
tells-nothing told (Approve share book message) status it other = refl
tells-nothing told (Trustee words) status it other = refl
tells-nothing told (Sign words) status it other = refl
tells-nothing told (Blame words) status it other = refl
tells-nothing told (HssCheck key message signature) status it other = refl
tells-nothing told (HssSign words) status it other = refl
tells-nothing told (Aggregate words) status it other = refl
tells-nothing told (Drill words) status it other = refl
tells-nothing told (Show file leaves) status it other = refl

-- a status that is answered, and is not that of a line that was cut short, is that of what is shown
shown-status : (shown status n : ℕ) → (status ≡ shown) ⊎ (status ≡ (if shown == 0 then 3 else shown)) → status ≡ n → n ≢ 3 → shown ≡ n
shown-status shown status n (inl whole) is other = sym whole ∙ is
shown-status zero status n (inr cut) is other = absurd (other (sym is ∙ cut))
shown-status (suc shown) status n (inr cut) is other = grind (arith, nat_tests)

-- and it is that of the end if it is not that of want of memory either
end-status : (run : OutputRun) (end : Ending) (status n : ℕ) → EndsSo run end status → status ≡ n → n ≢ 3 → n ≢ 14 → status_of end ≡ n
end-status run end status n so is whole enough =
    let shown : status_of so.shown ≡ n = shown-status (status_of so.shown) status n (elim so.answered [ inl a ↦ inl a.1 | inr a ↦ inr a.1 ]) is whole in
    elim so.is [ inl none ↦ absurd (enough (sym shown ∙ ap status_of none)) | inr same ↦ ap status_of (sym same) ∙ shown ]

-- at status 10 or 14 of an end, the status that is answered is one of them too
cut-status : (shown status n : ℕ) → (status ≡ shown) ⊎ (status ≡ (if shown == 0 then 3 else shown)) → shown ≡ suc n → status ≡ suc n
cut-status shown status n (inl whole) is = whole ∙ is
cut-status zero status n (inr cut) is = absurd (cc)
cut-status (suc shown) status n (inr cut) is = grind (arith, nat_tests)

shown-as : (run : OutputRun) (end : Ending) (status n : ℕ) (so : EndsSo run end status) → status_of so.shown ≡ suc n → status ≡ suc n
shown-as run end status n so is = cut-status (status_of so.shown) status n (elim so.answered [ inl a ↦ inl a.1 | inr a ↦ inr a.1 ]) is

failed-status : (run : OutputRun) (end : Ending) (status : ℕ) → EndsSo run end status → status_of end ≡ 10 → (status ≡ 10) ⊎ (status ≡ 14)
failed-status run end status so is = elim so.is
    [ inl none ↦ inr (shown-as run end status 13 so (ap status_of none)) | inr same ↦ inl (shown-as run end status 9 so (ap status_of same ∙ is)) ]

lost-status : (run : OutputRun) (end : Ending) (status : ℕ) → EndsSo run end status → status_of end ≡ 14 → status ≡ 14
lost-status run end status so is = elim so.is
    [ inl none ↦ shown-as run end status 13 so (ap status_of none) | inr same ↦ shown-as run end status 13 so (ap status_of same ∙ is) ]

-- what words tell at the status of their end, they also tell at the status that is answered
pub tells-answered : {P : Type 0} (told : P → ℕ → ℕ → P) (row : Option Row) (run : OutputRun) (end : Ending) (status : ℕ) (old new : P) → EndsSo run end status
    → WordsTell told row (status_of end) old new → WordsTell told row status old new
tells-answered told (Some (words.Deal deal)) run end status old new so (nothing_told some same) =
    nothing_told (λ is. some (end-status run end status 0 so is (λ e. cc) (λ e. cc))) same
tells-answered told (Some (words.Deal deal)) run end status old new so (all_told some all) =
    all_told (λ is. some (end-status run end status 5 so is (λ e. cc) (λ e. cc))) all
tells-answered told (Some (words.Deal deal)) run end status old new so (some_told when some) =
    some_told (elim when [ inl device ↦ failed-status run end status so device | inr none ↦ inr (lost-status run end status so none) ]) some
tells-answered told None run end status old new so same = same
tells-answered told (Some (words.Verify a b c)) run end status old new so same = same
tells-answered told (Some (words.Rehearse a b c d)) run end status old new so same = same
tells-answered told (Some (words.Enrol a b)) run end status old new so same = same
tells-answered told (Some (words.Migrate a b c)) run end status old new so same = same
tells-answered told (Some (words.Approve a b c)) run end status old new so same = same
tells-answered told (Some (words.Trustee a)) run end status old new so same = same
tells-answered told (Some (words.Sign a)) run end status old new so same = same
tells-answered told (Some (words.Blame a)) run end status old new so same = same
tells-answered told (Some (words.HssCheck a b c)) run end status old new so same = same
tells-answered told (Some (words.HssSign a)) run end status old new so same = same
tells-answered told (Some (words.Aggregate a)) run end status old new so same = same
tells-answered told (Some (words.Drill a b c)) run end status old new so same = same
tells-answered told (Some (words.Show a b)) run end status old new so same = same
