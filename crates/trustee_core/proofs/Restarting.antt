-- What loading a journal's file makes of the journal.
use Rattle.std.proofs.Common.{◌≡◌, ◌^◌, ◌++◌, ◌∷◌, [], ℕ, List, None, inl, inr, refl, sym, ◌∙◌, subst}
use Rattle.opening_journal.specs.Entries.{HasEntries, JournalState, StandsFor}
use Rattle.opening_journal.specs.Opening.{SettlesTo, settled_with}
use Rattle.opening_journal.specs.declared.entry.Entry.{Entry}
use Rattle.share_files.specs.declared.share.Share.{Share}
use Rattle.trustee_core.specs.Lives.{Lives, ended, restarted}

module _ (share : Share) (n : ℕ) (file : List ℕ) (old new : JournalState) (none : new.doubt ≡ None) where
  abbrev pub count : ℕ
  count = 2 ^ share.params.h

  is-settled : settled_with new.entries ≡ new
  is-settled = λ i. record { entries = new.entries; doubt = sym none i }

  has-new : StandsFor n count file new → HasEntries n count file new.entries
  has-new stands = elim stands [ inl has ↦ has | inr made ↦ absurd (cc) ]

  lives-from : (kept : List Entry) → SettlesTo old kept → HasEntries n count file kept → HasEntries n count file new.entries → Lives share old [] new
  lives-from kept settles was now =
      subst (Lives share old []) is-settled
      (restarted old (settled_with new.entries) kept new.entries [] settles (λ leaf within. sym (now leaf within) ∙ was leaf within) (ended (settled_with new.entries)))

  pub restarts : StandsFor n count file new → StandsFor n count file old → Lives share old [] new
  restarts now was = elim was [
    | inl has ↦ lives-from old.entries (inl refl) has (has-new now)
    | inr made ↦ lives-from (old.entries ++ made.0 ∷ []) (inr (made.0, made.1, refl)) made.2 (has-new now)
  ]
