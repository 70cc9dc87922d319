-- Nothing is bound that was not asked for.
use Rattle.std.proofs.Common.{◌≡◌, ◌≢◌, ◌⊎◌, ℕ, List, [], None, Option, inl, inr, refl, sym, ◌∙◌, subst}
use Rattle.std.specs.Prelude.{Contains}
use Rattle.std.proofs.lemmas.List.Elements.{All-contains, All-map, All-nil, Contains-append_cases}
use Rattle.opening_journal.specs.Entries.{JournalState}
use Rattle.opening_journal.specs.declared.entry.Entry.{Entry}
use Rattle.share_files.specs.declared.share.Share.{Share}
use Rattle.tool_trustee.specs.Trustee.{OnlyAsked}
use Rattle.trustee_core.specs.Notes.{doubted, first_notes, made}
use Rattle.trustee_core.specs.declared.note.Note.{Note}
use Rattle.trustee_core.specs.declared.note.Note.TheVariants.{Made, Doubted}
use Rattle.trustee_node.specs.Ports.{AllComeFrom, ComesFrom, is_asked, was_in_doubt, was_there}
use Rattle.trustee_node.specs.Trustees.{TrusteeState}
use Rattle.trustee_node.specs.Turns.{IsAsked, Turn}

-- the notes of a journal with no entry in doubt have none
none-made : (entries : List Entry) (entry : Entry) → Contains (made entries) (Doubted entry) → ⊥
none-made entries entry at =
    All-contains (λ (note : Note). note ≢ Doubted entry) (made entries) (Doubted entry)
    (All-map (λ (note : Note). note ≢ Doubted entry) (λ (e : Entry). Made e) entries (λ k d lt. λ is. absurd (cc))) at refl

none-left : (doubt : Option Entry) (entry : Entry) → doubt ≡ None → Contains (doubted doubt) (Doubted entry) → ⊥
none-left doubt entry none at =
    All-contains (λ (note : Note). ⊥) [] (Doubted entry) (All-nil (λ (note : Note). ⊥)) (subst (λ (o : Option Entry). Contains (doubted o) (Doubted entry)) none at)

pub no_doubts : (notes : List Note) (state : JournalState) → notes ≡ first_notes state → state.doubt ≡ None → (entry : Entry) → Contains notes (Doubted entry) → ⊥
no_doubts notes state is none entry at =
    elim (Contains-append_cases (made state.entries) (doubted state.doubt) (Doubted entry) (subst (λ (n : List Note). Contains n (Doubted entry)) is at)) [
      | inl in_made ↦ none-made state.entries entry in_made
      | inr in_doubt ↦ none-left state.doubt entry none in_doubt
    ]

module _ (share : Share) (ids : Option (List (List ℕ))) (old new : TrusteeState) (doubt : Option Entry) (turns : List Turn) (settled : (entry : Entry) → Contains old.notes (Doubted entry) → ⊥) where
  from-there : (entry : Entry) → ComesFrom share ids old turns entry → Contains old.entries entry ⊎ IsAsked share ids turns entry
  from-there entry (was_there at) = inl at
  from-there entry (was_in_doubt at) = absurd (settled entry at)
  from-there entry (is_asked at) = inr at

  pub only_asked : doubt ≡ new.doubt → AllComeFrom share ids old new turns → OnlyAsked share ids old.entries (record { entries = new.entries; doubt = doubt }) turns
  only_asked is all = record {
    entries = λ entry at. from-there entry (all.entries entry at);
    doubt = λ entry some. from-there entry (all.doubt entry (sym is ∙ some));
  }
