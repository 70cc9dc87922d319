-- The lock is ended.
use Rattle.std.proofs.Common.{◌≡◌, ◌+◌, ◌^◌, ◌≤◌, ◌<◌, ◌⊎◌, ℕ, List, Option, Some, All, length, inl, inr, refl, sym, ap, ◌∙◌, subst, arith}
use Rattle.std.specs.Prelude.{Contains, count_by}
use Rattle.std.proofs.lemmas.List.{length-map}
use Rattle.std.proofs.lemmas.List.Elements.{All-contains}
use Rattle.opening_journal.specs.declared.entry.Entry.{Entry}
use Rattle.share_files.specs.declared.share.Share.{Share}
use Rattle.trustee_core.specs.declared.kept.TrusteeName.{TrusteeName}
use Rattle.trustee_core.specs.declared.note.Note.{Note}
use Rattle.trustee_core.specs.declared.note.Note.TheVariants.{Made, Doubted}
use Rattle.trustee_core.specs.Notes.{entries_in}
use Rattle.trustee_core.proofs.NoteLists.{counted-in-one}
use Rattle.trustee_node.proofs.Noting.{contains-made, entries-counted, made-contained}
use Rattle.trustee_node.specs.Turns.{HasSteadyDisk, IsAsked, IsNoteOf, NotedBy, TellsDisk, Turn, asked_doubted, asked_made, turned_out}
use Rattle.trustee_node.specs.Gathered.{Gathered}
use Rattle.trustee_node.specs.Ports.{AllComeFrom, ComesFrom, IsPortRun, PortRun, PortsRun, ServedPorts, is_asked, turns_in, was_in_doubt, was_there}
use Rattle.trustee_node.specs.Trustees.{TrusteeState}
use Rattle.node_workers.proofs.Logs.{small-ticket}
use Rattle.stream_io.specs.declared.totals.Totals.{Totals}
use Rattle.turn_lock.specs.Lock.{Lock}
use Rattle.turn_lock.specs.Pass.{IsWhole, Seen, first_pass}

-- what a lock was made with
pub record OpenedBy (lock : Lock Note TrusteeName) (old : TrusteeState) : Type 0 where
  pub log : lock.opening_log ≡ old.notes
  pub entries : entries_in old.notes ≡ old.entries
  pub number : lock.opening_number ≡ old.faults
  pub name : lock.name ≡ Some old.name
  pub first : lock.first_ticket ≡ 0

-- what its end tells
pub record ClosedBy (lock : Lock Note TrusteeName) (pass : Seen Note TrusteeName) (new : TrusteeState) : Type 0 where
  pub log : new.notes ≡ pass.log
  pub entries : entries_in new.notes ≡ new.entries
  pub doubt : (entry : Entry) → new.doubt ≡ Some entry → Contains new.notes (Doubted entry)
  pub number : new.faults ≡ pass.floor
  pub name : Some new.name ≡ pass.name
  pub whole : IsWhole lock pass

-- each note of the last log was in the first one, or is of the turns
module _ (share : Share) (ids : Option (List (List ℕ))) (lock : Lock Note TrusteeName) (old new : TrusteeState) (pass : Seen Note TrusteeName) (turns : List Turn)
    (opened : OpenedBy lock old) (closed : ClosedBy lock pass new) (by : NotedBy share ids (first_pass lock) pass turns) where
  note-from : (note : Note) → Contains pass.log note → Contains old.notes note ⊎ IsNoteOf share ids pass.log turns note
  note-from note at = elim (counted-in-one pass.log lock.opening_log pass.own note closed.whole.entries at) [
    | inl before ↦ inl (subst (λ (l : List Note). Contains l note) opened.log before)
    | inr own ↦ inr (All-contains (IsNoteOf share ids pass.log turns) by.noted note by.each (subst (λ (l : List Note). Contains l note) by.are own))
  ]

  doubted-of : (note : Note) (entry : Entry) → note ≡ Doubted entry → IsNoteOf share ids pass.log turns note → ComesFrom share ids old turns entry
  doubted-of note entry is (asked_made own at) = absurd (cc)
  doubted-of note entry is (asked_doubted own at) = (let same : own ≡ entry = cc in is_asked (subst (IsAsked share ids turns) same at))
  doubted-of note entry is (turned_out own at) = absurd (cc)

  doubted-from : (entry : Entry) → Contains pass.log (Doubted entry) → ComesFrom share ids old turns entry
  doubted-from entry at = elim (note-from (Doubted entry) at) [ inl before ↦ was_in_doubt before | inr own ↦ doubted-of (Doubted entry) entry refl own ]

  made-of : (note : Note) (entry : Entry) → note ≡ Made entry → IsNoteOf share ids pass.log turns note → ComesFrom share ids old turns entry
  made-of note entry is (asked_made own at) = (let same : own ≡ entry = cc in is_asked (subst (IsAsked share ids turns) same at))
  made-of note entry is (asked_doubted own at) = absurd (cc)
  made-of note entry is (turned_out own at) = (let same : own ≡ entry = cc in doubted-from entry (subst (λ (e : Entry). Contains pass.log (Doubted e)) same at))

  made-from : (entry : Entry) → Contains pass.log (Made entry) → ComesFrom share ids old turns entry
  made-from entry at = elim (note-from (Made entry) at) [
    | inl before ↦ was_there (subst (λ (l : List Entry). Contains l entry) opened.entries (made-contained old.notes entry before))
    | inr own ↦ made-of (Made entry) entry refl own
  ]

  all-from : AllComeFrom share ids old new turns
  all-from = record {
    entries = λ entry at.
        made-from entry (subst (λ (l : List Note). Contains l (Made entry)) closed.log
        (contains-made new.notes entry (subst (λ (l : List Entry). Contains l entry) (sym closed.entries) at)));
    doubt = λ entry is. doubted-from entry (subst (λ (l : List Note). Contains l (Doubted entry)) closed.log (closed.doubt entry is));
    notes = λ entry at. doubted-from entry (subst (λ (l : List Note). Contains l (Doubted entry)) closed.log at);
  }

module _ (share : Share) (ids : Option (List (List ℕ))) (asked : ℕ) (lock : Lock Note TrusteeName) (old new : TrusteeState) (pass : Seen Note TrusteeName)
    (ports : PortsRun) (totals : Totals) (opened : OpenedBy lock old) (closed : ClosedBy lock pass new) where
  small : Gathered share ids asked lock pass ports totals → length ports.before ≤ 64 → pass.greatest < 2 ^ 62
  small all few =
      let most = all.most in
      let drawn = all.draws.most in
      let count : length all.runs ≡ length ports.before = sym (length-map all.runs (λ (run : PortRun). run.before)) ∙ ap length all.before in
      small-ticket lock pass (length (turns_in all.runs)) closed.whole opened.first (omega (arith, drawn)) (omega (arith, most, count, few))

  pub ends-served : Gathered share ids asked lock pass ports totals → length ports.before ≤ 64 → ServedPorts share ids asked old new ports totals
  ends-served all few =
      let fresh = small all few in
      let number = closed.number in
      let rose = closed.whole.rises in
      let first = opened.number in
      let first_entries : entries_in lock.opening_log ≡ old.entries = ap entries_in opened.log ∙ opened.entries in
      let last_entries : new.entries ≡ entries_in pass.log = sym closed.entries ∙ ap entries_in closed.log in
      record {
        runs = all.runs;
        before = all.before;
        after = all.after;
        by_clocks = all.by_clocks;
        are = subst (λ (l : List Entry). All (IsPortRun share ids asked l new.entries) all.runs) first_entries
            (subst (λ (l : List Entry). All (IsPortRun share ids asked (entries_in lock.opening_log) l) all.runs) (sym last_entries) (all.are fresh));
        codes = record {
          rises = λ below. (let rises = all.faults.rises (omega (arith, below, number)) in omega (arith, rises, number, rose, first));
          steady = λ is told. all.faults.steady (subst HasSteadyDisk closed.name (is, told));
          first = λ zero. all.faults.first (sym number ∙ zero);
          told = λ is. all.faults.told (subst TellsDisk closed.name is);
          worn = all.draws.fresh fresh;
        };
        adds = λ zero test.
            let own = all.own (sym number ∙ zero) in
            ap (count_by test) last_entries ∙ entries-counted test pass.log lock.opening_log pass.own closed.whole.entries
            ∙ (λ i. count_by test (first_entries i) + count_by test (own i));
        asked_for = all-from share ids lock old new pass (turns_in all.runs) opened closed all.notes;
        totals_are = all.totals_are;
      }
