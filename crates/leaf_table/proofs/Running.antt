-- What a run of a table keeps.
use Rattle.std.proofs.Common.{◌≡◌, ◌<◌, ℕ, List, [], ◌∷◌, ◌++◌, Option, None, Some, Result, length, take, true, inl, inr, refl, sym, ◌∙◌, ap, subst, arith, length-append}
use Rattle.std.proofs.Math.Seq.{get_or-append_seam}
use Rattle.std.proofs.lemmas.Bool.{cases_eq}
use Rattle.std.proofs.lemmas.List.{take_at}
use Rattle.coalition_map.specs.Coalitions.{PlanNumbers}
use Rattle.lms_bytes.specs.MessageId.{message_id_bytes, message_id_of}
use Rattle.lms_bytes.specs.declared.message.MessageId.{MessageId}
use Rattle.leaf_table.specs.Entries.{Follows, LeafUse, IsFree, IsLeased, IsBurnt, IsTorn, OneLease, leaf_of, map_of, may_follow, use_after}
use Rattle.leaf_table.specs.Leasing.{Burns, Leases}
use Rattle.leaf_table.specs.Leasing as leasing
use Rattle.leaf_table.specs.Runs.{Grows, KeepsOneLease, TableRun, ended, restarted}
use Rattle.leaf_table.specs.Runs as runs
use Rattle.leaf_table.specs.Slots.{lease_of_slot, report_body}
use Rattle.leaf_table.specs.State.{SettlesTo, TableState, lease_of, with_doubt, with_lease}
use Rattle.leaf_table.specs.declared.faults.TableFault.{TableFault}
use Rattle.leaf_table.specs.declared.lease.Lease.{Lease}
use Rattle.leaf_table.specs.declared.lease.Lease.TheVariants.{Leased, Burnt}
use Rattle.slot_file.proofs.Logs.{legal-more}
use Rattle.leaf_table.proofs.Maps.{map_of-other, map_of-same}
use Rattle.slot_file.specs.declared.doubted.Doubted.{Doubted}
use Rattle.slot_file.specs.declared.slot.Slot.{Slot}
use Rattle.slot_file.specs.declared.slot.Slot.TheVariants.{Half, Full}

-- ---- one message for each leaf
keeps-sure : (state : TableState) → state.doubt ≡ None → OneLease state.entries → KeepsOneLease state
keeps-sure state none legal settled (inl same) = subst (λ (s : TableState). OneLease s.entries) (sym same) legal
keeps-sure state none legal settled (inr put) = let is = put.1 in let no : ◌≡◌ {A = Option Doubted} None (Some put.0) = sym none ∙ is in absurd (cc)

settled-sure : (before settled : TableState) → SettlesTo before settled → settled.doubt ≡ None
settled-sure before settled (inl same) = ap (λ (s : TableState). s.doubt) same
settled-sure before settled (inr put) = ap (λ (s : TableState). s.doubt) put.2

keeps-settled : (before settled : TableState) → KeepsOneLease before → SettlesTo before settled → KeepsOneLease settled
keeps-settled before settled keeps settles = keeps-sure settled (settled-sure before settled settles) (keeps settled settles)

keeps-made : (settled : TableState) (lease : Lease) (leaf : ℕ) (slot : Slot) → OneLease settled.entries → Follows settled.entries lease
    → KeepsOneLease (with_lease settled lease leaf slot)
keeps-made settled lease leaf slot legal follows = keeps-sure (with_lease settled lease leaf slot) refl (legal-more Follows settled.entries lease legal follows)

keeps-doubt : (settled : TableState) (leaf : ℕ) (slot : Slot) → OneLease settled.entries → Follows settled.entries (lease_of_slot leaf slot)
    → KeepsOneLease (with_doubt settled leaf slot)
keeps-doubt settled leaf slot legal follows after (inl same) = subst (λ (s : TableState). OneLease s.entries) (sym same) legal
keeps-doubt settled leaf slot legal follows after (inr put) =
    let there : Doubted = record { slot = leaf; after = slot } in
    let is : ◌≡◌ {A = Option Doubted} (Some there) (Some put.0) = put.1 in
    let one : there ≡ put.0 = cc in
    let legal' = legal-more Follows settled.entries (lease_of there) legal follows in
    subst (λ (s : TableState). OneLease s.entries) (sym put.2) (subst (λ (d : Doubted). OneLease (settled.entries ++ lease_of d ∷ [])) one legal')

leases-keep : (plan : PlanNumbers) (before after : TableState) (members : List ℕ) (message : MessageId) (answer : Result ℕ TableFault)
    → Leases plan before members message answer after → KeepsOneLease before → KeepsOneLease after
leases-keep plan before after members message answer (leasing.no_coalition missing) keeps = keeps
leases-keep plan before after members message answer (leasing.kept settled c leaf is settles found used) keeps = keeps-settled before settled keeps settles
leases-keep plan before after members message answer (leasing.made settled c leaf is settles found free) keeps =
    keeps-made settled _ leaf _ (keeps settled settles) (ap (may_follow (Leased leaf message)) free)
leases-keep plan before after members message answer (leasing.no_leaf settled c is settles unfound) keeps = keeps-settled before settled keeps settles
leases-keep plan before after members message answer (leasing.unsettled c is some) keeps = keeps
leases-keep plan before after members message answer (leasing.unwritten settled c leaf is settles found free) keeps =
    keeps-doubt settled leaf _ (keeps settled settles) (ap (may_follow (Leased leaf (message_id_of (message_id_bytes message)))) free)
leases-keep plan before after members message answer (leasing.damaged c a b doubted is put neither) keeps = keeps

burns-keep : (before after : TableState) (leaf by : ℕ) (message : List ℕ) (answer : Result (Unit {0}) TableFault)
    → Burns before leaf message by answer after → KeepsOneLease before → KeepsOneLease after
burns-keep before after leaf by message answer (leasing.kept settled settles burnt) keeps = keeps-settled before settled keeps settles
burns-keep before after leaf by message answer (leasing.made settled settles leased) keeps =
    keeps-made settled _ leaf _ (keeps settled settles) (ap (may_follow (Burnt leaf)) leased)
burns-keep before after leaf by message answer (leasing.unsettled some) keeps = keeps
burns-keep before after leaf by message answer (leasing.unwritten settled settles leased) keeps =
    keeps-doubt settled leaf _ (keeps settled settles) (ap (may_follow (Burnt leaf)) leased)
burns-keep before after leaf by message answer (leasing.damaged a b doubted put neither) keeps = keeps

pub run-keeps : (plan : PlanNumbers) (before after : TableState) → TableRun plan before after → KeepsOneLease before → KeepsOneLease after
run-keeps plan before after (ended state) keeps = keeps
run-keeps plan before after (runs.leased first mid last members message answer event rest) keeps =
    run-keeps plan mid last rest (leases-keep plan first mid members message answer event keeps)
run-keeps plan before after (runs.burnt first mid last leaf by message answer event rest) keeps =
    run-keeps plan mid last rest (burns-keep first mid leaf by message answer event keeps)
run-keeps plan before after (restarted first settled loaded last settles legal none same rest) keeps =
    run-keeps plan loaded last rest (keeps-sure loaded none legal)

-- ---- leaves only go on
grows-on : (a b c : LeafUse) → Grows a b → Grows b c → Grows a c
grows-on a b c (runs.same kept) second = second
grows-on a b c first (runs.same kept) = first
grows-on a b c (runs.leased message) (runs.burnt other) = runs.burnt_free

grows-step : (entries : List Lease) (lease : Lease) (leaf : ℕ) → Follows entries lease → Grows (map_of entries leaf) (map_of (entries ++ lease ∷ []) leaf)
grows-step entries lease leaf follows = elim (cases_eq leaf (leaf_of lease)) [
  | inl same ↦
      subst (λ (u : LeafUse). Grows (map_of entries leaf) u) (sym (map_of-same entries lease leaf same))
      (at lease (map_of entries leaf) (ap (λ (k : ℕ). may_follow lease (map_of entries k)) same ∙ follows))
  | inr differs ↦ subst (λ (u : LeafUse). Grows (map_of entries leaf) u) (sym (map_of-other entries lease leaf differs)) (runs.same (map_of entries leaf))
] where
  at : (lease : Lease) (found : LeafUse) → may_follow lease found ≡ true → Grows found (use_after lease)
  at (Leased leaf message) IsFree may = runs.leased (message_id_bytes message)
  at (Leased leaf message) (IsLeased kept) may = absurd (cc)
  at (Leased leaf message) IsBurnt may = absurd (cc)
  at (Leased leaf message) IsTorn may = absurd (cc)
  at (Burnt leaf) IsFree may = absurd (cc)
  at (Burnt leaf) (IsLeased kept) may = runs.burnt kept
  at (Burnt leaf) IsBurnt may = absurd (cc)
  at (Burnt leaf) IsTorn may = absurd (cc)

last-follows : (entries : List Lease) (lease : Lease) → OneLease (entries ++ lease ∷ []) → Follows entries lease
last-follows entries lease legal =
    let below : length entries < length (entries ++ lease ∷ []) = omega (arith, length-append entries (lease ∷ [])) in
    let here = legal (length entries) lease below in
    let front = take_at entries (lease ∷ []) (length entries) refl in
    let last = get_or-append_seam entries lease [] lease in
    subst (λ (l : List Lease). Follows l lease) front (subst (λ (e : Lease). Follows (take (length entries) (entries ++ lease ∷ [])) e) last here)

-- the map before and after
abbrev GrowsTo : TableState → TableState → Type 0
GrowsTo before after = (leaf : ℕ) → Grows (map_of before.entries leaf) (map_of after.entries leaf)

grows-settled : (before settled : TableState) → KeepsOneLease before → SettlesTo before settled → GrowsTo before settled
grows-settled before settled keeps (inl same) leaf = subst (λ (s : TableState). Grows (map_of before.entries leaf) (map_of s.entries leaf)) (sym same) (runs.same (map_of before.entries leaf))
grows-settled before settled keeps (inr put) leaf =
    let made = with_lease before (lease_of put.0) put.0.slot put.0.after in
    let legal : OneLease (before.entries ++ lease_of put.0 ∷ []) = subst (λ (s : TableState). OneLease s.entries) put.2 (keeps settled (inr put)) in
    subst (λ (s : TableState). Grows (map_of before.entries leaf) (map_of s.entries leaf)) (sym put.2)
    (grows-step before.entries (lease_of put.0) leaf (last-follows before.entries (lease_of put.0) legal))

grows-made : (before settled : TableState) (lease : Lease) (leaf : ℕ) (slot : Slot) → KeepsOneLease before → SettlesTo before settled → Follows settled.entries lease
    → GrowsTo before (with_lease settled lease leaf slot)
grows-made before settled lease leaf slot keeps settles follows other =
    grows-on _ _ _ (grows-settled before settled keeps settles other) (grows-step settled.entries lease other follows)

leases-grow : (plan : PlanNumbers) (before after : TableState) (members : List ℕ) (message : MessageId) (answer : Result ℕ TableFault)
    → Leases plan before members message answer after → KeepsOneLease before → GrowsTo before after
leases-grow plan before after members message answer (leasing.no_coalition missing) keeps = λ q. runs.same (map_of before.entries q)
leases-grow plan before after members message answer (leasing.kept settled c leaf is settles found used) keeps = grows-settled before settled keeps settles
leases-grow plan before after members message answer (leasing.made settled c leaf is settles found free) keeps =
    grows-made before settled (Leased leaf message) leaf (Half (message_id_bytes message)) keeps settles (ap (may_follow (Leased leaf message)) free)
leases-grow plan before after members message answer (leasing.no_leaf settled c is settles unfound) keeps = grows-settled before settled keeps settles
leases-grow plan before after members message answer (leasing.unsettled c is some) keeps = λ q. runs.same (map_of before.entries q)
leases-grow plan before after members message answer (leasing.unwritten settled c leaf is settles found free) keeps = grows-settled before settled keeps settles
leases-grow plan before after members message answer (leasing.damaged c a b doubted is put neither) keeps = λ q. runs.same (map_of before.entries q)

burns-grow : (before after : TableState) (leaf by : ℕ) (message : List ℕ) (answer : Result (Unit {0}) TableFault)
    → Burns before leaf message by answer after → KeepsOneLease before → GrowsTo before after
burns-grow before after leaf by message answer (leasing.kept settled settles burnt) keeps = grows-settled before settled keeps settles
burns-grow before after leaf by message answer (leasing.made settled settles leased) keeps =
    grows-made before settled (Burnt leaf) leaf (Full message (report_body message by) 0) keeps settles (ap (may_follow (Burnt leaf)) leased)
burns-grow before after leaf by message answer (leasing.unsettled some) keeps = λ q. runs.same (map_of before.entries q)
burns-grow before after leaf by message answer (leasing.unwritten settled settles leased) keeps = grows-settled before settled keeps settles
burns-grow before after leaf by message answer (leasing.damaged a b doubted put neither) keeps = λ q. runs.same (map_of before.entries q)

pub run-grows : (plan : PlanNumbers) (before after : TableState) → TableRun plan before after → KeepsOneLease before → GrowsTo before after
run-grows plan before after (ended state) keeps leaf = runs.same (map_of state.entries leaf)
run-grows plan before after (runs.leased first mid last members message answer event rest) keeps leaf =
    grows-on _ _ _ (leases-grow plan first mid members message answer event keeps leaf)
    (run-grows plan mid last rest (leases-keep plan first mid members message answer event keeps) leaf)
run-grows plan before after (runs.burnt first mid last spent by message answer event rest) keeps leaf =
    grows-on _ _ _ (burns-grow first mid spent by message answer event keeps leaf)
    (run-grows plan mid last rest (burns-keep first mid spent by message answer event keeps) leaf)
run-grows plan before after (restarted first settled loaded last settles legal none same rest) keeps leaf =
    let rest_grows = run-grows plan loaded last rest (keeps-sure loaded none legal) leaf in
    grows-on _ _ _ (grows-settled first settled keeps settles leaf) (subst (λ (u : LeafUse). Grows u (map_of last.entries leaf)) (same leaf) rest_grows)
