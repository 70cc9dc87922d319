-- What signing shows in the log.
use Rattle.std.proofs.Common.{◌≡◌, ◌⊎◌, ◌+◌, ◌^◌, ◌≤◌, ◌<◌, ℕ, List, [], ◌∷◌, ◌++◌, length, drop, None, Some, Option, IfSome, Result, Ok, Err, is_some, if◌then◌else◌, refl, sym, ap, ◌∙◌, subst, arith, inl, inr, append_assoc, append-nil}
use Rattle.std.proofs.Math.Seq.{drop-append_seam, drop-length}
use mathlib.Core.List.{IsPrefix}
use Rattle.aggregator_session.specs.declared.fault.SignFault.{SignFault}
use Rattle.aggregator_node.specs.Logs.{BurningShows, DiskFailed, IsBurning, LeaseShows, Refuses, Shown, SlotDamaged}
use Rattle.aggregator_node.specs.Logs as logs
use Rattle.aggregator_node.specs.Signing.{Burning, LeaseTurn, SignsInTurns, asked, no_turn}
use Rattle.aggregator_node.specs.Signing as signing
use Rattle.aggregator_node.specs.Turns.{HasSteadyDisk, TellsDisk, Turned}
use Rattle.coalition_map.specs.Coalitions.{PlanNumbers}
use Rattle.leaf_table.specs.Entries.{map_of}
use Rattle.leaf_table.specs.Leasing.{Burns, LeaseOf, Leases}
use Rattle.leaf_table.specs.Leasing as leasing
use Rattle.leaf_table.specs.State.{SettlesTo, TableState}
use Rattle.leaf_table.specs.declared.faults.TableFault.{TableFault}
use Rattle.leaf_table.specs.declared.faults.TableFault.TheVariants.{Damaged, Device}
use Rattle.leaf_table.specs.declared.lease.Lease.{Lease}
use Rattle.leaf_table.specs.declared.lease.Lease.TheVariants.{Burnt, Leased}
use Rattle.leaf_table.specs.declared.table.TableName.{TableName}
use Rattle.leaf_table.proofs.Maps.{map_of-same}
use Rattle.aggregator_session.specs.Signing.{Signature, ToSign, spent_by}
use Rattle.aggregator_session.specs.Tables.{AsksLeaf, Entered, TableSeen}
use Rattle.lms_bytes.specs.MessageId.{message_id, message_id_bytes}
use Rattle.lms_bytes.specs.declared.message.MessageId.{MessageId}
use Rattle.stream_io.specs.Net.{PortState}
use Rattle.turn_lock.specs.Pass.{Seen}
use Rattle.aggregator_node.proofs.Turning.{burns-on, settles-on}
use Rattle.node_workers.proofs.Prefixes.{prefix-is, prefix-then}

-- if nothing is in doubt, nothing is settled
settled-same : (before settled : TableState) → SettlesTo before settled → before.doubt ≡ None → settled.entries ≡ before.entries
settled-same before settled (inl same) sure = ap (λ (s : TableState). s.entries) same
settled-same before settled (inr made) sure = absurd (let is = made.1 in cc)

module _ {R : Type 0} {old new : Seen Lease TableName} {before after : TableSeen} {result : Result R TableFault} (t : Turned old new before after) (e : Entered before after result) where
  -- the name of the table is that of the pass
  name-is : Some before.name ≡ new.name
  name-is = t.named ∙ sym t.same.name

  pub sure-first : new.floor ≡ 0 → before.state.doubt ≡ None
  sure-first zero = t.sure (let f = t.floor in let l = e.cause.later in omega (arith, f, l, zero))

  pub grows : old.floor ≤ new.floor
  grows = let f = t.floor in let l = e.cause.later in let r = t.reaches in omega (arith, f, l, r)

  pub rises-on : old.rises ≤ new.rises
  rises-on = let r = t.rises in omega (arith, r)

  pub failed-by : result ≡ Err Device → DiskFailed old new
  failed-by is = (
    λ small. (let f = t.floor in let r = t.rises in let rose = e.cause.failed is in let l = e.cause.later in omega (arith, f, r, rose, l, small)),
    λ steady. (let known = subst HasSteadyDisk (sym name-is) steady in e.succeeds known.0 known.1 is),
  )

  pub damaged-by : (leaf a b : ℕ) → result ≡ Err (Damaged leaf a b) → (before.state.doubt ≡ None → ⊥) → SlotDamaged new
  damaged-by leaf a b is doubted = (
    λ zero. doubted (sure-first zero),
    λ told. e.told (subst TellsDisk (sym name-is) told) leaf a b is,
  )

-- the own entries of a turn that added these
own-added : (old new before after added : List Lease) (entries : List Lease) → new ≡ old ++ drop (length before) after → after ≡ entries ++ added → entries ≡ before
    → new ≡ old ++ added
own-added old new before after added entries own is same =
    own ∙ ap (λ (l : List Lease). old ++ drop (length before) l) is ∙ ap (λ (l : List Lease). old ++ l) (ap (λ (b : List Lease). drop (length b) (entries ++ added)) (sym same) ∙ drop-append_seam entries added)

own-none : (old new before after : List Lease) → new ≡ old ++ drop (length before) after → after ≡ before → new ≡ old
own-none old new before after own is =
    own ∙ ap (λ (l : List Lease). old ++ drop (length before) l) is ∙ ap (λ (l : List Lease). old ++ l) (drop-length before) ∙ append-nil old

never-none : {X : Type 0} (o : Option X) (x : X) → o ≡ Some x → o ≡ None → ⊥
never-none o x some none = absurd (cc)

-- what a turn for a lease shows, by its answer
abbrev LeaseAnswers : PlanNumbers → List ℕ → MessageId → (old new : Seen Lease TableName) → Result ℕ TableFault → Type 0
LeaseAnswers plan members message old new (Ok leaf) =
    (added : List Lease) × LeaseShows plan members message old.log new.log leaf added × (new.floor ≡ 0 → new.own ≡ old.own ++ added)
LeaseAnswers plan members message old new (Err why) = Refuses plan members message old new why × (new.floor ≡ 0 → new.own ≡ old.own)

lease-answers : (plan : PlanNumbers) (members : List ℕ) (message : MessageId) (result : Result ℕ TableFault) (before after : TableState) (old new : Seen Lease TableName)
    → Leases plan before members message result after → IsPrefix old.log before.entries → new.log ≡ after.entries
    → new.own ≡ old.own ++ drop (length before.entries) after.entries → (new.floor ≡ 0 → before.doubt ≡ None)
    → (result ≡ Err Device → DiskFailed old new)
    → ((leaf a b : ℕ) → result ≡ Err (Damaged leaf a b) → (before.doubt ≡ None → ⊥) → SlotDamaged new)
    → LeaseAnswers plan members message old new result
lease-answers plan members message result before after old new (leasing.no_coalition never) begins log own sure device damaged =
    (never, λ zero. own-none old.own new.own before.entries before.entries own refl)
lease-answers plan members message result before after old new (leasing.kept settled c leaf is s lease map) begins log own sure device damaged = (
  [],
  record {
    c = c;
    met = settled.entries;
    begins = prefix-then old.log before.entries settled.entries begins (settles-on before settled s);
    coalition = is;
    lease = lease;
    entry = inl (map, refl);
    stands = prefix-is (settled.entries ++ []) new.log (append-nil settled.entries ∙ sym log);
  },
  λ zero. own-added old.own new.own before.entries settled.entries [] settled.entries own (sym (append-nil settled.entries)) (settled-same before settled s (sure zero)),
)
lease-answers plan members message result before after old new (leasing.made settled c leaf is s lease map) begins log own sure device damaged = (
  Leased leaf message ∷ [],
  record {
    c = c;
    met = settled.entries;
    begins = prefix-then old.log before.entries settled.entries begins (settles-on before settled s);
    coalition = is;
    lease = lease;
    entry = inr (map, refl);
    stands = prefix-is (settled.entries ++ Leased leaf message ∷ []) new.log (sym log);
  },
  λ zero. own-added old.own new.own before.entries (settled.entries ++ Leased leaf message ∷ []) (Leased leaf message ∷ []) settled.entries own refl
      (settled-same before settled s (sure zero)),
)
lease-answers plan members message result before after old new (leasing.no_leaf settled c is s lease) begins log own sure device damaged = (
  (
    subst (λ (l : List Lease). IsPrefix old.log l) (sym log) (prefix-then old.log before.entries settled.entries begins (settles-on before settled s)),
    is,
    subst (λ (l : List Lease). LeaseOf plan l c (message_id_bytes message) None) (sym log) lease,
  ),
  λ zero. own-none old.own new.own before.entries settled.entries own (settled-same before settled s (sure zero)),
)
lease-answers plan members message result before after old new (leasing.unsettled c is doubt) begins log own sure device damaged =
    (device refl, λ zero. own-none old.own new.own before.entries before.entries own refl)
lease-answers plan members message result before after old new (leasing.unwritten settled c leaf is s lease map) begins log own sure device damaged =
    (device refl, λ zero. own-none old.own new.own before.entries settled.entries own (settled-same before settled s (sure zero)))
lease-answers plan members message result before after old new (leasing.damaged c a b doubted is doubt neither) begins log own sure device damaged =
    (damaged doubted.slot a b refl (never-none before.doubt doubted doubt), λ zero. own-none old.own new.own before.entries before.entries own refl)

-- what a turn to burn shows
abbrev BurnAnswers : (first old new : Seen Lease TableName) → ℕ → Type 0
BurnAnswers first old new leaf =
    (burning : List Lease) × ((burning ≡ []) ⊎ (burning ≡ Burnt leaf ∷ [])) × BurningShows first new leaf
    × (new.floor ≡ 0 → new.own ≡ old.own ++ burning)

burn-answers : (leaf : ℕ) (message : List ℕ) (by : ℕ) (result : Result (Unit {0}) TableFault) (before after : TableState) (first old new : Seen Lease TableName)
    → Burns before leaf message by result after → new.log ≡ after.entries
    → new.own ≡ old.own ++ drop (length before.entries) after.entries → (new.floor ≡ 0 → before.doubt ≡ None)
    → (result ≡ Err Device → DiskFailed first new)
    → ((leaf a b : ℕ) → result ≡ Err (Damaged leaf a b) → (before.doubt ≡ None → ⊥) → SlotDamaged new)
    → BurnAnswers first old new leaf
burn-answers leaf message by result before after first old new (leasing.kept settled s map) log own sure device damaged = (
  [],
  inl refl,
  logs.burnt (ap (λ (l : List Lease). map_of l leaf) log ∙ map),
  λ zero. own-added old.own new.own before.entries settled.entries [] settled.entries own (sym (append-nil settled.entries)) (settled-same before settled s (sure zero)),
)
burn-answers leaf message by result before after first old new (leasing.made settled s map) log own sure device damaged = (
  Burnt leaf ∷ [],
  inr refl,
  logs.burnt (ap (λ (l : List Lease). map_of l leaf) log ∙ map_of-same settled.entries (Burnt leaf) leaf refl),
  λ zero. own-added old.own new.own before.entries (settled.entries ++ Burnt leaf ∷ []) (Burnt leaf ∷ []) settled.entries own refl
      (settled-same before settled s (sure zero)),
)
burn-answers leaf message by result before after first old new (leasing.unsettled doubt) log own sure device damaged =
    ([], inl refl, logs.failed (device refl), λ zero. own-none old.own new.own before.entries before.entries own refl ∙ sym (append-nil old.own))
burn-answers leaf message by result before after first old new (leasing.unwritten settled s map) log own sure device damaged = (
  [],
  inl refl,
  logs.failed (device refl),
  λ zero. own-none old.own new.own before.entries settled.entries own (settled-same before settled s (sure zero)) ∙ sym (append-nil old.own),
)
burn-answers leaf message by result before after first old new (leasing.damaged a b doubted doubt neither) log own sure device damaged = (
  [],
  inl refl,
  logs.damaged (damaged doubted.slot a b refl (never-none before.doubt doubted doubt)),
  λ zero. own-none old.own new.own before.entries before.entries own refl ∙ sym (append-nil old.own),
)

-- what a turn for a lease shows in a pass
abbrev TurnShows : PlanNumbers → List ℕ → MessageId → (old new : Seen Lease TableName) → Result ℕ SignFault → Type 0
TurnShows plan members message old new (Ok leaf) =
    (added : List Lease) × LeaseShows plan members message old.log new.log leaf added × (new.floor ≡ 0 → new.own ≡ old.own ++ added)
    × (new.draws ≡ old.draws + 1) × (new.greatest < 2 ^ 62) × (old.rises ≤ new.rises)
TurnShows plan members message old new (Err fault) = Shown plan members message old new (Err fault)

named-plan : (plan : PlanNumbers) (name : Option TableName) (mine : TableName) → Some mine ≡ name → IfSome name (λ n. n.plan ≡ plan) → mine.plan ≡ plan
named-plan plan name mine named is = subst (λ (o : Option TableName). IfSome o (λ n. n.plan ≡ plan)) (sym named) is

asked-answers : (plan : PlanNumbers) (members : List ℕ) (message : MessageId) (old new : Seen Lease TableName) (before after : TableSeen) (answer : Result ℕ TableFault)
    → IfSome old.name (λ n. n.plan ≡ plan) → Turned old new before after → AsksLeaf before members message answer after → LeaseAnswers plan members message old new answer
asked-answers plan members message old new before after answer is t a =
    let event = subst (λ (p : PlanNumbers). Leases p before.state members message answer after.state) (named-plan plan old.name before.name t.named is) a.event in
    lease-answers plan members message answer before.state after.state old new event t.begins t.log t.own (sure-first t a.entered) (failed-by t a.entered) (damaged-by t a.entered)

turn-shows : (plan : PlanNumbers) (members : List ℕ) (message : MessageId) (old new : Seen Lease TableName) (result : Result ℕ SignFault)
    → IfSome old.name (λ n. n.plan ≡ plan) → LeaseTurn members message old new result → TurnShows plan members message old new result
turn-shows plan members message old new result is (no_turn t) =
    record { added = []; shows = logs.no_turn t; own = λ zero. t.own ∙ sym (append-nil old.own) }
turn-shows plan members message old new result is (asked before after (Ok leaf) t a) =
    let shown = asked-answers plan members message old new before after (Ok leaf) is t a in
    (shown.0, shown.1, shown.2, t.draws, t.fresh, rises-on t a.entered)
turn-shows plan members message old new result is (asked before after (Err why) t a) =
    let shown = asked-answers plan members message old new before after (Err why) is t a in
    record { added = []; shows = logs.refused why shown.0 t.draws; own = λ zero. shown.1 zero ∙ sym (append-nil old.own) }

-- what burning, or none, shows
record BurnShows (first old new : Seen Lease TableName) (leaf : ℕ) (spent : Option ℕ) : Type 0 where
  burning : List Lease
  is : IsBurning spent leaf burning
  shows : IfSome spent (λ member. BurningShows first new leaf)
  draws : new.draws ≡ first.draws + (if is_some spent then 2 else 1)
  own : new.floor ≡ 0 → new.own ≡ old.own ++ burning
  log : IsPrefix old.log new.log
  floor : old.floor ≤ new.floor

failed-before : (first old new : Seen Lease TableName) → first.rises ≤ old.rises → DiskFailed old new → DiskFailed first new
failed-before first old new le failed = (λ small. (let f = failed.0 small in omega (arith, f, le)), failed.1)

burn-shows : (first old new : Seen Lease TableName) (leaf : ℕ) (message : MessageId) (spent : Option ℕ) → old.draws ≡ first.draws + 1 → old.greatest < 2 ^ 62
    → first.rises ≤ old.rises → Burning old new leaf message spent → BurnShows first old new leaf spent
burn-shows first old new leaf message spent drew fresh rises (Burning.not_spent same) = record {
  burning = [];
  is = refl;
  shows = tt;
  draws = ap (λ (s : Seen Lease TableName). s.draws) same ∙ drew;
  own = λ zero. ap (λ (s : Seen Lease TableName). s.own) same ∙ sym (append-nil old.own);
  log = prefix-is old.log new.log (sym (ap (λ (s : Seen Lease TableName). s.log) same));
  floor = (let e = ap (λ (s : Seen Lease TableName). s.floor) same in omega (arith, e));
}
burn-shows first old new leaf message spent drew fresh rises (Burning.no_turn member t) = record {
  burning = [];
  is = inl refl;
  shows = logs.worn t.worn;
  draws = (let d = t.drawn fresh in omega (arith, d, drew));
  own = λ zero. t.own ∙ sym (append-nil old.own);
  log = prefix-is old.log new.log (sym t.log);
  floor = (let e = t.floor in omega (arith, e));
}
burn-shows first old new leaf message spent drew fresh rises (Burning.asked member before after t a) =
    let shown = burn-answers leaf (message_id_bytes message) member a.answer before.state after.state first old new a.event t.log t.own (sure-first t a.entered)
    (λ is. failed-before first old new rises (failed-by t a.entered is)) (damaged-by t a.entered) in
    record {
      burning = shown.0;
      is = shown.1;
      shows = shown.2;
      draws = (let d = t.draws in omega (arith, d, drew));
      own = shown.3;
      log = prefix-then old.log before.state.entries new.log t.begins (subst (λ (l : List Lease). IsPrefix before.state.entries l) (sym t.log) (burns-on before.state after.state a.event));
      floor = grows t a.entered;
    }

longer : (plan : PlanNumbers) (members : List ℕ) (message : MessageId) (old log more : List Lease) (leaf : ℕ) (added : List Lease) → LeaseShows plan members message old log leaf added
    → IsPrefix log more → LeaseShows plan members message old more leaf added
longer plan members message old log more leaf added l on = record {
  c = l.c;
  met = l.met;
  begins = l.begins;
  coalition = l.coalition;
  lease = l.lease;
  entry = l.entry;
  stands = prefix-then (l.met ++ added) log more l.stands on;
}

pub shows : (plan : PlanNumbers) (sign : ToSign) (old : Seen Lease TableName) (port : PortState) (new : Seen Lease TableName) (now : PortState)
    (result : Result Signature SignFault) → IfSome old.name (λ n. n.plan ≡ plan) → SignsInTurns sign old port new now result
    → Shown plan sign.members (message_id sign.message) old new result
shows plan sign old port new now result is (signing.too_long long unread) =
    record { added = []; shows = logs.too_long (length sign.message) refl; own = λ zero. sym (append-nil old.own) }
shows plan sign old port new now result is (signing.not_leased last fault short unread turn) =
    turn-shows plan sign.members (message_id sign.message) old last (Err fault) is turn
shows plan sign old port new now result is (signing.leased leaf mid last after outcome short turn runs burns) =
    let l = turn-shows plan sign.members (message_id sign.message) old mid (Ok leaf) is turn in
    let b = burn-shows old mid last leaf (message_id sign.message) (spent_by outcome) l.3 l.4 l.5 burns in
    record {
      added = l.0 ++ b.burning;
      shows = logs.leased leaf l.0 b.burning outcome (longer plan sign.members (message_id sign.message) old.log mid.log last.log leaf l.0 l.1 b.log) b.draws b.shows b.is;
      own = λ zero. b.own zero ∙ ap (λ (o : List Lease). o ++ b.burning) (l.2 (let f = b.floor in omega (arith, f, zero))) ∙ append_assoc old.own l.0 b.burning;
    }
