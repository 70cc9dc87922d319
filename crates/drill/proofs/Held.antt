-- What the disks of a drill hold once all sessions have ended.
use Rattle.std.proofs.Common.{◌≡◌, ◌<◌, ◌≤◌, ◌-◌, ◌^◌, ◌+◌, ℕ, [], length, get_or, All, Contains, inl, inr, sym, ◌∙◌, ap, arith, subst}
use Rattle.coalition_map.specs.Coalitions.{PlanNumbers, leaf_members}
use Rattle.disk_trait.specs.MemDisk.{MemState, stable_disk}
use Rattle.disk_trait.specs.declared.disk.Pages as pages
use Rattle.disk_trait.specs.declared.faults.Faults as faults
use Rattle.drill_trustees.specs.Trustees.{AreJournals, IsTrustee, leaf_at, share_at}
use Rattle.leaf_table.specs.Entries.{IsFree, IsLeased, LeafUse}
use Rattle.leaf_table.specs.Loading.{IsTableFile}
use Rattle.leaf_table.specs.Slots.{use_of_slot}
use Rattle.leaf_table.specs.Table.{Keeps, header_of, plan_of, state_of}
use Rattle.leaf_table.specs.declared.table.Table.{Table}
use Rattle.lms_bytes.specs.declared.params.Params.{Params}
use Rattle.opening_journal.specs.Entries.{LeafState}
use Rattle.opening_journal.specs.Loading.{IsJournalFile}
use Rattle.reference_value.specs.Dealing.{Dealing}
use Rattle.slot_file.specs.Layout.{slot_at}
use Rattle.slot_file.specs.declared.header.Header.{Header}
use Rattle.trustee_core.specs.Trustee.{journal_header}
use Rattle.drill.specs.Counts.{is_open, signed_in, sum_below}
use Rattle.drill.specs.Courses.{HasEnded, IsGoing, IsGood, IsSettled, uses_of}
use Rattle.drill.specs.Disks.{AreDisks, IsDealing, IsUnused, header_for, opened_for, use_in}
use Rattle.drill.specs.Drills.{HasTable, IsFor, table_header}
use Rattle.drill.specs.Ids.{id_of}
use Rattle.drill.specs.Keys.{HasDealing}
use Rattle.drill.specs.declared.desk.Desk.{Desk}
use Rattle.drill.specs.declared.run.Drilled.{Drilled}
use Rattle.drill.specs.declared.seat.Seat.{Seat as Place}
use Rattle.drill.specs.declared.seat.Seat.TheVariants.{Refused, Running, Signed, Waiting}
use Rattle.drill.specs.declared.state.Drill.{Drill}
use Rattle.drill.proofs.Counted.{signed-and-free}
use Rattle.drill.proofs.Desks.{three}
use Rattle.drill.proofs.Sums.{sum-same}
use Rattle.drill.proofs.Seated.{member-trustee}

-- the file of a table in which nothing is in doubt
module _ {D : Type 0} {p : pages.Ghosts D} {f : faults.Ghosts D} (table : Table D p f) (disk : MemState) (settled : IsSettled table) (height : (plan_of table).h ≡ 5) (keeps : Keeps table disk.bytes) where
  count : 2 ^ (plan_of table).h ≡ 32
  count = ap (λ (h : ℕ). 2 ^ h) height

  leaves : (q : ℕ) → q < 32 → use_of_slot (slot_at 1 q disk.bytes) ≡ uses_of table q
  leaves q within =
      let size : length (state_of table).slots ≡ 2 ^ table.plan.h = table.count in
      let inside = subst (λ (n : ℕ). q < n) (sym (size ∙ count)) within in
      elim keeps.stands [
        | inl has ↦ has q inside
        | inr made ↦ absurd (let none = settled.settled in let some = made.1 in cc)
      ]

  pub has-table : HasTable table disk
  has-table = record { file = subst (λ (n : ℕ). IsTableFile (header_of table) n disk.bytes) count keeps.loads; leaves = leaves }

-- the leaf that is leased for a session that has ended: no other is, and its members have opened it
pub record IsDone (d : Dealing) (i : ℕ) (uses : ℕ → LeafUse) (leaves : ℕ → ℕ → LeafState) (q : ℕ) : Type 0 where
  pub only : (r : ℕ) → r < 32 → uses r ≡ IsLeased (id_of i) → r ≡ q
  pub opened : (t : ℕ) → Contains (leaf_members d.plan q) t → leaves t q ≡ opened_for d i q

done : (desk : Desk) (d : Dealing) (i : ℕ) (uses : ℕ → LeafUse) (leaves : ℕ → ℕ → LeafState) (q : ℕ) → q < 32 → uses q ≡ IsLeased (id_of i)
    → (place : Place) → IsGoing desk d i uses leaves place → HasEnded place → IsDone d i uses leaves q
done desk d i uses leaves q within leased Waiting going ended = absurd ended
done desk d i uses leaves q within leased (Running s) going ended = absurd ended
done desk d i uses leaves q within leased (Signed leaf) going ended =
    subst (λ (r : ℕ). IsDone d i uses leaves r) (sym (going.only q within leased)) (record { only = going.only; opened = going.opened })
done desk d i uses leaves q within leased Refused going ended = absurd (going.1 q within leased)

module _ (desk : Desk) (own : HasDealing desk.plan desk.dealt) (number : ℕ) (drill : Drill) (drilled : Drilled) (dealing_is : IsDealing number own.dealing) (is_for : IsFor desk drill)
    (good : IsGood desk own.dealing drill) (ended : All HasEnded drill.seats.items) (journals : AreJournals drill.trustees drilled.journals.items) (table : HasTable drill.table drilled.table)
    (counted : drilled.summary.signed ≡ signed_in drill.seats.items) where
  abbrev d : Dealing
  d = own.dealing

  abbrev none : MemState
  none = stable_disk [] 0 0

  plan-is : d.plan ≡ three
  plan-is = own.plan_is ∙ desk.plan_is

  trustee : (t : ℕ) → 1 ≤ t → t ≤ 3 → IsTrustee t
  trustee t low high = record { low = low; high = high }

  the-table : table_header desk.dealt ≡ header_for d 1 0
  the-table = λ j. record { version = 1; number = 0; lms = desk.lms j; ots = desk.ots j; id = own.dealt_is.id j }

  the-journal : (t : ℕ) → IsTrustee t → journal_header (share_at drill.trustees t) ≡ header_for d 2 t
  the-journal t is =
      let share = good.shares t is in
      let lms = ap (λ (p : Params). p.lms) share.params ∙ dealing_is.lms in
      let ots = ap (λ (p : Params). p.ots) share.params ∙ dealing_is.ots in
      λ j. record { version = 2; number = share.member j; lms = lms j; ots = ots j; id = share.id j }

  unused : (q : ℕ) → q < 32 → uses_of drill.table q ≡ IsFree → IsUnused drilled q
  unused q within free = record {
    table = table.leaves q within ∙ free;
    journals_are = λ t low high. (journals.each t none (trustee t low high)).leaves q within ∙ good.free t q (trustee t low high) within (inl free);
  }

  signed-is : drilled.summary.signed + sum_below (λ q. is_open (use_in drilled q)) 32 ≡ 32
  signed-is =
      let all = signed-and-free drill.seats.items (uses_of drill.table) ended good.leaves in
      let same = sum-same (λ (q : ℕ). is_open (uses_of drill.table q)) (λ (q : ℕ). is_open (use_in drilled q)) 32 (λ q within. ap is_open (table.leaves q within)) in
      counted_in drilled.summary.signed (signed_in drill.seats.items) _ _ counted same all
    where
      counted_in : (a b x y : ℕ) → a ≡ b → x ≡ y → b + y ≡ 32 → a + x ≡ 32
      counted_in a b x y one two all = omega arith

  pub are-disks : AreDisks number (length drill.seats.items) drilled
  are-disks = record {
    dealing = d;
    dealing_is = dealing_is;
    count = journals.count;
    table = subst (λ (h : Header). IsTableFile h 32 drilled.table.bytes) (is_for.table.header ∙ the-table) table.file;
    journals_are = λ t low high.
        let is = trustee t low high in
        subst (λ (h : Header). IsJournalFile h 32 (get_or drilled.journals.items (t - 1) none).bytes) (the-journal t is) (journals.each t none is).file;
    signed = signed-is;
    leaves = λ q within. elim (good.taken q within) [
      | inl free ↦ inl (unused q within free)
      | inr by ↦
          let it = done desk d by.session (uses_of drill.table) (leaf_at drill.trustees) q within by.leased (get_or drill.seats.items by.session Refused)
          (good.seats by.session Refused by.within) (ended by.session Refused by.within) in
          inr (record {
            session = by.session;
            within = by.within;
            coalition = by.coalition;
            leased = table.leaves q within ∙ by.leased;
            only = λ r small leased. it.only r small (sym (table.leaves r small) ∙ leased);
            members = λ t member.
                let is = member-trustee d.plan plan-is t q member in
                (journals.each t none is).leaves q within ∙ it.opened t member;
            others = λ t low high out.
                let is = trustee t low high in
                (journals.each t none is).leaves q within
                ∙ good.free t q is within (inr (λ member. out (subst (λ (p : PlanNumbers). Contains (leaf_members p q) t) (sym plan-is) member)));
          })
    ];
  }
