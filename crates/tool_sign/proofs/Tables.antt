-- What a table was when its disk was taken, and what it leaves.
use Rattle.std.proofs.Common.{◌≡◌, ◌≢◌, ◌↔◌, ◌+◌, ◌-◌, ◌^◌, ◌≤◌, min, ℕ, List, [], ◌∷◌, length, None, Some, IsTrue, sym, ap, subst, ◌∙◌, arith}
use Rattle.coalition_map.specs.Coalitions.{PlanNumbers}
use Rattle.disk_trait.specs.declared.disk.Pages as pages
use Rattle.disk_trait.specs.declared.faults.Faults as faults
use Rattle.leaf_table.specs.Loaded.{IsLoaded}
use Rattle.leaf_table.specs.Loading.{IsTableFile}
use Rattle.leaf_table.specs.Table.{Holds, Keeps, disk_of, header_of, plan_of, state_of}
use Rattle.leaf_table.specs.declared.table.Table.{Table}
use Rattle.aggregator_session.specs.Tables.{TableSeen, table_seen}
use Rattle.disk_trait.specs.Faults.{RisesAt}
use Rattle.slot_file.specs.Disks.{Unwritten}
use Rattle.slot_file.specs.Loading.{LoadRefused}
use Rattle.slot_file.specs.declared.faults.CacheLoad.{CacheLoad}
use Rattle.slot_file.specs.declared.faults.CacheLoad.TheVariants as cache
use Rattle.slot_file.specs.declared.header.Header.{Header}
use Rattle.stream_io.specs.Store.{Handed, PagesState, Returned, StoreOnward, StoreState, Taken, handed, pages_state}
use Rattle.tool_base.specs.Disks.{Stays}
use Rattle.tool_base.specs.Ending.{Ending}
use Rattle.tool_base.specs.Loads.{FailsToLoad, ReadsAs, end_of_slots}
use Rattle.tool_base.specs.Touched as touched
use Rattle.tool_base.specs.World.{from_to}
use Rattle.tool_base.proofs.Outs.{IsBackAs}
use Rattle.tool_base.proofs.Takes.{back, reads_as, slots_not_loaded, stays}
use Rattle.tool_sign.specs.Tables.{IsFresh, IsTable, LeavesTable, StandsAs, handed_of}

module _ {D : Type 0} {p : pages.Ghosts D} {f : faults.Ghosts D} (header : Header) (plan : PlanNumbers) where
  -- a table that was loaded from a disk that was just taken
  module _ (disk : D) (table : Table D p f) (loaded : IsLoaded p f header plan disk table) where
    is_table : IsTrue (p.told disk) → IsTable header plan (state_of table).entries (p.reads disk)
    is_table told = record {
      slots = (state_of table).slots;
      has = loaded.file told;
      many = subst (λ (q : PlanNumbers). length (state_of table).slots ≡ 2 ^ q.h) loaded.plan_is table.count;
      entries_are = loaded.entries;
    }

    is_fresh : (a b : StoreState) (name : List ℕ) → Taken a name (pages_state p.told p.honest f.steady f.count p.room p.reads p.may_leave disk) b → IsFresh a name header plan (table_seen table)
    is_fresh a b name taken =
        let kind = loaded.unwritten.stays in
        let told = kind.told in
        let honest = kind.honest in
        let steady = kind.steady in
        let same : handed (pages_state p.told p.honest f.steady f.count p.room p.reads p.may_leave disk) ≡ handed_of (table_seen table).name = cc in
        record {
          told = λ is. subst (λ b. IsTrue b) (sym told) (taken.given.told is);
          steady = λ is. subst (λ b. IsTrue b) (sym steady) (taken.given.steady is);
          kind = λ is. taken.kind is ∙ same;
          header_is = loaded.named;
          plan_is = loaded.plan_is;
          faults = loaded.faults ∙ taken.given.fresh;
          doubt = loaded.settled;
        }

  module _ (table : Table D p f) (header_is : header_of table ≡ header) (plan_is : plan_of table ≡ plan) (holds : Holds table) where
    stands_as : (file : List ℕ) → Keeps table file → StandsAs header plan (state_of table) file
    stands_as file keeps = record {
      loads = subst (λ h. IsTableFile h (2 ^ plan.h) file) header_is (subst (λ (q : PlanNumbers). IsTableFile (header_of table) (2 ^ q.h) file) plan_is keeps.loads);
      stands = keeps.stands;
    }

    leaves_table : (a e : StoreState) (name : List ℕ) (disk : D) → disk ≡ disk_of table → (IsTrue a.told → IsTrue (p.told disk))
        → (IsTrue a.told → IsTrue (a.disks name).honest → IsTrue (p.honest disk)) → (IsTrue a.told → e.file name ≡ Some (p.reads disk))
        → (IsTrue a.told → (image : List ℕ) → e.leaves name image ↔ p.may_leave disk image) → LeavesTable (from_to a e) name header plan (state_of table)
    leaves_table a e name disk is tells honest file leaves = record {
      file = p.reads disk;
      is_read = file;
      stands = λ told. stands_as (p.reads disk) (subst (λ d. Keeps table (p.reads d)) (sym is) (holds.reads (subst (λ d. IsTrue (p.told d)) is (tells told))));
      images = λ told is_honest image left.
          stands_as image (holds.images (subst (λ d. IsTrue (p.told d)) is (tells told)) (subst (λ d. IsTrue (p.honest d)) is (honest told is_honest)) image
          (subst (λ d. p.may_leave d image) is ((leaves told image).0 left)));
      many = subst (λ (q : PlanNumbers). length (state_of table).slots ≡ 2 ^ q.h) plan_is table.count;
      one_lease = holds.one_lease;
    }

-- ---- a table whose disk was taken and is back
abbrev pub disk_seen : {D : Type 0} → pages.Ghosts D → faults.Ghosts D → D → PagesState
disk_seen p f disk = pages_state p.told p.honest f.steady f.count p.room p.reads p.may_leave disk

-- it was not loaded
pub record TableRefused (first last : StoreState) (name : List ℕ) (header : Header) (count : ℕ) (end : Ending) : Type 0 where
  pub fails : FailsToLoad header count (from_to first last) name end
  pub stays : Stays (from_to first last) name
  pub keeps : touched.Keeps (name ∷ []) first last

-- it was loaded: what it was and what it leaves, also if nothing was done with it
pub record TableRound (first last : StoreState) (name : List ℕ) (header : Header) (plan : PlanNumbers) (untouched : Type 0) (old new : TableSeen) : Type 0 where
  pub fresh : IsFresh first name header plan old
  pub table_is : ReadsAs (from_to first last) name (IsTable header plan old.state.entries)
  pub name_is : new.name ≡ old.name
  pub stays : untouched → Stays (from_to first last) name
  pub left : LeavesTable (from_to first last) name header plan new.state
  pub sure : new.faults ≡ 0 → new.state.doubt ≡ None
  pub rise : min (first.disk_count + new.faults) (2 ^ 64 - 1) ≤ last.disk_count
  pub keeps : touched.Keeps (name ∷ []) first last

module _ {D : Type 0} (p : pages.Ghosts D) (f : faults.Ghosts D) (first mid last : StoreState) (name : List ℕ) (disk now : D)
    (taken : Taken first name (disk_seen p f disk) mid) (goes : StoreOnward first mid) (step : Returned mid name (disk_seen p f now) last) (comes : StoreOnward mid last) where
  pub table_refused : (header want : Header) (count : ℕ) (fault : CacheLoad) (end : Ending) → header ≡ want → end ≡ end_of_slots fault
      → (IsTrue (p.told disk) → LoadRefused header count (p.reads disk) fault) → Unwritten p f disk now
      → (IsTrue (f.steady disk) → IsTrue (p.told disk) → fault ≢ cache.Device) → RisesAt (f.count disk) (f.count now) fault cache.Device
      → TableRefused first last name want count end
  table_refused header want count fault end names is refused unwritten succeeds cause =
      let kind = unwritten.stays in
      let so = λ (told : IsTrue (p.told disk)). subst (λ h. LoadRefused h count (p.reads disk) fault) names (refused told) in
      record {
        fails = subst (FailsToLoad want count (from_to first last) name) (sym is)
            (slots_not_loaded first mid last name (disk_seen p f disk) (disk_seen p f now) taken goes step comes kind.told kind.honest kind.steady want count fault so succeeds cause);
        stays = stays first mid last name (disk_seen p f disk) (disk_seen p f now) taken goes step comes kind.told kind.honest kind.steady unwritten.same unwritten.images;
        keeps = (back first mid last name (disk_seen p f disk) (disk_seen p f now) taken goes step comes kind.told kind.honest kind.steady).keeps;
      }

module _ {D : Type 0} (p : pages.Ghosts D) (f : faults.Ghosts D) (header : Header) (plan : PlanNumbers) (disk now : D) (old new : Table D p f)
    (loaded : IsLoaded p f header plan disk old) (name_is : (table_seen new).name ≡ (table_seen old).name) (end_is : now ≡ disk_of new) where
  told_is : p.told now ≡ p.told disk
  told_is = ap p.told end_is ∙ ap (λ n. n.told) name_is ∙ loaded.unwritten.stays.told

  honest_is : p.honest now ≡ p.honest disk
  honest_is = ap p.honest end_is ∙ ap (λ n. n.honest) name_is ∙ loaded.unwritten.stays.honest

  steady_is : f.steady now ≡ f.steady disk
  steady_is = ap f.steady end_is ∙ ap (λ n. n.steady) name_is ∙ loaded.unwritten.stays.steady

  pub same_disk : handed (disk_seen p f disk) ≡ handed (disk_seen p f now)
  same_disk = let told = told_is in let honest = honest_is in let steady = steady_is in cc

  module _ (holds : Holds new) (first mid last : StoreState) (name : List ℕ)
      (taken : Taken first name (disk_seen p f disk) mid) (goes : StoreOnward first mid) (step : Returned mid name (disk_seen p f now) last) (comes : StoreOnward mid last) where
    table_back : IsBackAs first name (disk_seen p f now) last
    table_back = back first mid last name (disk_seen p f disk) (disk_seen p f now) taken goes step comes told_is honest_is steady_is

    pub table_round : TableRound first last name header plan (new ≡ old) (table_seen old) (table_seen new)
    table_round = record {
      fresh = is_fresh header plan disk old loaded first mid name taken;
      table_is = reads_as first mid last name (disk_seen p f disk) (disk_seen p f now) taken goes step comes told_is honest_is steady_is (IsTable header plan (table_seen old).state.entries)
          (is_table header plan disk old loaded);
      name_is = name_is;
      stays = λ is. stays first mid last name (disk_seen p f disk) (disk_seen p f now) taken goes step comes told_is honest_is steady_is
          (λ t. ap p.reads end_is ∙ ap (λ x. p.reads (disk_of x)) is ∙ loaded.unwritten.same t)
          (λ h image may. loaded.unwritten.images h image (subst (λ x. p.may_leave (disk_of x) image) is (subst (λ d. p.may_leave d image) end_is may)));
      left = leaves_table header plan new (ap (λ n. n.header) name_is ∙ loaded.named) (ap (λ n. n.plan) name_is ∙ loaded.plan_is) holds first last name now end_is
          (λ t. subst (λ b. IsTrue b) (sym told_is) (taken.given.told t))
          (λ t h. subst (λ b. IsTrue b) (sym honest_is) (subst (λ (x : Handed). IsTrue x.honest) (taken.kind t) h)) table_back.file table_back.leaves;
      sure = holds.cause;
      rise = let rises = table_back.disk_count in let counted : f.count now ≡ (table_seen new).faults = ap f.count end_is in omega (arith, rises, counted);
      keeps = table_back.keeps;
    }
