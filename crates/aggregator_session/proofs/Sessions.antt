-- How a session ends.
use Rattle.std.proofs.Common.{◌≡◌, ◌⊎◌, ◌≤◌, ℕ, Bool, true, false, ◌==◌, ◌&&◌, List, [], ◌∷◌, length, map, IsTrue, Option, Some, None, IfErr, IfSome, Result, Ok, Err, refl, sym, ap, subst, ◌∙◌, arith, inl, inr, if◌then◌else◌}
use Rattle.aggregator_session.proofs.Frames.{framed-as, frames-of}
use Rattle.aggregator_session.proofs.Numbers.{ok-never}
use Rattle.aggregator_session.specs.Causes.{ReferenceCauses}
use Rattle.aggregator_session.specs.Desks.{DeskState}
use Rattle.aggregator_session.specs.Faults.{sign_fault}
use Rattle.aggregator_session.specs.Hearing.{Asked, IsLoss, awaited, kept_in, unwritten}
use Rattle.aggregator_session.specs.Runs.{Calls, CellsRead, DealtC, First, Opens, Second, SignRun, dialled, first_all, first_answered, first_frame, first_lost, first_refused, nowhere, second_all, second_answered, second_lost, second_refused, second_unread, undialled}
use Rattle.aggregator_session.specs.declared.desk.Address.{Address}
use Rattle.aggregator_session.specs.declared.fault.SignFault.{SignFault}
use Rattle.aggregator_session.specs.declared.fault.SignFault.TheVariants.{Session}
use Rattle.lms_bytes.specs.Bytes.{bytes_at}
use Rattle.lms_bytes.specs.declared.params.Params.{Params}
use Rattle.lms_verify.specs.Accepts.{LeadsTo}
use Rattle.session_core.specs.Replies.{same_message}
use Rattle.session_core.specs.declared.faults.KeptValue.TheVariants.{Message, Digest}
use Rattle.std.specs.Str.{bytes_eq}
use Rattle.mask_prf.specs.Lengths.{leaves_length}
use Rattle.aggregator_session.specs.Tasks.{IsExact}
use Rattle.disk_trait.specs.declared.faults.Faults as faults
use Rattle.reference_value.specs.Kinds.{StayAs}
use Rattle.reference_value.specs.Stay.{CellsStay}
use Rattle.reference_value.specs.declared.cells.Cells as cells
use Rattle.coalition_map.specs.Coalitions.{PlanNumbers, leaf_members}
use Rattle.disk_trait.specs.Faults.{Rose}
use Rattle.round_frames.specs.Replies.{Reply}
use Rattle.lms_verify.specs.UndividedKey.{UndividedKey}
use Rattle.reference_value.specs.Dealing.{Dealing, leaf_randomizer, reference}
use Rattle.session_core.specs.Dealing.{FirstMasks, IsOfDealing}
use Rattle.session_core.specs.Judging.{first_fault, kept_message, opened_fault, refusal_fault, round_fault, seat_fault, spent_fault}
use Rattle.session_core.specs.Rounds.{TurnsTo}
use Rattle.session_core.specs.Seats.{Seat}
use Rattle.session_core.specs.State.{State, seats_of}
use Rattle.session_core.specs.Verdicts.{AreMasks, FinishFails, Turned, Unread, digest_of, joined_bytes, joined_c}
use Rattle.session_core.specs.declared.faults.SessionFault.{SessionFault}
use Rattle.session_core.specs.declared.faults.SessionFault.TheVariants.{MemberRefused, Missing, NoMemory, Reference, SpentLeaf, WrongCheck, WrongRoot}
use Rattle.merkle_path.specs.Tree.{TreeNodes}
use Rattle.stream_io.specs.Net.{PortState}
use Rattle.stream_io.specs.Talk.{Talk}

abbrev no_answer : SignFault → Result Reply SignFault
no_answer fault = Err fault

asked-not : (s : State) (member : ℕ) (frame : List ℕ) (old new : Talk) (answer : Result Reply SignFault) (f : SessionFault) → Asked s member frame old new answer → answer ≡ Err (Session f) → ⊥
asked-not s member frame old new answer f (unwritten only wrote rose) is = absurd (cc)
asked-not s member frame old new answer f (awaited mid a only quiet wrote h) is =
    let lost : IfErr (no_answer (Session f)) (IsLoss s member) = subst (λ (x : Result Reply SignFault). IfErr x (IsLoss s member)) is h.lost in
    absurd lost

calls-not : (addresses : List Address) (ask : List ℕ) (s : State) (member : ℕ) (port after : PortState) (talks : List Talk) (answer : Result Reply SignFault) (f : SessionFault)
    → Calls addresses ask s member port after talks answer → answer ≡ Err (Session f) → ⊥
calls-not addresses ask s member port after talks answer f (nowhere none) is = absurd (cc)
calls-not addresses ask s member port after talks answer f (undialled place a found onward rose same nobody) is = absurd (cc)
calls-not addresses ask s member port after talks answer f (dialled place start talk steady a x found onward quiet dials asks) is = asked-not s member ask start talk x f asks is

-- the outcome of round one is no fault of the session
pub first-not : (addresses : List Address) (ask : List ℕ) (port : PortState) (s : State) (members : List ℕ) (talks : List Talk) (last : State) (end : Result (Unit {0}) SignFault) (f : SessionFault)
    → First addresses ask port s members talks last end → end ≡ Err (Session f) → ⊥
first-not addresses ask port s members talks last end f (first_all p x) is = absurd (cc)
first-not addresses ask port s members talks last end f (first_lost p after x member rest t fault calls) is = calls-not addresses ask x member p after t (no_answer fault) f calls (let same : fault ≡ Session f = cc in ap no_answer same)
first-not addresses ask port s members talks last end f (first_refused p after x member rest t reply calls refused) is = absurd (cc)
first-not addresses ask port s members talks last end f (first_answered p after x y member rest t later reply e calls granted next) is = first-not addresses ask after (kept_in x (Ok reply)) rest later y e f next is

-- the fault that a member's reply is
abbrev IsOfMember : SessionFault → Type 0
IsOfMember (Missing member round) = Unit {0}
IsOfMember (SpentLeaf leaf member kept) = Unit {0}
IsOfMember (WrongCheck leaf member) = Unit {0}
IsOfMember (WrongRoot leaf got want) = ⊥
IsOfMember (MemberRefused member code) = Unit {0}
IsOfMember Reference = ⊥
IsOfMember NoMemory = ⊥

if-member : (b : Bool) (x y : SessionFault) → IsOfMember x → IsOfMember y → IsOfMember (if b then x else y)
if-member true x y p q = p
if-member false x y p q = q

elim-member : (c : Option (List ℕ)) (x : SessionFault) (f : List ℕ → SessionFault) → IsOfMember x → ((v : List ℕ) → IsOfMember (f v)) → IsOfMember (elim c [ None ↦ x | Some v ↦ f v ])
elim-member None x f p q = p
elim-member (Some v) x f p q = q v

refusal-member : (s : State) (digest : List ℕ) (member code : ℕ) (body : List ℕ) → IsOfMember (refusal_fault s digest member code body)
refusal-member s digest member code body =
    let n = s.key.params.n in
    if-member (code == 9) (spent_fault s member body) _ (if-member (same_message (kept_message body) s.message) (MemberRefused member 9) (SpentLeaf s.leaf member (Message (kept_message body))) tt tt)
    (elim-member s.c (MemberRefused member code) (λ (c : List ℕ). if code == 5 then WrongCheck s.leaf member else if code == 10 then opened_fault s c digest member body else MemberRefused member code) tt
    (λ c. if-member (code == 5) (WrongCheck s.leaf member) _ tt (if-member (code == 10) (opened_fault s c digest member body) (MemberRefused member code)
    (if-member (bytes_eq (bytes_at body 0 n) c && bytes_eq (bytes_at body n n) digest) (MemberRefused member 10) (SpentLeaf s.leaf member (Digest (bytes_at body 0 n) (bytes_at body n n))) tt tt) tt)))

if-none : (b : Bool) (x : SessionFault) → IsOfMember x → IfSome (if b then None else Some x) IsOfMember
if-none true x p = tt
if-none false x p = p

elim-seat : (o : Option ℕ) (x : SessionFault) (f : ℕ → Option SessionFault) → IsOfMember x → ((v : ℕ) → IfSome (f v) IsOfMember) → IfSome (elim o [ None ↦ Some x | Some v ↦ f v ]) IsOfMember
elim-seat None x f p q = p
elim-seat (Some v) x f p q = q v

seat-member : (s : State) (digest : List ℕ) (seat : Seat) → IfSome (seat_fault s digest seat) IsOfMember
seat-member s digest seat = elim-seat seat.code _ (λ (code : ℕ). if code == 0 then None else Some (refusal_fault s digest seat.member code seat.body)) tt
    (λ code. if-none (code == 0) (refusal_fault s digest seat.member code seat.body) (refusal-member s digest seat.member code seat.body))

first-cons : (o : Option SessionFault) (rest : List (Option SessionFault)) → IfSome o IsOfMember → IfSome (first_fault rest) IsOfMember → IfSome (first_fault (o ∷ rest)) IsOfMember
unfolding first_fault
first-cons None rest p q = q
first-cons (Some fault) rest p q = p

first-nil : IfSome (first_fault []) IsOfMember
unfolding first_fault
first-nil = tt

first-member : (s : State) (digest : List ℕ) (seats : List Seat) → IfSome (first_fault (map (seat_fault s digest) seats)) IsOfMember
first-member s digest [] = first-nil
first-member s digest (seat ∷ seats) = first-cons (seat_fault s digest seat) (map (seat_fault s digest) seats) (seat-member s digest seat) (first-member s digest seats)

abbrev some_fault : SessionFault → Option SessionFault
some_fault fault = Some fault

-- a round's fault is a member's
pub round-not-reference : (s : State) (digest : List ℕ) → round_fault s digest ≡ Some Reference → ⊥
round-not-reference s digest is =
    let of : IfSome (some_fault Reference) IsOfMember = subst (λ (o : Option SessionFault). IfSome o IsOfMember) is (first-member s digest (seats_of s)) in
    absurd of

pub sign-reference : (f : SessionFault) → sign_fault f ≡ Session Reference → f ≡ Reference
sign-reference (Missing member round) is = absurd (cc)
sign-reference (SpentLeaf leaf member kept) is = absurd (cc)
sign-reference (WrongCheck leaf member) is = absurd (cc)
sign-reference (WrongRoot leaf got want) is = absurd (cc)
sign-reference (MemberRefused member code) is = absurd (cc)
sign-reference Reference is = refl
sign-reference NoMemory is = absurd (cc)

-- a session that stops by its reference
pub stops-reference : (s : State) (digest : List ℕ) (before now : ℕ) (f : SessionFault) → (round_fault s digest ≡ Some f) ⊎ Unread s digest before now f → sign_fault f ≡ Session Reference
    → (round_fault s digest ≡ None) × Rose before now
stops-reference s digest before now f cause is =
    let reference = sign-reference f is in
    elim cause [
      | inl some ↦ absurd (round-not-reference s digest (some ∙ ap some_fault reference))
      | inr unread ↦ (unread.faultless, unread.rose)
    ]

pub fails-reference : (s : State) (message : List ℕ) (told : Bool) (bytes : List ℕ) (before now : ℕ) (f : SessionFault) → FinishFails s message told bytes before now f → sign_fault f ≡ Session Reference
    → (round_fault s (digest_of s message) ≡ None) × Rose before now
fails-reference s message told bytes before now f fails is =
    let reference = sign-reference f is in
    elim fails [
      | inl none ↦ absurd (cc)
      | inr (inl some) ↦ absurd (round-not-reference s (digest_of s message) (some ∙ ap some_fault reference))
      | inr (inr (inl unread)) ↦ (unread.faultless, unread.rose)
      | inr (inr (inr astray)) ↦ absurd (let a = astray.fault_is in cc)
    ]

unread-later : (s : State) (digest : List ℕ) (a b now : ℕ) (f : SessionFault) → a ≤ b → Unread s digest b now f → Unread s digest a now f
unread-later s digest a b now f le u = record { faultless = u.faultless; reference = u.reference; rose = (let r = u.rose in omega arith) }

pub stops-later : (s : State) (digest : List ℕ) (a b now : ℕ) (f : SessionFault) → a ≤ b → (round_fault s digest ≡ Some f) ⊎ Unread s digest b now f → (round_fault s digest ≡ Some f) ⊎ Unread s digest a now f
stops-later s digest a b now f le cause = elim cause [
  | inl some ↦ inl some
  | inr unread ↦ inr (unread-later s digest a b now f le unread)
]

-- the same of a reference that tells the same
pub fails-as : (s : State) (message : List ℕ) (tree : TreeNodes) (t u : Bool) (ls ms : List ℕ) (a b now : ℕ) (f : SessionFault) → t ≡ u → (IsTrue u → ls ≡ ms) → a ≤ b
    → FinishFails s message t (joined_bytes s ls tree message) b now f → FinishFails s message u (joined_bytes s ms tree message) a now f
fails-as s message tree t u ls ms a b now f is leaves le fails = elim fails [
  | inl none ↦ inl none
  | inr (inl some) ↦ inr (inl some)
  | inr (inr (inl unread)) ↦ inr (inr (inl (unread-later s (digest_of s message) a b now f le unread)))
  | inr (inr (inr astray)) ↦ inr (inr (inr (record {
    faultless = astray.faultless;
    got = astray.got;
    fault_is = astray.fault_is;
    other = astray.other;
    leads = λ told. subst (λ (l : List ℕ). LeadsTo s.key message (joined_bytes s l tree message) s.leaf astray.got) (leaves told) (astray.leads (is ∙ told));
  })))
]

pub second-as : (t u : Bool) (ls ms : List ℕ) (turned : State) (message : List ℕ) (s : State) (members : List ℕ) (olds news : List Talk) (last : State) (end : Result (Unit {0}) SignFault) → t ≡ u → (IsTrue u → ls ≡ ms)
    → Second (frames-of t ls turned message) s members olds news last end → Second (frames-of u ms turned message) s members olds news last end
second-as t u ls ms turned message s members olds news last end is leaves (second_all x) = second_all x
second-as t u ls ms turned message s members olds news last end is leaves (second_unread x member rest o) = second_unread x member rest o
second-as t u ls ms turned message s members olds news last end is leaves (second_lost x member rest ask old new o fault framed asks) =
    second_lost x member rest ask old new o fault (framed-as t u ls ms turned message member ask is leaves framed) asks
second-as t u ls ms turned message s members olds news last end is leaves (second_refused x member rest ask old new o reply framed asks refused) =
    second_refused x member rest ask old new o reply (framed-as t u ls ms turned message member ask is leaves framed) asks refused
second-as t u ls ms turned message s members olds news last end is leaves (second_answered x y member rest ask old new o n reply e framed asks granted next) =
    second_answered x y member rest ask old new o n reply e (framed-as t u ls ms turned message member ask is leaves framed) asks granted
    (second-as t u ls ms turned message (kept_in x (Ok reply)) rest o n y e is leaves next)

-- all members answered round one with masks
all-of : (n k : ℕ) (kept : State) → (n ≡ k) ⊎ (AreMasks kept.first → ⊥) → AreMasks kept.first → n ≡ k
all-of n k kept (inl is) masks = is
all-of n k kept (inr not) masks = absurd (not masks)

pub opens : (addresses : List Address) (reads : CellsRead) (port : PortState) (s kept turned : State) (members : List ℕ) (talks : List Talk) (n : ℕ) (end : Result (Unit {0}) SignFault) → members ≡ leaf_members s.plan s.leaf
    → First addresses (first_frame s) port s members talks kept end → end ≡ Ok tt
    → (n ≡ length members) ⊎ (AreMasks kept.first → ⊥) → length talks ≡ n → Turned kept turned
    → (IsTrue reads.told → turned ≡ record kept { c = Some (joined_c kept reads.leaves) }) → (IsTrue reads.told → DealtC kept turned reads.leaves) → Opens addresses reads port s turned talks
opens addresses reads port s kept turned members talks n end is run ok whole many turns c dealt = record {
  kept = kept;
  first = subst (λ (m : List ℕ). First addresses (first_frame s) port s m talks kept (Ok tt)) is (subst (λ (e : Result (Unit {0}) SignFault). First addresses (first_frame s) port s members talks kept e) ok run);
  all = many ∙ (all-of n (length members) kept whole turns.masks ∙ ap (length {A = ℕ}) is);
  turns = turns;
  c = c;
  dealt = dealt;
}

pub first-as : (addresses : List Address) (ask : List ℕ) (port : PortState) (s : State) (m n : List ℕ) (talks : List Talk) (last : State) (e f : Result (Unit {0}) SignFault) → m ≡ n → e ≡ f
    → First addresses ask port s m talks last e → First addresses ask port s n talks last f
first-as addresses ask port s m n talks last e f is same run =
    subst (λ (x : List ℕ). First addresses ask port s x talks last f) is (subst (λ (x : Result (Unit {0}) SignFault). First addresses ask port s m talks last x) same run)

-- the fault that is passed on
pub err-as : {V W : Type 0} (r : Result V SignFault) (q : Result W SignFault) (x y z : SignFault) → r ≡ Err x → x ≡ y → q ≡ Err y → r ≡ Err z → q ≡ Err z
err-as r q x y z is same was end = cc

pub same-err : {V : Type 0} (r : Result V SignFault) (x y z : SignFault) → r ≡ Err x → x ≡ y → r ≡ Err z → y ≡ z
same-err r x y z is same end = cc

pub whole-as : (len : ℕ) (p q : Params) (m n : PlanNumbers) → len ≡ leaves_length p m → p ≡ q → m ≡ n → len ≡ leaves_length q n
whole-as len p q m n is params plan = is ∙ (ap (λ (x : Params). leaves_length x m) params ∙ ap (λ (x : PlanNumbers). leaves_length q x) plan)

pub count-as : (a b : ℕ) → b ≡ a → a ≤ b
count-as a b is = omega arith

module _ {desk : DeskState} {reads : CellsRead} {message : List ℕ} {port : PortState} {s : State} {talks : List Talk} {end : Result (List ℕ) SignFault} where
  pub run-as : (k l : State) → l ≡ k → SignRun desk reads message port s talks k end → SignRun desk reads message port s talks l end
  run-as k l is run = subst (λ (x : State). SignRun desk reads message port s talks x end) (sym is) run

module _ {turned s : State} {message : List ℕ} {olds news : List Talk} {last : State} where
  pub second-end : (t u : Bool) (ls ms : List ℕ) (m n : List ℕ) (e f : Result (Unit {0}) SignFault) → t ≡ u → (IsTrue u → ls ≡ ms) → m ≡ n → e ≡ f
      → Second (frames-of t ls turned message) s m olds news last e → Second (frames-of u ms turned message) s n olds news last f
  second-end t u ls ms m n e f is leaves members end run =
      subst (λ (x : List ℕ). Second (frames-of u ms turned message) s x olds news last f) members (subst (λ (x : Result (Unit {0}) SignFault). Second (frames-of u ms turned message) s m olds news last x) end
      (second-as t u ls ms turned message s m olds news last e is leaves run))

module _ {C : Type 0} {k : cells.Ghosts C} {f : faults.Ghosts C} {x y : C} where
  pub exact-as : y ≡ x → IsExact k f x → IsExact k f y
  exact-as is exact = subst (IsExact k f) (sym is) exact

  pub exact-stays : CellsStay k f x y → IsExact k f x → IsExact k f y
  exact-stays stays exact = record {
    steady = stays.steady ∙ exact.steady;
    told = stays.told ∙ exact.told;
    whole = ap (length {A = ℕ}) (stays.leaves exact.told) ∙ whole-as _ _ _ _ _ exact.whole (sym stays.set) (sym stays.plan);
  }

module _ {C : Type 0} (told : C → Bool) (leaves : C → List ℕ) (x y : C) (kept now : State) where
  pub joined-as : y ≡ x → (IsTrue (told y) → now ≡ record kept { c = Some (joined_c kept (leaves y)) }) → IsTrue (told x) → now ≡ record kept { c = Some (joined_c kept (leaves x)) }
  joined-as is joined = subst (λ (w : C). IsTrue (told w) → now ≡ record kept { c = Some (joined_c kept (leaves w)) }) is joined

module _ {C : Type 0} (told : C → Bool) (leaves : C → List ℕ) (x y : C) (kept now : State) where
  pub dealt-as : y ≡ x → ((d : Dealing) (key : UndividedKey) → IsTrue (told y) → leaves y ≡ reference d → IsOfDealing d key kept → FirstMasks d kept → now ≡ record kept { c = Some (leaf_randomizer d kept.leaf) })
      → IsTrue (told x) → DealtC kept now (leaves x)
  dealt-as is dealt shown d key whole of masks = dealt d key (ap told is ∙ shown) (ap leaves is ∙ whole) of masks

pub none-of : (o : Option SessionFault) → ((f : SessionFault) → o ≡ Some f → ⊥) → o ≡ None
none-of None not = refl
none-of (Some f) not = absurd (not f refl)

module _ {C : Type 0} {set_of : C → Params} {plan_of : C → PlanNumbers} {is_told is_steady : C → Bool} {leaves_of : C → List ℕ} {x y : C} where
  pub stays-same : y ≡ x → StayAs set_of plan_of is_told is_steady leaves_of x y
  stays-same is = record { set = ap set_of is; plan = ap plan_of is; told = ap is_told is; steady = ap is_steady is; leaves = λ told. ap leaves_of is }

-- the same by what the calls say of the cells before and after
module _ {C : Type 0} (k : cells.Ghosts C) {x y : C} {addresses : List Address} {before now : ℕ} {port : PortState}
    {members : List ℕ} {talks : List Talk} {n : ℕ} {end : Result (Unit {0}) SignFault} where
  pub opens-by : y ≡ x → (s kept turned : State) → members ≡ leaf_members s.plan s.leaf
      → First addresses (first_frame s) port s members talks kept end → end ≡ Ok tt
      → (n ≡ length members) ⊎ (AreMasks kept.first → ⊥) → length talks ≡ n → TurnsTo k y kept turned
      → Opens addresses (record { told = k.told x; leaves = k.leaves x; before = before; now = now }) port s turned
      talks
  opens-by is s kept turned all run ok whole many turns =
      opens addresses _ port s kept turned members talks n end all run ok whole many turns.turned
      (joined-as k.told k.leaves x y kept turned is turns.joined)
      (dealt-as k.told k.leaves x y kept turned is turns.dealt)

-- a value is no fault of the reference
module _ {C V : Type 0} {k : cells.Ghosts C} {f : faults.Ghosts C} {x y : C} where
  pub cells-ok : (value : V) → CellsStay k f x y → ReferenceCauses k f x y (Ok value)
  cells-ok value stays = record {
    rises = λ is. absurd (ok-never value (Session Reference) is);
    succeeds = λ exact is. ok-never value (Session Reference) is;
    stays = stays;
  }
