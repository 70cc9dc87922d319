-- What calls one after the other leave as it was.
use Rattle.std.proofs.Common.{◌≡◌, ◌+◌, ◌≤◌, ℕ, Bool, List, Result, Ok, Err, refl, sym, subst, ◌∙◌, arith}
use Rattle.std.specs.declared.alloc.Global.{Global}
use Rattle.std.specs.declared.vec.Vec.{Vec}
use Rattle.aggregator_session.specs.Causes.{DialCauses}
use Rattle.aggregator_session.specs.Faults.{IsLostBy, LostBy, sign_fault}
use Rattle.std.proofs.Math.Nat.{le_refl}
use Rattle.aggregator_session.proofs.Numbers.{one-over}
use Rattle.aggregator_session.specs.Runs.{Dialling, HasCalled, bytes_in, first_frame}
use Rattle.aggregator_session.specs.Tasks.{OnlyDials, RisesOnce}
use Rattle.aggregator_session.specs.declared.desk.Address.{Address}
use Rattle.aggregator_session.specs.declared.fault.SignFault.{SignFault}
use Rattle.aggregator_session.specs.declared.fault.SignFault.TheVariants.{Lost}
use Rattle.aggregator_session.specs.declared.fault.Why.{Why}
use Rattle.aggregator_session.specs.declared.fault.Why.TheVariants.{DialFailed, NoAddress, ReadFailed, WriteFailed}
use Rattle.disk_trait.specs.Faults.{Rose}
use Rattle.session_core.specs.State.{SameAsk, State}
use Rattle.session_core.specs.declared.faults.SessionFault.{SessionFault}
use Rattle.session_core.specs.declared.faults.SessionFault.TheVariants as session
use Rattle.stream_io.specs.Net.{PortOnward, PortState}

pub onward-then : (a b c : PortState) → PortOnward a b → PortOnward b c → PortOnward a c
onward-then a b c x y = record {
  told = y.told ∙ x.told;
  steady = y.steady ∙ x.steady;
  place = y.place ∙ x.place;
  count = (let p = x.count in let q = y.count in omega arith);
  accept_count = (let p = x.accept_count in let q = y.accept_count in omega arith);
  room = (let p = x.room in let q = y.room in omega arith);
}

pub dials-none : (a : PortState) → OnlyDials a a
dials-none a = record {
  onward = record { told = refl; steady = refl; place = refl; count = le_refl _; accept_count = le_refl _; room = le_refl _ };
  talks = refl;
  accepting = refl;
}

pub dials-then : (a b c : PortState) → OnlyDials a b → OnlyDials b c → OnlyDials a c
dials-then a b c x y = record { onward = onward-then a b c x.onward y.onward; talks = y.talks ∙ x.talks; accepting = y.accepting ∙ x.accepting }

pub same-then : (a b c : State) → SameAsk a b → SameAsk b c → SameAsk a c
same-then a b c x y = record {
  key = y.key ∙ x.key;
  plan = y.plan ∙ x.plan;
  leaf = y.leaf ∙ x.leaf;
  message = y.message ∙ x.message;
  c = y.c ∙ x.c;
}

pub same-none : (a b : State) → b ≡ a → SameAsk a b
same-none a b is =
    subst (SameAsk a) (sym is) (record { key = refl; plan = refl; leaf = refl; message = refl; c = refl })

-- the ask of round one stays the same
pub frame-same : (a b : State) → SameAsk a b → first_frame b ≡ first_frame a
unfolding first_frame
frame-same a b same = rw (same.key, same.leaf, same.message) refl

module _ {addresses : List Address} {member : ℕ} {old new : Dialling} {result : Result Bool SignFault} where
  pub called-as : (f g : List ℕ) → g ≡ f → HasCalled addresses g member old new result → HasCalled addresses f member old new result
  called-as f g is h = subst (λ (x : List ℕ). HasCalled addresses x member old new result) is h

pub rose-later : (a b c : ℕ) → a ≤ b → Rose b c → Rose a c
rose-later a b c le rose = omega arith

-- a loss that is passed on is the loss that came
pub lost-as : {V W : Type 0} (why : Why) (r : Result V SignFault) (q : Result W SignFault) (x y : SignFault) → r ≡ Err x → x ≡ y → q ≡ Err y → LostBy why r → LostBy why q
lost-as {V} {W} why r q x y is same was lost =
    let here : IsLostBy why x = subst (λ (z : Result V SignFault). LostBy why z) is lost in
    let there : IsLostBy why y = subst (IsLostBy why) same here in
    subst (λ (z : Result W SignFault). LostBy why z) (sym was) there

-- if a value came, no member is lost
pub ok-not : {V : Type 0} (why : Why) (r : Result V SignFault) (x : V) → r ≡ Ok x → LostBy why r → ⊥
ok-not {V} why r x is lost = subst (λ (z : Result V SignFault). LostBy why z) is lost

pub rises-later : {failed : Type 0} (a b c : ℕ) → b ≤ a → RisesOnce failed b c → RisesOnce failed a c
rises-later a b c le rises = record {
  once = (let once = rises.once in omega (arith, once));
  same = λ not. let same = rises.same not in omega (arith, same);
}

-- the same of an answer that passes on the loss
pub once-as : {V W : Type 0} (r : Result V SignFault) (q : Result W SignFault) (x y : SignFault) (before now : ℕ) → r ≡ Err x → x ≡ y → q ≡ Err y
    → RisesOnce (LostBy DialFailed r) before now → RisesOnce (LostBy DialFailed q) before now
once-as {V} {W} r q x y before now is same was rises = record {
  once = rises.once;
  same = λ not. rises.same (λ lost. not (lost-as DialFailed r q x y is same was lost));
}

-- the same if a value came, whatever is made of it
pub once-of : {V : Type 0} (failed : Type 0) (r : Result V SignFault) (x : V) (before now : ℕ) → r ≡ Ok x → RisesOnce (LostBy DialFailed r) before now → RisesOnce failed before now
once-of failed r x before now is rises = record {
  once = rises.once;
  same = λ _. rises.same (ok-not DialFailed r x is);
}

-- the same of the bytes of an answer
pub bytes-lost : (why : Why) (result : Result (Vec ℕ Global) SignFault) → LostBy why result → LostBy why (bytes_in result)
bytes-lost why (Ok bytes) lost = lost
bytes-lost why (Err fault) lost = lost

-- by a fault of the session no member is lost
sign-none : (why : Why) (f : SessionFault) → IsLostBy why (sign_fault f) → ⊥
sign-none why session.NoMemory lost = lost
sign-none why (session.Missing member round) lost = lost
sign-none why (session.SpentLeaf leaf member kept) lost = lost
sign-none why (session.WrongCheck leaf member) lost = lost
sign-none why (session.WrongRoot leaf got want) lost = lost
sign-none why (session.MemberRefused member code) lost = lost
sign-none why session.Reference lost = lost

pub judged-none : {V : Type 0} (why : Why) (r : Result V SignFault) (x : SignFault) (f : SessionFault) → r ≡ Err x → x ≡ sign_fault f → LostBy why r → ⊥
judged-none {V} why r x f is same lost =
    let here : IsLostBy why x = subst (λ (z : Result V SignFault). LostBy why z) is lost in
    sign-none why f (subst (IsLostBy why) same here)

-- what is known of calls that gave a value, of an answer that loses nobody
pub dials-on : {V W : Type 0} (n m : ℕ) (before now : PortState) (r : Result V SignFault) (q : Result W SignFault) (x : W) → q ≡ Ok x → ((why : Why) → LostBy why r → ⊥)
    → DialCauses n before now q → DialCauses m before now r
dials-on n m before now r q x is none d = record {
  dialled = λ lost. absurd (none DialFailed lost);
  once = once-of (LostBy DialFailed r) q x before.count now.count is d.once;
  reads = λ steady lost. none ReadFailed lost;
  writes = λ steady fits lost. none WriteFailed lost;
  only = d.only;
}

-- a member without an address, for which nobody was dialled, and one that was dialled in vain
pub dials-nowhere : (n member : ℕ) (port : PortState)
    → DialCauses {V = Bool} n port port (Err (Lost member 1 NoAddress))
dials-nowhere n member port = record {
  dialled = λ lost. absurd (let is = lost in cc);
  once = record { once = one-over port.count port.count (le_refl port.count); same = λ _. le_refl port.count };
  reads = λ steady lost. let is = lost in absurd (cc);
  writes = λ steady fits lost. let is = lost in absurd (cc);
  only = record {
    onward = record {
      told = refl;
      steady = refl;
      place = refl;
      count = le_refl port.count;
      accept_count = le_refl port.accept_count;
      room = le_refl port.room;
    };
    talks = refl;
    accepting = refl;
  };
}

pub dials-failed : (n member : ℕ) (before now : PortState) → Rose before.count now.count → now.count ≤ before.count + 1
    → OnlyDials before now → DialCauses {V = Bool} n before now (Err (Lost member 1 DialFailed))
dials-failed n member before now rose once only = record {
  dialled = λ lost. rose;
  once = record { once = once; same = λ not. absurd (not refl) };
  reads = λ steady lost. let is = lost in absurd (cc);
  writes = λ steady fits lost. let is = lost in absurd (cc);
  only = only;
}
