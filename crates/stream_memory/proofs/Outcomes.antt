-- What a call does to a count of faults, by what it answers, and when it cannot answer that it failed.
use Rattle.std.proofs.Common.{◌≡◌, ◌≤◌, ◌+◌, ◌-◌, ◌^◌, ◌&&◌, ◌||◌, ℕ, Bool, true, false, Option, Some, None, Result, Ok, Err}
use Rattle.std.proofs.Common.{min, is_some, option_map, option_and_then, IfOk, IsErr, OnOk, OnErr, ap, refl, ◌∙◌, arith}
use Rattle.std.specs.Result.{IsErrAnd}
use Rattle.std.proofs.lemmas.Result.{err_from_is_err_and}
use Rattle.disk_trait.specs.MemDisk.{MemState}
use Rattle.disk_trait.specs.Faults.{HasCause, Rose}
use Rattle.stream_io.specs.Store.{RisesWhere}
use Rattle.stream_io.specs.declared.port.Accepted.{Accepted}
use Rattle.stream_io.specs.declared.call_fault.CallFault.TheVariants as call
use Rattle.stream_io.specs.declared.store.NewFault.TheVariants as new
use Rattle.stream_io.specs.declared.store.ReadAllFault.TheVariants as read
use Rattle.stream_memory.specs.MemStore.{disk_in, out_in}
use Rattle.stream_memory.specs.declared.entries.Slot.{Slot}
use Rattle.stream_memory.specs.declared.entries.Slot.TheVariants.{Here, Out}
use Rattle.stream_memory.proofs.Links.{first_true}

-- a call that failed has raised it
pub has_failed : (failed : Type 0) (before made now : ℕ) → failed → made ≡ before → made ≤ now → now ≡ min (made + 1) (2 ^ 64 - 1)
    → RisesWhere failed before now
has_failed failed before made now is same later fault = record {
  later = omega (arith, same, later);
  rose = λ _. omega (arith, same, fault);
  same = λ not. absurd (not is);
}

pub rises_by : (failed : Type 0) (before now : ℕ) → failed → before ≤ now → Rose before now → RisesWhere failed before now
rises_by failed before now is later rose = record { later = later; rose = λ _. rose; same = λ not. absurd (not is) }

-- and no other has
pub has_not : (failed : Type 0) (before now : ℕ) → (failed → ⊥) → now ≡ before → RisesWhere failed before now
has_not failed before now not same = record {
  later = omega (arith, same);
  rose = λ is. absurd (not is);
  same = λ _. same;
}

-- no call of a store that is steady is listed to fail
pub not_steady : (calls views stops all : Bool) → (calls ≡ true → false ≡ true) → (calls && views && stops && all) ≡ true → ⊥
not_steady calls views stops all fails is =
    let never : false ≡ true = fails (first_true calls views (first_true (calls && views) stops (first_true (calls && views && stops) all is))) in
    cc

-- and none of a steady port
pub not_calm : (calls gave links : Bool) → (calls ≡ true → false ≡ true) → (calls && gave && links) ≡ true → ⊥
not_calm calls gave links fails is =
    let never : false ≡ true = fails (first_true calls gave (first_true (calls && gave) links is)) in
    cc

-- an answer is not another one
pub ok_no : {T E : Type 0} (result : Result T E) (value : T) (fault : E) → result ≡ Ok value → result ≡ Err fault → ⊥
ok_no result value fault is other = cc

pub other_no : {T E : Type 0} (result : Result T E) (fault other : E) → (fault ≡ other → ⊥) → result ≡ Err fault → result ≡ Err other → ⊥
other_no result fault other differ is was = differ (cc)

-- the refusal that a fault led to
pub refusal : {T E : Type 0} (result : Result T E) (fault : E) → IsErrAnd result (λ other. other ≡ fault) → result ≡ Err fault
refusal result fault is =
    let p = err_from_is_err_and result is in
    p.1 ∙ ap Err p.2

-- a refusal, seen from the call that led to it
pub same_fault : {T U E : Type 0} (result : Result T E) (fault other : E) → result ≡ Err fault → result ≡ Err other
    → ◌≡◌ {A = Result U E} (Err fault) (Err other)
same_fault result fault other is was = let same : fault ≡ other = cc in ap Err same

pub rises-as : {T U E : Type 0} (result : Result T E) (fault other : E) (before now : ℕ) → result ≡ Err fault
    → RisesWhere (◌≡◌ {A = Result U E} (Err fault) (Err other)) before now → RisesWhere (result ≡ Err other) before now
rises-as result fault other before now is rises = record {
  later = rises.later;
  rose = λ was. rises.rose (same_fault result fault other is was);
  same = λ not. rises.same (λ was. not (is ∙ same_fault (Err fault) fault other refl was));
}

-- what is said about a value says nothing about a refusal, and the other way round
pub if_refused : {T E : Type 0} (P : T → Type 0) (result : Result T E) (fault : E) → result ≡ Err fault → IfOk result P
if_refused P (Ok value) fault is = absurd (ok_no (Ok value) value fault refl is)
if_refused P (Err other) fault is = tt

pub if_failed : {T E : Type 0} (P : T → Type 0) (result : Result T E) → IsErr result → IfOk result P
if_failed P (Ok value) is = let never : false ≡ true = is in cc
if_failed P (Err other) is = tt

pub on_refused : {T E : Type 0} (P : Type 0) (result : Result T E) (fault : E) → result ≡ Err fault → OnOk result P
on_refused P (Ok value) fault is = absurd (ok_no (Ok value) value fault refl is)
on_refused P (Err other) fault is = tt

pub on_err : {T E : Type 0} (P : Type 0) (result : Result T E) → P → OnErr result P
on_err P (Ok value) it = tt
on_err P (Err other) it = it

-- nor is what came of accepting
pub same_link : {L : Type 0} (link other : L) → Accepted.Link link ≡ Accepted.Link other → link ≡ other
same_link link other is = cc

pub link_end : {L : Type 0} (result : Accepted L) (link : L) → result ≡ Accepted.Link link → result ≡ Accepted.End → ⊥
link_end result link is other = cc

pub link_failed : {L : Type 0} (result : Accepted L) (link : L) → result ≡ Accepted.Link link → result ≡ Accepted.Failed → ⊥
link_failed result link is other = cc

pub end_failed : {L : Type 0} (result : Accepted L) → result ≡ Accepted.End → result ≡ Accepted.Failed → ⊥
end_failed result is other = cc

-- nor is a fault
pub call_memory : call.NoMemory ≡ call.Failed → ⊥
call_memory is = cc

pub new_memory : new.NoMemory ≡ new.Failed → ⊥
new_memory is = cc

pub new_exists : new.Exists ≡ new.Failed → ⊥
new_exists is = cc

pub failed_exists : new.Failed ≡ new.Exists → ⊥
failed_exists is = cc

pub memory_exists : new.NoMemory ≡ new.Exists → ⊥
memory_exists is = cc

pub read_memory : read.NoMemory ≡ read.Failed → ⊥
read_memory is = cc

pub read_long : (got : ℕ) → read.TooLong got ≡ read.Failed → ⊥
read_long got is = cc

pub failed_long : (got : ℕ) → read.Failed ≡ read.TooLong got → ⊥
failed_long got is = cc

pub memory_long : (got : ℕ) → read.NoMemory ≡ read.TooLong got → ⊥
memory_long got is = cc

-- a name is there if its slot is found
pub named : (slot : Option Slot)
    → is_some slot ≡ (is_some (option_map (λ (disk : MemState). disk.bytes) (option_and_then disk_in slot)) || is_some (option_and_then out_in slot))
named None = refl
named (Some (Here disk)) = refl
named (Some (Out steady)) = refl

-- a call that was made and then failed has its cause, and is counted once
pub fails_for_cause : {T E : Type 0} (result : Result T E) (fault : E) (before made now : ℕ) → result ≡ Err fault → made ≡ before → made ≤ now
    → now ≡ min (made + 1) (2 ^ 64 - 1) → HasCause before now result
fails_for_cause (Ok value) fault before made now is same later counts = absurd (ok_no (Ok value) value fault refl is)
fails_for_cause (Err other) fault before made now is same later counts =
    record { later = omega (arith, same, later); succeeded = tt; failed = omega (arith, same, counts) }

pub fails_once : (before made now : ℕ) → made ≡ before → now ≡ min (made + 1) (2 ^ 64 - 1) → now ≤ before + 1
fails_once before made now same counts = omega (arith, same, counts)

pub never_fails : {T E : Type 0} (value : T) (before now : ℕ) → now ≡ before → HasCause {T = T} {E = E} before now (Ok value)
never_fails value before now same = record { later = omega (arith, same); succeeded = same; failed = tt }

pub not_once : (before now : ℕ) → now ≡ before → now ≤ before + 1
not_once before now same = omega (arith, same)

-- a call that failed was not to succeed
pub never_ok : false ≡ true → ⊥
never_ok is = cc
