-- The links of a port that wait: each is what the link that it wraps is.
use Rattle.std.proofs.Common.{◌≡◌, ◌≤◌, ◌+◌, ◌-◌, ◌^◌, ◌&&◌, ℕ, Bool, true, false, List, Option, Result, Ok, Err, IsErr}
use Rattle.std.proofs.Common.{min, ap, refl, sym, subst, ◌∙◌, arith}
use Rattle.disk_trait.specs.Faults.{HasCause}
use Rattle.stream_io.specs.Net.{Accepts, Dials, IsNewLink, PortOnward, PortState, SameLinks}
use Rattle.stream_io.specs.Talk.{Talk}
use Rattle.stream_memory.specs.Waiting.{with_waits}

pub first_true : (first last : Bool) → (first && last) ≡ true → first ≡ true
first_true true last both = refl
first_true false last both = both

pub last_true : (first last : Bool) → (first && last) ≡ true → last ≡ true
last_true true last both = both
last_true false last both = let no : false ≡ true = both in cc

both_true : (first last : Bool) → first ≡ true → last ≡ true → (first && last) ≡ true
both_true true last one other = other
both_true false last one other = one

-- waits in vain are counted beside the faults of a call
pub vain-cause : {T E : Type 0} (before now vain : ℕ) (result : Result T E) → HasCause before now result
    → HasCause (min (before + vain) (2 ^ 64 - 1)) (min (now + vain) (2 ^ 64 - 1)) result
vain-cause before now vain (Ok value) it =
    record { later = rw it.succeeded (omega arith); succeeded = rw it.succeeded refl; failed = tt }
vain-cause before now vain (Err fault) it =
    let later = it.later in
    let failed = it.failed in
    record { later = omega (arith, later); succeeded = tt; failed = omega (arith, failed) }

-- a fault that is passed on has the cause that it had
pub passed-on : {T U E : Type 0} (before now : ℕ) (fault : E) (result : Result T E) → IsErr result
    → HasCause {T = U} {E = E} before now (Err fault) → HasCause before now result
passed-on before now fault (Ok value) is it = let no : false ≡ true = is in cc
passed-on before now fault (Err other) is it = record { later = it.later; succeeded = tt; failed = it.failed }

module _ (old new : PortState) (talk talk' : Talk) (steady steady' nothing : Bool) (takes takes' : ℕ) (same : talk' ≡ talk)
    (as_steady : steady' ≡ (steady && nothing)) (as_much : takes' ≡ takes) where
  is_new : (place : Option (List ℕ)) → IsNewLink old place talk steady takes → IsNewLink (with_waits old nothing) place talk' steady' takes'
  is_new place it = subst (λ (t : Talk). IsNewLink (with_waits old nothing) place t steady' takes') (sym same) (record {
    told = it.told;
    steady = λ is. as_steady ∙ both_true steady nothing (it.steady (first_true old.steady nothing is)) (last_true old.steady nothing is);
    place = it.place;
    taken = it.taken;
    written = it.written;
    count = it.count;
    room = subst (λ n. old.room ≤ n) (sym as_much) it.room;
  })

  pub accepted : Accepts old talk steady takes new → Accepts (with_waits old nothing) talk' steady' takes' (with_waits new nothing)
  accepted it = record {
    listens = it.listens;
    link = is_new _ it.link;
    waiting = it.waiting;
    reaches = it.reaches;
    talks = it.talks;
  }

  pub dialled : (place : List ℕ) → Dials old place talk steady takes new → Dials (with_waits old nothing) place talk' steady' takes' (with_waits new nothing)
  dialled place it = record {
    there = it.there;
    link = is_new _ it.link;
    waiting = it.waiting;
    reaches = it.reaches;
    talks = it.talks;
  }

-- what a port leaves as it was, it also leaves so if its links wait
module _ (old new : PortState) (nothing : Bool) where
  pub same_links : SameLinks old new → SameLinks (with_waits old nothing) (with_waits new nothing)
  same_links it = record { waiting = it.waiting; reaches = it.reaches; talks = it.talks }

  pub port_onward : PortOnward old new → PortOnward (with_waits old nothing) (with_waits new nothing)
  port_onward it = record {
    told = it.told;
    steady = ap (λ steady. steady && nothing) it.steady;
    place = it.place;
    count = it.count;
    accept_count = it.accept_count;
    room = it.room;
  }
