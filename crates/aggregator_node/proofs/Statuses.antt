-- The status of an outcome, and how many requests came to it.
use Rattle.std.proofs.Common.{◌≡◌, ◌==◌, ◌+◌, ◌≤◌, ◌<◌, ℕ, List, ◌++◌, Result, Ok, Err, if◌then◌else◌, refl, ap, arith}
use Rattle.std.proofs.lemmas.List.Sums.{sum_by-append}
use Rattle.aggregator_session.specs.declared.fault.SignFault.{SignFault}
use Rattle.aggregator_session.specs.declared.fault.SignFault.TheVariants as sign
use Rattle.aggregator_node.specs.Clients.{Request}
use Rattle.aggregator_node.specs.Connections.{status_of, with_status}
use Rattle.leaf_table.specs.declared.faults.TableFault.TheVariants as table
use Rattle.aggregator_session.specs.Signing.{Signature}
use Rattle.session_core.specs.declared.faults.SessionFault.TheVariants as session

abbrev pub is_status : ℕ → Result Signature SignFault → ℕ
is_status status outcome = if status_of outcome == status then 1 else 0

pub with_status-append : (status : ℕ) (requests more : List Request) → with_status status (requests ++ more) ≡ with_status status requests + with_status status more
with_status-append status requests more = sum_by-append (λ (request : Request). is_status status request.outcome) requests more

-- the outcomes that come to failures 10 and 16, and all others
data IsTold (outcome : Result Signature SignFault) : Type 0 where
  told_device : outcome ≡ Err (sign.Table table.Device) → IsTold outcome
  told_unread : outcome ≡ Err (sign.Session session.Reference) → IsTold outcome
  told_worn : outcome ≡ Err sign.Worn → IsTold outcome
  told_otherwise : is_status 10 outcome ≡ 0 → is_status 16 outcome ≡ 0 → IsTold outcome

told : (outcome : Result Signature SignFault) → IsTold outcome
told (Ok signature) = told_otherwise refl refl
told (Err (sign.TooLong got)) = told_otherwise refl refl
told (Err sign.Worn) = told_worn refl
told (Err (sign.Table table.NotACoalition)) = told_otherwise refl refl
told (Err (sign.Table table.Device)) = told_device refl
told (Err (sign.Table (table.Damaged leaf a b))) = told_otherwise refl refl
told (Err (sign.Table (table.NoLeaf coalition))) = told_otherwise refl refl
told (Err (sign.Lost member round why)) = told_otherwise refl refl
told (Err (sign.Stray member round)) = told_otherwise refl refl
told (Err (sign.Session (session.Missing member round))) = told_otherwise refl refl
told (Err (sign.Session (session.SpentLeaf leaf member kept))) = told_otherwise refl refl
told (Err (sign.Session (session.WrongCheck leaf member))) = told_otherwise refl refl
told (Err (sign.Session (session.WrongRoot leaf got want))) = told_otherwise refl refl
told (Err (sign.Session (session.MemberRefused member code))) = told_otherwise refl refl
told (Err (sign.Session session.Reference)) = told_unread refl
told (Err (sign.Session session.NoMemory)) = told_otherwise refl refl
told (Err sign.NoMemory) = told_otherwise refl refl

-- what comes to failure 10
pub data IsTen (outcome : Result Signature SignFault) : Type 0 where
  device : outcome ≡ Err (sign.Table table.Device) → IsTen outcome
  unread : outcome ≡ Err (sign.Session session.Reference) → IsTen outcome
  other : is_status 10 outcome ≡ 0 → IsTen outcome

ten-of : (outcome : Result Signature SignFault) → IsTold outcome → IsTen outcome
ten-of outcome (told_device is) = device is
ten-of outcome (told_unread is) = unread is
ten-of outcome (told_worn is) = other (ap (is_status 10) is)
ten-of outcome (told_otherwise ten sixteen) = other ten

pub ten : (outcome : Result Signature SignFault) → IsTen outcome
ten outcome = ten-of outcome (told outcome)

-- what comes to failure 16
pub data IsSixteen (outcome : Result Signature SignFault) : Type 0 where
  worn : outcome ≡ Err sign.Worn → IsSixteen outcome
  another : is_status 16 outcome ≡ 0 → IsSixteen outcome

sixteen-of : (outcome : Result Signature SignFault) → IsTold outcome → IsSixteen outcome
sixteen-of outcome (told_device is) = another (ap (is_status 16) is)
sixteen-of outcome (told_unread is) = another (ap (is_status 16) is)
sixteen-of outcome (told_worn is) = worn is
sixteen-of outcome (told_otherwise ten sixteen) = another sixteen

pub sixteen : (outcome : Result Signature SignFault) → IsSixteen outcome
sixteen outcome = sixteen-of outcome (told outcome)

-- failure 10 is covered by one of two counts
pub ten-covered : (outcome : Result Signature SignFault) (a b c d : ℕ) → a ≤ b → c ≤ d → (outcome ≡ Err (sign.Table table.Device) → a < b)
    → (outcome ≡ Err (sign.Session session.Reference) → c < d) → IsTen outcome → a + c + is_status 10 outcome ≤ b + d
ten-covered outcome a b c d first second table_rose reference_rose (device is) =
    let rose = table_rose is in let one : is_status 10 outcome ≡ 1 = ap (is_status 10) is in omega (arith, rose, second, one)
ten-covered outcome a b c d first second table_rose reference_rose (unread is) =
    let rose = reference_rose is in let one : is_status 10 outcome ≡ 1 = ap (is_status 10) is in omega (arith, rose, first, one)
ten-covered outcome a b c d first second table_rose reference_rose (other none) = omega (arith, first, second, none)
