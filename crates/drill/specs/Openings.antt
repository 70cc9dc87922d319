-- internal: What trustees open leaves under in a drill.
use Rattle.std.specs.Prelude.{◌≡◌, ◌≢◌, ◌⊎◌, ◌<◌, ◌≤◌, ◌==◌, ◌&&◌, ◌++◌, ℕ, Bool, List, [], ◌∷◌, All, Some, count_by}
use Rattle.drill_schedule.specs.Draws.{message_bytes}
use Rattle.leaf_table.specs.Entries.{IsLeased, LeafUse}
use Rattle.lms_bytes.specs.declared.ask.Ask.{Ask}
use Rattle.lms_bytes.specs.declared.ask.Second.{Second}
use Rattle.ots_chain.specs.MessageHash.{message_digest}
use Rattle.reference_value.specs.Dealing.{Dealing, leaf_randomizer}
use Rattle.drill.specs.Ids.{id_of}
use Rattle.drill.specs.declared.desk.Desk.{Desk}
use Rattle.drill.specs.declared.openings.Opening.{Opening}

-- the opening is of this leaf by this trustee
abbrev pub is_at : ℕ → ℕ → Opening → Bool
is_at member leaf opening = (opening.member == member) && (opening.leaf == leaf)

-- no trustee has two openings of a leaf
abbrev pub AreSingle : List Opening → Type 0
AreSingle openings = (member leaf : ℕ) → count_by (is_at member leaf) openings ≤ 1

-- the leaf is leased for one of `count` sessions, and opened for its message with the dealer's randomizer
pub record IsOwn (desk : Desk) (d : Dealing) (count : ℕ) (map : ℕ → LeafUse) (opening : Opening) : Type 0 where
  pub session : ℕ
  pub within : session < count
  pub leaf : opening.leaf < 32
  pub leased : map opening.leaf ≡ IsLeased (id_of session)
  pub c : opening.c ≡ leaf_randomizer d opening.leaf
  pub digest : opening.digest ≡ message_digest desk.dealt.public.params desk.dealt.public.id opening.leaf
      (leaf_randomizer d opening.leaf) (message_bytes session)

-- each opening is that of a session, and no trustee has two openings of a leaf
pub record AreOwn (desk : Desk) (d : Dealing) (count : ℕ) (map : ℕ → LeafUse) (openings : List Opening) : Type 0 where
  pub each : All (IsOwn desk d count map) openings
  pub single : AreSingle openings

-- what the second round of an ask opens
abbrev pub opening_of : ℕ → Ask → Second → Opening
opening_of member ask second =
    record { member = member; leaf = ask.leaf; c = second.c; digest = second.digest }

-- one more opening, which is not yet there, by an ask of round two
pub record IsOpening (old : List Opening) (member : ℕ) (ask : Ask) (new : List Opening) : Type 0 where
  pub second : Second
  pub round : ask.second ≡ Some second
  pub is_new : All (λ (opening : Opening). opening ≢ opening_of member ask second) old
  pub after : new ≡ old ++ opening_of member ask second ∷ []

-- an ask adds at most what it opens
abbrev pub Notes : List Opening → ℕ → Ask → List Opening → Type 0
Notes old member ask new = (new ≡ old) ⊎ IsOpening old member ask new
