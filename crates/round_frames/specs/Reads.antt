-- What a reader of frames answers, and what it has read of its source.
use Rattle.std.specs.Prelude.{◌≡◌, ◌≢◌, ◌⊎◌, ◌<◌, ℕ, Bool, IsTrue, List, length, Result, Ok, Err}
use Rattle.lms_bytes.specs.IdHash.{HasTaken as IdTaken}
use Rattle.lms_bytes.specs.declared.message.IdHash.{IdHash}
use Rattle.lms_bytes.specs.declared.params.Params.{Params}
use Rattle.ots_chain.specs.MessageHash.{HasTaken}
use Rattle.ots_chain.specs.declared.message_hash.MessageHash.{MessageHash}
use Rattle.stream_io.specs.Store.{RisesWhere}
use Rattle.stream_io.specs.Talk.{OnlyRead, Talk, Took}
use Rattle.round_frames.specs.Frames.{Says}
use Rattle.round_frames.specs.declared.fault.FrameFault.{FrameFault}
use Rattle.round_frames.specs.declared.fault.FrameFault.TheVariants.{Cut, ReadFault}

-- a read failed, and some bytes had been read
pub record Broke {V : Type 0} (old new : Talk) (result : Result V FrameFault) : Type 0 where
  pub is : result ≡ Err ReadFault
  pub size : ℕ
  pub took : Took old new size

-- the answer is what the bytes say, and just the bytes that say it were read
pub record Gave {V : Type 0} (old new : Talk) (result : Result V FrameFault) (says : Says V) : Type 0 where
  pub is : result ≡ says.result
  pub took : Took old new says.size

abbrev pub Reads : {V : Type 0} → Talk → Talk → Result V FrameFault → Says V → Type 0
Reads old new result says = Gave old new result says ⊎ Broke old new result

-- `size` bytes were there, and just these were read; or all that were there, and they were fewer; or a read failed.
abbrev pub Passed : {V : Type 0} → Talk → Talk → Result V FrameFault → ℕ → Type 0
Passed old new (Ok value) size = Took old new size
Passed {V = V} old new (Err fault) size =
    ((fault ≡ Cut) × (length old.left < size) × Took old new (length old.left))
    ⊎ Broke {V = V} old new (Err fault)

-- A source was only read. Its count rose if a read failed and not otherwise, and no read of a steady source fails.
pub record OnlyTakes {V : Type 0} (was_steady is_steady : Bool) (old new : Talk) (result : Result V FrameFault)
    : Type 0 where
  pub only : OnlyRead old new
  pub cause : RisesWhere (result ≡ Err ReadFault) old.count new.count
  pub answers : IsTrue was_steady → result ≢ Err ReadFault
  pub steady : is_steady ≡ was_steady

-- internal: both hashes of a message in the making had taken some bytes of it, and have now taken these
pub record Hashed (old_id : IdHash) (old_digest : MessageHash) (new_id : IdHash) (new_digest : MessageHash)
    (before after : List ℕ) : Type 0 where
  pub id : IdTaken old_id before → IdTaken new_id after
  pub digest : (params : Params) (key : List ℕ) (q : ℕ) (c : List ℕ) → HasTaken old_digest params key q c before
      → HasTaken new_digest params key q c after
