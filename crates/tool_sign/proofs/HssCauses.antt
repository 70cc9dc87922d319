-- Which count rose, by the end of the command.
use Rattle.std.proofs.Common.{◌⊎◌, ◌≤◌, inl, inr, ℕ, IsTrue, refl}
use Rattle.disk_trait.specs.Faults.{Rose}
use Rattle.tool_base.specs.Ending as ending
use Rattle.tool_base.specs.Ending.{Ending}
use Rattle.tool_base.specs.Touched.{DeviceRose}
use Rattle.tool_base.specs.World.{StoreRun}
use Rattle.tool_sign.specs.HssSign.{HssSigningRun, session_words}
use Rattle.tool_sign.specs.Lower.{IsReady, Lower}
use Rattle.tool_sign.proofs.Causes.{counted, signs-counted, task-counted}
use Rattle.tool_sign.proofs.Losses.{ByWhy, by-why, heard, missing, peer-why, signs-heard, task-heard}
use Rattle.tool_sign.proofs.Origins.{Comes, levels-comes, of_lower}
use Rattle.tool_sign.specs.LostLower.{LosesForLower, LosesLowerPeer}
use Rattle.tool_sign.specs.Lost.{longest_asks}
use Rattle.tool_sign.specs.Ports.{NetRun}
use Rattle.tool_words.specs.Words.{HssSignWords}

module _ (words : HssSignWords) (store : StoreRun) (net : NetRun) where
  ends-counted : (end : Ending) → HssSigningRun words store net end → Comes (counted store net) end
  ends-counted end run =
      levels-comes (counted store net) words store net (λ failed. failed.rose) (record { key = λ read. read.0; signature = λ read. read.0; message = λ read. read.0 })
      (λ lower ready. task-counted store net (session_words words) (of_lower lower) (λ one never. absurd never))
      (λ lower ready. signs-counted store net (session_words words) (of_lower lower)) end run.touched run.ends

  pub store-rose : HssSigningRun words store net ending.StoreFailed → Rose store.before.count store.after.count
  store-rose run = ends-counted ending.StoreFailed run

  pub device-rose : HssSigningRun words store net ending.DeviceFailed → DeviceRose store
  device-rose run = ends-counted ending.DeviceFailed run

  pub net-rose : HssSigningRun words store net ending.NetFailed → Rose net.before.port_count net.after.port_count
  net-rose run = ends-counted ending.NetFailed run

module _ (words : HssSignWords) (store : StoreRun) (net : NetRun) (member round : ℕ) where
  -- what follows from the session for this lower key that lost the member
  abbrev ByLower : Lower → Type 0 → Type 0
  ByLower lower X = ByWhy member round (session_words words) store (of_lower lower) net X

  ends-lost : (X : Type 0) → ((lower : Lower) → IsReady words store lower → ByLower lower X) → HssSigningRun words store net (missing member round) → X
  ends-lost X by run =
      levels-comes (heard member round X) words store net (λ failed. tt) (record { key = λ read. tt; signature = λ read. tt; message = λ read. tt })
      (λ lower ready. task-heard member round (session_words words) store (of_lower lower) net X (λ one never. absurd never))
      (λ lower ready. signs-heard member round (session_words words) store (of_lower lower) net X (by lower ready)) (missing member round) run.touched run.ends refl

  abbrev pub LosesIt : Type 0
  LosesIt = Rose net.before.count net.after.count ⊎ LosesForLower words store net member round

  by-call : (lower : Lower) → IsReady words store lower → ByLower lower LosesIt
  by-call lower ready s old new why task over =
      elim (by-why member round (session_words words) store (of_lower lower) net s old new why task over) [
        | inl rose ↦ inl rose
        | inr loses ↦ inr (record { lower = lower; ready = ready; loses = loses })
      ]

  pub loses-member : HssSigningRun words store net (missing member round) → LosesIt
  loses-member run = ends-lost LosesIt by-call run

  module _ (steady : IsTrue net.before.steady) (room : longest_asks ≤ net.before.room) where
    by-peer : (lower : Lower) → IsReady words store lower → ByLower lower (LosesLowerPeer words store net member round)
    by-peer lower ready s old new why task over = record {
      lower = lower;
      ready = ready;
      loses = peer-why member round (session_words words) store (of_lower lower) net steady room s old new why task over;
    }

    -- over a steady net whose links have room for the asks
    pub loses-peer : HssSigningRun words store net (missing member round) → LosesLowerPeer words store net member round
    loses-peer run = ends-lost (LosesLowerPeer words store net member round) by-peer run
