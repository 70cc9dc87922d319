-- The masks that a grant gives.
use Rattle.std.specs.Prelude.{ℕ, List, Option, None, Some}
use Rattle.lms_bytes.specs.Digits.{digit_of}
use Rattle.lms_bytes.specs.declared.ask.Ask.{Ask}
use Rattle.lms_bytes.specs.declared.ask.Second.{Second}
use Rattle.lms_bytes.specs.declared.params.Params.{Params}
use Rattle.mask_prf.specs.Masks.{chain_mask_of, random_mask_of}
use Rattle.share_files.specs.declared.share.Share.{Share}
use Rattle.trustee_core.specs.declared.grant.Grant.{Grant}
use Rattle.trustee_core.specs.declared.masks.GrantMasks.{GrantMasks}

abbrev pub ask_of : Grant → Ask
ask_of grant = grant.ask

-- how many: the one for the randomizer, or one for each chain
abbrev pub masks_of : Params → Ask → ℕ
masks_of params ask = elim ask.second [ None ↦ 1 | Some second ↦ params.p ]

-- this project's profile: the randomizer's mask in round one, and in round two that of chain i at the digest's digit
abbrev pub mask_at : Share → ℕ → Option Second → ℕ → List ℕ
mask_at share leaf None i = random_mask_of share.params share.key share.id leaf
mask_at share leaf (Some second) i =
    chain_mask_of share.params share.key share.id leaf i (digit_of share.params second.digest i)

abbrev pub mask_of : Share → Ask → ℕ → List ℕ
mask_of share ask i = mask_at share ask.leaf ask.second i

-- the share of the trustee that granted
abbrev pub granted_by : GrantMasks → Share
granted_by masks = masks.share

-- the ask that it granted
abbrev pub ask_in : GrantMasks → Ask
ask_in masks = masks.ask
