-- The parameter sets that can be dealt.
use Rattle.std.specs.Prelude.{◌≡◌, ℕ, ◌<◌, ◌≤◌, Bool, Some, None, ◌==◌, ◌&&◌, ◌||◌, nat_lt, nat_le, is_none}
use Rattle.std.specs.Prelude.{if◌then◌else◌}
use Rattle.lms_bytes.specs.ParameterSets.{lms_row, lmots_row}
use Rattle.lms_bytes.specs.Params.{codes_fault}
use Rattle.lms_bytes.specs.declared.params.Params.{Params}

-- the height and the node length of an LMS typecode
abbrev pub height_of : ℕ → ℕ
height_of lms = elim (lms_row lms) [ None ↦ 0 | Some tree ↦ tree.h ]

abbrev pub node_length : ℕ → ℕ
node_length lms = elim (lms_row lms) [ None ↦ 0 | Some tree ↦ tree.m ]

-- the width and the number of chains of an LM-OTS typecode
abbrev pub width_of : ℕ → ℕ
width_of ots = elim (lmots_row ots) [ None ↦ 0 | Some chains ↦ chains.w ]

abbrev pub chain_count : ℕ → ℕ
chain_count ots = elim (lmots_row ots) [ None ↦ 0 | Some chains ↦ chains.p ]

-- this project's profile: keys with trees up to height 20 can be dealt, with digits of any width
pub record CanBeDealt (params : Params) : Type 0 where
  pub height : params.h ≤ 20

-- the typecodes are an accepted pair, of a set that can be dealt
unfoldable pub can_be_dealt : ℕ → ℕ → Bool
can_be_dealt lms ots = is_none (codes_fault lms ots) && nat_le (height_of lms) 20

-- this project's profile: small are trees up to height 10, but not those of height 10 with digits of 8 bits
pub record IsSmall (params : Params) : Type 0 where
  pub height : params.h ≤ 10
  pub width : params.h ≡ 10 → params.w < 8

-- the typecodes are of a small set
unfoldable pub is_small : ℕ → ℕ → Bool
is_small lms ots = nat_lt (height_of lms) 10 || (height_of lms == 10 && nat_lt (width_of ots) 8)

-- the version of the files of a set: 1 if it is small, and 2 if not
unfoldable pub version_of : ℕ → ℕ → ℕ
version_of lms ots = if is_small lms ots then 1 else 2
