-- The lines that say what files hold.
use Rattle.std.specs.Prelude.{ℕ, List, ◌++◌, take, codes}
use Rattle.std.specs.Fmt.{decimal}
use Rattle.coalition_map.specs.Coalitions.{PlanNumbers}
use Rattle.hex.specs.Hex.{encode_lower}
use Rattle.hss_levels.specs.declared.hss_key.HssKey.{HssKey}
use Rattle.lms_bytes.specs.declared.params.Params.{Params}
use Rattle.lms_bytes.specs.declared.public_key.PublicKey.{PublicKey}
use Rattle.share_files.specs.declared.reference.RefHeader.{RefHeader}
use Rattle.share_files.specs.declared.share.Share.{Share}
use Rattle.tool_base.specs.Ending.{end_of_line}

-- `of N threshold K`
abbrev pub plan_words : PlanNumbers → List ℕ
plan_words plan = codes " of " ++ (decimal plan.n ++ (codes " threshold " ++ decimal plan.k))

-- `codes LMS OTS key KEY`
abbrev pub key_words : (lms ots : ℕ) → List ℕ → List ℕ
key_words lms ots id =
    codes " codes " ++ (decimal lms ++ (codes " " ++ (decimal ots ++ (codes " key " ++ encode_lower id))))

-- `codes LMS OTS key KEY root HEX`
abbrev pub root_words : Params → (id root : List ℕ) → List ℕ
root_words params id root = key_words params.lms params.ots id ++ (codes " root " ++ encode_lower root)

-- `share member T of N threshold K codes LMS OTS key KEY`
abbrev pub share_line : Share → List ℕ
share_line share =
    codes "share member " ++ (decimal share.member
    ++ (plan_words share.plan ++ (key_words share.params.lms share.params.ots share.id ++ end_of_line)))

-- `tree codes LMS OTS key KEY root HEX`: the root T[1] is the first node
abbrev pub tree_line : Params → (id nodes : List ℕ) → List ℕ
tree_line params id nodes = codes "tree" ++ (root_words params id (take params.n nodes) ++ end_of_line)

-- `of N threshold K codes LMS OTS key KEY bytes B`, after the name of a file
abbrev pub header_line : List ℕ → RefHeader → ℕ → List ℕ
header_line name header size =
    name ++ (plan_words header.plan
    ++ (key_words header.params.lms header.params.ots header.id ++ (codes " bytes " ++ (decimal size ++ end_of_line))))

-- `key codes LMS OTS key KEY root HEX`
abbrev pub key_line : PublicKey → List ℕ
key_line key = codes "key" ++ (root_words key.params key.id key.root ++ end_of_line)

-- `hss key levels L codes LMS OTS key KEY root HEX`, with the key of the top level
abbrev pub hss_key_line : HssKey → List ℕ
hss_key_line key =
    codes "hss key levels " ++ (decimal key.levels
    ++ (root_words key.top.params key.top.id key.top.root ++ end_of_line))
