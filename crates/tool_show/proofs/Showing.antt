-- What the readers' answers say about the text and the faults.
use Rattle.std.proofs.Common.{◌≡◌, ◌∙◌, ◌≤◌, ◌+◌, ◌-◌, ◌*◌, ◌^◌, ℕ, Bool, List, length, Option, Some, None, refl, ap, arith}
use Rattle.std.proofs.lemmas.Nat.{pow_below}
use Rattle.std.proofs.Math.Nat.{mul-le-mul_left}
use Rattle.lms_bytes.specs.declared.params.Params.{Params}
use Rattle.share_files.specs.TreeFile.{HasTreeLayout}
use Rattle.tool_show.specs.Keys.{IsFaultOf, any_key_bytes, any_key_line, kind_of_key}
use Rattle.tool_show.specs.Kinds.{Kind, fault_as, kind_of, show_fault}
use Rattle.tool_show.specs.Shown as shown
use Rattle.tool_show.specs.Shown.{IsShown}
use Rattle.tool_show.specs.declared.any_key.AnyKey.{AnyKey}
use Rattle.tool_show.specs.declared.any_key.AnyKey.TheVariants.{Lms, Hss}
use Rattle.tool_show.specs.declared.bytes_shown.ShowFault.{ShowFault}
use Rattle.tool_show.specs.declared.bytes_shown.ShowFault.TheVariants.{Unreadable}

-- a tree has a node
pub has_root : (params : Params) (bytes id nodes : List ℕ) → HasTreeLayout params bytes id nodes → params.n ≤ length nodes
has_root params bytes id nodes layout =
    let some : 1 ≤ 2 ^ (params.h + 1) - 1 = let more = pow_below 0 (params.h + 1) (omega arith) in omega arith in
    let most : params.n * 1 ≤ params.n * (2 ^ (params.h + 1) - 1) = mul-le-mul_left params.n some in
    omega (arith, layout.nodes_length)

-- what is said about a kind, or about none
abbrev fault_of : List ℕ → Option Kind → Option ℕ
fault_of bytes kind = elim kind [ None ↦ Some 1 | Some kind ↦ fault_as kind bytes ]

-- the fault of a file of this kind
pub of_kind : (bytes : List ℕ) (kind : Option Kind) (fault : ℕ) → kind_of bytes ≡ kind → fault_of bytes kind ≡ Some fault → show_fault bytes ≡ Some fault
unfolding show_fault
of_kind bytes kind fault is fails = ap (fault_of bytes) is ∙ fails

-- a file of a kind is refused by the first test of this kind that it fails
pub faulty : (bytes : List ℕ) (kind : Kind) (fault : ℕ) (answer : ShowFault) → kind_of bytes ≡ Some kind → fault_as kind bytes ≡ Some fault
    → answer ≡ Unreadable fault → IsFaultOf bytes answer
faulty bytes kind fault answer is fails says = rw says (of_kind bytes (Some kind) fault is fails)

-- a file of no kind is refused
pub kindless : (bytes : List ℕ) → kind_of bytes ≡ None → show_fault bytes ≡ Some 1
kindless bytes is = of_kind bytes None 1 is refl

-- a key is shown
pub key_shown : (bytes : List ℕ) (leaves : Bool) (key : AnyKey) → kind_of bytes ≡ Some (kind_of_key key) → bytes ≡ any_key_bytes key
    → IsShown bytes leaves (any_key_line key)
key_shown bytes leaves (Lms key) is bytes_are = shown.key key is bytes_are
key_shown bytes leaves (Hss key) is bytes_are = shown.hss_key key is bytes_are
