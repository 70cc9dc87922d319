-- A tree file passes the tests of its reader.
use Rattle.std.proofs.Common.{◌≡◌, ℕ, ◌+◌, ◌-◌, ◌*◌, ◌^◌, List, length, None, refl, sym, ap, ◌∙◌, arith}
use Rattle.std.specs.Prelude.{codes, slice_index}
use Rattle.std.proofs.lemmas.Bool.{eq-eqb}
use Rattle.std.proofs.lemmas.List.{take_all}
use Rattle.lms_bytes.specs.Bytes.{bytes_at}
use Rattle.lms_bytes.specs.declared.params.Params.{Params}
use Rattle.share_files.specs.Head.{lms_at, length_fault, zero_fault}
use Rattle.share_files.specs.TreeFile.{HasTreeLayout, tree_length}
use Rattle.share_files.proofs.Dealt.{height_of-lms, node_length-lms}
use Rattle.share_files.proofs.HeadParts.{HeadLies, head_lies}

pub tree_lies : (params : Params) (bytes id nodes : List ℕ) → HasTreeLayout params bytes id nodes
    → HeadLies (codes "TLTR") 0 0 0 params id nodes bytes
tree_lies params bytes id nodes l = head_lies _ _ _ _ 0 0 0 params id nodes bytes l.id_length l.parts

pub tree_length-lms : (params : Params) → tree_length params.lms ≡ 32 + params.n * (2 ^ (params.h + 1) - 1)
tree_length-lms params = rw (node_length-lms params, height_of-lms params) refl

pub zero_passes : (place : ℕ) (bytes : List ℕ) → slice_index bytes place ≡ 0 → zero_fault place bytes ≡ None
zero_passes place bytes e = rw (eq-eqb (slice_index bytes place) 0 e) refl

pub length_passes : (got want : ℕ) → got ≡ want → length_fault got want ≡ None
length_passes got want e = rw (eq-eqb got want e) refl

pub tree_length_passes : (params : Params) (bytes id nodes : List ℕ) → HasTreeLayout params bytes id nodes
    → length_fault (length bytes) (tree_length params.lms) ≡ None
tree_length_passes params bytes id nodes l =
    length_passes (length bytes) (tree_length params.lms) ((tree_lies params bytes id nodes l).size ∙ (ap (λ k. 32 + k) l.nodes_length ∙ sym (tree_length-lms params)))

-- the length that the reader requires
pub want_is : (params : Params) (bytes : List ℕ) (want : ℕ) → params.lms ≡ lms_at bytes → want ≡ 32 + params.n * (2 ^ (params.h + 1) - 1)
    → want ≡ tree_length (lms_at bytes)
want_is params bytes want lms size = size ∙ (sym (tree_length-lms params) ∙ ap tree_length lms)

-- what follows a head of this length
pub rest_length : (got want more : ℕ) → got ≡ want → want ≡ 32 + more → got - 32 ≡ more
rest_length got want more e w = omega arith

pub rest_at : (params : Params) (bytes id nodes : List ℕ) → HasTreeLayout params bytes id nodes → bytes_at bytes 32 (length bytes - 32) ≡ nodes
rest_at params bytes id nodes l =
    let lies = tree_lies params bytes id nodes l in
    rw lies.rest_at (take_all (length bytes - 32) nodes (omega (arith, lies.size)))
