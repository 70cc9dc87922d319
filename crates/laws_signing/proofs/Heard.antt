-- Links that gave just the replies of their peers, one after the other.
use Rattle.std.proofs.Common.{◌≡◌, ◌<◌, ◌≤◌, ℕ, List, length, map, get_or, Some, option_map, ap, subst, ◌∙◌, slice_get, arith}
use Rattle.std.proofs.lemmas.List.{length-map}
use Rattle.std.proofs.lemmas.Option.{slice_get-get_or, slice_get-map, slice_get_within}
use Rattle.stream_io.specs.Talk.{Talk}
use Rattle.laws_signing.specs.Witness.{AllGaveJust, GaveJust}
use Rattle.laws_signing.specs.declared.witness.links.Peer.{Peer}

-- the link of this number gave just its reply, if there are both
abbrev pub GaveAt : List Talk → List (List ℕ) → ℕ → Type 0
GaveAt talks replies k = (talk : Talk) (bytes : List ℕ) → slice_get talks k ≡ Some talk → slice_get replies k ≡ Some bytes → GaveJust bytes talk

abbrev pub GaveBelow : ℕ → List Talk → List (List ℕ) → Type 0
GaveBelow index talks replies = (k : ℕ) → k < index → GaveAt talks replies k

-- what each peer sends
abbrev pub sent : Peer → List ℕ
sent peer = peer.bytes.now

pub gave-one : (index : ℕ) (talks : List Talk) (peers : List Peer) (d : Peer) → index < length peers
    → ((talk : Talk) → slice_get talks index ≡ Some talk → GaveJust (sent (get_or peers index d)) talk) → GaveAt talks (map sent peers) index
gave-one index talks peers d within gives talk bytes at has =
    let is : slice_get (map sent peers) index ≡ Some (sent (get_or peers index d)) = slice_get-map sent peers index ∙ ap (option_map sent) (slice_get-get_or peers index d within) in
    let same : sent (get_or peers index d) ≡ bytes = cc in
    subst (λ (b : List ℕ). GaveJust b talk) same (gives talk at)

pub gave-all : (index : ℕ) (talks : List Talk) (peers : List Peer) → length peers ≤ index → GaveBelow index talks (map sent peers) → AllGaveJust talks (map sent peers)
gave-all index talks peers end before k talk bytes at has =
    let within = slice_get_within (map sent peers) k bytes has in
    let size : length (map sent peers) ≡ length peers = length-map peers sent in
    before k (omega (arith, within, size, end)) talk bytes at has
