-- A worker, connection by connection.
use Rattle.aggregator_session.specs.Desks.{DeskState}
use Rattle.std.proofs.Common.{◌≡◌, ◌+◌, ◌*◌, ◌-◌, ◌^◌, ◌≤◌, ◌<◌, ℕ, Bool, true, false, true≢false, min, List, [], ◌∷◌, ◌++◌, length, refl, sym, ap, ◌∙◌, subst, arith, append-nil, length-append}
use Rattle.std.proofs.lemmas.Grind.{flat_map-append}
use Rattle.std.proofs.lemmas.List.Sums.{sum_by-append}
use Rattle.aggregator_node.specs.Clients.{ReferenceState, Request, SameReference}
use Rattle.aggregator_node.specs.Connections.{Connection, Leaves, WorkerParts, ServesLink, Works, left, next, requests_of}
use Rattle.aggregator_node.specs.Connections.{frames_of}
use Rattle.aggregator_node.specs.Workers.{HasServedLink, WorkEnds, Worked, WorkerState, accept_failed, no_further, served_all}
use Rattle.aggregator_node.proofs.Serving.{serves-few, serves-port, serves-told, serves-worn}
use Rattle.node_workers.proofs.Onward.{onward-same, onward-then}
use Rattle.stream_io.specs.Net.{Accepts, PortOnward, PortState, SameLinks}
use Rattle.stream_io.specs.Store.{RisesWhere}
use Rattle.stream_io.specs.Talk.{Talk}
use Rattle.node_workers.specs.Workers.{NoLink}
use Rattle.node_workers.specs.declared.served.Served.{Served}
use Rattle.node_workers.specs.declared.served.ServedEnd.TheVariants.{Worn}

-- a link was accepted with the room that its talk tells
pub accepted-as : (old new : PortState) (link : Talk) (steady : Bool) (room wide : ℕ) → wide ≡ room → Accepts old link steady room new → Accepts old link steady wide new
accepted-as old new link steady room wide is accepts = subst (λ (n : ℕ). Accepts old link steady n new) (sym is) accepts

-- a worker's connections so far
pub data Links (desk : DeskState) (reference : ReferenceState) : WorkerParts → List Connection → WorkerParts → Type 0 where
  no_link : (parts : WorkerParts) → Links desk reference parts [] parts
  link_more : (old mid new : WorkerParts) (one : Connection) (others : List Connection) → ServesLink desk reference old mid one → Links desk reference mid others new
      → Links desk reference old (one ∷ others) new

links-more : (desk : DeskState) (reference : ReferenceState) (old mid new : WorkerParts) (one : Connection) (served : List Connection) → Links desk reference old served mid
    → ServesLink desk reference mid new one → Links desk reference old (served ++ one ∷ []) new
links-more desk reference old mid new one served (no_link parts) serves = link_more old new new one [] serves (no_link new)
links-more desk reference old mid new one served (link_more at after last first others serves rest) more =
    link_more old after new first (others ++ one ∷ []) serves (links-more desk reference after mid new one others rest more)

links-leave : (desk : DeskState) (reference : ReferenceState) (old new : WorkerParts) (served : List Connection) (port : PortState) → Links desk reference old served new → Leaves new.port port
    → Works desk reference old served (record new { port = port })
links-leave desk reference old new served port (no_link parts) leaves = left old port leaves
links-leave desk reference old new served port (link_more at after last first others serves rest) leaves =
    next old after (record new { port = port }) first others serves (links-leave desk reference after new others port rest leaves)

-- the same reference at a still later time
same-then : (old mid new : ReferenceState) → SameReference old mid → SameReference mid new → SameReference old new
same-then old mid new a b = record { told = b.told ∙ a.told; steady = b.steady ∙ a.steady; leaves = λ is. b.leaves (a.told ∙ is) ∙ a.leaves is }

requests-more : (served : List Connection) (one : Connection) → requests_of (served ++ one ∷ []) ≡ requests_of served ++ one.requests
requests-more served one =
    flat_map-append (λ (c : Connection). c.requests) served (one ∷ []) ∙ ap (λ (l : List Request). requests_of served ++ l) (append-nil one.requests)

-- the numbers of one more connection
few-more : (served : List Connection) (one : Connection) → length (requests_of served) ≤ 65537 * length served → one.served.frames ≤ 65536 → length one.requests ≤ one.served.frames + 1
    → length (requests_of (served ++ one ∷ [])) ≤ 65537 * length (served ++ one ∷ [])
few-more served one before most here =
    let all = ap length (requests-more served one) in
    omega (arith, before, most, here, all, length-append (requests_of served) one.requests, length-append served (one ∷ []))

connections-more : (served : List Connection) (one : Connection) (connections : ℕ) → connections ≡ length served → connections + 1 ≡ length (served ++ one ∷ [])
connections-more served one connections is = omega (arith, is, length-append served (one ∷ []))

frames-more : (served : List Connection) (one : Connection) (had frames : ℕ) → had ≡ min (frames_of served) (2 ^ 32 - 1) → frames ≡ min (had + one.served.frames) (2 ^ 32 - 1)
    → frames ≡ min (frames_of (served ++ one ∷ [])) (2 ^ 32 - 1)
frames-more served one had frames before sum = omega (arith, before, sum, sum_by-append (λ (c : Connection). c.served.frames) served (one ∷ []))

-- a count that stays
pub rises-nowhere : (failed : Bool) (before now : ℕ) → failed ≡ false → now ≡ before → RisesWhere (failed ≡ true) before now
rises-nowhere failed before now never same =
    record { later = omega (arith, same); rose = λ is. absurd (true≢false (sym is ∙ never)); same = λ _. same }

-- a worker that has served these connections, and serves on
pub record Working (desk : DeskState) (old new : WorkerState) : Type 0 where
  pub served : List Connection
  pub links : Links desk old.reference old.parts served new.parts
  pub few : length (requests_of served) ≤ 65537 * length served
  pub same : SameReference old.reference new.reference
  pub onward : PortOnward old.parts.port new.parts.port
  pub accepting : new.parts.port.accept_count ≡ old.parts.port.accept_count
  pub connections : new.connections ≡ length served
  pub frames : new.frames ≡ min (frames_of served) (2 ^ 32 - 1)

-- a worker ends if its port gave no link
pub ends-none : (asked : ℕ) (new : WorkerState) (old : PortState) (failed : Bool) → new.failed ≡ failed → NoLink old new.parts.port failed → WorkEnds asked new
ends-none asked new old true is none = accept_failed is (none.unsteady refl)
ends-none asked new old false is none = no_further (none.none_waits refl) is

-- a worker ends once it has served as many as it was to
as-many : (connections counter asked : ℕ) → connections ≡ counter → counter ≤ asked → asked ≤ counter → connections ≡ asked
as-many connections counter asked is most least = omega arith

pub ends-all : (asked counter : ℕ) (new : WorkerState) → new.connections ≡ counter → counter ≤ asked → asked ≤ counter → new.failed ≡ false → WorkEnds asked new
ends-all asked counter new is most least sound = served_all (as-many new.connections counter asked is most least) sound

pub one-below : (connections counter asked : ℕ) → connections ≡ counter → counter < asked → connections + 1 ≤ asked
one-below connections counter asked is below = omega arith

-- a worker that has done nothing yet
abbrev pub begun : WorkerState → WorkerState
begun old = record { parts = old.parts; reference = old.reference; connections = 0; frames = 0; worn = false; failed = false }

module _ (desk : DeskState) where
  pub working-none : (old : WorkerState) → Working desk old (begun old)
  working-none old = record {
    served = [];
    links = no_link old.parts;
    few = omega arith;
    same = record { told = refl; steady = refl; leaves = λ _. refl };
    onward = onward-same old.parts.port;
    accepting = refl;
    connections = refl;
    frames = omega arith;
  }

  -- a link was accepted and served
  pub working-more : (old mid : WorkerState) (port : PortState) (parts : WorkerParts) (reference : ReferenceState) (link : Talk) (steady : Bool) (served : Served) (frames : ℕ) (worn failed : Bool)
      → Working desk old mid → Accepts mid.parts.port link steady link.room port → PortOnward mid.parts.port port → port.accept_count ≡ mid.parts.port.accept_count
      → HasServedLink desk mid.reference (record { pass = mid.parts.pass; port = port; faults = mid.parts.faults }) parts link steady served → SameReference mid.reference reference
      → frames ≡ min (mid.frames + served.frames) (2 ^ 32 - 1)
      → Working desk old (record { parts = parts; reference = reference; connections = mid.connections + 1; frames = frames; worn = worn; failed = failed })
  working-more old mid port parts reference link steady served frames worn failed a accepts onward quiet b same sum =
      let one : Connection = record { link = link; talk = b.talk; last = b.hung_up.last; requests = b.requests; served = served } in
      let dialled = serves-port desk mid.reference _ _ _ _ _ b.serves in
      let serves : ServesLink desk old.reference mid.parts parts one = record {
        steady = steady;
        begun = port;
        done = b.done;
        accepted = accepts;
        serves = serves-told desk old.reference mid.reference _ _ _ _ _ a.same b.serves;
        ends = b.ends;
        ended = b.hung_up.ended;
        kept = b.hung_up.kept;
        onward = onward-then mid.parts.port port parts.port onward (onward-then port b.done parts.port dialled.onward b.onward);
      } in
      record {
        served = a.served ++ one ∷ [];
        links = links-more desk old.reference old.parts mid.parts parts one a.served a.links serves;
        few = few-more a.served one a.few b.ends.most (serves-few desk mid.reference _ _ _ _ _ b.serves);
        same = same-then old.reference mid.reference reference a.same same;
        onward = onward-then old.parts.port mid.parts.port parts.port a.onward serves.onward;
        accepting = b.hung_up.kept.accept_count ∙ dialled.accepting ∙ quiet ∙ a.accepting;
        connections = connections-more a.served one mid.connections a.connections;
        frames = frames-more a.served one mid.frames frames a.frames sum;
      }

  -- a link that ended because of a worn pass
  pub link-worn : (reference : ReferenceState) (old new : WorkerParts) (link : Talk) (steady : Bool) (served : Served) → HasServedLink desk reference old new link steady served → served.ended ≡ Worn
      → 2 ^ 62 ≤ new.pass.greatest
  link-worn reference old new link steady served b is = serves-worn desk reference _ _ _ _ _ b.serves is

  -- no further link was accepted
  pub worked-refused : (old mid : WorkerState) (port : PortState) (failed : Bool) → Working desk old mid → SameLinks mid.parts.port port → PortOnward mid.parts.port port
      → RisesWhere (failed ≡ true) mid.parts.port.accept_count port.accept_count → mid.worn ≡ false
      → Worked desk old (record {
        parts = record { pass = mid.parts.pass; port = port; faults = mid.parts.faults };
        reference = mid.reference;
        connections = mid.connections;
        frames = mid.frames;
        worn = mid.worn;
        failed = failed;
      })
  worked-refused old mid port failed a links onward rises fresh = record {
    served = a.served;
    works = links-leave desk old.reference old.parts mid.parts a.served port a.links (record { links = links; onward = onward });
    few = a.few;
    same = a.same;
    onward = onward-then old.parts.port mid.parts.port port a.onward onward;
    accepts = subst (λ (n : ℕ). RisesWhere (failed ≡ true) n port.accept_count) a.accepting rises;
    connections = a.connections;
    frames = a.frames;
    worn = λ is. absurd (true≢false (sym is ∙ fresh));
  }

  -- no further link was asked for
  pub worked-all : (old new : WorkerState) → Working desk old new → new.failed ≡ false → (new.worn ≡ true → 2 ^ 62 ≤ new.parts.pass.greatest) → Worked desk old new
  worked-all old new a sound worn = record {
    served = a.served;
    works = links-leave desk old.reference old.parts new.parts a.served new.parts.port a.links
        (record { links = record { waiting = refl; reaches = refl; talks = refl }; onward = onward-same new.parts.port });
    few = a.few;
    same = a.same;
    onward = a.onward;
    accepts = rises-nowhere new.failed old.parts.port.accept_count new.parts.port.accept_count sound a.accepting;
    connections = a.connections;
    frames = a.frames;
    worn = worn;
  }
