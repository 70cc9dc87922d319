-- A worker, connection by connection.
use Rattle.std.proofs.Common.{◌≡◌, ◌+◌, ◌-◌, ◌^◌, ◌≤◌, ℕ, Bool, true, false, true≢false, min, List, [], ◌∷◌, ◌++◌, Option, None, length, map, refl, sym, ap, ◌∙◌, subst, arith, append_assoc, append-nil, length-append}
use Rattle.std.proofs.lemmas.List.{map-append}
use Rattle.std.proofs.lemmas.List.Elements.{All-nil, All-push}
use Rattle.std.proofs.lemmas.Grind.{flat_map-append}
use Rattle.std.proofs.lemmas.List.Sums.{sum_by-append}
use Rattle.share_files.specs.declared.share.Share.{Share}
use Rattle.stream_io.specs.Net.{Accepts, IsNewLink, PortOnward, PortState, SameLinks}
use Rattle.stream_io.specs.Store.{RisesWhere}
use Rattle.stream_io.specs.Talk.{Talk}
use Rattle.trustee_core.specs.declared.kept.TrusteeName.{TrusteeName}
use Rattle.trustee_core.specs.declared.note.Note.{Note}
use Rattle.turn_lock.specs.Pass.{Seen}
use Rattle.trustee_node.specs.Connections.{ClockState, EndsBy, HaveMoments, IsDated}
use Rattle.trustee_node.specs.Turns.{Serves, Turn, with_code}
use Rattle.trustee_node.specs.Workers.{Connection, IsConnection, ServesLink, WorkEnds, WorkerState, Worked, accept_failed, no_further, turns_of}
use Rattle.node_workers.specs.Workers.{NoLink}
use Rattle.node_workers.specs.declared.served.Served.{Served}
use Rattle.node_workers.specs.declared.served.ServedEnd.{ServedEnd}
use Rattle.node_workers.specs.declared.served.ServedEnd.TheVariants.{Worn}
use Rattle.trustee_node.proofs.Conversing.{dated-none}
use Rattle.node_workers.proofs.Onward.{onward-same, onward-then}
use Rattle.trustee_node.proofs.Serving.{serves-none, serves-then, with_code-append}

moments-then : (answers : ℕ → ℕ) (from : ℕ) (turns more : List Turn) → HaveMoments answers from turns → HaveMoments answers (from + length turns) more → HaveMoments answers from (turns ++ more)
moments-then answers from [] more a b =
    let at : from + 0 ≡ from = omega arith in
    subst (λ (n : ℕ). HaveMoments answers n more) at b
moments-then answers from (turn ∷ turns) more a b =
    let at : from + length (turn ∷ turns) ≡ (from + 1) + length turns = omega arith in
    (a.0, moments-then answers (from + 1) turns more a.1 (subst (λ (n : ℕ). HaveMoments answers n more) at b))

moments-later : (answers later : ℕ → ℕ) (n from : ℕ) (turns : List Turn) → ((j : ℕ) → later j ≡ answers (j + n)) → HaveMoments later from turns → HaveMoments answers (from + n) turns
moments-later answers later n from [] is have = tt
moments-later answers later n from (turn ∷ turns) is have =
    let at : (from + 1) + n ≡ (from + n) + 1 = omega arith in
    (have.0 ∙ is from, subst (λ (k : ℕ). HaveMoments answers k turns) at (moments-later answers later n (from + 1) turns is have.1))

dated-then : (before mid now : ℕ → ℕ) (turns more : List Turn) → IsDated before mid turns → IsDated mid now more → IsDated before now (turns ++ more)
dated-then before mid now turns more a b = record {
  moments = moments-then before 0 turns more a.moments (moments-later before mid (length turns) 0 more a.later b.moments);
  later = λ j.
      let at : (j + length more) + length turns ≡ j + length (turns ++ more) = omega (arith, length-append turns more) in
      b.later j ∙ a.later (j + length more) ∙ ap before at;
}

turns-more : (served : List Connection) (one : Connection) → turns_of (served ++ one ∷ []) ≡ turns_of served ++ one.turns
turns-more served one = flat_map-append (λ (c : Connection). c.turns) served (one ∷ []) ∙ ap (λ (l : List Turn). turns_of served ++ l) (append-nil one.turns)

-- a count that stays
pub rises-nowhere : (failed : Type 0) (before now : ℕ) → (failed → ⊥) → now ≡ before → RisesWhere failed before now
rises-nowhere failed before now never same = record { later = omega (arith, same); rose = λ is. absurd (never is); same = λ _. same }

-- a worker that has done nothing yet
abbrev pub begun : WorkerState → WorkerState
begun old = record { port = old.port; pass = old.pass; clock = old.clock; connections = 0; frames = 0; worn = false; failed = false }

-- a worker ends when its port gave no link
pub ends-none : (asked : ℕ) (new : WorkerState) (old : PortState) (failed : Bool) → new.failed ≡ failed → NoLink old new.port failed → WorkEnds asked new
ends-none asked new old true is none = accept_failed is (none.unsteady refl)
ends-none asked new old false is none = no_further (none.none_waits refl) is

module _ (share : Share) (ids : Option (List (List ℕ))) where
  pub worked-none : (old : WorkerState) → old.pass.in_turn ≡ false → Worked share ids old (begun old)
  worked-none old idle = record {
    served = [];
    are = All-nil (IsConnection share old.port);
    serves = serves-none share ids old.pass idle;
    dated = λ _. dated-none old.clock.answers;
    talks = λ _. sym (append-nil old.port.talks);
    waiting = λ _. omega arith;
    onward = onward-same old.port;
    accepts = rises-nowhere (false ≡ true) old.port.accept_count old.port.accept_count (λ is. absurd (true≢false (sym is))) refl;
    clock_told = refl;
    connections = refl;
    frames = omega arith;
    worn = λ is. absurd (true≢false (sym is));
  }

  -- no link was accepted
  pub worked-refused : (old mid : WorkerState) (port : PortState) (failed : Bool) → Worked share ids old mid → mid.failed ≡ false → SameLinks mid.port port → PortOnward mid.port port
      → RisesWhere (failed ≡ true) mid.port.accept_count port.accept_count
      → Worked share ids old (record { port = port; pass = mid.pass; clock = mid.clock; connections = mid.connections; frames = mid.frames; worn = mid.worn; failed = failed })
  worked-refused old mid port failed a sound links onward rises =
      let quiet : mid.port.accept_count ≡ old.port.accept_count = a.accepts.same (λ is. absurd (true≢false (sym is ∙ sound))) in
      record {
        served = a.served;
        are = a.are;
        serves = a.serves;
        dated = a.dated;
        talks = λ told. links.talks ∙ a.talks told;
        waiting = λ told. (let w = a.waiting told in let same = links.waiting in omega (arith, w, same));
        onward = onward-then old.port mid.port port a.onward onward;
        accepts = subst (λ (n : ℕ). RisesWhere (failed ≡ true) n port.accept_count) quiet rises;
        clock_told = a.clock_told;
        connections = a.connections;
        frames = a.frames;
        worn = a.worn;
      }

  -- a link was accepted and served
  pub worked-more : (old mid : WorkerState) (port_in port : PortState) (pass : Seen Note TrusteeName) (clock : ClockState) (link : Talk) (steady : Bool) (room : ℕ) (served : Served) (frames : ℕ) (worn failed : Bool)
      → Worked share ids old mid → mid.failed ≡ false
      → link.room ≡ room → Accepts mid.port link steady room port_in → PortOnward mid.port port_in → port_in.accept_count ≡ mid.port.accept_count
      → ServesLink share ids (record { pass = mid.pass; clock = mid.clock }) (record { pass = pass; clock = clock }) (record { steady = steady; talk = link }) port_in port served → PortOnward port_in port → clock.told ≡ mid.clock.told
      → frames ≡ min (mid.frames + served.frames) (2 ^ 32 - 1) → (worn ≡ true → served.ended ≡ Worn) → failed ≡ false
      → Worked share ids old (record { port = port; pass = pass; clock = clock; connections = mid.connections + 1; frames = frames; worn = worn; failed = failed })
  worked-more old mid port_in port pass clock link steady room served frames worn failed a sound takes accepts onward_in quiet b onward told sum ended still =
      let conversation = b.conversation in
      let one : Connection = record { link = link; talk = b.talk; last = b.hung.last; turns = conversation.turns; served = served } in
      let turns = turns-more a.served one in
      let before : mid.port.told ≡ old.port.told = a.onward.told in
      let before_clock : mid.clock.told ≡ old.clock.told = a.clock_told in
      let is : IsConnection share old.port one = record {
        by_then = mid.port;
        since = a.onward;
        steady = steady;
        accepted = subst (IsNewLink mid.port None link steady) (sym takes) accepts.link;
        read = conversation.read;
        written = conversation.written;
        ends = conversation.ends;
        most = conversation.most;
        small = conversation.small;
        cause = conversation.cause;
        fails = conversation.fails;
        told = conversation.told;
        place = conversation.place;
        ended = b.hung.ended;
      } in
      record {
        served = a.served ++ one ∷ [];
        are = All-push (IsConnection share old.port) a.served one a.are is;
        serves = subst (Serves share ids old.pass pass) (sym turns) (serves-then share ids old.pass mid.pass pass (turns_of a.served) conversation.turns a.serves conversation.serves);
        dated = λ is_told.
            subst (IsDated old.clock.answers clock.answers) (sym turns)
            (dated-then old.clock.answers mid.clock.answers clock.answers (turns_of a.served) conversation.turns (a.dated is_told) (conversation.dated (before_clock ∙ is_told)));
        talks = λ is_told.
            b.hung.kept.talks (onward_in.told ∙ before ∙ is_told) ∙ ap (λ (l : List Talk). l ++ b.hung.last ∷ []) (accepts.talks ∙ a.talks is_told)
            ∙ append_assoc old.port.talks (map (λ (c : Connection). c.last) a.served) (b.hung.last ∷ [])
            ∙ ap (λ (l : List Talk). old.port.talks ++ l) (sym (map-append (λ (c : Connection). c.last) a.served (one ∷ [])));
        waiting = λ is_told.
            (let w = a.waiting is_told in let taken = accepts.waiting (before ∙ is_told) in let same = b.hung.kept.waiting in
            omega (arith, w, taken, same, length-append a.served (one ∷ [])));
        onward = onward-then old.port port_in port (onward-then old.port mid.port port_in a.onward onward_in) onward;
        accepts = record {
          later = (let p = a.accepts.later in let q = b.hung.kept.accept_count in omega (arith, quiet));
          rose = λ is. absurd (true≢false (sym is ∙ still));
          same = λ _. b.hung.kept.accept_count ∙ quiet ∙ a.accepts.same (λ is. absurd (true≢false (sym is ∙ sound)));
        };
        clock_told = told ∙ before_clock;
        connections = (let c = a.connections in omega (arith, c, length-append a.served (one ∷ [])));
        frames = (let t = a.frames in omega (arith, t, sum, sum_by-append (λ (c : Connection). c.served.frames) a.served (one ∷ [])));
        worn = λ is_worn.
            let ends = subst (λ (e : ServedEnd). EndsBy e served.frames conversation.turns) (ended is_worn) conversation.ends in
            let one_worn = ends.1 in
            let more = with_code-append 11 (turns_of a.served) conversation.turns in
            subst (λ (t : List Turn). 1 ≤ with_code 11 t) (sym turns) (omega (arith, one_worn, more));
      }
