-- Links that are put after others.
use Rattle.std.proofs.Common.{◌≡◌, ◌≤◌, ◌+◌, ◌++◌, [], ◌∷◌, ℕ, Bool, List, IsTrue, All, sym, subst, ◌∙◌, arith}
use Rattle.std.proofs.lemmas.List.{append-nil}
use Rattle.std.proofs.lemmas.List.Elements.{All-append, All-cons, All-nil}
use Rattle.aggregator_session.specs.Tasks.{AddsAsked, AreAsked}
use Rattle.stream_io.specs.Net.{PortOnward, PortState}

module _ {L : Type 0} (is_steady : L → Bool) (room_of : L → ℕ) where
  abbrev is_as : L → Type 0
  is_as link = IsTrue (is_steady link)

  abbrev is_wide : ℕ → L → Type 0
  is_wide room link = room ≤ room_of link + 64

  pub asked-none : (port : PortState) → AreAsked is_steady room_of port []
  asked-none port = record { steady = λ _. All-nil is_as; rooms = All-nil (is_wide port.room) }

  pub adds-none : (port : PortState) (links : List L) → AddsAsked is_steady room_of port links links
  adds-none port links = record { added = []; are = asked-none port; news_are = sym (append-nil links) }

  pub adds-one : (port : PortState) (olds news : List L) (link : L) → news ≡ olds ++ link ∷ [] → (IsTrue port.steady → IsTrue (is_steady link)) → port.room ≤ room_of link + 64
      → AddsAsked is_steady room_of port olds news
  adds-one port olds news link is steady room = record {
    added = link ∷ [];
    are = record {
      steady = λ s. All-cons is_as link [] (steady s) (All-nil is_as);
      rooms = All-cons (is_wide port.room) link [] room (All-nil (is_wide port.room));
    };
    news_are = is;
  }

  -- links of a port, and after them those of the port at a later time
  pub asked-more : (first port : PortState) (olds news : List L) → PortOnward first port → AreAsked is_steady room_of first olds → AddsAsked is_steady room_of port olds news
      → AreAsked is_steady room_of first news
  asked-more first port olds news onward are adds = record {
    steady = λ s. subst (All is_as) (sym adds.news_are) (All-append is_as olds adds.added (are.steady s) (adds.are.steady (onward.steady ∙ s)));
    rooms = subst (All (is_wide first.room)) (sym adds.news_are)
        (All-append (is_wide first.room) olds adds.added are.rooms (λ k d lt. let wide = adds.are.rooms k d lt in let later = onward.room in omega (arith, wide, later)));
  }
