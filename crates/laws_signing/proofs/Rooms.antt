-- Scripts of ports whose links are steady and have room, with one more link.
use Rattle.std.proofs.Common.{◌≡◌, ◌≤◌, ◌^◌, ◌-◌, ◌&&◌, min, ℕ, Bool, true, false, List, [], ◌∷◌, ◌++◌, IsTrue, refl, sym, subst, arith}
use Rattle.std.specs.List.{list_all}
use Rattle.std.specs.declared.alloc.Global.{Global}
use Rattle.std.specs.declared.string.String.{String}
use Rattle.stream_memory.specs.Calls.{is_empty}
use Rattle.stream_memory.specs.Ports.{is_steady_entry, is_steady_waiting, least, room_of_entry, room_of_waiting}
use Rattle.stream_memory.specs.declared.mem_link.MemLink.{MemLink}
use Rattle.stream_memory.specs.declared.port_script.PortScript.{PortScript}
use Rattle.laws_signing.specs.Witness.{IsRoomyScript}

first-true : (a b : Bool) → (a && b) ≡ true → a ≡ true
first-true true b both = refl
first-true false b both = both

last-true : (a b : Bool) → (a && b) ≡ true → b ≡ true
last-true true b both = both
last-true false b both = let no : false ≡ true = both in cc

both-true : (a b : Bool) → a ≡ true → b ≡ true → (a && b) ≡ true
both-true true b one other = other
both-true false b one other = one

-- if the least room is enough, that of one more link is enough with it
least-more : {L : Type 0} (room : L → ℕ) (enough : ℕ) (xs : List L) (x : L) → enough ≤ least room xs → enough ≤ room x → enough ≤ least room (xs ++ x ∷ [])
least-more room enough [] x all one =
    let most : enough ≤ 2 ^ 64 - 1 = all in
    let goal : enough ≤ min (room x) (2 ^ 64 - 1) = omega (arith, most, one) in goal
least-more room enough (y ∷ xs) x all one =
    let split : enough ≤ min (room y) (least room xs) = all in
    let rest = least-more room enough xs x (omega (arith, split)) one in
    let goal : enough ≤ min (room y) (least room (xs ++ x ∷ [])) = omega (arith, split, rest) in goal

all-more : {L : Type 0} (is : L → Bool) (xs : List L) (x : L) → list_all is xs ≡ true → is x ≡ true → list_all is (xs ++ x ∷ []) ≡ true
all-more is [] x all one = both-true (is x) true one refl
all-more is (y ∷ xs) x all one =
    both-true (is y) (list_all is (xs ++ x ∷ [])) (first-true (is y) (list_all is xs) all)
    (all-more is xs x (last-true (is y) (list_all is xs) all) one)

module _ (enough : ℕ) (script more : PortScript) (roomy : IsRoomyScript enough script) (failing : more.failing ≡ script.failing) where
  none-fails : is_empty more.failing.items ≡ true
  none-fails =
      subst (λ f. is_empty f.items ≡ true) (sym failing)
      (first-true (is_empty script.failing.items) _ roomy.steady)

  waiting-steady : list_all is_steady_waiting script.waiting.items ≡ true
  waiting-steady =
      first-true (list_all is_steady_waiting script.waiting.items) (list_all is_steady_entry script.dialled.items)
      (last-true (is_empty script.failing.items) _ roomy.steady)

  dialled-steady : list_all is_steady_entry script.dialled.items ≡ true
  dialled-steady =
      last-true (list_all is_steady_waiting script.waiting.items) (list_all is_steady_entry script.dialled.items)
      (last-true (is_empty script.failing.items) _ roomy.steady)

  takes : enough ≤ min (least room_of_waiting script.waiting.items) (least room_of_entry script.dialled.items)
  takes = roomy.takes

  roomy-with : list_all is_steady_waiting more.waiting.items ≡ true → list_all is_steady_entry more.dialled.items ≡ true → enough ≤ least room_of_waiting more.waiting.items
      → enough ≤ least room_of_entry more.dialled.items → IsRoomyScript enough more
  roomy-with waiting dialled one other = record {
    steady = both-true (is_empty more.failing.items) _ none-fails
        (both-true (list_all is_steady_waiting more.waiting.items) (list_all is_steady_entry more.dialled.items) waiting dialled);
    takes = let both : enough ≤ min (least room_of_waiting more.waiting.items) (least room_of_entry more.dialled.items) = omega (arith, one, other) in both;
  }

  pub more-waiting : (link : MemLink) → more.dialled ≡ script.dialled → more.waiting.items ≡ script.waiting.items ++ link ∷ [] → IsTrue (is_steady_waiting link) → enough ≤ room_of_waiting link
      → IsRoomyScript enough more
  more-waiting link same added steady room =
      let split = takes in
      roomy-with
      (subst (λ xs. list_all is_steady_waiting xs ≡ true) (sym added) (all-more is_steady_waiting script.waiting.items link waiting-steady steady))
      (subst (λ v. list_all is_steady_entry v.items ≡ true) (sym same) dialled-steady)
      (subst (λ xs. enough ≤ least room_of_waiting xs) (sym added) (least-more room_of_waiting enough script.waiting.items link (omega (arith, split)) room))
      (subst (λ v. enough ≤ least room_of_entry v.items) (sym same) (omega (arith, split)))

  pub more-dialled : (entry : String Global × MemLink) → more.waiting ≡ script.waiting → more.dialled.items ≡ script.dialled.items ++ entry ∷ [] → IsTrue (is_steady_entry entry)
      → enough ≤ room_of_entry entry → IsRoomyScript enough more
  more-dialled entry same added steady room =
      let split = takes in
      roomy-with
      (subst (λ v. list_all is_steady_waiting v.items ≡ true) (sym same) waiting-steady)
      (subst (λ xs. list_all is_steady_entry xs ≡ true) (sym added) (all-more is_steady_entry script.dialled.items entry dialled-steady steady))
      (subst (λ v. enough ≤ least room_of_waiting v.items) (sym same) (omega (arith, split)))
      (subst (λ xs. enough ≤ least room_of_entry xs) (sym added) (least-more room_of_entry enough script.dialled.items entry (omega (arith, split)) room))
