-- Links that are hung up one after the other.
use Rattle.std.proofs.Common.{◌≡◌, ◌≢◌, ◌<◌, ◌≤◌, ◌++◌, ℕ, List, [], ◌∷◌, drop, length, map, min, slice_index_or, refl, sym, ap, subst, ◌∙◌, arith, append_assoc, append-nil}
use Rattle.std.specs.List.{sum_by}
use Rattle.std.proofs.lemmas.List.Sums.{sum_by-append, sum_by-cons}
use mathlib.Core.Logic.{dite}
use native.Mathlib.Decide.{dec_le}
use Rattle.aggregator_session.specs.Tasks.{AllEnded, HangsUpAll, faulty_links}
use Rattle.stream_io.specs.Net.{HangsUp, PortOnward, PortState}
use Rattle.stream_io.specs.Talk.{Ended, Talk}

-- the counts of faults of links together
abbrev pub counts_of : List Talk → ℕ
counts_of talks = sum_by (λ (talk : Talk). talk.count) talks

ended-more : (gone lasts : List Talk) (talk last : Talk) → AllEnded gone lasts → Ended talk last → AllEnded (gone ++ talk ∷ []) (lasts ++ last ∷ [])
ended-more [] [] talk last all one = (one, tt)
ended-more [] (x ∷ lasts) talk last all one = absurd all
ended-more (t ∷ gone) [] talk last all one = absurd all
ended-more (t ∷ gone) (x ∷ lasts) talk last all one = (all.0, ended-more gone lasts talk last all.1 one)

-- the first of a list that is not empty, and what is after it
pub first-of : {A : Type 0} (items rest : List A) (first : A) → 0 < length items → first ≡ slice_index_or items 0 first → rest ≡ drop 1 items → items ≡ first ∷ rest
first-of [] rest first some value is = absurd (omega (arith, some))
first-of (x ∷ items) rest first some value is = λ i. sym value i ∷ sym is i

pub hung-none : (port : PortState) → HangsUpAll port [] port
hung-none port = record {
  lasts = [];
  ended = tt;
  kept = λ _. sym (append-nil port.talks);
  rises = λ some. absurd (some refl);
  most = omega arith;
  onward = record { told = refl; steady = refl; place = refl; count = omega arith; accept_count = omega arith; room = omega arith };
  accepting = refl;
}

pub hung-more : (old mid new : PortState) (gone : List Talk) (talk : Talk) → HangsUpAll old gone mid → HangsUp mid talk new → PortOnward mid new → HangsUpAll old (gone ++ talk ∷ []) new
hung-more old mid new gone talk all one onward =
    let last = one.last in
    let kept = one.kept in
    let sum = sum_by-append (λ (t : Talk). min t.count 1) all.lasts (last ∷ []) in
    let before = all.onward in
    record {
      lasts = all.lasts ++ last ∷ [];
      ended = ended-more gone all.lasts talk last all.ended one.ended;
      kept = λ told.
          kept.talks (before.told ∙ told) ∙ ap (λ (l : List Talk). l ++ last ∷ []) (all.kept told)
          ∙ append_assoc old.talks all.lasts (last ∷ []);
      rises = λ some.
          dite (dec_le 1 last.count)
          (λ faulty. let rose = kept.count.rose (λ none. omega (arith, faulty, none)) in let le = before.count in omega (arith, rose, le))
          (λ never. let rose = all.rises (λ none. some (omega (arith, never, sum, none))) in let le = onward.count in omega (arith, rose, le));
      most = (let once = kept.once in let most = all.most in omega (arith, once, most, sum));
      onward = record {
        told = onward.told ∙ before.told;
        steady = onward.steady ∙ before.steady;
        place = onward.place ∙ before.place;
        count = (let p = before.count in let q = onward.count in omega arith);
        accept_count = (let p = before.accept_count in let q = onward.accept_count in omega arith);
        room = (let p = before.room in let q = onward.room in omega arith);
      };
      accepting = kept.accept_count ∙ all.accepting;
    }

some-last : (talks lasts : List Talk) → AllEnded talks lasts → 1 ≤ counts_of talks → 1 ≤ faulty_links lasts
some-last [] [] all some = absurd (omega (arith, some))
some-last [] (last ∷ lasts) all some = absurd all
some-last (talk ∷ talks) [] all some = absurd all
some-last (talk ∷ talks) (last ∷ lasts) all some =
    let counts = sum_by-cons (λ (t : Talk). t.count) talk talks in
    let links = sum_by-cons (λ (t : Talk). min t.count 1) last lasts in
    let later = all.0.count in
    dite (dec_le 1 talk.count)
    (λ faulty. omega (arith, faulty, later, links))
    (λ never. let rest = some-last talks lasts all.1 (omega (arith, some, counts, never)) in omega (arith, rest, links))

-- a link that counts a fault ends with one
pub ended-faulty : (talks lasts : List Talk) → AllEnded talks lasts → counts_of talks ≢ 0 → faulty_links lasts ≢ 0
ended-faulty talks lasts all some none =
    let one = some-last talks lasts all (dite (dec_le 1 (counts_of talks)) (λ is. is) (λ never. absurd (some (omega (arith, never))))) in
    omega (arith, one, none)

-- what was hung up is all if no link is left
pub hung-all : {L : Type 0} (talk : L → Talk) (links : List L) (old new : PortState) (all gone : List Talk)
    → all ≡ gone ++ map talk links → length links ≡ 0 → HangsUpAll old gone new → HangsUpAll old all new
hung-all talk [] old new all gone is none hung =
    subst (λ (l : List Talk). HangsUpAll old l new) (sym (is ∙ append-nil gone)) hung
hung-all talk (link ∷ links) old new all gone is none hung = absurd (omega (arith, none))
