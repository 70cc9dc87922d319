-- A round, member by member: what a loop knows of the members from here on it knows of all.
use Rattle.std.proofs.Common.{◌≡◌, ◌<◌, ◌≤◌, ◌+◌, ℕ, suc, Bool, true, false, List, [], ◌∷◌, ◌++◌, length, map, take, drop, get_or, slice_set, Result, Ok, Err, sym, ap, subst, ◌∙◌, arith, append_assoc}
use Rattle.std.proofs.lemmas.List.{append-nil, drop_all, drop_more, map-append, map_push, set_split, take_all, take_more_set, drop-set-lt}
use Rattle.aggregator_session.proofs.Frames.{framed-same}
use Rattle.aggregator_session.specs.Hearing.{Asked, granted, is_masks, kept_in}
use Rattle.aggregator_session.specs.Runs.{AskedAgain, Calls, Dialling, First, HasCalled, IsSecondFrame, Second, SecondFrames, asked, first_all, first_answered, first_lost, first_refused, not_read, second_all, second_answered, second_lost, second_refused, second_unread}
use Rattle.aggregator_session.specs.declared.desk.Address.{Address}
use Rattle.aggregator_session.specs.declared.fault.SignFault.{SignFault}
use Rattle.aggregator_session.specs.declared.fault.SignFault.TheVariants.{Session}
use Rattle.round_frames.specs.Replies.{Reply}
use Rattle.session_core.specs.State.{SameAsk, State}
use Rattle.session_core.specs.declared.faults.SessionFault.TheVariants.{Reference}
use Rattle.stream_io.specs.Net.{PortState}
use Rattle.stream_io.specs.Talk.{Talk}

abbrev pub End : Type 0
End = Result (Unit {0}) SignFault

abbrev okay : Bool → Result Bool SignFault
okay b = Ok b

abbrev pub ended : SignFault → Result (Unit {0}) SignFault
ended fault = Err fault

abbrev pub dialling : State → PortState → List Talk → Dialling
dialling s port talks = record { session = s; port = port; talks = talks }

-- what is so of round one from the later members on is so of the whole round, these talks standing before
abbrev pub FirstFrom : List Address → List ℕ → PortState → State → List ℕ → PortState → State → List ℕ → List Talk → Type 0
FirstFrom addresses ask before old members now new later talks =
    (rest : List Talk) (last : State) (end : Result (Unit {0}) SignFault) → First addresses ask now new later rest last end → First addresses ask before old members (talks ++ rest) last end

module _ (addresses : List Address) (ask : List ℕ) (before : PortState) (old : State) (members : List ℕ) (now : PortState) (new : State) (i : ℕ) where
  first-here : (d : ℕ) (talks rest : List Talk) (last : State) (end : End) → i < length members → FirstFrom addresses ask before old members now new (drop i members) talks
      → First addresses ask now new (get_or members i d ∷ drop (i + 1) members) rest last end → First addresses ask before old members (talks ++ rest) last end
  first-here d talks rest last end lt run here =
      run rest last end (subst (λ (m : List ℕ). First addresses ask now new m rest last end) (sym (drop_more members i d lt)) here)

  module _ (d : ℕ) (olds news talks : List Talk) (after : PortState) (last : State) (lt : i < length members)
      (run : FirstFrom addresses ask before old members now new (drop i members) olds) (links : news ≡ olds ++ talks) where
    ends-by : (answer : Result Reply SignFault) (result : Result Bool SignFault) (fault : SignFault) → Calls addresses ask new (get_or members i d) now after talks answer
        → last ≡ kept_in new answer → result ≡ granted answer → result ≡ Err fault → First addresses ask before old members news last (ended fault)
    ends-by (Ok reply) result fault calls state told is = absurd (cc)
    ends-by (Err why) result fault calls state told is =
        let same : why ≡ fault = cc in
        subst (λ (t : List Talk). First addresses ask before old members t last (ended fault)) (sym links)
        (subst (λ (f : SignFault). First addresses ask before old members (olds ++ talks) last (ended f)) same
        (subst (λ (s : State). First addresses ask before old members (olds ++ talks) s (ended why)) (sym state)
        (first-here d olds talks new (ended why) lt run (first_lost now after new (get_or members i d) (drop (i + 1) members) talks why calls))))

    refuses-by : (answer : Result Reply SignFault) (result : Result Bool SignFault) → Calls addresses ask new (get_or members i d) now after talks answer
        → last ≡ kept_in new answer → result ≡ granted answer → result ≡ Ok false → First addresses ask before old members news last (Ok tt)
    refuses-by (Err why) result calls state told is = absurd (cc)
    refuses-by (Ok reply) result calls state told is =
        let refused : is_masks reply ≡ false = cc in
        subst (λ (t : List Talk). First addresses ask before old members t last (Ok tt)) (sym links)
        (subst (λ (s : State). First addresses ask before old members (olds ++ talks) s (Ok tt)) (sym state)
        (first-here d olds talks (kept_in new (Ok reply)) (Ok tt) lt run (first_refused now after new (get_or members i d) (drop (i + 1) members) talks reply calls refused)))

    more-by : (answer : Result Reply SignFault) (result : Result Bool SignFault) → Calls addresses ask new (get_or members i d) now after talks answer
        → last ≡ kept_in new answer → result ≡ granted answer → result ≡ Ok true → FirstFrom addresses ask before old members after last (drop (i + 1) members) news
    more-by (Err why) result calls state told is = absurd (cc)
    more-by (Ok reply) result calls state told is = λ rest end_state end later.
        let given : is_masks reply ≡ true = cc in
        let later' = subst (λ (s : State). First addresses ask after s (drop (i + 1) members) rest end_state end) state later in
        subst (λ (t : List Talk). First addresses ask before old members t end_state end) (sym (ap (λ (t : List Talk). t ++ rest) links ∙ append_assoc olds talks rest))
        (first-here d olds (talks ++ rest) end_state end lt run
        (first_answered now after new end_state (get_or members i d) (drop (i + 1) members) talks rest reply end calls given later'))

  module _ (d : ℕ) (olds news : List Talk) (after : PortState) (last : State) (result : Result Bool SignFault) (lt : i < length members)
      (run : FirstFrom addresses ask before old members now new (drop i members) olds) (h : HasCalled addresses ask (get_or members i d) (dialling new now olds) (dialling last after news) result) where
    pub first-ends : (fault : SignFault) → result ≡ Err fault → First addresses ask before old members news last (ended fault)
    first-ends fault is = ends-by d olds news h.talks after last lt run h.links h.answer result fault h.calls h.state h.told is

    pub first-refuses : result ≡ Ok false → First addresses ask before old members news last (Ok tt)
    first-refuses is = refuses-by d olds news h.talks after last lt run h.links h.answer result h.calls h.state h.told is

    pub first-more : result ≡ Ok true → FirstFrom addresses ask before old members after last (drop (i + 1) members) news
    first-more is = more-by d olds news h.talks after last lt run h.links h.answer result h.calls h.state h.told is

  pub first-done : (talks : List Talk) → length members ≤ i → FirstFrom addresses ask before old members now new (drop i members) talks
      → First addresses ask before old members talks new (Ok tt)
  first-done talks ge run =
      subst (λ (t : List Talk). First addresses ask before old members t new (Ok tt)) (append-nil talks)
      (run [] new (Ok tt) (subst (λ (m : List ℕ). First addresses ask now new m [] new (Ok tt)) (sym (drop_all i members ge)) (first_all now new)))

pub ok-is : (r : Result Bool SignFault) (b x : Bool) → r ≡ Ok b → b ≡ x → r ≡ Ok x
ok-is r b x was is = was ∙ ap (λ (y : Bool). okay y) is

-- the same of round two, if the later members have these links
abbrev pub SecondFrom : SecondFrames → List ℕ → List Talk → State → List ℕ → List Talk → List Talk → Type 0
SecondFrom frames members olds new later left talks =
    (news : List Talk) (last : State) (end : Result (Unit {0}) SignFault) → Second frames new later left news last end → Second frames frames.session members olds (talks ++ news) last end

module _ {L : Type 0} (talk : L → Talk) (frames : SecondFrames) (members : List ℕ) (olds : List Talk) (new : State) (i : ℕ) (links : List L) (lt : i < length members)
    (many : length links ≡ length members)
    (run : SecondFrom frames members olds new (drop i members) (map talk (drop i links)) (map talk (take i links))) where
  second-here : (d : ℕ) (e : L) (news : List Talk) (last : State) (end : End) → e ≡ get_or links i e
      → Second frames new (get_or members i d ∷ drop (i + 1) members) (talk e ∷ map talk (drop (i + 1) links)) news last end
      → Second frames frames.session members olds (map talk (take i links) ++ news) last end
  second-here d e news last end e_is here =
      let lt' : i < length links = omega arith in
      run news last end (subst (λ (t : List L). Second frames new (drop i members) (map talk t) news last end) (sym (drop_more links i e lt' ∙ ap (λ (x : L). x ∷ drop (i + 1) links) (sym e_is)))
      (subst (λ (m : List ℕ). Second frames new m (talk e ∷ map talk (drop (i + 1) links)) news last end) (sym (drop_more members i d lt)) here))

  -- the last that is asked
  second-last : (d : ℕ) (e link : L) (after : List L) (last : State) (end : End) → e ≡ get_or links i e → after ≡ slice_set links i link
      → Second frames new (get_or members i d ∷ drop (i + 1) members) (talk e ∷ map talk (drop (i + 1) links)) (talk link ∷ map talk (drop (i + 1) links)) last end
      → Second frames frames.session members olds (map talk after) last end
  second-last d e link after last end e_is is here =
      let lt' : i < length links = omega arith in
      let more : suc i ≡ i + 1 = omega arith in
      subst (λ (t : List Talk). Second frames frames.session members olds t last end)
      (sym (ap (map talk) (is ∙ set_split links i link lt' ∙ ap (λ (n : ℕ). take i links ++ link ∷ drop n links) more) ∙ map-append talk (take i links) (link ∷ drop (i + 1) links)))
      (second-here d e (talk link ∷ map talk (drop (i + 1) links)) last end e_is here)

  module _ (d : ℕ) (e link : L) (after : List L) (last : State) (e_is : e ≡ get_or links i e) (is : after ≡ slice_set links i link) where
    -- the reference was not read
    second-unreads : last ≡ new → talk link ≡ talk e → Second frames frames.session members olds (map talk after) last (ended (Session Reference))
    second-unreads state same =
        subst (λ (s : State). Second frames frames.session members olds (map talk after) s (ended (Session Reference))) (sym state)
        (second-last d e link after new (ended (Session Reference)) e_is is
        (subst (λ (t : Talk). Second frames new (get_or members i d ∷ drop (i + 1) members) (talk e ∷ map talk (drop (i + 1) links)) (t ∷ map talk (drop (i + 1) links)) new (ended (Session Reference))) (sym same)
        (second_unread new (get_or members i d) (drop (i + 1) members) (talk e ∷ map talk (drop (i + 1) links)))))

    module _ (ask : List ℕ) (framed : IsSecondFrame frames (get_or members i d) ask) where
      second-loses : (answer : Result Reply SignFault) (result : Result Bool SignFault) (fault : SignFault) → Asked new (get_or members i d) ask (talk e) (talk link) answer
          → last ≡ kept_in new answer → result ≡ granted answer → result ≡ Err fault → Second frames frames.session members olds (map talk after) last (ended fault)
      second-loses (Ok reply) result fault asks state tells was = absurd (cc)
      second-loses (Err why) result fault asks state tells was =
          let same : why ≡ fault = cc in
          subst (λ (f : SignFault). Second frames frames.session members olds (map talk after) last (ended f)) same
          (subst (λ (s : State). Second frames frames.session members olds (map talk after) s (ended why)) (sym state)
          (second-last d e link after new (ended why) e_is is (second_lost new (get_or members i d) (drop (i + 1) members) ask (talk e) (talk link) (map talk (drop (i + 1) links)) why framed asks)))

      second-refuses-by : (answer : Result Reply SignFault) (result : Result Bool SignFault) → Asked new (get_or members i d) ask (talk e) (talk link) answer
          → last ≡ kept_in new answer → result ≡ granted answer → result ≡ Ok false → Second frames frames.session members olds (map talk after) last (Ok tt)
      second-refuses-by (Err why) result asks state tells was = absurd (cc)
      second-refuses-by (Ok reply) result asks state tells was =
          let refused : is_masks reply ≡ false = cc in
          subst (λ (s : State). Second frames frames.session members olds (map talk after) s (Ok tt)) (sym state)
          (second-last d e link after (kept_in new (Ok reply)) (Ok tt) e_is is (second_refused new (get_or members i d) (drop (i + 1) members) ask (talk e) (talk link) (map talk (drop (i + 1) links)) reply framed asks refused))

      second-more-by : (answer : Result Reply SignFault) (result : Result Bool SignFault) → Asked new (get_or members i d) ask (talk e) (talk link) answer
          → last ≡ kept_in new answer → result ≡ granted answer → result ≡ Ok true
          → SecondFrom frames members olds last (drop (i + 1) members) (map talk (drop (i + 1) after)) (map talk (take (i + 1) after))
      second-more-by (Err why) result asks state tells was = absurd (cc)
      second-more-by (Ok reply) result asks state tells was = λ news end_state end later.
          let given : is_masks reply ≡ true = cc in
          let lt' : i < length links = omega arith in
          let below : i < i + 1 = omega arith in
          let left : drop (i + 1) after ≡ drop (i + 1) links = ap (drop (i + 1)) is ∙ drop-set-lt (i + 1) links i link below in
          let done : take (i + 1) after ≡ take i links ++ link ∷ [] = ap (take (i + 1)) is ∙ take_more_set links i link lt' in
          let later' = subst (λ (t : List L). Second frames (kept_in new (Ok reply)) (drop (i + 1) members) (map talk t) news end_state end) left
          (subst (λ (s : State). Second frames s (drop (i + 1) members) (map talk (drop (i + 1) after)) news end_state end) state later) in
          subst (λ (t : List Talk). Second frames frames.session members olds t end_state end)
          (sym (ap (λ (t : List Talk). t ++ news) (ap (map talk) done ∙ map_push talk (take i links) link) ∙ append_assoc (map talk (take i links)) (talk link ∷ []) news))
          (second-here d e (talk link ∷ news) end_state end e_is
          (second_answered new end_state (get_or members i d) (drop (i + 1) members) ask (talk e) (talk link) (map talk (drop (i + 1) links)) news reply end framed asks given later'))

    -- a member that was asked, or was not because the reference was not read
    pub second-ends : (result : Result Bool SignFault) (fault : SignFault) → AskedAgain (record frames { session = new }) last (get_or members i d) (talk e) (talk link) result
        → SameAsk frames.session new → result ≡ Err fault → Second frames frames.session members olds (map talk after) last (ended fault)
    second-ends result fault (not_read state same) keeps was =
        let is_reference : Session Reference ≡ fault = cc in
        subst (λ (f : SignFault). Second frames frames.session members olds (map talk after) last (ended f)) is_reference (second-unreads state same)
    second-ends result fault (asked ask r framed h) keeps was = second-loses ask (framed-same frames new (get_or members i d) ask keeps framed) h.answer result fault h.asked h.state h.told was

    pub second-refuses : (result : Result Bool SignFault) → AskedAgain (record frames { session = new }) last (get_or members i d) (talk e) (talk link) result
        → SameAsk frames.session new → result ≡ Ok false → Second frames frames.session members olds (map talk after) last (Ok tt)
    second-refuses result (not_read state same) keeps was = absurd (cc)
    second-refuses result (asked ask r framed h) keeps was = second-refuses-by ask (framed-same frames new (get_or members i d) ask keeps framed) h.answer result h.asked h.state h.told was

    pub second-more : (result : Result Bool SignFault) → AskedAgain (record frames { session = new }) last (get_or members i d) (talk e) (talk link) result
        → SameAsk frames.session new → result ≡ Ok true → SecondFrom frames members olds last (drop (i + 1) members) (map talk (drop (i + 1) after)) (map talk (take (i + 1) after))
    second-more result (not_read state same) keeps was = absurd (cc)
    second-more result (asked ask r framed h) keeps was = second-more-by ask (framed-same frames new (get_or members i d) ask keeps framed) h.answer result h.asked h.state h.told was

pub second-done : {L : Type 0} (talk : L → Talk) (frames : SecondFrames) (members : List ℕ) (olds : List Talk) (new : State) (i : ℕ) (links : List L) → length members ≤ i
    → length links ≡ length members → SecondFrom frames members olds new (drop i members) (map talk (drop i links)) (map talk (take i links))
    → Second frames frames.session members olds (map talk links) new (Ok tt)
second-done {L} talk frames members olds new i links ge many run =
    let ge' : length links ≤ i = omega arith in
    subst (λ (t : List L). Second frames frames.session members olds (map talk t) new (Ok tt)) (take_all i links ge')
    (subst (λ (t : List Talk). Second frames frames.session members olds t new (Ok tt)) (append-nil (map talk (take i links)))
    (run [] new (Ok tt) (subst (λ (t : List L). Second frames new (drop i members) (map talk t) [] new (Ok tt)) (sym (drop_all i links ge'))
    (subst (λ (m : List ℕ). Second frames new m [] [] new (Ok tt)) (sym (drop_all i members ge)) (second_all new)))))
