-- A session over what a dealer made ends with the undivided key's signature, or with want of memory, if the members'
-- links gave the dealer's masks.
use Rattle.std.proofs.Common.{◌≡◌, ◌⊎◌, ◌+◌, ◌*◌, ◌%◌, ◌^◌, ◌<◌, ℕ, List, [], All, IsTrue, None, Some, Result, Ok, Err, length, map, inl, inr, refl, sym, ap, subst, ◌∙◌, arith}
use Rattle.std.specs.List.{AllZip}
use Rattle.std.proofs.lemmas.List.Elements.{All-weaker}
use Rattle.aggregator_session.specs.Addresses.{place_of}
use Rattle.aggregator_session.specs.Desks.{DeskState}
use Rattle.aggregator_session.specs.Faults.{LostBy, sign_fault}
use Rattle.aggregator_session.specs.Runs.{CellsRead, First, Opens, Second, SignRun, Stops, first_frame, judged_in_one, judged_in_two, lost_in_one, lost_in_two, no_memory, second_frames, signed}
use Rattle.aggregator_session.specs.declared.fault.SignFault.{SignFault}
use Rattle.aggregator_session.specs.declared.fault.SignFault.TheVariants.{NoMemory, Session}
use Rattle.aggregator_session.specs.declared.fault.Why.TheVariants.{DialFailed}
use Rattle.coalition_map.specs.Coalitions.{count_of, leaf_members}
use Rattle.coalition_map.specs.Members.{IsAscendingIn}
use Rattle.coalition_map.proofs.CoalitionLaws.{IsSubset-coalition, count_of-pos}
use Rattle.lms_bytes.specs.Digits.{digit_of}
use Rattle.lms_bytes.specs.MessageId.{message_id}
use Rattle.lms_bytes.specs.declared.message.MessageId.{MessageId}
use Rattle.lms_bytes.specs.declared.params.Params.{Params}
use Rattle.lms_bytes.specs.declared.public_key.PublicKey.{PublicKey}
use Rattle.lms_bytes.proofs.Joined.{length-joined}
use Rattle.lms_bytes.proofs.Layouts.{one_layout}
use Rattle.lms_verify.specs.Accepts.{LeadsTo}
use Rattle.lms_verify.specs.UndividedKey.{UndividedKey, leaf_key, rfc_signature}
use Rattle.mask_prf.proofs.Lengths.{length-chain_mask_of, length-random_mask_of, length-randomizer_of}
use Rattle.merkle_path.specs.Tree.{TreeNodes, tree_of}
use Rattle.reference_value.specs.Dealing.{Dealing, chain_mask, key_of, leaf_randomizer, random_mask, reference}
use Rattle.session_core.specs.Dealing.{FirstMasks, IsAnswered, IsOfDealing}
use Rattle.session_core.specs.Judging.{round_fault}
use Rattle.session_core.specs.Seats.{Seat, empty_seat}
use Rattle.session_core.specs.State.{IsSession, State, body_room, started}
use Rattle.session_core.specs.Verdicts.{Astray, FinishFails, digest_of, joined_bytes}
use Rattle.session_core.specs.declared.faults.SessionFault as session
use Rattle.session_core.specs.declared.faults.SessionFault.TheVariants.{Reference}
use Rattle.session_core.proofs.Dealt.{signature-accepted}
use Rattle.stream_io.specs.Net.{PortState}
use Rattle.stream_io.specs.Talk.{Talk}
use Rattle.laws_signing.specs.Answering.{AllGave, message_masks, second_round}
use Rattle.laws_signing.proofs.RoundOne.{Goes, Ready, first-goes, one}
use Rattle.laws_signing.proofs.RoundTwo.{Ends, all-before, first-told, second-goes, two}
use Rattle.laws_signing.proofs.Seats.{Kept, front-none, kept-faultless, kept-seats, number}

-- one string leads to one root
one-root : (key : PublicKey) (message signature : List ℕ) (q : ℕ) (a b : List ℕ) → LeadsTo key message signature q a → LeadsTo key message signature q b → a ≡ b
one-root key message signature q a b x y =
    let same = one_layout key.params signature q q x.c x.y x.path y.c y.y y.path x.layout y.layout in
    sym x.root_is ∙ (rw (same.c_same, same.y_same, same.path_same) refl ∙ y.root_is)

abbrev okay : List ℕ → Result (List ℕ) SignFault
okay bytes = Ok bytes

abbrev pub failed : SignFault → Result (List ℕ) SignFault
failed fault = Err fault

-- what is signed and with what
pub record IsReady (d : Dealing) (undivided : UndividedKey) (key : PublicKey) (leaf : ℕ) (message : List ℕ) (reads : CellsRead) (tree : TreeNodes) : Type 0 where
  pub of : IsOfDealing d undivided (started key d.plan leaf (message_id message))
  pub height : d.plan.h ≡ d.params.h
  pub leaf_is : leaf < 2 ^ d.params.h
  pub told : IsTrue reads.told
  pub leaves_are : reads.leaves ≡ reference d
  pub tree_is : tree ≡ tree_of undivided.params undivided.id (leaf_key undivided)

module _ (d : Dealing) (undivided : UndividedKey) (key : PublicKey) (leaf : ℕ) (message : List ℕ) (reads : CellsRead) (desk : DeskState) (r : IsReady d undivided key leaf message reads desk.tree) where
  abbrev id : MessageId
  id = message_id message

  abbrev all : List ℕ
  all = leaf_members d.plan leaf

  abbrev start : State
  start = started key d.plan leaf id

  abbrev room_one : ℕ
  room_one = body_room key.params 1

  abbrev room_two : ℕ
  room_two = body_room key.params 2

  abbrev mask_one : ℕ → List ℕ
  mask_one = random_mask d leaf

  abbrev mask_two : ℕ → List ℕ
  mask_two = message_masks d start message

  abbrev random : List ℕ
  random = leaf_randomizer d leaf

  ascending : IsAscendingIn 1 (d.plan.n + 1) all
  ascending =
      let some = count_of-pos d.plan r.of.plan_is in
      let inside : leaf % count_of d.plan < count_of d.plan = omega arith in
      (IsSubset-coalition d.plan (leaf % count_of d.plan) inside).ascending

  size-one : (t : ℕ) → length (mask_one t) ≡ key.params.n
  size-one t = length-random_mask_of d.params (key_of d t) d.id leaf ∙ sym (ap (λ (p : Params). p.n) r.of.params)

  size-two : (t : ℕ) → length (mask_two t) ≡ key.params.n * key.params.p
  size-two t =
      let digest = digest_of (second_round d start) message in
      length-joined (λ i. chain_mask d leaf i (digit_of d.params digest i) t) d.params.n d.params.p (λ i _. length-chain_mask_of d.params (key_of d t) d.id leaf i (digit_of d.params digest i))
      ∙ sym (ap (λ (p : Params). p.n * p.p) r.of.params)

  is-session : (firsts seats : List Seat) → All (Kept room_one mask_one) firsts → map number firsts ≡ all → All (Kept room_two mask_two) seats → map number seats ≡ all
      → IsSession (two key d.plan leaf id random firsts seats)
  is-session firsts seats kept_one is_one kept_two is_two = record {
    height = r.height ∙ sym (ap (λ (p : Params). p.h) r.of.params);
    leaf = subst (λ (p : Params). leaf < 2 ^ p.h) (sym r.of.params) r.leaf_is;
    ascending = ascending;
    first = kept-seats key.params 1 room_one mask_one all firsts (omega arith) size-one is_one kept_one;
    second = kept-seats key.params 2 room_two mask_two all seats (omega arith) size-two is_two kept_two;
    waiting = λ none. absurd (cc);
    c = length-randomizer_of d.params d.random_key d.id leaf ∙ sym (ap (λ (p : Params). p.n) r.of.params);
  }

  of-one : (seats : List Seat) → IsOfDealing d undivided (one key d.plan leaf id seats)
  of-one seats = record {
    plan_is = r.of.plan_is;
    plan = r.of.plan;
    params = r.of.params;
    id = r.of.id;
    root_is = r.of.root_is;
    key_params = r.of.key_params;
    key_id = r.of.key_id;
    key_seed = r.of.key_seed;
  }

  first-masks : (seats : List Seat) → All (Kept room_one mask_one) seats → FirstMasks d (one key d.plan leaf id seats)
  first-masks seats kept = All-weaker (Kept room_one mask_one) (λ (seat : Seat). (seat.code ≡ Some 0) × (seat.body ≡ random_mask d leaf seat.member)) (λ seat k. (k.code, k.body)) seats kept

  is-answered : (firsts seats : List Seat) → All (Kept room_two mask_two) seats
      → IsAnswered d undivided (two key d.plan leaf id random firsts seats) (digest_of (two key d.plan leaf id random firsts seats) message) reads.leaves desk.tree
  is-answered firsts seats kept = record {
    dealing = record {
      plan_is = r.of.plan_is;
      plan = r.of.plan;
      params = r.of.params;
      id = r.of.id;
      root_is = r.of.root_is;
      key_params = r.of.key_params;
      key_id = r.of.key_id;
      key_seed = r.of.key_seed;
    };
    leaves_are = r.leaves_are;
    tree_is = r.tree_is;
    c = refl;
    masks = All-weaker (Kept room_two mask_two) (λ (seat : Seat). (seat.code ≡ Some 0) × (seat.body ≡ mask_two seat.member)) (λ seat k. (k.code, k.body)) seats kept;
  }

  one-faultless : (seats : List Seat) (last : State) → last ≡ one key d.plan leaf id seats → All (Kept room_one mask_one) seats → round_fault last [] ≡ None
  one-faultless seats last is kept = ap (λ (s : State). round_fault s []) is ∙ kept-faultless (one key d.plan leaf id seats) [] room_one mask_one seats kept

  two-faultless : (firsts seats : List Seat) (last : State) (digest : List ℕ) → last ≡ two key d.plan leaf id random firsts seats → All (Kept room_two mask_two) seats → round_fault last digest ≡ None
  two-faultless firsts seats last digest is kept =
      ap (λ (s : State). round_fault s digest) is ∙ kept-faultless (two key d.plan leaf id random firsts seats) digest room_two mask_two seats kept

  -- no root other than the key's
  not-astray : (firsts seats : List Seat) (last : State) (fault : session.SessionFault) → last ≡ two key d.plan leaf id random firsts seats
      → All (Kept room_one mask_one) firsts → map number firsts ≡ all → All (Kept room_two mask_two) seats → map number seats ≡ all
      → Astray last message reads.told (joined_bytes last reads.leaves desk.tree message) fault → ⊥
  not-astray firsts seats last fault is kept_one is_one kept_two is_two astray =
      let session = subst (λ (s : State). IsSession s) (sym is) (is-session firsts seats kept_one is_one kept_two is_two) in
      let answered = subst (λ (s : State). IsAnswered d undivided s (digest_of s message) reads.leaves desk.tree) (sym is) (is-answered firsts seats kept_two) in
      let accepted = signature-accepted d undivided last reads.leaves desk.tree message session answered in
      astray.other (one-root last.key message (joined_bytes last reads.leaves desk.tree message) last.leaf astray.got last.key.root (astray.leads r.told) accepted)

  -- round one leads to round two, and all links are ready for it
  record Opened (firsts : List Seat) (turned : State) (mids : List Talk) : Type 0 where
    kept : All (Kept room_one mask_one) firsts
    numbers : map number firsts ≡ all
    turned_is : turned ≡ two key d.plan leaf id random firsts (map (empty_seat room_two) all)
    ready : AllZip (Ready d start message) all mids

  module _ (port : PortState) (told : IsTrue port.told) (places : All (λ t. place_of desk.addresses t ≡ None → ⊥) all) where
    first-ends : (s last : State) (talks : List Talk) (end : Result (Unit {0}) SignFault) → s ≡ start
        → First desk.addresses (first_frame s) port s (leaf_members s.plan s.leaf) talks last end → (LostBy DialFailed end → ⊥) → AllGave d start message all talks
        → Goes d key leaf id message all all talks last end
    first-ends s last talks end is first dials gave =
        let here : First desk.addresses (first_frame s) port s all talks last end = subst (λ (z : State). First desk.addresses (first_frame s) port s (leaf_members z.plan z.leaf) talks last end) is first in
        first-goes d key leaf id message desk.addresses (first_frame s) port s all talks last end here [] 1 (d.plan.n + 1) is (front-none room_one mask_one 1) ascending refl places dials told gave

    opened : (s turned : State) (mids : List Talk) → s ≡ start → (opens : Opens desk.addresses reads port s turned mids) → AllGave d start message all mids → (firsts : List Seat) × Opened firsts turned mids
    opened s turned mids is opens gave =
        let goes = first-ends s opens.kept mids (Ok tt) is opens.first (λ lost. lost) gave in
        let seats = goes.seats in
        let of = subst (λ (z : State). IsOfDealing d undivided z) (sym goes.last_is) (of-one seats) in
        let masks = subst (λ (z : State). FirstMasks d z) (sym goes.last_is) (first-masks seats goes.kept) in
        let turns : turned ≡ record opens.kept { c = Some (leaf_randomizer d opens.kept.leaf) } = opens.dealt r.told d undivided r.leaves_are of masks in (
          seats,
          record {
            kept = goes.kept;
            numbers = goes.numbers;
            turned_is = turns ∙ ap (λ (z : State). record z { c = Some (leaf_randomizer d z.leaf) }) goes.last_is;
            ready = goes.ready;
          },
        )

    -- what the links gave when round one was over
    mids-gave : (s turned last : State) (mids talks : List Talk) (end : Result (Unit {0}) SignFault) → s ≡ start → (opens : Opens desk.addresses reads port s turned mids)
        → Second (second_frames reads turned message) turned all mids talks last end → AllGave d start message all talks → AllGave d start message all mids
    mids-gave s turned last mids talks end is opens second gave =
        all-before d key leaf id message (second_frames reads turned message) turned all mids talks last end second
        (first-told desk.addresses (first_frame s) port s (leaf_members s.plan s.leaf) mids opens.kept (Ok tt) opens.first told) gave

    second-ends : (firsts : List Seat) (turned last : State) (mids talks : List Talk) (end : Result (Unit {0}) SignFault) → Opened firsts turned mids
        → Second (second_frames reads turned message) turned all mids talks last end → (end ≡ Err (Session Reference) → ⊥) → AllGave d start message all talks
        → Ends d key leaf id message firsts all last end
    second-ends firsts turned last mids talks end o second read gave =
        second-goes d key leaf id message firsts (second_frames reads turned message) turned all mids talks last end second [] 1 (d.plan.n + 1) o.turned_is (front-none room_two mask_two 1) ascending refl
        read o.ready gave

    -- the undivided key's signature, or want of memory
    abbrev Well : Result (List ℕ) SignFault → Type 0
    Well result = (result ≡ failed NoMemory) ⊎ (result ≡ Ok (rfc_signature undivided leaf random message))

    finish-goes : (firsts seats : List Seat) (last : State) (fault : session.SessionFault) → last ≡ two key d.plan leaf id random firsts seats → All (Kept room_one mask_one) firsts
        → map number firsts ≡ all → All (Kept room_two mask_two) seats → map number seats ≡ all → FinishFails last message reads.told (joined_bytes last reads.leaves desk.tree message) reads.before reads.now fault
        → (failed (sign_fault fault) ≡ failed (Session Reference) → ⊥) → Well (failed (sign_fault fault))
    finish-goes firsts seats last fault is kept_one is_one kept_two is_two (inl none) read = inl (ap (λ (f : session.SessionFault). failed (sign_fault f)) none)
    finish-goes firsts seats last fault is kept_one is_one kept_two is_two (inr (inl found)) read =
        let nothing = two-faultless firsts seats last (digest_of last message) is kept_two in
        absurd (cc)
    finish-goes firsts seats last fault is kept_one is_one kept_two is_two (inr (inr (inl unread))) read = absurd (read (ap (λ (f : session.SessionFault). failed (sign_fault f)) unread.reference))
    finish-goes firsts seats last fault is kept_one is_one kept_two is_two (inr (inr (inr astray))) read = absurd (not-astray firsts seats last fault is kept_one is_one kept_two is_two astray)

    stops-not : (seats : List Seat) (last : State) (fault : session.SessionFault) → last ≡ one key d.plan leaf id seats → All (Kept room_one mask_one) seats → Stops reads last fault
        → (failed (sign_fault fault) ≡ failed (Session Reference) → ⊥) → ⊥
    stops-not seats last fault is kept (inl found) read =
        let nothing = one-faultless seats last is kept in
        absurd (cc)
    stops-not seats last fault is kept (inr unread) read = read (ap (λ (f : session.SessionFault). failed (sign_fault f)) unread.reference)

    second-of : (s turned last : State) (mids talks : List Talk) (end : Result (Unit {0}) SignFault) → s ≡ start
        → Second (second_frames reads turned message) turned (leaf_members s.plan s.leaf) mids talks last end → Second (second_frames reads turned message) turned all mids talks last end
    second-of s turned last mids talks end is second =
        subst (λ (z : State). Second (second_frames reads turned message) turned (leaf_members z.plan z.leaf) mids talks last end) is second

    pub session-goes : (s last : State) (talks : List Talk) (result : Result (List ℕ) SignFault) → SignRun desk reads message port s talks last result → s ≡ start
        → (LostBy DialFailed result → ⊥) → (result ≡ failed (Session Reference) → ⊥) → AllGave d start message all talks → Well result
    session-goes s last talks result no_memory is dials read gave = inl refl
    session-goes s last talks result (lost_in_one t kept fault first) is dials read gave =
        let goes = first-ends s kept t (Err fault) is first dials gave in
        let ended = goes.end_is in
        absurd (cc)
    session-goes s last talks result (judged_in_one t kept fault first stops) is dials read gave =
        let goes = first-ends s kept t (Ok tt) is first (λ lost. lost) gave in
        absurd (stops-not goes.seats kept fault goes.last_is goes.kept stops read)
    session-goes s last talks result (lost_in_two mids t turned kept fault opens second) is dials read gave =
        let there = second-of s turned kept mids t (Err fault) is second in
        let o = opened s turned mids is opens (mids-gave s turned kept mids t (Err fault) is opens there gave) in
        let ends = second-ends o.0 turned kept mids t (Err fault) o.1 there (λ same. read (let f : fault ≡ Session Reference = cc in ap failed f)) gave in
        let ended = ends.end_is in
        absurd (cc)
    session-goes s last talks result (judged_in_two mids t turned kept fault opens second fails) is dials read gave =
        let there = second-of s turned kept mids t (Ok tt) is second in
        let o = opened s turned mids is opens (mids-gave s turned kept mids t (Ok tt) is opens there gave) in
        let ends = second-ends o.0 turned kept mids t (Ok tt) o.1 there (λ same. absurd (cc)) gave in
        finish-goes o.0 ends.seats kept fault ends.last_is o.1.kept o.1.numbers ends.kept ends.numbers fails read
    session-goes s last talks result (signed mids t turned kept bytes opens second signs) is dials read gave =
        let there = second-of s turned kept mids t (Ok tt) is second in
        let o = opened s turned mids is opens (mids-gave s turned kept mids t (Ok tt) is opens there gave) in
        let ends = second-ends o.0 turned kept mids t (Ok tt) o.1 there (λ same. absurd (cc)) gave in
        let answered = subst (λ (z : State). IsAnswered d undivided z (digest_of z message) reads.leaves desk.tree) (sym ends.last_is) (is-answered o.0 ends.seats ends.kept) in
        let made : bytes ≡ rfc_signature undivided kept.leaf (leaf_randomizer d kept.leaf) message = signs.dealt r.told d undivided answered in
        inr (ap okay (made ∙ ap (λ (z : State). rfc_signature undivided z.leaf (leaf_randomizer d z.leaf) message) ends.last_is))
