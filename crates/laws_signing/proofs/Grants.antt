-- A member's grant is heard as its masks.
use Rattle.std.proofs.Common.{◌≡◌, ◌++◌, ◌*◌, ◌<◌, ◌≤◌, ◌^◌, ◌==◌, ℕ, zero, suc, Bool, true, false, List, [], ◌∷◌, Contains, Ok, length, map, drop, get_or, replicate, refl, sym, ap, subst, ◌∙◌, inl, inr, append_assoc, arith}
use Rattle.std.specs.Str.{bytes_eq}
use Rattle.std.proofs.Math.Nat.{pow-le-pow_right}
use Rattle.std.proofs.Math.Seq.{drop-append_seam}
use Rattle.std.proofs.lemmas.Bool.{eq-eqb}
use Rattle.std.proofs.lemmas.Bool.Decides.{nat_tests}
use Rattle.std.proofs.lemmas.List.{length-replicate}
use Rattle.std.proofs.lemmas.Slice.Eq.{bytes_eq-Decides}
use Rattle.aggregator_session.specs.Hearing.{Came, by_frame, hear, is_answer, or_lost}
use Rattle.coalition_map.specs.Coalitions.{leaf_members}
use Rattle.coalition_map.proofs.MemberLaws.{Contains-cases, Contains-nil}
use Rattle.lms_bytes.specs.Digits.{digit_of}
use Rattle.lms_bytes.specs.MessageId.{message_id}
use Rattle.lms_bytes.specs.declared.params.Params.{Params}
use Rattle.lms_bytes.specs.declared.public_key.PublicKey.{PublicKey}
use Rattle.lms_bytes.specs.Bytes.{joined}
use Rattle.lms_bytes.specs.declared.ask.ReplyHead.{ReplyHead}
use Rattle.lms_bytes.proofs.Joined.{joined-more, joined-none, length-joined}
use Rattle.trustee_core.specs.Approvals.{Decided}
use Rattle.session_core.specs.Asks.{ask_with}
use Rattle.share_files.specs.declared.share.Share.{Share}
use Rattle.trustee_core.specs.Decisions.{Granted}
use Rattle.trustee_core.specs.Grants.{mask_of}
use Rattle.trustee_node.specs.Replies.{masks_joined, reply_head}
use Rattle.trustee_node.specs.Turns.{InTurn}
use Rattle.lms_verify.specs.UndividedKey.{UndividedKey, public_key_of}
use Rattle.mask_prf.specs.Masks.{chain_mask_of}
use Rattle.mask_prf.proofs.Lengths.{length-chain_mask_of, length-random_mask_of, length-randomizer_of}
use Rattle.reference_value.specs.Dealing.{Dealing, chain_mask, key_of, random_mask}
use Rattle.round_frames.specs.Frames.{Says, frame_of}
use Rattle.round_frames.specs.Replies.{HasParts, IsHead, Reply, replies, reply_front}
use Rattle.round_frames.specs.Replies as frames
use Rattle.round_frames.proofs.Replying.{reply-again}
use Rattle.session_core.specs.Replies.{names_ask, same_message}
use Rattle.session_core.specs.Seats.{empty_seat, has_seat, is_filled, place_of, seat_of}
use Rattle.session_core.specs.State.{State, asked_c, body_length, body_room, round_of, seats_of, started}
use Rattle.session_core.specs.Verdicts.{digest_of}
use Rattle.session_core.proofs.Places.{place-here, place-later}
use Rattle.sha2.proofs.Facts256.{length-sha256}
use Rattle.stream_io.specs.Talk.{Talk}
use Rattle.tool_sign.specs.Tasks.{message_limit}
use Rattle.laws_signing.specs.AllIsWell.{IsDealing}
use Rattle.laws_signing.specs.Answering.{Answers, Gave, IsShareOf, grants, message_masks, second_round}
use Rattle.laws_signing.specs.Answering as answering
use Rattle.laws_signing.proofs.Hearing.{hear-more}

-- the head of a member's grant: the present ask of a session, and code 0
abbrev grant_head : State → ℕ → ReplyHead
grant_head s member = record {
  key = s.key.id;
  leaf = s.leaf;
  member = member;
  message = s.message;
  round = round_of s;
  c = asked_c s;
  code = 0;
}

-- the frame of a grant of these masks
abbrev grant : State → ℕ → List ℕ → List ℕ
grant s member masks = reply_front s.key.params (grant_head s member) ++ masks

-- the seat of a member, in which nothing is kept
has-empty : (room : ℕ) (members : List ℕ) (t : ℕ) → Contains members t → has_seat (map (empty_seat room) members) t ≡ true
has-empty room [] t there = absurd (Contains-nil t there)
has-empty room (member ∷ members) t there = elim (Contains-cases member members t there) [
  | inl same ↦
      let place = place-here (empty_seat room member) (map (empty_seat room) members) t same in
      grind (arith, nat_tests)
  | inr later ↦ has-later room member members t (member == t) refl (has-empty room members t later)
]
  where
    has-later : (room member : ℕ) (members : List ℕ) (t : ℕ) (test : Bool) → member == t ≡ test → has_seat (map (empty_seat room) members) t ≡ true → has_seat (map (empty_seat room) (member ∷ members)) t ≡ true
    has-later room member members t true is rest =
        let same : member ≡ t = grind (arith, nat_tests) in
        let place = place-here (empty_seat room member) (map (empty_seat room) members) t same in
        grind (arith, nat_tests)
    has-later room member members t false is rest =
        let place = place-later (empty_seat room member) (map (empty_seat room) members) t (λ same. absurd (grind (arith, nat_tests))) in
        grind (arith, nat_tests)

none-filled : (room : ℕ) (members : List ℕ) (i : ℕ) → is_filled (get_or (map (empty_seat room) members) i (empty_seat 0 0)) ≡ false
none-filled room [] i = refl
none-filled room (member ∷ members) zero = refl
none-filled room (member ∷ members) (suc i) = none-filled room members i

same-bytes : (xs : List ℕ) → bytes_eq xs xs ≡ true
same-bytes xs = (bytes_eq-Decides xs xs).1 refl

same-number : (n : ℕ) → (n == n) ≡ true
same-number n = eq-eqb n n refl

-- the head of a grant names the ask
names-it : (s : State) (member : ℕ) → names_ask s (grant_head s member) ≡ true
names-it s member = rw (same-bytes s.key.id, same-number s.leaf, same-number s.message.length, same-bytes s.message.hash, same-number (round_of s), same-bytes (asked_c s)) refl

-- the session keeps it
answers-it : (s : State) (member : ℕ) (masks : List ℕ) → has_seat (seats_of s) member ≡ true → is_filled (seat_of (seats_of s) member) ≡ false
    → length masks ≡ body_length s.key.params (round_of s) 0 → is_answer s member (grant_head s member, masks) ≡ true
answers-it s member masks there empty size =
    let whole : (length masks == body_length s.key.params (round_of s) 0) ≡ true = eq-eqb _ _ size in
    rw (same-number member, names-it s member, there, whole, empty) refl

answered : (s : State) (member : ℕ) (masks rest : List ℕ) (next : List ℕ → Came) → is_answer s member (grant_head s member, masks) ≡ true
    → by_frame s member next rest (Ok (grant_head s member, masks)) ≡ record { answer = Ok (grant_head s member, masks); rest = rest }
answered s member masks rest next is = rw is refl

heard-grant : (s : State) (member : ℕ) (masks rest : List ℕ) → HasParts (grant_head s member) → IsHead s.key.params (grant_head s member)
    → length masks ≡ frames.body_length s.key.params (grant_head s member) → is_answer s member (grant_head s member, masks) ≡ true
    → hear s member 8 (grant s member masks ++ rest) ≡ record { answer = Ok (grant_head s member, masks); rest = rest }
heard-grant s member masks rest parts head size is =
    let bytes = grant s member masks ++ rest in
    let says : frame_of (replies s.key.params) bytes ≡ record { result = Ok (grant_head s member, masks); size = length (grant s member masks) } =
    reply-again s.key.params (grant_head s member) masks parts head size rest in
    hear-more s member 7 bytes
    ∙ (ap (λ (w : Says Reply). by_frame s member (hear s member 7) (drop w.size bytes) (or_lost s member w.result)) says
    ∙ (ap (λ (b : List ℕ). by_frame s member (hear s member 7) b (Ok (grant_head s member, masks))) (drop-append_seam (grant s member masks) rest)
    ∙ answered s member masks rest (hear s member 7) is))

module _ (d : Dealing) (key : UndividedKey) (message : List ℕ) (leaf member : ℕ) (dealing : IsDealing d key) (limit : length message ≤ message_limit) (leaf_is : leaf < 2 ^ d.plan.h)
    (of : Contains (leaf_members d.plan leaf) member) where
  abbrev public : PublicKey
  public = public_key_of key

  abbrev start : State
  start = started public d.plan leaf (message_id message)

  abbrev later : State
  later = second_round d start

  set-is : key.params ≡ d.params
  set-is = dealing.own.params

  parts : (s : State) → s.key ≡ public → s.leaf ≡ leaf → s.message ≡ message_id message → HasParts (grant_head s member)
  parts s same_key same_leaf same_message = record {
    key = ap (λ (k : PublicKey). length k.id) same_key ∙ key.id_length;
    leaf =
        let height : d.plan.h ≤ 32 = (let within = dealing.plan.h_within in omega arith) in
        let two : 0 < 2 = omega arith in
        let top : 2 ^ d.plan.h ≤ 2 ^ 32 = pow-le-pow_right two height in
        omega arith;
    message_length = rw same_message (omega arith);
    hash = rw same_message (length-sha256 message);
  }

  first-answers : (rest : List ℕ) → Answers start member (grant start member (random_mask d leaf member) ++ rest) (random_mask d leaf member) rest
  first-answers rest =
      let size : length (random_mask d leaf member) ≡ key.params.n = length-random_mask_of d.params (key_of d member) d.id leaf ∙ sym (ap (λ (p : Params). p.n) set-is) in
      let is = answers-it start member (random_mask d leaf member) (has-empty (body_room public.params 1) (leaf_members d.plan leaf) member of)
      (none-filled (body_room public.params 1) (leaf_members d.plan leaf) (place_of start.first member)) size in
      record {
        head = grant_head start member;
        granted = refl;
        heard =
            heard-grant start member (random_mask d leaf member) rest (parts start refl refl refl)
            (record { round = inl refl; code = omega arith; c = length-replicate key.params.n 0; zero = λ one. refl }) size is;
      }

  second-answers : (rest : List ℕ) → Answers later member (grant later member (message_masks d start message member) ++ rest) (message_masks d start message member) rest
  second-answers rest =
      let masks = message_masks d start message member in
      let digest = digest_of later message in
      let size : length masks ≡ key.params.n * key.params.p =
      length-joined (λ i. chain_mask d leaf i (digit_of d.params digest i) member) d.params.n d.params.p (λ i _. length-chain_mask_of d.params (key_of d member) d.id leaf i (digit_of d.params digest i))
      ∙ sym (ap (λ (p : Params). p.n * p.p) set-is) in
      let is = answers-it later member masks (has-empty (body_room public.params 2) (leaf_members d.plan leaf) member of)
      (none-filled (body_room public.params 2) (leaf_members d.plan leaf) (place_of start.second member)) size in
      let turned : length masks ≡ key.params.p * key.params.n = grind arith in
      record {
        head = grant_head later member;
        granted = refl;
        heard =
            heard-grant later member masks rest (parts later refl refl refl)
            (record { round = inr refl; code = omega arith; c = length-randomizer_of d.params d.random_key d.id leaf ∙ sym (ap (λ (p : Params). p.n) set-is); zero = λ one. absurd (omega arith) }) turned is;
      }

  granted : (talk : Talk) (more : List ℕ) → talk.count ≡ 0
      → talk.taken ++ talk.left ≡ (grant start member (random_mask d leaf member) ++ grant later member (message_masks d start message member)) ++ more → Gave d start message member talk
  granted talk more quiet bytes =
      let one = grant start member (random_mask d leaf member) in
      let two = grant later member (message_masks d start message member) in
      record {
        rest = two ++ more;
        last = more;
        first =
            subst (λ (b : List ℕ). Answers start member b (random_mask d leaf member) (two ++ more)) (sym (bytes ∙ append_assoc one two more)) (first-answers (two ++ more));
        second = second-answers more;
        faultless = quiet;
      }

-- one mask
joined-one : (f : ℕ → List ℕ) → joined f 1 ≡ f 0
joined-one f = joined-more f 0 ∙ ap (λ (l : List ℕ). l ++ f 0) (joined-none f)

-- the masks of all chains at a digest's digits
abbrev masks_by : Params → List ℕ → List ℕ → ℕ → List ℕ → List ℕ
masks_by params key id leaf digest = joined (λ i. chain_mask_of params key id leaf i (digit_of params digest i)) params.p

-- a trustee of the dealing that grants both asks gives its masks
module _ (d : Dealing) (key : UndividedKey) (message : List ℕ) (leaf : ℕ) (share : Share) (tag : List ℕ) (dealing : IsDealing d key) (own : IsShareOf d share) where
  abbrev begin : State
  begin = started (public_key_of key) d.plan leaf (message_id message)

  first-grant : answering.grant share (ask_with begin [] []) ≡ grant begin share.member (random_mask d leaf share.member)
  first-grant =
      let set : share.params ≡ key.params = own.params ∙ sym dealing.own.params in
      let mask : masks_joined share (ask_with begin [] []) ≡ random_mask d leaf share.member = joined-one (mask_of share (ask_with begin [] [])) ∙ rw (own.params, own.id, own.key) refl in
      ap (λ (m : List ℕ). reply_front share.params (reply_head share (ask_with begin [] []) (InTurn (Decided Granted))) ++ m) mask
      ∙ ap (λ (p : Params). reply_front p (record (grant_head begin share.member) { c = replicate p.n 0 }) ++ random_mask d leaf share.member) set

  second-grant : answering.grant share (ask_with (second_round d begin) tag (digest_of (second_round d begin) message))
      ≡ grant (second_round d begin) share.member (message_masks d begin message share.member)
  second-grant =
      let ask = ask_with (second_round d begin) tag (digest_of (second_round d begin) message) in
      let set : share.params ≡ key.params = own.params ∙ sym dealing.own.params in
      let digest = digest_of (second_round d begin) message in
      let masks : masks_joined share ask ≡ message_masks d begin message share.member =
      ap (λ (p : Params). masks_by p share.key share.id leaf digest) own.params ∙ (ap (λ (k : List ℕ). masks_by d.params k share.id leaf digest) own.key
      ∙ ap (λ (i : List ℕ). masks_by d.params (key_of d share.member) i leaf digest) own.id) in
      ap (λ (m : List ℕ). reply_front share.params (reply_head share ask (InTurn (Decided Granted))) ++ m) masks
      ∙ ap (λ (p : Params). reply_front p (grant_head (second_round d begin) share.member) ++ message_masks d begin message share.member) set

  pub trustee-granted : length message ≤ message_limit → leaf < 2 ^ d.plan.h → Contains (leaf_members d.plan leaf) share.member → (talk : Talk) (more : List ℕ) → talk.count ≡ 0
      → talk.taken ++ talk.left ≡ grants d begin message share tag ++ more → Gave d begin message share.member talk
  trustee-granted limit leaf_is of talk more quiet bytes =
      let two = grant (second_round d begin) share.member (message_masks d begin message share.member) in
      let second = answering.grant share (ask_with (second_round d begin) tag (digest_of (second_round d begin) message)) in
      let frames_are = ap (λ (x : List ℕ). (x ++ second) ++ more) first-grant ∙ ap (λ (y : List ℕ). (grant begin share.member (random_mask d leaf share.member) ++ y) ++ more) second-grant in
      granted d key message leaf share.member dealing limit leaf_is of talk more quiet (bytes ∙ frames_are)
