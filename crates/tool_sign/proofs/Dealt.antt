-- Sessions over what a dealer made: what they sign.
use Rattle.std.proofs.Common.{◌≡◌, ℕ, Bool, true, false, List, Option, Some, Result, Ok, if◌then◌else◌, refl, sym, ap, ◌∙◌}
use Rattle.aggregator_session.specs.Desks.{DeskState}
use Rattle.aggregator_session.specs.Hearing.{kept_in}
use Rattle.aggregator_session.specs.Runs.{CellsRead, HasRun, SameSession, Second, SecondFrames, SignRun, second_all, second_answered, second_frames, second_lost, second_refused, second_unread, signed}
use Rattle.aggregator_session.specs.Runs as runs
use Rattle.aggregator_session.specs.declared.fault.SignFault.{SignFault}
use Rattle.lms_bytes.specs.declared.public_key.PublicKey.{PublicKey}
use Rattle.lms_verify.specs.UndividedKey.{UndividedKey, rfc_signature}
use Rattle.reference_value.specs.Dealing.{Dealing, leaf_randomizer}
use Rattle.round_frames.specs.Replies.{Reply}
use Rattle.session_core.specs.Dealing.{FirstMasks, IsAnswered, IsOfDealing}
use Rattle.session_core.specs.Replies.{answers, with_delivery}
use Rattle.session_core.specs.Seats.{is_filled, seat_of, with_reply}
use Rattle.session_core.specs.State.{State, seats_of, turned, with_seats}
use Rattle.session_core.specs.Verdicts.{digest_of}
use Rattle.stream_io.specs.Net.{PortState}
use Rattle.stream_io.specs.Talk.{Talk}
use Rattle.tool_sign.specs.Dealt.{IsDealt}

-- a session with its randomizer and its replies of round one; all else in it is what round two changes
abbrev apart : State → State → State
apart s new = record s { second = new.second }

same-none : (s : State) → s ≡ apart s s
same-none s = refl

same-then : (a b c : State) → b ≡ apart a b → c ≡ apart b c → c ≡ apart a c
same-then a b c one two = two ∙ ap (λ (x : State). record x { second = c.second }) one

which : (s : State) (a f : Bool) (w : State) → w ≡ apart s w → (if a then (if f then s else w) else s) ≡ apart s (if a then (if f then s else w) else s)
which s true true w is = refl
which s true false w is = is
which s false f w is = refl

-- a reply of round two changes nothing but what is kept for round two
delivered : (s : State) (c : List ℕ) (reply : Reply) → s.c ≡ Some c → with_delivery s reply.0 reply.1 ≡ apart s (with_delivery s reply.0 reply.1)
delivered s c reply some =
    let seats = with_reply (seats_of s) reply.0.member reply.0.code reply.1 in
    let with : with_seats s seats ≡ record s { second = seats } = rw some refl in
    which s (answers s reply.0 reply.1) (is_filled (seat_of (seats_of s) reply.0.member)) (with_seats s seats) (with ∙ ap (λ (x : State). apart s x) (sym with))

second-apart : (frames : SecondFrames) (s : State) (members : List ℕ) (olds news : List Talk) (last : State) (end : Result (Unit {0}) SignFault)
    → Second frames s members olds news last end → (c : List ℕ) → s.c ≡ Some c → last ≡ apart s last
second-apart frames s members olds news last end (second_all x) c some = refl
second-apart frames s members olds news last end (second_unread x member rest o) c some = refl
second-apart frames s members olds news last end (second_lost x member rest ask old new o f framed asks) c some = refl
second-apart frames s members olds news last end (second_refused x member rest ask old new o reply framed asks refused) c some = delivered x c reply some
second-apart frames s members olds news last end (second_answered x y member rest ask old new o n reply e framed asks granted next) c some =
    let one = delivered x c reply some in
    let still : (kept_in x (Ok reply)).c ≡ Some c = ap (λ (z : State). z.c) one ∙ some in
    same-then x (kept_in x (Ok reply)) y one (second-apart frames (kept_in x (Ok reply)) rest o n y e next c still)

of-dealing : (d : Dealing) (key : UndividedKey) (s other : State) → other.key ≡ s.key → other.plan ≡ s.plan → IsOfDealing d key s → IsOfDealing d key other
of-dealing d key s other same plan of = record {
  plan_is = of.plan_is;
  plan = plan ∙ of.plan;
  params = ap (λ (k : PublicKey). k.params) same ∙ of.params;
  id = ap (λ (k : PublicKey). k.id) same ∙ of.id;
  root_is = ap (λ (k : PublicKey). k.root) same ∙ of.root_is;
  key_params = of.key_params;
  key_id = of.key_id;
  key_seed = of.key_seed;
}

first-masks : (d : Dealing) (s other : State) → other.first ≡ s.first → other.leaf ≡ s.leaf → FirstMasks d s → FirstMasks d other
first-masks d s other first leaf masks = rw (first, leaf) masks

abbrev some_of : List ℕ → Option (List ℕ)
some_of c = Some c

sign-dealt : (d : Dealing) (key : UndividedKey) (desk : DeskState) (reads : CellsRead) (message : List ℕ) (port : PortState) (s : State) (talks : List Talk) (last : State)
    (result : Result (List ℕ) SignFault) → SignRun desk reads message port s talks last result → SameSession s last → IsDealt d key reads desk.tree message s last
    → (bytes : List ℕ) → result ≡ Ok bytes → bytes ≡ rfc_signature key s.leaf (leaf_randomizer d s.leaf) message
sign-dealt d key desk reads message port s talks last _ runs.no_memory same dealt bytes is = absurd (cc)
sign-dealt d key desk reads message port s talks last _ (runs.lost_in_one t kept fault run) same dealt bytes is = absurd (cc)
sign-dealt d key desk reads message port s talks last _ (runs.judged_in_one t kept fault run stops) same dealt bytes is = absurd (cc)
sign-dealt d key desk reads message port s talks last _ (runs.lost_in_two mids t turn kept fault opens run) same dealt bytes is = absurd (cc)
sign-dealt d key desk reads message port s talks last _ (runs.judged_in_two mids t turn kept fault opens run fails) same dealt bytes is = absurd (cc)
sign-dealt d key desk reads message port s talks last _ (signed mids t turn kept got opens run signs) same dealt bytes is =
    let one : got ≡ bytes = cc in
    let c = opens.turns.c in
    let some : turn.c ≡ Some c = ap (λ (x : State). x.c) opens.turns.same in
    let whole : kept ≡ apart turn kept = second-apart (second_frames reads turn message) turn _ mids t kept (Ok tt) run c some in
    let joined_is : kept ≡ apart (turned opens.kept c) kept = whole ∙ ap (λ (x : State). record x { second = kept.second }) opens.turns.same in
    let first : opens.kept.first ≡ kept.first = sym (ap (λ (x : State). x.first) joined_is) in
    let leaf : opens.kept.leaf ≡ kept.leaf = sym (ap (λ (x : State). x.leaf) joined_is) in
    let of = of-dealing d key s opens.kept (sym (ap (λ (x : State). x.key) joined_is) ∙ same.key) (sym (ap (λ (x : State). x.plan) joined_is) ∙ same.plan) dealt.dealing in
    let joined = opens.dealt dealt.told d key dealt.leaves_are of (first-masks d kept opens.kept first leaf dealt.first) in
    let c_is : kept.c ≡ Some (leaf_randomizer d kept.leaf) = ap (λ (x : State). x.c) whole ∙ ap (λ (x : State). x.c) joined ∙ ap (λ (q : ℕ). some_of (leaf_randomizer d q)) leaf in
    let answered : IsAnswered d key kept (digest_of kept message) reads.leaves desk.tree = record {
      dealing = of-dealing d key s kept same.key same.plan dealt.dealing;
      leaves_are = dealt.leaves_are;
      tree_is = dealt.tree_is;
      c = c_is;
      masks = dealt.second;
    } in
    sym one ∙ signs.dealt dealt.told d key answered ∙ ap (λ (q : ℕ). rfc_signature key q (leaf_randomizer d q) message) same.leaf

pub dealt-signature : (d : Dealing) (key : UndividedKey) (desk : DeskState) (reads : CellsRead) (message : List ℕ) (before now : PortState) (s last : State) (bytes : List ℕ)
    → HasRun desk reads message before now s last (Ok bytes) → IsDealt d key reads desk.tree message s last → bytes ≡ rfc_signature key s.leaf (leaf_randomizer d s.leaf) message
dealt-signature d key desk reads message before now s last bytes has dealt =
    sign-dealt d key desk reads message before s has.talks last (Ok bytes) has.run has.same dealt bytes refl
