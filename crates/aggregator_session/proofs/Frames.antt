-- The frames of asks.
use Rattle.std.proofs.Common.{◌≡◌, ◌+◌, ◌≤◌, ℕ, Bool, true, false, List, [], length, IsTrue, Option, None, Some, Result, refl, sym, ap, ◌∙◌, arith}
use Rattle.aggregator_session.specs.Runs.{AskedAgain, IsSecondFrame, SecondFrames, asked, first_frame, not_read, second_frame}
use Rattle.aggregator_session.specs.declared.fault.SignFault.{SignFault}
use Rattle.lms_bytes.specs.declared.ask.Ask.{Ask}
use Rattle.lms_bytes.specs.declared.ask.Second.{Second}
use Rattle.lms_bytes.specs.declared.message.MessageId.{MessageId}
use Rattle.lms_bytes.specs.declared.params.Params.{Params}
use Rattle.lms_bytes.specs.declared.public_key.PublicKey.{PublicKey}
use Rattle.round_frames.specs.Asks.{ask_frame, ask_length}
use Rattle.reference_value.specs.Places.{tag_in}
use Rattle.session_core.specs.Asks.{IsAskOf, ask_with}
use Rattle.session_core.specs.State.{SameAsk, State}
use Rattle.session_core.specs.Verdicts.{digest_of}
use Rattle.stream_io.specs.Talk.{Talk}

-- the ask of a session with this randomizer or none
abbrev made : State → Option (List ℕ) → List ℕ → List ℕ → Ask
made s c tag digest = ask_with (record s { c = c }) tag digest

pub first-frame : (s : State) (digest message : List ℕ) (ask : Ask) → s.c ≡ None → IsAskOf s digest ask → ask_frame ask message ≡ first_frame s
unfolding first_frame
first-frame s digest message ask none a =
    ap (λ (x : Ask). ask_frame x message) a.same ∙ ap (λ (c : Option (List ℕ)). ask_frame (made s c a.tag digest) message) none

-- the ask of round one has no digest
pub any-digest : (s : State) (digest : List ℕ) (ask : Ask) → s.c ≡ None → IsAskOf s digest ask → IsAskOf s [] ask
any-digest s digest ask none a = record {
  tag = a.tag;
  same = a.same ∙ (ap (λ (c : Option (List ℕ)). made s c a.tag digest) none ∙ sym (ap (λ (c : Option (List ℕ)). made s c a.tag []) none));
}

-- how long the ask of round one is
pub first-length : (params : Params) (s : State) (digest message : List ℕ) (ask : Ask) → s.c ≡ None → IsAskOf s digest ask → ask_length params ask message ≡ 64
first-length params s digest message ask none a =
    ap (λ (x : Ask). ask_length params x message) a.same ∙ ap (λ (c : Option (List ℕ)). ask_length params (made s c a.tag digest) message) none

length-by : (params : Params) (ask : Ask) (message : List ℕ) (second : Option Second) → params.n ≤ 32 → ask.second ≡ second → ask_length params ask message ≤ 92 + length message
length-by params ask message None small is = rw is (omega arith)
length-by params ask message (Some second) small is = rw is (omega (arith, small))

-- no ask is longer than this
pub longest : (params : Params) (ask : Ask) (message : List ℕ) → ask_length params ask message ≤ 92 + length message
longest params ask message = length-by params ask message ask.second (let h = params.hash_length in grind (arith, h)) refl

abbrev pub frames-of : Bool → List ℕ → State → List ℕ → SecondFrames
frames-of told leaves s message = record { told = told; leaves = leaves; session = s; message = message }

pub second-frame : (told : Bool) (leaves : List ℕ) (s : State) (digest message : List ℕ) (member : ℕ) (ask : Ask) → digest ≡ digest_of s message → IsAskOf s digest ask
    → (IsTrue told → ask ≡ ask_with s (tag_in s.key.params s.plan leaves s.leaf member) digest) → IsSecondFrame (frames-of told leaves s message) member (ask_frame ask message)
unfolding second_frame
second-frame true leaves s digest message member ask is a tag = record {
  tag = tag_in s.key.params s.plan leaves s.leaf member;
  is = ap (λ (x : Ask). ask_frame x message) (tag refl) ∙ ap (λ (d : List ℕ). ask_frame (ask_with s (tag_in s.key.params s.plan leaves s.leaf member) d) message) is;
  tag_is = λ _. refl;
}
second-frame false leaves s digest message member ask is a tag = record {
  tag = a.tag;
  is = ap (λ (x : Ask). ask_frame x message) a.same ∙ ap (λ (d : List ℕ). ask_frame (ask_with s a.tag d) message) is;
  tag_is = λ no. absurd (cc);
}

same-tag : (told : Bool) (leaves : List ℕ) (old new : State) (tag : List ℕ) (member : ℕ) → SameAsk old new → (IsTrue told → tag ≡ tag_in new.key.params new.plan leaves new.leaf member)
    → IsTrue told → tag ≡ tag_in old.key.params old.plan leaves old.leaf member
same-tag told leaves old new tag member same is t = is t ∙ rw (same.key, same.plan, same.leaf) refl

same-frame : (old new : State) (message tag : List ℕ) → SameAsk old new → second_frame new message tag ≡ second_frame old message tag
unfolding second_frame
same-frame old new message tag same =
    let frame = λ (key : PublicKey) (leaf : ℕ) (id : MessageId) (c : Option (List ℕ)). second_frame (record old { key = key; leaf = leaf; message = id; c = c }) message tag in
    ap (λ (key : PublicKey). frame key new.leaf new.message new.c) same.key
    ∙ (ap (λ (leaf : ℕ). frame old.key leaf new.message new.c) same.leaf
    ∙ (ap (λ (id : MessageId). frame old.key old.leaf id new.c) same.message
    ∙ ap (λ (c : Option (List ℕ)). frame old.key old.leaf old.message c) same.c))

-- no reply changes what the members are asked
pub framed-same : (frames : SecondFrames) (new : State) (member : ℕ) (ask : List ℕ) → SameAsk frames.session new → IsSecondFrame (record frames { session = new }) member ask
    → IsSecondFrame frames member ask
framed-same frames new member ask same f = record {
  tag = f.tag;
  is = f.is ∙ same-frame frames.session new frames.message f.tag same;
  tag_is = same-tag frames.told frames.leaves frames.session new f.tag member same f.tag_is;
}

pub framed-as : (t u : Bool) (ls ms : List ℕ) (s : State) (message : List ℕ) (member : ℕ) (ask : List ℕ) → t ≡ u → (IsTrue u → ls ≡ ms) → IsSecondFrame (frames-of t ls s message) member ask → IsSecondFrame (frames-of u ms s message) member ask
framed-as t u ls ms s message member ask is leaves f = record {
  tag = f.tag;
  is = f.is;
  tag_is = λ told. f.tag_is (is ∙ told) ∙ ap (λ (l : List ℕ). tag_in s.key.params s.plan l s.leaf member) (leaves told);
}

-- the same of a reference that tells the same
module _ {old new : State} {message : List ℕ} {member : ℕ} {before now : Talk} where
  pub asked-as : (t u : Bool) (ls ms : List ℕ) (result : Result Bool SignFault) → t ≡ u → (IsTrue u → ls ≡ ms) → AskedAgain (frames-of t ls old message) new member before now result → AskedAgain (frames-of u ms old message) new member before now result
  asked-as t u ls ms result is leaves (not_read state talk) = not_read state talk
  asked-as t u ls ms result is leaves (asked ask r framed h) = asked ask r (framed-as t u ls ms old message member ask is leaves framed) h
