-- All is well in a run that was heard, for each dealing that its files and replies are of.
use Rattle.std.proofs.Common.{◌≡◌, ◌≤◌, ◌<◌, ◌^◌, ◌++◌, ◌||◌, ℕ, suc, false, List, [], ◌∷◌, length, Contains, Option, None, Some, is_some, inl, refl, sym, ap, subst, ◌∙◌, append-nil, arith}
use Rattle.coalition_map.specs.Coalitions.{coalition, leaf_members}
use Rattle.disk_trait.specs.Faults.{Rose}
use Rattle.lms_bytes.specs.MessageId.{message_id, message_id_bytes}
use Rattle.lms_verify.specs.UndividedKey.{UndividedKey, public_key_of}
use Rattle.reference_value.specs.Dealing.{Dealing}
use Rattle.session_core.specs.State.{State, started}
use Rattle.stream_io.specs.Net.{PortState}
use Rattle.stream_io.specs.Talk.{Talk}
use Rattle.tool_desk.specs.Files.{key_name, reference_name, tree_name}
use Rattle.tool_sign.specs.Members.{members_placed}
use Rattle.tool_base.specs.World.{StoreRun}
use Rattle.tool_sign.specs.Ports.{NetRun}
use Rattle.tool_sign.specs.Tasks.{message_limit}
use Rattle.tool_words.specs.Words.{SignWords}
use Rattle.laws_signing.specs.AllIsWell.{IsDealing}
use Rattle.laws_signing.specs.Answering.{AllGave, Gave, grants}
use Rattle.laws_signing.specs.Witness.{AllGaveJust, AreDealt, AreGranted, GaveJust, HeardRun, IsGranted, IsNewNet, IsSteadyStore, WellRun}
use Rattle.laws_signing.proofs.Grants.{trustee-granted}
use Rattle.laws_signing.proofs.Leaves.{lease-own}

first : (m : ℕ) (members : List ℕ) → Contains (m ∷ members) m
first m members = (0, omega arith, refl)

later : (m other : ℕ) (members : List ℕ) → Contains members m → Contains (other ∷ members) m
later m other members has = let within = has.1 in (suc has.0, omega (arith, within), has.2)

no-name : {A B : Type 0} (a : Option A) (b : Option B) → a ≡ None → b ≡ None → (is_some a || is_some b) ≡ false
no-name None None one other = refl
no-name None (Some y) one other = absurd (cc)
no-name (Some x) b one other = absurd (cc)

-- a count of nothing has not risen
none-rose : (before now : ℕ) → now ≡ 0 → Rose before now → ⊥
none-rose before now is rose = absurd (omega arith)

module _ (d : Dealing) (key : UndividedKey) (message : List ℕ) (leaf : ℕ) (dealing : IsDealing d key) (limit : length message ≤ message_limit) (leaf_is : leaf < 2 ^ d.plan.h) where
  abbrev begin : State
  begin = started (public_key_of key) d.plan leaf (message_id message)

  abbrev Own : ℕ → Type 0
  Own m = Contains (leaf_members d.plan leaf) m

  one-gave : (member : ℕ) (bytes : List ℕ) (talk : Talk) → IsGranted d begin message member bytes → Own member → GaveJust bytes talk → Gave d begin message member talk
  one-gave member bytes talk granted own just =
      let of : Own granted.share.member = subst Own (sym granted.number) own in
      let bytes_are : talk.taken ++ talk.left ≡ grants d begin message granted.share granted.tag ++ [] =
      just.bytes_are ∙ (granted.bytes_are ∙ sym (append-nil (grants d begin message granted.share granted.tag))) in
      subst (λ (m : ℕ). Gave d begin message m talk) granted.number
      (trustee-granted d key message leaf granted.share granted.tag dealing granted.own limit leaf_is of talk [] just.faultless bytes_are)

  all-gave : (members : List ℕ) (talks : List Talk) (replies : List (List ℕ)) → ((m : ℕ) → Contains members m → Own m) → AreGranted d begin message members replies → AllGaveJust talks replies
      → AllGave d begin message members talks
  all-gave [] [] replies own granted just = tt
  all-gave (member ∷ members) [] replies own granted just = tt
  all-gave [] (talk ∷ talks) replies own granted just = tt
  all-gave (member ∷ members) (talk ∷ talks) [] own granted just = absurd granted
  all-gave (member ∷ members) (talk ∷ talks) (bytes ∷ replies) own granted just = (
    one-gave member bytes talk granted.0 (own member (first member members)) (just 0 talk bytes refl refl),
    all-gave members talks replies (λ m has. own m (later m member members has)) granted.1 (λ k one reply at is. just (suc k) one reply at is),
  )

module _ (words : SignWords) (file : List ℕ → Option (List ℕ)) (replies : List (List ℕ)) (store : StoreRun) (net : NetRun) (steady : IsSteadyStore store.before)
    (has : (name : List ℕ) → store.before.file name ≡ file name) (in_store : (name : List ℕ) → store.before.out name ≡ None) (room : ℕ) (new : IsNewNet room net.before)
    (heard : HeardRun words replies store net) where
  answered : (d : Dealing) (key : UndividedKey) (message : List ℕ) (leaf : ℕ) → AreDealt words file replies d key message leaf → (port : PortState) → net.after.kept ≡ net.before.kept ++ (port ∷ [])
      → AllGave d (started (public_key_of key) d.plan leaf (message_id message)) message (members_placed words.places) port.talks
  answered d key message leaf dealt port kept =
      let own = lease-own d.plan dealt.entries dealt.number (message_id_bytes (message_id message)) (Some leaf) leaf dealt.leaf_is refl in
      let members : leaf_members d.plan leaf ≡ members_placed words.places = ap (coalition d.plan) own.own ∙ dealt.coalition.members_are in
      let one : net.after.kept ≡ port ∷ [] = kept ∙ ap (λ (l : List PortState). l ++ (port ∷ [])) new.kept in
      all-gave d key message leaf dealt.dealing dealt.limit own.leaf (members_placed words.places) port.talks replies
      (λ m is. subst (λ (l : List ℕ). Contains l m) (sym members) is) dealt.granted (heard.heard port one)

  pub well-run : WellRun words file replies store net
  well-run = record {
    end = heard.end;
    run = heard.run;
    well = λ d key message leaf dealt. record {
      dealing = dealt.dealing;
      fails = record {
        store_told = steady.told;
        net_told = new.is.told;
        store_holds = inl steady.steady;
        ports_hold = inl new.is.steady;
        links = λ rose. none-rose net.before.count net.after.count heard.faultless rose;
      };
      files = record {
        out_is_new = no-name (store.before.file words.out) (store.before.out words.out) (has words.out ∙ dealt.out_is_new) (in_store words.out);
        key = has (key_name words.prefix) ∙ dealt.key_is;
        tree = has (tree_name words.prefix) ∙ dealt.tree_is;
        reference_is = has (reference_name words.prefix) ∙ dealt.reference_is;
        message_is = has words.message ∙ dealt.message_is;
        limit = dealt.limit;
      };
      leased = record {
        number = dealt.number;
        coalition = dealt.coalition;
        file = dealt.table;
        file_is = has words.table ∙ dealt.table_is;
        entries = dealt.entries;
        table = dealt.has;
        leaf_is = dealt.leaf_is;
      };
      answered = λ port kept. answered d key message leaf dealt port kept;
    };
  }
