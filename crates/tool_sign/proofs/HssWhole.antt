-- The whole command, from what its steps say.
use Rattle.std.proofs.Common.{◌≡◌, ◌≢◌, ◌++◌, ℕ, List, [], ◌∷◌, All, Ok, Err, refl, sym, subst}
use Rattle.std.proofs.lemmas.List.Elements.{All-cons, All-head, All-nil, All-tail}
use Rattle.hss_levels.proofs.OneLevel.{two-levels}
use Rattle.hss_levels.specs.Levels.{Accepts}
use Rattle.hss_levels.specs.TwoLevels.{two_level_key, two_level_signature}
use Rattle.aggregator_session.specs.Signing.{Signature}
use Rattle.lms_bytes.specs.PublicKey.{public_bytes}
use Rattle.lms_bytes.specs.declared.public_key.PublicKey.{PublicKey}
use Rattle.stream_io.specs.Net.{NetState}
use Rattle.stream_io.specs.Store.{StoreState}
use Rattle.stream_io.specs.declared.store.Readers.TheVariants.{Anyone}
use Rattle.tool_base.proofs.Nets.{net_none}
use Rattle.tool_base.specs.Ending.{Ending}
use Rattle.tool_base.specs.Outputs.{AreDifferent, IsLeft, IsNew, Output}
use Rattle.tool_base.specs.Touched.{Keeps}
use Rattle.tool_base.specs.World.{IsBack, IsUnchanged, IsNetBack, from_to}
use Rattle.tool_base.proofs.Outs.{keeps_unchanged}
use Rattle.tool_sign.proofs.Written.{IsForAnyone, are_written, first_ones, keeps_written, new_since, others_leave, others_read, read_before, stops_later}
use Rattle.tool_sign.specs.HssSign.{HssSignEnds, HssSigningRun, LevelsEnd, SignsLower, names_of, session_words, two_levels}
use Rattle.tool_sign.specs.HssSign as hss
use Rattle.tool_sign.specs.Lower.{IsReady, Lower, output_names}
use Rattle.tool_sign.proofs.Whole.{table_later, task_later}
use Rattle.tool_sign.proofs.Writes.{as-signed}
use Rattle.tool_sign.specs.Ports.{NetRun, over_net}
use Rattle.tool_sign.specs.Sessions.{SessionEnds}
use Rattle.tool_sign.specs.Signs as signs
use Rattle.tool_sign.specs.Tasks.{message_of}
use Rattle.tool_words.specs.Words.{HssSignWords}

-- nothing was begun
pub unbegun : (words : HssSignWords) (a b : StoreState) (net : NetState) (end : Ending) → IsUnchanged a b → HssSignEnds words (from_to a b) (over_net net net) end []
    → HssSigningRun words (from_to a b) (over_net net net) end
unbegun words a b net end unchanged ends = record { touched = []; ends = ends; keeps = keeps_unchanged [] a b unchanged; ports = net_none net }

pub two_differ : (a b : List ℕ) → a ≢ b → AreDifferent (a ∷ b ∷ [])
two_differ a b other = (All-cons (λ name. a ≢ name) b [] other (All-nil (λ name. a ≢ name)), (All-nil (λ name. b ≢ name), tt))

-- the first of two outputs, or none: not both if another was to be written
differ_first : (one two : Output) (written : List Output) (output : Output) (rest : List Output) → one ∷ two ∷ [] ≡ written ++ (output ∷ rest) → AreDifferent (names_of written)
differ_first one two [] output rest is = tt
differ_first one two (a ∷ []) output rest is = (All-nil (λ (name : List ℕ). a.name ≢ name), tt)
differ_first one two (a ∷ b ∷ []) output rest is = absurd (cc)
differ_first one two (a ∷ b ∷ c ∷ more) output rest is = absurd (cc)

module _ (words : HssSignWords) (a d : StoreState) (net : NetRun) (lower : Lower) (top : PublicKey) (signature : Signature) (touched : List (List ℕ)) where
  -- the upper key's signature is accepted for the lower key
  pub top_accepts : SignsLower words (from_to a d) net lower top signature touched → Accepts top (public_bytes lower.key) signature.bytes
  top_accepts by =
      let both = as-signed by.signing words.table a d net (Ok signature) touched signature by.ends refl in
      let accepted = both.0.over.accepted in
      (signature.leaf, rw (← by.key_is, ← by.task.goes.message_is) accepted)

  module _ (e : StoreState) (keeps : Keeps touched a d) (ports : IsNetBack net.before net.after) (back : IsBack d e) (ready : IsReady words (from_to a e) lower)
      (by : SignsLower words (from_to a d) net lower top signature touched) where
    abbrev outputs : List Output
    outputs = two_levels words top signature.bytes lower

    abbrev key_output : Output
    key_output = record { name = words.key_out; bytes = two_level_key top; readers = Anyone }

    abbrev signature_output : Output
    signature_output = record { name = words.signature_out; bytes = two_level_signature signature.bytes lower.key lower.signature; readers = Anyone }

    abbrev IsNewOutput : Output → Type 0
    IsNewOutput output = IsNew (from_to a e) output.name

    all_new : All IsNewOutput outputs
    all_new =
        let key : IsNew (from_to a e) words.key_out = All-head (IsNew (from_to a e)) words.key_out (words.signature_out ∷ []) ready.new in
        let rest = All-tail (IsNew (from_to a e)) words.key_out (words.signature_out ∷ []) ready.new in
        let sig : IsNew (from_to a e) words.signature_out = All-head (IsNew (from_to a e)) words.signature_out [] rest in
        All-cons IsNewOutput key_output (signature_output ∷ []) key (All-cons IsNewOutput signature_output [] sig (All-nil IsNewOutput))

    all_anyone : All IsForAnyone outputs
    all_anyone = All-cons IsForAnyone key_output (signature_output ∷ []) refl (All-cons IsForAnyone signature_output [] refl (All-nil IsForAnyone))

    module _ (written : List Output) (left : IsLeft (from_to d e) written) (new : All IsNewOutput written) where
      -- the session as it is told once these files were written
      signs_later : SignsLower words (from_to a e) net lower top signature touched
      signs_later =
          let both = as-signed by.signing words.table a d net (Ok signature) touched signature by.ends refl in
          let other = read_before a d e touched keeps written back left words.table both.0.table_is.file both.0.table_is.is_read new in
          let table = table_later by.signing words.table a d e
          (λ told. others_read a d e touched keeps written back left told words.table (other told))
          (λ told image. others_leave a d e touched keeps written back left told words.table image (other told))
          back.onward net (Ok signature) both.0 in
          record {
            signing = by.signing;
            task = task_later (session_words words) a d e back.onward (message_of (public_bytes lower.key)) (message_of (public_bytes lower.key)) (λ message is. is) by.signing by.task;
            ends = subst (λ (names : List (List ℕ)). signs.TableEnds by.signing words.table (from_to a e) net (Ok signature) names) (sym both.1) (signs.signed (Ok signature) table);
            key_is = by.key_is;
          }

    pub run_signed : (end : Ending) → words.key_out ≢ words.signature_out → LevelsEnd (from_to d e) outputs signature.leaf end → HssSigningRun words (from_to a e) net end
    run_signed _ differ (hss.written left) = record {
      touched = output_names words ++ touched;
      ends = hss.signed lower top signature touched ready (signs_later outputs left all_new)
          (are_written a d e touched keeps outputs back left (two_differ words.key_out words.signature_out differ) all_anyone)
          (two-levels top signature.bytes lower.key lower.signature lower.message (top_accepts by) ready.accepted);
      keeps = keeps_written a d e touched keeps outputs back left;
      ports = ports;
    }
    run_signed _ differ (hss.no_memory left) = record {
      touched = touched;
      ends = hss.no_memory_to_join lower top signature touched ready (signs_later [] left (All-nil IsNewOutput));
      keeps = keeps_written a d e touched keeps [] back left;
      ports = ports;
    }
    run_signed _ differ (hss.part_written some end left stops) = record {
      touched = names_of some ++ touched;
      ends = hss.stopped lower top signature touched some end ready
          (signs_later some left (first_ones IsNewOutput some (stops.output ∷ stops.rest) (subst (All IsNewOutput) stops.is all_new)))
          (stops_later a d e touched keeps some back left outputs end stops)
          (are_written a d e touched keeps some back left (differ_first _ _ some stops.output stops.rest stops.is)
          (first_ones IsForAnyone some (stops.output ∷ stops.rest) (subst (All IsForAnyone) stops.is all_anyone)));
      keeps = keeps_written a d e touched keeps some back left;
      ports = ports;
    }

-- after a session that gave a signature, the outputs are still new
pub new_behind : (words : HssSignWords) (a d : StoreState) (net : NetRun) (lower : Lower) (top : PublicKey) (signature : Signature) (touched : List (List ℕ)) → Keeps touched a d
    → SignsLower words (from_to a d) net lower top signature touched → All (IsNew (from_to a d)) (output_names words) → All (IsNew (from_to d d)) (output_names words)
new_behind words a d net lower top signature touched keeps by new =
    let both = as-signed by.signing words.table a d net (Ok signature) touched signature by.ends refl in
    new_since a d touched keeps words.table both.1 both.0.table_is.file both.0.table_is.is_read (output_names words) new

-- the session gave no signature
pub run_unsigned : (words : HssSignWords) (a d : StoreState) (net : NetRun) (lower : Lower) (touched : List (List ℕ)) (end : Ending) → Keeps touched a d → IsNetBack net.before net.after
    → IsReady words (from_to a d) lower → SessionEnds (session_words words) (from_to a d) (message_of (public_bytes lower.key)) net (Err end) touched → HssSigningRun words (from_to a d) net end
run_unsigned words a d net lower touched end keeps ports ready ends = record { touched = touched; ends = hss.not_signed lower end touched ready ends; keeps = keeps; ports = ports }
