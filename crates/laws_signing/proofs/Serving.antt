-- Only a trustee that was served ends as served.
use Rattle.std.proofs.Common.{◌≡◌, ◌≤◌, ◌+◌, ◌*◌, ℕ, List, Option, Result, Ok, Err, refl, subst, arith}
use Rattle.lms_bytes.specs.declared.params.Params.{Params}
use Rattle.slot_file.specs.declared.header.Header.{Header}
use Rattle.tool_base.specs.Ending as ending
use Rattle.tool_base.specs.Ending.{Ending}
use Rattle.tool_base.specs.Grammars.{FailsGrammar, not_in_grammar, not_read}
use Rattle.tool_base.specs.Loads.{FailsToLoad}
use Rattle.tool_base.specs.Loads as loads
use Rattle.tool_base.specs.Reads.{FailsUpTo}
use Rattle.tool_base.specs.Reads as reads
use Rattle.tool_base.specs.World.{Outside, StoreRun, TimeState}
use Rattle.tool_trustee.specs.Trustee.{ServedTrustee, TrusteeEnds, TrusteeRun, store_of}
use Rattle.tool_trustee.specs.Trustee as trustee
use Rattle.tool_words.specs.Words.{TrusteeWords}
use Rattle.trustee_node.specs.Ports.{TakesAll}
use Rattle.laws_signing.specs.Witness.{GaveFirst, IsNewNet, IsSteadyStore, SteadyTrustee}

pub err≢ok : {T E : Type 0} {e : E} {x : T} → ◌≡◌ {A = Result T E} (Err e) (Ok x) → ⊥
err≢ok is = absurd (cc)

-- a link with room for the longest replies of any parameter set has room for those of one
pub takes-all : (params : Params) (room : ℕ) → 562233344 ≤ room → TakesAll params room
takes-all params room most =
    let masks : params.p * params.n ≤ 8480 = params.chains_length in
    let takes : 65536 * (99 + params.p * params.n) ≤ room = omega (arith, masks, most) in
    takes

module _ (connections frames : ℕ) where
  abbrev served : Ending
  served = ending.Served connections frames

  upto-unserved : (limit : ℕ) (store : StoreRun) (name : List ℕ) (end : Ending) → FailsUpTo limit store name end → end ≡ served → ⊥
  upto-unserved limit store name _ (reads.failed read) is = absurd (cc)
  upto-unserved limit store name _ (reads.too_long got read) is = absurd (cc)
  upto-unserved limit store name _ reads.no_memory is = absurd (cc)

  grammar-unserved : (fault : List ℕ → Option ℕ) (store : StoreRun) (name : List ℕ) (end : Ending) → FailsGrammar fault store name end → end ≡ served → ⊥
  grammar-unserved fault store name _ (not_read end fails) is = upto-unserved _ store name end fails is
  grammar-unserved fault store name _ (not_in_grammar bytes why read found) is = absurd (cc)

  load-unserved : (header : Header) (count : ℕ) (store : StoreRun) (name : List ℕ) (end : Ending) → FailsToLoad header count store name end → end ≡ served → ⊥
  load-unserved header count store name _ (loads.other_file fault reads) is = absurd (cc)
  load-unserved header count store name _ (loads.damaged reads) is = absurd (cc)
  load-unserved header count store name _ (loads.device fails) is = absurd (cc)
  load-unserved header count store name _ loads.no_memory is = absurd (cc)

  module _ (words : TrusteeWords) (before after : Outside) where
    ends-served : (end : Ending) (touched : List (List ℕ)) → TrusteeEnds words before after end touched → end ≡ served → ServedTrustee words before after end
    ends-served _ _ (trustee.no_memory touched heard stays) is = absurd (cc)
    ends-served _ _ (trustee.no_share end fails heard) is = absurd (grammar-unserved _ (store_of before after) words.share end fails is)
    ends-served _ _ (trustee.no_journal share read fails heard) is = absurd (cc)
    ends-served _ _ (trustee.journal_not_loaded share end read fails stays heard) is = absurd (load-unserved _ _ (store_of before after) words.journal end fails is)
    ends-served _ _ (trustee.no_book share entries name of has heard stays) is = absurd (cc)
    ends-served _ _ (trustee.book_not_loaded share entries name end of named fails heard stays still) is = absurd (load-unserved _ _ (store_of before after) name end fails is)
    ends-served _ _ (trustee.no_ports share entries ids touched of booked heard rose absent stays) is = absurd (cc)
    ends-served _ _ (trustee.served end books run stays) is = run

    pub run-served : (end : Ending) → TrusteeRun words before after end → end ≡ served → ServedTrustee words before after end
    run-served end run is = ends-served end run.touched run.ends is

    -- the same for clocks that no call changed
    pub steady-served : (asks : List ℕ) (end : Ending) → TrusteeRun words before after end → end ≡ served → IsSteadyStore before.store → IsNewNet 562233344 before.net
        → GaveFirst after.net asks → SteadyTrustee words before.store.file asks before (record { store = after.store; net = after.net; time = before.time })
    steady-served asks end run is store net gave =
        let now : ServedTrustee words before (record { store = after.store; net = after.net; time = before.time }) end =
        subst (λ (t : TimeState). ServedTrustee words before (record { store = after.store; net = after.net; time = t }) end) run.time (run-served end run is) in
        record {
          end = end;
          run = now;
          store = store;
          files = λ name. refl;
          net = net.is;
          takes = takes-all now.share.params before.net.room net.takes;
          unused = net.kept;
          gave = gave;
        }

-- the same for files that the store is made of
pub over-files : (words : TrusteeWords) (asks : List ℕ) (before after : Outside) (file : List ℕ → Option (List ℕ)) → ((name : List ℕ) → before.store.file name ≡ file name)
    → SteadyTrustee words before.store.file asks before after → SteadyTrustee words file asks before after
over-files words asks before after file is made = record {
  end = made.end;
  run = made.run;
  store = made.store;
  files = is;
  net = made.net;
  takes = made.takes;
  unused = made.unused;
  gave = made.gave;
}
