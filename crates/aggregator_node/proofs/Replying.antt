-- How long replies are, and what room they leave.
use Rattle.std.proofs.Common.{◌≡◌, ◌≢◌, ◌⊎◌, inl, inr, ◌+◌, ◌*◌, ◌^◌, ◌<◌, ◌≤◌, ◌++◌, ℕ, List, length, Option, Some, Result, Ok, Err, IfOk, IsOk, refl, sym, ap, ◌∙◌, arith, length-append}
use Rattle.std.proofs.Math.Nat.{add-mul, mul-le-mul_right}
use Rattle.aggregator_node.proofs.Answering.{Answered}
use Rattle.aggregator_node.specs.Clients.{IsUnread, StepEnds, end_after, longest_reply, memory_wanted, nothing_written, reply_frame}
use Rattle.aggregator_node.specs.Failures.{failure_of}
use Rattle.aggregator_session.specs.Signing.{Signature, signature_in}
use Rattle.aggregator_session.specs.declared.fault.SignFault.{SignFault}
use Rattle.aggregator_session.specs.declared.fault.SignFault.TheVariants as sign
use Rattle.aggregator_session.specs.declared.sign.Signed.{Signed}
use Rattle.lms_bytes.specs.Bytes.{u32str}
use Rattle.lms_bytes.specs.Signature.{HasLayout, signature_length}
use Rattle.lms_bytes.specs.declared.params.Params.{Params}
use Rattle.lms_bytes.specs.declared.public_key.PublicKey.{PublicKey}
use Rattle.lms_verify.specs.Accepts.{AcceptsAt}
use Rattle.round_frames.specs.Frames.{header_bytes}
use Rattle.round_frames.specs.Results.{failure_frame}
use Rattle.round_frames.specs.declared.fault.FrameFault.{FrameFault}
use Rattle.round_frames.specs.declared.fault.FrameFault.TheVariants as frame
use Rattle.session_core.specs.declared.faults.SessionFault.TheVariants as session
use Rattle.stream_io.specs.Talk.{Talk}
use Rattle.stream_io.specs.declared.failed.Failed.{Failed}
use Rattle.node_workers.specs.Ends.{end_by}
use Rattle.node_workers.specs.declared.served.ServedEnd.{ServedEnd}
use Rattle.node_workers.specs.declared.served.ServedEnd.TheVariants.{Frame, Full, Worn, WriteFailed}

one-less : (n p : ℕ) → n * (p + 1) ≡ n * p + n
one-less n p = grind arith

signature-size : (params : Params) (bytes : List ℕ) (q : ℕ) (c y path : List ℕ) → HasLayout params bytes q c y path → length bytes ≡ signature_length params
signature-size params bytes q c y path has =
    let head = u32str q ++ u32str params.ots in
    let eight : length head ≡ 8 = refl in
    let four : length (u32str params.lms) ≡ 4 = refl in
    let one = length-append head c in
    let two = length-append (head ++ c) y in
    let three = length-append ((head ++ c) ++ y) (u32str params.lms) in
    let all = length-append (((head ++ c) ++ y) ++ u32str params.lms) path in
    let product = one-less params.n params.p in
    let c_length = has.c_length in
    let y_length = has.y_length in
    let path_length = has.path_length in
    ap length has.parts ∙ omega (arith, eight, four, one, two, three, all, product, c_length, y_length, path_length)

pub failure-short : (params : Params) (fault : SignFault) → length (failure_frame (failure_of fault)) ≤ longest_reply params
failure-short params fault = let size : length (failure_frame (failure_of fault)) ≡ 15 = refl in omega (arith, size)

-- no reply is longer than that of a signature
pub frame-length : (key : PublicKey) (message : List ℕ) (result : Result Signed SignFault) → IfOk result (λ signed. AcceptsAt key message signed.bytes.items signed.leaf)
    → length (reply_frame (signature_in result)) ≤ longest_reply key.params
frame-length key message (Ok signed) accepted =
    let size = signature-size key.params signed.bytes.items signed.leaf accepted.c accepted.y accepted.path accepted.layout in
    let eight : length (header_bytes 7 (length signed.bytes.items)) ≡ 8 = refl in
    let all = length-append (header_bytes 7 (length signed.bytes.items)) signed.bytes.items in
    omega (arith, size, eight, all)
frame-length key message (Err fault) accepted = failure-short key.params fault

signature-small : (n p h : ℕ) → (n ≡ 24) ⊎ (n ≡ 32) → p * n ≤ 8480 → h * n ≤ 800 → 12 + n * (p + 1) + n * h < 2 ^ 32
signature-small n p h is ends path =
    let most : n ≤ 32 = elim is [ inl few ↦ omega (arith, few) | inr many ↦ omega (arith, many) ] in
    let all : n * (p + 1) ≡ p * n + n = grind arith in
    let same : n * h ≡ h * n = grind arith in
    omega (arith, most, all, same, ends, path)

-- the length of a signature fits its field
pub signature-fits : (key : PublicKey) (message : List ℕ) (result : Result Signed SignFault) → IfOk result (λ signed. AcceptsAt key message signed.bytes.items signed.leaf)
    → IfOk result (λ signed. length signed.bytes.items < 2 ^ 32)
signature-fits key message (Ok signed) accepted =
    let params = key.params in
    let size = signature-size params signed.bytes.items signed.leaf accepted.c accepted.y accepted.path accepted.layout in
    let small = signature-small params.n params.p params.h params.hash_length params.chains_length params.path_length in
    omega (arith, size, small)
signature-fits key message (Err fault) accepted = tt

-- a request that was answered ends the connection only because of a worn pass or because memory ran out
end-other : (outcome : Result Signature SignFault) (end : ServedEnd) → end_after outcome ≡ Some end → end ≢ Worn → end ≢ Frame frame.NoMemory → ⊥
end-other (Ok signature) end is worn memory = absurd (cc)
end-other (Err (sign.TooLong got)) end is worn memory = absurd (cc)
end-other (Err sign.Worn) end is worn memory = let same : end ≡ Worn = cc in worn same
end-other (Err (sign.Table fault)) end is worn memory = absurd (cc)
end-other (Err (sign.Lost member round why)) end is worn memory = absurd (cc)
end-other (Err (sign.Stray member round)) end is worn memory = absurd (cc)
end-other (Err (sign.Session (session.Missing member round))) end is worn memory = absurd (cc)
end-other (Err (sign.Session (session.SpentLeaf leaf member kept))) end is worn memory = absurd (cc)
end-other (Err (sign.Session (session.WrongCheck leaf member))) end is worn memory = absurd (cc)
end-other (Err (sign.Session (session.WrongRoot leaf got want))) end is worn memory = absurd (cc)
end-other (Err (sign.Session (session.MemberRefused member code))) end is worn memory = absurd (cc)
end-other (Err (sign.Session session.Reference)) end is worn memory = absurd (cc)
end-other (Err (sign.Session session.NoMemory)) end is worn memory = let same : end ≡ Frame frame.NoMemory = cc in memory same
end-other (Err sign.NoMemory) end is worn memory = let same : end ≡ Frame frame.NoMemory = cc in memory same

-- a request that was read, or for which there was no memory, by whether its answer was written
pub step-answered : {steady fits : Type 0} (written : Result (Unit {0}) Failed) (outcome : Result Signature SignFault) (replies : ℕ) (ended : Option ServedEnd) → Answered written outcome replies ended
    → (steady → fits → IsOk written) → StepEnds steady fits replies ended
step-answered (Ok done) outcome replies ended is ok = record {
  most = (let one = is.0 in omega (arith, one));
  one = λ none. is.0;
  not_full = λ full. end-other outcome Full (sym is.1 ∙ full) (λ e. absurd (cc)) (λ e. absurd (cc));
  reads = λ steady failed. end-other outcome (Frame frame.ReadFault) (sym is.1 ∙ failed) (λ e. absurd (cc)) (λ e. absurd (cc));
  writes = λ steady fits failed. end-other outcome WriteFailed (sym is.1 ∙ failed) (λ e. absurd (cc)) (λ e. absurd (cc));
}
step-answered (Err fault) outcome replies ended is ok = record {
  most = (let none = is.0 in omega (arith, none));
  one = λ none. let failed = is.1 in absurd (cc);
  not_full = λ full. let failed = is.1 in absurd (cc);
  reads = λ steady read. let failed = is.1 in absurd (cc);
  writes = λ steady fits failed. let sure = ok steady fits in absurd (cc);
}

end-full : (fault : FrameFault) → end_by fault ≡ Full → ⊥
end-full frame.End is = absurd (cc)
end-full frame.Cut is = absurd (cc)
end-full frame.Magic is = absurd (cc)
end-full (frame.Kind got) is = absurd (cc)
end-full (frame.TooLong got) is = absurd (cc)
end-full frame.Shape is = absurd (cc)
end-full frame.ReadFault is = absurd (cc)
end-full frame.NoMemory is = absurd (cc)

end-failed : (fault : FrameFault) → end_by fault ≡ Frame frame.ReadFault → fault ≡ frame.ReadFault
end-failed frame.End is = absurd (cc)
end-failed frame.Cut is = absurd (cc)
end-failed frame.Magic is = absurd (cc)
end-failed (frame.Kind got) is = absurd (cc)
end-failed (frame.TooLong got) is = absurd (cc)
end-failed frame.Shape is = absurd (cc)
end-failed frame.ReadFault is = refl
end-failed frame.NoMemory is = absurd (cc)

end-read : (fault : FrameFault) → end_by fault ≡ WriteFailed → ⊥
end-read frame.End is = absurd (cc)
end-read frame.Cut is = absurd (cc)
end-read frame.Magic is = absurd (cc)
end-read (frame.Kind got) is = absurd (cc)
end-read (frame.TooLong got) is = absurd (cc)
end-read frame.Shape is = absurd (cc)
end-read frame.ReadFault is = absurd (cc)
end-read frame.NoMemory is = absurd (cc)

-- no request was read
pub step-unread : {steady fits : Type 0} (fault : FrameFault) (end : ServedEnd) → end ≡ end_by fault → (steady → fault ≢ frame.ReadFault) → StepEnds steady fits 0 (Some end)
step-unread fault end by sound = record {
  most = omega arith;
  one = λ none. absurd (cc);
  not_full = λ full. let same : end ≡ Full = cc in end-full fault (sym by ∙ same);
  reads = λ steady failed. let same : end ≡ Frame frame.ReadFault = cc in sound steady (end-failed fault (sym by ∙ same));
  writes = λ steady fits failed. let same : end ≡ WriteFailed = cc in end-read fault (sym by ∙ same);
}

-- the same if there was no memory for it, and that was answered
pub unread-ends : {steady fits sure : Type 0} (fault : FrameFault) (old new : Talk) (replies : ℕ) (ended : Option ServedEnd) → IsUnread fault old new sure replies ended
    → (steady → fault ≢ frame.ReadFault) → (steady → fits → sure) → StepEnds steady fits replies ended
unread-ends fault old new replies ended (memory_wanted written _ _ found wrote only cause is ok) sound fit =
    step-answered written (Err sign.NoMemory) replies ended is (λ steady fits. ok (fit steady fits))
unread-ends fault old new _ _ (nothing_written differs same) sound fit = step-unread fault (end_by fault) refl sound

pub one-more : (n size : ℕ) → (n + 1) * size ≡ n * size + size
one-more n size = omega (arith, add-mul n 1 size)

-- the room that is left after some of the replies
pub room-left : (n size had has : ℕ) → n < 65536 → 65536 * size ≤ had → had ≤ has + n * size → size ≤ has
room-left n size had has lt fits kept =
    let under : n + 1 ≤ 65536 = omega (arith, lt) in
    let most : (n + 1) * size ≤ 65536 * size = mul-le-mul_right size under in
    omega (arith, fits, kept, most, one-more n size)

-- the room that is left, by the rooms that the talks tell
module _ {tells had told has : ℕ} (before : tells ≡ had) (after : told ≡ has) (kept : tells ≤ told) where
  pub room-wrote : (left size most : ℕ) → has ≤ left + size → size ≤ most → had ≤ left + most
  room-wrote left size most wrote short = omega arith

  pub room-fits : {size most : ℕ} → size ≤ most → most ≤ had → size ≤ has
  room-fits short fits = omega arith

pub room-more : (had has left counter size : ℕ) → had ≤ has + counter * size → has ≤ left + size → had ≤ left + (counter + 1) * size
room-more had has left counter size kept here = let product = one-more counter size in omega (arith, kept, here, product)

pub room-start : (had size : ℕ) → had ≤ had + 0 * size
room-start had size = omega arith

-- the replies so far
module _ {frames counter : ℕ} (many : frames ≡ counter) where
  pub frames-one : (replies : ℕ) → replies ≡ 1 → frames + replies ≡ counter + 1
  frames-one replies one = omega arith

  pub frames-below : (replies : ℕ) → replies ≤ 1 → counter < 65536 → frames + replies ≤ 65536
  frames-below replies most before = omega arith

  pub frames-most : counter ≤ 65536 → frames ≤ 65536
  frames-most end = omega arith

  pub frames-full : 65536 ≤ counter → counter ≤ 65536 → frames ≡ 65536
  frames-full last end = omega arith

-- a full connection was neither cut nor left unanswered
pub full-read : Full ≡ Frame frame.ReadFault → ⊥
full-read is = absurd (cc)

pub full-written : Full ≡ WriteFailed → ⊥
full-written is = absurd (cc)
