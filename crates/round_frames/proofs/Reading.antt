-- What was read, step by step.
use Rattle.std.proofs.Common.{◌≡◌, ◌≢◌, ◌⊎◌, inl, inr, ◌-◌, ◌+◌, ◌++◌, ◌≤◌, ◌<◌, ℕ, Bool, true, false, List, Some, None, Result, Ok, Err, take, drop, length, min, refl, ap, sym, ◌∙◌, subst, arith, length-drop, length-take-le, take-add, drop-drop, append_assoc, append-nil, take_at, drop_at, nat_lt, le-ltb, if◌then◌else◌}
use Rattle.std.proofs.lemmas.Bool.Decides.{nat_tests}
use Rattle.lms_bytes.specs.Bytes.{bytes_at, str_to_u32}
use Rattle.lms_bytes.specs.MessageId.{message_id}
use Rattle.lms_bytes.specs.declared.message.MessageId.{MessageId}
use Rattle.lms_bytes.specs.declared.params.Params.{Params}
use Rattle.ots_chain.specs.MessageHash.{message_digest}
use Rattle.round_frames.specs.Asks.{ask_of, second_ask}
use Rattle.round_frames.specs.Replies.{Reply, head_length, replies, reply_in}
use Rattle.stream_io.specs.Talk.{OnlyRead, Talk, Took}
use Rattle.round_frames.specs.Frames.{Reader, Says, after_header, after_tests, behind, frame_of, header_fault, header_in, payload_in, whole}
use Rattle.round_frames.specs.Reads.{Broke, Passed, Reads}
use Rattle.round_frames.specs.declared.fault.FrameFault.{FrameFault}
use Rattle.round_frames.specs.declared.fault.FrameFault.TheVariants.{Cut, NoMemory, ReadFault}
use Rattle.round_frames.specs.declared.header.Header.{Header}

pub only-same : (talk : Talk) → OnlyRead talk talk
only-same talk = record { told = refl; place = refl; written = refl; room = omega arith; count = omega arith }

pub only-then : (a b c : Talk) → OnlyRead a b → OnlyRead b c → OnlyRead a c
only-then a b c x y = record {
  told = y.told ∙ x.told;
  place = y.place ∙ x.place;
  written = y.written ∙ x.written;
  room = (let p = x.room in let q = y.room in omega arith);
  count = (let p = x.count in let q = y.count in omega arith);
}

pub took-none : (talk : Talk) → Took talk talk 0
took-none talk = record { there = omega arith; taken = sym (append-nil talk.taken); left = refl }

-- a piece of the rest, seen from the whole
pub piece : (m n : ℕ) (a b : Talk) → Took a b m → take m a.left ++ take n b.left ≡ take (m + n) a.left
piece m n a b x = ap (λ t. take m a.left ++ take n t) x.left ∙ sym (take-add m n a.left)

pub took-then : (m n : ℕ) (a b c : Talk) → Took a b m → Took b c n → Took a c (m + n)
took-then m n a b c x y = record {
  there = (let p = x.there in let q = y.there in let e = ap length x.left in grind (arith, length-drop, p, q, e));
  taken = y.taken ∙ ap (λ t. t ++ take n b.left) x.taken ∙ append_assoc a.taken (take m a.left) (take n b.left) ∙ ap (λ t. a.taken ++ t) (piece m n a b x);
  left = y.left ∙ ap (drop n) x.left ∙ drop-drop n m a.left;
}

-- a read failed after bytes that were taken
pub broke-then : {V : Type 0} (k : ℕ) (a b c : Talk) (result : Result V FrameFault) → Took a b k → Broke b c result → Broke a c result
broke-then k a b c result x y = record { is = y.is; size = k + y.size; took = took-then k y.size a b c x y.took }

pub broke-as : {V W : Type 0} (old new : Talk) (fault : FrameFault) → Broke {V = V} old new (Err fault) → Broke {V = W} old new (Err fault)
broke-as {V = V} {W = W} old new fault b = record { is = (let e = b.is in let same : fault ≡ ReadFault = cc in ap (λ f. Err f) same); size = b.size; took = b.took }

-- what follows bytes that were taken
pub reads-behind : {V : Type 0} (k : ℕ) (old mid new : Talk) (result : Result V FrameFault) (says : Says V) → Took old mid k
    → Reads mid new result says → Reads old new result (behind k says)
reads-behind k old mid new result says took (inl gave) = inl (record { is = gave.is; took = took-then k says.size old mid new took gave.took })
reads-behind k old mid new result says took (inr broke) = inr (broke-then k old mid new result took broke)

-- no header, no frame
abbrev pub header-says : List ℕ → Says Header
header-says bytes = record { result = header_in (take 8 bytes); size = min 8 (length bytes) }

frame-fault : {V : Type 0} (reader : Reader V) (bytes : List ℕ) (fault : FrameFault) → header_in (take 8 bytes) ≡ Err fault
    → frame_of reader bytes ≡ record { result = Err fault; size = min 8 (length bytes) }
unfolding frame_of
frame-fault reader bytes fault h = ap (after_header reader bytes) h

frame-payload : {V : Type 0} (reader : Reader V) (bytes : List ℕ) (header : Header) → header_in (take 8 bytes) ≡ Ok header
    → frame_of reader bytes ≡ behind 8 (payload_in reader header (drop 8 bytes))
unfolding frame_of
frame-payload reader bytes header h = ap (after_header reader bytes) h

pub no-header : {V : Type 0} (reader : Reader V) (old new : Talk) (fault : FrameFault) → Reads old new (Err fault) (header-says old.left)
    → Reads {V = V} old new (Err fault) (frame_of reader old.left)
no-header {V = V} reader old new fault (inl gave) =
    let says : frame_of reader old.left ≡ record { result = Err fault; size = min 8 (length old.left) } = frame-fault reader old.left fault (sym gave.is) in
    subst (Reads {V = V} old new (Err fault)) (sym says) (inl (record { is = refl; took = gave.took }))
no-header reader old new fault (inr broke) = inr (broke-as old new fault broke)

eight : (k : ℕ) → 8 ≤ k → min 8 k ≡ 8
eight k le = omega arith

-- a header, and then its payload
pub header-then : {V : Type 0} (reader : Reader V) (header : Header) (old mid new : Talk) (result : Result V FrameFault)
    → Reads old mid (Ok header) (header-says old.left) → 8 ≤ length old.left
    → Reads mid new result (payload_in reader header mid.left) → Reads old new result (frame_of reader old.left)
header-then reader header old mid new result (inl gave) le reads =
    let took : Took old mid 8 = subst (Took old mid) (eight (length old.left) le) gave.took in
    subst (Reads old new result) (sym (frame-payload reader old.left header (sym gave.is)))
    (reads-behind 8 old mid new result (payload_in reader header (drop 8 old.left)) took (subst (λ xs. Reads mid new result (payload_in reader header xs)) took.left reads))
header-then reader header old mid new result (inr broke) le reads = absurd (let e = broke.is in cc)

payload-err : {V : Type 0} (reader : Reader V) (header : Header) (bytes : List ℕ) (fault : FrameFault) → header_fault reader header ≡ Some fault
    → payload_in reader header bytes ≡ record { result = Err fault; size = 0 }
unfolding payload_in
payload-err reader header bytes fault h = ap (after_tests reader header bytes) h

-- tests 4 to 6
pub payload-fault : {V : Type 0} (reader : Reader V) (header : Header) (talk : Talk) (fault : FrameFault) → Some fault ≡ header_fault reader header
    → Reads talk talk (Err fault) (payload_in reader header talk.left)
payload-fault {V = V} reader header talk fault h =
    let says : payload_in reader header talk.left ≡ record { result = Err fault; size = 0 } = payload-err reader header talk.left fault (sym h) in
    subst (Reads {V = V} talk talk (Err fault)) (sym says) (inl (record { is = refl; took = took-none talk }))

pub payload-whole : {V : Type 0} (reader : Reader V) (header : Header) (bytes : List ℕ) → header_fault reader header ≡ None
    → payload_in reader header bytes ≡ whole header.length (reader.value header) bytes
unfolding payload_in
payload-whole reader header bytes h = ap (after_tests reader header bytes) h

whole-same : {V : Type 0} (size : ℕ) (f g : List ℕ → Result V FrameFault) (bytes : List ℕ) → ((payload : List ℕ) → f payload ≡ g payload) → whole size f bytes ≡ whole size g bytes
whole-same size f g bytes same =
    ap (λ r. if nat_lt (length bytes) size then record { result = Err Cut; size = length bytes } else record { result = r; size = size }) (same (take size bytes))

pub in-payload : {V : Type 0} (reader : Reader V) (header : Header) (old new : Talk) (result : Result V FrameFault) (size : ℕ) (value : List ℕ → Result V FrameFault)
    → None ≡ header_fault reader header → header.length ≡ size → ((payload : List ℕ) → reader.value header payload ≡ value payload)
    → Reads old new result (whole size value old.left) → Reads old new result (payload_in reader header old.left)
in-payload reader header old new result size value h e same reads =
    let says : payload_in reader header old.left ≡ whole size value old.left =
    payload-whole reader header old.left (sym h) ∙ ap (λ k. whole k (reader.value header) old.left) e ∙ whole-same size (reader.value header) value old.left same in
    subst (Reads old new result) (sym says) reads

-- test 7
pub whole-there : {V : Type 0} (size : ℕ) (value : List ℕ → Result V FrameFault) (bytes : List ℕ) → size ≤ length bytes
    → whole size value bytes ≡ record { result = value (take size bytes); size = size }
whole-there size value bytes le = let test : nat_lt (length bytes) size ≡ false = le-ltb (length bytes) size le in rw test refl

pub whole-cut : {V : Type 0} (size : ℕ) (value : List ℕ → Result V FrameFault) (bytes : List ℕ) → length bytes < size
    → whole size value bytes ≡ record { result = Err Cut; size = length bytes }
whole-cut size value bytes lt = let test : nat_lt (length bytes) size ≡ true = grind (arith, nat_tests, lt) in rw test refl

-- a part that was not there, of a whole
pub part-missing : {A V : Type 0} (old new : Talk) (fault : FrameFault) (k size : ℕ) (value : List ℕ → Result V FrameFault) → k ≤ size
    → Passed {V = A} old new (Err fault) k → Reads old new (Err fault) (whole size value old.left)
part-missing {A = A} {V = V} old new fault k size value le (inl cut) =
    let says : whole size value old.left ≡ record { result = Err Cut; size = length old.left } = whole-cut size value old.left (let lt = cut.1 in omega arith) in
    subst (Reads {V = V} old new (Err fault)) (sym says) (inl (record { is = ap (λ f. Err f) cut.0; took = cut.2 }))
part-missing {A = A} {V = V} old new fault k size value le (inr broke) = inr (broke-as old new fault broke)

-- all of it was there
pub all-there : {V : Type 0} (old new : Talk) (result : Result V FrameFault) (size : ℕ) (value : List ℕ → Result V FrameFault)
    → Took old new size → result ≡ value (take size old.left) → Reads old new result (whole size value old.left)
all-there old new result size value took is =
    subst (Reads old new result) (sym (whole-there size value old.left took.there)) (inl (record { is = is; took = took }))

same-test : (a b k : ℕ) → k ≤ a → k ≤ b → nat_lt (a - k) (b - k) ≡ nat_lt a b
same-test a b k ka kb = grind (arith, nat_tests)

split-by : {V : Type 0} (k : ℕ) (a b : Bool) (x y : Result V FrameFault) (l m s t : ℕ) → a ≡ b → x ≡ y → k + m ≡ l → k + t ≡ s
    → (if a then record { result = Err Cut; size = l } else record { result = x; size = s })
    ≡ behind k (if b then record { result = Err Cut; size = m } else record { result = y; size = t })
split-by k true true x y l m s t e w u v = rw u refl
split-by k false false x y l m s t e w u v = rw (w, v) refl
split-by k true false x y l m s t e w u v = absurd (cc)
split-by k false true x y l m s t e w u v = absurd (cc)

-- a head, and then the rest of a whole
whole-split : {V : Type 0} (k size : ℕ) (value : List ℕ → Result V FrameFault) (bytes : List ℕ) → k ≤ size → k ≤ length bytes
    → whole size value bytes ≡ behind k (whole (size - k) (λ rest. value (take k bytes ++ rest)) (drop k bytes))
whole-split k size value bytes le there =
    let all : k + (size - k) ≡ size = omega arith in
    let sizes : nat_lt (length bytes) size ≡ nat_lt (length (drop k bytes)) (size - k) = sym (ap (λ n. nat_lt n (size - k)) (length-drop k bytes) ∙ same-test (length bytes) size k there le) in
    let front : take size bytes ≡ take k bytes ++ take (size - k) (drop k bytes) = ap (λ n. take n bytes) (sym all) ∙ take-add k (size - k) bytes in
    split-by k (nat_lt (length bytes) size) (nat_lt (length (drop k bytes)) (size - k)) (value (take size bytes)) (value (take k bytes ++ take (size - k) (drop k bytes)))
    (length bytes) (length (drop k bytes)) size (size - k) sizes (ap value front) (let e = length-drop k bytes in omega arith) all

pub head-then : {V : Type 0} (old mid new : Talk) (result : Result V FrameFault) (k size : ℕ) (head : List ℕ) (value next : List ℕ → Result V FrameFault)
    → k ≤ size → head ≡ take k old.left → Took old mid k → ((rest : List ℕ) → value (head ++ rest) ≡ next rest)
    → Reads mid new result (whole (size - k) next mid.left) → Reads old new result (whole size value old.left)
head-then old mid new result k size head value next le front took same reads =
    let says : whole size value old.left ≡ behind k (whole (size - k) next (drop k old.left)) =
    whole-split k size value old.left le took.there
    ∙ ap (behind k) (whole-same (size - k) (λ rest. value (take k old.left ++ rest)) next (drop k old.left) (λ rest. ap (λ h. value (h ++ rest)) (sym front) ∙ same rest)) in
    subst (Reads old new result) (sym says)
    (reads-behind k old mid new result (whole (size - k) next (drop k old.left)) took
    (subst (λ xs. Reads mid new result (whole (size - k) next xs)) took.left reads))

-- parts that are passed, one after the other
pub passed-then : {V W : Type 0} (k m : ℕ) (old mid new : Talk) (fault : FrameFault) (size : ℕ) → k + m ≤ size → Took old mid k
    → Passed {V = V} mid new (Err fault) m → Passed {V = W} old new (Err fault) size
passed-then k m old mid new fault size le took (inl cut) =
    let there = took.there in
    let rest : length mid.left ≡ length old.left - k = ap length took.left ∙ length-drop k old.left in
    let all : k + length mid.left ≡ length old.left = omega arith in
    inl (cut.0, (let lt = cut.1 in omega arith), subst (Took old new) all (took-then k (length mid.left) old mid new took cut.2))
passed-then k m old mid new fault size le took (inr broke) = inr (broke-as old new fault (broke-then k old mid new (Err fault) took broke))

-- an ask of round two by its parts
pub ask-is : (params : Params) (head message key : List ℕ) (leaf : ℕ) (c tag : List ℕ) (id : MessageId) (digest : List ℕ)
    → key ≡ bytes_at head 0 16 → leaf ≡ str_to_u32 (bytes_at head 16 4) → c ≡ bytes_at head 20 params.n → tag ≡ bytes_at head (20 + params.n) 32
    → id ≡ message_id message → digest ≡ message_digest params key leaf c message
    → record { key = key; leaf = leaf; message = id; second = Some (record { c = c; tag = tag; digest = digest }) } ≡ ask_of params head message
ask-is params head message key leaf c tag id digest k l r t i d = rw (d, i, t, r, l, k) refl

pub ask-split : (params : Params) (head message : List ℕ) → length head ≡ 52 + params.n → second_ask params (head ++ message) ≡ ask_of params head message
ask-split params head message long =
    ap (λ h. ask_of params h (drop (52 + params.n) (head ++ message))) (take_at head message (52 + params.n) long)
    ∙ ap (ask_of params head) (drop_at head message (52 + params.n) long)

-- what was read is no fault
pub no-fault : {R : Type 0} (value : R) (fault : FrameFault) → Ok value ≢ Err fault
no-fault value fault is = absurd (cc)

-- what came of a call that did not fail
pub not-err : {R T : Type 0} (value : R) (fault : FrameFault) → (Ok value ≡ Err fault) ⊎ T → T
not-err value fault (inl is) = absurd (cc)
not-err value fault (inr t) = t

abbrev failed : {R : Type 0} → FrameFault → Result R FrameFault
failed fault = Err fault

-- the rest of a payload was not there, after a part that was
pub rest-missing : {A R V : Type 0} (reader : Reader V) (header : Header) (old mid new : Talk) (fault : FrameFault) (k m : ℕ) → None ≡ header_fault reader header
    → k + m ≡ header.length → Took old mid k → (failed {R = A} fault ≡ failed NoMemory) ⊎ Passed {V = A} mid new (Err fault) m
    → (failed {R = R} fault ≡ failed NoMemory) ⊎ Reads {V = V} old new (Err fault) (payload_in reader header old.left)
rest-missing reader header old mid new fault k m none sum took (inl is) = inl (let same : fault ≡ NoMemory = cc in ap (λ f. Err f) same)
rest-missing {A = A} {V = V} reader header old mid new fault k m none sum took (inr passed) =
    inr (in-payload reader header old new (Err fault) header.length (reader.value header) none refl (λ payload. refl)
    (part-missing {A = A} {V = V} old new fault header.length header.length (reader.value header) (omega arith) (passed-then {V = A} {W = A} k m old mid new fault header.length (omega (arith, sum)) took passed)))

pub passed-or : {A R : Type 0} (k m size : ℕ) (old mid new : Talk) (fault : FrameFault) → k + m ≤ size → Took old mid k
    → (failed {R = A} fault ≡ failed NoMemory) ⊎ Passed {V = A} mid new (Err fault) m
    → (failed {R = R} fault ≡ failed NoMemory) ⊎ Passed {V = R} old new (Err fault) size
passed-or k m size old mid new fault le took (inl is) = inl (let same : fault ≡ NoMemory = cc in ap (λ f. Err f) same)
passed-or {A = A} {R = R} k m size old mid new fault le took (inr passed) = inr (passed-then {V = A} {W = R} k m old mid new fault size le took passed)

pub either : {A B C : Type 0} → (B → C) → A ⊎ B → A ⊎ C
either f (inl a) = inl a
either f (inr b) = inr (f b)

pub reply-split : (n kind : ℕ) (head rest : List ℕ) → length head ≡ head_length n kind
    → reply_in n kind (take (head_length n kind) (head ++ rest)) (drop (head_length n kind) (head ++ rest)) ≡ reply_in n kind head rest
reply-split n kind head rest long =
    ap (λ h. reply_in n kind h (drop (head_length n kind) (head ++ rest))) (take_at head rest (head_length n kind) long)
    ∙ ap (reply_in n kind head) (drop_at head rest (head_length n kind) long)

-- the head of a reply, and then its body
pub body-then : (params : Params) (header : Header) (old mid new : Talk) (result : Result Reply FrameFault) (head : List ℕ) (size rest : ℕ)
    → None ≡ header_fault (replies params) header → size ≡ head_length params.n header.kind → size ≤ header.length → rest ≡ header.length - size
    → head ≡ take size old.left → Took old mid size
    → Reads mid new result (whole rest (λ body. reply_in params.n header.kind head body) mid.left)
    → Reads old new result (payload_in (replies params) header old.left)
body-then params header old mid new result head size rest none is le more front took reads =
    let reader : Reader Reply = replies params in
    let next : List ℕ → Result Reply FrameFault = λ body. reply_in params.n header.kind head body in
    let long : length head ≡ head_length params.n header.kind = ap length front ∙ length-take-le size old.left took.there ∙ is in
    in-payload reader header old new result header.length (reader.value header) none refl (λ payload. refl)
    (head-then old mid new result size header.length head (reader.value header) next le front took (λ body. reply-split params.n header.kind head body long)
    (subst (λ m. Reads mid new result (whole m next mid.left)) more reads))
