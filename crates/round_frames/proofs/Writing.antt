-- What is written is read.
use Rattle.std.proofs.Common.{◌≡◌, ◌≤◌, ◌<◌, ◌^◌, ◌+◌, ◌*◌, ◌++◌, ◌==◌, ℕ, List, [], ◌∷◌, Option, Some, None, Result, Ok, Err, true, false, length, take, drop, refl, ap, sym, ◌∙◌, subst, arith, append_assoc, append-nil, length-append, take_at, drop_at, nat_lt, le-ltb, MatchResult}
use Rattle.std.proofs.Math.Seq.{take-append-add}
use Rattle.std.proofs.lemmas.Bool.{eq-eqb, le-leb}
use Rattle.std.proofs.lemmas.List.{take-append-le}
use Rattle.std.proofs.lemmas.Nat.{from_be_bytes-to_be_bytes_2, from_be_bytes-to_be_bytes_4}
use Rattle.std.specs.Int.{w16, from_be_bytes}
use Rattle.coalition_map.specs.Members.{bits_of, member_numbers}
use Rattle.coalition_map.specs.MembersInside.{bits_of-member_numbers}
use Rattle.lms_bytes.specs.Bytes.{bytes_at, str_to_u32, u16str, u32str}
use Rattle.lms_bytes.specs.MessageId.{message_id, message_id_bytes}
use Rattle.lms_bytes.specs.Signature.{signature_length}
use Rattle.lms_bytes.specs.declared.ask.Second.{Second}
use Rattle.lms_bytes.specs.declared.ask.Ask.{Ask}
use Rattle.lms_bytes.specs.declared.message.MessageId.{MessageId}
use Rattle.lms_bytes.specs.declared.params.Params.{Params}
use Rattle.round_frames.specs.Asks.{IsAsk, IsSecond, ask_frame, asks, second_ask}
use Rattle.round_frames.specs.Requests.{request_frame, requests}
use Rattle.round_frames.specs.Results.{Failed, Signature, failure_frame, results, signature_frame}
use Rattle.round_frames.specs.declared.outcome.Failure.{Failure}
use Rattle.stream_io.specs.Talk.{Talk, WrotePart}
use Rattle.round_frames.specs.Frames.{Reader, ReadsBack, after_header, behind, frame, frame_of, header_bytes, header_fault, header_in, payload_in}
use Rattle.round_frames.specs.declared.fault.FrameFault.{FrameFault}
use Rattle.round_frames.specs.declared.header.Header.{Header}
use Rattle.round_frames.proofs.Reading.{ask-is, ask-split, payload-whole, whole-there}

-- what was written after bytes that were written
pub wrote-behind : {A E : Type 0} (old mid new : Talk) (a b : List ℕ) (r : Result A E) → mid.written ≡ old.written ++ a
    → MatchResult r (λ _. new.written ≡ mid.written ++ b) (λ _. WrotePart mid new b)
    → MatchResult r (λ _. new.written ≡ old.written ++ (a ++ b)) (λ _. WrotePart old new (a ++ b))
wrote-behind old mid new a b (Ok x) m e = e ∙ ap (λ t. t ++ b) m ∙ append_assoc old.written a b
wrote-behind old mid new a b (Err x) m part = record {
  size = length a + part.size;
  short = (let s = part.short in let e = length-append a b in omega (arith, s, e));
  written = part.written ∙ ap (λ t. t ++ take part.size b) m ∙ append_assoc old.written a (take part.size b)
      ∙ ap (λ t. old.written ++ t) (sym (take-append-add a b part.size));
}

-- a write that failed within the first bytes failed within all
pub wrote-front : (old new : Talk) (a b : List ℕ) → WrotePart old new a → WrotePart old new (a ++ b)
wrote-front old new a b part = record {
  size = part.size;
  short = (let s = part.short in let e = length-append a b in omega (arith, s, e));
  written = part.written ∙ ap (λ t. old.written ++ t) (sym (take-append-le part.size a b (let s = part.short in omega (arith, s))));
}

pub number-again : (x : ℕ) → x < 2 ^ 32 → str_to_u32 (u32str x) ≡ x
number-again x lt = from_be_bytes-to_be_bytes_4 x lt

-- a part of three
pub mid : (a b c : List ℕ) (p n : ℕ) → length a ≡ p → length b ≡ n → bytes_at (a ++ (b ++ c)) p n ≡ b
mid a b c p n e f = ap (take n) (drop_at a (b ++ c) p e) ∙ take_at b c n f

header-again : (kind size : ℕ) (xs : List ℕ) → size < 2 ^ 32 → header_in (take 8 (header_bytes kind size ++ xs)) ≡ Ok (record { kind = kind; length = size })
unfolding header_in
header-again kind size xs lt =
    let front : take 8 (header_bytes kind size ++ xs) ≡ header_bytes kind size = take_at (header_bytes kind size) xs 8 refl in
    ap header_in front ∙ ap (λ (n : ℕ). Ok (record { kind = kind; length = n })) (number-again size lt)

after-again : {V : Type 0} (reader : Reader V) (bytes : List ℕ) (header : Header) → header_in (take 8 bytes) ≡ Ok header
    → frame_of reader bytes ≡ behind 8 (payload_in reader header (drop 8 bytes))
unfolding frame_of
after-again reader bytes header h = ap (after_header reader bytes) h

-- a frame that the reader takes is read, whatever follows it
pub frame-again : {V : Type 0} (reader : Reader V) (kind : ℕ) (payload rest : List ℕ) → length payload < 2 ^ 32
    → header_fault reader (record { kind = kind; length = length payload }) ≡ None
    → frame_of reader (frame kind payload ++ rest)
    ≡ record { result = reader.value (record { kind = kind; length = length payload }) payload; size = 8 + length payload }
frame-again reader kind payload rest lt none =
    let size = length payload in
    let header : Header = record { kind = kind; length = size } in
    let xs = payload ++ rest in
    let bytes = header_bytes kind size ++ xs in
    let same : frame kind payload ++ rest ≡ bytes = append_assoc (header_bytes kind size) payload rest in
    let tail : drop 8 bytes ≡ xs = drop_at (header_bytes kind size) xs 8 refl in
    let there : size ≤ length xs = (let e = length-append payload rest in omega arith) in
    let says : payload_in reader header (drop 8 bytes) ≡ record { result = reader.value header payload; size = size } =
    ap (payload_in reader header) tail ∙ payload-whole reader header xs none ∙ whole-there size (reader.value header) xs there
    ∙ ap (λ p. record { result = reader.value header p; size = size }) (take_at payload rest size refl) in
    ap (frame_of reader) same ∙ after-again reader bytes header (header-again kind size xs lt) ∙ ap (behind 8) says

pub no-fault : {V : Type 0} (reader : Reader V) (header : Header) → reader.reads header.kind ≡ true → header.length ≤ reader.most → reader.has_length header ≡ true
    → header_fault reader header ≡ None
unfolding header_fault
no-fault reader header a le b =
    let c : nat_lt reader.most header.length ≡ false = le-ltb reader.most header.length le in
    rw (header_fault, a, c, b) refl

-- a frame whose payload is this value is read as it
pub reads-back : {V : Type 0} (reader : Reader V) (kind : ℕ) (payload : List ℕ) (value : V) → length payload < 2 ^ 32 → reader.reads kind ≡ true → length payload ≤ reader.most
    → reader.has_length (record { kind = kind; length = length payload }) ≡ true
    → reader.value (record { kind = kind; length = length payload }) payload ≡ Ok value → ReadsBack reader (frame kind payload) value
reads-back reader kind payload value lt reads le fits is rest =
    let header : Header = record { kind = kind; length = length payload } in
    let all : length (frame kind payload) ≡ 8 + length payload = length-append (header_bytes kind (length payload)) payload in
    frame-again reader kind payload rest lt (no-fault reader header reads le fits)
    ∙ ap (λ r. record { result = r; size = 8 + length payload }) is ∙ ap (λ n. record { result = Ok value; size = n }) (sym all)

pub again-as : {V : Type 0} (reader : Reader V) (value : V) (a b : List ℕ) → a ≡ b → ReadsBack reader a value → ReadsBack reader b value
again-as reader value a b e reads = subst (λ bytes. ReadsBack reader bytes value) e reads

same-number : (k : ℕ) → (k == k) ≡ true
same-number k = eq-eqb k k refl

fits-in : (n k : ℕ) → n ≤ 32 → k ≤ 52 + n + 16777216 → k < 2 ^ 32
fits-in n k small le = omega arith

pub small-hash : (params : Params) → params.n ≤ 32
small-hash params = let h = params.hash_length in grind (arith, h)

signature-small : (n p h : ℕ) → p * n ≤ 8480 → h * n ≤ 800 → 12 + n * (p + 1) + n * h ≤ 52 + n + 16777216
signature-small n p h a b =
    let c : n * (p + 1) ≡ p * n + n = grind arith in
    let d : n * h ≡ h * n = grind arith in
    omega (arith, a, b, c, d)

pub signature-again : (params : Params) (bytes : List ℕ) → length bytes ≡ signature_length params
    → ReadsBack (results params) (signature_frame bytes) (Signature bytes)
signature-again params bytes size =
    let small = signature-small params.n params.p params.h params.chains_length params.path_length in
    let le : length bytes ≤ 52 + params.n + 16777216 = rw size small in
    reads-back (results params) 7 bytes (Signature bytes) (fits-in params.n (length bytes) (small-hash params) le) refl le
    (ap (λ k. k == signature_length params) size ∙ same-number (signature_length params)) refl

abbrev failure-by : ℕ → ℕ → ℕ → ℕ → Failure
failure-by status member round leaf = record { status = status; member = member; round = round; leaf = leaf }

pub failure-again : (params : Params) (failure : Failure) → failure.leaf < 2 ^ 32 → ReadsBack (results params) (failure_frame failure) (Failed failure)
failure-again params failure lt =
    reads-back (results params) 8 (failure.status ∷ failure.member ∷ failure.round ∷ u32str failure.leaf) (Failed failure) (omega arith) refl (omega arith) refl
    (ap (λ leaf. Ok (Failed (failure-by failure.status failure.member failure.round leaf))) (number-again failure.leaf lt))

abbrev request-by : ℕ → List ℕ → Result (List ℕ × List ℕ) FrameFault
request-by bits message = Ok (member_numbers bits, message)

abbrev request-of : List ℕ → List ℕ → Result (List ℕ × List ℕ) FrameFault
request-of members message = request-by (from_be_bytes w16 members) message

pub request-again : (bits : ℕ) (message : List ℕ) → bits < 2 ^ 16 → length message ≤ 16777216
    → ReadsBack requests (request_frame (member_numbers bits) message) (member_numbers bits, message)
request-again bits message lt le =
    let members = u16str (bits_of (member_numbers bits)) in
    let payload = members ++ message in
    let long : length payload ≡ 2 + length message = length-append members message in
    let back : from_be_bytes w16 members ≡ bits = ap (λ b. from_be_bytes w16 (u16str b)) (bits_of-member_numbers bits lt) ∙ from_be_bytes-to_be_bytes_2 bits lt in
    let front : take 2 payload ≡ members = take_at members message 2 refl in
    let rest : drop 2 payload ≡ message = drop_at members message 2 refl in
    reads-back requests 6 payload (member_numbers bits, message) (omega (arith, long, le)) refl (omega (arith, long, le)) (le-leb 2 (length payload) (omega (arith, long)))
    (ap (λ xs. request-of xs (drop 2 payload)) front ∙ ap (request-of members) rest ∙ ap (λ b. request-by b message) back)

abbrev ask-by : List ℕ → ℕ → ℕ → List ℕ → Ask
ask-by key leaf size hash = record { key = key; leaf = leaf; message = record { length = size; hash = hash }; second = None }

ask-parts : (key key2 : List ℕ) (leaf leaf2 size size2 : ℕ) (hash hash2 : List ℕ) → key2 ≡ key → leaf2 ≡ leaf → size2 ≡ size → hash2 ≡ hash
    → ask-by key2 leaf2 size2 hash2 ≡ ask-by key leaf size hash
ask-parts key key2 leaf leaf2 size size2 hash hash2 a b c d = rw (a, b, c, d) refl

-- an ask of round one, by its parts
pub first-again : (params : Params) (key : List ℕ) (leaf : ℕ) (id : MessageId) → length key ≡ 16 → leaf < 2 ^ 32 → id.length < 2 ^ 32 → length id.hash ≡ 32
    → ReadsBack (asks params) (frame 1 (key ++ u32str leaf ++ message_id_bytes id)) (record { key = key; leaf = leaf; message = id; second = None })
first-again params key leaf id k l s h =
    let tail = message_id_bytes id in
    let payload = key ++ u32str leaf ++ tail in
    let end : length tail ≡ 36 = length-append (u32str id.length) id.hash ∙ ap (λ n. 4 + n) h in
    let twenty : length (key ++ u32str leaf) ≡ 20 = length-append key (u32str leaf) ∙ ap (λ n. n + 4) k in
    let long : length payload ≡ 56 = length-append (key ++ u32str leaf) tail ∙ (omega (arith, twenty, end)) in
    let one : payload ≡ key ++ (u32str leaf ++ tail) = append_assoc key (u32str leaf) tail in
    let three : payload ≡ ((key ++ u32str leaf) ++ u32str id.length) ++ (id.hash ++ []) =
    sym (append_assoc (key ++ u32str leaf) (u32str id.length) id.hash) ∙ ap (λ x. ((key ++ u32str leaf) ++ u32str id.length) ++ x) (sym (append-nil id.hash)) in
    let four : length ((key ++ u32str leaf) ++ u32str id.length) ≡ 24 = length-append (key ++ u32str leaf) (u32str id.length) ∙ ap (λ n. n + 4) twenty in
    reads-back (asks params) 1 payload (record { key = key; leaf = leaf; message = id; second = None }) (omega (arith, long)) refl (let n = small-hash params in omega (arith, long, n))
    (ap (λ n. n == 56) long)
    (ap (λ a. Ok a) (ask-parts key (bytes_at payload 0 16) leaf (str_to_u32 (bytes_at payload 16 4)) id.length (str_to_u32 (bytes_at payload 20 4)) id.hash (bytes_at payload 24 32)
    (ap (λ p. bytes_at p 0 16) one ∙ take_at key (u32str leaf ++ tail) 16 k)
    (ap (λ p. str_to_u32 (bytes_at p 16 4)) one ∙ ap str_to_u32 (mid key (u32str leaf) tail 16 4 k refl) ∙ number-again leaf l)
    (ap str_to_u32 (mid (key ++ u32str leaf) (u32str id.length) id.hash 20 4 twenty refl) ∙ number-again id.length s)
    (ap (λ p. bytes_at p 24 32) three ∙ mid ((key ++ u32str leaf) ++ u32str id.length) id.hash [] 24 32 four h)))

to-the-left : (h k u c t : List ℕ) → h ++ (((k ++ u) ++ c) ++ t) ≡ (((h ++ k) ++ u) ++ c) ++ t
to-the-left h k u c t =
    sym (append_assoc h ((k ++ u) ++ c) t) ∙ ap (λ x. x ++ t) (sym (append_assoc h (k ++ u) c) ∙ ap (λ x. x ++ c) (sym (append_assoc h k u)))

-- an ask of round two, by its parts
pub second-again : (params : Params) (key : List ℕ) (leaf : ℕ) (message : List ℕ) (second : Second) → length key ≡ 16 → leaf < 2 ^ 32
    → IsSecond params (record { key = key; leaf = leaf; message = message_id message; second = Some second }) message second
    → ReadsBack (asks params) ((header_bytes 2 (52 + length second.c + length message) ++ key ++ u32str leaf ++ second.c ++ second.tag) ++ message)
    (record { key = key; leaf = leaf; message = message_id message; second = Some second })
second-again params key leaf message second k l s =
    let c = second.c in
    let tag = second.tag in
    let head = key ++ u32str leaf ++ c ++ tag in
    let ask : Ask = record { key = key; leaf = leaf; message = message_id message; second = Some second } in
    let twenty : length (key ++ u32str leaf) ≡ 20 = length-append key (u32str leaf) ∙ ap (λ n. n + 4) k in
    let four : length ((key ++ u32str leaf) ++ c) ≡ 20 + params.n = length-append (key ++ u32str leaf) c ∙ (let a = s.c in omega (arith, twenty, a)) in
    let long : length head ≡ 52 + params.n = length-append ((key ++ u32str leaf) ++ c) tag ∙ (let b = s.tag in omega (arith, four, b)) in
    let all : length (head ++ message) ≡ 52 + length c + length message = length-append head message ∙ (let a = s.c in omega (arith, long, a)) in
    let two : head ≡ (key ++ u32str leaf) ++ (c ++ tag) = append_assoc (key ++ u32str leaf) c tag in
    let one : head ≡ key ++ (u32str leaf ++ (c ++ tag)) = two ∙ append_assoc key (u32str leaf) (c ++ tag) in
    let three : head ≡ ((key ++ u32str leaf) ++ c) ++ (tag ++ []) = ap (λ x. ((key ++ u32str leaf) ++ c) ++ x) (sym (append-nil tag)) in
    let key-is : key ≡ bytes_at head 0 16 = sym (ap (λ h. bytes_at h 0 16) one ∙ take_at key (u32str leaf ++ (c ++ tag)) 16 k) in
    let leaf-is : leaf ≡ str_to_u32 (bytes_at head 16 4) = sym (ap (λ h. str_to_u32 (bytes_at h 16 4)) one ∙ ap str_to_u32 (mid key (u32str leaf) (c ++ tag) 16 4 k refl) ∙ number-again leaf l) in
    let c-is : c ≡ bytes_at head 20 params.n = sym (ap (λ h. bytes_at h 20 params.n) two ∙ mid (key ++ u32str leaf) c tag 20 params.n twenty s.c) in
    let tag-is : tag ≡ bytes_at head (20 + params.n) 32 = sym (ap (λ h. bytes_at h (20 + params.n) 32) three ∙ mid ((key ++ u32str leaf) ++ c) tag [] (20 + params.n) 32 four s.tag) in
    let is : second_ask params (head ++ message) ≡ ask = ask-split params head message long
    ∙ sym (ask-is params head message key leaf c tag (message_id message) second.digest key-is leaf-is c-is tag-is refl s.digest) in
    let n = small-hash params in
    let m = s.message_length in
    let a = s.c in
    let front = header_bytes 2 (52 + length c + length message) in
    again-as (asks params) ask (frame 2 (head ++ message)) ((front ++ key ++ u32str leaf ++ c ++ tag) ++ message)
    (ap (λ size. header_bytes 2 size ++ (head ++ message)) all ∙ sym (append_assoc front head message) ∙ ap (λ x. x ++ message) (to-the-left front key (u32str leaf) c tag))
    (reads-back (asks params) 2 (head ++ message) ask (omega (arith, all, n, m, a)) refl (omega (arith, all, n, m, a))
    (le-leb (52 + params.n) (length (head ++ message)) (omega (arith, all, a))) (ap (λ x. Ok x) is))

by-second : (params : Params) (key : List ℕ) (leaf : ℕ) (id : MessageId) (second : Option Second) (message : List ℕ)
    → IsAsk params (record { key = key; leaf = leaf; message = id; second = second }) message
    → ReadsBack (asks params) (ask_frame (record { key = key; leaf = leaf; message = id; second = second }) message) (record { key = key; leaf = leaf; message = id; second = second })
by-second params key leaf id None message is = first-again params key leaf id is.key is.leaf is.message_length is.hash
by-second params key leaf id (Some second) message is =
    let s = is.second in
    let e : id ≡ message_id message = s.id in
    let same : IsSecond params (record { key = key; leaf = leaf; message = message_id message; second = Some second }) message second =
    record { message_length = s.message_length; id = refl; c = s.c; tag = s.tag; digest = s.digest } in
    subst (λ i. ReadsBack (asks params) ((header_bytes 2 (52 + length second.c + length message) ++ key ++ u32str leaf ++ second.c ++ second.tag) ++ message)
    (record { key = key; leaf = leaf; message = i; second = Some second })) (sym e) (second-again params key leaf message second is.key is.leaf same)

pub ask-again : (params : Params) (ask : Ask) (message : List ℕ) → IsAsk params ask message → ReadsBack (asks params) (ask_frame ask message) ask
ask-again params ask message is = by-second params ask.key ask.leaf ask.message ask.second message is
