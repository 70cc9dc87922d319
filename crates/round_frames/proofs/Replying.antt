-- A reply that is written is read.
use Rattle.std.proofs.Common.{◌≡◌, ◌≤◌, ◌*◌, ◌+◌, ◌++◌, ◌==◌, ◌||◌, ◌&&◌, ◌⊎◌, if◌then◌else◌, inl, inr, ℕ, zero, suc, Bool, List, [], ◌∷◌, Ok, true, false, length, replicate, refl, ap, sym, ◌∙◌, arith, append_assoc, append-nil, length-append, take_at, nat_le}
use Rattle.std.proofs.Math.Seq.{get_or-append_seam}
use Rattle.std.proofs.lemmas.Bool.{eq-eqb, eqb-true, le-leb}
use Rattle.std.proofs.lemmas.Bool.Decides.{nat_tests}
use Rattle.std.specs.List.{list_all}
use Rattle.std.specs.Prelude.{slice_index}
use Rattle.lms_bytes.specs.Bytes.{bytes_at, str_to_u32, u32str}
use Rattle.lms_bytes.specs.MessageId.{message_id_bytes}
use Rattle.lms_bytes.specs.declared.ask.ReplyHead.{ReplyHead}
use Rattle.lms_bytes.specs.declared.params.Params.{Params}
use Rattle.round_frames.specs.Frames.{ReadsBack, frame, header_bytes}
use Rattle.round_frames.specs.Replies.{HasParts, IsHead, Reply, body_length, head_length, head_of, head_parts, is_refusal, is_reply_length, kept_length, replies, reply_front, reply_in}
use Rattle.round_frames.proofs.Reading.{reply-split}
use Rattle.round_frames.proofs.Writing.{again-as, mid, number-again, reads-back, small-hash}

-- a byte after bytes
byte-at : (xs ys : List ℕ) (y n : ℕ) → length xs ≡ n → slice_index (xs ++ (y ∷ ys)) n ≡ y
byte-at xs ys y n e = ap (λ k. slice_index (xs ++ (y ∷ ys)) k) (sym e) ∙ get_or-append_seam xs y ys 0

abbrev head-by : List ℕ → ℕ → ℕ → ℕ → List ℕ → List ℕ → ℕ → ℕ → ReplyHead
head-by key leaf member size hash c round code =
    record { key = key; leaf = leaf; member = member; message = record { length = size; hash = hash }; round = round; c = c; code = code }

same-head : (key key2 : List ℕ) (leaf leaf2 member member2 size size2 : ℕ) (hash hash2 c : List ℕ) (round code : ℕ)
    → key2 ≡ key → leaf2 ≡ leaf → member2 ≡ member → size2 ≡ size → hash2 ≡ hash
    → head-by key2 leaf2 member2 size2 hash2 c round code ≡ head-by key leaf member size hash c round code
same-head key key2 leaf leaf2 member member2 size size2 hash hash2 c round code k l m s h = rw (k, l, m, s, h) refl

-- the parts of a head are read, whatever follows them
head-again : (params : Params) (head : ReplyHead) (more c : List ℕ) (round code : ℕ) → HasParts head
    → head_of (head_parts head ++ more) c round code ≡ head-by head.key head.leaf head.member head.message.length head.message.hash c round code
head-again params head more c round code has =
    let key = head.key in
    let leaf = u32str head.leaf in
    let member = head.member in
    let size = u32str head.message.length in
    let hash = head.message.hash in
    let x = key ++ leaf in
    let all = head_parts head ++ more in
    let twenty : length x ≡ 20 = length-append key leaf ∙ ap (λ n. n + 4) has.key in
    let a : all ≡ x ++ (member ∷ ((size ++ hash) ++ more)) = append_assoc x (member ∷ (size ++ hash)) more in
    let b : all ≡ key ++ (leaf ++ (member ∷ ((size ++ hash) ++ more))) = a ∙ append_assoc key leaf (member ∷ ((size ++ hash) ++ more)) in
    let y = x ++ (member ∷ []) in
    let d : all ≡ y ++ (size ++ (hash ++ more)) =
    a ∙ ap (λ t. x ++ (member ∷ t)) (append_assoc size hash more) ∙ sym (append_assoc x (member ∷ []) (size ++ (hash ++ more))) in
    let long-y : length y ≡ 21 = length-append x (member ∷ []) ∙ ap (λ n. n + 1) twenty in
    let e : all ≡ (y ++ size) ++ (hash ++ more) = d ∙ sym (append_assoc y size (hash ++ more)) in
    let long-z : length (y ++ size) ≡ 25 = length-append y size ∙ ap (λ n. n + 4) long-y in
    same-head key (bytes_at all 0 16) head.leaf (str_to_u32 (bytes_at all 16 4)) member (slice_index all 20) head.message.length (str_to_u32 (bytes_at all 21 4)) hash (bytes_at all 25 32) c round code
    (ap (λ t. bytes_at t 0 16) b ∙ take_at key (leaf ++ (member ∷ ((size ++ hash) ++ more))) 16 has.key)
    (ap (λ t. str_to_u32 (bytes_at t 16 4)) b ∙ ap str_to_u32 (mid key leaf (member ∷ ((size ++ hash) ++ more)) 16 4 has.key refl) ∙ number-again head.leaf has.leaf)
    (ap (λ t. slice_index t 20) a ∙ byte-at x ((size ++ hash) ++ more) member 20 twenty)
    (ap (λ t. str_to_u32 (bytes_at t 21 4)) d ∙ ap str_to_u32 (mid y size (hash ++ more) 21 4 long-y refl) ∙ number-again head.message.length has.message_length)
    (ap (λ t. bytes_at t 25 32) e ∙ mid (y ++ size) hash more 25 32 long-z has.hash)

parts-length : (head : ReplyHead) → HasParts head → length (head_parts head) ≡ 57
parts-length head has =
    let x = head.key ++ u32str head.leaf in
    let twenty : length x ≡ 20 = length-append head.key (u32str head.leaf) ∙ ap (λ n. n + 4) has.key in
    let id : length (message_id_bytes head.message) ≡ 36 = length-append (u32str head.message.length) head.message.hash ∙ ap (λ n. 4 + n) has.hash in
    length-append x (head.member ∷ message_id_bytes head.message) ∙ omega (arith, twenty, id)

abbrev is-kind : ℕ → Bool
is-kind kind = kind == 3 || kind == 4 || kind == 5

-- a head and its body, of one of the kinds
reply-back : (params : Params) (kind : ℕ) (head body : List ℕ) (reply : Reply) → is-kind kind ≡ true → length head ≡ head_length params.n kind
    → length (head ++ body) ≤ 9000 → is_reply_length params (record { kind = kind; length = length (head ++ body) }) ≡ true
    → reply_in params.n kind head body ≡ Ok reply → ReadsBack (replies params) (frame kind (head ++ body)) reply
reply-back params kind head body reply reads long le fits is =
    reads-back (replies params) kind (head ++ body) reply (omega (arith, le)) reads (omega (arith, le)) fits (reply-split params.n kind head body long ∙ is)

-- the front is written in one, and the body after it
front-then : (params : Params) (kind size : ℕ) (head body : List ℕ) (reply : Reply) → length (head ++ body) ≡ size
    → ReadsBack (replies params) (frame kind (head ++ body)) reply → ReadsBack (replies params) ((header_bytes kind size ++ head) ++ body) reply
front-then params kind size head body reply e reads =
    again-as (replies params) reply (frame kind (head ++ body)) ((header_bytes kind size ++ head) ++ body)
    (ap (λ n. header_bytes kind n ++ (head ++ body)) e ∙ sym (append_assoc (header_bytes kind size) head body)) reads

same-number : (k : ℕ) → (k == k) ≡ true
same-number k = eq-eqb k k refl

read-mask : (n : ℕ) (front body : List ℕ) → reply_in n 3 front body ≡ Ok (head_of front (replicate n 0) 1 0, body)
unfolding reply_in
read-mask n front body = refl

read-masks : (n : ℕ) (front body : List ℕ) → reply_in n 4 front body ≡ Ok (head_of front (bytes_at front 57 n) 2 0, body)
unfolding reply_in
read-masks n front body = refl

by-fields : (head : ReplyHead) (c : List ℕ) (round code : ℕ) → head.c ≡ c → head.round ≡ round → head.code ≡ code
    → head-by head.key head.leaf head.member head.message.length head.message.hash c round code ≡ head
by-fields head c round code a b d = rw (← a, ← b, ← d) refl

mask-again : (params : Params) (head : ReplyHead) (body : List ℕ) → HasParts head → length body ≡ params.n → head.c ≡ replicate params.n 0 → head.round ≡ 1 → head.code ≡ 0
    → ReadsBack (replies params) ((header_bytes 3 (57 + params.n) ++ (head_parts head ++ [])) ++ body) (head, body)
mask-again params head body has size c round code =
    let front = head_parts head ++ [] in
    let long : length front ≡ 57 = ap length (append-nil (head_parts head)) ∙ parts-length head has in
    let all : length (front ++ body) ≡ 57 + params.n = length-append front body ∙ omega (arith, long, size) in
    let n = small-hash params in
    let is : reply_in params.n 3 front body ≡ Ok (head, body) = read-mask params.n front body ∙ ap (λ h. Ok (h, body)) (head-again params head [] (replicate params.n 0) 1 0 has ∙ by-fields head (replicate params.n 0) 1 0 c round code) in
    front-then params 3 (57 + params.n) front body (head, body) all
    (reply-back params 3 front body (head, body) refl long (omega (arith, all, n)) (ap (λ k. k == 57 + params.n) all ∙ same-number (57 + params.n)) is)

masks-again : (params : Params) (head : ReplyHead) (body : List ℕ) → HasParts head → length head.c ≡ params.n → length body ≡ params.p * params.n → head.round ≡ 2 → head.code ≡ 0
    → ReadsBack (replies params) ((header_bytes 4 (57 + params.n + params.p * params.n) ++ (head_parts head ++ head.c)) ++ body) (head, body)
masks-again params head body has c size round code =
    let front = head_parts head ++ head.c in
    let parts = parts-length head has in
    let long : length front ≡ 57 + params.n = length-append (head_parts head) head.c ∙ omega (arith, parts, c) in
    let all : length (front ++ body) ≡ 57 + params.n + params.p * params.n = length-append front body ∙ omega (arith, long, size) in
    let n = small-hash params in
    let most = params.chains_length in
    let back : bytes_at front 57 params.n ≡ head.c = ap (λ t. bytes_at (head_parts head ++ t) 57 params.n) (sym (append-nil head.c)) ∙ mid (head_parts head) head.c [] 57 params.n parts c in
    let is : reply_in params.n 4 front body ≡ Ok (head, body) = read-masks params.n front body ∙ ap (λ r. Ok (head_of front r 2 0, body)) back
    ∙ ap (λ h. Ok (h, body)) (head-again params head head.c head.c 2 0 has ∙ by-fields head head.c 2 0 refl round code) in
    front-then params 4 (57 + params.n + params.p * params.n) front body (head, body) all
    (reply-back params 4 front body (head, body) refl long (omega (arith, all, n, most)) (ap (λ k. k == 57 + params.n + params.p * params.n) all ∙ same-number (57 + params.n + params.p * params.n)) is)

or-second : (a c d : Bool) → (a || true || c || d) ≡ true
or-second true c d = refl
or-second false c d = refl

or-third : (a b d : Bool) → (a || b || true || d) ≡ true
or-third true b d = refl
or-third false true d = refl
or-third false false d = refl

or-fourth : (a b c : Bool) → (a || b || c || true) ≡ true
or-fourth true b c = refl
or-fourth false true c = refl
or-fourth false false true = refl
or-fourth false false false = refl

abbrev kept-by : ℕ → Bool → Bool → Bool → ℕ
kept-by n a b c = if a then 2 else if b then 36 else if c then 2 * n else 0

kept-fits : (n size : ℕ) (a b c : Bool) → size ≡ 59 + n + kept-by n a b c
    → (size == 59 + n || size == 61 + n || size == 95 + n || size == 59 + 3 * n) ≡ true
kept-fits n size true b c e =
    let t : (size == 61 + n) ≡ true = eq-eqb size (61 + n) (omega (arith, e)) in
    rw t (or-second (size == 59 + n) (size == 95 + n) (size == 59 + 3 * n))
kept-fits n size false true c e =
    let t : (size == 95 + n) ≡ true = eq-eqb size (95 + n) (omega (arith, e)) in
    rw t (or-third (size == 59 + n) (size == 61 + n) (size == 59 + 3 * n))
kept-fits n size false false true e =
    let t : (size == 59 + 3 * n) ≡ true = eq-eqb size (59 + 3 * n) (omega (arith, e)) in
    rw t (or-fourth (size == 59 + n) (size == 61 + n) (size == 95 + n))
kept-fits n size false false false e =
    let t : (size == 59 + n) ≡ true = eq-eqb size (59 + n) (omega (arith, e)) in
    rw t refl

kept-small-by : (n : ℕ) (a b c : Bool) → n ≤ 32 → kept-by n a b c ≤ 64
kept-small-by n true b c le = omega arith
kept-small-by n false true c le = omega arith
kept-small-by n false false true le = omega arith
kept-small-by n false false false le = omega arith

kept-small : (n code : ℕ) → n ≤ 32 → kept_length n code ≤ 64
kept-small n code le = kept-small-by n (code == 7) (code == 9) (code == 10) le

zeros : (n : ℕ) → list_all (λ byte. byte == 0) (replicate n 0) ≡ true
zeros zero = refl
zeros (suc n) = zeros n

abbrev refusal-test : ℕ → ℕ → ℕ → List ℕ → List ℕ → Bool
refusal-test n round code c body =
    (round == 1 || round == 2) && (nat_le 1 code && nat_le code 12) && length body == kept_length n code
    && (round == 2 || list_all (λ byte. byte == 0) c)

test-true : (n round code : ℕ) (c body : List ℕ) → (round ≡ 1) ⊎ (round ≡ 2) → 1 ≤ code → code ≤ 12 → length body ≡ kept_length n code
    → (round ≡ 1 → c ≡ replicate n 0) → refusal-test n round code c body ≡ true
test-true n round code c body (inl one) low high size blank =
    let l : nat_le 1 code ≡ true = le-leb 1 code low in
    let h : nat_le code 12 ≡ true = le-leb code 12 high in
    let k : (length body == kept_length n code) ≡ true = eq-eqb (length body) (kept_length n code) size in
    let z : list_all (λ byte. byte == 0) c ≡ true = ap (list_all (λ byte. byte == 0)) (blank one) ∙ zeros n in
    rw (one, l, h, k, z) refl
test-true n round code c body (inr two) low high size blank =
    let l : nat_le 1 code ≡ true = le-leb 1 code low in
    let h : nat_le code 12 ≡ true = le-leb code 12 high in
    let k : (length body == kept_length n code) ≡ true = eq-eqb (length body) (kept_length n code) size in
    rw (two, l, h, k) refl

read-refusal : (n : ℕ) (front body : List ℕ) → is_refusal n front body ≡ true
    → reply_in n 5 front body ≡ Ok (head_of front (bytes_at front 57 n) (slice_index front (57 + n)) (slice_index front (58 + n)), body)
unfolding reply_in
read-refusal n front body is = rw (reply_in, is) refl

refusal-again : (params : Params) (head : ReplyHead) (body : List ℕ) → HasParts head → IsHead params head → 1 ≤ head.code → length body ≡ kept_length params.n head.code
    → ReadsBack (replies params) ((header_bytes 5 (59 + params.n + kept_length params.n head.code) ++ (head_parts head ++ (head.c ++ (head.round ∷ head.code ∷ [])))) ++ body) (head, body)
refusal-again params head body has is low size =
    let n = params.n in
    let c = head.c in
    let parts = head_parts head in
    let tail = head.round ∷ head.code ∷ [] in
    let front = parts ++ (c ++ tail) in
    let first = parts-length head has in
    let wide = is.c in
    let two : front ≡ (parts ++ c) ++ (head.round ∷ (head.code ∷ [])) = sym (append_assoc parts c tail) in
    let three : front ≡ ((parts ++ c) ++ (head.round ∷ [])) ++ (head.code ∷ []) = two ∙ sym (append_assoc (parts ++ c) (head.round ∷ []) (head.code ∷ [])) in
    let long-c : length (parts ++ c) ≡ 57 + n = length-append parts c ∙ omega (arith, first, wide) in
    let long-r : length ((parts ++ c) ++ (head.round ∷ [])) ≡ 58 + n = length-append (parts ++ c) (head.round ∷ []) ∙ omega (arith, long-c) in
    let long : length front ≡ 59 + n = ap length two ∙ length-append (parts ++ c) tail ∙ omega (arith, long-c) in
    let all : length (front ++ body) ≡ 59 + n + kept_length n head.code = length-append front body ∙ omega (arith, long, size) in
    let round-is : slice_index front (57 + n) ≡ head.round = ap (λ t. slice_index t (57 + n)) two ∙ byte-at (parts ++ c) (head.code ∷ []) head.round (57 + n) long-c in
    let code-is : slice_index front (58 + n) ≡ head.code = ap (λ t. slice_index t (58 + n)) three ∙ byte-at ((parts ++ c) ++ (head.round ∷ [])) [] head.code (58 + n) long-r in
    let c-is : bytes_at front 57 n ≡ c = mid parts c tail 57 n first wide in
    let passes : is_refusal n front body ≡ true = ap (λ r. refusal-test n r (slice_index front (58 + n)) (bytes_at front 57 n) body) round-is
    ∙ ap (λ k. refusal-test n head.round k (bytes_at front 57 n) body) code-is ∙ ap (λ x. refusal-test n head.round head.code x body) c-is
    ∙ test-true n head.round head.code c body is.round low is.code size is.zero in
    let reply : reply_in n 5 front body ≡ Ok (head, body) = read-refusal n front body passes
    ∙ ap (λ r. Ok (head_of front (bytes_at front 57 n) r (slice_index front (58 + n)), body)) round-is
    ∙ ap (λ k. Ok (head_of front (bytes_at front 57 n) head.round k, body)) code-is
    ∙ ap (λ x. Ok (head_of front x head.round head.code, body)) c-is
    ∙ ap (λ h. Ok (h, body)) (head-again params head (c ++ tail) c head.round head.code has ∙ by-fields head c head.round head.code refl refl refl) in
    let small = small-hash params in
    let kept = kept-small n head.code small in
    front-then params 5 (59 + n + kept_length n head.code) front body (head, body) all
    (reply-back params 5 front body (head, body) refl long (omega (arith, all, small, kept)) (kept-fits n (length (front ++ body)) (head.code == 7) (head.code == 9) (head.code == 10) all) reply)

other-round : (round : ℕ) → (round ≡ 1) ⊎ (round ≡ 2) → (round == 1) ≡ false → round ≡ 2
other-round round (inl one) other = absurd (let same : (round == 1) ≡ true = eq-eqb round 1 one in cc)
other-round round (inr two) other = two

not-zero : (code : ℕ) → (code == 0) ≡ false → 1 ≤ code
not-zero code other = grind (arith, nat_tests, other)

by-code : (params : Params) (head : ReplyHead) (body : List ℕ) (masks first : Bool) → (head.code == 0) ≡ masks → (head.round == 1) ≡ first → HasParts head → IsHead params head
    → length body ≡ body_length params head → ReadsBack (replies params) (reply_front params head ++ body) (head, body)
by-code params head body true true z o has is size =
    let code : head.code ≡ 0 = eqb-true head.code 0 z in
    let round : head.round ≡ 1 = eqb-true head.round 1 o in
    let long : length body ≡ params.n = size ∙ rw (z, o) refl in
    rw (z, o) (mask-again params head body has long (is.zero round) round code)
by-code params head body true false z o has is size =
    let code : head.code ≡ 0 = eqb-true head.code 0 z in
    let round : head.round ≡ 2 = other-round head.round is.round o in
    let long : length body ≡ params.p * params.n = size ∙ rw (z, o) refl in
    rw (z, o) (masks-again params head body has is.c long round code)
by-code params head body false one z o has is size =
    let low : 1 ≤ head.code = not-zero head.code z in
    let long : length body ≡ kept_length params.n head.code = size ∙ rw z refl in
    rw z (refusal-again params head body has is low long)

pub reply-again : (params : Params) (head : ReplyHead) (body : List ℕ) → HasParts head → IsHead params head → length body ≡ body_length params head
    → ReadsBack (replies params) (reply_front params head ++ body) (head, body)
reply-again params head body has is size = by-code params head body (head.code == 0) (head.round == 1) refl refl has is size
