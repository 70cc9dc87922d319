-- Which words are a command. A word is the list of its bytes.
use Rattle.std.specs.Prelude.{◌≡◌, ◌≢◌, ⊤, ℕ, Bool, false, true, ◌==◌, ◌&&◌, ◌^◌, ◌-◌, ◌≤◌, nat_le, nat_lt, List, []}
use Rattle.std.specs.Prelude.{◌∷◌, length, replicate, slice_index_or, slice_set, Option, Some, None, is_some, IsTrue}
use Rattle.std.specs.Prelude.{if◌then◌else◌, codes}
use Rattle.std.specs.List.{All, after_first, before_first, list_any}
use Rattle.std.specs.Option.{ForSome, option_and_then, option_map, unwrap_or}
use Rattle.std.specs.Str.{all_ascii_digits, bytes_eq}
use Rattle.std.specs.Str.Parse.{digits_value}
use Rattle.tool_words.specs.declared.deal_words.DealFlags.{DealFlags}

-- the words after `deal`: k of n trustees, the prefix of the outputs' names, whether there is a commitment file among
-- them, and whether a large set may be dealt
pub record DealWords : Type 0 where
  pub entropy : List ℕ
  pub lms : ℕ
  pub ots : ℕ
  pub n : ℕ
  pub k : ℕ
  pub prefix : List ℕ
  pub commit : Bool
  pub large : Bool

-- the words after `trustee`: a book, or none
pub record TrusteeWords : Type 0 where
  pub share : List ℕ
  pub journal : List ℕ
  pub place : List ℕ
  pub workers : ℕ
  pub connections : ℕ
  pub book : Option (List ℕ)

-- the words after `sign` and after `blame`: the place of trustee t, or none, at t - 1
pub record SignWords : Type 0 where
  pub prefix : List ℕ
  pub table : List ℕ
  pub message : List ℕ
  pub out : List ℕ
  pub places : List (Option (List ℕ))

-- the words after `hss sign`: the place of trustee t, or none, at t - 1
pub record HssSignWords : Type 0 where
  pub prefix : List ℕ
  pub table : List ℕ
  pub low_key : List ℕ
  pub low_signature : List ℕ
  pub message : List ℕ
  pub key_out : List ℕ
  pub signature_out : List ℕ
  pub places : List (Option (List ℕ))

-- the words after `aggregate`: the place of trustee t, or none, at t - 1
pub record AggregateWords : Type 0 where
  pub prefix : List ℕ
  pub table : List ℕ
  pub place : List ℕ
  pub workers : ℕ
  pub connections : ℕ
  pub places : List (Option (List ℕ))

-- a command with its words
pub data Row : Type 0 where
  Verify : (key message signature : List ℕ) → Row
  Rehearse : (entropy message key_out signature_out : List ℕ) → Row
  Deal : (words : DealWords) → Row
  Enrol : (file journal : List ℕ) → Row
  Migrate : (share journal new : List ℕ) → Row
  Approve : (share book message : List ℕ) → Row
  Trustee : (words : TrusteeWords) → Row
  Sign : (words : SignWords) → Row
  Blame : (words : SignWords) → Row
  HssCheck : (key message signature : List ℕ) → Row
  HssSign : (words : HssSignWords) → Row
  Aggregate : (words : AggregateWords) → Row
  Drill : (number sessions events : ℕ) → Row
  Show : (file : List ℕ) → (leaves : Bool) → Row

-- the byte of `-`
abbrev pub dash : ℕ
dash = 45

-- the word begins with `-`
abbrev pub is_option : List ℕ → Bool
is_option [] = false
is_option (byte ∷ word) = byte == dash

-- one to ten decimal digits of a number below 2^32
abbrev pub is_number : List ℕ → Bool
is_number word =
    nat_le 1 (length word) && nat_le (length word) 10 && all_ascii_digits word && nat_lt (digits_value 10 word) (2 ^ 32)

-- the number that the word is, if it is one
unfoldable pub number_of : List ℕ → Option ℕ
number_of word = if is_number word then Some (digits_value 10 word) else None

-- the number that the word is, if it is one from `least` to `most`
abbrev pub number_within : ℕ → ℕ → List ℕ → Option ℕ
number_within least most word = elim (number_of word) [
  | None ↦ None
  | Some number ↦ if nat_le least number && nat_le number most then Some number else None
]

-- the byte is `=`
abbrev pub is_equals : ℕ → Bool
is_equals byte = byte == 61

-- the trustee's number and the place that an address word has: a number from 1 to 12, `=`, and a place
unfoldable pub address_of : List ℕ → Option (ℕ × List ℕ)
address_of word =
    if length (after_first is_equals word) == 0 then None else
    option_map (λ number. (number, after_first is_equals word)) (number_within 1 12 (before_first is_equals word))

-- the places with that of one more trustee, if it has none yet
abbrev pub with_place : List (Option (List ℕ)) → ℕ × List ℕ → Option (List (Option (List ℕ)))
with_place places address =
    if is_some (slice_index_or places (address.0 - 1) None) then None else
    Some (slice_set places (address.0 - 1) (Some address.1))

-- the places with that of an address word
unfoldable pub with_address : List (Option (List ℕ)) → List ℕ → Option (List (Option (List ℕ)))
with_address places word = option_and_then (with_place places) (address_of word)

-- the places with those of address words, in any order
abbrev pub with_addresses : List (Option (List ℕ)) → List (List ℕ) → Option (List (Option (List ℕ)))
with_addresses places [] = Some places
with_addresses places (word ∷ words) =
    option_and_then (λ places. with_addresses places words) (with_address places word)

-- the places of one to twelve address words
unfoldable pub places_of : List (List ℕ) → Option (List (Option (List ℕ)))
places_of words =
    if nat_le 1 (length words) && nat_le (length words) 12 then with_addresses (replicate 12 None) words else None

-- the places of words that are one to twelve address words
abbrev pub places_named : List (List ℕ) → List (Option (List ℕ))
places_named words = unwrap_or (places_of words) []

-- twelve places, some trustee's among them, and each has some byte
pub record HasPlaces (places : List (Option (List ℕ))) : Type 0 where
  pub count : length places ≡ 12
  pub some : IsTrue (list_any is_some places)
  pub full : All (λ place. ForSome place (λ name. 1 ≤ length name)) places

-- the row that three words make, if there are three
abbrev pub of_three : (List ℕ → List ℕ → List ℕ → Row) → List (List ℕ) → Option Row
of_three make (first ∷ second ∷ third ∷ []) = Some (make first second third)
of_three make words = None

-- the words after `verify`: a key, a message and a signature
abbrev pub verify_of : List (List ℕ) → Option Row
verify_of = of_three Verify

-- the words after `rehearse`; the outputs have different names
abbrev pub rehearse_of : List (List ℕ) → Option Row
rehearse_of (entropy ∷ message ∷ key_out ∷ signature_out ∷ []) =
    if bytes_eq key_out signature_out then None else Some (Rehearse entropy message key_out signature_out)
rehearse_of words = None

-- whether a flag is given: by the one word that is left, or by none
abbrev pub flag_of : (flag : List ℕ) → List (List ℕ) → Option Bool
flag_of flag [] = Some false
flag_of flag (word ∷ []) = if bytes_eq word flag then Some true else None
flag_of flag words = None

-- what may follow the prefix of `deal`: `commit`, `large` or nothing
abbrev pub deal_flags_of : List (List ℕ) → Option DealFlags
deal_flags_of [] = Some (record { commit = false; large = false })
deal_flags_of (word ∷ []) =
    if bytes_eq word (codes "commit") then Some (record { commit = true; large = false }) else
    if bytes_eq word (codes "large") then Some (record { commit = false; large = true }) else None
deal_flags_of words = None

-- the words after `deal`, with what follows the prefix; the outputs' names begin with some byte
abbrev pub deal_with : (entropy lms ots n k prefix : List ℕ) → DealFlags → Option Row
deal_with entropy lms ots n k prefix flags =
    if length prefix == 0 then None else
    elim (number_of lms) [
      | None ↦ None
      | Some lms ↦ elim (number_of ots) [
        | None ↦ None
        | Some ots ↦ elim (number_of n) [
          | None ↦ None
          | Some n ↦ elim (number_of k) [
            | None ↦ None
            | Some k ↦ Some (Deal (record {
              entropy = entropy;
              lms = lms;
              ots = ots;
              n = n;
              k = k;
              prefix = prefix;
              commit = flags.commit;
              large = flags.large;
            }))
          ]
        ]
      ]
    ]

-- the words after `deal`: six, and what may follow them
abbrev pub deal_of : List (List ℕ) → Option Row
deal_of (entropy ∷ lms ∷ ots ∷ n ∷ k ∷ prefix ∷ last) =
    option_and_then (deal_with entropy lms ots n k prefix) (deal_flags_of last)
deal_of words = None

-- the words after `enrol`
abbrev pub enrol_of : List (List ℕ) → Option Row
enrol_of (file ∷ journal ∷ []) = Some (Enrol file journal)
enrol_of words = None

-- the words after `migrate`: a share, a journal and the name of its copy
abbrev pub migrate_of : List (List ℕ) → Option Row
migrate_of = of_three Migrate

-- the words after `approve`: a share, a book and a message
abbrev pub approve_of : List (List ℕ) → Option Row
approve_of = of_three Approve

-- the words after `trustee`: 1 to 64 workers, with 1 to 2^32 - 1 connections each
abbrev pub trustee_with : (share journal place workers connections : List ℕ) → Option (List ℕ) → Option Row
trustee_with share journal place workers connections book = elim (number_within 1 64 workers) [
  | None ↦ None
  | Some workers ↦ elim (number_within 1 (2 ^ 32 - 1) connections) [
    | None ↦ None
    | Some connections ↦ Some (Trustee (record {
      share = share;
      journal = journal;
      place = place;
      workers = workers;
      connections = connections;
      book = book;
    }))
  ]
]

abbrev pub trustee_of : List (List ℕ) → Option Row
trustee_of (share ∷ journal ∷ place ∷ workers ∷ connections ∷ []) =
    trustee_with share journal place workers connections None
trustee_of (share ∷ journal ∷ place ∷ workers ∷ connections ∷ book ∷ []) =
    trustee_with share journal place workers connections (Some book)
trustee_of words = None

-- the words after `sign` and after `blame`; the names of the files of the dealing begin with some byte
abbrev pub sign_words_of : List (List ℕ) → Option SignWords
sign_words_of (prefix ∷ table ∷ message ∷ out ∷ addresses) =
    if length prefix == 0 then None else
    option_map
    (λ places. record { prefix = prefix; table = table; message = message; out = out; places = places })
    (places_of addresses)
sign_words_of words = None

-- the words after `hss check`: a key, a message and a signature
abbrev pub hss_check_of : List (List ℕ) → Option Row
hss_check_of = of_three HssCheck

-- the words after `hss sign`; the names of the files of the dealing begin with some byte, and the outputs have
-- different names
abbrev pub hss_sign_of : List (List ℕ) → Option Row
hss_sign_of (prefix ∷ table ∷ low_key ∷ low_signature ∷ message ∷ key_out ∷ signature_out ∷ addresses) =
    if length prefix == 0 then None else
    if bytes_eq key_out signature_out then None else
    option_map
    (λ places. HssSign (record {
      prefix = prefix;
      table = table;
      low_key = low_key;
      low_signature = low_signature;
      message = message;
      key_out = key_out;
      signature_out = signature_out;
      places = places;
    }))
    (places_of addresses)
hss_sign_of words = None

-- the words after `hss`: what is to be done, and its words
abbrev pub hss_of : List (List ℕ) → Option Row
hss_of [] = None
hss_of (name ∷ words) =
    if bytes_eq name (codes "check") then hss_check_of words else
    if bytes_eq name (codes "sign") then hss_sign_of words else None

-- the words after `aggregate`: the names of the files that it reads begin with some byte, and there are 1 to 64
-- workers, with 1 to 2^32 - 1 connections each
abbrev pub aggregate_of : List (List ℕ) → Option Row
aggregate_of (prefix ∷ table ∷ place ∷ workers ∷ connections ∷ addresses) =
    if length prefix == 0 then None else
    elim (number_within 1 64 workers) [
      | None ↦ None
      | Some workers ↦ elim (number_within 1 (2 ^ 32 - 1) connections) [
        | None ↦ None
        | Some connections ↦ option_map
            (λ places. Aggregate (record {
              prefix = prefix;
              table = table;
              place = place;
              workers = workers;
              connections = connections;
              places = places;
            }))
            (places_of addresses)
      ]
    ]
aggregate_of words = None

-- the words after `drill`: at most 10,000 sessions, and at most 100,000 events
abbrev pub drill_of : List (List ℕ) → Option Row
drill_of (number ∷ sessions ∷ events ∷ []) =
    elim (number_of number) [
      | None ↦ None
      | Some number ↦ elim (number_within 0 10000 sessions) [
        | None ↦ None
        | Some sessions ↦ option_map (λ events. Drill number sessions events) (number_within 0 100000 events)
      ]
    ]
drill_of words = None

-- the words after `show`: a file, and `leaves` or nothing
abbrev pub show_of : List (List ℕ) → Option Row
show_of (file ∷ last) = option_map (Show file) (flag_of (codes "leaves") last)
show_of words = None

-- the words of a command, its name first
abbrev pub row_of : List (List ℕ) → Option Row
row_of [] = None
row_of (name ∷ words) =
    if bytes_eq name (codes "verify") then verify_of words else
    if bytes_eq name (codes "rehearse") then rehearse_of words else
    if bytes_eq name (codes "deal") then deal_of words else
    if bytes_eq name (codes "enrol") then enrol_of words else
    if bytes_eq name (codes "migrate") then migrate_of words else
    if bytes_eq name (codes "approve") then approve_of words else
    if bytes_eq name (codes "trustee") then trustee_of words else
    if bytes_eq name (codes "sign") then option_map Sign (sign_words_of words) else
    if bytes_eq name (codes "blame") then option_map Blame (sign_words_of words) else
    if bytes_eq name (codes "hss") then hss_of words else
    if bytes_eq name (codes "aggregate") then aggregate_of words else
    if bytes_eq name (codes "drill") then drill_of words else
    if bytes_eq name (codes "show") then show_of words else None

-- the command that the words are, if they are one: none if a word begins with `-`
unfoldable pub command_of : List (List ℕ) → Option Row
command_of words = if list_any is_option words then None else row_of words

-- the outputs that a command names have different names
abbrev pub OutputsDiffer : Row → Type 0
OutputsDiffer (Verify key message signature) = ⊤
OutputsDiffer (Rehearse entropy message key_out signature_out) = key_out ≢ signature_out
OutputsDiffer (Deal words) = ⊤
OutputsDiffer (Enrol file journal) = ⊤
OutputsDiffer (Migrate share journal new) = ⊤
OutputsDiffer (Approve share book message) = ⊤
OutputsDiffer (Trustee words) = ⊤
OutputsDiffer (Sign words) = ⊤
OutputsDiffer (Blame words) = ⊤
OutputsDiffer (HssCheck key message signature) = ⊤
OutputsDiffer (HssSign words) = words.key_out ≢ words.signature_out
OutputsDiffer (Aggregate words) = ⊤
OutputsDiffer (Drill number sessions events) = ⊤
OutputsDiffer (Show file leaves) = ⊤
