-- The names of a command's outputs.
use Rattle.std.proofs.Common.{◌≡◌, ◌≢◌, ◌==◌, ◌^◌, ◌-◌, length, ℕ, Bool, true, false, List, [], ◌∷◌, Option, None, Some, if◌then◌else◌, refl, subst}
use Rattle.std.specs.List.{list_any}
use Rattle.std.specs.Prelude.{codes}
use Rattle.std.specs.Option.{option_and_then, option_map}
use Rattle.std.specs.Str.{bytes_eq}
use Rattle.std.proofs.lemmas.Slice.Eq.{bytes_eq-Decides}
use Rattle.tool_words.specs.Words.{Aggregate, AggregateWords, Approve, Blame, Deal, DealWords, Drill, Enrol, HssCheck, HssSign, HssSignWords, Migrate}
use Rattle.tool_words.specs.declared.deal_words.DealFlags.{DealFlags}
use Rattle.tool_words.specs.Words.{OutputsDiffer, Rehearse, Row, Sign, SignWords, Trustee, TrusteeWords, Verify, aggregate_of, approve_of, command_of, deal_flags_of, deal_of}
use Rattle.tool_words.specs.Words.{deal_with, drill_of, enrol_of, flag_of, hss_check_of, hss_of, hss_sign_of, is_option, migrate_of, number_of, number_within, of_three, places_of}
use Rattle.tool_words.specs.Words.{Show, rehearse_of, row_of, show_of, sign_words_of, trustee_of, verify_of}

-- of two rows the one that the test takes
taken : (test : Bool) (a b : Option Row) (row : Row) → ((r : Row) → a ≡ Some r → OutputsDiffer r) → ((r : Row) → b ≡ Some r → OutputsDiffer r)
    → (if test then a else b) ≡ Some row → OutputsDiffer row
taken true a b row one two is = one row is
taken false a b row one two is = two row is

none : (row : Row) → None ≡ Some row → OutputsDiffer row
none row is = absurd (cc)

three_differ : (make : List ℕ → List ℕ → List ℕ → Row) → ((a b c : List ℕ) → OutputsDiffer (make a b c))
    → (words : List (List ℕ)) (row : Row) → of_three make words ≡ Some row → OutputsDiffer row
three_differ make differ [] row is = absurd (cc)
three_differ make differ (a ∷ []) row is = absurd (cc)
three_differ make differ (a ∷ b ∷ []) row is = absurd (cc)
three_differ make differ (a ∷ b ∷ c ∷ []) row is = let same : make a b c ≡ row = cc in subst OutputsDiffer same (differ a b c)
three_differ make differ (a ∷ b ∷ c ∷ d ∷ more) row is = absurd (cc)

-- with a flag or without, or none
with_flag : {A : Type 0} (make : A → Option Row) → ((flag : A) (row : Row) → make flag ≡ Some row → OutputsDiffer row)
    → (flag : Option A) (row : Row) → option_and_then make flag ≡ Some row → OutputsDiffer row
with_flag make differ None row is = absurd (cc)
with_flag make differ (Some flag) row is = differ flag row is

-- two names that the test finds different
unequal : (c d : List ℕ) → bytes_eq c d ≡ false → c ≢ d
unequal c d differ = λ equal. let yes = (bytes_eq-Decides c d).1 equal in absurd (cc)

pair_differs : (a b c d : List ℕ) (test : Bool) (row : Row) → test ≡ bytes_eq c d → (if test then None else Some (Rehearse a b c d)) ≡ Some row → OutputsDiffer row
pair_differs a b c d true row tests is = absurd (cc)
pair_differs a b c d false row tests is =
    let same : Rehearse a b c d ≡ row = cc in
    subst OutputsDiffer same (unequal c d (cc))

rehearse_differ : (words : List (List ℕ)) (row : Row) → rehearse_of words ≡ Some row → OutputsDiffer row
rehearse_differ [] row is = absurd (cc)
rehearse_differ (a ∷ []) row is = absurd (cc)
rehearse_differ (a ∷ b ∷ []) row is = absurd (cc)
rehearse_differ (a ∷ b ∷ c ∷ []) row is = absurd (cc)
rehearse_differ (a ∷ b ∷ c ∷ d ∷ []) row is = pair_differs a b c d (bytes_eq c d) row refl is
rehearse_differ (a ∷ b ∷ c ∷ d ∷ e ∷ more) row is = absurd (cc)

-- with four numbers or fewer
with_numbers : (entropy prefix : List ℕ) (lms ots n k : Option ℕ) (flags : DealFlags) (row : Row)
    → elim lms [
      | None ↦ None
      | Some lms ↦ elim ots [
        | None ↦ None
        | Some ots ↦ elim n [
          | None ↦ None
          | Some n ↦ elim k [
            | None ↦ None
            | Some k ↦ Some (Deal (record { entropy = entropy; lms = lms; ots = ots; n = n; k = k; prefix = prefix; commit = flags.commit; large = flags.large }))
          ]
        ]
      ]
    ] ≡ Some row → OutputsDiffer row
with_numbers entropy prefix None ots n k flags row is = absurd (cc)
with_numbers entropy prefix (Some lms) None n k flags row is = absurd (cc)
with_numbers entropy prefix (Some lms) (Some ots) None k flags row is = absurd (cc)
with_numbers entropy prefix (Some lms) (Some ots) (Some n) None flags row is = absurd (cc)
with_numbers entropy prefix (Some lms) (Some ots) (Some n) (Some k) flags row is =
    let words : DealWords = record { entropy = entropy; lms = lms; ots = ots; n = n; k = k; prefix = prefix; commit = flags.commit; large = flags.large } in
    let same : Deal words ≡ row = cc in
    subst OutputsDiffer same tt

deal_with_differs : (a b c d e f : List ℕ) (flags : DealFlags) (row : Row) → deal_with a b c d e f flags ≡ Some row → OutputsDiffer row
deal_with_differs a b c d e f flags row is =
    taken (length f == 0) None _ row none (with_numbers a f (number_of b) (number_of c) (number_of d) (number_of e) flags) is

deal_differ : (words : List (List ℕ)) (row : Row) → deal_of words ≡ Some row → OutputsDiffer row
deal_differ [] row is = absurd (cc)
deal_differ (a ∷ []) row is = absurd (cc)
deal_differ (a ∷ b ∷ []) row is = absurd (cc)
deal_differ (a ∷ b ∷ c ∷ []) row is = absurd (cc)
deal_differ (a ∷ b ∷ c ∷ d ∷ []) row is = absurd (cc)
deal_differ (a ∷ b ∷ c ∷ d ∷ e ∷ []) row is = absurd (cc)
deal_differ (a ∷ b ∷ c ∷ d ∷ e ∷ f ∷ more) row is =
    with_flag (deal_with a b c d e f) (deal_with_differs a b c d e f) (deal_flags_of more) row is

enrol_differ : (words : List (List ℕ)) (row : Row) → enrol_of words ≡ Some row → OutputsDiffer row
enrol_differ [] row is = absurd (cc)
enrol_differ (a ∷ []) row is = absurd (cc)
enrol_differ (a ∷ b ∷ []) row is = let same : Enrol a b ≡ row = cc in subst OutputsDiffer same tt
enrol_differ (a ∷ b ∷ c ∷ more) row is = absurd (cc)

-- with two numbers or fewer
with_service : (share journal place : List ℕ) (workers connections : Option ℕ) (book : Option (List ℕ)) (row : Row)
    → elim workers [
      | None ↦ None
      | Some workers ↦ elim connections [
        | None ↦ None
        | Some connections ↦ Some (Trustee (record {
          share = share;
          journal = journal;
          place = place;
          workers = workers;
          connections = connections;
          book = book;
        }))
      ]
    ] ≡ Some row → OutputsDiffer row
with_service share journal place None connections book row is = absurd (cc)
with_service share journal place (Some workers) None book row is = absurd (cc)
with_service share journal place (Some workers) (Some connections) book row is =
    let words : TrusteeWords = record { share = share; journal = journal; place = place; workers = workers; connections = connections; book = book } in
    let same : Trustee words ≡ row = cc in
    subst OutputsDiffer same tt

trustee_differ : (words : List (List ℕ)) (row : Row) → trustee_of words ≡ Some row → OutputsDiffer row
trustee_differ [] row is = absurd (cc)
trustee_differ (a ∷ []) row is = absurd (cc)
trustee_differ (a ∷ b ∷ []) row is = absurd (cc)
trustee_differ (a ∷ b ∷ c ∷ []) row is = absurd (cc)
trustee_differ (a ∷ b ∷ c ∷ d ∷ []) row is = absurd (cc)
trustee_differ (a ∷ b ∷ c ∷ d ∷ e ∷ []) row is = with_service a b c (number_within 1 64 d) (number_within 1 (2 ^ 32 - 1) e) None row is
trustee_differ (a ∷ b ∷ c ∷ d ∷ e ∷ f ∷ []) row is = with_service a b c (number_within 1 64 d) (number_within 1 (2 ^ 32 - 1) e) (Some f) row is
trustee_differ (a ∷ b ∷ c ∷ d ∷ e ∷ f ∷ g ∷ more) row is = absurd (cc)

-- a command of words, or none
with_words : (make : SignWords → Row) → ((words : SignWords) → OutputsDiffer (make words)) → (words : Option SignWords) (row : Row)
    → option_map make words ≡ Some row → OutputsDiffer row
with_words make differ None row is = absurd (cc)
with_words make differ (Some words) row is = let same : make words ≡ row = cc in subst OutputsDiffer same (differ words)

-- with places or none
with_outputs : (a b c d e f g : List ℕ) (places : Option (List (Option (List ℕ)))) (row : Row) → f ≢ g
    → option_map (λ places. HssSign (record {
      prefix = a;
      table = b;
      low_key = c;
      low_signature = d;
      message = e;
      key_out = f;
      signature_out = g;
      places = places;
    })) places ≡ Some row
    → OutputsDiffer row
with_outputs a b c d e f g None row differ is = absurd (cc)
with_outputs a b c d e f g (Some places) row differ is =
    let words : HssSignWords = record { prefix = a; table = b; low_key = c; low_signature = d; message = e; key_out = f; signature_out = g; places = places } in
    let same : HssSign words ≡ row = cc in
    subst OutputsDiffer same differ

outputs_named : (a b c d e f g : List ℕ) (places : Option (List (Option (List ℕ)))) (test : Bool) (row : Row) → test ≡ bytes_eq f g
    → (if test then None else option_map (λ places. HssSign (record {
      prefix = a;
      table = b;
      low_key = c;
      low_signature = d;
      message = e;
      key_out = f;
      signature_out = g;
      places = places;
    })) places) ≡ Some row
    → OutputsDiffer row
outputs_named a b c d e f g places true row tests is = absurd (cc)
outputs_named a b c d e f g places false row tests is = with_outputs a b c d e f g places row (unequal f g (cc)) is

hss_sign_differ : (words : List (List ℕ)) (row : Row) → hss_sign_of words ≡ Some row → OutputsDiffer row
hss_sign_differ [] row is = absurd (cc)
hss_sign_differ (a ∷ []) row is = absurd (cc)
hss_sign_differ (a ∷ b ∷ []) row is = absurd (cc)
hss_sign_differ (a ∷ b ∷ c ∷ []) row is = absurd (cc)
hss_sign_differ (a ∷ b ∷ c ∷ d ∷ []) row is = absurd (cc)
hss_sign_differ (a ∷ b ∷ c ∷ d ∷ e ∷ []) row is = absurd (cc)
hss_sign_differ (a ∷ b ∷ c ∷ d ∷ e ∷ f ∷ []) row is = absurd (cc)
hss_sign_differ (a ∷ b ∷ c ∷ d ∷ e ∷ f ∷ g ∷ more) row is =
    taken (length a == 0) None _ row none (λ row is. outputs_named a b c d e f g (places_of more) (bytes_eq f g) row refl is) is

hss_differ : (words : List (List ℕ)) (row : Row) → hss_of words ≡ Some row → OutputsDiffer row
hss_differ [] row is = absurd (cc)
hss_differ (name ∷ words) row is =
    taken (bytes_eq name (codes "check")) (hss_check_of words) _ row (three_differ HssCheck (λ a b c. tt) words)
    (λ row is. taken (bytes_eq name (codes "sign")) (hss_sign_of words) None row (hss_sign_differ words) none is) is

-- with places or none, and two numbers or fewer
with_members : (prefix table place : List ℕ) (workers connections : Option ℕ) (places : Option (List (Option (List ℕ)))) (row : Row)
    → elim workers [
      | None ↦ None
      | Some workers ↦ elim connections [
        | None ↦ None
        | Some connections ↦ option_map (λ places. Aggregate (record { prefix = prefix; table = table; place = place; workers = workers; connections = connections; places = places })) places
      ]
    ] ≡ Some row → OutputsDiffer row
with_members prefix table place None connections places row is = absurd (cc)
with_members prefix table place (Some workers) None places row is = absurd (cc)
with_members prefix table place (Some workers) (Some connections) None row is = absurd (cc)
with_members prefix table place (Some workers) (Some connections) (Some places) row is =
    let words : AggregateWords = record { prefix = prefix; table = table; place = place; workers = workers; connections = connections; places = places } in
    let same : Aggregate words ≡ row = cc in
    subst OutputsDiffer same tt

aggregate_differ : (words : List (List ℕ)) (row : Row) → aggregate_of words ≡ Some row → OutputsDiffer row
aggregate_differ [] row is = absurd (cc)
aggregate_differ (a ∷ []) row is = absurd (cc)
aggregate_differ (a ∷ b ∷ []) row is = absurd (cc)
aggregate_differ (a ∷ b ∷ c ∷ []) row is = absurd (cc)
aggregate_differ (a ∷ b ∷ c ∷ d ∷ []) row is = absurd (cc)
aggregate_differ (a ∷ b ∷ c ∷ d ∷ e ∷ more) row is =
    taken (length a == 0) None _ row none (with_members a b c (number_within 1 64 d) (number_within 1 (2 ^ 32 - 1) e) (places_of more)) is

-- with three numbers or fewer
with_drill : (number sessions events : Option ℕ) (row : Row)
    → elim number [
      | None ↦ None
      | Some number ↦ elim sessions [
        | None ↦ None
        | Some sessions ↦ option_map (λ events. Drill number sessions events) events
      ]
    ] ≡ Some row → OutputsDiffer row
with_drill None sessions events row is = absurd (cc)
with_drill (Some number) None events row is = absurd (cc)
with_drill (Some number) (Some sessions) None row is = absurd (cc)
with_drill (Some number) (Some sessions) (Some events) row is =
    let same : Drill number sessions events ≡ row = cc in subst OutputsDiffer same tt

drill_differ : (words : List (List ℕ)) (row : Row) → drill_of words ≡ Some row → OutputsDiffer row
drill_differ [] row is = absurd (cc)
drill_differ (a ∷ []) row is = absurd (cc)
drill_differ (a ∷ b ∷ []) row is = absurd (cc)
drill_differ (a ∷ b ∷ c ∷ []) row is = with_drill (number_of a) (number_within 0 10000 b) (number_within 0 100000 c) row is
drill_differ (a ∷ b ∷ c ∷ d ∷ more) row is = absurd (cc)

show_differ : (words : List (List ℕ)) (row : Row) → show_of words ≡ Some row → OutputsDiffer row
show_differ [] row is = absurd (cc)
show_differ (a ∷ more) row is =
    with_flag (λ leaves. Some (Show a leaves)) (λ leaves row is. let same : Show a leaves ≡ row = cc in subst OutputsDiffer same tt)
    (flag_of (codes "leaves") more) row is

row_differs : (words : List (List ℕ)) (row : Row) → row_of words ≡ Some row → OutputsDiffer row
row_differs [] row is = absurd (cc)
row_differs (name ∷ words) row is =
    taken (bytes_eq name (codes "verify")) (verify_of words) _ row (three_differ Verify (λ a b c. tt) words)
    (λ row is. taken (bytes_eq name (codes "rehearse")) (rehearse_of words) _ row (rehearse_differ words)
    (λ row is. taken (bytes_eq name (codes "deal")) (deal_of words) _ row (deal_differ words)
    (λ row is. taken (bytes_eq name (codes "enrol")) (enrol_of words) _ row (enrol_differ words)
    (λ row is. taken (bytes_eq name (codes "migrate")) (migrate_of words) _ row (three_differ Migrate (λ a b c. tt) words)
    (λ row is. taken (bytes_eq name (codes "approve")) (approve_of words) _ row (three_differ Approve (λ a b c. tt) words)
    (λ row is. taken (bytes_eq name (codes "trustee")) (trustee_of words) _ row (trustee_differ words)
    (λ row is. taken (bytes_eq name (codes "sign")) (option_map Sign (sign_words_of words)) _ row (with_words Sign (λ words. tt) (sign_words_of words))
    (λ row is. taken (bytes_eq name (codes "blame")) (option_map Blame (sign_words_of words)) _ row (with_words Blame (λ words. tt) (sign_words_of words))
    (λ row is. taken (bytes_eq name (codes "hss")) (hss_of words) _ row (hss_differ words)
    (λ row is. taken (bytes_eq name (codes "aggregate")) (aggregate_of words) _ row (aggregate_differ words)
    (λ row is. taken (bytes_eq name (codes "drill")) (drill_of words) _ row (drill_differ words)
    (λ row is. taken (bytes_eq name (codes "show")) (show_of words) None row (show_differ words) none is) is) is) is) is) is) is) is) is) is) is) is) is

pub outputs_differ : (words : List (List ℕ)) (row : Row) → command_of words ≡ Some row → OutputsDiffer row
unfolding command_of
outputs_differ words row is = taken (list_any is_option words) None (row_of words) row none (row_differs words) is
