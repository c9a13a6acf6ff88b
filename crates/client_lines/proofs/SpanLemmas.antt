-- Lemmas of words and timestamps.
use Rattle.std.proofs.Common.{◌≡◌, ◌≢◌, ◌≤◌, ◌<◌, ◌+◌, ◌*◌, ◌-◌, ◌/◌, ◌%◌, ◌^◌, ◌⊎◌, inl, inr, ℕ, suc, zero, List, [], ◌∷◌, ◌++◌, length, take, drop, get_or, Option, Some, None, refl, sym, ◌∙◌, ap, subst, append_assoc, length-append, arith}
use Rattle.std.proofs.lemmas.Bool.{cases_lt}
use Rattle.std.proofs.lemmas.Fmt.{decimal_digit, decimal_step, decimal_nonempty, decimal_injective}
use Rattle.std.proofs.lemmas.List.{append-nil, take_more, take_all, same_from_push, nil_from_length, length-take-le, take_at, get_or-take}
use Rattle.std.proofs.lemmas.List.Elements.{All-nil, All-cons, All-take, All-get_or, All-from_get_or}
use Rattle.std.specs.Fmt.{decimal}
use Rattle.std.specs.Prelude.{All, MatchOption, IfSome}
use Rattle.doc_meaning.specs.Replies.{last_timestamp}
use Rattle.text_prefixes.proofs.PrefixLemmas.{take_more as prefix_more}
use Rattle.transcript.proofs.FormLemmas.{IsNoSpace, decimal_clean, timestamp_small}
use Rattle.client_lines.specs.Rows.{IsTimestamp, IsOfKind, IsNext, digits_of}
use Rattle.client_lines.specs.declared.row.WordKind.{WordKind}
use Rattle.client_lines.specs.declared.row.WordKind.TheVariants.{Word, Timestamp}

-- the digits of a number: one, or those of a tenth of it and one more
pub decimal_push : (t : ℕ) (ds : List ℕ) (b : ℕ) → t < 2 ^ 64 → decimal t ≡ ds ++ b ∷ [] →
    ((t < 10) × (ds ≡ []) × (b ≡ 48 + t)) ⊎ ((10 ≤ t) × (ds ≡ decimal (t / 10)) × (b ≡ 48 + t % 10))
decimal_push t ds b small is = by (cases_lt t 10)
  where
    by : ((t < 10) ⊎ (10 ≤ t)) → ((t < 10) × (ds ≡ []) × (b ≡ 48 + t)) ⊎ ((10 ≤ t) × (ds ≡ decimal (t / 10)) × (b ≡ 48 + t % 10))
    by (inl lt) =
        let same = same_from_push ds [] b (48 + t) (sym is ∙ decimal_digit t lt) in
        inl (lt, same.0, same.1)
    by (inr le) =
        let same = same_from_push ds (decimal (t / 10)) b (48 + t % 10) (sym is ∙ decimal_step t le small) in
        inr (le, same.0, same.1)

-- no byte of a span is a space
pub span_clean : (word_kind : WordKind) (bytes : List ℕ) → IsOfKind word_kind bytes → All IsNoSpace bytes
span_clean Word bytes word = word.1
span_clean Timestamp bytes (t, le, is) = subst (All IsNoSpace) (sym is) (decimal_clean t (timestamp_small t le))

-- a span isn't empty
pub span_some : (word_kind : WordKind) (bytes : List ℕ) → IsOfKind word_kind bytes → 0 < length bytes
span_some Word bytes word = word.0
span_some Timestamp bytes (t, le, is) = subst (λ (l : List ℕ). 0 < length l) (sym is) (decimal_nonempty t (timestamp_small t le))

-- a word and a timestamp
abbrev pub a_span : WordKind → List ℕ
a_span Word = 0x30 ∷ []
a_span Timestamp = decimal 0

pub a_span_is : (word_kind : WordKind) → IsOfKind word_kind (a_span word_kind)
a_span_is Word = (omega arith, All-cons IsNoSpace 0x30 [] (omega arith) (All-nil IsNoSpace))
a_span_is Timestamp = (0, omega arith, refl)

shorter_timestamp : (k : ℕ) (a b : List ℕ) → length b ≡ k → 0 < length a → IsTimestamp (a ++ b) → IsTimestamp a
shorter_timestamp zero a b len some is =
    subst IsTimestamp (ap (λ (l : List ℕ). a ++ l) (nil_from_length b len) ∙ append-nil a) is
shorter_timestamp (suc k) a b len some (t, le, is) =
    by (λ front. shorter_timestamp k a (take k b) (length-take-le k b (omega arith)) some front)
    (decimal_push t (a ++ take k b) (get_or b k 0) (timestamp_small t le) cut)
  where
    b_is : b ≡ take k b ++ get_or b k 0 ∷ []
    b_is = sym (take_all (k + 1) b (omega arith)) ∙ take_more b k 0 (omega arith)

    cut : decimal t ≡ (a ++ take k b) ++ get_or b k 0 ∷ []
    cut = sym is ∙ (ap (λ (l : List ℕ). a ++ l) b_is ∙ sym (append_assoc a (take k b) (get_or b k 0 ∷ [])))

    by : (IsTimestamp (a ++ take k b) → IsTimestamp a) →
        ((t < 10) × (a ++ take k b ≡ []) × (get_or b k 0 ≡ 48 + t))
        ⊎ ((10 ≤ t) × (a ++ take k b ≡ decimal (t / 10)) × (get_or b k 0 ≡ 48 + t % 10)) → IsTimestamp a
    by shorter (inl (lt, none, byte)) =
        let len0 : length a + length (take k b) ≡ 0 = sym (length-append a (take k b)) ∙ ap length none in
        absurd (omega (arith, len0))
    by shorter (inr (ge, same, byte)) = shorter (t / 10, omega (arith, le), same)

-- what begins a span is a span, if it isn't empty
pub shorter_span : (word_kind : WordKind) (a b : List ℕ) → 0 < length a → IsOfKind word_kind (a ++ b) → IsOfKind word_kind a
shorter_span Word a b some word =
    (some, subst (All IsNoSpace) (take_at a b (length a) refl) (All-take IsNoSpace (length a) (a ++ b) word.1))
shorter_span Timestamp a b some is = shorter_timestamp (length b) a b refl some is

-- a digit behind digits
pub next_digit : (v d : ℕ) → 0 < v → d < 10 → v * 10 + d ≤ last_timestamp → decimal (v * 10 + d) ≡ decimal v ++ (48 + d) ∷ []
next_digit v d some lt le =
    let tenth : (v * 10 + d) / 10 ≡ v = omega arith in
    let last : (v * 10 + d) % 10 ≡ d = omega arith in
    decimal_step (v * 10 + d) (omega arith) (timestamp_small (v * 10 + d) le)
    ∙ (ap (λ (k : ℕ). decimal k ++ (48 + (v * 10 + d) % 10) ∷ []) tenth
    ∙ ap (λ (k : ℕ). decimal v ++ (48 + k) ∷ []) last)

-- the last of digits is a digit
pub no_digit : (value : Option ℕ) (b : ℕ) → ((48 ≤ b) × (b ≤ 57) → ⊥) → (t : ℕ) → t ≤ last_timestamp →
    decimal t ≡ digits_of value ++ b ∷ [] → ⊥
no_digit value b other t le is = by (decimal_push t (digits_of value) b (timestamp_small t le) is)
  where
    by : ((t < 10) × (digits_of value ≡ []) × (b ≡ 48 + t))
        ⊎ ((10 ≤ t) × (digits_of value ≡ decimal (t / 10)) × (b ≡ 48 + t % 10)) → ⊥
    by (inl (lt, none, byte)) = other (omega arith, omega arith)
    by (inr (ge, same, byte)) = other (omega arith, omega arith)

-- digits behind others are those of ten times as much
pub digit_behind : (v b : ℕ) → v ≤ last_timestamp → (t : ℕ) → t ≤ last_timestamp → decimal t ≡ decimal v ++ b ∷ [] →
    (0 < v) × (t + 48 ≡ v * 10 + b)
digit_behind v b small t le is = by (decimal_push t (decimal v) b (timestamp_small t le) is)
  where
    some : 0 < length (decimal v)
    some = decimal_nonempty v (timestamp_small v small)

    by : ((t < 10) × (decimal v ≡ []) × (b ≡ 48 + t))
        ⊎ ((10 ≤ t) × (decimal v ≡ decimal (t / 10)) × (b ≡ 48 + t % 10)) → (0 < v) × (t + 48 ≡ v * 10 + b)
    by (inl (lt, none, byte)) =
        let len : length (decimal v) ≡ 0 = ap length none in
        absurd (omega (arith, some))
    by (inr (ge, same, byte)) =
        let tenth : v ≡ t / 10 = decimal_injective v (t / 10) (timestamp_small v small) (omega (arith, timestamp_small t le)) same in
        (omega arith, omega arith)

-- one digit alone
pub first_digit : (value : Option ℕ) (b d : ℕ) → value ≡ None → 48 ≤ b → b ≤ 57 → d ≡ b - 48 → IsNext value b (Some d)
first_digit value b d none low high is =
    let same : 48 + d ≡ b = omega arith in (
      omega arith,
      decimal_digit d (omega arith) ∙ (ap (λ (k : ℕ). k ∷ []) same
          ∙ ap (λ (v : Option ℕ). digits_of v ++ b ∷ []) (sym none)),
    )

-- none behind a zero
pub zero_stays : (value : Option ℕ) (v b : ℕ) → value ≡ Some v → v ≡ 0 → IsNext value b None
zero_stays value v b some none t le is =
    let h = digit_behind v b (omega arith) t le (is ∙ ap (λ (w : Option ℕ). digits_of w ++ b ∷ []) some) in
    omega (arith, h.0)

pub more_digits : (value : Option ℕ) (v b n : ℕ) (found : Option ℕ) → value ≡ Some v → 0 < v → v ≤ last_timestamp →
    48 ≤ b → b ≤ 57 → n ≡ v * 10 + (b - 48) →
    MatchOption found (last_timestamp < n) (λ x. (x ≡ n) × (x ≤ last_timestamp)) → IsNext value b found
more_digits value v b n None some pos small low high is past = λ (t : ℕ) le eq.
    let h = digit_behind v b small t le (eq ∙ ap (λ (w : Option ℕ). digits_of w ++ b ∷ []) some) in
    omega (arith, h.1, past)
more_digits value v b n (Some x) some pos small low high is found =
    let at : x ≡ v * 10 + (b - 48) = omega (arith, found.0) in
    let digit : 48 + (b - 48) ≡ b = omega arith in (
      found.1,
      ap decimal at ∙ (next_digit v (b - 48) pos (omega arith) (omega (arith, found.1))
          ∙ (ap (λ (k : ℕ). decimal v ++ k ∷ []) digit ∙ ap (λ (w : Option ℕ). digits_of w ++ b ∷ []) (sym some))),
    )

-- the digits so far
pub digits_are : (value : Option ℕ) (bytes : List ℕ) (n : ℕ) → n ≤ length bytes → take n bytes ≡ digits_of value →
    IfSome value (λ v. v ≤ last_timestamp) → 0 < n → IsTimestamp (take n bytes)
digits_are None bytes n le is small some =
    let len : length (take n bytes) ≡ 0 = ap length is in
    absurd (omega (arith, length-take-le n bytes le))
digits_are (Some v) bytes n le is small some = (v, small, is)

-- no timestamp passes a byte that isn't the next digit
pub stops_at : (value : Option ℕ) (bytes : List ℕ) (n b more : ℕ) → take n bytes ≡ digits_of value →
    n < length bytes → b ≡ get_or bytes n 0 → IsNext value b None → n < more → more ≤ length bytes →
    IsTimestamp (take more bytes) → ⊥
stops_at value bytes n b more so_far within byte none less le is = none shorter.0 shorter.1 (sym shorter.2 ∙ front)
  where
    shorter : IsTimestamp (take (n + 1) bytes)
    shorter = shorter_span Timestamp (take (n + 1) bytes) (take (more - (n + 1)) (drop (n + 1) bytes))
        (omega (arith, length-take-le (n + 1) bytes (omega arith)))
        (subst IsTimestamp (prefix_more bytes (n + 1) more (omega arith)) is)

    front : take (n + 1) bytes ≡ digits_of value ++ b ∷ []
    front = take_more bytes n 0 within ∙ (ap (λ (l : List ℕ). l ++ get_or bytes n 0 ∷ []) so_far
        ∙ ap (λ (k : ℕ). digits_of value ++ k ∷ []) (sym byte))

-- the digits with the next one
pub goes_on : (value : Option ℕ) (bytes : List ℕ) (n b next : ℕ) → take n bytes ≡ digits_of value →
    n < length bytes → b ≡ get_or bytes n 0 → decimal next ≡ digits_of value ++ b ∷ [] → take (n + 1) bytes ≡ decimal next
goes_on value bytes n b next so_far within byte is =
    take_more bytes n 0 within ∙ (ap (λ (l : List ℕ). l ++ get_or bytes n 0 ∷ []) so_far
    ∙ (ap (λ (k : ℕ). digits_of value ++ k ∷ []) (sym byte) ∙ sym is))

-- no word passes a space
pub word_stops : (bytes : List ℕ) (n more : ℕ) → get_or bytes n 0 ≡ 0x20 → n < more → more ≤ length bytes →
    IsOfKind Word (take more bytes) → ⊥
word_stops bytes n more space less le word =
    All-get_or IsNoSpace (take more bytes) n 0 (omega (arith, length-take-le more bytes le)) word.1
    (get_or-take more bytes n 0 less ∙ space)

pub word_is : (bytes : List ℕ) (n : ℕ) → ((k : ℕ) → k < n → get_or bytes k 0 ≢ 0x20) → n ≤ length bytes → 0 < n →
    IsOfKind Word (take n bytes)
word_is bytes n clean le some = (
  omega (arith, length-take-le n bytes le),
  All-from_get_or IsNoSpace (take n bytes) 0 (λ k lt is.
      clean k (omega (arith, lt, length-take-le n bytes le))
      (sym (get_or-take n bytes k 0 (omega (arith, lt, length-take-le n bytes le))) ∙ is)),
)
