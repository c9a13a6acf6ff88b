-- Parts of a buffer, and line feeds in them.
use Rattle.std.proofs.Common.{inl, inr, ◌≡◌, ◌≤◌, ◌<◌, ◌+◌, ◌-◌, ◌++◌, ℕ, List, Bool, Some, None, length, take, drop, get_or, arith, sym, ap, refl, ◌∙◌, subst, length-take, length-drop, append_assoc}
use Rattle.std.proofs.lemmas.Bool.{cases_lt, eq-eqb, eqb-true}
use Rattle.std.proofs.lemmas.List.{take-append-drop, length-take-le, drop-drop, drop-take, get_or-take, get_or-drop, get_or_default}
use Rattle.std.proofs.lemmas.List.{take-take, take-append-le}
use Rattle.std.proofs.Math.Seq.{take-append-add}
use Rattle.memchr.specs.Find.{IsFirstByte, is_byte}
use Rattle.client_run.specs.Reading.{ReaderState, HasNoFeedBefore, FindsFeed}
use Rattle.transcript.specs.Lines.{HasNoFeed, IsLong}
use Rattle.transcript.specs.declared.limits.TheConstants.{LONGEST_LINE}

pub same_held : (a b : List ℕ) (over : Bool) → a ≡ b → ◌≡◌ {A = ReaderState} (record { pending = a; over = over })
    (record { pending = b; over = over })
same_held a b over p = rw p refl

-- a window of a list is cut out in either order
pub window : (from to : ℕ) (xs : List ℕ) → from ≤ to → take (to - from) (drop from xs) ≡ drop from (take to xs)
window from to xs le =
    let is : to ≡ from + (to - from) = omega arith in
    sym (ap (λ n. drop from (take n xs)) is ∙ drop-take from (to - from) xs)

pub length-window : (from to : ℕ) (xs : List ℕ) → to ≤ length xs → length (drop from (take to xs)) ≡ to - from
length-window from to xs le = length-drop from (take to xs) ∙ ap (λ n. n - from) (length-take-le to xs le)

-- no feed among the first, and none among those behind up to a place
pub feeds_further : (bytes : List ℕ) (seen more : ℕ) → HasNoFeedBefore bytes seen →
    ((k : ℕ) → k < more → get_or (drop seen bytes) k 0 ≡ 10 → ⊥) → HasNoFeedBefore bytes (seen + more)
feeds_further bytes seen more before behind k lt is =
    elim (cases_lt k seen) [
      | inl low ↦ before k low is
      | inr high ↦ behind (k - seen) (omega arith)
          (get_or-drop seen bytes (k - seen) 0 ∙ (ap (λ n. get_or bytes n 0) (same k seen high) ∙ is))
    ]
  where
    same : (k seen : ℕ) → seen ≤ k → seen + (k - seen) ≡ k
    same k seen le = omega arith

pub no_feed : (bytes : List ℕ) (count : ℕ) → count ≤ length bytes → HasNoFeedBefore bytes count →
    HasNoFeed (take count bytes)
no_feed bytes count le clean k d lt is =
    let below : k < count = omega (arith, lt, length-take count bytes) in
    clean k below (get_or_default bytes k 0 d (omega arith) ∙ (sym (get_or-take count bytes k d below) ∙ is))

-- what is searched is what was not yet
pub searched : (from seen to : ℕ) (xs ys : List ℕ) → ys ≡ xs → from + seen ≤ to → take (to - (from + seen))
    (drop (from + seen) ys) ≡ drop seen (drop from (take to xs))
searched from seen to xs ys same le =
    ap (λ (zs : List ℕ). take (to - (from + seen)) (drop (from + seen) zs)) same ∙
    (window (from + seen) to xs le ∙ sym (drop-drop seen from (take to xs)))

module _ (bytes hay : List ℕ) (seen : ℕ) (is : hay ≡ drop seen bytes) (le : seen ≤ length bytes)
    (before : HasNoFeedBefore bytes seen) where
  none_until : (until : ℕ) → ((k : ℕ) → 0 ≤ k → k < until → is_byte 10 (get_or hay k 0) ≡ Bool.true → ⊥) →
      HasNoFeedBefore bytes (seen + until)
  none_until until nowhere =
      feeds_further bytes seen until before
      (λ k lt at. nowhere k (omega arith) lt (eq-eqb (get_or hay k 0) 10 (ap (λ (xs : List ℕ). get_or xs k 0) is ∙
      at)))

  length_is : length hay ≡ length bytes - seen
  length_is = ap length is ∙ length-drop seen bytes

  pub none_more : IsFirstByte (is_byte 10) hay None → HasNoFeedBefore bytes (length bytes)
  none_more nowhere =
      subst (HasNoFeedBefore bytes) (omega (arith, length_is, le)) (none_until (length hay) nowhere)

  pub one_more : (more : ℕ) → IsFirstByte (is_byte 10) hay (Some more) → (seen + more < length bytes) ×
      HasNoFeedBefore bytes (seen + more) × (get_or bytes (seen + more) 0 ≡ 10)
  one_more more (none, at) = (
    omega (arith, none.high, length_is, le),
    none_until more none.before,
    sym (get_or-drop seen bytes more 0) ∙ (ap (λ (xs : List ℕ). get_or xs more 0) (sym is) ∙
        eqb-true (get_or hay more 0) 10 at),
  )

pub finds_feed : (bytes : List ℕ) (count : ℕ) → (count < length bytes) × HasNoFeedBefore bytes count ×
    (get_or bytes count 0 ≡ 10) → FindsFeed bytes (Some count)
finds_feed bytes count (lt, clean, at) = (lt, no_feed bytes count (omega arith) clean, at)

pub all_clean : (bytes : List ℕ) → HasNoFeedBefore bytes (length bytes) → HasNoFeed bytes
all_clean bytes clean k d lt is = clean k lt (get_or_default bytes k 0 d lt ∙ is)

pub is_long : (bytes : List ℕ) (count : ℕ) → FindsFeed bytes (Some count) → LONGEST_LINE < count → IsLong bytes
is_long bytes count (lt, clean, at) long = record {
  beginning = take count bytes;
  rest = drop count bytes;
  spelled = sym (take-append-drop count bytes);
  one_line = clean;
  too_long = omega (arith, long, lt, length-take count bytes);
}

-- what was read is behind what was there
module _ (to all : ℕ) (items buffer new post more : List ℕ) (same : buffer ≡ items) (le : to ≤ length items) where
  length_to : length (take to buffer) ≡ to
  length_to = ap (λ (xs : List ℕ). length (take to xs)) same ∙ length-take-le to items le

  parted : (take to buffer ++ (new ++ post)) ++ more ≡ take to buffer ++ (new ++ (post ++ more))
  parted = append_assoc (take to buffer) (new ++ post) more ∙ ap (λ (xs : List ℕ). take to buffer ++ xs)
      (append_assoc new post more)

  pub read_behind : (n : ℕ) → n ≤ length new → to + n ≤ all → take (length (take to items) + n)
      (take all ((take to buffer ++ (new ++ post)) ++ more)) ≡ take to items ++ take n new
  read_behind n within fits =
      ap (λ k. take (k + n) (take all ((take to buffer ++ (new ++ post)) ++ more))) (length-take-le to items le)
      ∙ (take-take (to + n) all ((take to buffer ++ (new ++ post)) ++ more) fits
      ∙ (ap (take (to + n)) parted
      ∙ (ap (λ k. take (k + n) (take to buffer ++ (new ++ (post ++ more)))) (sym length_to)
      ∙ (take-append-add (take to buffer) (new ++ (post ++ more)) n
      ∙ (ap (λ (xs : List ℕ). take to buffer ++ xs) (take-append-le n new (post ++ more) within) ∙
      ap (λ (xs : List ℕ). take to xs ++ take n new) same)))))
