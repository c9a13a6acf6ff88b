-- What stands before the place of a fault begins a text that is read.
use Rattle.std.proofs.Common.{◌≡◌, ℕ, ◌-◌, ◌⊎◌, inl, inr, List, [], ◌∷◌, ◌++◌, length, take, drop, refl, sym, ap, subst, ◌∙◌, append_assoc, arith}
use Rattle.std.proofs.lemmas.List.{append-nil, length-append, take_at, drop_at}
use Rattle.std.proofs.lemmas.Str.{IsUtf8-append}
use Rattle.std.specs.Str.{IsUtf8, IsValidUpTo}
use Rattle.json_text.specs.declared.fault.Fault.{Fault}
use Rattle.json_text.specs.declared.fault.Fault.TheVariants as fault
use Rattle.json_text.specs.Grammar.{Padded, null_text, IsValue, IsJson}
use Rattle.json_text.specs.Faults.{IsUnfinished, LoneHere, NumberHere, BeginsRead, IsClear, ValueDue, CharDue, IsLone, IsOutOfRange}
use Rattle.json_text.proofs.Fronts.{word_utf8}
use Rattle.json_text.proofs.FoundParts.{IsItem}
use Rattle.json_text.proofs.Sequences.{valid_behind}
use Rattle.json_text.proofs.Cuts.{left_of}
use Rattle.json_text.proofs.Clears.{Spot, anywhere, in_string, at_value, Next, Tail, Clear, nothing}
use Rattle.json_text.proofs.ClearParts.{Any}

-- the text of a tree that is read
abbrev pub IsSomeText : List ℕ → Type 0
IsSomeText = Any (IsItem (IsValue 128))

begins_as : (head next more : List ℕ) → IsUtf8 head → IsUtf8 next → IsUtf8 more → IsSomeText (head ++ (next ++ more)) →
    BeginsRead (head ++ next)
begins_as head next more h n m (v, is) = (
  v,
  (
    more,
    (
      IsUtf8-append (head ++ next) more (IsUtf8-append head next h n) m,
      subst (Padded (λ text. IsValue 128 text v)) (sym (append_assoc head next more)) is,
    ),
  ),
)

begins_less : (front next : List ℕ) → BeginsRead (front ++ next) → BeginsRead front
begins_less front next (v, (more, is)) =
    (v, (next ++ more, subst (λ (x : List ℕ). IsJson x v) (append_assoc front next more) is))

is_clear : (spot : Spot) (head tail more : List ℕ) →
    ((next : List ℕ) → Next spot next → IsSomeText (head ++ (next ++ more))) → IsUtf8 head → IsUtf8 more →
    Tail spot tail → IsClear (head ++ tail)
is_clear anywhere head tail more is h m t =
    (head, tail, begins_as head (32 ∷ []) more h (word_utf8 (32 ∷ []) refl) m (is (32 ∷ []) refl), t, refl)
is_clear in_string head tail more is h m t = (
  head,
  tail,
  begins_as head (32 ∷ []) more h (word_utf8 (32 ∷ []) refl) m (is (32 ∷ []) (inl refl)),
  subst IsUnfinished (sym t) nothing,
  refl,
)
is_clear at_value head tail more is h m t = (
  head,
  tail,
  begins_less (head ++ 32 ∷ []) null_text (subst BeginsRead (sym (append_assoc head (32 ∷ []) null_text))
      (begins_as head (32 ∷ null_text) more h (word_utf8 (32 ∷ null_text) refl) m (is (32 ∷ null_text) (inl refl)))),
  subst IsUnfinished (sym t) nothing,
  refl,
)

-- nothing is unfinished
whole_front : (head tail : List ℕ) → tail ≡ [] → head ++ tail ≡ head
whole_front head tail e = ap (λ (x : List ℕ). head ++ x) e ∙ append-nil head

value_due : (spot : Spot) (head tail more : List ℕ) →
    ((next : List ℕ) → Next spot next → IsSomeText (head ++ (next ++ more))) → IsUtf8 head → IsUtf8 more →
    Tail spot tail → spot ≡ at_value → ValueDue (head ++ tail)
value_due anywhere head tail more is h m t e = absurd cc
value_due in_string head tail more is h m t e = absurd cc
value_due at_value head tail more is h m t e =
    subst ValueDue (sym (whole_front head tail t))
    (begins_as head (10 ∷ null_text) more h (word_utf8 (10 ∷ null_text) refl) m (is (10 ∷ null_text) (inr refl)))

char_due : (spot : Spot) (head tail more : List ℕ) →
    ((next : List ℕ) → Next spot next → IsSomeText (head ++ (next ++ more))) → IsUtf8 head → IsUtf8 more →
    Tail spot tail → spot ≡ in_string → CharDue (head ++ tail)
char_due anywhere head tail more is h m t e = absurd cc
char_due at_value head tail more is h m t e = absurd cc
char_due in_string head tail more is h m t e =
    subst CharDue (sym (whole_front head tail t))
    (begins_as head (120 ∷ []) more h (word_utf8 (120 ∷ []) refl) m (is (120 ∷ []) (inr refl)))

-- ---- by the place

spelled_of : (bytes : List ℕ) (f : Fault) (c : Clear IsSomeText bytes f) → bytes ≡ (c.head ++ c.tail) ++ c.rest
spelled_of bytes f c = c.spelled ∙ sym (append_assoc c.head c.tail c.rest)

place_of : (bytes : List ℕ) (f : Fault) (c : Clear IsSomeText bytes f) →
    length bytes - left_of f ≡ length (c.head ++ c.tail)
place_of bytes f c =
    let l : length bytes ≡ length ((c.head ++ c.tail) ++ c.rest) = ap (λ (x : List ℕ). length x)
    (spelled_of bytes f c) in
    omega (arith, c.left, l, length-append (c.head ++ c.tail) c.rest)

front_of : (bytes : List ℕ) (f : Fault) (c : Clear IsSomeText bytes f) →
    take (length bytes - left_of f) bytes ≡ c.head ++ c.tail
front_of bytes f c =
    let front = c.head ++ c.tail in
    ap (λ (n : ℕ). take n bytes) (place_of bytes f c) ∙ ap (λ (x : List ℕ). take (length (c.head ++ c.tail)) x)
    (spelled_of bytes f c) ∙ take_at front c.rest (length front) refl

rest_of : (bytes : List ℕ) (f : Fault) (c : Clear IsSomeText bytes f) → drop (length bytes - left_of f) bytes ≡ c.rest
rest_of bytes f c =
    let front = c.head ++ c.tail in
    ap (λ (n : ℕ). drop n bytes) (place_of bytes f c) ∙ ap (λ (x : List ℕ). drop (length (c.head ++ c.tail)) x)
    (spelled_of bytes f c) ∙ drop_at front c.rest (length front) refl

pub clear_there : (bytes : List ℕ) (f : Fault) → Clear IsSomeText bytes f →
    IsClear (take (length bytes - left_of f) bytes)
clear_there bytes f c = subst IsClear (sym (front_of bytes f c))
    (is_clear c.spot c.head c.tail c.more c.is c.valid c.completed c.unfinished)

due_there : (bytes : List ℕ) (f : Fault) (c : Clear IsSomeText bytes f) → c.spot ≡ at_value →
    ValueDue (take (length bytes - left_of f) bytes)
due_there bytes f c e = subst ValueDue (sym (front_of bytes f c))
    (value_due c.spot c.head c.tail c.more c.is c.valid c.completed c.unfinished e)

pub not_utf8 : (bytes : List ℕ) (n : ℕ) → IsUtf8 (take (length bytes - n) bytes) →
    Clear IsSomeText bytes (fault.Utf8 n) →
    IsValidUpTo bytes (length bytes - n) ⊎ IsLone bytes (length bytes - n)
not_utf8 bytes n u c = by c.says
  where
    by : (IsValidUpTo c.rest 0 ⊎ ((c.spot ≡ in_string) × LoneHere c.rest)) →
        IsValidUpTo bytes (length bytes - n) ⊎ IsLone bytes (length bytes - n)
    by (inl v) =
        let there = valid_behind (c.head ++ c.tail) c.rest (subst IsUtf8 (front_of bytes (fault.Utf8 n) c) u) v in
        inl (subst (λ (k : ℕ). IsValidUpTo bytes k) (sym (place_of bytes (fault.Utf8 n) c))
        (subst (λ (x : List ℕ). IsValidUpTo x (length (c.head ++ c.tail))) (sym (spelled_of bytes (fault.Utf8 n) c))
        there))
    by (inr (e, alone)) = inr (
      subst CharDue (sym (front_of bytes (fault.Utf8 n) c))
          (char_due c.spot c.head c.tail c.more c.is c.valid c.completed c.unfinished e),
      subst LoneHere (sym (rest_of bytes (fault.Utf8 n) c)) alone,
    )

pub depth_due : (bytes : List ℕ) (n : ℕ) → Clear IsSomeText bytes (fault.Depth n) →
    ValueDue (take (length bytes - n) bytes)
depth_due bytes n c = due_there bytes (fault.Depth n) c c.says

pub out_of_range : (bytes : List ℕ) (n : ℕ) → Clear IsSomeText bytes (fault.Number n) →
    IsOutOfRange bytes (length bytes - n)
out_of_range bytes n c =
    (due_there bytes (fault.Number n) c c.says.0, subst NumberHere (sym (rest_of bytes (fault.Number n) c)) c.says.1)
