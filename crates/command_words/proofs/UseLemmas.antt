-- Words are those of one list of uses alone.
use Rattle.std.proofs.lemmas.Bool.{eqb-true}
use Rattle.std.proofs.Common.{Bool, true, ◌==◌, ◌≡◌, ◌≢◌, ◌≤◌, ◌<◌, ◌-◌, ℕ, List, [], ◌∷◌, ◌++◌, Option, Some, None, length, get_or, drop, take, map, string_bytes, subst, refl, sym, ◌∙◌, ap, inl, inr, append_assoc, arith, codes}
use Rattle.std.specs.List.{flat_map}
use Rattle.std.specs.Prelude.{All, String, slice_get}
use Rattle.std.specs.declared.alloc.Global.{Global}
use Rattle.std.proofs.Math.Seq.{take-length}
use Rattle.std.proofs.lemmas.List.{append-nil, append_cancel_left}
use Rattle.std.proofs.lemmas.List.Elements.{All-nil, All-head, All-tail}
use Rattle.command_words.specs.Reading.{BeginWithoutUse, IsFirst, listed}
use Rattle.command_words.specs.declared.uses.Argument.TheVariants.{Given, Word}
use denote.Ref.{Bor}
use Rattle.command_words.specs.Words.{Ends, HasNoDash, IsUse, Use, apart, joined, spelled, word, words_of}
use Rattle.command_words.specs.declared.uses.Setting.{Setting}
use Rattle.command_words.specs.declared.uses.Setting.TheVariants.{MergeAt, Range, SaveAt}

pub heads : (a b : List ℕ) (xs ys : List (List ℕ)) → a ∷ xs ≡ b ∷ ys → a ≡ b
heads a b xs ys is = ap (λ (l : List (List ℕ)). get_or l 0 []) is

pub tails : {A : Type 0} (a b : A) (xs ys : List A) → a ∷ xs ≡ b ∷ ys → xs ≡ ys
tails a b xs ys is = ap (λ l. drop 1 l) is

-- the name of an option has a dash
pub dashed : (setting : Setting) (tail : List ℕ) → slice_get (spelled setting ++ tail) 0 ≡ Some 0x2D
dashed Range tail = refl
dashed SaveAt tail = refl
dashed MergeAt tail = refl

-- no option's name begins another's
pub same_setting : (s s' : Setting) (a b : List ℕ) → spelled s ++ a ≡ spelled s' ++ b → (s ≡ s') × (a ≡ b)
same_setting Range Range a b is = (refl, append_cancel_left (codes "--range") a b is)
same_setting Range SaveAt a b is = let bad : ◌≡◌ {A = ℕ} 0x72 0x73 = ap (λ (l : List ℕ). get_or l 2 0) is in absurd (omega arith)
same_setting Range MergeAt a b is = let bad : ◌≡◌ {A = ℕ} 0x72 0x6D = ap (λ (l : List ℕ). get_or l 2 0) is in absurd (omega arith)
same_setting SaveAt Range a b is = let bad : ◌≡◌ {A = ℕ} 0x73 0x72 = ap (λ (l : List ℕ). get_or l 2 0) is in absurd (omega arith)
same_setting SaveAt SaveAt a b is = (refl, append_cancel_left (codes "--save-at") a b is)
same_setting SaveAt MergeAt a b is = let bad : ◌≡◌ {A = ℕ} 0x73 0x6D = ap (λ (l : List ℕ). get_or l 2 0) is in absurd (omega arith)
same_setting MergeAt Range a b is = let bad : ◌≡◌ {A = ℕ} 0x6D 0x72 = ap (λ (l : List ℕ). get_or l 2 0) is in absurd (omega arith)
same_setting MergeAt SaveAt a b is = let bad : ◌≡◌ {A = ℕ} 0x6D 0x73 = ap (λ (l : List ℕ). get_or l 2 0) is in absurd (omega arith)
same_setting MergeAt MergeAt a b is = (refl, append_cancel_left (codes "--merge-at") a b is)

pub named_apart : (s : Setting) (text : List ℕ) → text ≡ spelled s → slice_get text 0 ≡ Some 0x2D
named_apart s text is = ap (λ (l : List ℕ). slice_get l 0) (is ∙ sym (append-nil (spelled s))) ∙ dashed s []

pub named_joined : (s : Setting) (text tail : List ℕ) → text ≡ spelled s ++ tail → slice_get text 0 ≡ Some 0x2D
named_joined s text tail is = ap (λ (l : List ℕ). slice_get l 0) is ∙ dashed s tail

-- an option alone isn't one with a value
pub apart_or_joined : (s s' : Setting) (value : List ℕ) → spelled s ≡ spelled s' ++ 0x3D ∷ value → ⊥
apart_or_joined s s' value is =
    let same = same_setting s s' [] (0x3D ∷ value) (append-nil (spelled s) ∙ is) in
    let bad : ◌≡◌ {A = ℕ} 0 0x3D = ap (λ (l : List ℕ). get_or l 0 0) same.1 in absurd (omega arith)

-- words begin with one use
pub first_of : (u u' : Use) (a b : List (List ℕ)) → IsUse u → IsUse u' → words_of u ++ a ≡ words_of u' ++ b
    → (u ≡ u') × (a ≡ b)
first_of (word t) (word t') a b p q is = (ap (λ x. word x) (heads t t' a b is), tails t t' a b is)
first_of (word t) (apart s v) a b p q is = absurd (p (named_apart s t (heads t (spelled s) a (v ∷ b) is)))
first_of (word t) (joined s v) a b p q is =
    absurd (p (named_joined s t (0x3D ∷ v) (heads t (spelled s ++ 0x3D ∷ v) a b is)))
first_of (apart s v) (word t) a b p q is = absurd (q (named_apart s t (sym (heads (spelled s) t (v ∷ a) b is))))
first_of (apart s v) (apart s' v') a b p q is =
    let same = same_setting s s' [] [] (append-nil (spelled s)
    ∙ (heads (spelled s) (spelled s') (v ∷ a) (v' ∷ b) is ∙ sym (append-nil (spelled s')))) in
    let others = tails (spelled s) (spelled s') (v ∷ a) (v' ∷ b) is in
    (ap (λ x. apart x v) same.0 ∙ ap (λ x. apart s' x) (heads v v' a b others), tails v v' a b others)
first_of (apart s v) (joined s' v') a b p q is =
    absurd (apart_or_joined s s' v' (heads (spelled s) (spelled s' ++ 0x3D ∷ v') (v ∷ a) b is))
first_of (joined s v) (word t) a b p q is =
    absurd (q (named_joined s t (0x3D ∷ v) (sym (heads (spelled s ++ 0x3D ∷ v) t a b is))))
first_of (joined s v) (apart s' v') a b p q is =
    absurd (apart_or_joined s' s v (sym (heads (spelled s ++ 0x3D ∷ v) (spelled s') a (v' ∷ b) is)))
first_of (joined s v) (joined s' v') a b p q is =
    let same = same_setting s s' (0x3D ∷ v) (0x3D ∷ v')
    (heads (spelled s ++ 0x3D ∷ v) (spelled s' ++ 0x3D ∷ v') a b is) in (
      ap (λ x. joined x v) same.0 ∙ ap (λ x. joined s' x) (tails 0x3D 0x3D v v' same.1),
      tails (spelled s ++ 0x3D ∷ v) (spelled s' ++ 0x3D ∷ v') a b is,
    )

end_apart : (s : Setting) (tail : List ℕ) → codes "--" ≡ spelled s ++ tail → ⊥
end_apart Range tail is = let bad : ◌≡◌ {A = ℕ} 0 0x72 = ap (λ (l : List ℕ). get_or l 2 0) is in absurd (omega arith)
end_apart SaveAt tail is = let bad : ◌≡◌ {A = ℕ} 0 0x73 = ap (λ (l : List ℕ). get_or l 2 0) is in absurd (omega arith)
end_apart MergeAt tail is = let bad : ◌≡◌ {A = ℕ} 0 0x6D = ap (λ (l : List ℕ). get_or l 2 0) is in absurd (omega arith)

pub nothing : (a : List ℕ) (xs : List (List ℕ)) → [] ≡ a ∷ xs → ⊥
nothing a xs is = let bad : 0 ≡ length (a ∷ xs) = ap (λ (l : List (List ℕ)). length l) is in absurd (omega arith)

-- no use begins where uses end
pub no_use : (u : Use) (rest behind a : List (List ℕ)) → IsUse u → Ends rest behind → rest ≡ words_of u ++ a → ⊥
no_use (word t) rest behind a p (inl end) is = nothing t a (sym end.0 ∙ is)
no_use (apart s v) rest behind a p (inl end) is = nothing (spelled s) (v ∷ a) (sym end.0 ∙ is)
no_use (joined s v) rest behind a p (inl end) is = nothing (spelled s ++ 0x3D ∷ v) a (sym end.0 ∙ is)
no_use (word t) rest behind a p (inr end) is =
    p (ap (λ (l : List ℕ). slice_get l 0) (sym (heads (codes "--") t behind a (sym end ∙ is))))
no_use (apart s v) rest behind a p (inr end) is =
    end_apart s [] (heads (codes "--") (spelled s) behind (v ∷ a) (sym end ∙ is) ∙ sym (append-nil (spelled s)))
no_use (joined s v) rest behind a p (inr end) is =
    end_apart s (0x3D ∷ v) (heads (codes "--") (spelled s ++ 0x3D ∷ v) behind a (sym end ∙ is))

-- uses that were read begin all uses of the words
pub record GoOn (read uses : List Use) (a rest : List (List ℕ)) : Type 0 where
  pub more : List Use
  pub split : uses ≡ read ++ more
  pub each : All IsUse more
  pub written : a ≡ flat_map words_of more ++ rest

pub go_on : (read uses : List Use) (a rest behind : List (List ℕ)) → All IsUse read → All IsUse uses
    → Ends rest behind → flat_map words_of read ++ a ≡ flat_map words_of uses ++ rest → GoOn read uses a rest
go_on [] uses a rest behind p q end is = record { more = uses; split = refl; each = q; written = is }
go_on (u ∷ read) [] a rest behind p q end is =
    absurd (no_use u rest behind (flat_map words_of read ++ a) (All-head IsUse u read p) end
    (sym is ∙ append_assoc (words_of u) (flat_map words_of read) a))
go_on (u ∷ read) (u' ∷ uses) a rest behind p q end is =
    let first = first_of u u' (flat_map words_of read ++ a) (flat_map words_of uses ++ rest)
    (All-head IsUse u read p) (All-head IsUse u' uses q)
    (sym (append_assoc (words_of u) (flat_map words_of read) a)
    ∙ (is ∙ append_assoc (words_of u') (flat_map words_of uses) rest)) in
    let others = go_on read uses a rest behind (All-tail IsUse u read p) (All-tail IsUse u' uses q) end first.1 in
    record {
      more = others.more;
      split = ap (λ x. x ∷ uses) (sym first.0) ∙ ap (λ (l : List Use). u ∷ l) others.split;
      each = others.each;
      written = others.written;
    }

-- a word with a dash that is no option
pub no_option : (text : List ℕ) (behind : List (List ℕ)) → (HasNoDash text → ⊥)
    → ((s : Setting) (tail : List ℕ) → text ≢ spelled s ++ tail) → BeginWithoutUse (text ∷ behind)
no_option text behind dash none (word t) rest p is =
    dash (subst (λ (x : List ℕ). HasNoDash x) (sym (heads text t behind rest is)) p)
no_option text behind dash none (apart s v) rest p is =
    none s [] (heads text (spelled s) behind (v ∷ rest) is ∙ sym (append-nil (spelled s)))
no_option text behind dash none (joined s v) rest p is =
    none s (0x3D ∷ v) (heads text (spelled s ++ 0x3D ∷ v) behind rest is)

-- an option whose value isn't there
pub no_value : (text : List ℕ) (behind : List (List ℕ)) (s : Setting) (tail : List ℕ) → (HasNoDash text → ⊥)
    → text ≡ spelled s ++ tail → ((value : List ℕ) → tail ≢ codes "=" ++ value)
    → ((value : List ℕ) (rest : List (List ℕ)) → tail ≡ [] → behind ≡ value ∷ rest → HasNoDash value → ⊥)
    → BeginWithoutUse (text ∷ behind)
no_value text behind s tail dash named no_joined no_apart (word t) rest p is =
    dash (subst (λ (x : List ℕ). HasNoDash x) (sym (heads text t behind rest is)) p)
no_value text behind s tail dash named no_joined no_apart (apart s' v) rest p is =
    let same = same_setting s s' tail [] (sym named ∙ (heads text (spelled s') behind (v ∷ rest) is
    ∙ sym (append-nil (spelled s')))) in
    no_apart v rest same.1 (tails text (spelled s') behind (v ∷ rest) is) p
no_value text behind s tail dash named no_joined no_apart (joined s' v) rest p is =
    let same = same_setting s s' tail (0x3D ∷ v) (sym named ∙ heads text (spelled s' ++ 0x3D ∷ v) behind rest is) in
    no_joined v same.1

pub joined_first : (text : List ℕ) (behind : List (List ℕ)) (s : Setting) (tail : List ℕ) (value : Bor (List ℕ))
    → text ≡ spelled s ++ tail → tail ≡ codes "=" ++ value.now → IsFirst (text ∷ behind) (Given s value) behind
joined_first text behind s tail value named is = record {
  found = joined s value.now;
  is_use = tt;
  of = (refl, refl);
  written = ap (λ (t : List ℕ). t ∷ behind) (named ∙ ap (λ (t : List ℕ). spelled s ++ t) is);
}

-- the first word of a list and those after it
pub first_word : (words : List (String Global)) (w : String Global) → 1 ≤ length words → w ≡ get_or words 0 w
    → map string_bytes words ≡ string_bytes w ∷ map string_bytes (take (length words - 1) (drop 1 words))
first_word [] w some is = absurd (omega (arith, some))
first_word (x ∷ xs) w some is =
    let count : length (x ∷ xs) - 1 ≡ length xs = omega arith in
    ap (λ (s : String Global). string_bytes s ∷ map string_bytes xs) (sym is)
    ∙ ap (λ (l : List (String Global)). string_bytes w ∷ map string_bytes l)
    (sym (ap (λ (n : ℕ). take n xs) count ∙ take-length xs))

pub apart_first : (text : List ℕ) (words : List (String Global)) (w : String Global) (s : Setting) (tail : List ℕ)
    (value : Bor (List ℕ)) (seen : List ℕ) → text ≡ spelled s ++ tail → tail ≡ [] → 1 ≤ length words
    → w ≡ get_or words 0 w → value.now ≡ string_bytes w → seen ≡ string_bytes w → HasNoDash seen
    → IsFirst (text ∷ map string_bytes words) (Given s value)
    (map string_bytes (take (length words - 1) (drop 1 words)))
apart_first text words w s tail value seen named none some is given same p = record {
  found = apart s value.now;
  is_use = subst (λ (x : List ℕ). HasNoDash x) (same ∙ sym given) p;
  of = (refl, refl);
  written = ap (λ (t : List ℕ). t ∷ map string_bytes words)
      (named ∙ (ap (λ (t : List ℕ). spelled s ++ t) none ∙ append-nil (spelled s)))
      ∙ (ap (λ (l : List (List ℕ)). spelled s ∷ l) (first_word words w some is)
      ∙ ap (λ (t : List ℕ). spelled s ∷ t ∷ map string_bytes (take (length words - 1) (drop 1 words))) (sym given));
}

pub plain_first : (words : List (String Global)) (w : String Global) (text : Bor (List ℕ)) (seen : List ℕ)
    → 1 ≤ length words → w ≡ get_or words 0 w → text.now ≡ string_bytes w → seen ≡ string_bytes w → HasNoDash seen
    → IsFirst (map string_bytes words) (Word text) (map string_bytes (take (length words - 1) (drop 1 words)))
plain_first words w text seen some is given same p = record {
  found = word text.now;
  is_use = subst (λ (x : List ℕ). HasNoDash x) (same ∙ sym given) p;
  of = refl;
  written = first_word words w some is
      ∙ ap (λ (t : List ℕ). t ∷ map string_bytes (take (length words - 1) (drop 1 words))) (sym given);
}

pub no_words : (words : List (String Global)) → length words < 1 → BeginWithoutUse (map string_bytes words)
no_words [] none (word t) rest p is = nothing t rest is
no_words [] none (apart s v) rest p is = nothing (spelled s) (v ∷ rest) is
no_words [] none (joined s v) rest p is = nothing (spelled s ++ 0x3D ∷ v) rest is
no_words (x ∷ xs) none found rest p is = absurd (omega (arith, none))

pub empty_text : (text : List ℕ) (r : Bool) → r ≡ (length text == 0) → r ≡ true → text ≡ []
empty_text [] r is true_is = refl
empty_text (x ∷ text) r is true_is =
    absurd (omega (arith, eqb-true (length (x ∷ text)) 0 (sym is ∙ true_is)))

-- the first word is this text
pub first_text : (words : List (String Global)) (w : String Global) (seen text : List ℕ) → 1 ≤ length words
    → w ≡ get_or words 0 w → seen ≡ string_bytes w → seen ≡ text
    → map string_bytes words ≡ text ∷ map string_bytes (take (length words - 1) (drop 1 words))
first_text words w seen text some is same named =
    first_word words w some is
    ∙ ap (λ (t : List ℕ). t ∷ map string_bytes (take (length words - 1) (drop 1 words))) (sym same ∙ named)

-- the only word of a list, and two words
pub one_word : (words : List (String Global)) (w : String Global) → 1 ≤ length words → length words < 2
    → w ≡ get_or words 0 w → map string_bytes words ≡ string_bytes w ∷ []
one_word [] w some few is = absurd (omega (arith, some))
one_word (x ∷ []) w some few is = ap (λ (s : String Global). string_bytes s ∷ []) (sym is)
one_word (x ∷ y ∷ xs) w some few is = absurd (omega (arith, few))

pub two_words : (words : List (String Global)) (v w : String Global) → 2 ≤ length words → length words < 3
    → v ≡ get_or words 0 v → w ≡ get_or words 1 w → map string_bytes words ≡ string_bytes v ∷ string_bytes w ∷ []
two_words [] v w some few is also = absurd (omega (arith, some))
two_words (x ∷ []) v w some few is also = absurd (omega (arith, some))
two_words (x ∷ y ∷ []) v w some few is also =
    ap (λ (s : String Global). string_bytes s ∷ string_bytes y ∷ []) (sym is)
    ∙ ap (λ (s : String Global). string_bytes v ∷ string_bytes s ∷ []) (sym also)
two_words (x ∷ y ∷ z ∷ xs) v w some few is also = absurd (omega (arith, few))

-- one word before the end, and none after it
pub only_before : (before : Option (Bor (List ℕ))) (rest : List (List ℕ)) (text : Bor (List ℕ)) (seen : List ℕ)
    → before ≡ Some text → rest ≡ seen ∷ [] → seen ≡ codes "--"
    → (behind : List (List ℕ)) × Ends rest behind × (listed before ++ behind ≡ text.now ∷ [])
only_before before rest text seen some is end =
    ([], inr (is ∙ ap (λ (t : List ℕ). t ∷ []) end), ap (λ (b : Option (Bor (List ℕ))). listed b ++ []) some)

-- one word after the end, and none before it
pub only_behind : (before : Option (Bor (List ℕ))) (rest : List (List ℕ)) (text seen word' : List ℕ)
    → before ≡ None → rest ≡ seen ∷ word' ∷ [] → seen ≡ codes "--" → text ≡ word'
    → (behind : List (List ℕ)) × Ends rest behind × (listed before ++ behind ≡ text ∷ [])
only_behind before rest text seen word' none is end same = (
  word' ∷ [],
  inr (is ∙ ap (λ (t : List ℕ). t ∷ word' ∷ []) end),
  ap (λ (b : Option (Bor (List ℕ))). listed b ++ word' ∷ []) none ∙ ap (λ (t : List ℕ). t ∷ []) (sym same),
)
