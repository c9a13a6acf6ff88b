-- The bytes behind the first words of a line.
use Rattle.std.proofs.Common.{◌≡◌, ◌≢◌, ◌<◌, ◌+◌, ◌↔◌, ℕ, Bool, true, false, not, List, [], ◌∷◌, ◌++◌, length, get_or, refl, sym, ◌∙◌, ap, subst, codes, length-append, arith}
use Rattle.std.proofs.lemmas.List.{append_cancel_left, get_or_at, nil_from_length}
use Rattle.std.proofs.lemmas.List.Elements.{All-nil, All-from_get_or}
use Rattle.std.specs.Prelude.{All, IsTrue}
use Rattle.transcript.specs.Forms.{Fits, IsWord}
use Rattle.transcript.specs.Forms as form
use Rattle.transcript.proofs.FormLemmas.{IsNoSpace, spaced, word_once}

-- the bytes behind the head of a put
put_rest : (line rest uri json : List ℕ) → line ≡ codes "put " ++ rest → Fits line (form.put uri json) →
    rest ≡ uri ++ 0x20 ∷ json
put_rest line rest uri json is fits =
    append_cancel_left (codes "put ") rest (((uri ++ 0x20 ∷ []) ++ []) ++ json) (sym is ∙ fits.1) ∙ spaced uri json

pub no_space_no_put : (line rest : List ℕ) → line ≡ codes "put " ++ rest →
    ((i : ℕ) → i < length rest → get_or rest i 0 ≢ 0x20) → (uri json : List ℕ) → Fits line (form.put uri json) → ⊥
no_space_no_put line rest is none uri json fits =
    let same = put_rest line rest uri json is fits in
    let len : length rest ≡ length uri + length (0x20 ∷ json) = ap length same ∙ length-append uri (0x20 ∷ json) in
    none (length uri) (omega arith)
    (ap (λ (l : List ℕ). get_or l (length uri) 0) same ∙ get_or_at uri 0x20 json 0 (length uri) refl)

pub empty_no_put : (line rest front json : List ℕ) → line ≡ codes "put " ++ rest → rest ≡ front ++ 0x20 ∷ json →
    length front ≡ 0 → (u j : List ℕ) → Fits line (form.put u j) → ⊥
empty_no_put line rest front json is cut none u j fits =
    let empty : front ≡ [] = nil_from_length front none in
    let same = word_once front u json j (subst (All IsNoSpace) (sym empty) (All-nil IsNoSpace)) fits.0.1
    (sym cut ∙ put_rest line rest u j is fits) in
    let len : length front ≡ length u = ap length same.0 in
    omega (arith, len, fits.0.0)

pub put_fits : (line rest uri json text : List ℕ) → line ≡ codes "put " ++ rest → rest ≡ uri ++ 0x20 ∷ json →
    ((i : ℕ) → i < length uri → get_or uri i 0 ≢ 0x20) → (length uri ≡ 0 → ⊥) → text ≡ json →
    Fits line (form.put uri text)
put_fits line rest uri json text is cut clean some same = (
  (omega (arith, some), All-from_get_or IsNoSpace uri 0 clean),
  is ∙ ap (λ (l : List ℕ). codes "put " ++ l)
      (cut ∙ (ap (λ (l : List ℕ). uri ++ 0x20 ∷ l) (sym same) ∙ sym (spaced uri text))),
)

-- a text with no space is a word, if it isn't empty
pub word_told : (text : List ℕ) (found : Bool) → 0 < length text →
    (found ≡ true → (k : ℕ) × (k < length text) × (get_or text k 0 ≡ 0x20)) →
    ((k : ℕ) → k < length text → get_or text k 0 ≡ 0x20 → found ≡ true) → IsTrue (not found) ↔ IsWord text
word_told text true some there back = (
  λ (h : IsTrue (not true)). absurd cc,
  λ (word : IsWord text).
      let at = there refl in absurd (word.1 at.0 0 at.1 at.2),
)
word_told text false some there back = (
  λ h. (some, All-from_get_or IsNoSpace text 0 (λ k lt is. let h : false ≡ true = back k lt is in cc)),
  λ word. refl,
)

-- one text is behind a head
pub no_word_behind : (line head text : List ℕ) (found : Bool) → line ≡ head ++ text → (IsWord text → found ≡ true) →
    found ≡ false → (word : List ℕ) → IsWord word → line ≡ head ++ word → ⊥
no_word_behind line head text found is told none word own eq =
    let same : word ≡ text = append_cancel_left head word text (sym eq ∙ is) in
    let h : true ≡ false = sym (told (subst IsWord same own)) ∙ none in
    absurd cc
