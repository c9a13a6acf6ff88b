-- Lemmas of the forms of a line.
use Rattle.std.proofs.Common.{◌≡◌, ◌≢◌, ◌≤◌, ◌<◌, ◌+◌, ◌*◌, ◌%◌, ◌^◌, ℕ, List, [], ◌∷◌, ◌++◌, length, get_or, refl, sym, ◌∙◌, ap, subst, append_assoc, codes, arith}
use Rattle.std.proofs.lemmas.Fmt.{decimal_by_steps, decimal_injective}
use Rattle.std.proofs.lemmas.List.{append-nil, append_cancel_left}
use Rattle.std.proofs.lemmas.List.Elements.{All-nil, All-cons, All-push, All-head, All-tail}
use Rattle.std.specs.Fmt.{decimal}
use Rattle.std.specs.Prelude.{All}
use Rattle.doc_meaning.specs.Replies.{last_timestamp}
use Rattle.transcript.specs.Forms.{Form, HasForm, Fits, form_text, spaced_out, words_before, when_words, IsWhen}
use Rattle.transcript.specs.Forms as form
use Rattle.transcript.specs.declared.command.When.{When}
use Rattle.transcript.specs.declared.command.When.TheVariants.{Front, At, Pinned}

abbrev pub IsNoSpace : ℕ → Type 0
IsNoSpace b = b ≢ 0x20

-- a number of 64 bits is no space
pub timestamp_small : (t : ℕ) → t ≤ last_timestamp → t < 2 ^ 64
timestamp_small t le = omega (arith, le)

pub decimal_clean : (n : ℕ) → n < 2 ^ 64 → All IsNoSpace (decimal n)
decimal_clean n small =
    decimal_by_steps (λ (k : ℕ) (ds : List ℕ). All IsNoSpace ds)
    (λ k lt. All-cons IsNoSpace (48 + k) [] (omega arith) (All-nil IsNoSpace))
    (λ k ds le clean. All-push IsNoSpace ds (48 + k % 10) clean (omega arith)) n small

-- two words before a space
pub word_once : (t u a b : List ℕ) → All IsNoSpace t → All IsNoSpace u → t ++ 0x20 ∷ a ≡ u ++ 0x20 ∷ b →
    (t ≡ u) × (a ≡ b)
word_once [] [] a b p q e = (refl, append_cancel_left (0x20 ∷ []) a b e)
word_once [] (y ∷ u) a b p q e =
    let h : 0x20 ≡ y = ap (λ (l : List ℕ). get_or l 0 0) e in absurd (All-head IsNoSpace y u q (sym h))
word_once (x ∷ t) [] a b p q e =
    let h : x ≡ 0x20 = ap (λ (l : List ℕ). get_or l 0 0) e in absurd (All-head IsNoSpace x t p h)
word_once (x ∷ t) (y ∷ u) a b p q e =
    let h : x ≡ y = cc in
    let rest : t ++ 0x20 ∷ a ≡ u ++ 0x20 ∷ b = cc in
    let same = word_once t u a b (All-tail IsNoSpace x t p) (All-tail IsNoSpace y u q) rest in
    let ts : t ≡ u = same.0 in
    (cc, same.1)

-- a word and a space, as they are spaced out
pub spaced : (word rest : List ℕ) → ((word ++ 0x20 ∷ []) ++ []) ++ rest ≡ word ++ 0x20 ∷ rest
spaced word rest =
    ap (λ (l : List ℕ). l ++ rest) (append-nil (word ++ 0x20 ∷ [])) ∙ append_assoc word (0x20 ∷ []) rest

-- the first three bytes of a line tell the forms apart
abbrev pub first_bytes : List ℕ → ℕ
first_bytes bytes = get_or bytes 0 0 * 65536 + get_or bytes 1 0 * 256 + get_or bytes 2 0

abbrev pub kind_of : Form → ℕ
kind_of (form.put uri json) = 0x707574
kind_of (form.remove uri) = 0x72656D
kind_of (form.commit json) = 0x636F6D
kind_of (form.get when uri) = 0x676574
kind_of (form.search when json) = 0x736561
kind_of (form.estimate when json) = 0x657374
kind_of form.stamp = 0x737461
kind_of (form.forget to) = 0x666F72
kind_of form.pin = 0x70696E
kind_of form.unpin = 0x756E70
kind_of form.save = 0x736176
kind_of form.merge = 0x6D6572
kind_of form.revive = 0x726576
kind_of form.quit = 0x717569

kind_told : (f : Form) → first_bytes (form_text f) ≡ kind_of f
kind_told (form.put uri json) = refl
kind_told (form.remove uri) = refl
kind_told (form.commit json) = refl
kind_told (form.get when uri) = refl
kind_told (form.search when json) = refl
kind_told (form.estimate when json) = refl
kind_told form.stamp = refl
kind_told (form.forget to) = refl
kind_told form.pin = refl
kind_told form.unpin = refl
kind_told form.save = refl
kind_told form.merge = refl
kind_told form.revive = refl
kind_told form.quit = refl

pub same_kind : (line : List ℕ) (a b : Form) → Fits line a → Fits line b → kind_of b ≡ kind_of a
same_kind line a b p q =
    sym (kind_told b) ∙ (ap first_bytes (sym q.1 ∙ p.1) ∙ kind_told a)

-- forms that have the same parts
abbrev pub IsAlike : Form → Form → Type 0
IsAlike (form.put uri json) b = (u : List ℕ) × (j : List ℕ) × (b ≡ form.put u j)
IsAlike (form.remove uri) b = (u : List ℕ) × (b ≡ form.remove u)
IsAlike (form.commit json) b = (j : List ℕ) × (b ≡ form.commit j)
IsAlike (form.get when uri) b = (w : When) × (u : List ℕ) × (b ≡ form.get w u)
IsAlike (form.search when json) b = (w : When) × (j : List ℕ) × (b ≡ form.search w j)
IsAlike (form.estimate when json) b = (w : When) × (j : List ℕ) × (b ≡ form.estimate w j)
IsAlike form.stamp b = b ≡ form.stamp
IsAlike (form.forget to) b = (t : ℕ) × (b ≡ form.forget t)
IsAlike form.pin b = b ≡ form.pin
IsAlike form.unpin b = b ≡ form.unpin
IsAlike form.save b = b ≡ form.save
IsAlike form.merge b = b ≡ form.merge
IsAlike form.revive b = b ≡ form.revive
IsAlike form.quit b = b ≡ form.quit

alike_put : (uri : List ℕ) (json : List ℕ) (b : Form) → kind_of b ≡ kind_of (form.put uri json) → IsAlike (form.put uri json) b
alike_put uri json (form.put u j) k = (u, j, refl)
alike_put uri json b k = absurd (omega (arith, k))

alike_remove : (uri : List ℕ) (b : Form) → kind_of b ≡ kind_of (form.remove uri) → IsAlike (form.remove uri) b
alike_remove uri (form.remove u) k = (u, refl)
alike_remove uri b k = absurd (omega (arith, k))

alike_commit : (json : List ℕ) (b : Form) → kind_of b ≡ kind_of (form.commit json) → IsAlike (form.commit json) b
alike_commit json (form.commit j) k = (j, refl)
alike_commit json b k = absurd (omega (arith, k))

alike_get : (when : When) (uri : List ℕ) (b : Form) → kind_of b ≡ kind_of (form.get when uri) → IsAlike (form.get when uri) b
alike_get when uri (form.get w u) k = (w, u, refl)
alike_get when uri b k = absurd (omega (arith, k))

alike_search : (when : When) (json : List ℕ) (b : Form) → kind_of b ≡ kind_of (form.search when json) → IsAlike (form.search when json) b
alike_search when json (form.search w j) k = (w, j, refl)
alike_search when json b k = absurd (omega (arith, k))

alike_estimate : (when : When) (json : List ℕ) (b : Form) → kind_of b ≡ kind_of (form.estimate when json) → IsAlike (form.estimate when json) b
alike_estimate when json (form.estimate w j) k = (w, j, refl)
alike_estimate when json b k = absurd (omega (arith, k))

alike_stamp : (b : Form) → kind_of b ≡ kind_of form.stamp → IsAlike form.stamp b
alike_stamp form.stamp k = refl
alike_stamp b k = absurd (omega (arith, k))

alike_forget : (to : ℕ) (b : Form) → kind_of b ≡ kind_of (form.forget to) → IsAlike (form.forget to) b
alike_forget to (form.forget t) k = (t, refl)
alike_forget to b k = absurd (omega (arith, k))

alike_pin : (b : Form) → kind_of b ≡ kind_of form.pin → IsAlike form.pin b
alike_pin form.pin k = refl
alike_pin b k = absurd (omega (arith, k))

alike_unpin : (b : Form) → kind_of b ≡ kind_of form.unpin → IsAlike form.unpin b
alike_unpin form.unpin k = refl
alike_unpin b k = absurd (omega (arith, k))

alike_save : (b : Form) → kind_of b ≡ kind_of form.save → IsAlike form.save b
alike_save form.save k = refl
alike_save b k = absurd (omega (arith, k))

alike_merge : (b : Form) → kind_of b ≡ kind_of form.merge → IsAlike form.merge b
alike_merge form.merge k = refl
alike_merge b k = absurd (omega (arith, k))

alike_revive : (b : Form) → kind_of b ≡ kind_of form.revive → IsAlike form.revive b
alike_revive form.revive k = refl
alike_revive b k = absurd (omega (arith, k))

alike_quit : (b : Form) → kind_of b ≡ kind_of form.quit → IsAlike form.quit b
alike_quit form.quit k = refl
alike_quit b k = absurd (omega (arith, k))

-- forms of one kind have the same parts
pub alike : (a b : Form) → kind_of b ≡ kind_of a → IsAlike a b
alike (form.put uri json) b k = alike_put uri json b k
alike (form.remove uri) b k = alike_remove uri b k
alike (form.commit json) b k = alike_commit json b k
alike (form.get when uri) b k = alike_get when uri b k
alike (form.search when json) b k = alike_search when json b k
alike (form.estimate when json) b k = alike_estimate when json b k
alike form.stamp b k = alike_stamp b k
alike (form.forget to) b k = alike_forget to b k
alike form.pin b k = alike_pin b k
alike form.unpin b k = alike_unpin b k
alike form.save b k = alike_save b k
alike form.merge b k = alike_merge b k
alike form.revive b k = alike_revive b k
alike form.quit b k = alike_quit b k
