-- Reading step by step: what was taken from the front, and how many bytes are left from a fault on.
use Rattle.std.proofs.Common.{◌≡◌, ℕ, zero, suc, ◌+◌, ◌^◌, ◌<◌, ◌≤◌, Bool, true, false, cond, nat_lt, List, [], ◌∷◌}
use Rattle.std.proofs.Common.{◌++◌, length, take, drop, Ok, Err, refl, sym, ap, subst, ◌∙◌, arith}
use Rattle.std.specs.List.{flat_map}
use Rattle.std.specs.Str.{is_utf8}
use Rattle.std.proofs.lemmas.Grind.{flat_map-append}
use Rattle.std.proofs.lemmas.List.{append-nil, length-append, length-take, length_push}
use Rattle.byte_formats.specs.Format.{◌>>=◌, Read, left_of}
use Rattle.docs_format.specs.Reading.{bytes_at, count_at, keeping, kind_at, list_at, text_at, wide_at}
use Rattle.docs_format.specs.Spelling.{count, text}
use Rattle.byte_formats.specs.declared.error.FieldError.TheVariants.{Truncated, Invalid}
use Rattle.docs_format.proofs.Digits.{IsBytes}
use Rattle.docs_format.proofs.Fields.{Takes, Takes-then, bind_ok, count_takes, guard_ok, kept_ok, text_takes, wide_takes}
use Rattle.docs_format.proofs.Forward.{Within, count_forward, text_forward, wide_forward}
use Rattle.journal_bodies.specs.RootReading.{long_at}
use Rattle.journal_bodies.specs.Roots.{listed, long}

-- a value is spelled in front of what is left, and a fact holds of it; or a fault is among the bytes
abbrev pub Reads : {X : Type 0} → (X → List ℕ) → (X → Type 0) → List ℕ → Read X → Type 0
Reads spelling P bytes (Ok x) = Takes bytes (spelling x.0) x.1 × P x.0
Reads spelling P bytes (Err fault) = left_of fault ≤ length bytes

pub start : (bytes : List ℕ) → IsBytes bytes → Takes bytes [] bytes
start bytes fits = record { parts = refl; rest_fits = fits }

fewer : (bytes front here : List ℕ) → Takes bytes front here → length here ≤ length bytes
fewer bytes front here t = omega (arith, length-append front here, ap length t.parts)

-- one step more
pub step : {X Y : Type 0} (spell : X → List ℕ) (P : X → Type 0) (spell_all : Y → List ℕ) (Q : Y → Type 0)
    (bytes front here : List ℕ) (read : Read X) (f : X × List ℕ → Read Y)
    → Takes bytes front here → Reads spell P here read
    → ((x : X × List ℕ) → Takes bytes (front ++ spell x.0) x.1 → P x.0 → Reads spell_all Q bytes (f x))
    → Reads spell_all Q bytes (read >>= f)
step spell P spell_all Q bytes front here (Ok x) f t r each =
    each x (Takes-then bytes front here (spell x.0) x.1 t r.0) r.1
step spell P spell_all Q bytes front here (Err fault) f t r each = omega (arith, fewer bytes front here t, r)

-- what is read behind some bytes that were taken
pub behind : {X : Type 0} (spell : X → List ℕ) (P : X → Type 0) (spell_all : X → List ℕ) (Q : X → Type 0)
    (bytes front here : List ℕ) (read : Read X)
    → Takes bytes front here → Reads spell P here read
    → ((x : X) → P x → (front ++ spell x ≡ spell_all x) × Q x)
    → Reads spell_all Q bytes read
behind spell P spell_all Q bytes front here (Ok x) t r each =
    let e = each x.0 r.1 in (
      subst (λ (s : List ℕ). Takes bytes s x.1) e.0 (Takes-then bytes front here (spell x.0) x.1 t r.0),
      e.1,
    )
behind spell P spell_all Q bytes front here (Err fault) t r each = omega (arith, fewer bytes front here t, r)

pub weaken : {X : Type 0} (spell : X → List ℕ) (P Q : X → Type 0) (bytes : List ℕ) (read : Read X)
    → Reads spell P bytes read → ((x : X) → P x → Q x) → Reads spell Q bytes read
weaken spell P Q bytes (Ok x) r each = (r.0, each x.0 r.1)
weaken spell P Q bytes (Err fault) r each = r

pub keeping_reads : {X : Type 0} (spell : X → List ℕ) (P : X → Type 0) (rule : X → Bool) (field_at : List ℕ → Read X)
    (bytes : List ℕ) → Reads spell P bytes (field_at bytes)
    → Reads spell (λ x. P x × (rule x ≡ true)) bytes (keeping rule field_at bytes)
keeping_reads {X = X} spell P rule field_at bytes r = go (field_at bytes) r
  where
    judged : (x : X × List ℕ) (b : Bool) → rule x.0 ≡ b → Takes bytes (spell x.0) x.1 → P x.0
        → Reads spell (λ y. P y × (rule y ≡ true)) bytes (cond b (Ok x) (Err (Invalid (length bytes))))
    judged x true e t p = (t, (p, e))
    judged x false e t p = omega arith

    go : (read : Read X) → Reads spell P bytes read
        → Reads spell (λ x. P x × (rule x ≡ true)) bytes
        (read >>= λ x. cond (rule x.0) (Ok x) (Err (Invalid (length bytes))))
    go (Ok x) r = judged x (rule x.0) refl r.0 r.1
    go (Err fault) r = r

-- ---- fields

pub from_takes : {X : Type 0} (spell : X → List ℕ) (P : X → Type 0) (bytes : List ℕ) (read : Read X)
    → ((x : X × List ℕ) → read ≡ Ok x → Takes bytes (spell x.0) x.1 × P x.0) → Within (length bytes) read
    → Reads spell P bytes read
from_takes spell P bytes (Ok x) t w = t x refl
from_takes spell P bytes (Err fault) t w = w

pub count_reads : (bytes : List ℕ) → IsBytes bytes → Reads count (λ n. n < 2 ^ 32) bytes (count_at bytes)
count_reads bytes fits =
    from_takes count (λ n. n < 2 ^ 32) bytes (count_at bytes) (λ x e. count_takes bytes x fits e)
    (count_forward [] bytes).within

-- a text's length is in four bytes
text_short : (bytes : List ℕ) (x : List ℕ × List ℕ) → IsBytes bytes → text_at bytes ≡ Ok x → length x.0 < 2 ^ 32
unfolding text_at bytes_at
text_short bytes x fits e =
    let k = kept_ok is_utf8 bytes_at bytes x e in
    let a = bind_ok (count_at bytes) _ x k.0 in
    let g = guard_ok (nat_lt (length a.0.1) a.0.0) (Truncated (length bytes)) (take a.0.0 a.0.1, drop a.0.0 a.0.1) x a.2 in
    let short : length (take a.0.0 a.0.1) ≤ a.0.0 = omega (arith, length-take a.0.0 a.0.1) in
    subst (λ (y : List ℕ × List ℕ). length y.0 < 2 ^ 32) g.1 (omega (arith, short, (count_takes bytes a.0 fits a.1).1))

pub short_text_reads : (bytes : List ℕ) → IsBytes bytes
    → Reads text (λ t. (is_utf8 t ≡ true) × (length t < 2 ^ 32)) bytes (text_at bytes)
short_text_reads bytes fits =
    from_takes text (λ t. (is_utf8 t ≡ true) × (length t < 2 ^ 32)) bytes (text_at bytes)
    (λ x e. let t = text_takes bytes x fits e in (t.0, (t.1, text_short bytes x fits e)))
    (text_forward [] bytes).within

pub long_reads : (bytes : List ℕ) → IsBytes bytes → Reads long (λ n. n < 2 ^ 64) bytes (long_at bytes)
unfolding long long_at
long_reads bytes fits =
    from_takes long (λ n. n < 2 ^ 64) bytes (wide_at 8 bytes) (λ x e. wide_takes 8 bytes x fits e)
    (wide_forward 8 [] bytes).within

abbrev pub byte : ℕ → List ℕ
byte b = b ∷ []

pub kind_reads : (bytes : List ℕ) → IsBytes bytes → Reads byte (λ b. Unit {0}) bytes (kind_at bytes)
unfolding kind_at
kind_reads [] fits = omega arith
kind_reads (b ∷ bytes) fits = (record { parts = refl; rest_fits = λ i. fits (suc i) }, tt)

-- ---- lists

module _ {X : Type 0} (item_at : List X → List ℕ → Read X) (spell : X → List ℕ) (P : List X → Type 0)
    (each : (before : List X) (bytes : List ℕ) → IsBytes bytes → P before
    → Reads spell (λ x. P (before ++ x ∷ [])) bytes (item_at before bytes)) where
  pub list_reads : (n : ℕ) (all : List ℕ) (before : List X) (bytes : List ℕ) → Takes all (flat_map spell before) bytes
      → P before
      → Reads (flat_map spell) (λ xs. P xs × (length xs ≡ length before + n)) all (list_at item_at before n bytes)
  unfolding list_at
  list_reads zero all before bytes t p = (t, (p, omega arith))
  list_reads (suc n) all before bytes t p =
      step spell (λ x. P (before ++ x ∷ [])) (flat_map spell) (λ xs. P xs × (length xs ≡ length before + suc n)) all
      (flat_map spell before) bytes (item_at before bytes) _ t (each before bytes t.rest_fits p)
      (λ x u q.
      let front : flat_map spell before ++ spell x.0 ≡ flat_map spell (before ++ x.0 ∷ []) =
      ap (λ (s : List ℕ). flat_map spell before ++ s) (sym (append-nil (spell x.0)))
      ∙ sym (flat_map-append spell before (x.0 ∷ [])) in
      let more : Takes all (flat_map spell (before ++ x.0 ∷ [])) x.1 =
      subst (λ (s : List ℕ). Takes all s x.1) front u in
      weaken (flat_map spell) (λ xs. P xs × (length xs ≡ length (before ++ x.0 ∷ []) + n))
      (λ xs. P xs × (length xs ≡ length before + suc n)) all (list_at item_at (before ++ x.0 ∷ []) n x.1)
      (list_reads n all (before ++ x.0 ∷ []) x.1 more q)
      (λ xs h. (h.0, omega (arith, h.1, length_push before x.0))))

  -- how many there are, and each
  pub listed_reads : (R : ℕ → Type 0) (bytes : List ℕ) (counted : Read ℕ) → IsBytes bytes → Reads count R bytes counted
      → P [] → Reads (listed spell) (λ xs. P xs × R (length xs)) bytes (counted >>= λ n. list_at item_at [] n.0 n.1)
  listed_reads R bytes counted fits c none =
      step count R (listed spell) (λ xs. P xs × R (length xs)) bytes [] bytes counted _ (start bytes fits) c
      (λ n t r. behind (flat_map spell) (λ xs. P xs × (length xs ≡ 0 + n.0)) (listed spell)
      (λ xs. P xs × R (length xs)) bytes (count n.0) n.1 (list_at item_at [] n.0 n.1) t
      (list_reads n.0 n.1 [] n.1 (start n.1 t.rest_fits) none)
      (λ xs h.
      let same : n.0 ≡ length xs = omega (arith, h.1) in
      (ap (λ (k : ℕ). count k ++ flat_map spell xs) same, (h.0, subst R same r))))
