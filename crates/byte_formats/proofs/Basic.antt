-- The plain fields are lawful.
use Rattle.std.proofs.Common.{◌≡◌, ℕ, ◌+◌, ◌<◌, ◌≤◌, ◌^◌, Bool, true, false, cond, ltb, nat_lt, ◌==◌, List, [], ◌∷◌}
use Rattle.std.proofs.Common.{◌++◌}
use Rattle.std.proofs.Common.{length, take, drop, Some, Ok, Err, refl, sym, ap, subst, ◌∙◌, append_assoc, arith}
use Rattle.std.proofs.lemmas.Bool.{and_parts, eq-eqb, eqb-true, le-ltb, lt-ltb, ltb-false, ltb-true}
use Rattle.std.proofs.lemmas.List.{drop_at, length-append, length-take-le, take-append-drop, take_at}
use Rattle.std.specs.Str.{bytes_eq, is_utf8}
use Rattle.std.proofs.lemmas.Slice.Eq.{bytes_eq-Decides}
use Rattle.byteorder.specs.Endian.{big_bytes, big_number}
use Rattle.byteorder.specs.Numbers.{big_from-lt, big_from-take, big_number-reads_back, length-bytes_high_first}
use Rattle.byte_formats.specs.declared.error.FieldError.{FieldError}
use Rattle.byte_formats.specs.declared.error.FieldError.TheVariants.{Truncated, Invalid}
use Rattle.byte_formats.specs.Fields.{behind, byte, byte_at, count, counted, mark, raw, raw_at, sized, sized_at}
use Rattle.byte_formats.specs.Fields.{tagged, text, wide, wide_at}
use Rattle.byte_formats.specs.Fields.{wide_bytes}
use Rattle.byte_formats.specs.Format.{◌>>=◌, Format, Read, both, keeping, left_of, made}
use Rattle.byte_formats.specs.Lawful.{IsBytes, IsEdge, IsPlaced, Lawful}
use Rattle.byte_formats.proofs.Digits.{IsBytes-take, digits_back}
use Rattle.byte_formats.proofs.Pairs.{both_lawful}
use Rattle.byte_formats.proofs.Pieces.{keeping_lawful, made_lawful}
use Rattle.byte_formats.proofs.Steps.{bind_ok, err_is, ok_is, some_is}

-- an error at the first byte of some bytes
at_first : {X : Type 0} (f : Format X) (bytes : List ℕ) (error : FieldError) → left_of error ≡ length bytes
    → IsEdge (f.read [])
    → IsPlaced f bytes error
at_first f bytes error e edge = record { front = []; back = bytes; parts = refl; place = sym e; edge = edge }

-- ---- bytes

pub byte_lawful : Lawful byte
unfolding byte_at
byte_lawful = record {
  again = λ b rest h. refl;
  found = byte_found;
  stays = byte_stays;
  placed = byte_placed;
}
  where
    byte_found : (bytes : List ℕ) (x : ℕ) (rest : List ℕ) → IsBytes bytes → byte_at bytes ≡ Ok (x, rest)
        → (bytes ≡ x ∷ rest) × (nat_lt x 256 ≡ true)
    byte_found [] x rest fits e = absurd cc
    byte_found (b ∷ bytes) x rest fits e =
        subst (λ (z : ℕ × List ℕ). (b ∷ bytes ≡ z.0 ∷ z.1) × (nat_lt z.0 256 ≡ true)) (ok_is (b, bytes) (x, rest) e)
        (refl, lt-ltb b 256 (fits 0))

    byte_stays : (bytes more : List ℕ) (left : ℕ) → IsBytes bytes → byte_at bytes ≡ Err (Invalid left)
        → byte_at (bytes ++ more) ≡ Err (Invalid (left + length more))
    byte_stays [] more left fits e = absurd cc
    byte_stays (b ∷ bytes) more left fits e = absurd cc

    byte_placed : (bytes : List ℕ) (error : FieldError) → IsBytes bytes → byte_at bytes ≡ Err error
        → IsPlaced byte bytes error
    byte_placed [] error fits e =
        at_first byte [] error (ap left_of (err_is error (Truncated 0) (sym e)))
        (record { error = Truncated 0; is = refl; last = refl })
    byte_placed (b ∷ bytes) error fits e = absurd cc

-- ---- numbers

-- what reading so many bytes says
long_ok : {X : Type 0} (width : ℕ) (bytes : List ℕ) (x y : X)
    → cond (ltb (length bytes) width) (Err (Truncated (length bytes))) (Ok x) ≡ Ok y
    → (width ≤ length bytes) × (x ≡ y)
long_ok width bytes x y e = go (ltb (length bytes) width) refl e
  where
    go : (b : Bool) → ltb (length bytes) width ≡ b → cond b (Err (Truncated (length bytes))) (Ok x) ≡ Ok y
        → (width ≤ length bytes) × (x ≡ y)
    go true t e = absurd cc
    go false t e = (ltb-false (length bytes) width t, ok_is x y e)

long_err : {X : Type 0} (width : ℕ) (bytes : List ℕ) (x : X) (error : FieldError)
    → cond (ltb (length bytes) width) (Err (Truncated (length bytes))) (Ok x) ≡ Err error
    → (length bytes < width) × (error ≡ Truncated (length bytes))
long_err width bytes x error e = go (ltb (length bytes) width) refl e
  where
    go : (b : Bool) → ltb (length bytes) width ≡ b → cond b (Err (Truncated (length bytes))) (Ok x) ≡ Err error
        → (length bytes < width) × (error ≡ Truncated (length bytes))
    go true t e = (ltb-true (length bytes) width t, cc)
    go false t e = absurd cc

pub wide_lawful : (width : ℕ) → Lawful (wide width)
unfolding wide_at wide_bytes
wide_lawful width = record {
  again = λ n rest h.
      let lt : n < 256 ^ width = ltb-true n (256 ^ width) h in
      let len : length (big_bytes width n) ≡ width = length-bytes_high_first width n in
      let long : nat_lt (length (big_bytes width n ++ rest)) width ≡ false =
      le-ltb (length (big_bytes width n ++ rest)) width (omega (arith, length-append (big_bytes width n) rest, len)) in
      let behind : drop width (big_bytes width n ++ rest) ≡ rest = drop_at (big_bytes width n) rest width len in
      rw (long, big_number-reads_back width n rest lt, behind) refl;
  found = λ bytes x rest fits e.
      let g = long_ok width bytes (big_number width bytes, drop width bytes) (x, rest) e in
      let front : big_bytes width (big_number width bytes) ≡ take width bytes =
      ap (big_bytes width) (sym (big_from-take 0 width width bytes (omega arith)))
      ∙ digits_back width (take width bytes) (length-take-le width bytes g.0) (IsBytes-take width bytes fits) in
      subst (λ (y : ℕ × List ℕ). (bytes ≡ big_bytes width y.0 ++ y.1) × (nat_lt y.0 (256 ^ width) ≡ true)) g.1 (
        sym (take-append-drop width bytes) ∙ ap (λ (t : List ℕ). t ++ drop width bytes) (sym front),
        lt-ltb (big_number width bytes) (256 ^ width) (big_from-lt 0 width bytes fits),
      );
  stays = λ bytes more left fits e.
      let g = long_err width bytes (big_number width bytes, drop width bytes) (Invalid left) e in
      absurd (cc g.1);
  placed = λ bytes error fits e.
      let g = long_err width bytes (big_number width bytes, drop width bytes) error e in
      let short : nat_lt 0 width ≡ true = lt-ltb 0 width (omega (arith, g.0)) in
      at_first (wide width) bytes error (ap left_of g.1)
      (record { error = Truncated 0; is = rw short refl; last = refl });
}

-- what reading as many bytes as a length says
size_ok : {X : Type 0} (len n : ℕ) (bytes : List ℕ) (x y : X)
    → cond (ltb (length bytes) n) (Err (Truncated len)) (Ok x) ≡ Ok y
    → (n ≤ length bytes) × (x ≡ y)
size_ok len n bytes x y e = go (ltb (length bytes) n) refl e
  where
    go : (b : Bool) → ltb (length bytes) n ≡ b → cond b (Err (Truncated len)) (Ok x) ≡ Ok y
        → (n ≤ length bytes) × (x ≡ y)
    go true t e = absurd cc
    go false t e = (ltb-false (length bytes) n t, ok_is x y e)

pub raw_lawful : (len : ℕ) → Lawful (raw len)
unfolding raw_at
raw_lawful len = record {
  again = λ text rest h.
      let same : length text ≡ len = eqb-true (length text) len h in
      let long : nat_lt (length (text ++ rest)) len ≡ false =
      le-ltb (length (text ++ rest)) len (omega (arith, length-append text rest, same)) in
      rw (long, take_at text rest len same, drop_at text rest len same) refl;
  found = λ bytes x rest fits e.
      let g = long_ok len bytes (take len bytes, drop len bytes) (x, rest) e in
      subst (λ (y : List ℕ × List ℕ). (bytes ≡ y.0 ++ y.1) × ((length y.0 == len) ≡ true)) g.1
      (sym (take-append-drop len bytes), eq-eqb (length (take len bytes)) len (length-take-le len bytes g.0));
  stays = λ bytes more left fits e.
      let g = long_err len bytes (take len bytes, drop len bytes) (Invalid left) e in
      absurd (cc g.1);
  placed = λ bytes error fits e.
      let g = long_err len bytes (take len bytes, drop len bytes) error e in
      let short : nat_lt 0 len ≡ true = lt-ltb 0 len (omega (arith, g.0)) in
      at_first (raw len) bytes error (ap left_of g.1) (record { error = Truncated 0; is = rw short refl; last = refl });
}

-- ---- what stands behind its count, behind fixed bytes, behind a kind

-- a value that is made of the second of a pair
module _ {Y X : Type 0} (f : Format Y) (g : Y → Format X) (F : Lawful f) (G : (y : Y) → Lawful (g y)) (key : X → Y)
    (known : (y : Y) (x : X) → f.fits y ≡ true → (g y).fits x ≡ true → key x ≡ y) where
  pub second_lawful : Lawful (made (λ (p : Y × X). p.1) (λ x. Some (key x, x)) (both f g))
  second_lawful =
      made_lawful (λ (p : Y × X). p.1) (λ x. Some (key x, x)) (both f g) (both_lawful f g F G)
      (λ p h.
      let fit = and_parts (f.fits p.0) ((g p.0).fits p.1) h in
      ap (λ (y : Y). Some (y, p.1)) (known p.0 p.1 fit.0 fit.1))
      (λ x p e. sym (ap (λ (q : Y × X). q.1) (some_is (key x, x) p e)))

pub counted_lawful : {X : Type 0} (rule : ℕ → Bool) (size : X → ℕ) (body : ℕ → Format X) → ((n : ℕ) → Lawful (body n))
    → ((n : ℕ) (x : X) → (body n).fits x ≡ true → size x ≡ n) → Lawful (counted rule size body)
counted_lawful rule size body B known =
    second_lawful (keeping rule count) body (keeping_lawful rule count (wide_lawful 4)) B size (λ n x a b. known n x b)

sized_again : (text rest : List ℕ) → nat_lt (length text) (2 ^ 32) ≡ true
    → sized_at ((wide_bytes 4 (length text) ++ text) ++ rest) ≡ Ok (text, rest)
unfolding sized_at
sized_again text rest h =
    let long : nat_lt (length (text ++ rest)) (length text) ≡ false =
    le-ltb (length (text ++ rest)) (length text) (omega (arith, length-append text rest)) in
    ap sized_at (append_assoc (wide_bytes 4 (length text)) text rest)
    ∙ rw (
      (wide_lawful 4).again (length text) (text ++ rest) h,
      long,
      take_at text rest
          (length text) refl,
      drop_at text rest (length text) refl,
    ) refl

module _ (bytes : List ℕ) (fits : IsBytes bytes) where
  sized_found : (x rest : List ℕ) → sized_at bytes ≡ Ok (x, rest)
      → (bytes ≡ (wide_bytes 4 (length x) ++ x) ++ rest) × (nat_lt (length x) (2 ^ 32) ≡ true)
  unfolding sized_at
  sized_found x rest e =
      let a =
      bind_ok (wide_at 4 bytes)
      (λ len. cond (ltb (length len.1) len.0) (Err (Truncated (length bytes)))
      (Ok (take len.0 len.1, drop len.0 len.1))) (x, rest) e in
      let g = size_ok (length bytes) a.0.0 a.0.1 (take a.0.0 a.0.1, drop a.0.0 a.0.1) (x, rest) a.2 in
      let first = (wide_lawful 4).found bytes a.0.0 a.0.1 fits a.1 in
      let len : length (take a.0.0 a.0.1) ≡ a.0.0 = length-take-le a.0.0 a.0.1 g.0 in
      let parts : bytes ≡ (wide_bytes 4 a.0.0 ++ take a.0.0 a.0.1) ++ drop a.0.0 a.0.1 =
      first.0 ∙ ap (λ (t : List ℕ). wide_bytes 4 a.0.0 ++ t) (sym (take-append-drop a.0.0 a.0.1))
      ∙ sym (append_assoc (wide_bytes 4 a.0.0) (take a.0.0 a.0.1) (drop a.0.0 a.0.1)) in
      subst (λ (y : List ℕ × List ℕ). (bytes ≡ (wide_bytes 4 (length y.0) ++ y.0) ++ y.1) ×
      (nat_lt (length y.0) (2 ^ 32) ≡ true)) g.1 (
        subst (λ (n : ℕ). bytes ≡ (wide_bytes 4 n ++ take a.0.0 a.0.1) ++ drop a.0.0 a.0.1) (sym len) parts,
        subst (λ (n : ℕ). nat_lt n (2 ^ 32) ≡ true) (sym len) first.1,
      )

  sized_err : (error : FieldError) → sized_at bytes ≡ Err error → error ≡ Truncated (length bytes)
  unfolding sized_at wide_at
  sized_err error e = go (ltb (length bytes) 4) e
    where
      after : ℕ × List ℕ → Read (List ℕ)
      after len = cond (ltb (length len.1) len.0) (Err (Truncated (length bytes)))
          (Ok (take len.0 len.1, drop len.0 len.1))

      last : (b : Bool) (y : List ℕ × List ℕ) → cond b (Err (Truncated (length bytes))) (Ok y) ≡ Err error
          → error ≡ Truncated (length bytes)
      last true y e = cc
      last false y e = absurd cc

      go : (b : Bool)
          → (cond b (Err (Truncated (length bytes))) (Ok (big_number 4 bytes, drop 4 bytes)) >>= after) ≡ Err error
          → error ≡ Truncated (length bytes)
      go true e = cc
      go false e =
          last (ltb (length (drop 4 bytes)) (big_number 4 bytes))
          (take (big_number 4 bytes) (drop 4 bytes), drop (big_number 4 bytes) (drop 4 bytes)) e

pub sized_lawful : Lawful sized
unfolding sized_at wide_at
sized_lawful = record {
  again = sized_again;
  found = λ bytes x rest fits e. sized_found bytes fits x rest e;
  stays = λ bytes more left fits e. absurd (cc (sized_err bytes fits (Invalid left) e));
  placed = λ bytes error fits e.
      at_first sized bytes error (ap left_of (sized_err bytes fits error e))
      (record { error = Truncated 0; is = refl; last = refl });
}

pub text_lawful : Lawful text
text_lawful = keeping_lawful is_utf8 sized sized_lawful

pub behind_lawful : {X : Type 0} (bytes : List ℕ) (f : Format X) → Lawful f → Lawful (behind bytes f)
behind_lawful bytes f F =
    second_lawful (mark bytes) (λ _. f)
    (keeping_lawful (bytes_eq bytes) (raw (length bytes)) (raw_lawful (length bytes))) (λ _. F)
    (λ _. bytes)
    (λ text x a b.
    (bytes_eq-Decides bytes text).0 (and_parts (length text == length bytes) (bytes_eq bytes text) a).1)

pub tagged_lawful : {X : Type 0} (known : ℕ → Bool) (kind : X → ℕ) (body : ℕ → Format X) → ((k : ℕ) → Lawful (body k))
    → ((k : ℕ) (x : X) → (body k).fits x ≡ true → kind x ≡ k) → Lawful (tagged known kind body)
tagged_lawful known kind body B is =
    second_lawful (keeping known byte) body (keeping_lawful known byte byte_lawful) B kind (λ k x a b. is k x b)
