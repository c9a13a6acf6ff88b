-- Where a fault is, and that it stays there.
use Rattle.std.proofs.Common.{◌≡◌, ℕ, ◌+◌, ◌-◌, ◌^◌, ◌<◌, ◌≤◌, Bool, true, false, cond, not, nat_lt, ◌==◌, List, []}
use Rattle.std.proofs.Common.{◌++◌}
use Rattle.std.proofs.Common.{length, Result, Ok, Err, inl, inr, refl, sym, ap, subst, ◌∙◌, arith}
use Rattle.std.specs.Prelude.{IfErr}
use Rattle.std.proofs.lemmas.Bool.{cases_Bool, eqb-false, ne_eqb, not-true}
use Rattle.std.proofs.lemmas.List.{append-nil, length-append}
use Rattle.doc_model.specs.Documents.{PlainDocument, document_size}
use Rattle.docs_format.specs.Answers.{Decodes, IsPlaced}
use Rattle.docs_format.specs.Laws.{BeginningsEndEarly, FaultsStay, MoreIsTooMany}
use Rattle.byte_formats.specs.Format.{◌>>=◌, Read, left_of}
use Rattle.docs_format.specs.Reading.{document_at, document_of, placed, whole_of}
use Rattle.byte_formats.specs.declared.error.FieldError.{FieldError}
use Rattle.byte_formats.specs.declared.error.FieldError.TheVariants.{Truncated, Invalid}
use Rattle.docs_format.specs.declared.fault.DocBytesBad.{DocBytesBad}
use Rattle.docs_format.specs.declared.fault.DocBytesBad.TheVariants as bad
use Rattle.docs_format.proofs.Takes.{spelled_again}
use Rattle.docs_format.proofs.Fields.{ok_is}
use Rattle.docs_format.proofs.Forward.{Forward, Stays, Within}
use Rattle.docs_format.proofs.ForwardNodes.{document_forward}

-- a document with nothing behind it that isn't too large, of so many bytes
judged : ℕ → PlainDocument × List ℕ → Result PlainDocument FieldError
judged len d =
    cond (not (length d.1 == 0)) (Err (Invalid (length d.1)))
    (cond (nat_lt (2 ^ 24) (document_size d.0)) (Err (Invalid len)) (Ok d.0))

whole_is : (bytes : List ℕ) → whole_of bytes ≡ (document_at bytes >>= judged (length bytes))
unfolding whole_of judged
whole_is bytes = refl

-- ---- the bytes left from a fault on

judged_within : (len : ℕ) (d : PlainDocument × List ℕ) (fault : FieldError) → length d.1 ≤ len → judged len d ≡ Err fault
    → left_of fault ≤ len
unfolding judged
judged_within len d fault le e = go (not (length d.1 == 0)) (nat_lt (2 ^ 24) (document_size d.0)) e
  where
    go : (b c : Bool) → cond b (Err (Invalid (length d.1))) (cond c (Err (Invalid len)) (Ok d.0)) ≡ Err fault
        → left_of fault ≤ len
    go true c f = let same : Invalid (length d.1) ≡ fault = cc in subst (λ g. left_of g ≤ len) same le
    go false true f = let same : Invalid len ≡ fault = cc in subst (λ g. left_of g ≤ len) same (omega arith)
    go false false f = absurd cc

read_within : (len : ℕ) (read : Read PlainDocument) (fault : FieldError) → Within len read
    → (read >>= judged len) ≡ Err fault → left_of fault ≤ len
read_within len (Ok d) fault w e = judged_within len d fault w e
read_within len (Err first) fault w e = let same : first ≡ fault = cc in subst (λ g. left_of g ≤ len) same w

pub left_within : (bytes : List ℕ) (fault : FieldError) → whole_of bytes ≡ Err fault → left_of fault ≤ length bytes
left_within bytes fault e =
    read_within (length bytes) (document_at bytes) fault (document_forward [] bytes).within (sym (whole_is bytes) ∙ e)

-- ---- the place

pub is_placed : (bytes : List ℕ) (r : Result PlainDocument DocBytesBad) → Decodes r (document_of bytes)
    → IfErr r (IsPlaced (length bytes))
is_placed bytes (Ok d) a = tt
is_placed bytes (Err bad.Memory) a = tt
is_placed bytes (Err (bad.Bad place)) a = go (whole_of bytes) a
  where
    go : (read : Result PlainDocument FieldError) → placed (length bytes) read ≡ Err place → place ≤ length bytes
    go (Ok d) e = absurd cc
    go (Err (Truncated left)) e = let same : length bytes ≡ place = cc in omega (arith, same)
    go (Err (Invalid left)) e = let same : length bytes - left ≡ place = cc in omega (arith, same)

-- a place from the number of bytes left
at_place : (bytes : List ℕ) (left : ℕ) → whole_of bytes ≡ Err (Invalid left)
    → document_of bytes ≡ Err (length bytes - left)
at_place bytes left e = ap (placed (length bytes)) e

at_end : (bytes : List ℕ) (left : ℕ) → whole_of bytes ≡ Err (Truncated left) → document_of bytes ≡ Err (length bytes)
at_end bytes left e = ap (placed (length bytes)) e

err_is : (a b : ℕ) → (let r : Result PlainDocument ℕ = Err a in r) ≡ Err b → a ≡ b
err_is a b e = cc

-- ---- laws

judged_alone : (len : ℕ) (x : PlainDocument × List ℕ) → not (length x.1 == 0) ≡ false
    → judged len x ≡ cond (nat_lt (2 ^ 24) (document_size x.0)) (Err (Invalid len)) (Ok x.0)
unfolding judged
judged_alone len x none = rw none refl

judged_rest : (len : ℕ) (x : PlainDocument × List ℕ) → not (length x.1 == 0) ≡ true
    → judged len x ≡ Err (Invalid (length x.1))
unfolding judged
judged_rest len x full = rw full refl

filled : (more : List ℕ) → 0 < length more → not (length more == 0) ≡ true
filled more h = ap not (ne_eqb (length more) 0 (λ e. absurd (omega (arith, h, e))))

pub more_is_too_many : MoreIsTooMany
more_is_too_many bytes more d s some =
    let all : List ℕ = bytes ++ more in
    let whole : whole_of all ≡ Err (Invalid (length more)) =
    whole_is all ∙ ap (λ r. r >>= judged (length all)) (spelled_again bytes more d s)
    ∙ judged_rest (length all) (d, more) (filled more some) in
    let place : length all - length more ≡ length bytes = omega (arith, length-append bytes more) in
    at_place all (length more) whole ∙ ap Err place

pub beginnings_end_early : BeginningsEndEarly
beginnings_end_early bytes more d s some =
    let longer : document_at (bytes ++ more) ≡ Ok (d, []) =
    ap document_at (sym (append-nil (bytes ++ more))) ∙ spelled_again (bytes ++ more) [] d s in
    let early = go (document_at bytes) (document_forward more bytes).stays longer in
    at_end bytes early.0 (whole_is bytes ∙ early.1)
  where
    go : (read : Read PlainDocument) → Stays more read (document_at (bytes ++ more))
        → document_at (bytes ++ more) ≡ Ok (d, [])
        → (left : ℕ) × ((read >>= judged (length bytes)) ≡ Err (Truncated left))
    go (Ok x) stays longer =
        let both : length (x.1 ++ more) ≡ 0 =
        ap (λ (y : PlainDocument × List ℕ). length y.1) (ok_is (x.0, x.1 ++ more) (d, []) (sym stays ∙ longer)) in
        absurd (omega (arith, some, length-append x.1 more, both))
    go (Err (Truncated left)) stays longer = (left, refl)
    go (Err (Invalid left)) stays longer = absurd cc

-- what is left before the end of the bytes is left with more behind them
moved : (bytes more : List ℕ) (place left : ℕ) → document_of bytes ≡ Err place → left ≤ length bytes
    → whole_of bytes ≡ Err (Invalid left) → whole_of (bytes ++ more) ≡ Err (Invalid (left + length more))
    → document_of (bytes ++ more) ≡ Err place
moved bytes more place left e le short longer =
    let here : length bytes - left ≡ place = err_is (length bytes - left) place (sym (at_place bytes left short) ∙ e) in
    let same : length (bytes ++ more) - (left + length more) ≡ place =
    omega (arith, here, le, length-append bytes more) in
    at_place (bytes ++ more) (left + length more) longer ∙ ap Err same

-- with nothing behind it a document has its fault at 0
alone_at_0 : (len place : ℕ) (d : PlainDocument) (large : Bool)
    → placed len (cond large (Err (Invalid len)) (Ok d)) ≡ Err place → place ≡ 0
alone_at_0 len place d true e = let same : len - len ≡ place = err_is (len - len) place e in omega (arith, same)
alone_at_0 len place d false e = absurd cc

stays_behind : (bytes more : List ℕ) (place : ℕ) (x : PlainDocument × List ℕ) → document_of bytes ≡ Err place
    → 0 < place
    → document_at bytes ≡ Ok x → document_at (bytes ++ more) ≡ Ok (x.0, x.1 ++ more) → length x.1 ≤ length bytes
    → document_of (bytes ++ more) ≡ Err place
stays_behind bytes more place x e low short longer le =
    let read : whole_of bytes ≡ judged (length bytes) x =
    whole_is bytes ∙ ap (λ r. r >>= judged (length bytes)) short in
    elim (cases_Bool (not (length x.1 == 0))) [
      | inl full ↦
          let all : List ℕ = bytes ++ more in
          let count : length (x.1 ++ more) ≡ length x.1 + length more = length-append x.1 more in
          let some : 0 < length x.1 = above_0 (length x.1) full in
          let again : judged (length all) (x.0, x.1 ++ more) ≡ Err (Invalid (length (x.1 ++ more))) =
          judged_rest (length all) (x.0, x.1 ++ more) (filled (x.1 ++ more) (omega (arith, some, count))) in
          let later : whole_of all ≡ Err (Invalid (length x.1 + length more)) =
          whole_is all ∙ ap (λ r. r >>= judged (length all)) longer ∙ again
          ∙ ap (λ n. Err (Invalid n)) count in
          moved bytes more place (length x.1) e le (read ∙ judged_rest (length bytes) x full) later
      | inr none ↦
          let large : Bool = nat_lt (2 ^ 24) (document_size x.0) in
          let is : whole_of bytes ≡ cond large (Err (Invalid (length bytes))) (Ok x.0) =
          read ∙ judged_alone (length bytes) x none in
          let zero_place : place ≡ 0 =
          alone_at_0 (length bytes) place x.0 large (sym (ap (placed (length bytes)) is) ∙ e) in
          absurd (omega (arith, low, zero_place))
    ]
  where
    above_0 : (n : ℕ) → not (n == 0) ≡ true → 0 < n
    above_0 n h = let differs : n ≡ 0 → ⊥ = eqb-false n 0 (not-true (n == 0) h) in omega (arith, differs)

stays_from : (bytes more : List ℕ) (place : ℕ) (fault : FieldError) → document_of bytes ≡ Err place → place < length bytes
    → document_at bytes ≡ Err fault → left_of fault ≤ length bytes
    → Stays more (let r : Read PlainDocument = Err fault in r) (document_at (bytes ++ more))
    → document_of (bytes ++ more) ≡ Err place
stays_from bytes more place (Truncated left) e high short le stays =
    let read : whole_of bytes ≡ Err (Truncated left) = whole_is bytes ∙ ap (λ r. r >>= judged (length bytes)) short in
    let here : length bytes ≡ place = err_is (length bytes) place (sym (at_end bytes left read) ∙ e) in
    absurd (omega (arith, here, high))
stays_from bytes more place (Invalid left) e high short le longer =
    let all : List ℕ = bytes ++ more in
    moved bytes more place left e le (whole_is bytes ∙ ap (λ r. r >>= judged (length bytes)) short)
    (whole_is all ∙ ap (λ r. r >>= judged (length all)) longer)

pub faults_stay : FaultsStay
faults_stay bytes more place e low high = go (document_at bytes) refl (document_forward more bytes)
  where
    go : (read : Read PlainDocument) → document_at bytes ≡ read
        → Forward (length bytes) more read (document_at (bytes ++ more)) → document_of (bytes ++ more) ≡ Err place
    go (Err fault) is f = stays_from bytes more place fault e high is f.within f.stays
    go (Ok x) is f = stays_behind bytes more place x e low is f.stays f.within
