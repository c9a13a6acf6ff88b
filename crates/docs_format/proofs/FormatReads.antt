-- Reading by the definitions is reading by the formats: texts, lists and collections.
use Rattle.std.proofs.Common.{◌≡◌, ℕ, zero, suc, nat_le, List, [], ◌∷◌, ◌++◌}
use Rattle.std.proofs.Common.{Ok, Err, refl, sym, ap, ◌∙◌}
use Rattle.byte_formats.specs.Fields as plain
use Rattle.byte_formats.specs.Fields.{listed, text}
use Rattle.byte_formats.specs.Format.{◌>>=◌, Format, Read, many}
use Rattle.byte_formats.proofs.Loops.{begins, no_more, none_left, one_more, with_front}
use Rattle.docs_format.specs.DocumentFormat.{as_last, collection}
use Rattle.docs_format.specs.Reading as reading
use Rattle.docs_format.specs.Reading.{collection_at, collections_at, last_of, list_at, text_at}
use Rattle.docs_format.proofs.Parts.{last_of-push}

pub text_same : (bytes : List ℕ) → text_at bytes ≡ text.read bytes
unfolding text_at reading.bytes_at reading.count_at reading.wide_at plain.sized_at plain.wide_at
text_same bytes = refl

module _ {S X : Type 0} (item_at : List X → List ℕ → Read X) (item : S → Format X) (next : S → X → S)
    (state : List X → S)
    (each : (before : List X) (bytes : List ℕ) → item_at before bytes ≡ (item (state before)).read bytes)
    (on : (before : List X) (x : X) → next (state before) x ≡ state (before ++ x ∷ [])) where
  pub list_same : (n : ℕ) (before : List X) (bytes : List ℕ)
      → list_at item_at before n bytes ≡ with_front before ((many item next (state before) n).read bytes)
  unfolding list_at
  list_same zero before bytes = sym (none_left item next before (state before) bytes)
  list_same (suc n) before bytes = go (item_at before bytes) refl (λ x rest. list_same n (before ++ x ∷ []) rest)
    where
      go : (r : Read X) → item_at before bytes ≡ r
          → ((x : X) (rest : List ℕ) → list_at item_at (before ++ x ∷ []) n rest
          ≡ with_front (before ++ x ∷ []) ((many item next (state (before ++ x ∷ [])) n).read rest))
          → list_at item_at before (suc n) bytes
          ≡ with_front before ((many item next (state before) (suc n)).read bytes)
      go (Ok x) is rest_same =
          let read : (item (state before)).read bytes ≡ Ok (x.0, x.1) = sym (each before bytes) ∙ is in
          rw is (rest_same x.0 x.1)
          ∙ ap (λ (s : S). with_front (before ++ x.0 ∷ []) ((many item next s n).read x.1)) (sym (on before x.0))
          ∙ sym (one_more item next before (state before) n bytes x.0 x.1 read)
      go (Err error) is rest_same =
          rw is (sym (no_more item next before (state before) n bytes error (sym (each before bytes) ∙ is)))

-- ---- collections

abbrev applied : {X : Type 0} → (ℕ → List ℕ → Read X) → ℕ × List ℕ → Read X
applied body n = body n.0 n.1

abbrev pub with_count : {X : Type 0} → ℕ → X × List ℕ → Read (ℕ × X)
with_count n y = Ok ((n, y.0), y.1)

abbrev pub counted_read : {X : Type 0} → (ℕ → List ℕ → Read X) → ℕ × List ℕ → Read (ℕ × X)
counted_read body n = body n.0 n.1 >>= with_count n.0

abbrev pub uncounted : {X : Type 0} → (ℕ × X) × List ℕ → Read X
uncounted p = Ok (p.0.1, p.1)

behind_count : {X : Type 0} (r : Read ℕ) (one : ℕ → List ℕ → Read X) (body : ℕ → List ℕ → Read X)
    → ((n : ℕ) (rest : List ℕ) → one n rest ≡ body n rest)
    → (r >>= applied one) ≡ ((r >>= counted_read body) >>= uncounted)
behind_count (Err error) one body same = refl
behind_count {X = X} (Ok n) one body same = same n.0 n.1 ∙ go (body n.0 n.1)
  where
    go : (r : Read X) → r ≡ ((r >>= with_count n.0) >>= uncounted)
    go (Ok y) = refl
    go (Err error) = refl

unfronted : {X : Type 0} (r : Read (List X)) → with_front [] r ≡ r
unfronted r = begins r

collection_same : (before : List (List ℕ)) (bytes : List ℕ)
    → collection_at (last_of before) bytes ≡ (collection (last_of before)).read bytes
unfolding collection_at
collection_same before bytes = rw (text_same bytes) refl

pub collections_same : (bytes : List ℕ)
    → collections_at bytes ≡ (listed (λ n. nat_le n 64) collection as_last []).read bytes
unfolding collections_at reading.count_at reading.wide_at plain.wide_at
collections_same bytes =
    behind_count (reading.keeping (λ n. nat_le n 64) reading.count_at bytes)
    (λ n rest. list_at (λ before. collection_at (last_of before)) [] n rest)
    (λ n rest. (many collection as_last [] n).read rest)
    (λ n rest.
    list_same (λ before. collection_at (last_of before)) collection as_last last_of collection_same
    (λ before x. sym (last_of-push before x)) n [] rest
    ∙ unfronted ((many collection as_last [] n).read rest))
