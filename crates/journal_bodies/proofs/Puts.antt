-- A document that is put, behind other operations.
use Rattle.std.proofs.Common.{◌≡◌, ℕ, ◌+◌, ◌^◌, ◌<◌, Bool, true, false, cond, not, nat_le, nat_lt, List}
use Rattle.std.proofs.Common.{map, length, sum_by, Ok, Err, refl, sym, ap, ◌∙◌, arith}
use Rattle.std.proofs.lemmas.Bool.{le-leb, lt-leb, ltb-true, not-false}
use Rattle.doc_model.specs.Documents.{PlainDocument, document_size}
use Rattle.doc_model.specs.Operations.{op_size, uri_of}
use Rattle.doc_model.specs.Tree.{is_among}
use Rattle.doc_model.specs.declared.op.Op.{Op}
use Rattle.byte_formats.specs.Answers.{Fails}
use Rattle.byte_formats.specs.Format.{◌>>=◌, Read}
use Rattle.docs_format.specs.Reading.{collections_at, document_at, keeping, node_at, sized_document_at, uri_at}
use Rattle.byte_formats.specs.declared.error.FieldError.TheVariants.{Invalid}
use Rattle.byte_formats.specs.declared.error.DecodeError.{DecodeError}
use Rattle.byte_formats.specs.declared.error.DecodeError.TheVariants as stop
use Rattle.docs_format.proofs.Fields.{bind_ok, kept_ok, ok_is}
use Rattle.docs_format.proofs.Keeping.{kept, unkept}
use Rattle.journal_bodies.specs.EntryReading.{fresh_at, put_at}

-- the documents stay small together
abbrev pub small : List Op → PlainDocument → Bool
small before d = nat_le (sum_by op_size before + document_size d) (2 ^ 24)

abbrev alone_small : PlainDocument → Bool
alone_small d = not (nat_lt (2 ^ 24) (document_size d))

pub document_uri : (bytes : List ℕ) (uri : List ℕ × List ℕ) (d : PlainDocument × List ℕ)
    → uri_at bytes ≡ Ok uri → document_at bytes ≡ Ok d → d.0.uri ≡ uri.0
unfolding document_at
document_uri bytes uri d u e =
    let a = bind_ok (uri_at bytes) _ d e in
    let b = bind_ok (collections_at a.0.1) _ d a.2 in
    let c = bind_ok (node_at 128 b.0.1) _ d b.2 in
    let made : PlainDocument × List ℕ =
    (record { uri = a.0.0; collections = b.0.0; root = c.0.0 }, c.0.1) in
    ap (λ (x : PlainDocument × List ℕ). x.0.uri) (sym (ok_is made d c.2))
    ∙ ap (λ (x : List ℕ × List ℕ). x.0) (ok_is a.0 uri (sym a.1 ∙ u))

module _ (before : List Op) (bytes : List ℕ) (uri : List ℕ × List ℕ)
    (fresh : fresh_at (map uri_of before) bytes ≡ Ok uri) where
  put_is : put_at before bytes ≡ keeping (small before) document_at bytes
  unfolding put_at
  put_is = rw fresh refl

  pub put_stops : (why : DecodeError) → Fails why (sized_document_at bytes) → Fails why (put_at before bytes)
  unfolding sized_document_at
  put_stops stop.Memory s = tt
  put_stops (stop.Bad fault) s = put_is ∙ go (document_at bytes) s
    where
      judged : (x : PlainDocument × List ℕ) (b : Bool) → alone_small x.0 ≡ b
          → (let r : Read PlainDocument = cond b (Ok x) (Err (Invalid (length bytes))) in r) ≡ Err fault
          → (let r : Read PlainDocument = cond (small before x.0) (Ok x) (Err (Invalid (length bytes))) in r) ≡ Err fault
      judged x true a e = absurd cc
      judged x false a e =
          let large : 2 ^ 24 < document_size x.0 =
          ltb-true (2 ^ 24) (document_size x.0) (not-false (nat_lt (2 ^ 24) (document_size x.0)) a) in
          let over : small before x.0 ≡ false =
          lt-leb (sum_by op_size before + document_size x.0) (2 ^ 24) (omega (arith, large)) in
          rw over e

      go : (read : Read PlainDocument)
          → (read >>= λ x. cond (alone_small x.0) (Ok x) (Err (Invalid (length bytes)))) ≡ Err fault
          → (read >>= λ x. cond (small before x.0) (Ok x) (Err (Invalid (length bytes)))) ≡ Err fault
      go (Ok x) e = judged x (alone_small x.0) refl e
      go (Err f) e = e

  module _ (d : PlainDocument × List ℕ) (sized : sized_document_at bytes ≡ Ok d) where
    is_read : document_at bytes ≡ Ok d
    unfolding sized_document_at
    is_read = (kept_ok alone_small document_at bytes d sized).0

    pub put_read : (room rest : ℕ) → room + sum_by op_size before ≡ 2 ^ 24 → rest + document_size d.0 ≡ room
        → put_at before bytes ≡ Ok d
    put_read room rest total left =
        put_is ∙ kept (small before) document_at bytes d is_read
        (le-leb (sum_by op_size before + document_size d.0) (2 ^ 24) (omega (arith, total, left)))

    pub put_large : (room : ℕ) → room + sum_by op_size before ≡ 2 ^ 24 → room < document_size d.0
        → put_at before bytes ≡ Err (Invalid (length bytes))
    put_large room total less =
        put_is ∙ unkept (small before) document_at bytes d is_read
        (lt-leb (sum_by op_size before + document_size d.0) (2 ^ 24) (omega (arith, total, less)))

    pub put_uri : d.0.uri ≡ uri.0
    unfolding fresh_at
    put_uri =
        document_uri bytes uri d
        (kept_ok (λ u. not (is_among (map uri_of before) u)) uri_at bytes uri fresh).0 is_read
