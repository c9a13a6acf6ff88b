use Rattle.std.proofs.Common.{◌∙◌, ◌∷◌, [], ◌++◌, ℕ, List, map, sym, ap, subst, arith}
use Rattle.std.proofs.lemmas.List.{map_push}
use Rattle.std.proofs.lemmas.Result.{err_from_is_err_and}
use Rattle.doc_model.specs.Operations.{uri_of}
use Rattle.doc_model.specs.declared.op.Op.{Op}
use Rattle.doc_model.specs.declared.op.Op.TheVariants.{Put}
use Rattle.docs_format.specs.Answers.{HasNames}
use Rattle.journal_bodies.proofs.OpLists.{sizes_push}
use Rattle.journal_bodies.proofs.Puts.{put_large, put_read, put_stops, put_uri}
use Rattle.journal_bodies.proofs.ops.put_at.Goals as goal

pub returns-in_err-document-clause-document : goal.returns-in_err-document-clause-document
returns-in_err-document-clause-document c =
    λ before had.
    let p = err_from_is_err_and c.from_residual-in_err-document.result c.from_residual-in_err-document.ensures.1 in
    let fresh = rw c.ahead.ensures at (c.in_ok-_uri.ensures.uri (map uri_of before) had.0) in
    rw (p.1, p.2)
    (put_stops before c.args.reader.now (c.in_ok-_uri._uri.now, c.fresh_at.new.reader) fresh c.in_err-document.field-0.0
    c.in_err-document.ensures)

pub returns-in-Some-clause-document : goal.returns-in-Some-clause-document
returns-in-Some-clause-document c =
    λ before had.
    let fresh = rw c.ahead.ensures at (c.in_ok-_uri.ensures.uri (map uri_of before) had.0) in
    put_read before c.args.reader.now (c.in_ok-_uri._uri.now, c.fresh_at.new.reader) fresh
    (c.in_ok-document.document, c.document.new.reader) c.in_ok-document.ensures c.args.room.now c.in-Some.rest had.1
    (omega (arith, c.in-Some.ensures))

pub returns-in-Some-clause-noted : goal.returns-in-Some-clause-noted
returns-in-Some-clause-noted c =
    λ before had e.
    let fresh = rw c.ahead.ensures at (c.in_ok-_uri.ensures.uri (map uri_of before) had.0) in
    let o : Op = Put c.in_ok-document.document e in
    let same =
    put_uri before c.args.reader.now (c.in_ok-_uri._uri.now, c.fresh_at.new.reader) fresh
    (c.in_ok-document.document, c.document.new.reader) c.in_ok-document.ensures in (
      subst (λ (names : List (List ℕ)). HasNames c.fresh_at.new.met names)
          (ap (λ (uri : List ℕ). map uri_of before ++ uri ∷ []) (sym same) ∙ sym (map_push uri_of before o))
          (c.in_ok-_uri.ensures.noted (map uri_of before) had.0),
      omega (arith, sizes_push before o, had.1, c.in-Some.ensures),
    )

pub returns-in-None-clause-document : goal.returns-in-None-clause-document
returns-in-None-clause-document c =
    λ before had.
    let fresh = rw c.ahead.ensures at (c.in_ok-_uri.ensures.uri (map uri_of before) had.0) in
    rw c.left-left.ensures
    (put_large before c.args.reader.now (c.in_ok-_uri._uri.now, c.fresh_at.new.reader) fresh
    (c.in_ok-document.document, c.document.new.reader) c.in_ok-document.ensures c.args.room.now had.1
    (omega (arith, c.in-None.ensures)))
