-- What stands before a fault in a member begins a text that is read.
use Rattle.std.proofs.Common.{◌≡◌, ℕ, Bool, true, List, [], ◌∷◌, ◌++◌, Some, Ok, Err, refl, sym, ap, ◌∙◌, append_assoc, arith}
use Rattle.std.proofs.lemmas.Str.{IsUtf8-append, IsUtf8-nil}
use Rattle.doc_model.specs.declared.node.Node.{Node}
use Rattle.doc_model.specs.declared.node.Node.TheVariants as node
use Rattle.json_text.specs.declared.fault.Fault.{Fault}
use Rattle.json_text.specs.Strings.{IsString}
use Rattle.json_text.specs.Grammar.{Padded, Member, IsMember, null_text}
use Rattle.json_text.specs.Reading.{◌>>=◌, Read, strip, byte_at, behind_white, text_at, separator_at, name_at, member_at, members_at}
use Rattle.json_text.proofs.Fronts.{byte_ok, cons_utf8, whites, white_utf8, word_utf8}
use Rattle.json_text.proofs.FoundTexts.{text_ok, string_ok}
use Rattle.json_text.proofs.FoundParts.{Front, padded, IsItem, Reads, name_ok, member_ok}
use Rattle.json_text.proofs.Cuts.{either_failed, ok_no_err, byte_err}
use Rattle.json_text.proofs.CutParts.{IsClosed, IsInner, Goes, separator_err}
use Rattle.json_text.proofs.Clears.{Clear, clear_in, clear_at, nothing}
use Rattle.json_text.proofs.ClearStrings.{IsEnd, string_end, text_clear}
use Rattle.json_text.proofs.ClearParts.{Any, Clears, StepClears, bare, inner_clear, space_behind, white_before}

abbrev IsName : List ℕ → List ℕ → Type 0
IsName name part = Padded (λ text. IsString text (Some name)) part

-- a name and a colon
abbrev IsNamed : List ℕ → Type 0
IsNamed text = (name : List ℕ) × (part : List ℕ) × IsName name part × (text ≡ part ++ 58 ∷ [])

no_name : IsName [] (34 ∷ 34 ∷ [])
no_name = bare (λ text. IsString text (Some [])) (34 ∷ 34 ∷ []) ([], refl, refl, refl)

name_fails : (bytes : List ℕ) (f : Fault) → name_at (behind_white bytes) ≡ Err f → Clear IsNamed bytes f
unfolding name_at
name_fails bytes f h =
    let w = whites bytes in
    let z = behind_white bytes in
    either_failed {B = List ℕ × List ℕ} (byte_at 34 z)
    (λ text. text_at text >>= λ name. byte_at 58 (behind_white name.1) >>= λ rest. Ok (name.0, rest))
    f (Clear IsNamed bytes f)
    (λ e. clear_at IsNamed w.white [] z (34 ∷ 34 ∷ 58 ∷ []) bytes f (white_utf8 w.white w.is_white)
    (word_utf8 (34 ∷ 34 ∷ 58 ∷ []) refl) w.spelled (byte_err 34 z f e).0 nothing (
      [],
      w.white ++ 32 ∷ 34 ∷ 34 ∷ [],
      white_before (λ t. IsString t (Some [])) w.white w.is_white (32 ∷ 34 ∷ 34 ∷ [])
          (white_before (λ t. IsString t (Some [])) (32 ∷ []) refl (34 ∷ 34 ∷ []) no_name),
      sym (append_assoc w.white (32 ∷ 34 ∷ 34 ∷ []) (58 ∷ [])),
    ))
    (λ t p g. let quote = byte_ok 34 z t p in
    either_failed {B = List ℕ × List ℕ} (text_at t)
    (λ name. byte_at 58 (behind_white name.1) >>= λ rest. Ok (name.0, rest)) f (Clear IsNamed bytes f)
    (λ e. clear_in IsEnd IsNamed (w.white ++ 34 ∷ []) (58 ∷ []) bytes t f
    (IsUtf8-append w.white (34 ∷ []) (white_utf8 w.white w.is_white) (word_utf8 (34 ∷ []) refl))
    (word_utf8 (58 ∷ []) refl) (w.spelled ∙ ap (λ (x : List ℕ). w.white ++ x) quote
    ∙ sym (append_assoc w.white (34 ∷ []) t))
    (λ text end. (
      end.text,
      w.white ++ 34 ∷ text,
      white_before (λ t. IsString t (Some end.text)) w.white w.is_white
          (34 ∷ text) (bare (λ t. IsString t (Some end.text)) (34 ∷ text) (string_end text end)),
      by w.white text,
    ))
    (text_clear t f e))
    (λ x q k. either_failed {B = List ℕ × List ℕ} (byte_at 58 (behind_white x.1)) (λ rest. Ok (x.0, rest))
    f (Clear IsNamed bytes f)
    (λ e. let s = string_ok t x.0 x.1 (text_ok t x.0 x.1 q) in
    let front : Front (λ text. IsString text (Some x.0)) z x.1 = record
    { text = s.written; is = s.is; valid = s.valid; spelled = quote ∙ s.spelled } in
    let n = padded (λ text. IsString text (Some x.0)) bytes x.1 front in
    clear_at IsNamed n.text [] (behind_white x.1) (58 ∷ []) bytes f n.valid (word_utf8 (58 ∷ []) refl) n.spelled
    (byte_err 58 (behind_white x.1) f e).0 nothing (
      x.0,
      n.text ++ 32 ∷ [],
      space_behind (λ t. IsString t (Some x.0)) n.text n.is,
      sym (append_assoc n.text (32 ∷ []) (58 ∷ [])),
    ))
    (λ y r never. absurd (ok_no_err {A = List ℕ × List ℕ} (x.0, y) f never)) k) g) h
  where
    by : (a b : List ℕ) → (a ++ 34 ∷ []) ++ (b ++ 58 ∷ []) ≡ (a ++ 34 ∷ b) ++ 58 ∷ []
    by a b = simp append_assoc

member_fails : (value_read : List ℕ → Read Node) (IsText : List ℕ → Node → Type 0) → Clears value_read IsText →
    (bytes : List ℕ) (f : Fault) →
    member_at value_read bytes ≡ Err f → Clear (IsClosed (Any (IsMember IsText)) 125) bytes f
unfolding member_at Reads
member_fails value_read IsText s bytes f h =
    either_failed {B = (List Member × Bool) × List ℕ} (name_at (behind_white bytes))
    (λ name. value_read (behind_white name.1) >>= λ inner. separator_at 125 (behind_white inner.1) >>= λ more.
    Ok (((name.0, inner.0) ∷ [], more.0), more.1)) f
    (Clear (IsClosed (Any (IsMember IsText)) 125) bytes f)
    (λ e. clear_in IsNamed (IsClosed (Any (IsMember IsText)) 125) [] (null_text ++ 125 ∷ []) bytes bytes f IsUtf8-nil
    (word_utf8 (null_text ++ 125 ∷ []) refl) refl
    (λ text is. (
      is.1 ++ 58 ∷ null_text,
      ((is.0, node.Null), (is.1, null_text, is.2, bare (λ t. IsText t node.Null) null_text s.null, refl)),
      ap (λ (x : List ℕ). x ++ (null_text ++ 125 ∷ [])) is.3 ∙ regroup is.1 58 null_text (125 ∷ []),
    ))
    (name_fails bytes f e))
    (λ n p g. let c = name_ok bytes n.0 n.1 p in
    let w = whites n.1 in
    let z = behind_white n.1 in
    either_failed {B = (List Member × Bool) × List ℕ} (value_read z)
    (λ inner. separator_at 125 (behind_white inner.1) >>= λ more. Ok (((n.0, inner.0) ∷ [], more.0), more.1))
    f (Clear (IsClosed (Any (IsMember IsText)) 125) bytes f)
    (λ e. clear_in (Any (IsItem IsText)) (IsClosed (Any (IsMember IsText)) 125) (c.text ++ 58 ∷ w.white)
    (125 ∷ []) bytes z f
    (IsUtf8-append c.text (58 ∷ w.white) c.valid (cons_utf8 58 w.white (omega arith) (white_utf8 w.white w.is_white)))
    (word_utf8 (125 ∷ []) refl)
    (c.spelled ∙ ap (λ (x : List ℕ). c.text ++ 58 ∷ x) w.spelled ∙ sym (append_assoc c.text (58 ∷ w.white) z))
    (λ text is. (
      c.text ++ 58 ∷ (w.white ++ text),
      (
        (n.0, is.0),
        (
          c.text,
          w.white ++ text,
          c.is,
          white_before (λ t. IsText t is.0) w.white w.is_white text is.1,
          refl,
        ),
      ),
      regroup5 c.text 58 w.white text (125 ∷ []),
    ))
    (s.fails z f e))
    (λ x q k. either_failed {B = (List Member × Bool) × List ℕ} (separator_at 125 (behind_white x.1))
    (λ more. Ok (((n.0, x.0) ∷ [], more.0), more.1)) f (Clear (IsClosed (Any (IsMember IsText)) 125) bytes f)
    (λ e. let v = padded (λ t. IsText t x.0) n.1 x.1 (s.reads z x.0 x.1 q) in
    clear_at (IsClosed (Any (IsMember IsText)) 125) (c.text ++ 58 ∷ v.text) [] (behind_white x.1) (125 ∷ []) bytes f
    (IsUtf8-append c.text (58 ∷ v.text) c.valid (cons_utf8 58 v.text (omega arith) v.valid)) (word_utf8 (125 ∷ []) refl)
    (c.spelled ∙ ap (λ (x : List ℕ). c.text ++ 58 ∷ x) v.spelled
    ∙ sym (append_assoc c.text (58 ∷ v.text) (behind_white x.1))) (separator_err 125 (behind_white x.1) f e).0
    nothing (
      c.text ++ 58 ∷ (v.text ++ 32 ∷ []),
      ((n.0, x.0), (c.text, v.text ++ 32 ∷ [], c.is, space_behind (λ t. IsText t x.0) v.text v.is, refl)),
      regroup4 c.text 58 v.text,
    ))
    (λ y r never. absurd (ok_no_err {A = (List Member × Bool) × List ℕ} (((n.0, x.0) ∷ [], y.0), y.1) f never)) k) g) h
  where
    regroup : (a : List ℕ) (b : ℕ) (c d : List ℕ) → (a ++ b ∷ []) ++ (c ++ d) ≡ (a ++ b ∷ c) ++ d
    regroup a b c d = simp append_assoc

    regroup4 : (a : List ℕ) (b : ℕ) (c : List ℕ) → (a ++ b ∷ c) ++ 32 ∷ 125 ∷ [] ≡ (a ++ b ∷ (c ++ 32 ∷ [])) ++ 125 ∷ []
    regroup4 a b c = simp append_assoc

    regroup5 : (a : List ℕ) (b : ℕ) (c d e : List ℕ) → (a ++ b ∷ c) ++ (d ++ e) ≡ (a ++ b ∷ (c ++ d)) ++ e
    regroup5 a b c d e = simp append_assoc

member_goes : (value_read : List ℕ → Read Node) (IsText : List ℕ → Node → Type 0) → Clears value_read IsText →
    (bytes : List ℕ) (ys : List Member) (rest : List ℕ) → member_at value_read bytes ≡ Ok ((ys, true), rest) →
    Goes (Any (IsMember IsText)) bytes rest
member_goes value_read IsText s bytes ys rest h = let p = member_ok value_read IsText s.reads bytes ys true rest h in
    record { part = p.part; is = (p.one, p.is); valid = p.valid; spelled = p.spelled }

pub members_clear : (value_read : List ℕ → Read Node) (IsText : List ℕ → Node → Type 0) → Clears value_read IsText →
    (bytes : List ℕ) (f : Fault) →
    members_at value_read bytes ≡ Err f → Clear (IsInner (Any (IsMember IsText)) 125) bytes f
unfolding members_at
members_clear value_read IsText s bytes f h = inner_clear (member_at value_read) (Any (IsMember IsText)) 125 steps bytes
    f (strip 125 (behind_white bytes)) h
  where
    name : IsName [] (32 ∷ 34 ∷ 34 ∷ [])
    name = white_before (λ t. IsString t (Some [])) (32 ∷ []) refl (34 ∷ 34 ∷ []) no_name

    steps : StepClears (member_at value_read) (Any (IsMember IsText)) 125
    steps = record {
      closed = word_utf8 (125 ∷ []) refl;
      null = (
        34 ∷ 34 ∷ 58 ∷ null_text,
        word_utf8 (34 ∷ 34 ∷ 58 ∷ null_text) refl,
        (
          ([], node.Null),
          (
            32 ∷ 34 ∷ 34 ∷ [],
            null_text,
            name,
            bare (λ t. IsText t node.Null) null_text s.null,
            refl,
          ),
        ),
      );
      fails = member_fails value_read IsText s;
      goes = member_goes value_read IsText s;
    }
