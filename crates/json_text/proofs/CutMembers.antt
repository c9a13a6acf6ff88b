-- What a member that isn't read says of the bytes before the fault and at it.
use Rattle.std.proofs.Common.{◌≡◌, ℕ, ◌==◌, Bool, true, false, List, [], ◌∷◌, ◌++◌, Some, None, Ok, Err, refl, sym, ap, subst, ◌∙◌, append_assoc, arith}
use Rattle.std.proofs.lemmas.Bool.{eqb-true}
use Rattle.std.proofs.lemmas.Str.{IsUtf8-append, IsUtf8-nil}
use Rattle.std.specs.List.{flat_map}
use Rattle.doc_model.specs.declared.node.Node.{Node}
use Rattle.json_text.specs.declared.fault.Fault.{Fault}
use Rattle.json_text.specs.Strings.{IsString, char_text, string_text}
use Rattle.json_text.specs.Grammar.{is_white, IsWhite, Padded, Member, null_text}
use Rattle.json_text.specs.Faults.{IsQuoted, IsPair}
use Rattle.json_text.specs.Reading.{◌>>=◌, Read, strip, byte_at, behind_white, text_at, separator_at, name_at, member_at, members_at}
use Rattle.json_text.proofs.Fronts.{whites, byte_ok, cons_utf8, white_utf8, word_utf8}
use Rattle.json_text.proofs.FoundTexts.{text_ok}
use Rattle.json_text.proofs.FoundParts.{name_ok, member_ok}
use Rattle.json_text.proofs.Spelled.{stops}
use Rattle.json_text.proofs.Machine.{Due, byte, white, value, member, members, chars as due_chars, named, accepts, missing, refused, white_run, white_skip, byte_run}
use Rattle.json_text.proofs.AcceptsPlain.{chars_run, quote_run}
use Rattle.json_text.proofs.AcceptsScalars.{Taken}
use Rattle.json_text.proofs.AcceptsValues.{first_member, next_member, first_name, name_run, member_opens}
use Rattle.json_text.proofs.Cuts.{Alike, alike_stops, counts_none, Bars, Cut, within, behind_here, either_failed, ok_no_err, byte_err}
use Rattle.json_text.proofs.CutNumbers.{a_value}
use Rattle.json_text.proofs.CutEscapes.{a_string}
use Rattle.json_text.proofs.CutStrings.{IsRest, text_err, rest_quoted}
use Rattle.json_text.proofs.CutParts.{Spells, white_stops, between, IsClosed, IsInner, Goes, Unclosed, StepCuts, inner_cut, separator_err, bars_members, strip_other}
use Rattle.json_text.proofs.CutGrammar.{padded_as, quoted_from, pair_from, white_padded}
use Rattle.json_text.proofs.CutItems.{unclosed_at}

abbrev member_head : Bool → ℕ → List Due
member_head true r = member r ∷ []
member_head false r = byte 34 ∷ due_chars ∷ named r

abbrev pub member_due : Bool → ℕ → List Due
member_due first r = white ∷ member_head first r

both_refuse : (b r : ℕ) (more : List ℕ) (stack : List Due) (q : Bool) → (b == 34) ≡ q → (b == 125) ≡ false →
    accepts (b ∷ more) (member r ∷ stack) ≡ accepts (b ∷ more) (byte 34 ∷ due_chars ∷ named r ++ stack)
both_refuse b r more stack true q c =
    let e = eqb-true b 34 q in
    ap (λ (y : ℕ). accepts (y ∷ more) (member r ∷ stack)) e ∙ member_opens r more stack
    ∙ ap (λ (y : ℕ). accepts (y ∷ more) (byte 34 ∷ due_chars ∷ named r ++ stack)) (sym e)
both_refuse b r more stack false q c = refused (member r) b more stack (rw (c, q) refl)
    ∙ sym (refused (byte 34) b more (due_chars ∷ named r ++ stack) (rw q refl))

-- the first member is one as the others, where no bracket closes
member_as_pair : (first : Bool) (z : List ℕ) → (first ≡ true → strip 125 z ≡ None) → (x : List ℕ) → Alike z x →
    (r : ℕ) (stack : List Due) →
    accepts x (member_head first r ++ stack) ≡ accepts x (byte 34 ∷ due_chars ∷ named r ++ stack)
member_as_pair false z o x a r stack = refl
member_as_pair true [] o x a r stack =
    ap (λ (y : List ℕ). accepts y (member r ∷ stack)) a ∙ missing (member r) stack refl
    ∙ sym (missing (byte 34) (due_chars ∷ named r ++ stack) refl)
    ∙ ap (λ (y : List ℕ). accepts y (byte 34 ∷ due_chars ∷ named r ++ stack)) (sym a)
member_as_pair true (b ∷ z) o x (more, a) r stack =
    ap (λ (y : List ℕ). accepts y (member r ∷ stack)) a
    ∙ both_refuse b r more stack (b == 34) refl (strip_other 125 b z (b == 125) refl (o refl))
    ∙ ap (λ (y : List ℕ). accepts y (byte 34 ∷ due_chars ∷ named r ++ stack)) (sym a)

abbrev IsNamed : List ℕ → Type 0
IsNamed text = (name : List ℕ) × Padded IsQuoted name × (text ≡ name ++ 58 ∷ [])

name_fails : (room : ℕ) (first : Bool) (bytes : List ℕ) (f : Fault) → Unclosed first 125 bytes →
    name_at (behind_white bytes) ≡ Err f →
    Cut IsNamed (member_due first) room bytes f
unfolding name_at
name_fails room first bytes f o h =
    let w = whites bytes in
    let z = behind_white bytes in
    let bare = unclosed_at first 125 bytes o in
    either_failed {B = List ℕ × List ℕ} (byte_at 34 z)
    (λ text. text_at text >>= λ name. byte_at 58 (behind_white name.1) >>= λ rest. Ok (name.0, rest))
    f (Cut IsNamed (member_due first) room bytes f)
    (λ e. let b = byte_err 34 z f e in
    behind_here IsNamed (member_due first) room w.white (34 ∷ 34 ∷ 58 ∷ []) bytes z f (white_utf8 w.white w.is_white)
    w.spelled b.0 (
      w.white ++ 34 ∷ 34 ∷ [],
      white_padded IsQuoted w.white w.is_white (34 ∷ 34 ∷ []) ([], refl, refl),
      sym (append_assoc w.white (34 ∷ 34 ∷ []) (58 ∷ [])),
    )
    (λ r le stack others a. over first z bare w.white w.is_white (white_stops bytes) r stack others a
    ∙ b.1 (due_chars ∷ named r ++ stack) others a))
    (λ t p g. let quote = byte_ok 34 z t p in
    either_failed {B = List ℕ × List ℕ} (text_at t)
    (λ name. byte_at 58 (behind_white name.1) >>= λ rest. Ok (name.0, rest))
    f (Cut IsNamed (member_due first) room bytes f)
    (λ e. within IsRest IsNamed (member_due first) a_string room 0 (w.white ++ 34 ∷ []) (58 ∷ []) bytes t f
    (IsUtf8-append w.white (34 ∷ []) (white_utf8 w.white w.is_white) (word_utf8 (34 ∷ []) refl))
    (w.spelled ∙ ap (λ (x : List ℕ). w.white ++ x) quote ∙ sym (append_assoc w.white (34 ∷ []) t))
    (λ text is. (
      w.white ++ 34 ∷ text,
      white_padded IsQuoted w.white w.is_white (34 ∷ text) (rest_quoted text is),
      append_assoc w.white (34 ∷ []) (text ++ 58 ∷ []) ∙ sym (append_assoc w.white (34 ∷ text) (58 ∷ [])),
    ))
    (λ r k stack. (
      0,
      named r ++ stack,
      counts_none f room r k,
      λ x a.
          ap (λ (y : List ℕ). accepts y (member_due first r ++ stack)) (append_assoc w.white (34 ∷ []) x)
          ∙ over first z bare w.white w.is_white (white_stops bytes) r stack (34 ∷ x) (alike_quote z t x quote)
          ∙ byte_run 34 x (due_chars ∷ named r ++ stack),
    )) (text_err t f e))
    (λ x q k. either_failed {B = List ℕ × List ℕ} (byte_at 58 (behind_white x.1)) (λ rest. Ok (x.0, rest))
    f (Cut IsNamed (member_due first) room bytes f)
    (λ e. let c = text_ok t x.0 x.1 q in
    let u = whites x.1 in
    let end = behind_white x.1 in
    let b = byte_err 58 end f e in
    let cs = flat_map char_text c.chars in
    let before = w.white ++ (34 ∷ (cs ++ 34 ∷ u.white)) in
    behind_here IsNamed (member_due first) room before (58 ∷ []) bytes end f
    (IsUtf8-append w.white (34 ∷ (cs ++ 34 ∷ u.white)) (white_utf8 w.white w.is_white)
    (cons_utf8 34 (cs ++ 34 ∷ u.white) (omega arith)
    (IsUtf8-append cs (34 ∷ u.white) c.valid (cons_utf8 34 u.white (omega arith) (white_utf8 u.white u.is_white)))))
    (w.spelled ∙ ap (λ (y : List ℕ). w.white ++ y)
    (quote ∙ ap (λ (y : List ℕ). 34 ∷ y) (c.spelled ∙ ap (λ (y : List ℕ). cs ++ 34 ∷ y) u.spelled))
    ∙ regroup w.white cs u.white end)
    b.0 (
      before,
      record {
        before = w.white;
        text = string_text c.chars;
        behind = u.white;
        white_before = w.is_white;
        white_behind = u.is_white;
        is_text = (c.chars, c.are, refl);
        spelled = regroup3 w.white cs u.white;
      },
      refl,
    )
    (λ r le stack others a.
    let tail = u.white ++ others in
    ap (λ (y : List ℕ). accepts y (member_due first r ++ stack)) (sym (regroup w.white cs u.white others))
    ∙ over first z bare w.white w.is_white (white_stops bytes) r stack (34 ∷ (cs ++ 34 ∷ tail))
    (alike_quote z t (cs ++ 34 ∷ tail) quote)
    ∙ byte_run 34 (cs ++ 34 ∷ tail) (due_chars ∷ named r ++ stack)
    ∙ chars_run c.chars (34 ∷ tail) (named r ++ stack) c.are
    ∙ quote_run tail (named r ++ stack)
    ∙ white_run u.white others (byte 58 ∷ white ∷ value r ∷ white ∷ members r ∷ stack) u.is_white
    ∙ white_skip others (byte 58 ∷ white ∷ value r ∷ white ∷ members r ∷ stack)
    (alike_stops is_white end others a (white_stops x.1))
    ∙ b.1 (white ∷ value r ∷ white ∷ members r ∷ stack) others a))
    (λ y r never. absurd (ok_no_err {A = List ℕ × List ℕ} (x.0, y) f never)) k) g) h
  where
    over : (first : Bool) (z : List ℕ) → (first ≡ true → strip 125 z ≡ None) → (run : List ℕ) → IsWhite run →
        stops is_white z ≡ true →
        (r : ℕ) (stack : List Due) (x : List ℕ) → Alike z x →
        accepts (run ++ x) (member_due first r ++ stack) ≡ accepts x (byte 34 ∷ due_chars ∷ named r ++ stack)
    over first z bare run is s r stack x a =
        white_run run x (member_head first r ++ stack) is ∙ white_skip x (member_head first r ++ stack)
        (alike_stops is_white z x a s) ∙ member_as_pair first z bare x a r stack

    alike_quote : (z t x : List ℕ) → z ≡ 34 ∷ t → Alike z (34 ∷ x)
    alike_quote z t x e = subst (λ (y : List ℕ). Alike y (34 ∷ x)) (sym e) (x, refl)

    regroup : (a b c d : List ℕ) → a ++ 34 ∷ (b ++ 34 ∷ (c ++ d)) ≡ (a ++ (34 ∷ (b ++ 34 ∷ c))) ++ d
    regroup a b c d = simp append_assoc

    regroup3 : (a b c : List ℕ) → a ++ (34 ∷ (b ++ 34 ∷ c)) ≡ a ++ (34 ∷ b ++ 34 ∷ []) ++ c
    regroup3 a b c = simp append_assoc

-- the name of a member is gone over
over_name : (first : Bool) (name x : List ℕ) (r : ℕ) (stack : List Due) → Padded IsQuoted name →
    accepts (name ++ 58 ∷ x) (member_due first r ++ stack) ≡ accepts x (white ∷ value r ∷ white ∷ members r ∷ stack)
over_name true name x r stack p = first_name r name (58 ∷ x) stack p
    ∙ name_run name x (white ∷ value r ∷ white ∷ members r ∷ stack) p
over_name false name x r stack p = name_run name x (white ∷ value r ∷ white ∷ members r ∷ stack) p

member_fails : (value_read : List ℕ → Read Node) (Is : List ℕ → Type 0) (room : ℕ) → Spells value_read Is room →
    (first : Bool) (bytes : List ℕ) (f : Fault) → Unclosed first 125 bytes → member_at value_read bytes ≡ Err f →
    Cut (IsClosed (IsPair Is) 125) (member_due first) room bytes f
unfolding member_at
member_fails value_read Is room s first bytes f o h =
    either_failed {B = (List Member × Bool) × List ℕ} (name_at (behind_white bytes))
    (λ name. value_read (behind_white name.1) >>= λ inner. separator_at 125 (behind_white inner.1) >>= λ more.
    Ok (((name.0, inner.0) ∷ [], more.0), more.1)) f
    (Cut (IsClosed (IsPair Is) 125) (member_due first) room bytes f)
    (λ e. within IsNamed (IsClosed (IsPair Is) 125) (member_due first) (member_due first) room room
    [] (null_text ++ 125 ∷ []) bytes bytes f IsUtf8-nil refl
    (λ text is. (
      is.0 ++ 58 ∷ null_text,
      (is.0, null_text, is.1, white_padded Is [] refl null_text s.null, refl),
      ap (λ (x : List ℕ). x ++ (null_text ++ 125 ∷ [])) is.2 ∙ regroup is.0 58 null_text (125 ∷ []),
    ))
    (λ r k stack. (r, stack, k, λ x a. refl)) (name_fails room first bytes f o e))
    (λ n p g. let c = name_ok bytes n.0 n.1 p in let w = whites n.1 in let name = padded_as
    (λ text. IsString text (Some n.0)) IsQuoted (quoted_from n.0) c.text c.is in
    let z = behind_white n.1 in
    either_failed {B = (List Member × Bool) × List ℕ} (value_read z)
    (λ inner. separator_at 125 (behind_white inner.1) >>= λ more. Ok (((n.0, inner.0) ∷ [], more.0), more.1))
    f (Cut (IsClosed (IsPair Is) 125) (member_due first) room bytes f)
    (λ e. within Is (IsClosed (IsPair Is) 125) (member_due first) a_value room room (c.text ++ 58 ∷ w.white)
    (125 ∷ []) bytes z f
    (IsUtf8-append c.text (58 ∷ w.white) c.valid (cons_utf8 58 w.white (omega arith) (white_utf8 w.white w.is_white)))
    (c.spelled ∙ ap (λ (x : List ℕ). c.text ++ 58 ∷ x) w.spelled ∙ sym (append_assoc c.text (58 ∷ w.white) z))
    (λ text is. (
      c.text ++ 58 ∷ (w.white ++ text),
      (c.text, w.white ++ text, name, white_padded Is w.white w.is_white text is, refl),
      regroup5 c.text 58 w.white text (125 ∷ []),
    ))
    (λ r k stack. (
      r,
      white ∷ members r ∷ stack,
      k,
      λ x a.
          ap (λ (y : List ℕ). accepts y (member_due first r ++ stack)) (append_assoc c.text (58 ∷ w.white) x)
          ∙ over_name first c.text (w.white ++ x) r stack name
          ∙ white_run w.white x (value r ∷ white ∷ members r ∷ stack) w.is_white
          ∙ white_skip x (value r ∷ white ∷ members r ∷ stack) (alike_stops is_white z x a (white_stops n.1)),
    )) (s.fails z f e))
    (λ x q k. either_failed {B = (List Member × Bool) × List ℕ} (separator_at 125 (behind_white x.1))
    (λ more. Ok (((n.0, x.0) ∷ [], more.0), more.1)) f (Cut (IsClosed (IsPair Is) 125) (member_due first) room bytes
    f)
    (λ e. let v = between value_read Is room s n.1 x.0 x.1 q in
    let u = separator_err 125 (behind_white x.1) f e in
    behind_here (IsClosed (IsPair Is) 125) (member_due first) room (c.text ++ 58 ∷ v.text)
    (125 ∷ []) bytes (behind_white x.1) f
    (IsUtf8-append c.text (58 ∷ v.text) c.valid (cons_utf8 58 v.text (omega arith) v.valid))
    (c.spelled ∙ ap (λ (x : List ℕ). c.text ++ 58 ∷ x) v.spelled
    ∙ sym (append_assoc c.text (58 ∷ v.text) (behind_white x.1))) u.0
    (c.text ++ 58 ∷ v.text, (c.text, v.text, name, v.is, refl), refl)
    (λ r le stack others a.
    ap (λ (y : List ℕ). accepts y (member_due first r ++ stack)) (append_assoc c.text (58 ∷ v.text) others)
    ∙ over_name first c.text (v.text ++ others) r stack name
    ∙ v.runs r le (value r ∷ white ∷ members r ∷ stack) (members r ∷ stack) (λ y b. refl) others a
    ∙ bars_members r (behind_white x.1) stack u.1 others a))
    (λ y r never. absurd (ok_no_err {A = (List Member × Bool) × List ℕ} (((n.0, x.0) ∷ [], y.0), y.1) f never)) k) g) h
  where
    regroup : (a : List ℕ) (b : ℕ) (c d : List ℕ) → a ++ (b ∷ []) ++ (c ++ d) ≡ a ++ b ∷ c ++ d
    regroup a b c d = simp append_assoc

    regroup5 : (a : List ℕ) (b : ℕ) (c d e : List ℕ) → (a ++ b ∷ c) ++ (d ++ e) ≡ a ++ b ∷ (c ++ d) ++ e
    regroup5 a b c d e = simp append_assoc

member_goes : (value_read : List ℕ → Read Node) (Is : List ℕ → Type 0) (room : ℕ) → Spells value_read Is room →
    (bytes : List ℕ) (ys : List Member) (rest : List ℕ) → member_at value_read bytes ≡ Ok ((ys, true), rest) →
    Goes (IsPair Is) bytes rest
member_goes value_read Is room s bytes ys rest h = let p =
    member_ok value_read (λ text v. Is text) s.reads bytes ys true rest h in
    record { part = p.part; is = pair_from Is p.part p.one p.is; valid = p.valid; spelled = p.spelled }

empty_name : Padded IsQuoted (34 ∷ 34 ∷ [])
empty_name = white_padded IsQuoted [] refl (34 ∷ 34 ∷ []) ([], refl, refl)

member_next : (Is : List ℕ → Type 0) (first : Bool) (part x : List ℕ) (r : ℕ) (stack : List Due) → Taken r Is →
    IsPair Is part →
    accepts (part ++ 44 ∷ x) (member_due first r ++ stack) ≡ accepts x (member_due false r ++ stack)
member_next Is true part x r stack t p = first_member r Is part (44 ∷ x) stack p ∙ next_member r Is t part x stack p
member_next Is false part x r stack t p = next_member r Is t part x stack p

member_ends : (first : Bool) (r : ℕ) (stack : List Due) → Bars (member_due first r ++ stack) []
member_ends true r stack others a = ap (λ (y : List ℕ). accepts y (white ∷ member r ∷ stack)) a
    ∙ white_skip [] (member r ∷ stack) refl ∙ missing (member r) stack refl
member_ends false r stack others a = ap (λ (y : List ℕ). accepts y (white ∷ byte 34 ∷ due_chars ∷ named r ++ stack)) a
    ∙ white_skip [] (byte 34 ∷ due_chars ∷ named r ++ stack) refl ∙ missing (byte 34) (due_chars ∷ named r ++ stack)
    refl

member_cuts : (value_read : List ℕ → Read Node) (Is : List ℕ → Type 0) (room : ℕ) → Spells value_read Is room →
    StepCuts (member_at value_read) (IsPair Is) 125 member_due room
member_cuts value_read Is room s = record {
  null = (
    34 ∷ 34 ∷ 58 ∷ null_text,
    (
      34 ∷ 34 ∷ [],
      null_text,
      empty_name,
      white_padded Is [] refl null_text s.null,
      refl,
    ),
  );
  fails = member_fails value_read Is room s;
  goes = member_goes value_read Is room s;
  next = λ first part x r le stack p. member_next Is first part x r stack (s.taken r le) p;
  ends = member_ends;
}

pub members_err : (value_read : List ℕ → Read Node) (Is : List ℕ → Type 0) (room : ℕ) → Spells value_read Is room →
    (bytes : List ℕ) (f : Fault) →
    members_at value_read bytes ≡ Err f → Cut (IsInner (IsPair Is) 125) (member_due true) room bytes f
unfolding members_at
members_err value_read Is room s bytes f h =
    inner_cut (member_at value_read) (IsPair Is) 125 member_due room (member_cuts value_read Is room s) bytes
    f (strip 125 (behind_white bytes)) refl h
