-- What an item that isn't read says of the bytes before the fault and at it.
use Rattle.std.proofs.Common.{◌≡◌, ℕ, ◌==◌, Bool, true, false, List, [], ◌∷◌, ◌++◌, None, Ok, Err, refl, sym, ap, ◌∙◌, append_assoc}
use Rattle.doc_model.specs.declared.node.Node.{Node}
use Rattle.json_text.specs.declared.fault.Fault.{Fault}
use Rattle.json_text.specs.Grammar.{is_white, Padded, null_text}
use Rattle.json_text.specs.Reading.{◌>>=◌, Read, strip, behind_white, separator_at, item_at, items_at}
use Rattle.json_text.proofs.Fronts.{whites, white_utf8}
use Rattle.json_text.proofs.FoundParts.{item_ok}
use Rattle.json_text.proofs.Machine.{Due, white, value, item, items, accepts, missing, white_run, white_skip}
use Rattle.json_text.proofs.AcceptsScalars.{Taken}
use Rattle.json_text.proofs.AcceptsValues.{item_opens, first_item, next_item}
use Rattle.json_text.proofs.Cuts.{Alike, alike_stops, Bars, Cut, within, behind_here, either_failed, ok_no_err}
use Rattle.json_text.proofs.CutNumbers.{a_value}
use Rattle.json_text.proofs.CutParts.{Spells, white_stops, between, IsClosed, IsInner, Goes, Unclosed, StepCuts, inner_cut, separator_err, bars_items, strip_other}
use Rattle.json_text.proofs.CutGrammar.{white_padded}

abbrev item_head : Bool → ℕ → List Due
item_head true r = item r ∷ []
item_head false r = value r ∷ white ∷ items r ∷ []

abbrev pub item_due : Bool → ℕ → List Due
item_due first r = white ∷ item_head first r

-- the first item is a value as the others, where no bracket closes
item_as_value : (first : Bool) (z : List ℕ) → (first ≡ true → strip 93 z ≡ None) → (x : List ℕ) → Alike z x →
    (r : ℕ) (stack : List Due) →
    accepts x (item_head first r ++ stack) ≡ accepts x (value r ∷ white ∷ items r ∷ stack)
item_as_value false z o x a r stack = refl
item_as_value true [] o x a r stack =
    ap (λ (y : List ℕ). accepts y (item r ∷ stack)) a ∙ missing (item r) stack refl
    ∙ sym (missing (value r) (white ∷ items r ∷ stack) refl)
    ∙ ap (λ (y : List ℕ). accepts y (value r ∷ white ∷ items r ∷ stack)) (sym a)
item_as_value true (b ∷ z) o x (more, a) r stack =
    ap (λ (y : List ℕ). accepts y (item r ∷ stack)) a
    ∙ item_opens r b more stack (strip_other 93 b z (b == 93) refl (o refl))
    ∙ ap (λ (y : List ℕ). accepts y (value r ∷ white ∷ items r ∷ stack)) (sym a)

pub unclosed_at : (first : Bool) (closing : ℕ) (bytes : List ℕ) → Unclosed first closing bytes → first ≡ true →
    strip closing (behind_white bytes) ≡ None
unclosed_at true closing bytes o e = o
unclosed_at false closing bytes o e = absurd cc

item_fails : (value_read : List ℕ → Read Node) (Is : List ℕ → Type 0) (room : ℕ) → Spells value_read Is room →
    (first : Bool) (bytes : List ℕ) (f : Fault) → Unclosed first 93 bytes → item_at value_read bytes ≡ Err f →
    Cut (IsClosed (Padded Is) 93) (item_due first) room bytes f
unfolding item_at
item_fails value_read Is room s first bytes f o h =
    let w = whites bytes in
    let z = behind_white bytes in
    let bare = unclosed_at first 93 bytes o in
    either_failed {B = (List Node × Bool) × List ℕ} (value_read z)
    (λ item. separator_at 93 (behind_white item.1) >>= λ more. Ok ((item.0 ∷ [], more.0), more.1))
    f (Cut (IsClosed (Padded Is) 93) (item_due first) room bytes f)
    (λ e. within Is (IsClosed (Padded Is) 93) (item_due first) a_value room room w.white (93 ∷ []) bytes z
    f (white_utf8 w.white w.is_white) w.spelled
    (λ text is. (
      w.white ++ text,
      white_padded Is w.white w.is_white text is,
      sym (append_assoc w.white text (93 ∷ [])),
    ))
    (λ r k stack. (
      r,
      white ∷ items r ∷ stack,
      k,
      λ x a.
          white_run w.white x (item_head first r ++ stack) w.is_white
          ∙ white_skip x (item_head first r ++ stack) (alike_stops is_white z x a (white_stops bytes))
          ∙ item_as_value first z bare x a r stack,
    )) (s.fails z f e))
    (λ x p g. either_failed {B = (List Node × Bool) × List ℕ} (separator_at 93 (behind_white x.1))
    (λ more. Ok ((x.0 ∷ [], more.0), more.1)) f (Cut (IsClosed (Padded Is) 93) (item_due first) room bytes f)
    (λ e. let q = between value_read Is room s bytes x.0 x.1 p in
    let u = separator_err 93 (behind_white x.1) f e in
    behind_here (IsClosed (Padded Is) 93) (item_due first) room q.text (93 ∷ []) bytes (behind_white x.1) f q.valid
    q.spelled u.0 (q.text, q.is, refl)
    (λ r le stack others a. q.runs r le (item_head first r ++ stack) (items r ∷ stack)
    (λ y b. item_as_value first z bare y b r stack) others a ∙ bars_items r (behind_white x.1) stack u.1 others a))
    (λ y q never. absurd (ok_no_err {A = (List Node × Bool) × List ℕ} ((x.0 ∷ [], y.0), y.1) f never)) g) h

item_goes : (value_read : List ℕ → Read Node) (Is : List ℕ → Type 0) (room : ℕ) → Spells value_read Is room →
    (bytes : List ℕ) (ys : List Node) (rest : List ℕ) → item_at value_read bytes ≡ Ok ((ys, true), rest) →
    Goes (Padded Is) bytes rest
item_goes value_read Is room s bytes ys rest h = let p = item_ok value_read (λ text v. Is text) s.reads bytes ys true
    rest h in record { part = p.part; is = p.is; valid = p.valid; spelled = p.spelled }

item_next : (Is : List ℕ → Type 0) (first : Bool) (part x : List ℕ) (r : ℕ) (stack : List Due) → Taken r Is →
    Padded Is part →
    accepts (part ++ 44 ∷ x) (item_due first r ++ stack) ≡ accepts x (item_due false r ++ stack)
item_next Is true part x r stack t p = first_item r Is t part (44 ∷ x) stack p ∙ next_item r Is t part x stack p
item_next Is false part x r stack t p = next_item r Is t part x stack p

item_ends : (first : Bool) (r : ℕ) (stack : List Due) → Bars (item_due first r ++ stack) []
item_ends true r stack others a = ap (λ (y : List ℕ). accepts y (white ∷ item r ∷ stack)) a
    ∙ white_skip [] (item r ∷ stack) refl ∙ missing (item r) stack refl
item_ends false r stack others a = ap (λ (y : List ℕ). accepts y (white ∷ value r ∷ white ∷ items r ∷ stack)) a
    ∙ white_skip [] (value r ∷ white ∷ items r ∷ stack) refl ∙ missing (value r) (white ∷ items r ∷ stack) refl

item_cuts : (value_read : List ℕ → Read Node) (Is : List ℕ → Type 0) (room : ℕ) → Spells value_read Is room →
    StepCuts (item_at value_read) (Padded Is) 93 item_due room
item_cuts value_read Is room s = record {
  null = (null_text, white_padded Is [] refl null_text s.null);
  fails = item_fails value_read Is room s;
  goes = item_goes value_read Is room s;
  next = λ first part x r le stack p. item_next Is first part x r stack (s.taken r le) p;
  ends = item_ends;
}

pub items_err : (value_read : List ℕ → Read Node) (Is : List ℕ → Type 0) (room : ℕ) → Spells value_read Is room →
    (bytes : List ℕ) (f : Fault) →
    items_at value_read bytes ≡ Err f → Cut (IsInner (Padded Is) 93) (item_due true) room bytes f
unfolding items_at
items_err value_read Is room s bytes f h =
    inner_cut (item_at value_read) (Padded Is) 93 item_due room (item_cuts value_read Is room s) bytes
    f (strip 93 (behind_white bytes)) refl h
