-- What parts with commas between them say of the bytes before a fault in one of them.
use Rattle.std.proofs.Common.{◌≡◌, ℕ, ◌<◌, ◌≤◌, ◌==◌, ◌⊎◌, inl, inr, Bool, true, false, cond, List, [], ◌∷◌, ◌++◌, length, take, Option, Some, None, Ok, Err, refl, sym, ap, subst, ◌∙◌, append_assoc, arith}
use Rattle.std.proofs.lemmas.List.{append-nil, length-append, take_at}
use Rattle.std.proofs.lemmas.Str.{IsUtf8-append}
use Rattle.std.specs.Str.{IsUtf8}
use Rattle.doc_model.specs.declared.node.Node.{Node}
use Rattle.json_text.specs.declared.fault.Fault.{Fault}
use Rattle.json_text.specs.declared.lead.Lead.{Lead}
use Rattle.json_text.specs.declared.lead.Lead.TheVariants as lead
use Rattle.json_text.specs.Numbers.{literal_text}
use Rattle.json_text.specs.Grammar.{is_white, Padded, joined, null_text}
use Rattle.json_text.specs.Faults.{Every, AreParts}
use Rattle.json_text.specs.Reading.{Read, unexpected, strip, behind_white, repeated, lead_of, separator_at, unless_closed}
use Rattle.json_text.proofs.Fronts.{whites, white_utf8, word_utf8}
use Rattle.json_text.proofs.FoundParts.{Reads}
use Rattle.json_text.proofs.Spelled.{stops}
use Rattle.json_text.proofs.Sequences.{prefix_stops}
use Rattle.json_text.proofs.Machine.{Due, white, value, items, members, accepts, white_run, white_skip}
use Rattle.json_text.proofs.AcceptsPlain.{literal_run}
use Rattle.json_text.proofs.AcceptsScalars.{Taken}
use Rattle.json_text.proofs.Cuts.{Alike, alike_in, alike_stops, counts_le, Bars, Cut, within, here, cut_as, bars_end, bars_byte, err_same, FailedTurns, fails, spent, later, turns_err}
use Rattle.json_text.proofs.CutNumbers.{a_value}
use Rattle.json_text.proofs.NumberEnds.{Stays}

pub record Spells (value_read : List ℕ → Read Node) (Is : List ℕ → Type 0) (room : ℕ) : Type 0 where
  pub null : Is null_text
  pub fails : (bytes : List ℕ) (f : Fault) → value_read bytes ≡ Err f → Cut Is a_value room bytes f
  pub reads : Reads value_read (λ text v. Is text)
  pub taken : (r : ℕ) → room ≤ r → Taken r Is
  pub stays : (bytes : List ℕ) (v : Node) (rest : List ℕ) → value_read bytes ≡ Ok (v, rest) →
      lead_of bytes ≡ lead.Number → Stays bytes rest

same_front : (front other rest : List ℕ) → front ++ rest ≡ other ++ rest → front ≡ other
same_front front other rest e =
    let l = length-append front rest in
    let m = length-append other rest in
    let n : length (front ++ rest) ≡ length (other ++ rest) = ap (λ (x : List ℕ). length x) e in
    let same : length other ≡ length front = omega arith in
    sym (take_at front rest (length front) refl) ∙ ap (λ (x : List ℕ). take (length front) x) e
    ∙ take_at other rest (length front) same

number_or : (l : Lead) → (l ≡ lead.Number) ⊎ (l ≡ lead.Number → ⊥)
number_or lead.Quote = inr (λ z. cc)
number_or lead.Brace = inr (λ z. cc)
number_or lead.Bracket = inr (λ z. cc)
number_or lead.True = inr (λ z. cc)
number_or lead.False = inr (λ z. cc)
number_or lead.Null = inr (λ z. cc)
number_or lead.Number = inl refl
number_or lead.Other = inr (λ z. cc)

-- what is read as a value is taken as one, and what stands behind it isn't
pub value_stays : (value_read : List ℕ → Read Node) (Is : List ℕ → Type 0) (room : ℕ) → Spells value_read Is room →
    (bytes : List ℕ) (v : Node) (rest text : List ℕ) → value_read bytes ≡ Ok (v, rest) → Is text →
    bytes ≡ text ++ rest →
    (r : ℕ) → room ≤ r → (stack : List Due) (others : List ℕ) → Alike rest others →
    accepts (text ++ others) (value r ∷ stack) ≡ accepts others stack
value_stays value_read Is room s bytes v rest text e is spelled r le stack others a = by (number_or (lead_of bytes))
  where
    by : (lead_of bytes ≡ lead.Number) ⊎ (lead_of bytes ≡ lead.Number → ⊥) →
        accepts (text ++ others) (value r ∷ stack) ≡ accepts others stack
    by (inl n) =
        let st = s.stays bytes v rest e n in
        let same = same_front text (literal_text st.literal) rest (sym spelled ∙ st.spelled) in
        ap (λ (x : List ℕ). accepts (x ++ others) (value r ∷ stack)) same ∙ literal_run r st.literal others stack
        st.is (st.ends others a)
    by (inr other) =
        let t = s.taken r le in
        let o = t.opens text is in
        let first : lead_of text ≡ lead_of bytes = ap (λ (x : List ℕ). lead_of x) o.is
        ∙ sym (ap (λ (x : List ℕ). lead_of x) (spelled ∙ ap (λ (x : List ℕ). x ++ rest) o.is)) in
        t.runs text others stack is (inr (λ n. other (sym first ∙ n)))

pub white_stops : (bytes : List ℕ) → stops is_white (behind_white bytes) ≡ true
white_stops bytes = prefix_stops is_white bytes

-- a value that is read, with the white space around it
pub record Between (Is : List ℕ → Type 0) (room : ℕ) (bytes behind : List ℕ) : Type 0 where
  pub text : List ℕ
  pub is : Padded Is text
  pub valid : IsUtf8 text
  pub spelled : bytes ≡ text ++ behind
  pub runs : (r : ℕ) → room ≤ r → (head stack : List Due) →
      ((x : List ℕ) → Alike (behind_white bytes) x → accepts x head ≡ accepts x (value r ∷ white ∷ stack)) →
      (others : List ℕ) → Alike behind others → accepts (text ++ others) (white ∷ head) ≡ accepts others stack

pub between : (value_read : List ℕ → Read Node) (Is : List ℕ → Type 0) (room : ℕ) → Spells value_read Is room →
    (bytes : List ℕ) (v : Node) (rest : List ℕ) → value_read (behind_white bytes) ≡ Ok (v, rest) →
    Between Is room bytes (behind_white rest)
unfolding Reads
between value_read Is room s bytes v rest e =
    let w = whites bytes in
    let u = whites rest in
    let z = behind_white bytes in
    let end = behind_white rest in
    let f = s.reads z v rest e in
    record {
      text = w.white ++ f.text ++ u.white;
      is = record {
        before = w.white;
        text = f.text;
        behind = u.white;
        white_before = w.is_white;
        white_behind = u.is_white;
        is_text = f.is;
        spelled = refl;
      };
      valid = IsUtf8-append (w.white ++ f.text) u.white (IsUtf8-append w.white f.text (white_utf8 w.white w.is_white)
          f.valid) (white_utf8 u.white u.is_white);
      spelled = w.spelled ∙ ap (λ (x : List ℕ). w.white ++ x) (f.spelled ∙ ap (λ (x : List ℕ). f.text ++ x) u.spelled)
          ∙ regroup w.white f.text u.white end;
      runs = λ r le head stack as_value others a.
          let inner = u.white ++ others in
          let b : Alike rest inner = alike_in rest u.white end others u.spelled a in
          let c : Alike z (f.text ++ inner) = alike_in z f.text rest inner f.spelled b in
          ap (λ (x : List ℕ). accepts x (white ∷ head)) (sym (regroup w.white f.text u.white others))
          ∙ white_run w.white (f.text ++ inner) head w.is_white
          ∙ white_skip (f.text ++ inner) head (alike_stops is_white z (f.text ++ inner) c (white_stops bytes))
          ∙ as_value (f.text ++ inner) c
          ∙ value_stays value_read Is room s z v rest f.text e f.is f.spelled r le (white ∷ stack) inner b
          ∙ white_run u.white others stack u.is_white
          ∙ white_skip others stack (alike_stops is_white end others a (white_stops rest));
    }
  where
    regroup : (a b c d : List ℕ) → a ++ (b ++ (c ++ d)) ≡ a ++ b ++ c ++ d
    regroup a b c d = simp append_assoc

-- ---- parts with commas

abbrev pub IsClosed : (List ℕ → Type 0) → ℕ → List ℕ → Type 0
IsClosed IsPart closing text = (part : List ℕ) × IsPart part × (text ≡ part ++ closing ∷ [])

abbrev pub IsSome : (List ℕ → Type 0) → ℕ → List ℕ → Type 0
IsSome IsPart closing text =
    (part : List ℕ) × (parts : List (List ℕ)) × IsPart part × Every IsPart
    parts × (text ≡ joined (part ∷ parts) ++ closing ∷ [])

abbrev pub IsInner : (List ℕ → Type 0) → ℕ → List ℕ → Type 0
IsInner IsPart closing text = (inner : List ℕ) × AreParts IsPart inner × (text ≡ inner ++ closing ∷ [])

pub record Goes (IsPart : List ℕ → Type 0) (bytes rest : List ℕ) : Type 0 where
  pub part : List ℕ
  pub is : IsPart part
  pub valid : IsUtf8 part
  pub spelled : bytes ≡ part ++ 44 ∷ rest

-- where the first part may stand, no bracket closes
abbrev pub Unclosed : Bool → ℕ → List ℕ → Type 0
Unclosed true closing bytes = strip closing (behind_white bytes) ≡ None
Unclosed false closing bytes = Unit {0}

-- what is due of the first part, and of any other
pub record StepCuts {Y : Type 0} (step : List ℕ → Read (List Y × Bool)) (IsPart : List ℕ → Type 0) (closing : ℕ)
    (due : Bool → ℕ → List Due) (room : ℕ) : Type 0 where
  pub null : (part : List ℕ) × IsPart part
  pub fails : (first : Bool) (bytes : List ℕ) (f : Fault) → Unclosed first closing bytes → step bytes ≡ Err f →
      Cut (IsClosed IsPart closing) (due first) room bytes f
  pub goes : (bytes : List ℕ) (ys : List Y) (rest : List ℕ) → step bytes ≡ Ok ((ys, true), rest) →
      Goes IsPart bytes rest
  pub next : (first : Bool) (part x : List ℕ) (r : ℕ) → room ≤ r → (stack : List Due) → IsPart part →
      accepts (part ++ 44 ∷ x) (due first r ++ stack) ≡ accepts x (due false r ++ stack)
  pub ends : (first : Bool) (r : ℕ) (stack : List Due) → Bars (due first r ++ stack) []

pub closed_some : (IsPart : List ℕ → Type 0) (closing : ℕ) (text : List ℕ) → IsClosed IsPart closing text →
    IsSome IsPart closing text
closed_some IsPart closing text (part, is, e) = (part, [], is, tt, e)

pub more_some : (IsPart : List ℕ → Type 0) (closing : ℕ) (first : List ℕ) → IsPart first →
    (text : List ℕ) → IsSome IsPart closing text →
    IsSome IsPart closing ((first ++ 44 ∷ []) ++ (text ++ []))
more_some IsPart closing first h text (part, parts, is, every, e) = (
  first,
  part ∷ parts,
  h,
  (is, every),
  append_assoc first (44 ∷ []) (text ++ []) ∙ ap (λ (x : List ℕ). first ++ 44 ∷ x) (append-nil text ∙ e)
      ∙ sym (append_assoc first (44 ∷ joined (part ∷ parts)) (closing ∷ [])),
)

turns_cut : {Y : Type 0} (step : List ℕ → Read (List Y × Bool)) (IsPart : List ℕ → Type 0) (closing : ℕ)
    (due : Bool → ℕ → List Due) (room : ℕ) →
    StepCuts step IsPart closing due room →
    (f : Fault) (first : Bool) (bytes : List ℕ) → Unclosed first closing bytes → FailedTurns step f bytes →
    Cut (IsSome IsPart closing) (due first) room bytes f
turns_cut {Y = Y} step IsPart closing due room s f first bytes o (fails _ e) =
    cut_as (IsClosed IsPart closing) (IsSome IsPart closing) (due first) room bytes f (closed_some IsPart closing)
    (s.fails first bytes f o e)
turns_cut {Y = Y} step IsPart closing due room s f first bytes o (spent _ none e) =
    here (IsSome IsPart closing) (due first) room bytes (s.null.0 ++ closing ∷ []) f e (
      s.null.0,
      [],
      s.null.1,
      tt,
      refl,
    ) (λ r stack. subst (λ (x : List ℕ). Bars (due first r ++ stack) x) (sym none) (s.ends first r stack))
turns_cut {Y = Y} step IsPart closing due room s f first bytes o (later _ ys rest e turns) =
    let g = s.goes bytes ys rest e in
    within (IsSome IsPart closing) (IsSome IsPart closing) (due first) (due false) room room (g.part ++ 44 ∷ []) []
    bytes rest f
    (IsUtf8-append g.part (44 ∷ []) g.valid (word_utf8 (44 ∷ []) refl))
    (g.spelled ∙ sym (append_assoc g.part (44 ∷ []) rest)) (more_some IsPart closing g.part g.is)
    (λ r k stack. (
      r,
      stack,
      k,
      λ x a. ap (λ (y : List ℕ). accepts y (due first r ++ stack))
          (append_assoc g.part (44 ∷ []) x) ∙ s.next first g.part x r (counts_le f room r k) stack g.is,
    ))
    (turns_cut step IsPart closing due room s f false rest tt turns)

pub some_inner : (IsPart : List ℕ → Type 0) (closing : ℕ) (text : List ℕ) → IsSome IsPart closing text →
    IsInner IsPart closing text
some_inner IsPart closing text (part, parts, is, every, e) =
    (joined (part ∷ parts), inr (part, parts, is, every, refl), e)

pub goes_less : (IsPart : List ℕ → Type 0) (bytes rest : List ℕ) → Goes IsPart bytes rest → length rest < length bytes
goes_less IsPart bytes rest g =
    let l = length-append g.part (44 ∷ rest) in
    let e : length bytes ≡ length (g.part ++ 44 ∷ rest) = ap (λ (x : List ℕ). length x) g.spelled in
    omega arith

pub inner_cut : {Y : Type 0} (step : List ℕ → Read (List Y × Bool)) (IsPart : List ℕ → Type 0) (closing : ℕ)
    (due : Bool → ℕ → List Due) (room : ℕ) →
    StepCuts step IsPart closing due room → (bytes : List ℕ) (f : Fault) (o : Option (List ℕ)) →
    strip closing (behind_white bytes) ≡ o → unless_closed (repeated step (length bytes) bytes) o ≡ Err f →
    Cut (IsInner IsPart closing) (due true) room bytes f
inner_cut {Y = Y} step IsPart closing due room s bytes f (Some rest) e h = absurd cc
inner_cut {Y = Y} step IsPart closing due room s bytes f None e h =
    cut_as (IsSome IsPart closing) (IsInner IsPart closing) (due true) room bytes f (some_inner IsPart closing)
    (turns_cut step IsPart closing due room s f true bytes e
    (turns_err step (λ xs ys rest go. goes_less IsPart xs rest (s.goes xs ys rest go))
    (length bytes) f bytes (omega arith) h))

-- neither a comma nor the bracket that closes stands here
abbrev pub Unparted : ℕ → List ℕ → Type 0
Unparted closing [] = Unit {0}
Unparted closing (b ∷ bytes) = ((b == 44) ≡ false) × ((b == closing) ≡ false)

separator_by : (closing b : ℕ) (bytes : List ℕ) (f : Fault) (c k : Bool) → (b == 44) ≡ c → (b == closing) ≡ k →
    ◌≡◌ {A = Read Bool} (cond c (Ok (true, bytes)) (cond k (Ok (false, bytes)) (Err (unexpected (b ∷ bytes)))))
    (Err f) → (unexpected (b ∷ bytes) ≡ f) × Unparted closing (b ∷ bytes)
separator_by closing b bytes f true k d e h = absurd cc
separator_by closing b bytes f false true d e h = absurd cc
separator_by closing b bytes f false false d e h = (err_same {A = Bool × List ℕ} (unexpected (b ∷ bytes)) f h, (d, e))

pub separator_err : (closing : ℕ) (bytes : List ℕ) (f : Fault) → separator_at closing bytes ≡ Err f →
    (unexpected bytes ≡ f) × Unparted closing bytes
unfolding separator_at
separator_err closing [] f h = (err_same {A = Bool × List ℕ} (unexpected []) f h, tt)
separator_err closing (b ∷ bytes) f h = separator_by closing b bytes f (b == 44) (b == closing) refl refl h

pub bars_items : (r : ℕ) (bytes : List ℕ) (stack : List Due) → Unparted 93 bytes → Bars (items r ∷ stack) bytes
bars_items r [] stack u = bars_end (items r) stack refl
bars_items r (b ∷ bytes) stack (c, k) = bars_byte (items r) b bytes stack (rw (c, k) refl)

pub bars_members : (r : ℕ) (bytes : List ℕ) (stack : List Due) → Unparted 125 bytes → Bars (members r ∷ stack) bytes
bars_members r [] stack u = bars_end (members r) stack refl
bars_members r (b ∷ bytes) stack (c, k) = bars_byte (members r) b bytes stack (rw (c, k) refl)

pub strip_other : (w b : ℕ) (bytes : List ℕ) (t : Bool) → (b == w) ≡ t → cond t (Some bytes) None ≡ None →
    (b == w) ≡ false
strip_other w b bytes true e h = absurd cc
strip_other w b bytes false e h = e
