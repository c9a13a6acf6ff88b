-- What stands before a fault in an item begins a text that is read.
use Rattle.std.proofs.Common.{◌≡◌, ℕ, inl, inr, Bool, true, List, [], ◌∷◌, ◌++◌, length, Option, Some, None, Ok, Err, refl, sym, ap, ◌∙◌, append_assoc, arith}
use Rattle.std.proofs.lemmas.Bool.{and_from}
use Rattle.std.proofs.lemmas.List.{append-nil}
use Rattle.std.proofs.lemmas.List.Folds.{list_all-append}
use Rattle.std.proofs.lemmas.Str.{IsUtf8-append, IsUtf8-nil}
use Rattle.std.specs.List.{list_all}
use Rattle.std.specs.Str.{IsUtf8}
use Rattle.doc_model.specs.declared.node.Node.{Node}
use Rattle.doc_model.specs.declared.node.Node.TheVariants as node
use Rattle.json_text.specs.declared.fault.Fault.{Fault}
use Rattle.json_text.specs.Grammar.{is_white, IsWhite, Padded, Each, Listed, null_text}
use Rattle.json_text.specs.Faults.{Every, AreParts}
use Rattle.json_text.specs.Reading.{◌>>=◌, Read, strip, behind_white, repeated, separator_at, item_at, unless_closed, items_at}
use Rattle.json_text.proofs.Fronts.{whites, white_utf8, word_utf8}
use Rattle.json_text.proofs.FoundParts.{padded, IsItem, Reads, item_ok}
use Rattle.json_text.proofs.Cuts.{either_failed, ok_no_err, FailedTurns, fails, spent, later, turns_err}
use Rattle.json_text.proofs.CutParts.{IsClosed, IsSome, IsInner, Goes, closed_some, more_some, some_inner, goes_less, separator_err}
use Rattle.json_text.proofs.Clears.{Clear, clear_in, clear_as, clear_at, nothing}

-- the text of something
abbrev pub Any : {Y : Type 0} → (List ℕ → Y → Type 0) → List ℕ → Type 0
Any {Y = Y} IsPart part = (y : Y) × IsPart part y

-- what is known of a reading one level down
pub record Clears (value_read : List ℕ → Read Node) (IsText : List ℕ → Node → Type 0) : Type 0 where
  pub null : IsText null_text node.Null
  pub fails : (bytes : List ℕ) (f : Fault) → value_read bytes ≡ Err f → Clear (Any (IsItem IsText)) bytes f
  pub reads : Reads value_read IsText

-- ---- white space

pub bare : (Is : List ℕ → Type 0) (text : List ℕ) → Is text → Padded Is text
bare Is text is = record {
  before = [];
  text = text;
  behind = [];
  white_before = refl;
  white_behind = refl;
  is_text = is;
  spelled = sym (append-nil text);
}

pub white_before : (Is : List ℕ → Type 0) (run : List ℕ) → IsWhite run → (text : List ℕ) → Padded Is text →
    Padded Is (run ++ text)
white_before Is run w text p = record {
  before = run ++ p.before;
  text = p.text;
  behind = p.behind;
  white_before = list_all-append is_white run p.before ∙ and_from (list_all is_white run) (list_all is_white p.before) w
      p.white_before;
  white_behind = p.white_behind;
  is_text = p.is_text;
  spelled = ap (λ (x : List ℕ). run ++ x) p.spelled ∙ by run p.before p.text p.behind;
}
  where
    by : (a b c d : List ℕ) → a ++ (b ++ c ++ d) ≡ (a ++ b) ++ c ++ d
    by a b c d = simp append_assoc

pub space_behind : (Is : List ℕ → Type 0) (text : List ℕ) → Padded Is text → Padded Is (text ++ 32 ∷ [])
space_behind Is text p = record {
  before = p.before;
  text = p.text;
  behind = p.behind ++ 32 ∷ [];
  white_before = p.white_before;
  white_behind = list_all-append is_white p.behind (32 ∷ []) ∙ and_from (list_all is_white p.behind) true p.white_behind
      refl;
  is_text = p.is_text;
  spelled = ap (λ (x : List ℕ). x ++ 32 ∷ []) p.spelled ∙ by p.before p.text p.behind;
}
  where
    by : (a b c : List ℕ) → (a ++ b ++ c) ++ 32 ∷ [] ≡ a ++ b ++ (c ++ 32 ∷ [])
    by a b c = simp append_assoc

-- ---- parts with commas

-- one part fails, or is read
pub record StepClears {Y : Type 0} (step : List ℕ → Read (List Y × Bool)) (IsPart : List ℕ → Type 0)
    (closing : ℕ) : Type 0 where
  pub closed : IsUtf8 (closing ∷ [])
  pub null : (part : List ℕ) × IsUtf8 part × IsPart (32 ∷ part)
  pub fails : (bytes : List ℕ) (f : Fault) → step bytes ≡ Err f → Clear (IsClosed IsPart closing) bytes f
  pub goes : (bytes : List ℕ) (ys : List Y) (rest : List ℕ) → step bytes ≡ Ok ((ys, true), rest) →
      Goes IsPart bytes rest

turns_clear : {Y : Type 0} (step : List ℕ → Read (List Y × Bool)) (IsPart : List ℕ → Type 0) (closing : ℕ) →
    StepClears step IsPart closing →
    (f : Fault) (bytes : List ℕ) → FailedTurns step f bytes → Clear (IsSome IsPart closing) bytes f
turns_clear {Y = Y} step IsPart closing s f bytes (fails _ e) =
    clear_as (IsClosed IsPart closing) (IsSome IsPart closing) bytes f (closed_some IsPart closing) (s.fails bytes f e)
turns_clear {Y = Y} step IsPart closing s f bytes (spent _ none e) =
    clear_at (IsSome IsPart closing) [] [] bytes (s.null.0 ++ closing ∷ []) bytes f IsUtf8-nil
    (IsUtf8-append s.null.0 (closing ∷ []) s.null.1 s.closed) refl e nothing
    (32 ∷ s.null.0, [], s.null.2, tt, refl)
turns_clear {Y = Y} step IsPart closing s f bytes (later _ ys rest e turns) =
    let g = s.goes bytes ys rest e in
    clear_in (IsSome IsPart closing) (IsSome IsPart closing) (g.part ++ 44 ∷ []) [] bytes rest f
    (IsUtf8-append g.part (44 ∷ []) g.valid (word_utf8 (44 ∷ []) refl)) IsUtf8-nil
    (g.spelled ∙ sym (append_assoc g.part (44 ∷ []) rest)) (more_some IsPart closing g.part g.is)
    (turns_clear step IsPart closing s f rest turns)

pub inner_clear : {Y : Type 0} (step : List ℕ → Read (List Y × Bool)) (IsPart : List ℕ → Type 0) (closing : ℕ) →
    StepClears step IsPart closing →
    (bytes : List ℕ) (f : Fault) (o : Option (List ℕ)) → unless_closed (repeated step (length bytes) bytes) o ≡ Err f →
    Clear (IsInner IsPart closing) bytes f
inner_clear {Y = Y} step IsPart closing s bytes f (Some rest) h = absurd cc
inner_clear {Y = Y} step IsPart closing s bytes f None h =
    clear_as (IsSome IsPart closing) (IsInner IsPart closing) bytes f (some_inner IsPart closing)
    (turns_clear step IsPart closing s f bytes
    (turns_err step (λ xs ys rest go. goes_less IsPart xs rest (s.goes xs ys rest go))
    (length bytes) f bytes (omega arith) h))

-- parts of which each has a value have a list of values
each_of : {Y : Type 0} (IsPart : List ℕ → Y → Type 0) (parts : List (List ℕ)) → Every (Any IsPart) parts →
    (ys : List Y) × Each IsPart parts ys
each_of {Y = Y} IsPart [] h = ([], tt)
each_of {Y = Y} IsPart (part ∷ parts) h = let p = each_of IsPart parts h.1 in (h.0.0 ∷ p.0, (h.0.1, p.1))

pub listed_of : {Y : Type 0} (IsPart : List ℕ → Y → Type 0) (inner : List ℕ) → AreParts (Any IsPart) inner →
    (ys : List Y) × Listed IsPart inner ys
listed_of {Y = Y} IsPart inner (inl w) = ([], w)
listed_of {Y = Y} IsPart inner (inr (part, parts, is, every, e)) =
    let p = each_of IsPart parts every in
    (is.0 ∷ p.0, (part ∷ parts, (is.1, p.1), e))

-- ---- items

item_fails : (value_read : List ℕ → Read Node) (IsText : List ℕ → Node → Type 0) → Clears value_read IsText →
    (bytes : List ℕ) (f : Fault) →
    item_at value_read bytes ≡ Err f → Clear (IsClosed (Any (IsItem IsText)) 93) bytes f
unfolding item_at Reads
item_fails value_read IsText s bytes f h =
    let w = whites bytes in
    let z = behind_white bytes in
    either_failed {B = (List Node × Bool) × List ℕ} (value_read z)
    (λ item. separator_at 93 (behind_white item.1) >>= λ more. Ok ((item.0 ∷ [], more.0), more.1))
    f (Clear (IsClosed (Any (IsItem IsText)) 93) bytes f)
    (λ e. clear_in (Any (IsItem IsText)) (IsClosed (Any (IsItem IsText)) 93) w.white (93 ∷ []) bytes z
    f (white_utf8 w.white w.is_white) (word_utf8 (93 ∷ []) refl) w.spelled
    (λ text is. (
      w.white ++ text,
      (is.0, white_before (λ t. IsText t is.0) w.white w.is_white text is.1),
      sym (append_assoc w.white text (93 ∷ [])),
    )) (s.fails z f e))
    (λ x p g. either_failed {B = (List Node × Bool) × List ℕ} (separator_at 93 (behind_white x.1))
    (λ more. Ok ((x.0 ∷ [], more.0), more.1)) f (Clear (IsClosed (Any (IsItem IsText)) 93) bytes f)
    (λ e. let q = padded (λ t. IsText t x.0) bytes x.1 (s.reads z x.0 x.1 p) in
    clear_at (IsClosed (Any (IsItem IsText)) 93) q.text [] (behind_white x.1)
    (93 ∷ []) bytes f q.valid (word_utf8 (93 ∷ []) refl) q.spelled (separator_err 93 (behind_white x.1) f e).0
    nothing (
      q.text ++ 32 ∷ [],
      (x.0, space_behind (λ t. IsText t x.0) q.text q.is),
      sym (append_assoc q.text (32 ∷ []) (93 ∷ [])),
    ))
    (λ y q never. absurd (ok_no_err {A = (List Node × Bool) × List ℕ} ((x.0 ∷ [], y.0), y.1) f never)) g) h

item_goes : (value_read : List ℕ → Read Node) (IsText : List ℕ → Node → Type 0) → Clears value_read IsText →
    (bytes : List ℕ) (ys : List Node) (rest : List ℕ) → item_at value_read bytes ≡ Ok ((ys, true), rest) →
    Goes (Any (IsItem IsText)) bytes rest
item_goes value_read IsText s bytes ys rest h = let p = item_ok value_read IsText s.reads bytes ys true rest h in
    record { part = p.part; is = (p.one, p.is); valid = p.valid; spelled = p.spelled }

pub items_clear : (value_read : List ℕ → Read Node) (IsText : List ℕ → Node → Type 0) → Clears value_read IsText →
    (bytes : List ℕ) (f : Fault) →
    items_at value_read bytes ≡ Err f → Clear (IsInner (Any (IsItem IsText)) 93) bytes f
unfolding items_at
items_clear value_read IsText s bytes f h = inner_clear (item_at value_read) (Any (IsItem IsText)) 93 steps bytes
    f (strip 93 (behind_white bytes)) h
  where
    steps : StepClears (item_at value_read) (Any (IsItem IsText)) 93
    steps = record {
      closed = word_utf8 (93 ∷ []) refl;
      null = (
        null_text,
        word_utf8 null_text refl,
        (
          node.Null,
          white_before (λ t. IsText t node.Null)
              (32 ∷ []) refl null_text (bare (λ t. IsText t node.Null) null_text s.null),
        ),
      );
      fails = item_fails value_read IsText s;
      goes = item_goes value_read IsText s;
    }
