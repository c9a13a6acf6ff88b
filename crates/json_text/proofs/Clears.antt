-- What stands before a fault begins a text that is read.
use Rattle.std.proofs.Common.{◌≡◌, ℕ, ◌==◌, ◌⊎◌, inl, inr, Bool, true, false, ◌&&◌, not, cond, List, [], ◌∷◌, ◌++◌, length, refl, sym, ap, subst, ◌∙◌, append_assoc}
use Rattle.std.proofs.lemmas.List.{append-nil}
use Rattle.std.proofs.lemmas.Str.{IsUtf8-append, IsUtf8-nil}
use Rattle.std.specs.Str.{IsUtf8, IsValidUpTo}
use Rattle.std.specs.Str.Lossy.{utf8_valid_len}
use Rattle.json_text.specs.declared.fault.Fault.{Fault}
use Rattle.json_text.specs.declared.fault.Fault.TheVariants as fault
use Rattle.json_text.specs.declared.lead.Lead.TheVariants as lead
use Rattle.json_text.specs.Grammar.{is_white, null_text}
use Rattle.text_prefixes.specs.Prefixes.{Begins}
use Rattle.json_text.specs.Faults.{IsNumeral, IsEscape, IsToken, IsUnfinished, LoneHere, NumberHere}
use Rattle.json_text.specs.Reading.{unexpected, lead_by, lead_of}
use Rattle.json_text.proofs.Machine.{value, accepts, nothing_due}
use Rattle.json_text.proofs.AcceptsScalars.{plain_run, numeral_opens}
use Rattle.json_text.proofs.Sequences.{no_character}
use Rattle.json_text.proofs.Cuts.{left_of}

-- where a fault stands
pub data Spot : Type 0 where
  anywhere : Spot
  in_string : Spot
  at_value : Spot

-- what may go on there
abbrev pub Next : Spot → List ℕ → Type 0
Next anywhere next = next ≡ 32 ∷ []
Next in_string next = (next ≡ 32 ∷ []) ⊎ (next ≡ 120 ∷ [])
Next at_value next = (next ≡ 32 ∷ null_text) ⊎ (next ≡ 10 ∷ null_text)

-- what isn't finished there
abbrev pub Tail : Spot → List ℕ → Type 0
Tail anywhere tail = IsUnfinished tail
Tail in_string tail = tail ≡ []
Tail at_value tail = tail ≡ []

abbrev pub Says : Fault → Spot → List ℕ → Type 0
Says (fault.Syntax n) spot rest = Unit {0}
Says (fault.Utf8 n) spot rest = IsValidUpTo rest 0 ⊎ ((spot ≡ in_string) × LoneHere rest)
Says (fault.Depth n) spot rest = spot ≡ at_value
Says (fault.Number n) spot rest = (spot ≡ at_value) × NumberHere rest

-- what stands before the fault goes on to a whole, but for what isn't finished
pub record Clear (IsText : List ℕ → Type 0) (bytes : List ℕ) (f : Fault) : Type 0 where
  pub spot : Spot
  pub head : List ℕ
  pub tail : List ℕ
  pub rest : List ℕ
  pub more : List ℕ
  pub spelled : bytes ≡ head ++ (tail ++ rest)
  pub left : left_of f ≡ length rest
  pub is : (next : List ℕ) → Next spot next → IsText (head ++ (next ++ more))
  pub valid : IsUtf8 head
  pub completed : IsUtf8 more
  pub unfinished : Tail spot tail
  pub says : Says f spot rest

regroup : (before head next more behind : List ℕ) →
    before ++ ((head ++ (next ++ more)) ++ behind) ≡ (before ++ head) ++ (next ++ (more ++ behind))
regroup before head next more behind = simp append_assoc

-- the whole of which a part fails
pub clear_in : (IsPart IsText : List ℕ → Type 0) (before behind bytes inner : List ℕ) (f : Fault) → IsUtf8 before →
    IsUtf8 behind → bytes ≡ before ++ inner →
    ((text : List ℕ) → IsPart text → IsText (before ++ (text ++ behind))) → Clear IsPart inner f → Clear IsText bytes f
clear_in IsPart IsText before behind bytes inner f valid completed e whole c = record {
  spot = c.spot;
  head = before ++ c.head;
  tail = c.tail;
  rest = c.rest;
  more = c.more ++ behind;
  spelled = e ∙ ap (λ (x : List ℕ). before ++ x) c.spelled ∙ sym (append_assoc before c.head (c.tail ++ c.rest));
  left = c.left;
  is = λ next n. subst IsText (regroup before c.head next c.more behind)
      (whole (c.head ++ (next ++ c.more)) (c.is next n));
  valid = IsUtf8-append before c.head valid c.valid;
  completed = IsUtf8-append c.more behind c.completed completed;
  unfinished = c.unfinished;
  says = c.says;
}

-- what is less is told too
pub clear_as : (IsPart IsText : List ℕ → Type 0) (bytes : List ℕ) (f : Fault) →
    ((text : List ℕ) → IsPart text → IsText text) →
    Clear IsPart bytes f → Clear IsText bytes f
clear_as IsPart IsText bytes f to c = record {
  spot = c.spot;
  head = c.head;
  tail = c.tail;
  rest = c.rest;
  more = c.more;
  spelled = c.spelled;
  left = c.left;
  is = λ next n. to (c.head ++ (next ++ c.more)) (c.is next n);
  valid = c.valid;
  completed = c.completed;
  unfinished = c.unfinished;
  says = c.says;
}

unexpected_by : (bytes : List ℕ) (t : Bool) → ((utf8_valid_len bytes == 0) && not (length bytes == 0)) ≡ t →
    (left_of (cond t (fault.Utf8 (length bytes)) (fault.Syntax (length bytes))) ≡ length bytes) × Says
    (cond t (fault.Utf8 (length bytes)) (fault.Syntax (length bytes))) anywhere bytes
unexpected_by bytes true h = (refl, inl (no_character bytes h))
unexpected_by bytes false h = (refl, tt)

-- the bytes can't go on so
pub clear_at : (IsText : List ℕ → Type 0) (head tail rest more bytes : List ℕ) (f : Fault) → IsUtf8 head → IsUtf8 more →
    bytes ≡ head ++ (tail ++ rest) →
    unexpected rest ≡ f → IsUnfinished tail → IsText (head ++ 32 ∷ more) → Clear IsText bytes f
clear_at IsText head tail rest more bytes f valid completed spelled e unfinished is =
    let u = unexpected_by rest ((utf8_valid_len rest == 0) && not (length rest == 0)) refl in
    record {
      spot = anywhere;
      head = head;
      tail = tail;
      rest = rest;
      more = more;
      spelled = spelled;
      left = subst (λ (g : Fault). left_of g ≡ length rest) e u.0;
      is = λ next n. subst (λ (x : List ℕ). IsText (head ++ (x ++ more))) (sym n) is;
      valid = valid;
      completed = completed;
      unfinished = unfinished;
      says = subst (λ (g : Fault). Says g anywhere rest) e u.1;
    }

-- ---- what isn't finished

pub escape_first : (text : List ℕ) → IsEscape text → (rest : List ℕ) × (text ≡ 92 ∷ rest)
escape_first text (inl (b, h, e)) = (b ∷ [], e)
escape_first text (inr (u, (a, b, c, d, h, w, e))) = (117 ∷ a ∷ b ∷ c ∷ d ∷ [], e)

numeral_first : (text rest : List ℕ) (b : ℕ) → IsNumeral text → text ≡ b ∷ rest → lead_by b ≡ lead.Number
numeral_first text rest b is e =
    let (c, others, spelled, first) = numeral_opens text is in
    sym (ap (λ (x : List ℕ). lead_of x) e) ∙ ap (λ (x : List ℕ). lead_of x) spelled ∙ first

no_token : IsToken [] → ⊥
no_token (inl e) = absurd cc
no_token (inr (inl e)) = absurd cc
no_token (inr (inr (inl e))) = absurd cc
no_token (inr (inr (inr (inl is)))) = let (b, others, spelled, first) = numeral_opens [] is in absurd cc
no_token (inr (inr (inr (inr is)))) = let (rest, e) = escape_first [] is in absurd cc

pub nothing : IsUnfinished []
nothing = ((null_text, inl refl), no_token)

-- what begins as a value and isn't taken as one
pub part_of_value : (tail : List ℕ) → Begins IsToken tail → (IsEscape tail → ⊥) → accepts tail (value 0 ∷ []) ≡ false →
    IsUnfinished tail
part_of_value tail begins other e = (begins, never)
  where
    yes : accepts (tail ++ []) (value 0 ∷ []) ≡ true → ⊥
    yes h = let both : true ≡ false = sym h ∙ ap (λ (x : List ℕ). accepts x (value 0 ∷ [])) (append-nil tail) ∙ e in
        absurd cc

    never : IsToken tail → ⊥
    never (inl e) = yes (plain_run 0 tail [] [] (inl e) (inl refl) ∙ nothing_due)
    never (inr (inl e)) = yes (plain_run 0 tail [] [] (inr (inl e)) (inl refl) ∙ nothing_due)
    never (inr (inr (inl e))) = yes (plain_run 0 tail [] [] (inr (inr (inl e))) (inl refl) ∙ nothing_due)
    never (inr (inr (inr (inl is)))) = yes (plain_run 0 tail [] [] (inr (inr (inr (inl is)))) (inl refl) ∙ nothing_due)
    never (inr (inr (inr (inr is)))) = other is

pub part_of_number : (tail more : List ℕ) → IsNumeral (tail ++ more) → accepts tail (value 0 ∷ []) ≡ false →
    IsUnfinished tail
part_of_number tail more is e = part_of_value tail (more, inr (inr (inr (inl is)))) other e
  where
    other : IsEscape tail → ⊥
    other escape =
        let (rest, same) = escape_first tail escape in
        let first = numeral_first (tail ++ more) (rest ++ more) 92 is (ap (λ (x : List ℕ). x ++ more) same) in
        absurd cc

-- what begins as an escape and is none
pub part_of_escape : (tail : List ℕ) → Begins IsEscape (92 ∷ tail) → (IsEscape (92 ∷ tail) → ⊥) →
    IsUnfinished (92 ∷ tail)
part_of_escape tail (more, is) none = ((more, inr (inr (inr (inr is)))), never)
  where
    never : IsToken (92 ∷ tail) → ⊥
    never (inl e) = let first : lead.Other ≡ lead.Null = ap (λ (x : List ℕ). lead_of x) e in absurd cc
    never (inr (inl e)) = let first : lead.Other ≡ lead.True = ap (λ (x : List ℕ). lead_of x) e in absurd cc
    never (inr (inr (inl e))) = let first : lead.Other ≡ lead.False = ap (λ (x : List ℕ). lead_of x) e in absurd cc
    never (inr (inr (inr (inl is)))) = let first = numeral_first (92 ∷ tail) tail 92 is refl in absurd cc
    never (inr (inr (inr (inr is)))) = none is

-- ---- where a value is due

-- null may stand there, behind white space
abbrev pub Nulls : (List ℕ → Type 0) → Type 0
Nulls Is = (b : ℕ) → is_white b ≡ true → Is (b ∷ null_text)

-- a fault of the value that begins here
pub clear_value : (Is : List ℕ → Type 0) (bytes : List ℕ) (f : Fault) → Nulls Is → left_of f ≡ length bytes →
    Says f at_value bytes → Clear Is bytes f
clear_value Is bytes f nulls left says = record {
  spot = at_value;
  head = [];
  tail = [];
  rest = bytes;
  more = [];
  spelled = refl;
  left = left;
  is = by;
  valid = IsUtf8-nil;
  completed = IsUtf8-nil;
  unfinished = refl;
  says = says;
}
  where
    by : (next : List ℕ) → ((next ≡ 32 ∷ null_text) ⊎ (next ≡ 10 ∷ null_text)) → Is (next ++ [])
    by next (inl e) = subst (λ (x : List ℕ). Is (x ++ [])) (sym e) (nulls 32 refl)
    by next (inr e) = subst (λ (x : List ℕ). Is (x ++ [])) (sym e) (nulls 10 refl)
