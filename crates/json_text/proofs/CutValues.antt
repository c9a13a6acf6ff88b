-- What a value that isn't read says of the bytes before the fault and at it.
use Rattle.std.proofs.Common.{◌≡◌, ℕ, zero, suc, ◌⊎◌, inl, inr, true, List, [], ◌∷◌, ◌++◌, drop, Ok, Err, refl, sym, ap, subst, ◌∙◌, arith}
use Rattle.std.proofs.lemmas.List.{append-nil}
use Rattle.doc_model.specs.declared.node.Node.{Node}
use Rattle.doc_model.specs.declared.node.Node.TheVariants as node
use Rattle.json_text.specs.declared.fault.Fault.{Fault}
use Rattle.json_text.specs.declared.fault.Fault.TheVariants as fault
use Rattle.json_text.specs.declared.lead.Lead.{Lead}
use Rattle.json_text.specs.declared.lead.Lead.TheVariants as lead
use Rattle.json_text.specs.Grammar.{is_white, Padded, IsMember, last_values, IsScalar}
use Rattle.json_text.specs.Faults.{IsPair, AreParts, IsPlainValue, IsSpelled}
use Rattle.json_text.specs.Reading.{◌>>=◌, Read, unexpected, behind_white, number_at, lead_of, scalar_at, items_at, members_at, value_by, flat_by, value_at, at_end}
use Rattle.json_text.proofs.Fronts.{bound, ok_pair, whites, white_utf8, word_utf8}
use Rattle.json_text.proofs.FoundValues.{front_as, nested_ok, flat_ok, IsNested, by_first, bracket_first, brace_first}
use Rattle.json_text.proofs.FoundParts.{Reads}
use Rattle.json_text.proofs.Machine.{Due, white, value, item, member, stop, accepts, taken, white_run, white_skip}
use Rattle.json_text.proofs.AcceptsValues.{value_taken}
use Rattle.json_text.proofs.Cuts.{Alike, alike_stops, Counts, counts_le, Bars, Cut, within, behind_here, cut_as, bars_byte, either_failed, ok_no_err, err_same}
use Rattle.json_text.proofs.CutNumbers.{a_value}
use Rattle.json_text.proofs.NumberEnds.{Stays, number_stays}
use Rattle.json_text.proofs.CutParts.{Spells, white_stops, between, IsInner}
use Rattle.json_text.proofs.CutGrammar.{numeral_from, parts_from, pair_from, white_padded}
use Rattle.json_text.proofs.CutItems.{item_due, items_err}
use Rattle.json_text.proofs.CutMembers.{member_due, members_err}
use Rattle.json_text.proofs.CutScalars.{IsFlat, flat_err, scalar_err}

IsSpelledNested : (List ℕ → Type 0) → List ℕ → Type 0
IsSpelledNested Is bytes =
    IsPlainValue bytes
    ⊎ ((inner : List ℕ) × AreParts (Padded Is) inner × (bytes ≡ 91 ∷ inner ++ 93 ∷ []))
    ⊎ ((inner : List ℕ) × AreParts (IsPair Is) inner × (bytes ≡ 123 ∷ inner ++ 125 ∷ []))

plain_nested : (Is : List ℕ → Type 0) (room : ℕ) (l : Lead) (bytes : List ℕ) (f : Fault) → IsFlat l →
    lead_of bytes ≡ l → scalar_at l bytes ≡ Err f →
    Cut (IsSpelledNested Is) a_value room bytes f
unfolding IsSpelledNested
plain_nested Is room l bytes f flat e h =
    cut_as IsPlainValue (IsSpelledNested Is) a_value room bytes f (λ text is. inl is)
    (scalar_err room l bytes f flat e h)

counts_down : (f : Fault) (room r : ℕ) → Counts f (suc room) (suc r) → Counts f room r
counts_down (fault.Syntax n) room r k = omega arith
counts_down (fault.Depth n) room r k = omega arith
counts_down (fault.Utf8 n) room r k = k
counts_down (fault.Number n) room r k = k

-- behind a bracket there is room for one array or object less
into_array : (f : Fault) (room : ℕ) (inner : List ℕ) (r : ℕ) → Counts f (suc room) r → (stack : List Due) →
    (q : ℕ) × (more : List Due) × Counts f room q × ((x : List ℕ) → Alike inner x →
    accepts (91 ∷ x) (a_value r ++ stack) ≡ accepts x (item_due true q ++ more))
into_array f room inner zero k stack = let le = counts_le f (suc room) 0 k in absurd (omega arith)
into_array f room inner (suc r) k stack =
    (r, stack, counts_down f room r k, λ x a. taken (value (suc r)) 91 (white ∷ item r ∷ []) x stack refl)

into_object : (f : Fault) (room : ℕ) (inner : List ℕ) (r : ℕ) → Counts f (suc room) r → (stack : List Due) →
    (q : ℕ) × (more : List Due) × Counts f room q × ((x : List ℕ) → Alike inner x →
    accepts (123 ∷ x) (a_value r ++ stack) ≡ accepts x (member_due true q ++ more))
into_object f room inner zero k stack = let le = counts_le f (suc room) 0 k in absurd (omega arith)
into_object f room inner (suc r) k stack =
    (r, stack, counts_down f room r k, λ x a. taken (value (suc r)) 123 (white ∷ member r ∷ []) x stack refl)

nested_err : (read : List ℕ → Read Node) (Is : List ℕ → Type 0) (room : ℕ) → Spells read Is room →
    (l : Lead) (bytes : List ℕ) (f : Fault) →
    lead_of bytes ≡ l → value_by read l bytes ≡ Err f → Cut (IsSpelledNested Is) a_value (suc room) bytes f
unfolding value_by IsSpelledNested
nested_err read Is room s lead.Bracket bytes f e h =
    either_failed {B = Node × List ℕ} (items_at read (drop 1 bytes)) (λ x. Ok (node.Items x.0, x.1))
    f (Cut (IsSpelledNested Is) a_value (suc room) bytes f)
    (λ g. within (IsInner (Padded Is) 93) (IsSpelledNested Is) a_value (item_due true) (suc room) room (91 ∷ []) []
    bytes (drop 1 bytes) f (word_utf8 (91 ∷ []) refl) (by_first 91 lead.Bracket bracket_first (λ z. cc) bytes e)
    (λ text is. inr (inl (is.0, is.1, ap (λ (x : List ℕ). 91 ∷ x) (append-nil text ∙ is.2))))
    (into_array f room (drop 1 bytes)) (items_err read Is room s (drop 1 bytes) f g))
    (λ x p never. absurd (ok_no_err (node.Items x.0, x.1) f never)) h
nested_err read Is room s lead.Brace bytes f e h =
    either_failed {B = Node × List ℕ} (members_at read (drop 1 bytes)) (λ x. Ok (node.Members (last_values x.0), x.1))
    f (Cut (IsSpelledNested Is) a_value (suc room) bytes f)
    (λ g. within (IsInner (IsPair Is) 125) (IsSpelledNested Is) a_value (member_due true) (suc room) room (123 ∷ []) []
    bytes (drop 1 bytes) f (word_utf8 (123 ∷ []) refl) (by_first 123 lead.Brace brace_first (λ z. cc) bytes e)
    (λ text is. inr (inr (is.0, is.1, ap (λ (x : List ℕ). 123 ∷ x) (append-nil text ∙ is.2))))
    (into_object f room (drop 1 bytes)) (members_err read Is room s (drop 1 bytes) f g))
    (λ x p never. absurd (ok_no_err (node.Members (last_values x.0), x.1) f never)) h
nested_err read Is room s lead.Quote bytes f e h = plain_nested Is (suc room) lead.Quote bytes f tt e h
nested_err read Is room s lead.True bytes f e h = plain_nested Is (suc room) lead.True bytes f tt e h
nested_err read Is room s lead.False bytes f e h = plain_nested Is (suc room) lead.False bytes f tt e h
nested_err read Is room s lead.Null bytes f e h = plain_nested Is (suc room) lead.Null bytes f tt e h
nested_err read Is room s lead.Number bytes f e h = plain_nested Is (suc room) lead.Number bytes f tt e h
nested_err read Is room s lead.Other bytes f e h = plain_nested Is (suc room) lead.Other bytes f tt e h

nested_from : (Is : List ℕ → Type 0) (text : List ℕ) (v : Node) → IsNested (λ text v. Is text) text v →
    IsSpelledNested Is text
unfolding IsNested IsSpelledNested
nested_from Is text v (inl is) = inl (numeral_from text v is)
nested_from Is text v (inr (inl (items, (inner, is, e), w))) =
    inr (inl (
      inner,
      parts_from (λ part item. Padded (λ text. Is text) part) (Padded Is) (λ part item p. p) inner items
          is,
      e,
    ))
nested_from Is text v (inr (inr (members, (inner, is, e), w))) =
    inr (inr (inner, parts_from (IsMember (λ text v. Is text)) (IsPair Is) (pair_from Is) inner members is, e))

scalar_stays : (bytes : List ℕ) (v : Node) (rest : List ℕ) → scalar_at lead.Number bytes ≡ Ok (v, rest) →
    Stays bytes rest
unfolding scalar_at
scalar_stays bytes v rest h =
    let p = bound {B = Node × List ℕ} (number_at bytes) (λ x. Ok (node.Num x.0, x.1)) (v, rest) h in
    let (made, left) = ok_pair (node.Num p.value.0) v p.value.1 rest p.second in
    subst (λ (x : List ℕ). Stays bytes x) left (number_stays bytes p.value.0 p.value.1 p.first)

flat_stays : (l : Lead) (bytes : List ℕ) (v : Node) (rest : List ℕ) → l ≡ lead.Number → flat_by l bytes ≡ Ok (v, rest) →
    Stays bytes rest
unfolding flat_by
flat_stays l bytes v rest e h = scalar_stays bytes v rest (subst (λ (k : Lead). flat_by k bytes ≡ Ok (v, rest)) e h)

nested_stays : (read : List ℕ → Read Node) (l : Lead) (bytes : List ℕ) (v : Node) (rest : List ℕ) → l ≡ lead.Number →
    value_by read l bytes ≡ Ok (v, rest) → Stays bytes rest
unfolding value_by
nested_stays read l bytes v rest e h =
    scalar_stays bytes v rest (subst (λ (k : Lead). value_by read k bytes ≡ Ok (v, rest)) e h)

value_spells : (depth : ℕ) → Spells (value_at depth) (IsSpelled depth) depth
unfolding value_at IsSpelled IsSpelledNested Reads
value_spells zero = record {
  null = inl refl;
  fails = λ bytes f h. flat_err (lead_of bytes) bytes f refl h;
  reads = λ bytes v rest h. front_as (λ text. IsScalar text v) IsPlainValue bytes
      rest (λ text is. numeral_from text v is) (flat_ok (lead_of bytes) bytes v rest refl h);
  taken = λ r le. value_taken zero r le;
  stays = λ bytes v rest h n. flat_stays (lead_of bytes) bytes v rest n h;
}
value_spells (suc depth) =
    let s = value_spells depth in
    record {
      null = inl (inl refl);
      fails = λ bytes f h. nested_err (value_at depth) (IsSpelled depth) depth s (lead_of bytes) bytes f refl h;
      reads = λ bytes v rest h.
          front_as (λ text. IsNested (λ text v. IsSpelled depth text) text v) (IsSpelledNested (IsSpelled depth)) bytes
          rest (λ text is. nested_from (IsSpelled depth) text v is)
          (nested_ok (value_at depth) (λ text v. IsSpelled depth text) s.reads (lead_of bytes) bytes v rest refl h);
      taken = λ r le. value_taken (suc depth) r le;
      stays = λ bytes v rest h n. nested_stays (value_at depth) (lead_of bytes) bytes v rest n h;
    }

-- ---- whole texts

-- what is due of a whole text
abbrev pub a_text : ℕ → List Due
a_text r = white ∷ value r ∷ white ∷ stop ∷ []

pub end_err : (v : Node) (bytes : List ℕ) (f : Fault) → at_end (v, bytes) ≡ Err f →
    (unexpected bytes ≡ f) × ((stack : List Due) → Bars (stop ∷ stack) bytes)
end_err v [] f h = absurd cc
end_err v (b ∷ bytes) f h =
    (err_same {A = Node} (unexpected (b ∷ bytes)) f h, λ stack. bars_byte stop b bytes stack refl)

pub text_by : (depth : ℕ) (bytes : List ℕ) (f : Fault) →
    (value_at depth (behind_white bytes) >>= λ x. at_end (x.0, behind_white x.1)) ≡ Err f →
    Cut (Padded (IsSpelled depth)) a_text depth bytes f
text_by depth bytes f h =
    let s = value_spells depth in
    let w = whites bytes in
    let z = behind_white bytes in
    either_failed {B = Node} (value_at depth z) (λ x. at_end (x.0, behind_white x.1))
    f (Cut (Padded (IsSpelled depth)) a_text depth bytes f)
    (λ e. within (IsSpelled depth) (Padded (IsSpelled depth)) a_text a_value depth depth w.white [] bytes z
    f (white_utf8 w.white w.is_white) w.spelled
    (λ text is. subst (λ (x : List ℕ). Padded (IsSpelled depth) (w.white ++ x)) (sym (append-nil text))
    (white_padded (IsSpelled depth) w.white w.is_white text is))
    (λ r k stack. (
      r,
      white ∷ stop ∷ stack,
      k,
      λ x a.
          white_run w.white x (value r ∷ white ∷ stop ∷ stack) w.is_white
          ∙ white_skip x (value r ∷ white ∷ stop ∷ stack) (alike_stops is_white z x a (white_stops bytes)),
    )) (s.fails z f e))
    (λ x p g. let q = between (value_at depth) (IsSpelled depth) depth s bytes x.0 x.1 p in
    let u = end_err x.0 (behind_white x.1) f g in
    behind_here (Padded (IsSpelled depth)) a_text depth q.text [] bytes (behind_white x.1) f q.valid q.spelled
    u.0 (subst (Padded (IsSpelled depth)) (sym (append-nil q.text)) q.is)
    (λ r le stack others a. q.runs r le (value r ∷ white ∷ stop ∷ stack) (stop ∷ stack) (λ y b. refl) others a
    ∙ u.1 stack others a)) h
