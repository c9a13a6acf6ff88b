-- What has a value is spelled by the weaker grammar.
use Rattle.std.proofs.Common.{ℕ, inl, inr, List, [], ◌∷◌, ◌++◌, Some, refl, sym}
use Rattle.std.proofs.lemmas.List.{append-nil}
use Rattle.doc_model.specs.declared.node.Node.{Node}
use Rattle.json_text.specs.Strings.{IsString}
use Rattle.json_text.specs.Grammar.{IsWhite, Padded, Each, Listed, Member, IsMember, IsScalar}
use Rattle.json_text.specs.Faults.{IsQuoted, IsPair, Every, AreParts, IsPlainValue}

pub numeral_from : (text : List ℕ) (v : Node) → IsScalar text v → IsPlainValue text
numeral_from text v (inl (t, is)) = inl t
numeral_from text v (inr (inl (t, is))) = inr (inl t)
numeral_from text v (inr (inr (inl (t, is)))) = inr (inr (inl t))
numeral_from text v (inr (inr (inr (inl (n, (l, ok, t, w), is))))) = inr (inr (inr (inl (l, ok, t))))
numeral_from text v (inr (inr (inr (inr (t, (chars, are, e, w), is))))) = inr (inr (inr (inr (chars, are, e))))

every_from : {V : Type 0} (IsPart : List ℕ → V → Type 0) (Is : List ℕ → Type 0) →
    ((part : List ℕ) (v : V) → IsPart part v → Is part) →
    (parts : List (List ℕ)) (vs : List V) → Each IsPart parts vs → Every Is parts
every_from {V = V} IsPart Is to [] [] h = tt
every_from {V = V} IsPart Is to [] (v ∷ vs) h = absurd h
every_from {V = V} IsPart Is to (part ∷ parts) [] h = absurd h
every_from {V = V} IsPart Is to (part ∷ parts) (v ∷ vs) h = (to part v h.0, every_from IsPart Is to parts vs h.1)

pub parts_from : {V : Type 0} (IsPart : List ℕ → V → Type 0) (Is : List ℕ → Type 0) →
    ((part : List ℕ) (v : V) → IsPart part v → Is part) →
    (inner : List ℕ) (vs : List V) → Listed IsPart inner vs → AreParts Is inner
parts_from {V = V} IsPart Is to inner [] h = inl h
parts_from {V = V} IsPart Is to inner (v ∷ vs) ([], each, e) = absurd each
parts_from {V = V} IsPart Is to inner (v ∷ vs) (part ∷ parts, each, e) =
    inr (part, parts, to part v each.0, every_from IsPart Is to parts vs each.1, e)

pub padded_as : (P Q : List ℕ → Type 0) → ((text : List ℕ) → P text → Q text) → (bytes : List ℕ) → Padded P bytes →
    Padded Q bytes
padded_as P Q to bytes p =
    record {
      before = p.before;
      text = p.text;
      behind = p.behind;
      white_before = p.white_before;
      white_behind = p.white_behind;
      is_text = to p.text p.is_text;
      spelled = p.spelled;
    }

pub quoted_from : (name text : List ℕ) → IsString text (Some name) → IsQuoted text
quoted_from name text (chars, are, e, w) = (chars, are, e)

pub pair_from : (Is : List ℕ → Type 0) (part : List ℕ) (m : Member) → IsMember (λ text v. Is text) part m →
    IsPair Is part
pair_from Is part m (name, inner, is_name, is_inner, e) =
    (name, inner, padded_as (λ text. IsString text (Some m.0)) IsQuoted (quoted_from m.0) name is_name, is_inner, e)

-- white space before a value
pub white_padded : (Is : List ℕ → Type 0) (run : List ℕ) → IsWhite run → (text : List ℕ) → Is text →
    Padded Is (run ++ text)
white_padded Is run w text is =
    record {
      before = run;
      text = text;
      behind = [];
      white_before = w;
      white_behind = refl;
      is_text = is;
      spelled = sym
          (append-nil (run ++ text));
    }
