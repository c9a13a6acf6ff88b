-- What is written, from its parts.
use Rattle.std.proofs.Common.{◌≡◌, ◌≢◌, ℕ, zero, suc, ◌+◌, ◌-◌, ◌*◌, ◌/◌, ◌%◌, ◌^◌, ◌<◌, ◌==◌, Bool, true, not, List, [], ◌∷◌, ◌++◌, length, get_or, take, map, refl, sym, ap, subst, ◌∙◌, append_assoc, arith}
use Rattle.std.proofs.lemmas.List.{map_more, length-map, length-take-le}
use Rattle.std.proofs.lemmas.Bool.{ne_eqb, and_from}
use Rattle.std.proofs.lemmas.Nat.{pow-add}
use Rattle.std.proofs.lemmas.List.Folds.{list_all_more}
use Rattle.std.specs.Prelude.{OnOk, Result, Ok, Err}
use Rattle.std.specs.List.{list_all}
use Rattle.doc_model.specs.declared.node.Node.TheVariants as node
use Rattle.doc_model.specs.declared.node.Node.TheOpen.{Node-F}
use Rattle.doc_model.specs.declared.node.Node.TheFolds.{fold-roll-Node}
use Rattle.json_text.specs.Grammar.{joined, Member}
use Rattle.json_text.specs.Canonical.{places_text, node_step, node_text, member_text, quoted, comma}

-- one part more
joined_push : (parts : List (List ℕ)) (part : List ℕ) (some : Bool) → some ≡ not (length parts == 0) →
    joined (parts ++ part ∷ []) ≡ joined parts ++ comma some ++ part
joined_push [] part some e = rw e refl
joined_push (first ∷ []) part some e = rw e (sym (append_assoc first (44 ∷ []) part))
joined_push (first ∷ next ∷ parts) part some e =
    ap (λ (x : List ℕ). first ++ 44 ∷ x) (joined_push (next ∷ parts) part true (by (length parts)) ∙
    ap (λ (b : Bool). joined (next ∷ parts) ++ comma b ++ part) (by (length parts) ∙ sym (by2 (length parts)) ∙
    sym e))
    ∙ regroup first (joined (next ∷ parts)) (comma some) part
  where
    by : (n : ℕ) → true ≡ not (suc n == 0)
    by n = grind arith

    by2 : (n : ℕ) → not (suc (suc n) == 0) ≡ not (suc n == 0)
    by2 n = grind arith

    regroup : (a b c d : List ℕ) → a ++ 44 ∷ (b ++ c ++ d) ≡ a ++ 44 ∷ b ++ c ++ d
    regroup a b c d = simp append_assoc

pub more_some : (i : ℕ) → true ≡ not (i + 1 == 0)
more_some i = grind arith

some_by : (n i : ℕ) (some : Bool) → n ≡ i → some ≡ not (i == 0) → some ≡ not (n == 0)
some_by n i some e s = rw e s

-- what is written of one part more
pub joined_more : {X : Type 0} (f : X → List ℕ) (xs ys : List X) (i : ℕ) (x : X) (some : Bool)
    (start all commaed now : List ℕ) → ys ≡ xs →
    i < length ys → x ≡ get_or ys i x → some ≡ not (i == 0) →
    all ≡ start ++ joined (map f (take i xs)) → commaed ≡ all ++ comma some → now ≡ commaed ++ f x →
    now ≡ start ++ joined (map f (take (i + 1) xs))
joined_more {X = X} f xs ys i x some start all commaed now same lt is more a b c =
    let le : i < length xs = subst (λ (zs : List X). i < length zs) same lt in
    let at : x ≡ get_or xs i x = subst (λ (zs : List X). x ≡ get_or zs i x) same is in
    let front = map f (take i xs) in
    let len : length front ≡ i = length-map (take i xs) f ∙ length-take-le i xs (omega arith) in
    let whole : joined (map f (take (i + 1) xs)) ≡ joined front ++ comma some ++ f x =
    ap (λ (ps : List (List ℕ)). joined ps) (map_more f xs i x le ∙ ap (λ (z : X). front ++ f z ∷ []) (sym at)) ∙
    joined_push front (f x) some (some_by (length front) i some len more) in
    rw (whole, c, b, a) (simp append_assoc)

pub all_more : {X : Type 0} (p : X → Bool) (xs ys : List X) (i : ℕ) (x : X) → ys ≡ xs → i < length ys → x ≡ get_or ys i x →
    list_all p (take i xs) ≡ true → p x ≡ true → list_all p (take (i + 1) xs) ≡ true
all_more {X = X} p xs ys i x same lt is all one =
    let le : i < length xs = subst (λ (zs : List X). i < length zs) same lt in
    let at : x ≡ get_or xs i x = subst (λ (zs : List X). x ≡ get_or zs i x) same is in
    list_all_more p xs i x le ∙ and_from (list_all p (take i xs)) (p (get_or xs i x)) all (ap p (sym at) ∙ one)

-- what holds anyway
pub on_ok : {A E : Type 0} (r : Result A E) (P : Type 0) → P → OnOk r P
on_ok {A = A} {E = E} (Ok x) P p = p
on_ok {A = A} {E = E} (Err e) P p = tt

-- between brackets
pub bracketed : (all opened before inner : List ℕ) (first last : ℕ) → all ≡ opened ++ inner → opened ≡ before ++ first ∷ [] →
    before ++ first ∷ (inner ++ last ∷ []) ≡ all ++ last ∷ []
bracketed all opened before inner first last a o = rw (a, o) (simp append_assoc)

pub member_whole : (all named colon commaed name value : List ℕ) → named ≡ commaed ++ name →
    colon ≡ named ++ 58 ∷ [] → all ≡ colon ++ value →
    all ≡ commaed ++ (name ++ 58 ∷ value)
member_whole all named colon commaed name value n c a = rw (a, c, n) (simp append_assoc)

abbrev valued : Member → List ℕ × List ℕ
valued m = (m.0, node_text m.1)

map_valued : (members : List Member) → map (λ (m : List ℕ × List ℕ). quoted m.0 ++ 58 ∷ m.1) (map valued members) ≡
    map member_text members
map_valued [] = refl
map_valued (m ∷ members) = ap (λ (parts : List (List ℕ)). member_text m ∷ parts) (map_valued members)

pub members_text : (members : List Member) →
    node_text (node.Members members) ≡ 123 ∷ (joined (map member_text members) ++ 125 ∷ [])
members_text members =
    ap node_text (sym (node.rolls-Members members))
    ∙ fold-roll-Node (List ℕ) node_step (Node-F.Members members)
    ∙ ap (λ (parts : List (List ℕ)). 123 ∷ (joined parts ++ 125 ∷ [])) (map_valued members)

-- ---- places

pub no_places : (places : ℕ) → places_text places 0 ≡ []
unfolding places_text
no_places zero = refl
no_places (suc places) = refl

one_back : (places : ℕ) → suc places - 1 ≡ places
one_back places = omega arith

pub some_places : (places unit rest : ℕ) → unit ≡ 10 ^ places → rest < unit → rest ≢ 0 → places ≢ 0
some_places zero unit rest e lt ne = absurd (ne (omega arith))
some_places (suc places) unit rest e lt ne = λ z. absurd (omega arith)

pub ten_positive : (n : ℕ) → 0 < 10 ^ n
ten_positive zero = omega arith
ten_positive (suc n) = let s : suc n ≡ n + 1 = omega arith in let e : 10 ^ suc n ≡ 10 ^ n * 10 =
    ap (λ (k : ℕ). 10 ^ k) s ∙ pow-add 10 n 1 in let h = ten_positive n in omega arith

pub tenth : (places unit : ℕ) → unit ≡ 10 ^ places → places ≢ 0 → unit / 10 ≡ 10 ^ (places - 1)
tenth zero unit e ne = absurd (ne refl)
tenth (suc places) unit e ne =
    let s : suc places ≡ places + 1 = omega arith in
    let p : unit ≡ 10 ^ places * 10 = e ∙ ap (λ (k : ℕ). 10 ^ k) s ∙ pow-add 10 places 1 in
    let z : 10 ^ (suc places - 1) ≡ 10 ^ places = ap (λ (k : ℕ). 10 ^ k) (one_back places) in
    omega arith

next_by : (places rest : ℕ) (p : ℕ) → p ≡ places → rest ≢ 0 →
    places_text (suc places) rest ≡ (48 + rest / 10 ^ p) ∷ places_text p (rest % 10 ^ p)
unfolding places_text
next_by places rest p e ne = rw (e, ne_eqb rest 0 ne) refl

pub next_place : (places unit rest : ℕ) → unit ≡ 10 ^ places → places ≢ 0 → rest ≢ 0 →
    places_text places rest ≡ (48 + rest / (unit / 10)) ∷ places_text (places - 1) (rest % (unit / 10))
next_place zero unit rest e ne some = absurd (ne refl)
next_place (suc places) unit rest e ne some =
    rw (tenth (suc places) unit e ne) (next_by places rest (suc places - 1) (one_back places) some)
