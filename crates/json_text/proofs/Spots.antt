-- What putting a member does to the places of names.
use Rattle.std.proofs.Common.{◌≡◌, ℕ, suc, ◌<◌, ◌+◌, Bool, true, false, cond, List, [], ◌∷◌, ◌++◌, length, get_or, Option, Some, None, refl, sym, ap, ◌∙◌, arith}
use Rattle.std.proofs.Math.ListN.{set}
use Rattle.std.proofs.lemmas.Slice.Eq.{bytes_eq-Decides}
use Rattle.std.proofs.lemmas.Map.Text.{is_eq-slice_cmp}
use Rattle.std.specs.Cmp.Lexicographic.{slice_cmp}
use Rattle.std.specs.Ordering.{nat_cmp, is_eq}
use Rattle.std.specs.Option.{option_map}
use Rattle.std.specs.Str.{bytes_eq}
use Rattle.json_text.specs.Grammar.{Member, put}
use Rattle.json_text.specs.Places.{place_of}

none_behind : (o : Option ℕ) → option_map suc o ≡ None → o ≡ None
none_behind None e = refl
none_behind (Some i) e = absurd cc

new_step : (first : Member) (others rest behind : List Member) (value : Member) (o : Option ℕ) (b : Bool) →
    cond b (Some 0) (option_map suc o) ≡ None → (o ≡ None → rest ≡ behind) →
    cond b (value ∷ others) (first ∷ rest) ≡ first ∷ behind
new_step first others rest behind value o true e h = absurd cc
new_step first others rest behind value o false e h = ap (λ (ms : List Member). first ∷ ms) (h (none_behind o e))

-- a name that isn't there goes behind all
pub put_new : (members : List Member) (member : Member) → place_of members member.0 ≡ None →
    put members member ≡ members ++ member ∷ []
put_new [] member e = refl
put_new (first ∷ others) member e =
    new_step first others (put others member) (others ++ member ∷ []) (first.0, member.1) (place_of others member.0)
    (bytes_eq first.0 member.0) e (put_new others member)

there_step : (first : Member) (others rest : List Member) (value : ℕ → Member) (o : Option ℕ) (b : Bool) (i : ℕ) →
    cond b (Some 0) (option_map suc o) ≡ Some i →
    ((j : ℕ) → o ≡ Some j → rest ≡ set others j (value (suc j))) →
    cond b (value 0 ∷ others) (first ∷ rest) ≡ set (first ∷ others) i (value i)
there_step first others rest value o true i e h = let z : 0 ≡ i = cc in
    ap (λ (k : ℕ). set (first ∷ others) k (value k)) z
there_step first others rest value None false i e h = absurd cc
there_step first others rest value (Some j) false i e h = let z : suc j ≡ i = cc in
    ap (λ (ms : List Member). first ∷ ms) (h j refl) ∙ ap (λ (k : ℕ). set (first ∷ others) k (value k)) z

-- a name that is there keeps its place, with the new value
pub put_there : (members : List Member) (member : Member) (i : ℕ) (d : Member) → place_of members member.0 ≡ Some i →
    put members member ≡ set members i ((get_or members i d).0, member.1)
put_there [] member i d e = absurd cc
put_there (first ∷ others) member i d e =
    there_step first others (put others member) (λ k. ((get_or (first ∷ others) k d).0, member.1))
    (place_of others member.0) (bytes_eq first.0 member.0) i e (λ j f. put_there others member j d f)

within_step : (o : Option ℕ) (b : Bool) (i len : ℕ) → cond b (Some 0) (option_map suc o) ≡ Some i →
    ((j : ℕ) → o ≡ Some j → j < len) → i < suc len
within_step o true i len e h = let z : 0 ≡ i = cc in omega arith
within_step None false i len e h = absurd cc
within_step (Some j) false i len e h = let z : suc j ≡ i = cc in omega (arith, h j refl)

pub place_within : (members : List Member) (name : List ℕ) (i : ℕ) → place_of members name ≡ Some i → i < length members
place_within [] name i e = absurd cc
place_within (first ∷ others) name i e = within_step (place_of others name) (bytes_eq first.0 name) i (length others)
    e (λ j f. place_within others name j f)

same_step : (first : Member) (other : Member) (others rest : List Member) (q : List ℕ) (o : Option ℕ) (i : ℕ)
    (b : Bool) → first.0 ≡ other.0 →
    cond b (Some 0) (option_map suc o) ≡ Some i →
    ((j : ℕ) → o ≡ Some j → place_of rest q ≡ place_of others q) → place_of (cond b (other ∷ others) (first ∷ rest))
    q ≡ place_of (first ∷ others) q
same_step first other others rest q o i true same e h =
    ap (λ (name : List ℕ). cond (bytes_eq name q) (Some 0) (option_map suc (place_of others q))) (sym same)
same_step first other others rest q None i false same e h = absurd cc
same_step first other others rest q (Some j) i false same e h =
    ap (λ (p : Option ℕ). cond (bytes_eq first.0 q) (Some 0) (option_map suc p)) (h j refl)

-- each name keeps its place where the name is there
pub places_stay : (members : List Member) (member : Member) (i : ℕ) (q : List ℕ) → place_of members member.0 ≡ Some i →
    place_of (put members member) q ≡ place_of members q
places_stay [] member i q e = absurd cc
places_stay (first ∷ others) member i q e =
    same_step first (first.0, member.1) others (put others member) q (place_of others member.0)
    i (bytes_eq first.0 member.0) refl e (λ j f. places_stay others member j q f)

abbrev pub or_at : Option ℕ → Option ℕ → Option ℕ
or_at None o = o
or_at (Some i) o = Some i

behind_step : (b t : Bool) (o : Option ℕ) (len : ℕ) →
    cond b (Some 0) (option_map suc (or_at o (cond t (Some len) None))) ≡ or_at (cond b (Some 0) (option_map suc o))
    (cond t (Some (suc len)) None)
behind_step true t o len = refl
behind_step false true None len = refl
behind_step false false None len = refl
behind_step false t (Some i) len = refl

pub place_behind : (members : List Member) (member : Member) (q : List ℕ) →
    place_of (members ++ member ∷ []) q ≡ or_at (place_of members q)
    (cond (bytes_eq member.0 q) (Some (length members)) None)
place_behind [] member q = refl
place_behind (first ∷ others) member q =
    ap (λ (p : Option ℕ). cond (bytes_eq first.0 q) (Some 0) (option_map suc p)) (place_behind others member q)
    ∙ behind_step (bytes_eq first.0 q) (bytes_eq member.0 q) (place_of others q) (length others)

fresh_step : (o : Option ℕ) (t : Bool) (len : ℕ) → (t ≡ true → o ≡ None) →
    cond t (Some len) o ≡ or_at o (cond t (Some len) None)
fresh_step o true len h = ap (λ (p : Option ℕ). or_at p (Some len)) (sym (h refl))
fresh_step None false len h = refl
fresh_step (Some i) false len h = refl

-- a new name has the place behind all, and each other name keeps its own
pub place_new : (members : List Member) (member : Member) (q : List ℕ) → place_of members member.0 ≡ None →
    cond (bytes_eq member.0 q) (Some (length members)) (place_of members q) ≡ place_of (put members member) q
place_new members member q e =
    fresh_step (place_of members q) (bytes_eq member.0 q) (length members)
    (λ t. ap (λ (n : List ℕ). place_of members n) (sym ((bytes_eq-Decides member.0 q).0 t)) ∙ e)
    ∙ sym (place_behind members member q)
    ∙ ap (λ (ms : List Member). place_of ms q) (sym (put_new members member e))

-- what the map has for each name once the new one is inserted
pub inserted : (members : List Member) (member : Member) (q key : List ℕ) (len : ℕ) (now old : Option ℕ) →
    key ≡ member.0 → len ≡ length members →
    now ≡ cond (is_eq (slice_cmp nat_cmp key q)) (Some len) old → old ≡ place_of members q →
    place_of members member.0 ≡ None → now ≡ place_of (put members member) q
inserted members member q key len now old key-is len-is now-is old-is gone =
    now-is
    ∙ ap (λ (b : Bool). cond b (Some len) old) (is_eq-slice_cmp key q)
    ∙ ap (λ (k : List ℕ). cond (bytes_eq k q) (Some len) old) key-is
    ∙ ap (λ (n : ℕ). cond (bytes_eq member.0 q) (Some n) old) len-is
    ∙ ap (λ (o : Option ℕ). cond (bytes_eq member.0 q) (Some (length members)) o) old-is
    ∙ place_new members member q gone

-- so many places further
abbrev pub moved : ℕ → Option ℕ → Option ℕ
moved n None = None
moved n (Some i) = Some (n + i)
