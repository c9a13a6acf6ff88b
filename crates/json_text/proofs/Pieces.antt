-- Each piece of a string that others follow takes something.
use Rattle.std.proofs.Common.{◌≡◌, ℕ, suc, ◌<◌, ◌==◌, Bool, true, false, cond, List, [], ◌∷◌, ◌++◌, length, Some, Ok, Err, ap, ◌∙◌, arith}
use Rattle.std.proofs.lemmas.List.{append-nil, length-append}
use Rattle.std.proofs.lemmas.Str.{length-encode, len_utf8_bounds}
use Rattle.std.specs.List.{flat_map}
use Rattle.std.specs.Char.{encode_utf8}
use Rattle.json_text.specs.Strings.{Char, plain, short, unit, char_text, after, text_of}
use Rattle.json_text.specs.Reading.{◌>>=◌, Read, unexpected, escape_at, end_at, run_at, piece_at}
use Rattle.json_text.proofs.Fronts.{bound, ok_pair}
use Rattle.json_text.proofs.FoundTexts.{piece_ok}

end_some_by : (b : ℕ) (bytes text rest : List ℕ) (q s : Bool) →
    ◌≡◌ {A = Read (List ℕ × Bool)} (cond q (Ok (([], false), bytes))
    (cond s (escape_at (suc (length bytes)) bytes >>= λ c. Ok ((encode_utf8 c.0, true), c.1))
    (Err (unexpected (b ∷ bytes))))) (Ok ((text, true), rest)) → 0 < length text
end_some_by b bytes text rest true s h =
    let (both, left) = ok_pair {A = List ℕ × Bool} ([], false) (text, true) bytes rest h in
    let never : false ≡ true = ap (λ (x : List ℕ × Bool). x.1) both in
    absurd cc
end_some_by b bytes text rest false true h =
    let p = bound {B = (List ℕ × Bool) × List ℕ} (escape_at (suc (length bytes)) bytes)
    (λ c. Ok ((encode_utf8 c.0, true), c.1)) ((text, true), rest) h in
    let (both, left) = ok_pair {A = List ℕ × Bool} (encode_utf8 p.value.0, true) (text, true) p.value.1 rest p.second in
    let made : encode_utf8 p.value.0 ≡ text = ap (λ (x : List ℕ × Bool). x.0) both in
    let len = length-encode p.value.0 in
    let bounds = len_utf8_bounds p.value.0 in
    let same : length (encode_utf8 p.value.0) ≡ length text = ap (λ (x : List ℕ). length x) made in
    omega arith
end_some_by b bytes text rest false false h = absurd cc

end_some : (bytes text rest : List ℕ) → end_at bytes ≡ Ok ((text, true), rest) → 0 < length text
unfolding end_at
end_some [] text rest h = absurd cc
end_some (b ∷ bytes) text rest h = end_some_by b bytes text rest (b == 34) (b == 92) h

piece_some : (bytes text rest : List ℕ) → piece_at bytes ≡ Ok ((text, true), rest) → 0 < length text
unfolding piece_at
piece_some bytes text rest h =
    let p = bound (run_at bytes) (λ run. end_at run.1 >>= λ end. Ok ((run.0 ++ end.0.0, end.0.1), end.1))
    ((text, true), rest) h in
    let x = p.value in
    let q = bound (end_at x.1) (λ end. Ok ((x.0 ++ end.0.0, end.0.1), end.1)) ((text, true), rest) p.second in
    let y = q.value in
    let (both, left) = ok_pair {A = List ℕ × Bool} (x.0 ++ y.0.0, y.0.1) (text, true) y.1 rest q.second in
    let made : x.0 ++ y.0.0 ≡ text = ap (λ (z : List ℕ × Bool). z.0) both in
    let again : y.0.1 ≡ true = ap (λ (z : List ℕ × Bool). z.1) both in
    let some = end_some x.1 y.0.0 y.1 (q.first ∙ ap (λ (t : Bool). Ok ((y.0.0, t), y.1)) again) in
    let len = length-append x.0 y.0.0 in
    let same : length (x.0 ++ y.0.0) ≡ length text = ap (λ (z : List ℕ). length z) made in
    omega arith

char_some : (c : Char) (bytes : List ℕ) → 0 < length (char_text c ++ bytes)
char_some (plain b) bytes = omega arith
char_some (short b) bytes = omega arith
char_some (unit a b c d) bytes = omega arith

no_text : (cs : List Char) (text rest : List ℕ) → 0 < length text →
    ((others : List Char) → text_of (cs ++ others) ≡ after text (text_of others)) →
    length rest < length (flat_map char_text cs ++ rest)
no_text [] text rest some means =
    let e : Some [] ≡ Some (text ++ []) = means [] in
    let same : [] ≡ text ++ [] = cc in
    let empty : [] ≡ text = same ∙ append-nil text in
    let len : 0 ≡ length text = ap (λ (x : List ℕ). length x) empty in
    absurd (omega arith)
no_text (c ∷ cs) text rest some means =
    let more = char_some c (flat_map char_text cs) in
    let len = length-append (char_text c ++ flat_map char_text cs) rest in
    omega arith

pub piece_shrinks : (bytes text rest : List ℕ) → piece_at bytes ≡ Ok ((text, true), rest) → length rest < length bytes
piece_shrinks bytes text rest h =
    let c = piece_ok bytes text true rest h in
    let less = no_text c.chars text rest (piece_some bytes text rest h) c.means in
    let same : length bytes ≡ length (flat_map char_text c.chars ++ rest) = ap (λ (x : List ℕ). length x) c.spelled in
    omega arith
