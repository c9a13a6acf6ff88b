-- Writes and cuts that were done, torn, or not done.
use Rattle.std.proofs.Common.{◌≡◌, inr, ℕ, ◌+◌, List, ◌++◌, length, take, drop, refl, sym, append_assoc, length-append, arith}
use Rattle.std.proofs.lemmas.List.{take-append-drop, drop-drop}
use Rattle.std.proofs.lemmas.Grind.{common_steps}
use Rattle.std.proofs.Math.Seq.{take-append_seam, drop-append_seam}
use Rattle.disk_model.specs.Logs.{written_at, Torn, MayCut}

-- three parts of a list
pub parts : (place n : ℕ) (bytes : List ℕ) → take place bytes ++ take n (drop place bytes) ++ drop (place + n) bytes ≡
    bytes
parts place n bytes =
    rw (← drop-drop n place bytes, append_assoc, take-append-drop n (drop place bytes)) (take-append-drop place bytes)

pub front_part : (a b c : List ℕ) (k : ℕ) → length a ≡ k → take k (a ++ b ++ c) ≡ a
front_part a b c k is = rw (← is, append_assoc) (take-append_seam a (b ++ c))

pub back_part : (a b c : List ℕ) (k : ℕ) → length a + length b ≡ k → drop k (a ++ b ++ c) ≡ c
back_part a b c k is = rw (← is, ← length-append a b) (drop-append_seam (a ++ b) c)

pub torn_same : (place n : ℕ) (bytes : List ℕ) → Torn place n bytes bytes
torn_same place n bytes = record {
  bytes = take n (drop place bytes);
  rest = sym (parts place n bytes);
  no_shorter = omega arith;
  no_longer = omega arith;
}

pub whole_torn : (old bytes : List ℕ) (place : ℕ) → Torn place (length bytes) old (written_at old place bytes)
whole_torn old bytes place = record {
  bytes = bytes;
  rest = refl;
  no_shorter = grind (arith, common_steps);
  no_longer = grind (arith, common_steps);
}

pub cut_same : (len : ℕ) (bytes : List ℕ) → MayCut len bytes bytes
cut_same len bytes = inr refl
