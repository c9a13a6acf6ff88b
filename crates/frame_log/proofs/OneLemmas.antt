-- Bytes say one list of frames.
use Rattle.std.proofs.Common.{◌≡◌, ◌≢◌, ◌≤◌, ◌<◌, ◌^◌, ◌+◌, ◌∙◌, inl, inr, refl, sym, ap, ℕ, List, [], ◌∷◌, ◌++◌, length, take, drop, append_assoc, length-append, arith}
use Rattle.std.specs.Int.{w64, to_be_bytes, from_be_bytes}
use Rattle.std.proofs.lemmas.List.{take_at, drop_at}
use Rattle.std.proofs.lemmas.Nat.{from_be_bytes-to_be_bytes_8}
use Rattle.frame_log.specs.Frames.{sized, open_frame, framed, HasFrames, BeginsWhole, IsDamaged}
use Rattle.frame_log.specs.declared.frame.TheConstants.{OPEN}

pub head_same : (a b : ℕ) (x y : List ℕ) → a ∷ x ≡ b ∷ y → a ≡ b
head_same a b x y is = cc

pub tail_same : (a b : ℕ) (x y : List ℕ) → a ∷ x ≡ b ∷ y → x ≡ y
tail_same a b x y is = cc

-- the first frame and the rest
pub peel : (c d x y : List ℕ) → length c < 2 ^ 64 → length d < 2 ^ 64 → sized c ++ x ≡ sized d ++ y → (c ≡ d) × (x ≡ y)
peel c d x y short low is =
    let left : sized c ++ x ≡ to_be_bytes w64 (length c) ++ (c ++ x) = append_assoc (to_be_bytes w64 (length c)) c x in
    let right : sized d ++ y ≡ to_be_bytes w64 (length d) ++ (d ++ y) = append_assoc (to_be_bytes w64 (length d)) d y in
    let both : to_be_bytes w64 (length c) ++ (c ++ x) ≡ to_be_bytes w64 (length d) ++ (d ++ y) = sym left ∙ is ∙
    right in
    let size : to_be_bytes w64 (length c) ≡ to_be_bytes w64 (length d) =
    sym (take_at (to_be_bytes w64 (length c)) (c ++ x) 8 refl) ∙ ap (λ (l : List ℕ). take 8 l) both ∙ take_at
    (to_be_bytes w64 (length d)) (d ++ y) 8 refl in
    let same : length c ≡ length d = sym (from_be_bytes-to_be_bytes_8 (length c) short) ∙ ap (from_be_bytes w64) size
    ∙ from_be_bytes-to_be_bytes_8 (length d) low in
    let rest : c ++ x ≡ d ++ y =
    sym (drop_at (to_be_bytes w64 (length c)) (c ++ x) 8 refl) ∙ ap (λ (l : List ℕ). drop 8 l) both ∙ drop_at
    (to_be_bytes w64 (length d)) (d ++ y) 8 refl in (
      sym (take_at c x (length d) same) ∙ ap (λ (l : List ℕ). take (length d) l) rest ∙ take_at d y (length d) refl,
      sym (drop_at c x (length d) same) ∙ ap (λ (l : List ℕ). drop (length d) l) rest ∙ drop_at d y (length d) refl,
    )

-- the frames behind the first
pub framed_rest : (c : List ℕ) (a : List (List ℕ)) (x : List ℕ) → framed (c ∷ a) ++ x ≡ OPEN ∷ (sized c ++ (framed a ++ x))
framed_rest c a x = append_assoc (open_frame c) (framed a) x

pub length_framed : (c : List ℕ) (a : List (List ℕ)) → length (framed (c ∷ a)) ≡ 9 + length c + length (framed a)
length_framed c a = omega (arith, length-append (open_frame c) (framed a), length-append (to_be_bytes w64 (length c)) c)

size_in : (c : List ℕ) (a : List (List ℕ)) (x bytes : List ℕ) → bytes ≡ OPEN ∷ (sized c ++ (framed a ++ x)) → length
    bytes ≤ 2 ^ 62 → length c < 2 ^ 64
size_in c a x bytes is short = omega (
  arith,
  short,
  ap length is,
  length-append (sized c) (framed a ++ x),
  length-append (to_be_bytes w64 (length c)) c,
)

rest_short : (c : List ℕ) (a : List (List ℕ)) (x bytes : List ℕ) → bytes ≡ OPEN ∷ (sized c ++ (framed a ++ x)) →
    length bytes ≤ 2 ^ 62 → length (framed a ++ x) ≤ 2 ^ 62
rest_short c a x bytes is short = omega (arith, short, ap length is, length-append (sized c) (framed a ++ x))

same_frames : (a b : List (List ℕ)) (g h : ℕ) (x y : List ℕ) → g ≢ OPEN → h ≢ OPEN → length (framed a ++ g ∷ x) ≤ 2 ^
    62 → framed a ++ g ∷ x ≡ framed b ++ h ∷ y → a ≡ b
same_frames [] [] g h x y shut closed short is = refl
same_frames [] (d ∷ b) g h x y shut closed short is = absurd (shut
    (head_same g OPEN x _ (is ∙ framed_rest d b (h ∷ y))))
same_frames (c ∷ a) [] g h x y shut closed short is = absurd (closed
    (head_same h OPEN y _ (sym is ∙ framed_rest c a (g ∷ x))))
same_frames (c ∷ a) (d ∷ b) g h x y shut closed short is =
    let left = framed_rest c a (g ∷ x) in
    let right = framed_rest d b (h ∷ y) in
    let rest = tail_same OPEN OPEN _ _ (sym left ∙ is ∙ right) in
    let two = peel c d (framed a ++ g ∷ x) (framed b ++ h ∷ y) (size_in c a (g ∷ x) _ left short)
    (size_in d b (h ∷ y) _ (is ∙ right) short) rest in
    let more = same_frames a b g h x y shut closed (rest_short c a (g ∷ x) _ left short) two.1 in
    cc (two.0, more)

pub frames_are_one : (some others : List (List ℕ)) (bytes : List ℕ) → HasFrames some bytes → HasFrames others bytes →
    some ≡ others
frames_are_one some others bytes one other =
    same_frames some others one.gate other.gate one.behind other.behind one.closed other.closed
    (omega (arith, one.short, ap length one.whole)) (sym one.whole ∙ other.whole)

whole_there : (c : List ℕ) (a : List (List ℕ)) (g : ℕ) (x behind : List ℕ) → behind ≡ sized c ++ (framed a ++ g ∷ x)
    → BeginsWhole behind
whole_there c [] g x behind is = record { body = c; gate = g; behind = x; whole = is }
whole_there c (d ∷ a) g x behind is = record {
  body = c;
  gate = OPEN;
  behind = sized d ++ (framed a ++ g ∷ x);
  whole
      = is ∙ ap (λ (l : List ℕ). sized c ++ l) (framed_rest d a (g ∷ x));
}

not_broken : (a b : List (List ℕ)) (g : ℕ) (x behind : List ℕ) → g ≢ OPEN → (BeginsWhole behind → ⊥) → length
    (framed a ++ g ∷ x) ≤ 2 ^ 62 → framed a ++ g ∷ x ≡ framed b ++ OPEN ∷ behind → ⊥
not_broken [] [] g x behind shut broken short is = shut (head_same g OPEN x behind is)
not_broken [] (d ∷ b) g x behind shut broken short is = shut (head_same g OPEN x _
    (is ∙ framed_rest d b (OPEN ∷ behind)))
not_broken (c ∷ a) [] g x behind shut broken short is = broken
    (whole_there c a g x behind (sym (tail_same OPEN OPEN _ _ (sym (framed_rest c a (g ∷ x)) ∙ is))))
not_broken (c ∷ a) (d ∷ b) g x behind shut broken short is =
    let left = framed_rest c a (g ∷ x) in
    let right = framed_rest d b (OPEN ∷ behind) in
    let rest = tail_same OPEN OPEN _ _ (sym left ∙ is ∙ right) in
    let two = peel c d (framed a ++ g ∷ x) (framed b ++ OPEN ∷ behind) (size_in c a (g ∷ x) _ left short)
    (size_in d b (OPEN ∷ behind) _ (is ∙ right) short) rest in
    not_broken a b g x behind shut broken (rest_short c a (g ∷ x) _ left short) two.1

pub damaged_has_none : (place : ℕ) (bodies : List (List ℕ)) (bytes : List ℕ) → IsDamaged place bytes → HasFrames
    bodies bytes → ⊥
damaged_has_none place bodies bytes (inl none) has = omega (
  arith,
  ap length has.whole,
  ap length none.0,
  length-append (framed bodies) (has.gate ∷ has.behind),
)
damaged_has_none place bodies bytes (inr (inl long)) has = omega (arith, long.long, has.short)
damaged_has_none place bodies bytes (inr (inr broken)) has =
    not_broken bodies broken.bodies has.gate has.behind broken.behind has.closed broken.broken
    (omega (arith, has.short, ap length has.whole)) (sym has.whole ∙ broken.whole)

-- two lists of frames behind which the next one isn't whole end at one place
one_break : (a b : List (List ℕ)) (x y : List ℕ) → (BeginsWhole x → ⊥) → (BeginsWhole y → ⊥) → length (framed a) < 2
    ^ 62 → length (framed b) < 2 ^ 62
    → framed a ++ OPEN ∷ x ≡ framed b ++ OPEN ∷ y → length (framed a) ≡ length (framed b)
one_break [] [] x y broken torn short low is = refl
one_break [] (d ∷ b) x y broken torn short low is =
    absurd (broken (whole_there d b OPEN y x (tail_same OPEN OPEN _ _ (is ∙ framed_rest d b (OPEN ∷ y)))))
one_break (c ∷ a) [] x y broken torn short low is =
    absurd (torn (whole_there c a OPEN x y (sym (tail_same OPEN OPEN _ _ (sym (framed_rest c a (OPEN ∷ x)) ∙ is)))))
one_break (c ∷ a) (d ∷ b) x y broken torn short low is =
    let left = framed_rest c a (OPEN ∷ x) in
    let right = framed_rest d b (OPEN ∷ y) in
    let rest = tail_same OPEN OPEN _ _ (sym left ∙ is ∙ right) in
    let first = length_framed c a in
    let second = length_framed d b in
    let two = peel c d (framed a ++ OPEN ∷ x) (framed b ++ OPEN ∷ y) (omega (arith, first, short))
    (omega (arith, second, low)) rest in
    let more = one_break a b x y broken torn (omega (arith, first, short)) (omega (arith, second, low)) two.1 in
    omega (arith, first, second, ap length two.0, more)

-- bytes are damaged at one place
pub damage_is_one : (place other : ℕ) (bytes : List ℕ) → IsDamaged place bytes → IsDamaged other bytes → place ≡ other
damage_is_one place other bytes (inl none) (inl empty) = none.1 ∙ sym empty.1
damage_is_one place other bytes (inl none) (inr (inl long)) = absurd (omega (arith, ap length none.0, long.long))
damage_is_one place other bytes (inl none) (inr (inr broken)) =
    absurd (omega (
      arith,
      ap length none.0,
      ap length broken.whole,
      length-append (framed broken.bodies)
          (OPEN ∷ broken.behind),
    ))
damage_is_one place other bytes (inr (inl long)) (inl none) = absurd (omega (arith, ap length none.0, long.long))
damage_is_one place other bytes (inr (inl long)) (inr (inl too_long)) = long.place ∙ sym too_long.place
damage_is_one place other bytes (inr (inl long)) (inr (inr broken)) = absurd (long.unbroken other broken)
damage_is_one place other bytes (inr (inr broken)) (inl none) =
    absurd (omega (
      arith,
      ap length none.0,
      ap length broken.whole,
      length-append (framed broken.bodies)
          (OPEN ∷ broken.behind),
    ))
damage_is_one place other bytes (inr (inr broken)) (inr (inl long)) = absurd (long.unbroken place broken)
damage_is_one place other bytes (inr (inr one)) (inr (inr two)) =
    let same = one_break one.bodies two.bodies one.behind two.behind one.broken two.broken
    (omega (arith, one.place, one.early))
    (omega (arith, two.place, two.early)) (sym one.whole ∙ two.whole) in
    one.place ∙ same ∙ sym two.place
