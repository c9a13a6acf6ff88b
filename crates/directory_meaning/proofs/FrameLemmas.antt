-- Two readings of one log's bytes, frame by frame.
use Rattle.std.proofs.Common.{◌≡◌, ◌⊎◌, inl, inr, ℕ, ◌^◌, ◌<◌, List, [], ◌∷◌, ◌++◌, length, refl, sym, ap, ◌∙◌, arith}
use Rattle.frame_log.proofs.OneLemmas.{framed_rest, head_same, length_framed, peel, tail_same}
use Rattle.frame_log.specs.Frames.{BeginsWhole, framed, sized}
use Rattle.frame_log.specs.declared.frame.TheConstants.{OPEN}
use Rattle.directory_meaning.specs.Damages.{HasBody}

-- a whole frame is there
pub begins_whole : (body bytes : List ℕ) → HasBody body bytes → BeginsWhole bytes
begins_whole body bytes has = record { body = body; gate = has.gate; behind = has.behind; whole = has.whole }

-- bytes begin with one body
pub one_body : (body other bytes : List ℕ) → HasBody body bytes → HasBody other bytes → body ≡ other
one_body body other bytes one two =
    (peel body other (one.gate ∷ one.behind) (two.gate ∷ two.behind) one.fits two.fits (sym one.whole ∙ two.whole)).0

-- behind the first bodies the second ones go on with a body that these bytes begin with
pub record GoOn (first second : List (List ℕ)) (bytes : List ℕ) : Type 0 where
  pub body : List ℕ
  pub more : List (List ℕ)
  pub longer : second ≡ first ++ body ∷ more
  pub here : HasBody body bytes

-- behind the frames of two readings the gate and the rest are the same, or one of them goes on
abbrev pub Part : List (List ℕ) → List (List ℕ) → ℕ → ℕ → List ℕ → List ℕ → Type 0
Part a b g h x y =
    ((a ≡ b) × (g ≡ h) × (x ≡ y)) ⊎ (((g ≡ OPEN) × GoOn a b x) ⊎ ((h ≡ OPEN) × GoOn b a y))

next_body : (d : List ℕ) (b : List (List ℕ)) (h : ℕ) (x y : List ℕ) → length d < 2 ^ 64 →
    x ≡ sized d ++ (framed b ++ h ∷ y) → HasBody d x
next_body d [] h x y fits is = record { gate = h; behind = y; whole = is; fits = fits }
next_body d (e ∷ b) h x y fits is = record {
  gate = OPEN;
  behind = sized e ++ (framed b ++ h ∷ y);
  whole = is ∙ ap (λ (l : List ℕ). sized d ++ l) (framed_rest e b (h ∷ y));
  fits = fits;
}

-- one reading ends where the other goes on with a frame
goes_on : (d : List ℕ) (b : List (List ℕ)) (g h : ℕ) (x y : List ℕ) → length (framed (d ∷ b)) < 2 ^ 64 →
    g ∷ x ≡ framed (d ∷ b) ++ h ∷ y → (g ≡ OPEN) × GoOn [] (d ∷ b) x
goes_on d b g h x y short is =
    let both : g ∷ x ≡ OPEN ∷ (sized d ++ (framed b ++ h ∷ y)) = is ∙ framed_rest d b (h ∷ y) in (
      head_same g OPEN x _ both,
      record {
        body = d;
        more = b;
        longer = refl;
        here = next_body d b h x y (omega (arith, short, length_framed d b)) (tail_same g OPEN x _ both);
      },
    )

longer_by : (c d : List ℕ) (a b : List (List ℕ)) (bytes : List ℕ) → c ≡ d → GoOn a b bytes → GoOn (c ∷ a) (d ∷ b) bytes
longer_by c d a b bytes same on = record {
  body = on.body;
  more = on.more;
  longer = ap (λ (l : List (List ℕ)). d ∷ l) on.longer
      ∙ ap (λ (z : List ℕ). z ∷ (a ++ on.body ∷ on.more)) (sym same);
  here = on.here;
}

part_behind : (c d : List ℕ) (a b : List (List ℕ)) (g h : ℕ) (x y : List ℕ) → c ≡ d → Part a b g h x y →
    Part (c ∷ a) (d ∷ b) g h x y
part_behind c d a b g h x y same (inl ends) = inl (cc (same, ends.0), ends.1, ends.2)
part_behind c d a b g h x y same (inr (inl on)) = inr (inl (on.0, longer_by c d a b x same on.1))
part_behind c d a b g h x y same (inr (inr on)) = inr (inr (on.0, longer_by d c b a y (sym same) on.1))

-- how two readings of the same bytes part
pub readings_part : (a b : List (List ℕ)) (g h : ℕ) (x y : List ℕ) → length (framed a) < 2 ^ 64 →
    length (framed b) < 2 ^ 64 → framed a ++ g ∷ x ≡ framed b ++ h ∷ y → Part a b g h x y
readings_part [] [] g h x y short low is = inl (refl, head_same g h x y is, tail_same g h x y is)
readings_part [] (d ∷ b) g h x y short low is = inr (inl (goes_on d b g h x y low is))
readings_part (c ∷ a) [] g h x y short low is = inr (inr (goes_on c a h g y x short (sym is)))
readings_part (c ∷ a) (d ∷ b) g h x y short low is =
    let rest = tail_same OPEN OPEN _ _ (sym (framed_rest c a (g ∷ x)) ∙ is ∙ framed_rest d b (h ∷ y)) in
    let two = peel c d (framed a ++ g ∷ x) (framed b ++ h ∷ y) (omega (arith, short, length_framed c a))
    (omega (arith, low, length_framed d b)) rest in
    part_behind c d a b g h x y two.0 (readings_part a b g h x y (omega (arith, short, length_framed c a))
    (omega (arith, low, length_framed d b)) two.1)
