-- LEB128 numbers.
use Rattle.std.proofs.Common.{◌≡◌, ℕ, zero, suc, ◌+◌, ◌*◌, ◌/◌, ◌%◌, ◌<◌, ◌≤◌, Bool, true, false, cond, nat_lt}
use Rattle.std.proofs.Common.{nat_le, ◌==◌, List, [], ◌++◌}
use Rattle.std.proofs.Common.{length, Option, Some, Err, ◌⊎◌, inl, inr, refl, sym, ap, ◌∙◌, arith}
use Rattle.std.proofs.lemmas.Bool.{and_parts, eqb-true, le-ltb, leb-true, lt-ltb, ltb-false, ltb-true}
use Rattle.std.proofs.lemmas.List.{length-append}
use Rattle.byte_formats.specs.declared.error.FieldError.TheVariants.{Invalid}
use Rattle.byte_formats.specs.Fields.{byte}
use Rattle.byte_formats.specs.Format.{Format, both, constant, keeping, left_of}
use Rattle.byte_formats.specs.Lawful.{Lawful}
use Rattle.byte_formats.specs.Leb.{digits, high_bits, joined, leb, nothing, split}
use Rattle.byte_formats.proofs.Basic.{byte_lawful}
use Rattle.byte_formats.proofs.Pairs.{both_lawful}
use Rattle.byte_formats.proofs.Pieces.{constant_lawful, field_lawful, keeping_lawful, made_lawful}
use Rattle.byte_formats.proofs.Steps.{err_is, err_left, some_is}

pub nothing_lawful : {X : Type 0} → Lawful (nothing {X = X})
nothing_lawful {X = X} = record {
  again = λ x rest h. absurd cc;
  found = λ bytes x rest fits e. absurd cc;
  stays = λ bytes more left fits e.
      let same : length (bytes ++ more) ≡ left + length more = length-append bytes more ∙ ap
      (λ (n : ℕ). n + length more) (err_left {X = X × List ℕ} (length bytes) left e) in
      ap (λ (n : ℕ). Err (Invalid n)) same;
  placed = λ bytes error fits e. record {
    front = [];
    back = bytes;
    parts = refl;
    place = ap left_of (err_is {X = X × List ℕ} (Invalid (length bytes)) error e);
    edge = record { error = Invalid 0; is = refl; last = refl };
  };
}

high_lawful : (more : Format ℕ) → Lawful more → (low : ℕ) → Lawful (high_bits more low)
high_lawful more M low = go (nat_lt low 128)
  where
    go : (b : Bool) → Lawful (cond b (constant 0 (λ n. n == 0)) (keeping (λ n. nat_le 1 n) more))
    go true = constant_lawful 0 (λ n. n == 0) refl (λ n h. eqb-true n 0 h)
    go false = keeping_lawful (λ n. nat_le 1 n) more M

-- a last byte has nothing above it, and any other something
high_rule : (more : Format ℕ) (low high : ℕ) → (high_bits more low).fits high ≡ true
    → ((low < 128) × (high ≡ 0)) ⊎ ((128 ≤ low) × (1 ≤ high))
high_rule more low high h = go (nat_lt low 128) refl h
  where
    go : (b : Bool) → nat_lt low 128 ≡ b
        → (cond b (constant 0 (λ n. n == 0)) (keeping (λ n. nat_le 1 n) more)).fits high ≡ true
        → ((low < 128) × (high ≡ 0)) ⊎ ((128 ≤ low) × (1 ≤ high))
    go true t h = inl (ltb-true low 128 t, eqb-true high 0 h)
    go false t h = inr (ltb-false low 128 t, leb-true 1 high (and_parts (more.fits high) (nat_le 1 high) h).1)

abbrev some_pair : ℕ → ℕ → Option (ℕ × ℕ)
some_pair a b = Some (a, b)

pair_is : (a b c d : ℕ) → a ≡ c → b ≡ d → some_pair a b ≡ some_pair c d
pair_is a b c d p q = cc

split_last : (n low : ℕ) (high : ℕ) → n ≡ low % 128 + 128 * high → low < 128 → high ≡ 0 → split n ≡ Some (low, high)
split_last n low high e lt none =
    let small : nat_lt n 128 ≡ true = lt-ltb n 128 (omega arith) in
    rw small (pair_is n (n / 128) low high (omega arith) (omega arith))

split_more : (n low : ℕ) (high : ℕ) → n ≡ low % 128 + 128 * high → 128 ≤ low → low < 256 → 1 ≤ high
    → split n ≡ Some (low, high)
split_more n low high e le lt some =
    let large : nat_lt n 128 ≡ false = le-ltb n 128 (omega arith) in
    rw large (pair_is (128 + n % 128) (n / 128) low high (omega arith) (omega arith))

split_there : (more : Format ℕ) (p : ℕ × ℕ) → (both byte (high_bits more)).fits p ≡ true → split (joined p) ≡ Some p
split_there more p h =
    let fit = and_parts (nat_lt p.0 256) ((high_bits more p.0).fits p.1) h in
    elim (high_rule more p.0 p.1 fit.1) [
      | inl k ↦ split_last (joined p) p.0 p.1 refl k.0 k.1
      | inr k ↦ split_more (joined p) p.0 p.1 refl k.0 (ltb-true p.0 256 fit.0) k.1
    ]

joined_low : (n : ℕ) (b : Bool) → nat_lt n 128 ≡ b → cond b n (128 + n % 128) % 128 + 128 * (n / 128) ≡ n
joined_low n true t = let lt : n < 128 = ltb-true n 128 t in omega arith
joined_low n false t = omega arith

split_back : (n : ℕ) (p : ℕ × ℕ) → split n ≡ Some p → joined p ≡ n
split_back n p e =
    ap joined (sym (some_is (cond (nat_lt n 128) n (128 + n % 128), n / 128) p e)) ∙ joined_low n (nat_lt n 128) refl

pub digits_lawful : (n : ℕ) → Lawful (digits n)
unfolding digits
digits_lawful zero = nothing_lawful
digits_lawful (suc n) =
    made_lawful joined split (both byte (high_bits (digits n)))
    (both_lawful byte (high_bits (digits n)) byte_lawful (high_lawful (digits n) (digits_lawful n)))
    (split_there (digits n)) split_back

pub leb_lawful : Lawful leb
unfolding leb
leb_lawful = field_lawful (digits 5) (digits_lawful 5)
