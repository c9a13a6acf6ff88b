-- A value that takes exactly so many bytes.
use Rattle.std.proofs.Common.{◌≡◌, ℕ, ◌+◌, ◌-◌, ◌<◌, ◌≤◌, Bool, true, false, ◌&&◌, nat_lt, ◌==◌, List, [], ◌∷◌, ◌++◌}
use Rattle.std.proofs.Common.{length, take, drop, Ok, Err, inl, inr, refl, sym, ap, subst, ◌∙◌, append_assoc, arith}
use Rattle.std.proofs.Math.Seq.{drop-append-add, take-append-add}
use Rattle.std.proofs.lemmas.Bool.{and_from, and_parts, cases_lt, eq-eqb, eqb-true, le-ltb, lt-ltb, ltb-false, ltb-true}
use Rattle.std.proofs.lemmas.List.{append-nil, drop-append-le, drop_all, drop_at, length-append, length-drop}
use Rattle.std.proofs.lemmas.List.{length-take}
use Rattle.std.proofs.lemmas.List.{length-take-le, take-append-drop, take-append-le, take_all, take_at}
use Rattle.byte_formats.specs.declared.error.FieldError.{FieldError}
use Rattle.byte_formats.specs.declared.error.FieldError.TheVariants.{Truncated, Invalid}
use Rattle.byte_formats.specs.Format.{Format, Read, fence, fenced, left_of}
use Rattle.byte_formats.specs.Lawful.{IsBytes, IsEdge, IsPlaced, Lawful}
use Rattle.byte_formats.proofs.Digits.{IsBytes-take}
use Rattle.byte_formats.proofs.Steps.{err_is, err_left, ok_is, reads_on}

fence_ok : {X : Type 0} (short : Bool) (behind : List ℕ) (y : X) (ys : List ℕ) (x : X × List ℕ)
    → fence short behind (Ok (y, ys)) ≡ Ok x → (short ≡ false) × (ys ≡ []) × ((y, behind) ≡ x)
fence_ok true behind y [] x e = absurd cc
fence_ok false behind y [] x e = (refl, refl, ok_is (y, behind) x e)
fence_ok short behind y (b ∷ bs) x e = absurd cc

fence_err_ok : {X : Type 0} (short : Bool) (behind : List ℕ) (why : FieldError) (x : X × List ℕ)
    → fence short behind (Err why) ≡ Ok x → ⊥
fence_err_ok true behind (Truncated left) x e = cc
fence_err_ok false behind (Truncated left) x e = cc
fence_err_ok short behind (Invalid left) x e = cc

-- with more behind, where all of the bytes are there
fence_more : {X : Type 0} (behind more : List ℕ) (r : Read X) (left : ℕ) → fence false behind r ≡ Err (Invalid left)
    → fence false (behind ++ more) r ≡ Err (Invalid (left + length more))
fence_more {X = X} behind more (Ok (y, [])) left e = absurd cc
fence_more {X = X} behind more (Ok (y, b ∷ bs)) left e =
    let a : length (b ∷ bs) + length behind ≡ left = err_left {X = X × List ℕ}
    (length (b ∷ bs) + length behind) left e in
    let same : length (b ∷ bs) + length (behind ++ more) ≡ left + length more = omega
    (arith, a, length-append behind more) in
    ap (λ (n : ℕ). Err (Invalid n)) same
fence_more {X = X} behind more (Err (Invalid k)) left e =
    let a : k + length behind ≡ left = err_left {X = X × List ℕ} (k + length behind) left e in
    let same : k + length (behind ++ more) ≡ left + length more = omega (arith, a, length-append behind more) in
    ap (λ (n : ℕ). Err (Invalid n)) same
fence_more {X = X} behind more (Err (Truncated k)) left e =
    let a : k + length behind ≡ left = err_left {X = X × List ℕ} (k + length behind) left e in
    let same : k + length (behind ++ more) ≡ left + length more = omega (arith, a, length-append behind more) in
    ap (λ (n : ℕ). Err (Invalid n)) same

fence_edge : {X : Type 0} (short : Bool) (r : Read X) → IsEdge r → IsEdge (fence short [] r)
fence_edge short (Ok x) e = absurd (cc e.is)
fence_edge true (Err (Truncated k)) e = record {
  error = Truncated k;
  is = refl;
  last = ap left_of
      (err_is (Truncated k) e.error e.is) ∙ e.last;
}
fence_edge false (Err (Truncated k)) e =
    let none : k ≡ 0 = ap left_of (err_is (Truncated k) e.error e.is) ∙ e.last in
    record { error = Invalid (k + 0); is = refl; last = omega (arith, none) }
fence_edge short (Err (Invalid k)) e =
    let none : k ≡ 0 = ap left_of (err_is (Invalid k) e.error e.is) ∙ e.last in
    record { error = Invalid (k + 0); is = refl; last = omega (arith, none) }

module _ {X : Type 0} (len : ℕ) (f : Format X) (F : Lawful f) where
  abbrev within : Format X
  within = fenced len f

  fenced_again : (x : X) (rest : List ℕ) → within.fits x ≡ true → within.read (within.spell x ++ rest) ≡ Ok (x, rest)
  fenced_again x rest h =
      let p = and_parts (f.fits x) (length (f.spell x) == len) h in
      let text : List ℕ = f.spell x in
      let same : length text ≡ len = eqb-true (length text) len p.1 in
      let long : nat_lt (length (text ++ rest)) len ≡ false =
      le-ltb (length (text ++ rest)) len (omega (arith, same, length-append text rest)) in
      let all : f.read text ≡ Ok (x, []) = ap f.read (sym (append-nil text)) ∙ F.again x [] p.0 in
      rw (long, take_at text rest len same, drop_at text rest len same, all) refl

  module _ (bytes : List ℕ) (fits : IsBytes bytes) where
    front : List ℕ
    front = take len bytes

    after : List ℕ
    after = drop len bytes

    short : Bool
    short = nat_lt (length bytes) len

    front_fits : IsBytes (take len bytes)
    front_fits = IsBytes-take len bytes fits

    fenced_found : (x : X) (rest : List ℕ) → within.read bytes ≡ Ok (x, rest)
        → (bytes ≡ f.spell x ++ rest) × ((f.fits x && (length (f.spell x) == len)) ≡ true)
    fenced_found x rest e = go (f.read (take len bytes)) refl e
      where
        go : (r : Read X) → f.read (take len bytes) ≡ r
            → fence (nat_lt (length bytes) len) (drop len bytes) r ≡ Ok (x, rest)
            → (bytes ≡ f.spell x ++ rest) × ((f.fits x && (length (f.spell x) == len)) ≡ true)
        go (Err why) read e = absurd (fence_err_ok (nat_lt (length bytes) len) (drop len bytes) why (x, rest) e)
        go (Ok y) read e =
            let a = fence_ok (nat_lt (length bytes) len) (drop len bytes) y.0 y.1 (x, rest) e in
            let long : len ≤ length bytes = ltb-false (length bytes) len a.0 in
            let g = F.found (take len bytes) y.0 y.1 front_fits read in
            let text : take len bytes ≡ f.spell y.0 =
            g.0 ∙ ap (λ (t : List ℕ). f.spell y.0 ++ t) a.1 ∙ append-nil (f.spell y.0) in
            let size : length (f.spell y.0) ≡ len = ap length (sym text) ∙ length-take-le len bytes long in
            subst (λ (z : X × List ℕ). (bytes ≡ f.spell z.0 ++ z.1) ×
            ((f.fits z.0 && (length (f.spell z.0) == len)) ≡ true)) a.2 (
              sym (take-append-drop len bytes) ∙ ap (λ (t : List ℕ). t ++ drop len bytes) text,
              and_from (f.fits y.0) (length (f.spell y.0) == len) g.1 (eq-eqb (length (f.spell y.0)) len size),
            )

    -- all of the bytes are there
    stays_long : (more : List ℕ) (left : ℕ) → len ≤ length bytes → within.read bytes ≡ Err (Invalid left)
        → within.read (bytes ++ more) ≡ Err (Invalid (left + length more))
    stays_long more left long e =
        let now : nat_lt (length bytes) len ≡ false = le-ltb (length bytes) len long in
        let then : nat_lt (length (bytes ++ more)) len ≡ false =
        le-ltb (length (bytes ++ more)) len (omega (arith, long, length-append bytes more)) in
        let fence_now : fence false (drop len bytes) (f.read (take len bytes)) ≡ Err (Invalid left) =
        ap (λ (b : Bool). fence b (drop len bytes) (f.read (take len bytes))) (sym now) ∙ e in
        rw (then, take-append-le len bytes more long, drop-append-le len bytes more long)
        (fence_more (drop len bytes) more (f.read (take len bytes)) left fence_now)

    -- some of the bytes are missing
    stays_short : (more : List ℕ) (left : ℕ) → length bytes < len → within.read bytes ≡ Err (Invalid left)
        → within.read (bytes ++ more) ≡ Err (Invalid (left + length more))
    stays_short more left less e = go (f.read bytes) refl now
      where
        now : fence true [] (f.read bytes) ≡ Err (Invalid left)
        now =
            let lt : nat_lt (length bytes) len ≡ true = lt-ltb (length bytes) len less in
            let all : take len bytes ≡ bytes = take_all len bytes (omega (arith, less)) in
            let none : drop len bytes ≡ [] = drop_all len bytes (omega (arith, less)) in
            sym (rw (lt, all, none) refl) ∙ e

        here : List ℕ
        here = take (len - length bytes) more

        there : List ℕ
        there = drop (len - length bytes) more

        parts : length here + length there ≡ length more
        parts = sym (length-append here there) ∙ ap length (take-append-drop (len - length bytes) more)

        sum : length bytes + (len - length bytes) ≡ len
        sum = omega (arith, less)

        fronts : take len (bytes ++ more) ≡ bytes ++ here
        fronts = ap (λ (n : ℕ). take n (bytes ++ more)) (sym sum) ∙ take-append-add bytes more (len - length bytes)

        backs : drop len (bytes ++ more) ≡ there
        backs = ap (λ (n : ℕ). drop n (bytes ++ more)) (sym sum) ∙ drop-append-add bytes more (len - length bytes)

        go : (r : Read X) → f.read bytes ≡ r → fence true [] r ≡ Err (Invalid left)
            → within.read (bytes ++ more) ≡ Err (Invalid (left + length more))
        go (Ok (y, [])) read e = absurd cc
        go (Ok (y, b ∷ bs)) read e =
            let a : length (b ∷ bs) + 0 ≡ left = err_left {X = X × List ℕ} (length (b ∷ bs) + 0) left e in
            let on : f.read (bytes ++ here) ≡ Ok (y, b ∷ (bs ++ here)) = reads_on f F bytes y (b ∷ bs) here fits read in
            let same : length (b ∷ (bs ++ here)) + length there ≡ left + length more =
            omega (arith, a, length-append bs here, parts) in
            rw (fronts, backs, on) (ap (λ (n : ℕ). Err (Invalid n)) same)
        go (Err (Invalid k)) read e =
            let a : k + 0 ≡ left = err_left {X = X × List ℕ} (k + 0) left e in
            let same : (k + length here) + length there ≡ left + length more = omega (arith, a, parts) in
            rw (fronts, backs, F.stays bytes here k fits read) (ap (λ (n : ℕ). Err (Invalid n)) same)
        go (Err (Truncated k)) read e = absurd cc

    fenced_stays : (more : List ℕ) (left : ℕ) → within.read bytes ≡ Err (Invalid left)
        → within.read (bytes ++ more) ≡ Err (Invalid (left + length more))
    fenced_stays more left e =
        elim (cases_lt (length bytes) len) [
          | inl less ↦ stays_short more left less e
          | inr long ↦ stays_long more left long e
        ]

    -- what is before an error of the inner format
    inner_edge : (before : List ℕ) → length before ≤ len → IsEdge (f.read before) → IsEdge (within.read before)
    inner_edge before few e =
        let all : take len before ≡ before = take_all len before few in
        let none : drop len before ≡ [] = drop_all len before few in
        rw (all, none) (fence_edge (nat_lt (length before) len) (f.read before) e)

    inner_placed : (why error : FieldError) → f.read (take len bytes) ≡ Err why
        → left_of error ≡ left_of why + length (drop len bytes)
        → IsPlaced within bytes error
    inner_placed why error e left =
        let p = F.placed (take len bytes) why front_fits e in
        let size : length (take len bytes) ≡ length p.front + length p.back = ap length p.parts
        ∙ length-append p.front p.back in
        record {
          front = p.front;
          back = p.back ++ drop len bytes;
          parts =
              sym (take-append-drop len bytes) ∙ ap (λ (t : List ℕ). t ++ drop len bytes) p.parts
              ∙ append_assoc p.front p.back (drop len bytes);
          place = omega (arith, length-append p.back (drop len bytes), p.place, left);
          edge = inner_edge p.front (omega (arith, size, length-take len bytes)) p.edge;
        }

    -- a byte that is left of those of the value
    over_placed : (y : X) (b : ℕ) (bs : List ℕ) (error : FieldError) → f.read (take len bytes) ≡ Ok (y, b ∷ bs)
        → left_of error ≡ length (b ∷ bs) + length (drop len bytes) → IsPlaced within bytes error
    over_placed y b bs error e left =
        let g = F.found (take len bytes) y (b ∷ bs) front_fits e in
        let text : List ℕ = f.spell y in
        let size : length (take len bytes) ≡ length text + length (b ∷ bs) = ap length g.0 ∙ length-append text
        (b ∷ bs) in
        let less : length text < len = omega (arith, size, length-take len bytes) in
        let lt : nat_lt (length text) len ≡ true = lt-ltb (length text) len less in
        let all : take len text ≡ text = take_all len text (omega (arith, less)) in
        let none : drop len text ≡ [] = drop_all len text (omega (arith, less)) in
        let again : f.read text ≡ Ok (y, []) = ap f.read (sym (append-nil text)) ∙ F.again y [] g.1 in
        record {
          front = text;
          back = b ∷ (bs ++ drop len bytes);
          parts =
              sym (take-append-drop len bytes) ∙ ap (λ (t : List ℕ). t ++ drop len bytes) g.0
              ∙ append_assoc text (b ∷ bs) (drop len bytes);
          place = omega (arith, length-append bs (drop len bytes), left);
          edge = record { error = Truncated 0; is = rw (lt, all, none, again) refl; last = refl };
        }

    fenced_placed : (error : FieldError) → within.read bytes ≡ Err error → IsPlaced within bytes error
    fenced_placed error e = go (nat_lt (length bytes) len) refl (f.read (take len bytes)) refl e
      where
        behind_none : nat_lt (length bytes) len ≡ true → length (drop len bytes) ≡ 0
        behind_none lt = omega (arith, length-drop len bytes, ltb-true (length bytes) len lt)

        go : (s : Bool) → nat_lt (length bytes) len ≡ s → (r : Read X) → f.read (take len bytes) ≡ r
            → fence s (drop len bytes) r ≡ Err error → IsPlaced within bytes error
        go false lt (Ok (y, [])) read e = absurd cc
        go true lt (Ok (y, [])) read e =
            let is : within.read bytes ≡ Err (Truncated 0) = rw (lt, read) refl in
            record {
              front = bytes;
              back = [];
              parts = sym (append-nil bytes);
              place = ap left_of (err_is {X = X × List ℕ} (Truncated 0) error e);
              edge = record { error = Truncated 0; is = is; last = refl };
            }
        go s lt (Ok (y, b ∷ bs)) read e = over_placed y b bs error read
            (sym (ap left_of (err_is {X = X × List ℕ} (Invalid (length (b ∷ bs) + length (drop len bytes))) error e)))
        go s lt (Err (Invalid k)) read e = inner_placed (Invalid k) error read
            (sym (ap left_of (err_is {X = X × List ℕ} (Invalid (k + length (drop len bytes))) error e)))
        go true lt (Err (Truncated k)) read e =
            let same : k ≡ left_of error = ap left_of (err_is {X = X × List ℕ} (Truncated k) error e) in
            inner_placed (Truncated k) error read (omega (arith, same, behind_none lt))
        go false lt (Err (Truncated k)) read e = inner_placed (Truncated k) error read
            (sym (ap left_of (err_is {X = X × List ℕ} (Invalid (k + length (drop len bytes))) error e)))

  pub fenced_lawful : Lawful (fenced len f)
  fenced_lawful = record {
    again = fenced_again;
    found = λ bytes x rest fits e. fenced_found bytes fits x rest e;
    stays = λ bytes more left fits e. fenced_stays bytes fits more left e;
    placed = λ bytes error fits e. fenced_placed bytes fits error e;
  }
