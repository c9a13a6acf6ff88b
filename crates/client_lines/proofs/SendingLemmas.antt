-- Bytes on their way to a sink, one piece after another.
use Rattle.std.proofs.Common.{◌≡◌, ◌≤◌, ◌<◌, ◌+◌, ◌-◌, ℕ, List, [], ◌∷◌, suc, ◌++◌, length, take, drop, get_or, sym, ◌∙◌, ap, subst, min, Option, Some, None, Result, Ok, Err, append-nil, append_assoc, length-append, length-take, take_all, arith}
use Rattle.std.proofs.lemmas.List.{take-append-drop, take-take, drop-take, take_rest, take_more, flat_map_more, get_or_default}
use Rattle.std.proofs.lemmas.Grind.{common_steps, flat_map-append}
use Rattle.std.specs.List.{flat_map}
use Rattle.std.specs.Io.KnownBytes.{Appends}
use Rattle.std.specs.Result.{IsErr}
use Rattle.disk_model.specs.Causes.{HasCause}
use Rattle.disk_model.specs.declared.failed.Failed.{Failed}
use Rattle.client_lines.specs.Sending.{Passes, Puts}

pub appends_none : (x : Option (List ℕ)) → Appends x x []
appends_none None = tt
appends_none (Some xs) = sym (append-nil xs)

pub appends_more : (x y z : Option (List ℕ)) (a b : List ℕ) → Appends x y a → Appends y z b → Appends x z (a ++ b)
appends_more None y z a b h k = tt
appends_more (Some xs) None z a b h k = absurd h
appends_more (Some xs) (Some ys) None a b h k = absurd k
appends_more (Some xs) (Some ys) (Some zs) a b h k = k ∙ (ap (λ (l : List ℕ). l ++ b) h ∙ append_assoc xs a b)

-- nothing came, and nothing went
pub passes_none : (done : Unit {0}) (waits : List ℕ) (x : Option (List ℕ)) → Passes (Ok done) waits waits x x []
passes_none done waits x = ([], appends_none x, sym (append-nil waits))

take-front : (a b : List ℕ) (n : ℕ) → a ++ take n b ≡ take (length a + n) (a ++ b)
take-front [] b n = ap (λ k. take k b) (sym (omega arith))
take-front (c ∷ a) b n =
    let more : suc (length a + n) ≡ suc (length a) + n = omega arith in
    ap (λ (l : List ℕ). c ∷ l) (take-front a b n) ∙ ap (λ k. take k (c ∷ (a ++ b))) more

-- a beginning of the first bytes is one of all
take-within : (a b : List ℕ) (n : ℕ) → take n a ≡ take (min n (length a)) (a ++ b)
take-within a b n = grind (arith, common_steps)

-- one piece, and then another
pub passes_more : (done : Unit {0}) (result : Result (Unit {0}) Failed) (w v u : List ℕ) (x y z : Option (List ℕ))
    (a b : List ℕ) →
    Passes (Ok done) w v x y a → Passes result v u y z b → Passes result w u x z (a ++ b)
passes_more done (Ok also) w v u x y z a b h k = (
  h.0 ++ k.0,
  appends_more x y z h.0 k.0 h.1 k.1,
  append_assoc h.0 k.0 u ∙
      (ap (λ (l : List ℕ). h.0 ++ l) k.2 ∙
      (sym (append_assoc h.0 v b) ∙ (ap (λ (l : List ℕ). l ++ b) h.2 ∙ append_assoc w a b))),
)
passes_more done (Err failed) w v u x y z a b h k =
    let whole : h.0 ++ (v ++ b) ≡ w ++ (a ++ b) =
    sym (append_assoc h.0 v b) ∙ (ap (λ (l : List ℕ). l ++ b) h.2 ∙ append_assoc w a b) in (
      length h.0 + k.0,
      subst (λ (l : List ℕ). Appends x z l) (take-front h.0 (v ++ b) k.0 ∙
          ap (λ (l : List ℕ). take (length h.0 + k.0) l) whole) (appends_more x y z h.0 (take k.0 (v ++ b)) h.1 k.1),
      omega (arith, ap length whole, length-append h.0 (v ++ b), k.2),
    )

-- one piece that failed, and nothing more
pub passes_stop : (failed : Failed) (w v u : List ℕ) (x y : Option (List ℕ)) (a b : List ℕ) →
    Passes (Err failed) w v x y a → Passes (Err failed) w u x y (a ++ b)
passes_stop failed w v u x y a b h = (
  min h.0 (length (w ++ a)),
  subst (λ (l : List ℕ). Appends x y l) (take-within (w ++ a) b h.0 ∙
      ap (λ (l : List ℕ). take (min h.0 (length (w ++ a))) l) (append_assoc w a b)) h.1,
  omega (arith, h.2, length-append w a, length-append w (a ++ b), length-append a b),
)

-- the piece waits
pub passes_kept : (done : Unit {0}) (w v : List ℕ) (x : Option (List ℕ)) (a : List ℕ) → v ≡ w ++ a → Passes (Ok done) w v x x a
passes_kept done w v x a is = ([], appends_none x, is)

take-more : (at n : ℕ) (bytes : List ℕ) → take at bytes ++ take n (drop at bytes) ≡ take (at + n) bytes
take-more at n bytes =
    let le : at ≤ at + n = omega arith in
    ap (λ (l : List ℕ). l ++ take n (drop at bytes)) (sym (take-take at (at + n) bytes le))
    ∙ (ap (λ (l : List ℕ). take at (take (at + n) bytes) ++ l) (sym (drop-take at n bytes)) ∙
    take-append-drop at (take (at + n) bytes))

-- what waited went, and a further piece waits
pub passes_on : (done also : Unit {0}) (w v u t : List ℕ) (x y z : Option (List ℕ)) (bytes : List ℕ) (at n : ℕ) →
    Passes (Ok done) w v x y (take at bytes) → Passes (Ok also) v u y z [] →
    t ≡ u ++ take n (take (length bytes - at) (drop at bytes)) → Passes (Ok done) w t x z (take (at + n) bytes)
passes_on done also w v u t x y z bytes at n h k is =
    let kept : t ≡ u ++ take n (drop at bytes) = is ∙ ap (λ (l : List ℕ). u ++ take n l) (take_rest bytes at) in
    subst (λ (l : List ℕ). Passes (Ok done) w t x z l) (ap (λ (l : List ℕ). l ++ take n (drop at bytes))
    (append-nil (take at bytes)) ∙ take-more at n bytes)
    (passes_more done (Ok done) w u t x z z (take at bytes ++ []) (take n (drop at bytes))
    (passes_more done (Ok also) w v u x y z (take at bytes) [] h k)
    (passes_kept done u t z (take n (drop at bytes)) kept))

-- what waited didn't go
pub passes_off : (done : Unit {0}) (result : Result (Unit {0}) Failed) (failed : Failed) (w v u : List ℕ)
    (x y z : Option (List ℕ)) (bytes : List ℕ) (at : ℕ) →
    IsErr result → Passes (Ok done) w v x y (take at bytes) → Passes (Err failed) v u y z [] → Passes result w u x z bytes
passes_off done (Ok also) failed w v u x y z bytes at is h k = absurd (cc)
passes_off done (Err other) failed w v u x y z bytes at is h k =
    subst (λ (l : List ℕ). Passes (Err other) w u x z l)
    (ap (λ (l : List ℕ). l ++ drop at bytes) (append-nil (take at bytes)) ∙ take-append-drop at bytes)
    (passes_stop other w u u x z (take at bytes ++ []) (drop at bytes)
    (passes_more done (Err other) w v u x y z (take at bytes) [] h k))

-- one piece failed, and the rest didn't come
pub passes_short : (result : Result (Unit {0}) Failed) (failed : Failed) (w v u : List ℕ) (x y : Option (List ℕ)) (a b : List ℕ) →
    IsErr result → Passes (Err failed) w v x y a → Passes result w u x y (a ++ b)
passes_short (Ok also) failed w v u x y a b is h = absurd (cc)
passes_short (Err other) failed w v u x y a b is h = passes_stop other w v u x y a b h

module _ {X : Type 0} (f : X → List ℕ) where
  flat-more : (xs : List X) (i : ℕ) (item : X) → i < length xs → item ≡ get_or xs i item →
      flat_map f (take (i + 1) xs) ≡ flat_map f (take i xs) ++ f item
  flat-more xs i item lt is =
      ap (flat_map f) (take_more xs i item lt) ∙ (ap (λ (e : X). flat_map f (take i xs ++ e ∷ [])) (sym is) ∙
      sym (flat_map_more f [] (take i xs) item))

  flat-rest : (xs : List X) (n : ℕ) → flat_map f xs ≡ flat_map f (take n xs) ++ flat_map f (drop n xs)
  flat-rest xs n = ap (flat_map f) (sym (take-append-drop n xs)) ∙ flat_map-append f (take n xs) (drop n xs)

  -- a piece for each, and one more
  pub passes_each : (done also : Unit {0}) (w v u : List ℕ) (x y z : Option (List ℕ)) (xs : List X) (i : ℕ)
      (item : X) → i < length xs → item ≡ get_or xs i item →
      Passes (Ok done) w v x y (flat_map f (take i xs)) → Passes (Ok also) v u y z (f item) →
      Passes (Ok done) w u x z (flat_map f (take (i + 1) xs))
  passes_each done also w v u x y z xs i item lt is h k =
      subst (λ (l : List ℕ). Passes (Ok done) w u x z l) (sym (flat-more xs i item lt is))
      (passes_more done (Ok also) w v u x y z (flat_map f (take i xs)) (f item) h k)

  -- the element at an index doesn't depend on the default
  pub at-index : (xs : List X) (i : ℕ) (d : X) → i < length xs → get_or xs i d ≡ get_or xs i (get_or xs i d)
  at-index xs i d lt = get_or_default xs i d (get_or xs i d) lt

  -- a piece for each, and one that failed
  pub passes_break : (done : Unit {0}) (result : Result (Unit {0}) Failed) (failed : Failed) (w v u : List ℕ)
      (x y z : Option (List ℕ)) (xs : List X) (i : ℕ) (item : X) → i < length xs → item ≡ get_or xs i item →
      IsErr result → Passes (Ok done) w v x y (flat_map f (take i xs)) → Passes (Err failed) v u y z (f item) →
      Passes result w u x z (flat_map f xs)
  passes_break done result failed w v u x y z xs i item lt is err h k =
      subst (λ (l : List ℕ). Passes result w u x z l) (ap (λ (l : List ℕ). l ++ flat_map f (drop (i + 1) xs))
      (sym (flat-more xs i item lt is)) ∙ sym (flat-rest xs (i + 1)))
      (passes_short result failed w u u x z (flat_map f (take i xs) ++ f item) (flat_map f (drop (i + 1) xs)) err
      (passes_more done (Err failed) w v u x y z (flat_map f (take i xs)) (f item) h k))

-- where there is room behind a piece that was put as far as there was room, all of it was put
pub all_put : (new old piece : List ℕ) (n : ℕ) → new ≡ old ++ take n piece →
    n ≡ min (length piece) (65536 - length old) → length new < 65536 → n ≡ length piece
all_put new old piece n is count lt =
    omega (arith, ap length is, length-append old (take n piece), length-take n piece, count, lt)

module _ {W : Type 0} (written : W → Option (List ℕ)) (faults : W → ℕ) where
  -- a cause behind a call that succeeded
  cause_later : (result : Result (Unit {0}) Failed) (x y z : W) → faults x ≤ faults y →
      HasCause (faults y) (faults z) result → HasCause (faults x) (faults z) result
  cause_later (Ok done) x y z le cause = record { later = omega (arith, le, cause.later); failed = tt }
  cause_later (Err failed) x y z le cause = record {
    later = omega (arith, le, cause.later);
    failed = omega (arith, le, cause.failed);
  }

  -- two puts, one after the other
  pub puts_more : (result : Result (Unit {0}) Failed) (w v u : List ℕ) (x y z : W) (a b : List ℕ) →
      Puts written faults (Ok tt) w v x y a → Puts written faults result v u y z b →
      Puts written faults result w u x z (a ++ b)
  puts_more result w v u x y z a b h k = record {
    bytes = passes_more tt result w v u (written x) (written y) (written z) a b h.bytes k.bytes;
    room = k.room;
    cause = cause_later result x y z h.cause.later k.cause;
  }

  -- a put that failed, and none behind it
  pub puts_short : (result : Result (Unit {0}) Failed) (failed : Failed) (w v : List ℕ) (x y : W) (a b : List ℕ) →
      IsErr result → Puts written faults (Err failed) w v x y a → Puts written faults result w v x y (a ++ b)
  puts_short (Ok done) failed w v x y a b is h = absurd (cc)
  puts_short (Err other) failed w v x y a b is h = record {
    bytes = passes_stop other w v v (written x) (written y) a b h.bytes;
    room = tt;
    cause = record { later = h.cause.later; failed = h.cause.failed };
  }

  -- a piece for each, and a put of one more that failed
  pub puts_break : {X : Type 0} (f : X → List ℕ) (result : Result (Unit {0}) Failed) (failed : Failed)
      (w v u : List ℕ) (x y z : W) (xs : List X) (i : ℕ) (item : X) → i < length xs → item ≡ get_or xs i item →
      IsErr result → Passes (Ok tt) w v (written x) (written y) (flat_map f (take i xs)) → faults x ≤ faults y →
      Puts written faults (Err failed) v u y z (f item) → Puts written faults result w u x z (flat_map f xs)
  puts_break f (Ok done) failed w v u x y z xs i item lt is err h le k = absurd (cc)
  puts_break f (Err other) failed w v u x y z xs i item lt is err h le k = record {
    bytes = passes_break f tt (Err other) failed w v u (written x) (written y) (written z) xs i item lt is err h k.bytes;
    room = tt;
    cause = cause_later (Err other) x y z le (record { later = k.cause.later; failed = k.cause.failed });
  }

  -- a piece for each of all
  pub puts_all : {X : Type 0} (f : X → List ℕ) (w v : List ℕ) (x y : W) (xs : List X) (i : ℕ) → length xs ≤ i →
      Passes (Ok tt) w v (written x) (written y) (flat_map f (take i xs)) → length v < 65536 → faults x ≤ faults y →
      Puts written faults (Ok tt) w v x y (flat_map f xs)
  puts_all {X} f w v x y xs i all h room le = record {
    bytes = subst (λ (l : List X). Passes (Ok tt) w v (written x) (written y) (flat_map f l)) (take_all i xs all) h;
    room = room;
    cause = record { later = le; failed = tt };
  }

  -- all of a piece
  pub puts_whole : (w v : List ℕ) (x y : W) (bytes : List ℕ) (at : ℕ) → length bytes ≤ at →
      Passes (Ok tt) w v (written x) (written y) (take at bytes) → length v < 65536 → faults x ≤ faults y →
      Puts written faults (Ok tt) w v x y bytes
  puts_whole w v x y bytes at all h room le = record {
    bytes = subst (λ (l : List ℕ). Passes (Ok tt) w v (written x) (written y) l) (take_all at bytes all) h;
    room = room;
    cause = record { later = le; failed = tt };
  }

  -- what waited didn't go
  pub puts_off : (result : Result (Unit {0}) Failed) (failed : Failed) (w v u : List ℕ) (x y z : W) (bytes : List ℕ)
      (at : ℕ) → IsErr result → Passes (Ok tt) w v (written x) (written y) (take at bytes) → faults x ≤ faults y →
      Passes (Err failed) v u (written y) (written z) [] →
      HasCause {T = Unit {0}} {E = Failed} (faults y) (faults z) (Err failed) → Puts written faults result w u x z bytes
  puts_off (Ok done) failed w v u x y z bytes at err h le k cause = absurd (cc)
  puts_off (Err other) failed w v u x y z bytes at err h le k cause = record {
    bytes = passes_off tt (Err other) failed w v u (written x) (written y) (written z) bytes at err h k;
    room = tt;
    cause = cause_later (Err other) x y z le (record { later = cause.later; failed = cause.failed });
  }
