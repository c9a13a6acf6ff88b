-- The newest root of bodies, with one more body, and of both root logs.
use Rattle.std.proofs.Common.{◌≡◌, ◌∙◌, ◌≤◌, ◌<◌, ◌⊎◌, ℕ, List, [], ◌∷◌, ◌++◌, Option, Some, None, MatchOption, All, inl, inr, refl, sym, ap, subst, length, append_assoc, length-append, arith}
use Rattle.std.proofs.lemmas.List.Elements.{All-append, All-cons, All-nil, All-push, All-same}
use Rattle.frame_log.specs.Frames.{framed}
use Rattle.journal_bodies.specs.Roots.{PlainRoot, SpellsRoot}
use Rattle.directory_meaning.specs.Bodies.{AreRoots, Bodies, IsNewest}
use Rattle.directory_meaning.specs.Damages.{gate_of}
use Rattle.directory_reading.specs.Reading.{HasNewest, IsNewestOf, IsNewestRoot, IsRootAt}
use Rattle.directory_reading.specs.declared.newest.Newest.{Newest}
use Rattle.directory_reading.proofs.GateLemmas.{gate_pushed, gate_stays, zip_length, zip_push}

-- the number of a root is at most that of another one
abbrev UpTo : PlainRoot → PlainRoot → Type 0
UpTo root r = r.number ≤ root.number

abbrev Below : PlainRoot → PlainRoot → Type 0
Below root r = r.number < root.number

-- no root has a greater number than the newest one
none_greater : (roots : List PlainRoot) (root : PlainRoot) → IsNewest roots root → All (UpTo root) roots
none_greater roots root n =
    All-same (UpTo root) roots (n.before ++ root ∷ n.behind) n.whole
    (All-append (UpTo root) n.before (root ∷ n.behind) (λ i d low. omega (arith, n.earlier i d low))
    (All-cons (UpTo root) root n.behind (omega arith) n.later))

-- one of two roots, the later one only if its number is greater
abbrev pub IsNewer : Option Newest → Newest → Newest → Type 0
IsNewer earlier later found = MatchOption earlier (found ≡ later) (λ best.
    ((best.root.number < later.root.number) × (found ≡ later))
    ⊎ ((later.root.number ≤ best.root.number) × (found ≡ best)))

-- ---- one more body

module _ (file : ℕ) (bodies : List (List ℕ)) (body : List ℕ) (next : Newest)
    (is : IsRootAt file (length (framed bodies)) body next) (roots : List PlainRoot)
    (spelled : AreRoots bodies roots) where
  abbrev more : List (List ℕ)
  more = bodies ++ body ∷ []

  all_spelled : AreRoots more (roots ++ next.root ∷ [])
  all_spelled = zip_push SpellsRoot bodies roots body next.root spelled is.spelled

  -- the root of the last body is the newest
  last_newest : All (Below next.root) roots → HasNewest file more (Some next)
  last_newest below = record {
    roots = roots ++ next.root ∷ [];
    spelled = all_spelled;
    best = record {
      newest = record {
        before = roots;
        behind = [];
        whole = refl;
        earlier = below;
        later = All-nil (UpTo next.root);
      };
      log = is.log;
      gate = is.gate
          ∙ sym (gate_pushed bodies body (length roots) (zip_length SpellsRoot bodies roots spelled));
      files = is.files;
    };
  }

  -- an earlier one stays the newest
  best_newest : (best : Newest) → IsNewestOf file bodies roots best → next.root.number ≤ best.root.number →
      HasNewest file more (Some best)
  best_newest best n low = record {
    roots = roots ++ next.root ∷ [];
    spelled = all_spelled;
    best = record {
      newest = record {
        before = n.newest.before;
        behind = n.newest.behind ++ next.root ∷ [];
        whole = ap (λ (l : List PlainRoot). l ++ next.root ∷ []) n.newest.whole
            ∙ append_assoc n.newest.before (best.root ∷ n.newest.behind) (next.root ∷ []);
        earlier = n.newest.earlier;
        later = All-push (UpTo best.root) n.newest.behind next.root n.newest.later low;
      };
      log = n.log;
      gate = n.gate ∙ sym (gate_stays bodies body (length n.newest.before) (omega (
        arith,
        zip_length SpellsRoot bodies roots spelled,
        ap length n.newest.whole,
        length-append n.newest.before (best.root ∷ n.newest.behind),
      )));
      files = n.files;
    };
  }

  newest_push : (earlier : Option Newest) (found : Newest) →
      MatchOption earlier (roots ≡ []) (IsNewestOf file bodies roots) →
      IsNewer earlier next found → HasNewest file more (Some found)
  newest_push None found none same = subst (λ n. HasNewest file more (Some n)) (sym same)
      (last_newest (All-same (Below next.root) roots [] none (All-nil (Below next.root))))
  newest_push (Some best) found n (inl later) = subst (λ n. HasNewest file more (Some n)) (sym later.1)
      (last_newest (λ i d low. omega (arith, none_greater roots best.root n.newest i d low, later.0)))
  newest_push (Some best) found n (inr earlier) = subst (λ n. HasNewest file more (Some n)) (sym earlier.1)
      (best_newest best n earlier.0)

pub root_push : (file gate : ℕ) (bodies : List (List ℕ)) (body : List ℕ) (earlier : Option Newest)
    (next found : Newest) →
    HasNewest file bodies earlier → gate ≡ length (framed bodies) → IsRootAt file gate body next →
    IsNewer earlier next found → HasNewest file (bodies ++ body ∷ []) (Some found)
root_push file gate bodies body earlier next found has at is newer =
    newest_push file bodies body next (subst (λ g. IsRootAt file g body next) at is) has.roots has.spelled earlier found
    has.best newer

-- ---- both root logs

none_spelled : (bodies : List (List ℕ)) (roots : List PlainRoot) → AreRoots bodies roots → roots ≡ [] → bodies ≡ []
none_spelled [] roots spelled none = refl
none_spelled (b ∷ bodies) [] spelled none = absurd spelled
none_spelled (b ∷ bodies) (r ∷ roots) spelled none = absurd (cc)

module _ (bodies : Bodies) (roots_0 roots_1 : List PlainRoot) (spelled_0 : AreRoots (bodies 2) roots_0)
    (spelled_1 : AreRoots (bodies 3) roots_1) where
  of_first : (found : Newest) → IsNewestOf 2 (bodies 2) roots_0 found → All (UpTo found.root) roots_1 →
      IsNewestRoot bodies found
  of_first found n low = record {
    k = length n.newest.before;
    newest = record {
      roots_0 = roots_0;
      roots_1 = roots_1;
      first_log = spelled_0;
      second_log = spelled_1;
      found = record {
        newest = record {
          before = n.newest.before;
          behind = n.newest.behind ++ roots_1;
          whole = ap (λ (l : List PlainRoot). l ++ roots_1) n.newest.whole
              ∙ append_assoc n.newest.before (found.root ∷ n.newest.behind) roots_1;
          earlier = n.newest.earlier;
          later = All-append (UpTo found.root) n.newest.behind roots_1 n.newest.later low;
        };
        here = inl (
          n.log,
          refl,
          omega (
            arith,
            ap length n.newest.whole,
            length-append n.newest.before (found.root ∷ n.newest.behind),
          ),
        );
      };
    };
    gate = n.gate ∙ ap (λ log. gate_of (bodies log) (length n.newest.before)) (sym n.log);
    files = n.files;
  }

  of_second : (found : Newest) → IsNewestOf 3 (bodies 3) roots_1 found → All (Below found.root) roots_0 →
      IsNewestRoot bodies found
  of_second found n low = record {
    k = length n.newest.before;
    newest = record {
      roots_0 = roots_0;
      roots_1 = roots_1;
      first_log = spelled_0;
      second_log = spelled_1;
      found = record {
        newest = record {
          before = roots_0 ++ n.newest.before;
          behind = n.newest.behind;
          whole = ap (λ (l : List PlainRoot). roots_0 ++ l) n.newest.whole
              ∙ sym (append_assoc roots_0 n.newest.before (found.root ∷ n.newest.behind));
          earlier = All-append (Below found.root) roots_0 n.newest.before low n.newest.earlier;
          later = n.newest.later;
        };
        here = inr (n.log, sym (length-append roots_0 n.newest.before));
      };
    };
    gate = n.gate ∙ ap (λ log. gate_of (bodies log) (length n.newest.before)) (sym n.log);
    files = n.files;
  }

  newer_is_newest : (first : Option Newest) (second found : Newest) →
      MatchOption first (roots_0 ≡ []) (IsNewestOf 2 (bodies 2) roots_0) → IsNewestOf 3 (bodies 3) roots_1 second →
      IsNewer first second found → IsNewestRoot bodies found
  newer_is_newest None second found none n same = subst (IsNewestRoot bodies) (sym same)
      (of_second second n (All-same (Below second.root) roots_0 [] none (All-nil (Below second.root))))
  newer_is_newest (Some first) second found m n (inl later) = subst (IsNewestRoot bodies) (sym later.1)
      (of_second second n (λ i d low. omega (arith, none_greater roots_0 first.root m.newest i d low, later.0)))
  newer_is_newest (Some first) second found m n (inr earlier) = subst (IsNewestRoot bodies) (sym earlier.1)
      (of_first first m (λ i d low. omega (arith, none_greater roots_1 second.root n.newest i d low, earlier.0)))

  first_is_newest : (first : Option Newest) → MatchOption first (roots_0 ≡ []) (IsNewestOf 2 (bodies 2) roots_0) →
      roots_1 ≡ [] → MatchOption first ((bodies 2 ≡ []) × (bodies 3 ≡ [])) (IsNewestRoot bodies)
  first_is_newest None none nothing =
      (none_spelled (bodies 2) roots_0 spelled_0 none, none_spelled (bodies 3) roots_1 spelled_1 nothing)
  first_is_newest (Some first) n nothing =
      of_first first n (All-same (UpTo first.root) roots_1 [] nothing (All-nil (UpTo first.root)))

pub newest_of_both : (bodies : Bodies) (first : Option Newest) (second found : Newest) → HasNewest 2 (bodies 2) first →
    HasNewest 3 (bodies 3) (Some second) → IsNewer first second found → IsNewestRoot bodies found
newest_of_both bodies first second found zeros ones newer = newer_is_newest bodies zeros.roots ones.roots zeros.spelled
    ones.spelled first second found zeros.best ones.best newer

pub newest_of_first : (bodies : Bodies) (first : Option Newest) → HasNewest 2 (bodies 2) first →
    HasNewest 3 (bodies 3) None → MatchOption first ((bodies 2 ≡ []) × (bodies 3 ≡ [])) (IsNewestRoot bodies)
newest_of_first bodies first zeros ones =
    first_is_newest bodies zeros.roots ones.roots zeros.spelled ones.spelled first zeros.best ones.best
