-- What uses give, one after the other.
use Rattle.std.proofs.Common.{◌≡◌, ℕ, List, [], ◌∷◌, ◌++◌, Option, Some, None, Result, Ok, Err, length, map, refl, sym, ◌∙◌, ap, subst, inl, inr, append_assoc, arith, codes, IsTrue, length-append, ◌⊎◌}
use Rattle.std.specs.Prelude.{All, IsSome, IsNone, OnErr}
use Rattle.std.specs.List.{flat_map}
use Rattle.std.proofs.lemmas.Bool.{false≢true}
use Rattle.std.proofs.lemmas.Grind.{flat_map-append}
use Rattle.std.proofs.lemmas.List.{append-nil, map-append}
use Rattle.std.proofs.lemmas.List.Elements.{All-append, All-cons, All-nil}
use Rattle.doc_model.specs.Queries.{Index, is_index_list}
use Rattle.doc_model.specs.declared.settings.Settings.{Settings}
use Rattle.command_words.specs.Asked.{IsGiven, IsName, IsNumber, Settle, index_of, range_text}
use Rattle.command_words.specs.Reading.{Adds, AddsRange, Holds, IsFilled, IsOf, Refuses, RefusesRange, indexes_in, listed}
use Rattle.command_words.specs.Words.{Use, apart, joined, merge_value, place_of, places, range_value, save_value, value_of, values, word}
use Rattle.command_words.specs.declared.ranges.Range.{Range}
use Rattle.command_words.specs.declared.reading.Reading.{Reading}
use Rattle.command_words.specs.declared.uses.Argument.TheVariants.{Given, Word}
use Rattle.command_words.specs.declared.uses.Setting.{Setting}
use Rattle.command_words.specs.declared.uses.Setting.TheVariants.{MergeAt, SaveAt}
use Rattle.command_words.specs.declared.uses.Setting.TheVariants as setting
use Rattle.command_words.proofs.RangeLemmas.{refuses}
use Rattle.command_words.proofs.UseLemmas.{nothing, tails, heads}
use denote.Ref.{Bor}

pub pushed : {A : Type 0} (f : Use → List A) (uses : List Use) (u : Use)
    → flat_map f (uses ++ u ∷ []) ≡ flat_map f uses ++ f u
pushed f uses u = flat_map-append f uses (u ∷ []) ∙ ap (λ l. flat_map f uses ++ l) (append-nil (f u))

-- a use that gives this, wherever it is
value_at : (s : Setting) (value : Bor (List ℕ)) (found : Use) → IsOf (Given s value) found
    → (pick : Setting → List ℕ → List (List ℕ)) → (place_of found ≡ []) × (value_of pick found ≡ pick s value.now)
value_at s value (word t) of pick = absurd of
value_at s value (apart s' v) of pick =
    (refl, ap (λ x. pick x v) (sym of.0) ∙ ap (λ x. pick s x) (sym of.1))
value_at s value (joined s' v) of pick =
    (refl, ap (λ x. pick x v) (sym of.0) ∙ ap (λ x. pick s x) (sym of.1))

word_at : (text : Bor (List ℕ)) (found : Use) → IsOf (Word text) found
    → (pick : Setting → List ℕ → List (List ℕ))
    → (place_of found ≡ text.now ∷ []) × (value_of pick found ≡ [])
word_at text (word t) of pick = (ap (λ x. x ∷ []) (sym of), refl)
word_at text (apart s v) of pick = absurd of
word_at text (joined s v) of pick = absurd of

-- nothing more is given
same_still : (f : Use → List (List ℕ)) (uses : List Use) (u : Use) → f u ≡ []
    → flat_map f (uses ++ u ∷ []) ≡ flat_map f uses
same_still f uses u none =
    pushed f uses u ∙ (ap (λ l. flat_map f uses ++ l) none ∙ append-nil (flat_map f uses))

-- one more is given
one_more : (f : Use → List (List ℕ)) (uses : List Use) (u : Use) (x : List ℕ) → f u ≡ x ∷ []
    → flat_map f (uses ++ u ∷ []) ≡ flat_map f uses ++ x ∷ []
one_more f uses u x one = pushed f uses u ∙ ap (λ l. flat_map f uses ++ l) one

still_filled : (least most : ℕ) (texts texts' : List (List ℕ)) (n : Option ℕ) → texts' ≡ texts
    → IsFilled least most texts n → IsFilled least most texts' n
still_filled least most texts texts' n same filled =
    subst (λ (l : List (List ℕ)). IsFilled least most l n) (sym same) filled

pub adds_word : (old new : Reading) (text : Bor (List ℕ)) → old.directory ≡ None
    → new ≡ record old { directory = Some text } → Adds old new (Word text)
adds_word old new text none is found of uses holds =
    let at = word_at text found of in
    subst (λ (r : Reading). Holds r (uses ++ found ∷ [])) (sym is) (record {
      named = one_more place_of uses found text.now (at range_value).0
          ∙ ap (λ (l : List (List ℕ)). l ++ text.now ∷ []) (holds.named ∙ ap listed none);
      ranges = same_still (value_of range_value) uses found (at range_value).1 ∙ holds.ranges;
      names = holds.names;
      distinct = holds.distinct;
      save = still_filled 1 1000000 _ _ old.save_at (same_still (value_of save_value) uses found (at save_value).1)
          holds.save;
      merge = still_filled 2 64 _ _ old.merge_at (same_still (value_of merge_value) uses found (at merge_value).1)
          holds.merge;
    })

pub adds_range : (old new : Reading) (value : Bor (List ℕ)) → new ≡ record old { ranges = new.ranges }
    → AddsRange (indexes_in old.ranges.items) (indexes_in new.ranges.items) value.now
    → Adds old new (Given setting.Range value)
adds_range old new value is adds found of uses holds =
    let at = value_at setting.Range value found of in
    let names : All (λ (index : Index). IsName index.0) (indexes_in new.ranges.items) =
    subst (λ (l : List Index). All (λ (index : Index). IsName index.0) l) (sym adds.added)
    (All-append (λ (index : Index). IsName index.0) (indexes_in old.ranges.items) (adds.index ∷ []) holds.names
    (All-cons (λ (index : Index). IsName index.0) adds.index [] adds.name
    (All-nil (λ (index : Index). IsName index.0)))) in
    subst (λ (r : Reading). Holds r (uses ++ found ∷ [])) (sym is) (record {
      named = same_still place_of uses found (at range_value).0 ∙ holds.named;
      ranges = one_more (value_of range_value) uses found value.now (at range_value).1
          ∙ (ap (λ (l : List (List ℕ)). l ++ value.now ∷ []) holds.ranges
          ∙ (ap (λ (t : List ℕ). map range_text (indexes_in old.ranges.items) ++ t ∷ []) adds.written
          ∙ (sym (map-append range_text (indexes_in old.ranges.items) (adds.index ∷ []))
          ∙ ap (λ (l : List Index). map range_text l) (sym adds.added))));
      names = names;
      distinct = adds.distinct holds.distinct;
      save = still_filled 1 1000000 _ _ old.save_at (same_still (value_of save_value) uses found (at save_value).1)
          holds.save;
      merge = still_filled 2 64 _ _ old.merge_at (same_still (value_of merge_value) uses found (at merge_value).1)
          holds.merge;
    })

filled : (least most : ℕ) (f : Use → List (List ℕ)) (uses : List Use) (u : Use) (value : List ℕ) (n : ℕ)
    → flat_map f uses ≡ [] → f u ≡ value ∷ [] → IsNumber least most value n
    → IsFilled least most (flat_map f (uses ++ u ∷ [])) (Some n)
filled least most f uses u value n none one good =
    (value, one_more f uses u value one ∙ ap (λ (l : List (List ℕ)). l ++ value ∷ []) none, good)

pub adds_save : (old new : Reading) (value : Bor (List ℕ)) (n : ℕ) → old.save_at ≡ None
    → new ≡ record old { save_at = Some n } → IsNumber 1 1000000 value.now n
    → Adds old new (Given SaveAt value)
adds_save old new value n none is good found of uses holds =
    let at = value_at SaveAt value found of in
    let was = subst (λ (o : Option ℕ). IsFilled 1 1000000 (values save_value uses) o) none holds.save in
    subst (λ (r : Reading). Holds r (uses ++ found ∷ [])) (sym is) (record {
      named = same_still place_of uses found (at range_value).0 ∙ holds.named;
      ranges = same_still (value_of range_value) uses found (at range_value).1 ∙ holds.ranges;
      names = holds.names;
      distinct = holds.distinct;
      save = filled 1 1000000 (value_of save_value) uses found value.now n was (at save_value).1 good;
      merge = still_filled 2 64 _ _ old.merge_at (same_still (value_of merge_value) uses found (at merge_value).1)
          holds.merge;
    })

pub adds_merge : (old new : Reading) (value : Bor (List ℕ)) (n : ℕ) → old.merge_at ≡ None
    → new ≡ record old { merge_at = Some n } → IsNumber 2 64 value.now n
    → Adds old new (Given MergeAt value)
adds_merge old new value n none is good found of uses holds =
    let at = value_at MergeAt value found of in
    let was = subst (λ (o : Option ℕ). IsFilled 2 64 (values merge_value uses) o) none holds.merge in
    subst (λ (r : Reading). Holds r (uses ++ found ∷ [])) (sym is) (record {
      named = same_still place_of uses found (at range_value).0 ∙ holds.named;
      ranges = same_still (value_of range_value) uses found (at range_value).1 ∙ holds.ranges;
      names = holds.names;
      distinct = holds.distinct;
      save = still_filled 1 1000000 _ _ old.save_at (same_still (value_of save_value) uses found (at save_value).1)
          holds.save;
      merge = filled 2 64 (value_of merge_value) uses found value.now n was (at merge_value).1 good;
    })

-- of a list with one element no element comes before or after it
only_one : (xs : List (List ℕ)) (v : List ℕ) (ys : List (List ℕ)) (text : List ℕ) → xs ++ v ∷ ys ≡ text ∷ []
    → (xs ≡ []) × (v ≡ text)
only_one [] v ys text is = (refl, heads v text ys [] is)
only_one (x ∷ xs) v ys text is =
    let long : length ((x ∷ xs) ++ v ∷ ys) ≡ 1 = ap (λ (l : List (List ℕ)). length l) is in
    absurd (omega (arith, length-append xs (v ∷ ys)))

-- all that is given, where this is given in the midst
amid : (f : Use → List (List ℕ)) (uses : List Use) (u : Use) (more : List Use) (x : List ℕ) → f u ≡ x ∷ []
    → flat_map f (uses ++ u ∷ more) ≡ flat_map f uses ++ x ∷ flat_map f more
amid f uses u more x one =
    flat_map-append f uses (u ∷ more) ∙ ap (λ (l : List (List ℕ)). flat_map f uses ++ (l ++ flat_map f more)) one

not_listed : (slot : Option (Bor (List ℕ))) → IsSome slot → listed slot ≡ [] → ⊥
not_listed None full is = absurd (false≢true full)
not_listed (Some text) full is = nothing text.now [] (sym is)

pub refuses_word : (old : Reading) (text : Bor (List ℕ)) → IsSome old.directory → Refuses old (Word text)
refuses_word old text full found of uses more holds behind directory settings settle =
    let at = word_at text found of in
    let all : (places uses ++ text.now ∷ flat_map place_of more) ++ behind ≡ directory ∷ [] =
    ap (λ (l : List (List ℕ)). l ++ behind) (sym (amid place_of uses found more text.now (at range_value).0))
    ∙ settle.named in
    let one = only_one (places uses) text.now (flat_map place_of more ++ behind) directory
    (sym (append_assoc (places uses) (text.now ∷ flat_map place_of more) behind) ∙ all) in
    not_listed old.directory full (sym holds.named ∙ one.0)

pub refuses_range : (old : Reading) (value : Bor (List ℕ)) → RefusesRange (indexes_in old.ranges.items) value.now
    → Refuses old (Given setting.Range value)
refuses_range old value why found of uses more holds behind directory settings settle =
    let at = value_at setting.Range value found of in
    refuses (indexes_in old.ranges.items) settings.indexes value.now (flat_map (value_of range_value) more) why
    (ap (λ (l : List (List ℕ)). l ++ value.now ∷ flat_map (value_of range_value) more) (sym holds.ranges)
    ∙ (sym (amid (value_of range_value) uses found more value.now (at range_value).1) ∙ settle.ranges))
    settle.names settle.distinct

-- an option that isn't given a number, or that was given one
abbrev pub NotGiven : ℕ → ℕ → Option ℕ → List ℕ → Type 0
NotGiven least most slot value = ((n : ℕ) → IsNumber least most value n → ⊥) ⊎ IsSome slot

not_filled : (least most : ℕ) (texts : List (List ℕ)) (slot : Option ℕ) → IsSome slot
    → IsFilled least most texts slot → texts ≡ [] → ⊥
not_filled least most texts None full kept is = absurd (false≢true full)
not_filled least most texts (Some n) full kept is = nothing kept.0 [] (sym is ∙ kept.1)

not_given : (default least most : ℕ) (f : Use → List (List ℕ)) (uses : List Use) (u : Use) (more : List Use)
    (value : List ℕ) (slot : Option ℕ) (n : ℕ) → NotGiven least most slot value → f u ≡ value ∷ []
    → IsFilled least most (flat_map f uses) slot → IsGiven (flat_map f (uses ++ u ∷ more)) default least most n → ⊥
not_given default least most f uses u more value slot n why one kept given = elim given [
  | inl none ↦
      let long : length (flat_map f uses ++ value ∷ flat_map f more) ≡ 0 =
      ap (λ (l : List (List ℕ)). length l) (sym (amid f uses u more value one) ∙ none.0) in
      absurd (omega (arith, length-append (flat_map f uses) (value ∷ flat_map f more)))
  | inr some ↦
      let here = only_one (flat_map f uses) value (flat_map f more) some.0
      (sym (amid f uses u more value one) ∙ some.1) in
      elim why [
        | inl bad ↦ bad n (subst (λ (t : List ℕ). IsNumber least most t n) (sym here.1) some.2)
        | inr full ↦ not_filled least most (flat_map f uses) slot full kept here.0
      ]
]

pub refuses_save : (old : Reading) (value : Bor (List ℕ)) → NotGiven 1 1000000 old.save_at value.now
    → Refuses old (Given SaveAt value)
refuses_save old value why found of uses more holds behind directory settings settle =
    not_given 10000 1 1000000 (value_of save_value) uses found more value.now old.save_at settings.save_at why
    (value_at SaveAt value found of save_value).1 holds.save settle.save

pub refuses_merge : (old : Reading) (value : Bor (List ℕ)) → NotGiven 2 64 old.merge_at value.now
    → Refuses old (Given MergeAt value)
refuses_merge old value why found of uses more holds behind directory settings settle =
    not_given 8 2 64 (value_of merge_value) uses found more value.now old.merge_at settings.merge_at why
    (value_at MergeAt value found of merge_value).1 holds.merge settle.merge

pub on_err : {T E P Q : Type 0} (r : Result T E) → OnErr r P → (P → Q) → OnErr r Q
on_err (Ok x) p then_q = tt
on_err (Err e) p then_q = then_q p
