-- What all words of a command give.
use Rattle.std.proofs.Common.{◌≡◌, ◌≢◌, ℕ, List, [], ◌∷◌, ◌++◌, Option, Some, None, Result, Ok, Err, length, map, refl, sym, ◌∙◌, ap, subst, inl, inr, append_assoc, arith, codes, IsTrue}
use Rattle.std.specs.Prelude.{All, OnErr, OnOk}
use Rattle.std.specs.Result.{result_ok}
use Rattle.std.proofs.lemmas.Option.{none-some}
use Rattle.std.specs.List.{flat_map}
use Rattle.std.proofs.lemmas.List.{append-nil}
use Rattle.std.proofs.lemmas.List.Elements.{All-append, All-cons, All-head, All-nil, All-tail}
use Rattle.doc_model.specs.Queries.{Index}
use Rattle.doc_model.specs.declared.settings.Settings.{Settings}
use Rattle.command_words.specs.Asked.{AsksInit, AsksOf, DoNotFit, IsGiven, IsName, Settle, asked_settings, range_text}
use Rattle.command_words.specs.Reading.{Adds, BeginWithoutUse, GiveNothing, Holds, IsBare, IsFilled, IsFirst, ReadsAll, ReadsSome, Refuses, indexes_in, listed, or_default}
use Rattle.command_words.specs.Words.{AreUses, Ends, IsUse, IsWord, Use, apart, joined, merge_value, place_of, places, range_value, save_value, value_of, values, word, words_of}
use Rattle.command_words.specs.declared.asked.Init.{Init}
use Rattle.command_words.specs.declared.ranges.Range.{Range}
use Rattle.command_words.specs.declared.reading.Reading.{Reading}
use Rattle.command_words.specs.declared.uses.Argument.{Argument}
use Rattle.command_words.specs.declared.uses.Setting.{Setting}
use Rattle.command_words.specs.declared.uses.Setting.TheVariants.{MergeAt, SaveAt}
use Rattle.command_words.specs.declared.uses.Setting.TheVariants as setting
use Rattle.command_words.proofs.ReadingLemmas.{pushed}
use Rattle.command_words.proofs.UseLemmas.{GoOn, first_of, go_on, heads, no_use, nothing, tails}
use denote.Ref.{Bor}

pub read_more : (words : List (List ℕ)) (old new : Reading) (rest rest' : List (List ℕ)) (taken : Argument)
    → ReadsSome words old rest → IsFirst rest taken rest' → Adds old new taken → ReadsSome words new rest'
read_more words old new rest rest' taken s f adds = record {
  uses = s.uses ++ f.found ∷ [];
  each = All-append IsUse s.uses (f.found ∷ []) s.each (All-cons IsUse f.found [] f.is_use (All-nil IsUse));
  written = s.written ∙ (ap (λ (l : List (List ℕ)). flat_map words_of s.uses ++ l) f.written
      ∙ (sym (append_assoc (flat_map words_of s.uses) (words_of f.found) rest')
      ∙ ap (λ (l : List (List ℕ)). l ++ rest') (sym (pushed words_of s.uses f.found))));
  holds = adds f.found f.of s.uses s.holds;
}

-- all uses of the words follow those that were read
gone : (words : List (List ℕ)) (reading : Reading) (rest : List (List ℕ)) (s : ReadsSome words reading rest)
    (uses : List Use) (behind : List (List ℕ)) (read : AreUses words uses behind) → GoOn s.uses uses rest read.rest
gone words reading rest s uses behind read =
    go_on s.uses uses rest read.rest behind s.each read.each read.ends (sym s.written ∙ read.written)

refused_by : (rest rest' end behind : List (List ℕ)) (found : Use) (more : List Use) → IsUse found → All IsUse more
    → Ends end behind → words_of found ++ rest' ≡ flat_map words_of more ++ end
    → ((others : List Use) → more ≡ found ∷ others → ⊥) → ⊥
refused_by rest rest' end behind found [] p each ends is bad = no_use found end behind rest' p ends (sym is)
refused_by rest rest' end behind found (u ∷ others) p each ends is bad =
    let first = first_of found u rest' (flat_map words_of others ++ end) p (All-head IsUse u others each)
    (is ∙ append_assoc (words_of u) (flat_map words_of others) end) in
    bad others (ap (λ x. x ∷ others) (sym first.0))

pub refused : (words : List (List ℕ)) (old : Reading) (rest rest' : List (List ℕ)) (taken : Argument)
    → ReadsSome words old rest → IsFirst rest taken rest' → Refuses old taken → GiveNothing words
refused words old rest rest' taken s f refuses uses behind directory settings read settle =
    let g = gone words old rest s uses behind read in
    refused_by rest rest' read.rest behind f.found g.more f.is_use g.each read.ends (sym f.written ∙ g.written)
    (λ others same. refuses f.found f.of s.uses others s.holds behind directory settings
    (subst (λ (us : List Use). Settle us behind directory settings)
    (g.split ∙ ap (λ (l : List Use). s.uses ++ l) same) settle))

-- where no use begins, the words end
pub at_end : (rest end behind : List (List ℕ)) (more : List Use) → BeginWithoutUse rest → All IsUse more
    → rest ≡ flat_map words_of more ++ end → (more ≡ []) × (rest ≡ end)
at_end rest end behind [] none each is = (refl, is)
at_end rest end behind (u ∷ more) none each is =
    absurd (none u (flat_map words_of more ++ end) (All-head IsUse u more each)
    (is ∙ append_assoc (words_of u) (flat_map words_of more) end))

pub unnamed : (words : List (List ℕ)) (reading : Reading) (rest : List (List ℕ)) → ReadsSome words reading rest
    → BeginWithoutUse rest
    → ((behind : List (List ℕ)) → Ends rest behind → (text : List ℕ) → listed reading.directory ++ behind ≢ text ∷ [])
    → GiveNothing words
unnamed words reading rest s none no_word uses behind directory settings read settle =
    let g = gone words reading rest s uses behind read in
    let end = at_end rest read.rest behind g.more none g.each g.written in
    let same : uses ≡ s.uses = g.split ∙ (ap (λ (l : List Use). s.uses ++ l) end.0 ∙ append-nil s.uses) in
    no_word behind (subst (λ (l : List (List ℕ)). Ends l behind) (sym end.1) read.ends) directory
    (ap (λ (l : List (List ℕ)). l ++ behind) (sym s.holds.named ∙ ap (λ (us : List Use). places us) (sym same))
    ∙ settle.named)

pub all_read : (words : List (List ℕ)) (reading : Reading) (rest : List (List ℕ)) (directory : List ℕ)
    → ReadsSome words reading rest
    → (behind : List (List ℕ)) × Ends rest behind × (listed reading.directory ++ behind ≡ directory ∷ [])
    → ReadsAll words reading directory
all_read words reading rest directory s only = record {
  uses = s.uses;
  behind = only.0;
  read = record { rest = rest; each = s.each; written = s.written; ends = only.1 };
  holds = s.holds;
  named = ap (λ (l : List (List ℕ)). l ++ only.0) s.holds.named ∙ only.2;
}

none_given : (pick : Setting → List ℕ → List (List ℕ)) (uses : List Use) → All IsWord uses
    → values pick uses ≡ []
none_given pick [] bare = refl
none_given pick (word t ∷ uses) bare = none_given pick uses (All-tail IsWord (word t) uses bare)
none_given pick (apart s v ∷ uses) bare = absurd (All-head IsWord (apart s v) uses bare)
none_given pick (joined s v ∷ uses) bare = absurd (All-head IsWord (joined s v) uses bare)

-- words without options give the settings that are there without them
bare_settle : (uses : List Use) (behind : List (List ℕ)) (directory : List ℕ) → All IsWord uses
    → places uses ++ behind ≡ directory ∷ []
    → Settle uses behind directory (record { indexes = []; save_at = 10000; merge_at = 8 })
bare_settle uses behind directory bare named = record {
  named = named;
  ranges = none_given range_value uses bare;
  names = All-nil (λ (index : Index). IsName index.0);
  distinct = refl;
  save = inl (none_given save_value uses bare, refl);
  merge = inl (none_given merge_value uses bare, refl);
}

others_same : (verb verb' : List ℕ) (words others others' : List (List ℕ)) → words ≡ verb ∷ others
    → words ≡ verb' ∷ others' → others' ≡ others
others_same verb verb' words others others' is is' = tails verb' verb others' others (sym is' ∙ is)

bare_none : (words others : List (List ℕ)) (verb verb' : List ℕ) → words ≡ verb ∷ others → GiveNothing others
    → (directory : List ℕ) → AsksOf verb' words directory → ⊥
bare_none words others verb verb' is none directory asks =
    none asks.uses asks.behind directory (record { indexes = []; save_at = 10000; merge_at = 8 })
    (subst (λ (l : List (List ℕ)). AreUses l asks.uses asks.behind)
    (others_same verb verb' words others asks.others is asks.command) asks.read)
    (bare_settle asks.uses asks.behind directory asks.bare asks.named)

pub nothing_fits : (words others : List (List ℕ)) (verb : List ℕ) → words ≡ verb ∷ others → GiveNothing others
    → DoNotFit words
nothing_fits words others verb is none = record {
  init = λ directory settings asks. none asks.uses asks.behind directory settings
      (subst (λ (l : List (List ℕ)). AreUses l asks.uses asks.behind)
      (others_same verb (codes "init") words others asks.others is asks.command) asks.read) asks.settle;
  run = λ directory asks. bare_none words others verb (codes "run") is none directory asks;
  check = λ directory asks. bare_none words others verb (codes "check") is none directory asks;
}

given_default : (default least most : ℕ) (texts : List (List ℕ)) (slot : Option ℕ) → IsFilled least most texts slot
    → IsGiven texts default least most (or_default default slot)
given_default default least most texts None filled = inl (filled, refl)
given_default default least most texts (Some n) filled = inr filled

pub init_asked : (words others : List (List ℕ)) (reading : Reading) (directory : List ℕ) (init : Init)
    → words ≡ codes "init" ∷ others → ReadsAll others reading directory → init.directory.now ≡ directory
    → init.ranges ≡ reading.ranges → init.save_at ≡ or_default 10000 reading.save_at
    → init.merge_at ≡ or_default 8 reading.merge_at → AsksInit words init.directory.now (asked_settings init)
init_asked words others reading directory init is all named ranges save merge = record {
  others = others;
  uses = all.uses;
  behind = all.behind;
  command = is;
  read = all.read;
  settle = record {
    named = all.named ∙ ap (λ (t : List ℕ). t ∷ []) (sym named);
    ranges = rw ranges all.holds.ranges;
    names = rw ranges all.holds.names;
    distinct = rw ranges all.holds.distinct;
    save = rw save (given_default 10000 1 1000000 (values save_value all.uses) reading.save_at all.holds.save);
    merge = rw merge (given_default 8 2 64 (values merge_value all.uses) reading.merge_at all.holds.merge);
  };
}

all_words : (uses : List Use) → values range_value uses ≡ [] → values save_value uses ≡ []
    → values merge_value uses ≡ [] → All IsWord uses
all_words [] r s m = All-nil IsWord
all_words (word t ∷ uses) r s m = All-cons IsWord (word t) uses tt (all_words uses r s m)
all_words (apart setting.Range v ∷ uses) r s m = absurd (nothing v (values range_value uses) (sym r))
all_words (apart SaveAt v ∷ uses) r s m = absurd (nothing v (values save_value uses) (sym s))
all_words (apart MergeAt v ∷ uses) r s m = absurd (nothing v (values merge_value uses) (sym m))
all_words (joined setting.Range v ∷ uses) r s m = absurd (nothing v (values range_value uses) (sym r))
all_words (joined SaveAt v ∷ uses) r s m = absurd (nothing v (values save_value uses) (sym s))
all_words (joined MergeAt v ∷ uses) r s m = absurd (nothing v (values merge_value uses) (sym m))

unfilled : (least most : ℕ) (texts : List (List ℕ)) (slot : Option ℕ) → slot ≡ None
    → IsFilled least most texts slot → texts ≡ []
unfilled least most texts slot is filled =
    subst (λ (o : Option ℕ). IsFilled least most texts o) is filled

pub bare_asked : (verb : List ℕ) (words others : List (List ℕ)) (reading : Reading) (directory : List ℕ)
    → words ≡ verb ∷ others → ReadsAll others reading directory → IsBare reading → AsksOf verb words directory
bare_asked verb words others reading directory is all bare = record {
  others = others;
  uses = all.uses;
  behind = all.behind;
  command = is;
  read = all.read;
  bare = all_words all.uses (all.holds.ranges ∙ ap (λ (l : List Range). map range_text (indexes_in l)) bare.0)
      (unfilled 1 1000000 (values save_value all.uses) reading.save_at bare.1 all.holds.save)
      (unfilled 2 64 (values merge_value all.uses) reading.merge_at bare.2 all.holds.merge);
  named = all.named;
}

empty_slot : (least most : ℕ) (texts : List (List ℕ)) (slot : Option ℕ) → texts ≡ []
    → IsFilled least most texts slot → slot ≡ None
empty_slot least most texts None is filled = refl
empty_slot least most texts (Some n) is filled = absurd (nothing filled.0 [] (sym is ∙ filled.1))

no_ranges : (ranges : List Range) → map range_text (indexes_in ranges) ≡ [] → ranges ≡ []
no_ranges [] is = refl
no_ranges (r ∷ ranges) is =
    absurd (nothing (range_text (r.name.now, r.kind)) (map range_text (indexes_in ranges)) (sym is))

front_words : (uses more : List Use) → All IsWord (uses ++ more) → All IsWord uses
front_words [] more all = All-nil IsWord
front_words (u ∷ uses) more all =
    All-cons IsWord u uses (All-head IsWord u (uses ++ more) all)
    (front_words uses more (All-tail IsWord u (uses ++ more) all))

-- where an option was given, no command without options fits
pub not_bare : (verb verb' : List ℕ) (words others : List (List ℕ)) (reading : Reading) (directory : List ℕ)
    → words ≡ verb ∷ others → ReadsAll others reading directory → (IsBare reading → ⊥)
    → (named : List ℕ) → AsksOf verb' words named → ⊥
not_bare verb verb' words others reading directory is all given named asks =
    let read = subst (λ (l : List (List ℕ)). AreUses l asks.uses asks.behind)
    (others_same verb verb' words others asks.others is asks.command) asks.read in
    let g = go_on all.uses asks.uses all.read.rest read.rest asks.behind all.read.each read.each read.ends
    (sym all.read.written ∙ read.written) in
    let bare = subst (λ (us : List Use). All IsWord us) g.split asks.bare in
    let mine = front_words all.uses g.more bare in
    given (
      no_ranges reading.ranges.items (sym all.holds.ranges ∙ none_given range_value all.uses mine),
      empty_slot 1 1000000 (values save_value all.uses) reading.save_at (none_given save_value all.uses mine)
          all.holds.save,
      empty_slot 2 64 (values merge_value all.uses) reading.merge_at (none_given merge_value all.uses mine)
          all.holds.merge,
    )

pub refused_of : {T E P : Type 0} (r : Result T E) → None ≡ result_ok r → OnErr r P → P
refused_of (Ok x) is refuses = absurd (none-some x is)
refused_of (Err e) is refuses = refuses

pub taken_of : {T E P : Type 0} (r : Result T E) (x : T) → Some x ≡ result_ok r → OnOk r P → P
taken_of (Ok y) x is adds = adds
taken_of (Err e) x is adds = absurd (none-some x (sym is))

pub other_verb : (verb verb' : List ℕ) (words others : List (List ℕ)) (named : List ℕ) → words ≡ verb ∷ others
    → (verb ≡ verb' → ⊥) → AsksOf verb' words named → ⊥
other_verb verb verb' words others named is other asks =
    other (heads verb verb' others asks.others (sym is ∙ asks.command))

pub not_init : (verb : List ℕ) (words others : List (List ℕ)) (directory : List ℕ) (settings : Settings)
    → words ≡ verb ∷ others → (verb ≡ codes "init" → ⊥) → AsksInit words directory settings → ⊥
not_init verb words others directory settings is other asks =
    other (heads verb (codes "init") others asks.others (sym is ∙ asks.command))
