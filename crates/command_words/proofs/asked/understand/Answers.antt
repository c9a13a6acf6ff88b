use Rattle.std.proofs.Common.{ap, map, string_bytes, take, drop, length, ◌-◌, ◌∷◌, codes, refl, List, ℕ, ◌≡◌, sym, ◌∙◌}
use Rattle.std.proofs.lemmas.Bool.{false≢true}
use Rattle.command_words.proofs.UseLemmas.{first_text, first_word}
use Rattle.command_words.proofs.TellingLemmas.{bare_asked, init_asked, not_bare, not_init, nothing_fits, other_verb}
use Rattle.command_words.specs.Reading.{IsBare}
use Rattle.command_words.proofs.asked.understand.Goals as goal
use denote.Ref.{Bor}

pub returns-in_err-reading : goal.returns-in_err-reading
returns-in_err-reading c = rw c.from_residual.ensures
    (nothing_fits (map string_bytes c.args.words.now)
    (map string_bytes (take (length c.args.words.now - 1) (drop 1 c.args.words.now)))
    (string_bytes c.command-item.result)
    (first_word c.args.words.now c.command-item.result c.in-len1-up.len_at_least c.command-item.is)
    c.in_err-reading.ensures)

pub returns-then-same : goal.returns-then-same
returns-then-same c =
    init_asked (map string_bytes c.args.words.now)
    (map string_bytes (take (length c.args.words.now - 1) (drop 1 c.args.words.now)))
    c.in_ok-reading.reading c.in_ok-reading.directory.now c.new.result
    (first_text c.args.words.now c.command-item.result c.deref.result.now (codes "init") c.in-len1-up.len_at_least
    c.command-item.is c.deref.ensures (c.same.ensures.0 c.if-same.true))
    c.in_ok-reading.ensures (ap (λ (b : Bor (List ℕ)). b.now) c.new.ensures.directory) c.new.ensures.ranges
    c.new.ensures.save c.new.ensures.merge

pub returns-then-not-is_bare : goal.returns-then-not-is_bare
returns-then-not-is_bare c =
    let words = map string_bytes c.args.words.now in
    let others = map string_bytes (take (length c.args.words.now - 1) (drop 1 c.args.words.now)) in
    let seen = c.deref.result.now in
    let at : words ≡ seen ∷ others = first_text c.args.words.now c.command-item.result seen seen
    c.in-len1-up.len_at_least c.command-item.is c.deref.ensures refl in
    let given : IsBare c.in_ok-reading.reading → ⊥ = λ bare.
    false≢true (sym c.if-not-is_bare.true ∙ c.is_bare.ensures.1 bare) in
    record {
      init = λ d s. not_init seen words others d s at (λ e. false≢true (sym c.if-same.false ∙ c.same.ensures.1 e));
      run = λ d. not_bare seen (codes "run") words others c.in_ok-reading.reading c.in_ok-reading.directory.now at
          c.in_ok-reading.ensures given d;
      check = λ d. not_bare seen (codes "check") words others c.in_ok-reading.reading
          c.in_ok-reading.directory.now at c.in_ok-reading.ensures given d;
    }

pub returns-in-run : goal.returns-in-run
returns-in-run c =
    bare_asked (codes "run") (map string_bytes c.args.words.now)
    (map string_bytes (take (length c.args.words.now - 1) (drop 1 c.args.words.now)))
    c.in_ok-reading.reading c.in_ok-reading.directory.now
    (first_text c.args.words.now c.command-item.result c.as_str.result.now (codes "run") c.in-len1-up.len_at_least
    c.command-item.is c.as_str.ensures.value c.in-run.is)
    c.in_ok-reading.ensures (c.is_bare.ensures.0 c.if-not-is_bare.false)

pub returns-in-check : goal.returns-in-check
returns-in-check c =
    bare_asked (codes "check") (map string_bytes c.args.words.now)
    (map string_bytes (take (length c.args.words.now - 1) (drop 1 c.args.words.now)))
    c.in_ok-reading.reading c.in_ok-reading.directory.now
    (first_text c.args.words.now c.command-item.result c.as_str.result.now (codes "check") c.in-len1-up.len_at_least
    c.command-item.is c.as_str.ensures.value c.in-check.is)
    c.in_ok-reading.ensures (c.is_bare.ensures.0 c.if-not-is_bare.false)

pub returns-in_default-as_str : goal.returns-in_default-as_str
returns-in_default-as_str c =
    let words = map string_bytes c.args.words.now in
    let others = map string_bytes (take (length c.args.words.now - 1) (drop 1 c.args.words.now)) in
    let seen = c.as_str.result.now in
    let at : words ≡ seen ∷ others = first_text c.args.words.now c.command-item.result seen seen
    c.in-len1-up.len_at_least c.command-item.is c.as_str.ensures.value refl in
    record {
      init = λ d s. not_init seen words others d s at
          (λ e. false≢true (sym c.if-same.false ∙ c.same.ensures.1 (c.deref.ensures ∙ sym c.as_str.ensures.value ∙ e)));
      run = λ d. other_verb seen (codes "run") words others d at c.in_default-as_str.not-run;
      check = λ d. other_verb seen (codes "check") words others d at c.in_default-as_str.not-check;
    }
