use Rattle.std.proofs.Common.{rules, arith, ◌≡◌, ◌+◌, ◌++◌, ◌∷◌, [], Some, None, sym, ap, ◌∙◌, append_assoc, append-nil, length-append, length, chars}
use Rattle.std.proofs.lemmas.Str.{IsUtf8-past_char, chars_past_char, length-encode}
use Rattle.std.proofs.StrCases.{chars_of_empty}
use Rattle.std.proofs.Math.Utf8.{encode}
use Rattle.std.specs.Str.Iter.{chars_rest}
use Rattle.doc_meaning.specs.Words.{is_word_char, spans, words}
use Rattle.doc_tokens.proofs.WordsLemmas.{opened, told_word, told_end, told_pass}
use Rattle.doc_tokens.proofs.spans.words.Goals as goal
use Rattle.doc_tokens.proofs.spans.words.Goals.{then-is_word_char, else-is_word_char+in-Some-start+in_ok-push, else-is_word_char+in_default, in-Some-start-2+in_ok-push-2, in_default-start}

pub loop-c-init : goal.loop-c-init
unfolding words
loop-c-init c = record {
  text = search rules;
  place = search rules;
  told = rw (c.new-out.ensures.items, c.into_iter-c-iterator.ensures.into_iter_gives, c.chars-c-items.ensures.rest);
}

pub loop-c-preserved : goal.loop-c-preserved
loop-c-preserved c =
    let held = c.loop-c.invariant in
    let parts = c.in-Some.ensures.steps.0 in
    let told = rw (chars_past_char _ _ c.in-Some.c held.text parts) at held.told in
    let size = c.len_utf8-at.ensures.value in
    record {
      text = IsUtf8-past_char _ _ c.in-Some.c held.text parts;
      place = omega (
        arith,
        held.place,
        ap length parts,
        length-append (encode c.in-Some.c)
            (chars_rest c.next.new.self),
        length-encode c.in-Some.c,
        size,
      );
      told = elim c.if-is_word_char.branch [
        | then-is_word_char w ↦ rw w.out-is (told_word _ _ _ _ _ c.in-Some.c _ _ told size
            (sym c.is_word_char.ensures ∙ w.if-is_word_char.true) (w.start-is ∙ ap Some w.unwrap_or.ensures))
        | else-is_word_char+in-Some-start+in_ok-push w ↦
            told_end _ _ _ _ _ _ _ c.in-Some.c _ _ told size (sym c.is_word_char.ensures ∙ w.if-is_word_char.false)
            w.in-Some-start.is w.start-is
            (ap (λ v. v.items) w.out-is ∙ w.in_ok-push.ensures.items)
        | else-is_word_char+in_default w ↦
            rw w.out-is (told_pass _ _ _ _ _ c.in-Some.c _ _ told size (sym c.is_word_char.ensures ∙
            w.if-is_word_char.false) w.in_default.is w.start-is)
      ];
    }

pub returns : goal.returns
returns c =
    let told = rw (chars_of_empty _ c.in-None.ensures.steps.0.0) at c.loop-c.invariant.told in
    elim c.match-start-2.branch [
      | in-Some-start-2+in_ok-push-2 w ↦ ap (λ v. v.items) w.out-is ∙ w.in_ok-push-2.ensures.items ∙
          (rw w.in-Some-start-2.is at told)
      | in_default-start w ↦ ap (λ v. v.items) w.out-is ∙ sym (append-nil _) ∙ (rw w.in_default-start.is at told)
    ]
