-- How lines of each form begin.
use Rattle.std.proofs.Common.{◌≡◌, ◌≢◌, ℕ, ◌<◌, ◌≤◌, List, [], length, get_or, refl, sym, ap, ◌∙◌, subst, codes, arith}
use Rattle.std.proofs.lemmas.Str.{IsUtf8-from_ascii}
use Rattle.std.proofs.lemmas.Str.Ascii.{IsAscii-cons, IsAscii-nil}
use Rattle.std.specs.Str.{IsUtf8}
use Rattle.transcript.specs.Forms.{Form, Fits, HasForm, form_text, words_before}
use Rattle.transcript.specs.Forms as form
use Rattle.transcript.specs.declared.command.When.TheVariants.{Front}

-- the first byte of a line of the form
abbrev first_byte : Form → ℕ
first_byte (form.put uri json) = 0x70
first_byte (form.remove uri) = 0x72
first_byte (form.commit json) = 0x63
first_byte (form.get when uri) = 0x67
first_byte (form.search when json) = 0x73
first_byte (form.estimate when json) = 0x65
first_byte form.stamp = 0x73
first_byte (form.forget to) = 0x66
first_byte form.pin = 0x70
first_byte form.unpin = 0x75
first_byte form.save = 0x73
first_byte form.merge = 0x6D
first_byte form.revive = 0x72
first_byte form.quit = 0x71

begins_so : (f : Form) → get_or (form_text f) 0 0 ≡ first_byte f
begins_so (form.put uri json) = refl
begins_so (form.remove uri) = refl
begins_so (form.commit json) = refl
begins_so (form.get when uri) = refl
begins_so (form.search when json) = refl
begins_so (form.estimate when json) = refl
begins_so form.stamp = refl
begins_so (form.forget to) = refl
begins_so form.pin = refl
begins_so form.unpin = refl
begins_so form.save = refl
begins_so form.merge = refl
begins_so form.revive = refl
begins_so form.quit = refl

some_byte : (f : Form) → 0 < first_byte f
some_byte (form.put uri json) = omega arith
some_byte (form.remove uri) = omega arith
some_byte (form.commit json) = omega arith
some_byte (form.get when uri) = omega arith
some_byte (form.search when json) = omega arith
some_byte (form.estimate when json) = omega arith
some_byte form.stamp = omega arith
some_byte (form.forget to) = omega arith
some_byte form.pin = omega arith
some_byte form.unpin = omega arith
some_byte form.save = omega arith
some_byte form.merge = omega arith
some_byte form.revive = omega arith
some_byte form.quit = omega arith

-- a line of a form has the form's first byte
begins : (line : List ℕ) (f : Form) → line ≡ form_text f → get_or line 0 0 ≡ first_byte f
begins line f is = ap (λ (l : List ℕ). get_or l 0 0) is ∙ begins_so f

-- an empty line has no form
pub no_empty_form : (f : Form) → HasForm [] f → ⊥
no_empty_form f has =
    let first : 0 ≡ first_byte f = begins [] f has.fits.1 in
    let some : 0 < first_byte f = some_byte f in
    absurd (omega (arith, first, some))

-- only `quit` begins with its first byte
only_quit : (f : Form) → 0x71 ≡ first_byte f → f ≡ form.quit
only_quit (form.put uri json) is = absurd (omega (arith, is))
only_quit (form.remove uri) is = absurd (omega (arith, is))
only_quit (form.commit json) is = absurd (omega (arith, is))
only_quit (form.get when uri) is = absurd (omega (arith, is))
only_quit (form.search when json) is = absurd (omega (arith, is))
only_quit (form.estimate when json) is = absurd (omega (arith, is))
only_quit form.stamp is = absurd (omega (arith, is))
only_quit (form.forget to) is = absurd (omega (arith, is))
only_quit form.pin is = absurd (omega (arith, is))
only_quit form.unpin is = absurd (omega (arith, is))
only_quit form.save is = absurd (omega (arith, is))
only_quit form.merge is = absurd (omega (arith, is))
only_quit form.revive is = absurd (omega (arith, is))
only_quit form.quit is = refl

-- only `stamp` begins with its first two bytes
only_stamp : (f : Form) → codes "stamp" ≡ form_text f → f ≡ form.stamp
only_stamp (form.put uri json) is = absurd (let h = begins (codes "stamp") (form.put uri json) is in omega (arith, h))
only_stamp (form.remove uri) is = absurd (let h = begins (codes "stamp") (form.remove uri) is in omega (arith, h))
only_stamp (form.commit json) is = absurd (let h = begins (codes "stamp") (form.commit json) is in omega (arith, h))
only_stamp (form.get when uri) is = absurd (let h = begins (codes "stamp") (form.get when uri) is in omega (arith, h))
only_stamp (form.search when json) is = absurd
    (let h : 0x74 ≡ 0x65 = ap (λ (l : List ℕ). get_or l 1 0) is in omega (arith, h))
only_stamp (form.estimate when json) is = absurd
    (let h = begins (codes "stamp") (form.estimate when json) is in omega (arith, h))
only_stamp form.stamp is = refl
only_stamp (form.forget to) is = absurd (let h = begins (codes "stamp") (form.forget to) is in omega (arith, h))
only_stamp form.pin is = absurd (let h = begins (codes "stamp") form.pin is in omega (arith, h))
only_stamp form.unpin is = absurd (let h = begins (codes "stamp") form.unpin is in omega (arith, h))
only_stamp form.save is = absurd (let h : 0x74 ≡ 0x61 = ap (λ (l : List ℕ). get_or l 1 0) is in omega (arith, h))
only_stamp form.merge is = absurd (let h = begins (codes "stamp") form.merge is in omega (arith, h))
only_stamp form.revive is = absurd (let h = begins (codes "stamp") form.revive is in omega (arith, h))
only_stamp form.quit is = absurd (let h = begins (codes "stamp") form.quit is in omega (arith, h))

-- a form without words before the last one, where each that the line fits is this one
no_more_words : (line : List ℕ) (f other : Form) → length (words_before f) ≡ 0 → other ≡ f →
    length (words_before other) ≤ length (words_before f)
no_more_words line f other none same = omega (arith, ap (λ (g : Form). length (words_before g)) same)

quit_utf8 : IsUtf8 (codes "quit")
quit_utf8 = IsUtf8-from_ascii (codes "quit") (IsAscii-cons 0x71 (codes "uit") (omega arith)
    (IsAscii-cons 0x75 (codes "it") (omega arith) (IsAscii-cons 0x69 (codes "t") (omega arith)
    (IsAscii-cons 0x74 [] (omega arith) IsAscii-nil))))

stamp_utf8 : IsUtf8 (codes "stamp")
stamp_utf8 = IsUtf8-from_ascii (codes "stamp") (IsAscii-cons 0x73 (codes "tamp") (omega arith)
    (IsAscii-cons 0x74 (codes "amp") (omega arith)
    (IsAscii-cons 0x61 (codes "mp") (omega arith) (IsAscii-cons 0x6D (codes "p") (omega arith)
    (IsAscii-cons 0x70 [] (omega arith) IsAscii-nil)))))

pub quit_form : (line : List ℕ) → line ≡ codes "quit" → HasForm line form.quit
quit_form line is = subst (λ (l : List ℕ). HasForm l form.quit) (sym is) (record {
  utf8 = quit_utf8;
  fits = (tt, refl);
  most = λ other fits. no_more_words (codes "quit") form.quit other refl
      (only_quit other (begins (codes "quit") other fits.1));
})

pub stamp_form : (line : List ℕ) → line ≡ codes "stamp" → HasForm line form.stamp
stamp_form line is = subst (λ (l : List ℕ). HasForm l form.stamp) (sym is) (record {
  utf8 = stamp_utf8;
  fits = (tt, refl);
  most = λ other fits. no_more_words (codes "stamp") form.stamp other refl (only_stamp other fits.1);
})

-- a line of another form isn't `quit`
not_quit : (line : List ℕ) (f : Form) → first_byte f ≢ 0x71 → HasForm line f → line ≡ codes "quit" → ⊥
not_quit line f other has is = other (sym (begins line f has.fits.1) ∙ ap (λ (l : List ℕ). get_or l 0 0) is)

pub put_not_quit : (line uri json : List ℕ) → HasForm line (form.put uri json) → line ≡ codes "quit" → ⊥
put_not_quit line uri json = not_quit line (form.put uri json) (λ e. absurd (omega (arith, e)))

pub remove_not_quit : (line uri : List ℕ) → HasForm line (form.remove uri) → line ≡ codes "quit" → ⊥
remove_not_quit line uri = not_quit line (form.remove uri) (λ e. absurd (omega (arith, e)))

pub get_not_quit : (line uri : List ℕ) → HasForm line (form.get Front uri) → line ≡ codes "quit" → ⊥
get_not_quit line uri = not_quit line (form.get Front uri) (λ e. absurd (omega (arith, e)))

pub search_not_quit : (line json : List ℕ) → HasForm line (form.search Front json) → line ≡ codes "quit" → ⊥
search_not_quit line json = not_quit line (form.search Front json) (λ e. absurd (omega (arith, e)))
