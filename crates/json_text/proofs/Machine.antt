-- A machine that goes over bytes with a stack of what is still due.
use Rattle.std.proofs.Common.{◌≡◌, ℕ, zero, suc, ◌==◌, Bool, true, false, ◌&&◌, ◌||◌, cond, List, [], ◌∷◌, ◌++◌, map, Option, Some, None, refl, ap, ◌∙◌}
use Rattle.std.proofs.lemmas.Bool.{eq-eqb, not-true}
use Rattle.std.specs.List.{list_all}
use Rattle.json_text.specs.declared.lead.Lead.{Lead}
use Rattle.json_text.specs.declared.lead.Lead.TheVariants as lead
use Rattle.json_text.specs.Grammar.{is_white, IsWhite}
use Rattle.json_text.specs.Numbers.{is_digit, is_exponent_letter}
use Rattle.json_text.specs.Strings.{is_plain, is_hex, short_escape}
use Rattle.json_text.specs.Reading.{lead_by}
use Rattle.json_text.proofs.Sequences.{two_parts}
use Rattle.json_text.proofs.Spelled.{stops}

-- what may be due, up to the end at which all stops; of a value, an item or a member with so much room for arrays and objects inside each other
pub data Due : Type 0 where
  byte : ℕ → Due
  white : Due
  value : ℕ → Due
  int : Due
  digits : Due
  digit : Due
  point : Due
  letter : Due
  sign : Due
  chars : Due
  escape : Due
  hex : Due
  item : ℕ → Due
  items : ℕ → Due
  member : ℕ → Due
  members : ℕ → Due
  stop : Due

-- what a byte does to it
pub data Act : Type 0 where
  takes : List Due → Act
  skips : Act
  refuses : Act

-- what is due behind the first byte of a value
abbrev pub opened : Lead → ℕ → ℕ → Option (List Due)
opened lead.Quote b r = Some (chars ∷ [])
opened lead.Brace b zero = None
opened lead.Brace b (suc r) = Some (white ∷ member r ∷ [])
opened lead.Bracket b zero = None
opened lead.Bracket b (suc r) = Some (white ∷ item r ∷ [])
opened lead.True b r = Some (byte 114 ∷ byte 117 ∷ byte 101 ∷ [])
opened lead.False b r = Some (byte 97 ∷ byte 108 ∷ byte 115 ∷ byte 101 ∷ [])
opened lead.Null b r = Some (byte 117 ∷ byte 108 ∷ byte 108 ∷ [])
opened lead.Number b r = Some (cond (b == 45) (int ∷ []) (cond (b == 48) [] (digits ∷ [])) ++ point ∷ letter ∷ [])
opened lead.Other b r = None

abbrev pub taking : Option (List Due) → List Due → Act
taking None more = refuses
taking (Some due) more = takes (due ++ more)

abbrev pub escaping : Option ℕ → Act
escaping None = refuses
escaping (Some c) = takes []

-- behind the name of a member
abbrev pub named : ℕ → List Due
named r = white ∷ byte 58 ∷ white ∷ value r ∷ white ∷ members r ∷ []

abbrev pub react : Due → ℕ → Act
react (byte w) b = cond (b == w) (takes []) refuses
react white b = cond (is_white b) (takes (white ∷ [])) skips
react (value r) b = taking (opened (lead_by b) b r) []
react int b = cond (b == 48) (takes []) (cond (is_digit b) (takes (digits ∷ [])) refuses)
react digits b = cond (is_digit b) (takes (digits ∷ [])) skips
react digit b = cond (is_digit b) (takes (digits ∷ [])) refuses
react point b = cond (b == 46) (takes (digit ∷ [])) skips
react letter b = cond (is_exponent_letter b) (takes (sign ∷ [])) skips
react sign b = cond ((b == 43) || (b == 45)) (takes (digit ∷ [])) (cond (is_digit b) (takes (digits ∷ [])) refuses)
react chars b = cond (b == 34) (takes [])
    (cond (b == 92) (takes (escape ∷ chars ∷ [])) (cond (is_plain b) (takes (chars ∷ [])) refuses))
react escape b = cond (b == 117) (takes (hex ∷ hex ∷ hex ∷ hex ∷ [])) (escaping (short_escape b))
react hex b = cond (is_hex b) (takes []) refuses
react (item r) b = cond (b == 93) (takes []) (taking (opened (lead_by b) b r) (white ∷ items r ∷ []))
react (items r) b = cond (b == 44) (takes (white ∷ value r ∷ white ∷ items r ∷ [])) (cond (b == 93) (takes []) refuses)
react (member r) b = cond (b == 125) (takes []) (cond (b == 34) (takes (chars ∷ named r)) refuses)
react stop b = refuses
react (members r) b = cond (b == 44) (takes (white ∷ byte 34 ∷ chars ∷ named r)) (cond (b == 125) (takes []) refuses)

-- it may be left out at the end
abbrev pub may_end : Due → Bool
may_end white = true
may_end digits = true
may_end point = true
may_end letter = true
may_end stop = true
may_end _ = false

abbrev acts : Act → (List Due → Bool) → List Due → Bool → Bool
acts (takes due) go stack skipped = go (due ++ stack)
acts skips go stack skipped = skipped
acts refuses go stack skipped = false

unfoldable pub feed : (List Due → Bool) → ℕ → List Due → Bool
feed go b [] = false
feed go b (x ∷ stack) = acts (react x b) go stack (feed go b stack)

-- the bytes are what is due
unfoldable pub accepts : List ℕ → List Due → Bool
accepts [] stack = list_all may_end stack
accepts (b ∷ bytes) stack = feed (λ s. accepts bytes s) b stack

pub taken : (x : Due) (b : ℕ) (due : List Due) (bytes : List ℕ) (stack : List Due) → react x b ≡ takes due →
    accepts (b ∷ bytes) (x ∷ stack) ≡ accepts bytes (due ++ stack)
unfolding accepts feed
taken x b due bytes stack e =
    ap (λ (a : Act). acts a (λ s. accepts bytes s) stack (feed (λ s. accepts bytes s) b stack)) e

pub skipped : (x : Due) (b : ℕ) (bytes : List ℕ) (stack : List Due) → react x b ≡ skips →
    accepts (b ∷ bytes) (x ∷ stack) ≡ accepts (b ∷ bytes) stack
unfolding accepts feed
skipped x b bytes stack e = ap (λ (a : Act). acts a (λ s. accepts bytes s) stack (feed (λ s. accepts bytes s) b stack))
    e

pub refused : (x : Due) (b : ℕ) (bytes : List ℕ) (stack : List Due) → react x b ≡ refuses →
    accepts (b ∷ bytes) (x ∷ stack) ≡ false
unfolding accepts feed
refused x b bytes stack e = ap (λ (a : Act). acts a (λ s. accepts bytes s) stack (feed (λ s. accepts bytes s) b stack))
    e

pub too_long : (b : ℕ) (bytes : List ℕ) → accepts (b ∷ bytes) [] ≡ false
unfolding accepts feed
too_long b bytes = refl

pub ended : (x : Due) (stack : List Due) → may_end x ≡ true → accepts [] (x ∷ stack) ≡ accepts [] stack
unfolding accepts
ended x stack e = ap (λ (t : Bool). t && list_all may_end stack) e

pub missing : (x : Due) (stack : List Due) → may_end x ≡ false → accepts [] (x ∷ stack) ≡ false
unfolding accepts
missing x stack e = ap (λ (t : Bool). t && list_all may_end stack) e

pub nothing_due : accepts [] [] ≡ true
unfolding accepts
nothing_due = refl

-- ---- what is due none or more times

skip_by : (x : Due) (p : ℕ → Bool) (bytes : List ℕ) (stack : List Due) → may_end x ≡ true →
    ((b : ℕ) → p b ≡ false → react x b ≡ skips) →
    stops p bytes ≡ true → accepts bytes (x ∷ stack) ≡ accepts bytes stack
skip_by x p [] stack e skip s = ended x stack e
skip_by x p (b ∷ bytes) stack e skip s = skipped x b bytes stack (skip b (not-true (p b) s))

run_by : (x : Due) (p : ℕ → Bool) (run bytes : List ℕ) (stack : List Due) →
    ((b : ℕ) → p b ≡ true → react x b ≡ takes (x ∷ [])) →
    list_all p run ≡ true → accepts (run ++ bytes) (x ∷ stack) ≡ accepts bytes (x ∷ stack)
run_by x p [] bytes stack take h = refl
run_by x p (b ∷ run) bytes stack take h =
    let k = two_parts (p b) (list_all p run) h in
    taken x b (x ∷ []) (run ++ bytes) stack (take b k.0) ∙ run_by x p run bytes stack take k.1

pub white_skip : (bytes : List ℕ) (stack : List Due) → stops is_white bytes ≡ true →
    accepts bytes (white ∷ stack) ≡ accepts bytes stack
white_skip bytes stack s = skip_by white is_white bytes stack refl (λ b e. rw e refl) s

pub white_run : (run bytes : List ℕ) (stack : List Due) → IsWhite run → accepts (run ++ bytes) (white ∷ stack) ≡ accepts
    bytes (white ∷ stack)
white_run run bytes stack h = run_by white is_white run bytes stack (λ b e. rw e refl) h

pub digits_skip : (bytes : List ℕ) (stack : List Due) → stops is_digit bytes ≡ true →
    accepts bytes (digits ∷ stack) ≡ accepts bytes stack
digits_skip bytes stack s = skip_by digits is_digit bytes stack refl (λ b e. rw e refl) s

pub digits_run : (run bytes : List ℕ) (stack : List Due) → list_all is_digit run ≡ true → stops is_digit bytes ≡ true →
    accepts (run ++ bytes) (digits ∷ stack) ≡ accepts bytes stack
digits_run run bytes stack h s = run_by digits is_digit run bytes stack (λ b e. rw e refl) h ∙ digits_skip bytes stack s

pub point_skip : (bytes : List ℕ) (stack : List Due) → stops (λ b. b == 46) bytes ≡ true →
    accepts bytes (point ∷ stack) ≡ accepts bytes stack
point_skip bytes stack s = skip_by point (λ b. b == 46) bytes stack refl (λ b e. rw e refl) s

pub letter_skip : (bytes : List ℕ) (stack : List Due) → stops is_exponent_letter bytes ≡ true →
    accepts bytes (letter ∷ stack) ≡ accepts bytes stack
letter_skip bytes stack s = skip_by letter is_exponent_letter bytes stack refl (λ b e. rw e refl) s

-- ---- words

pub byte_run : (b : ℕ) (bytes : List ℕ) (stack : List Due) → accepts (b ∷ bytes) (byte b ∷ stack) ≡ accepts bytes stack
byte_run b bytes stack = taken (byte b) b [] bytes stack (rw (eq-eqb b b refl) refl)

pub word_run : (word bytes : List ℕ) (stack : List Due) → accepts (word ++ bytes) (map byte word ++ stack) ≡ accepts
    bytes stack
word_run [] bytes stack = refl
word_run (b ∷ word) bytes stack = byte_run b (word ++ bytes) (map byte word ++ stack) ∙ word_run word bytes stack
