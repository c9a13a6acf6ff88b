-- A line is read in no other way.
use Rattle.std.proofs.Common.{◌≡◌, ◌≢◌, ◌⊎◌, inl, inr, ℕ, List, [], Option, Some, None, Result, Ok, Err, refl, sym, ap, ◌∙◌, subst}
use Rattle.transcript.specs.Commands.{Asks}
use Rattle.transcript.specs.Forms.{HasForm}
use Rattle.transcript.specs.Refusals.{ComesLater}
use Rattle.transcript.specs.declared.command.Command.{Command}
use Rattle.transcript.specs.declared.command.Command.TheVariants as command
use Rattle.client_lines.specs.Laws.{OneReadingIsHad}
use Rattle.client_lines.specs.Lines.{OnlyReads, Reads}
use Rattle.client_lines.specs.Readings.{ReadsCommand}
use Rattle.client_lines.specs.declared.refusal.LineRefusal.{LineRefusal}
use Rattle.client_lines.specs.declared.refusal.LineRefusal.TheVariants as refusal
use Rattle.client_lines.proofs.FormLemmas.{no_empty_form}
use Rattle.client_lines.proofs.OneReading.{way_same}
use Rattle.client_lines.proofs.Ways.{Reading, Way, way_of}
use Rattle.client_lines.proofs.Ways as way

command_same : (line : List ℕ) (r s : Reading) → r ≢ Err refusal.Memory → s ≢ Err refusal.Memory →
    ReadsCommand line r → ReadsCommand line s → r ≡ s
command_same line r s r_not s_not one two = way_same line r s (way_of line r r_not one) (way_of line s s_not two)

way_asks : (asked : Command) → Way [] (Ok asked) → ⊥
way_asks asked (way.not_utf8 place valid is) = absurd cc
way_asks asked (way.no_form place utf8 none longest is) = absurd cc
way_asks asked (way.formed f has told) = no_empty_form f has

-- an empty line asks nothing, and has no form
asks_some : (line : List ℕ) (asked : Command) → Asks line asked → line ≢ []
asks_some line asked asks is =
    way_asks asked (way_of [] (Ok asked) (λ e. cc) (subst (λ (l : List ℕ). Asks l asked) is asks))

later_some : (line : List ℕ) → ComesLater line → line ≢ []
later_some line (f, has, later) is = no_empty_form f (subst (λ (l : List ℕ). HasForm l f) is has)

abbrev pub Answer : Type 0
Answer = Result (Option Command) LineRefusal

abbrev lift : Reading → Answer
lift (Ok asked) = Ok (Some asked)
lift (Err why) = Err why

-- an empty line, or one that is read as this
abbrev Seen : List ℕ → Answer → Type 0
Seen line r =
    ((line ≡ []) × (r ≡ Ok None))
    ⊎ ((q : Reading) × ReadsCommand line q × (q ≢ Err refusal.Memory) × (r ≡ lift q) × (line ≢ []))

seen : (line : List ℕ) (r : Answer) → r ≢ Err refusal.Memory → Reads line r → Seen line r
seen line (Ok None) memory reads = inl (reads, refl)
seen line (Ok (Some asked)) memory reads = inr (Ok asked, reads, λ e. cc, refl, asks_some line asked reads)
seen line (Err (refusal.Bad kind place)) memory reads =
    inr (Err (refusal.Bad kind place), reads.1, λ e. cc, refl, reads.0)
seen line (Err refusal.Later) memory reads = inr (Err refusal.Later, reads, λ e. cc, refl, later_some line reads)
seen line (Err refusal.Memory) memory reads = absurd (memory refl)

seen_same : (line : List ℕ) (r s : Answer) → Seen line r → Seen line s → r ≡ s
seen_same line r s (inl (empty, r_is)) (inl (empty', s_is)) = r_is ∙ sym s_is
seen_same line r s (inl (empty, r_is)) (inr (p, two, not, s_is, some)) = absurd (some empty)
seen_same line r s (inr (q, one, not, r_is, some)) (inl (empty, s_is)) = absurd (some empty)
seen_same line r s (inr (q, one, not, r_is, some)) (inr (p, two, not', s_is, some')) =
    r_is ∙ ap lift (command_same line q p not not' one two) ∙ sym s_is

pub one_reading_is_had : OneReadingIsHad
one_reading_is_had line a b a_not b_not one two =
    seen_same line a b (seen line a a_not one) (seen line b b_not two)

-- a line that asks anything else doesn't ask to quit
pub asks_no_quit : (line : List ℕ) (asked : Command) → Asks line asked → asked ≢ command.Quit →
    Asks line command.Quit → ⊥
asks_no_quit line asked asks differs quits =
    let same = one_reading_is_had line (Ok (Some asked)) (Ok (Some command.Quit)) (λ e. cc) (λ e. cc) asks quits in
    differs (cc)

memory_or_not : (r : Answer) → (r ≡ Err refusal.Memory) ⊎ (r ≢ Err refusal.Memory)
memory_or_not (Ok asked) = inr (λ e. cc)
memory_or_not (Err (refusal.Bad kind place)) = inr (λ e. cc)
memory_or_not (Err refusal.Later) = inr (λ e. cc)
memory_or_not (Err refusal.Memory) = inl refl

only_by : (line : List ℕ) (result : Answer) → (result ≡ Err refusal.Memory) ⊎ (result ≢ Err refusal.Memory) →
    Reads line result → OnlyReads line result
only_by line result (inl memory) reads other not two = inr memory
only_by line result (inr some) reads other not two =
    inl (one_reading_is_had line result other some not reads two)

pub only_reads : (line : List ℕ) (result : Answer) → Reads line result → OnlyReads line result
only_reads line result = only_by line result (memory_or_not result)
