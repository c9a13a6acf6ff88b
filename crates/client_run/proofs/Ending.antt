-- A session at its end.
use Rattle.std.proofs.Common.{inl, inr, ◌⊎◌, ◌≡◌, ◌<◌, ◌≤◌, ◌+◌, ◌++◌, ◌∷◌, [], ℕ, List, Option, Some, Bool, IsTrue, IsFalse, ◌≢◌, length, take, zero, suc, arith, sym, ap, refl, ◌∙◌, subst, append_assoc, append-nil, length-append}
use Rattle.std.proofs.KnownBytes.{Appends-nil, Appends-trans, Consumes-nil}
use Rattle.std.proofs.lemmas.List.{length-map}
use Rattle.std.proofs.lemmas.List.Elements.{All-append}
use Rattle.std.proofs.lemmas.Option.{slice_get_within, get_or_from_slice_get}
use Rattle.std.specs.Io.KnownBytes.{Consumes, Appends, IsAtEnd}
use Rattle.std.specs.List.{All, slice_get}
use Rattle.client_run.proofs.Cutting.{cut_here, cut_behind}
use Rattle.client_run.proofs.Steps.{single, exchange, lines_more, texts_more, together_more, spelled_more, answers_more}
use Rattle.client_run.specs.Closing.{Tears, Closes}
use Rattle.client_run.specs.Reading.{ReaderState, Finds}
use Rattle.client_run.specs.Serving.{Start, Point, point, SoFar, WholeSession, Stays, IsEnded}
use Rattle.client_run.specs.declared.find.Find.TheVariants.{More}
use Rattle.client_run.specs.Sessions.{Relation, AnswersLine, Exchange, lines_of, texts_of, Serves}
use Rattle.transcript.specs.Lines.{Line, ended, last, content, with_feed, IsLine, BeginsWithLines, IsPastLimits}
use Rattle.transcript.specs.Texts.{text_of}
use Rattle.transcript.specs.Transcript.{Ends, AllStay, LastQuits, AsksQuit, IsOver, text_of_answer, together}
use Rattle.transcript.specs.declared.reply.Reply.{Reply}
use Rattle.transcript.specs.declared.reply.Reply.TheVariants as reply
use Rattle.transcript.specs.declared.session_end.SessionEnd.{SessionEnd}
use Rattle.transcript.specs.declared.session_end.SessionEnd.TheVariants as end
use Rattle.transcript.specs.declared.limits.TheConstants.{MAX_LINES}

all_lines : (lines : List Line) → All Stays lines → All IsLine lines
all_lines lines stay k d lt = (stay k d lt).is_line

all_stay : (lines : List Line) → All Stays lines → AllStay lines
all_stay lines stay k d lt = (stay k d lt).stays

none_last : (lines : List Line) → All Stays lines → (k : ℕ) (bytes : List ℕ) → slice_get lines k ≡ Some (last bytes) →
    ⊥
none_last lines stay k bytes is =
    let within : k < length lines = slice_get_within lines k (last bytes) is in
    subst IsEnded (get_or_from_slice_get lines k (last bytes) (last bytes) is) ((stay k (last bytes) within).ended)

-- only the last of all lacks its line feed, where the source told its end
abbrev OnlyLast : List Line → List ℕ → Bool → Type 0
OnlyLast lines behind over =
    (k : ℕ) (bytes : List ℕ) → slice_get lines k ≡ Some (last bytes) → (k + 1 ≡ length lines) × (behind ≡ []) ×
    (0 < length bytes) × IsTrue over

-- a line that may be the last before these bytes
abbrev pub MayEnd : Line → List ℕ → Bool → Type 0
MayEnd (ended bytes) behind over = Unit {0}
MayEnd (last bytes) behind over = (behind ≡ []) × (0 < length bytes) × IsTrue over

only_last : (lines : List Line) (line : Line) (behind : List ℕ) (over : Bool) → All Stays lines →
    MayEnd line behind over → OnlyLast (lines ++ line ∷ []) behind over
only_last [] (ended bytes) behind over stay may zero bytes' is = absurd (cc)
only_last [] (last bytes) behind over stay may zero bytes' is =
    let same : bytes ≡ bytes' = cc in
    (refl, may.0, subst (λ (x : List ℕ). 0 < length x) same may.1, may.2)
only_last [] line behind over stay may (suc k) bytes' is = absurd (cc)
only_last (first ∷ lines) line behind over stay may zero bytes' is =
    absurd (none_last (first ∷ lines) stay zero bytes' is)
only_last (first ∷ lines) line behind over stay may (suc k) bytes' is =
    let (at, none, some, told) = only_last lines line behind over (λ k d lt. stay (suc k) d (omega arith)) may k
    bytes' is in
    (omega (arith, at), none, some, told)

module _ {S : Type 0} (answers : Relation S) (first : Start S) (s : S) (l w : Option (List ℕ)) (waits : List ℕ)
    (h : ReaderState) (count : ℕ)
    (so : SoFar answers first (point s l w waits h) count) where
  abbrev lines : List Line
  lines = lines_of so.exchanges

  abbrev texts : List (List ℕ)
  texts = texts_of so.exchanges

  counted : length lines ≡ count
  counted = length-map {A = Exchange} {B = Line} so.exchanges (λ e. e.line) ∙ so.counted

  whole : (bytes : List ℕ) → so.output ++ (waits ++ bytes) ≡ together texts ++ bytes
  whole bytes = sym (append_assoc so.output waits bytes) ∙ ap (λ (x : List ℕ). x ++ bytes) so.sent

  -- with no line more
  here : count ≤ MAX_LINES → (w' : Option (List ℕ)) (waits' more : List ℕ) (h' : ReaderState) (how : SessionEnd) →
      Appends w w' more → Ends how lines h.pending texts (so.output ++ more)
      → (how ≡ end.End → IsTrue h.over) → (how ≡ end.ReadFault → IsFalse h.over) →
      WholeSession answers first (point s l w' waits' h') how
  here few w' waits' more h' how went ends at_end at_fault = record {
    input = so.input;
    output = so.output ++ more;
    came = so.came;
    went = Appends-trans first.written w w' so.output more so.went went;
    over = h.over;
    at_end = so.at_end;
    serves = record {
      exchanges = so.exchanges;
      behind = h.pending;
      lines = record {
        spelled = so.spelled;
        each = all_lines lines so.stay;
        few = omega (arith, counted, few);
        only_last = λ k bytes is. absurd (none_last lines so.stay k bytes is);
      };
      is_over = record {
        at_end = at_end;
        at_last = λ k bytes is. absurd (none_last lines so.stay k bytes is);
        at_fault = at_fault;
      };
      replies = so.replies;
      ends = ends;
    };
  }

  pub at_write_fault : count ≤ MAX_LINES → (w' : Option (List ℕ)) (waits' : List ℕ) (h' : ReaderState) →
      Tears waits w w' [] → WholeSession answers first (point s l w' waits' h') end.WriteFault
  at_write_fault few w' waits' h' (n, went, some) =
      here few w' waits' (take n (waits ++ [])) h' end.WriteFault went
      (inl (inl (all_stay lines so.stay), cut_here texts so.output waits so.sent so.room n some))
      (λ is. absurd (cc)) (λ is. absurd (cc))

  pub at_end : count ≤ MAX_LINES → (w' : Option (List ℕ)) (waits' : List ℕ) (h' : ReaderState) (how : SessionEnd) →
      h.pending ≡ [] → h.over ≡ Bool.true → Closes end.End how waits w w' [] →
      WholeSession answers first (point s l w' waits' h') how
  at_end few w' waits' h' how none over (inl (is, went)) =
      subst (λ (how : SessionEnd). WholeSession answers first (point s l w' waits' h') how) (sym is)
      (here few w' waits' (waits ++ []) h' end.End went (
        all_stay lines so.stay,
        none,
        whole [] ∙
            append-nil (together texts),
      ) (λ same. over) (λ same. absurd (cc)))
  at_end few w' waits' h' how none over (inr (is, tears)) =
      subst (λ (how : SessionEnd). WholeSession answers first (point s l w' waits' h') how) (sym is)
      (at_write_fault few w' waits' h' tears)

  pub at_read_fault : count ≤ MAX_LINES → (h' : ReaderState) → waits ≡ [] → Finds h More →
      WholeSession answers first (point s l w waits h') end.ReadFault
  at_read_fault few h' none (clean, fits, going) =
      here few w waits [] h' end.ReadFault (Appends-nil w) (all_stay lines so.stay, clean, fits, output)
      (λ is. absurd (cc)) (λ is. going)
    where
      output : so.output ++ [] ≡ together texts
      output = ap (λ (x : List ℕ). so.output ++ x) (sym none) ∙ so.sent

  pub at_long : count ≤ MAX_LINES → (w' : Option (List ℕ)) (waits' : List ℕ) (h' : ReaderState) (how : SessionEnd) →
      IsPastLimits lines h.pending → Closes end.Long how waits w w' (text_of reply.Long)
      → WholeSession answers first (point s l w' waits' h') how
  at_long few w' waits' h' how past (inl (is, went)) =
      subst (λ (how : SessionEnd). WholeSession answers first (point s l w' waits' h') how) (sym is)
      (here few w' waits' (waits ++ text_of reply.Long) h' end.Long went (
        all_stay lines so.stay,
        past,
        whole (text_of reply.Long),
      ) (λ same. absurd (cc)) (λ same. absurd (cc)))
  at_long few w' waits' h' how past (inr (is, (n, went, some))) =
      subst (λ (how : SessionEnd). WholeSession answers first (point s l w' waits' h') how) (sym is)
      (here few w' waits' (take n (waits ++ text_of reply.Long)) h' end.WriteFault went
      (inr (
        all_stay lines so.stay,
        past,
        cut_behind texts so.output waits so.sent so.room (text_of reply.Long) n
            some,
      ))
      (λ same. absurd (cc)) (λ same. absurd (cc)))

  -- more lines than a session may have
  pub one_too_many : MAX_LINES ≤ count → count ≤ MAX_LINES → 0 < length h.pending → IsPastLimits lines h.pending
  one_too_many most few some = inr (omega (arith, counted, most, few), some)

  -- with one line more
  module _ (fits : count < MAX_LINES) (s' : S) (line : Line) (answer : Option Reply) (rest : List ℕ)
      (is_line : IsLine line) (may : MayEnd line rest h.over) (spelled_so : h.pending ≡ with_feed line ++ rest)
      (is : AnswersLine answers s (content line) answer s') where
    abbrev text : List ℕ
    text = text_of_answer answer

    last_of_all : OnlyLast (lines ++ line ∷ []) rest h.over
    last_of_all = only_last lines line rest h.over so.stay may

    begins : BeginsWithLines so.input (lines ++ line ∷ []) rest
    begins = record {
      spelled = spelled_more so.input lines line h.pending rest so.spelled spelled_so;
      each = All-append IsLine lines (line ∷ []) (all_lines lines so.stay) (single IsLine line is_line);
      few = omega (arith, counted, fits, length-append lines (line ∷ []));
      only_last = λ k bytes is. let (at, none, some, told) = last_of_all k bytes is in (at, none, some);
    }

    is_over : (how : SessionEnd) → how ≢ end.ReadFault → (how ≡ end.End → IsTrue h.over) →
        IsOver how (lines ++ line ∷ []) h.over
    is_over how no_fault at_end = record {
      at_end = at_end;
      at_last = λ k bytes is. let (at, none, some, told) = last_of_all k bytes is in told;
      at_fault = λ is. absurd (no_fault is);
    }

    behind : (w' : Option (List ℕ)) (waits' more : List ℕ) (h' : ReaderState) (how : SessionEnd) → Appends w w' more →
        Ends how (lines ++ line ∷ []) rest (texts ++ text ∷ []) (so.output ++ more)
        → how ≢ end.ReadFault → (how ≡ end.End → IsTrue h.over) → WholeSession answers first (point s' l w' waits' h') how
    behind w' waits' more h' how went ends no_fault at_end = record {
      input = so.input;
      output = so.output ++ more;
      came = so.came;
      went = Appends-trans first.written w w' so.output more so.went went;
      over = h.over;
      at_end = so.at_end;
      serves = record {
        exchanges = so.exchanges ++ exchange line answer ∷ [];
        behind = rest;
        lines = subst (λ (ls : List Line). BeginsWithLines so.input ls rest) (sym (lines_more so.exchanges line answer))
            begins;
        is_over = subst (λ (ls : List Line). IsOver how ls h.over) (sym (lines_more so.exchanges line answer))
            (is_over how no_fault at_end);
        replies = answers_more answers first.service s s' so.exchanges line answer so.replies is;
        ends = subst (λ (ls : List Line). Ends how ls rest (texts_of (so.exchanges ++ exchange line answer ∷ []))
            (so.output ++ more)) (sym (lines_more so.exchanges line answer))
            (subst (λ (x : List (List ℕ)). Ends how (lines ++ line ∷ []) rest x (so.output ++ more))
            (sym (texts_more so.exchanges line answer)) ends);
      };
    }

    all_out : so.output ++ (waits ++ text) ≡ together (texts ++ text ∷ [])
    all_out = whole text ∙ sym (together_more texts text)

    more_stay : (AsksQuit line → ⊥) → AllStay (lines ++ line ∷ [])
    more_stay stays = All-append (λ (line : Line). AsksQuit line → ⊥) lines (line ∷ []) (all_stay lines so.stay)
        (single (λ (line : Line). AsksQuit line → ⊥) line stays)

    quits : AsksQuit line → LastQuits (lines ++ line ∷ [])
    quits asks = (lines, line, refl, all_stay lines so.stay, asks)

    pub behind_quit : (w' : Option (List ℕ)) (waits' : List ℕ) (h' : ReaderState) → AsksQuit line →
        Appends w w' (waits ++ text) → WholeSession answers first (point s' l w' waits' h') end.Quit
    behind_quit w' waits' h' asks went =
        behind w' waits' (waits ++ text) h' end.Quit went (quits asks, all_out) (λ same. absurd (cc))
        (λ same. absurd (cc))

    cut : (AllStay (lines ++ line ∷ []) ⊎ LastQuits (lines ++ line ∷ [])) → (w' : Option (List ℕ)) (waits' : List ℕ)
        (h' : ReaderState) → Tears waits w w' text → WholeSession answers first (point s' l w' waits' h') end.WriteFault
    cut stay w' waits' h' (n, went, some) =
        behind w' waits' (take n (waits ++ text)) h' end.WriteFault went
        (inl (stay, cut_behind texts so.output waits so.sent so.room text n some)) (λ same. absurd (cc))
        (λ same. absurd (cc))

    pub behind_write_fault : (w' : Option (List ℕ)) (waits' : List ℕ) (h' : ReaderState) →
        ((AsksQuit line → ⊥) ⊎ AsksQuit line) → Tears waits w w' text → WholeSession answers first (point s' l w' waits' h')
        end.WriteFault
    behind_write_fault w' waits' h' (inl stays) tears = cut (inl (more_stay stays)) w' waits' h' tears
    behind_write_fault w' waits' h' (inr asks) tears = cut (inr (quits asks)) w' waits' h' tears

    pub behind_last : (w' : Option (List ℕ)) (waits' : List ℕ) (h' : ReaderState) (how : SessionEnd) → (AsksQuit line → ⊥) →
        rest ≡ [] → h.over ≡ Bool.true → Closes end.End how waits w w' text →
        WholeSession answers first (point s' l w' waits' h') how
    behind_last w' waits' h' how stays none over (inl (is_end, went)) =
        subst (λ (how : SessionEnd). WholeSession answers first (point s' l w' waits' h') how) (sym is_end)
        (behind w' waits' (waits ++ text) h' end.End went (more_stay stays, none, all_out) (λ same. absurd (cc))
        (λ same. over))
    behind_last w' waits' h' how stays none over (inr (is_fault, tears)) =
        subst (λ (how : SessionEnd). WholeSession answers first (point s' l w' waits' h') how) (sym is_fault)
        (behind_write_fault w' waits' h' (inl stays) tears)

-- what a session did, from outside
abbrev pub Did : {S : Type 0} → Relation S → S → S → (l l' w w' : Option (List ℕ)) → SessionEnd → Type 0
Did answers old new l l' w w' how =
    (input : List ℕ) × (output : List ℕ) × (over : Bool) × Consumes l l' input × Appends w w' output ×
    (IsTrue over → IsAtEnd l') × Serves answers old new input output how over

-- a session without memory reads nothing
pub no_memory : {S : Type 0} (answers : Relation S) (s : S) (l w : Option (List ℕ)) →
    Did answers s s l l w w end.Memory
no_memory answers s l w = (
  [],
  [],
  Bool.false,
  Consumes-nil l,
  Appends-nil w,
  λ told. absurd (cc),
  record {
    exchanges = [];
    behind = [];
    lines = record {
      spelled = refl;
      each = λ k d lt. absurd (omega arith);
      few = omega arith;
      only_last =
          λ k bytes is. absurd (cc);
    };
    is_over = record { at_end = λ is. absurd (cc); at_last = λ k bytes is. absurd (cc); at_fault = λ is. refl };
    replies = refl;
    ends = (refl, refl, refl);
  },
)

-- a whole session, as its parts
pub parts : {S : Type 0} (answers : Relation S) (first : Start S) (now : Point S) (how : SessionEnd) →
    WholeSession answers first now how
    → Did answers first.service now.service first.left now.left first.written now.written how
parts answers first now how served = (
  served.input,
  served.output,
  served.over,
  served.came,
  served.went,
  served.at_end,
  served.serves,
)
