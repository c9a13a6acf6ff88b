-- A session on its way: bytes come, replies go, a line is answered.
use Rattle.std.proofs.Common.{◌≡◌, ◌<◌, ◌+◌, ◌++◌, ◌∷◌, [], ℕ, List, Option, Bool, length, zero, suc, arith, sym, ap, refl, ◌∙◌, subst, append_assoc, append-nil, length-append}
use Rattle.std.proofs.KnownBytes.{Consumes-nil, Appends-nil, Consumes-trans, Appends-trans}
use Rattle.std.proofs.lemmas.Grind.{flat_map-append}
use Rattle.std.proofs.lemmas.List.{map-append}
use Rattle.std.proofs.lemmas.List.Elements.{All-append}
use Rattle.std.specs.List.{flat_map, All}
use Rattle.client_run.proofs.Moving.{still_room}
use Rattle.client_run.specs.Closing.{Moves}
use Rattle.client_run.specs.Reading.{ReaderState, Gathers}
use Rattle.client_run.specs.Serving.{Start, start, point, SoFar, Stays}
use Rattle.client_run.specs.Sessions.{Relation, AnswersLine, AnswersLines, Exchange, lines_of, texts_of}
use Rattle.transcript.specs.Lines.{Line, content, with_feed}
use Rattle.transcript.specs.Transcript.{text_of_answer, together, most_waiting}
use Rattle.transcript.specs.declared.reply.Reply.{Reply}

pub single : {A : Type 0} (P : A → Type 0) (x : A) → P x → All P (x ∷ [])
single P x p zero d lt = p
single P x p (suc k) d lt = absurd (omega arith)

abbrev pub exchange : Line → Option Reply → Exchange
exchange line answer = record { line = line; answer = answer }

pub lines_more : (exchanges : List Exchange) (line : Line) (answer : Option Reply) →
    lines_of (exchanges ++ exchange line answer ∷ []) ≡ lines_of exchanges ++ line ∷ []
lines_more exchanges line answer = map-append (λ (e : Exchange). e.line) exchanges (exchange line answer ∷ [])

pub texts_more : (exchanges : List Exchange) (line : Line) (answer : Option Reply) →
    texts_of (exchanges ++ exchange line answer ∷ []) ≡ texts_of exchanges ++ text_of_answer answer ∷ []
texts_more exchanges line answer = map-append (λ (e : Exchange). text_of_answer e.answer) exchanges
    (exchange line answer ∷ [])

pub together_more : (texts : List (List ℕ)) (text : List ℕ) → together (texts ++ text ∷ []) ≡ together texts ++ text
together_more texts text = flat_map-append (λ (t : List ℕ). t) texts (text ∷ []) ∙
    ap (λ (x : List ℕ). together texts ++ x) (append-nil text)

-- all texts together, with one more
pub all_more : (exchanges : List Exchange) (line : Line) (answer : Option Reply) →
    together (texts_of (exchanges ++ exchange line answer ∷ [])) ≡ together (texts_of exchanges) ++
    text_of_answer answer
all_more exchanges line answer = ap together (texts_more exchanges line answer) ∙ together_more (texts_of exchanges)
    (text_of_answer answer)

pub bytes_more : (lines : List Line) (line : Line) → flat_map with_feed (lines ++ line ∷ []) ≡
    flat_map with_feed lines ++ with_feed line
bytes_more lines line = flat_map-append with_feed lines (line ∷ []) ∙ ap (λ (x : List ℕ). flat_map with_feed lines ++
    x) (append-nil (with_feed line))

-- the input, with one line more
pub spelled_more : (input : List ℕ) (lines : List Line) (line : Line) (pending rest : List ℕ) → input ≡
    flat_map with_feed lines ++ pending → pending ≡ with_feed line ++ rest
    → input ≡ flat_map with_feed (lines ++ line ∷ []) ++ rest
spelled_more input lines line pending rest is here =
    is ∙ (ap (λ (x : List ℕ). flat_map with_feed lines ++ x) here ∙
    (sym (append_assoc (flat_map with_feed lines) (with_feed line) rest) ∙ ap (λ (x : List ℕ). x ++ rest)
    (sym (bytes_more lines line))))

module _ {S : Type 0} (answers : Relation S) where
  pub answers_more : (old mid new : S) (exchanges : List Exchange) (line : Line) (answer : Option Reply) →
      AnswersLines answers old exchanges mid → AnswersLine answers mid (content line) answer new
      → AnswersLines answers old (exchanges ++ exchange line answer ∷ []) new
  answers_more old mid new [] line answer is here =
      (new, subst (λ (s : S). AnswersLine answers s (content line) answer new) is here, refl)
  answers_more old mid new (first ∷ others) line answer (between, one, rest) here =
      (between, one, answers_more between mid new others line answer rest here)

  pub begins : (service : S) (left written : Option (List ℕ)) → SoFar answers (start service left written)
      (point service left written [] (record { pending = []; over = Bool.false })) 0
  begins service left written = record {
    exchanges = [];
    input = [];
    output = [];
    came = Consumes-nil left;
    went = Appends-nil written;
    sent = refl;
    spelled = refl;
    stay = λ k d lt. absurd (omega arith);
    replies = refl;
    room = omega arith;
    counted = refl;
    at_end = λ is. absurd (cc);
  }

  module _ (first : Start S) (s : S) (l w : Option (List ℕ)) (waits : List ℕ) (h : ReaderState) (count : ℕ)
      (so : SoFar answers first (point s l w waits h) count) where
    pub gathered : (l' : Option (List ℕ)) (h' : ReaderState) → Gathers h h' l l' →
        SoFar answers first (point s l' w waits h') count
    gathered l' h' g = record {
      exchanges = so.exchanges;
      input = so.input ++ g.got;
      output = so.output;
      came = Consumes-trans first.left l l' so.input g.got so.came g.came;
      went = so.went;
      sent = so.sent;
      spelled = ap (λ (x : List ℕ). x ++ g.got) so.spelled ∙
          (append_assoc (flat_map with_feed (lines_of so.exchanges)) h.pending g.got ∙
          ap (λ (x : List ℕ). flat_map with_feed (lines_of so.exchanges) ++ x) (sym g.pending));
      stay = so.stay;
      replies = so.replies;
      room = so.room;
      counted = so.counted;
      at_end = g.at_end so.at_end;
    }

    pub moved : (w' : Option (List ℕ)) (waits' : List ℕ) → Moves waits waits' w w' [] →
        SoFar answers first (point s l w' waits' h) count
    moved w' waits' (out, went, is) = record {
      exchanges = so.exchanges;
      input = so.input;
      output = so.output ++ out;
      came = so.came;
      went = Appends-trans first.written w w' so.output out so.went went;
      sent = append_assoc so.output out waits' ∙ (ap (λ (x : List ℕ). so.output ++ x) (is ∙ append-nil waits) ∙
          so.sent);
      spelled = so.spelled;
      stay = so.stay;
      replies = so.replies;
      room = still_room waits waits' w w' (out, went, is) so.room;
      counted = so.counted;
      at_end = so.at_end;
    }

    pub line_goes : (s' : S) (w' : Option (List ℕ)) (waits' : List ℕ) (h' : ReaderState) (line : Line)
        (answer : Option Reply) → Stays line → h.pending ≡ with_feed line ++ h'.pending → h'.over ≡ h.over
        → AnswersLine answers s (content line) answer s' → Moves waits waits' w w' (text_of_answer answer) →
        length waits' < most_waiting → SoFar answers first (point s' l w' waits' h') (count + 1)
    line_goes s' w' waits' h' line answer stays here same is (out, went, moves) room = record {
      exchanges = so.exchanges ++ exchange line answer ∷ [];
      input = so.input;
      output = so.output ++ out;
      came = so.came;
      went = Appends-trans first.written w w' so.output out so.went went;
      sent = append_assoc so.output out waits' ∙ (ap (λ (x : List ℕ). so.output ++ x) moves ∙
          (sym (append_assoc so.output waits (text_of_answer answer)) ∙
          (ap (λ (x : List ℕ). x ++ text_of_answer answer) so.sent ∙ sym (all_more so.exchanges line answer))));
      spelled = subst (λ (ls : List Line). so.input ≡ flat_map with_feed ls ++ h'.pending)
          (sym (lines_more so.exchanges line answer)) (spelled_more so.input (lines_of so.exchanges) line h.pending
          h'.pending so.spelled here);
      stay = subst (λ (ls : List Line). All Stays ls) (sym (lines_more so.exchanges line answer))
          (All-append Stays (lines_of so.exchanges) (line ∷ []) so.stay (single Stays line stays));
      replies = answers_more first.service s s' so.exchanges line answer so.replies is;
      room = room;
      counted = length-append so.exchanges (exchange line answer ∷ []) ∙ ap (λ (n : ℕ). n + 1) so.counted;
      at_end = λ over. so.at_end (sym same ∙ over);
    }
