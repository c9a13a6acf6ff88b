-- A step of a session: the next line, and its answer.
use Rattle.std.proofs.Common.{inl, inr, ◌⊎◌, ◌≡◌, ◌≢◌, ◌<◌, ◌≤◌, ◌+◌, ◌++◌, ◌∷◌, [], ℕ, List, Option, Some, Ok, Err, length, take, drop, arith, sym, ap, refl, ◌∙◌, subst, append_assoc, append-nil, length-take}
use Rattle.std.proofs.KnownBytes.{Consumes-nil, Consumes-trans}
use Rattle.std.proofs.lemmas.List.{take-append-drop, drop_more, take_all, length-take-le}
use Rattle.client_run.proofs.Ending.{MayEnd, at_write_fault, at_end, at_read_fault, at_long, one_too_many, behind_quit, behind_write_fault, behind_last}
use Rattle.client_run.proofs.Moving.{tears_more, closes_behind}
use Rattle.client_run.proofs.Steps.{gathered, moved, line_goes}
use Rattle.client_run.specs.Closing.{Moves, Tears, Closes}
use Rattle.client_run.specs.Reading.{ReaderState, Gathers, Fills, Finds, FindsFeed}
use Rattle.client_run.specs.Serving.{FindsNext, AnswersOne, Start, point, SoFar, WholeSession}
use Rattle.client_run.specs.Sessions.{Relation, lines_of}
use Rattle.client_run.specs.declared.find.Find.{Find}
use Rattle.client_run.specs.declared.find.Find.TheVariants as find
use Rattle.transcript.specs.Lines.{Line, ended, last, content, with_feed, without_return, IsLine, IsPastLimits, HasNoFeed}
use Rattle.transcript.specs.Texts.{text_of}
use Rattle.transcript.specs.Transcript.{text_of_answer, most_waiting}
use Rattle.transcript.specs.declared.reply.Reply.TheVariants as reply
use Rattle.transcript.specs.declared.session_end.SessionEnd.{SessionEnd}
use Rattle.transcript.specs.declared.session_end.SessionEnd.TheVariants as end
use Rattle.transcript.specs.declared.limits.TheConstants.{LONGEST_LINE, MAX_LINES}

pub gathers_none : (h : ReaderState) (l : Option (List ℕ)) → Gathers h h l l
gathers_none h l = record {
  got = [];
  came = Consumes-nil l;
  pending = sym (append-nil h.pending);
  at_end = λ first. first;
}

-- a read was done
pub gathers_more : (a b c d : ReaderState) (l l' l'' : Option (List ℕ)) (done : Unit {0}) → Gathers a b l l' →
    Fills (Ok done) b c l' l'' → d ≡ c → Gathers a d l l''
gathers_more a b c d l l' l'' done g (got, came, pending, over, some) same = record {
  got = g.got ++ got;
  came = Consumes-trans l l' l'' g.got got g.came came;
  pending = ap (λ (h : ReaderState). h.pending) same ∙
      (pending ∙ (ap (λ (x : List ℕ). x ++ got) g.pending ∙ append_assoc a.pending g.got got));
  at_end = λ first is. over (sym (ap (λ (h : ReaderState). h.over) same) ∙ is);
}

-- before a read all was sent, or that failed
pub send_fault : (h : ReaderState) (a b b' : List ℕ) (w w' w'' : Option (List ℕ)) (how : SessionEnd) → Moves a b w w' [] →
    (how ≡ end.WriteFault) × Tears b w' w'' [] → FindsNext (Err how) h a b' w w''
send_fault h a b b' w w' w'' how moves (is, tears) =
    subst (λ (how : SessionEnd). FindsNext (Err how) h a b' w w'') (sym is)
    (tears_more a b w w' w'' [] [] moves tears)

-- the first line with its line feed, and what is behind it
pub whole_line : (bytes : List ℕ) (len : ℕ) → FindsFeed bytes (Some len) → bytes ≡
    with_feed (ended (take len bytes)) ++ drop (len + 1) bytes
whole_line bytes len (lt, clean, at) =
    sym (take-append-drop len bytes) ∙
    (ap (λ (x : List ℕ). take len bytes ++ x) (drop_more bytes len 0 lt ∙ ap (λ (b : ℕ). b ∷ drop (len + 1) bytes)
    at) ∙ sym (append_assoc (take len bytes) (0x0A ∷ []) (drop (len + 1) bytes)))

pub is_line : (bytes : List ℕ) (len : ℕ) → FindsFeed bytes (Some len) → len ≤ LONGEST_LINE →
    IsLine (ended (take len bytes))
is_line bytes len (lt, clean, at) le = (clean, omega (arith, le, length-take len bytes))

pub whole_last : (bytes : List ℕ) (len : ℕ) → len ≡ length bytes → take len bytes ≡ bytes
whole_last bytes len is = take_all len bytes (omega (arith, is))

module _ {S : Type 0} (answers : Relation S) (first : Start S) (s : S) (l l' w w' : Option (List ℕ))
    (waits waits' : List ℕ) (h h' : ReaderState) (count : ℕ) (few : count ≤ MAX_LINES)
    (so : SoFar answers first (point s l w waits h) count) (g : Gathers h h' l l') where
  -- a fault before the next line
  pub step_fault : (how : SessionEnd) → FindsNext (Err how) h' waits waits' w w' →
      WholeSession answers first (point s l' w' waits' h') how
  step_fault end.ReadFault (wants, none, moves) =
      at_read_fault answers first s l' w' waits' h' count
      (moved answers first s l' w waits h' count (gathered answers first s l w waits h count so l' h' g) w' waits'
      moves) few h' none wants
  step_fault end.WriteFault tears = at_write_fault answers first s l' w waits h' count
      (gathered answers first s l w waits h count so l' h' g) few w' waits' h' tears
  step_fault end.Quit never = absurd never
  step_fault end.End never = absurd never
  step_fault end.Long never = absurd never
  step_fault end.Memory never = absurd never

  module _ (moves : Moves waits waits' w w' []) where
    next : SoFar answers first (point s l' w' waits' h') count
    next = moved answers first s l' w waits h' count (gathered answers first s l w waits h count so l' h' g) w' waits'
        moves

    pub step_end : (w'' : Option (List ℕ)) (waits'' : List ℕ) (how : SessionEnd) → Finds h' find.End →
        Closes end.End how waits' w' w'' [] → WholeSession answers first (point s l' w'' waits'' h') how
    step_end w'' waits'' how (none, over) closes = at_end answers first s l' w' waits' h' count next few w'' waits''
        h' how none over closes

    past : (found : Find) → Finds h' found → found ≢ find.End → found ≢ find.More →
        ((len : ℕ) → (found ≡ find.Line len) ⊎ (found ≡ find.Last len) → MAX_LINES ≤ count) →
        IsPastLimits (lines_of next.exchanges) h'.pending
    past (find.Line len) ((lt, clean, at), le) not_end not_more most = one_too_many answers first s l' w' waits' h'
        count next (most len (inl refl)) few (omega (arith, lt))
    past (find.Last len) (clean, all, some, le, over) not_end not_more most = one_too_many answers first s l' w'
        waits' h' count next (most len (inr refl)) few (omega (arith, all, some))
    past find.End finds not_end not_more most = absurd (not_end refl)
    past find.More finds not_end not_more most = absurd (not_more refl)
    past find.Long finds not_end not_more most = inl finds

    pub step_long : (w'' : Option (List ℕ)) (waits'' : List ℕ) (how : SessionEnd) (found : Find) → Finds h' found →
        found ≢ find.End → found ≢ find.More → ((len : ℕ) → (found ≡ find.Line len) ⊎ (found ≡ find.Last len) →
        MAX_LINES ≤ count)
        → Closes end.Long how waits' w' w'' (text_of reply.Long) → WholeSession answers first (point s l' w'' waits'' h')
        how
    step_long w'' waits'' how found finds not_end not_more most closes =
        at_long answers first s l' w' waits' h' count next few w'' waits'' h' how
        (past found finds not_end not_more most) closes

    module _ (fits : count < MAX_LINES) (len : ℕ) (s' : S) (w'' : Option (List ℕ)) (waits'' : List ℕ) where
      module _ (line : Line) (rest : List ℕ) (is_line : IsLine line) (may : MayEnd line rest h'.over)
          (spelled_so : h'.pending ≡ with_feed line ++ rest) where
        pub line_fault : (how : SessionEnd) → AnswersOne answers s s' (content line) (Err how) waits' waits'' w' w'' →
            WholeSession answers first (point s' l' w'' waits'' h') how
        line_fault end.Quit (answer, is, went, asks) =
            behind_quit answers first s l' w' waits' h' count next fits s' line answer rest is_line may spelled_so is w''
            waits'' h' asks went
        line_fault end.WriteFault (answer, is, tears, asks) =
            behind_write_fault answers first s l' w' waits' h' count next fits s' line answer rest is_line may spelled_so
            is w'' waits'' h' asks tears
        line_fault end.ReadFault never = absurd never
        line_fault end.End never = absurd never
        line_fault end.Long never = absurd never
        line_fault end.Memory never = absurd never

      pub ended_fault : (how : SessionEnd) → Finds h' (find.Line len) →
          AnswersOne answers s s' (without_return (take len h'.pending)) (Err how) waits' waits'' w' w'' →
          WholeSession answers first (point s' l' w'' waits'' h') how
      ended_fault how (feed, le) is =
          line_fault (ended (take len h'.pending)) (drop (len + 1) h'.pending) (is_line h'.pending len feed le) tt
          (whole_line h'.pending len feed) how is

      pub ended_goes : (done : Unit {0}) (h'' : ReaderState) → Finds h' (find.Line len) → h'' ≡
          record h' { pending = drop (len + 1) h'.pending } →
          AnswersOne answers s s' (without_return (take len h'.pending)) (Ok done) waits' waits'' w' w''
          → (length waits' < most_waiting → length waits'' < most_waiting) →
          SoFar answers first (point s' l' w'' waits'' h'') (count + 1)
      ended_goes done h'' (feed, le) same (answer, is, moves, stays) room =
          line_goes answers first s l' w' waits' h' count next s' w'' waits'' h'' (ended (take len h'.pending)) answer
          (record { ended = tt; is_line = is_line h'.pending len feed le; stays = stays })
          (whole_line h'.pending len feed ∙ ap (λ (x : List ℕ). with_feed (ended (take len h'.pending)) ++ x)
          (sym (ap (λ (h : ReaderState). h.pending) same))) (ap (λ (h : ReaderState). h.over) same) is moves (room next.room)

      module _ (finds : Finds h' (find.Last len)) where
        bytes : take len h'.pending ≡ h'.pending
        bytes = whole_last h'.pending len finds.1

        last_line : IsLine (last (take len h'.pending))
        last_line = let (clean, all, some, le, over) = finds in
            (subst HasNoFeed (sym bytes) clean, omega (arith, le, length-take len h'.pending))

        may_end : MayEnd (last (take len h'.pending)) [] h'.over
        may_end = let (clean, all, some, le, over) = finds in
            (refl, omega (arith, some, all, length-take-le len h'.pending (omega (arith, all))), over)

        spelled_so : h'.pending ≡ take len h'.pending ++ []
        spelled_so = sym (append-nil (take len h'.pending) ∙ bytes)

        pub last_fault : (how : SessionEnd) → AnswersOne answers s s' (take len h'.pending) (Err how) waits' waits''
            w' w'' → WholeSession answers first (point s' l' w'' waits'' h') how
        last_fault how is = line_fault (last (take len h'.pending)) [] last_line may_end spelled_so how is

        pub last_ends : (done : Unit {0}) (w3 : Option (List ℕ)) (waits3 : List ℕ) (how : SessionEnd) →
            AnswersOne answers s s' (take len h'.pending) (Ok done) waits' waits'' w' w'' → Closes end.End how waits''
            w'' w3 []
            → WholeSession answers first (point s' l' w3 waits3 h') how
        last_ends done w3 waits3 how (answer, is, moves, stays) closes =
            let (clean, all, some, le, over) = finds in
            behind_last answers first s l' w' waits' h' count next fits s' (last (take len h'.pending)) answer []
            last_line may_end spelled_so is w3 waits3 h' how stays refl over
            (closes_behind waits' waits'' w' w'' w3 (text_of_answer answer) end.End how moves closes)
