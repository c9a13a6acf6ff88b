-- The lines of a session, and the turns that they use.
use Rattle.std.proofs.Common.{◌≡◌, ◌≢◌, ◌+◌, inl, inr, ℕ, List, [], ◌∷◌, ◌++◌, refl, sym, ◌∙◌, ap}
use Rattle.std.proofs.Common.{subst, append-nil, append_assoc, Option, Some, None}
use Rattle.std.specs.List.{flat_map}
use Rattle.client_lines.proofs.OnlyReading.{asks_no_quit}
use Rattle.client_run.specs.Sessions as s
use Rattle.client_run.specs.Sessions.{Exchange}
use Rattle.disk_model.specs.declared.disk.Disk
use Rattle.disk_model.specs.declared.yard.Build
use Rattle.disk_model.specs.declared.yard.SealedFile
use Rattle.disk_model.specs.declared.yard.Yard
use Rattle.doc_engine.specs.EngineState.{down_since}
use Rattle.doc_engine.specs.declared.engine.Engine.{Engine}
use Rattle.doc_meaning.specs.History.{Base}
use Rattle.doc_meaning.specs.Replies.{look_reply}
use Rattle.doc_model.specs.Operations.{AreOps}
use Rattle.doc_model.specs.declared.op.Op.{Op}
use Rattle.doc_model.specs.declared.query.Query.{Query}
use Rattle.engine_session.proofs.Committing.{commit_turn, takes_commit}
use Rattle.engine_session.proofs.Crashing.{LeavesNow}
use Rattle.engine_session.proofs.Saying.{answer_of, said_is}
use Rattle.engine_session.proofs.Taking.{takes_same}
use Rattle.engine_session.proofs.Turning.{pending_stays, turn_of}
use Rattle.engine_session.specs.Attended.{Takes}
use Rattle.engine_session.specs.Step.{Step}
use Rattle.transcript.proofs.OwnTurnLemmas.{visits-append}
use Rattle.transcript.specs.Answers as a
use Rattle.transcript.specs.Commands.{Asks}
use Rattle.transcript.specs.Lines.{Line, content}
use Rattle.transcript.specs.OwnTurns.{Looks, TurnAt, turns_behind}
use Rattle.transcript.specs.Transcript as t
use Rattle.transcript.specs.Transcript.{ServedLine, SessionState}
use Rattle.transcript.specs.Turns.{Turn, history_of, look, looks}
use Rattle.transcript.specs.declared.command.Command.{Command}
use Rattle.transcript.specs.declared.command.Command.TheVariants as command
use Rattle.transcript.specs.declared.command.When.TheVariants as when
use Rattle.transcript.specs.declared.reply.Reply.{Reply}
use Rattle.transcript.specs.declared.reply.Reply.TheVariants as reply

-- no pin, a port that doesn't fail, and so many bytes that may have been read
abbrev pub state : ℕ → SessionState
state reads = record { pin = None; faults_left = 0; reads = reads }

-- the operations of a line are ones that a commit takes
asked_ops : (line : List ℕ) (ops : List Op) → Asks line (command.Commit ops) → AreOps ops
asked_ops line ops (inl (uri, json, root, has, is_uri, is_json, is, are)) = are
asked_ops line ops (inr (uri, has, is_uri, is, are)) = are

module _ {D Y F B : Type 0} {of_disk : Disk.Ghosts D} {of_yard : Yard.Ghosts Y F B} {of_file : SealedFile.Ghosts F}
    {of_build : Build.Ghosts B F}
    (at_now : LeavesNow of_disk)
    (first : Engine D Y F B of_disk of_yard of_file of_build) (base : Base) (longest : ℕ) where
  -- the reply to a line, from that to its command
  abbrev pub Lines : ℕ → List ℕ → Command → Type 0
  Lines n line asked = (used : List TurnAt) (other : Reply) (m : ℕ)
      → t.AnswersCommand base (state n) asked used other (state m)
      → t.AnswersLine base (state n) line used (Some other) (state m)

  -- a line was served: the turns that it used follow those before
  pub record Served1 (new : Engine D Y F B of_disk of_yard of_file of_build) (list : List Turn) (n : ℕ) (line : List ℕ)
      (answer : Option Reply) : Type 0 where
    pub more : List Turn
    pub reads : ℕ
    pub takes : Takes first new base longest (list ++ more)
    pub answers : t.AnswersLine base (state n) line (turns_behind 0 list more) answer (state reads)

  -- without a turn
  none_used : (new old : Engine D Y F B of_disk of_yard of_file of_build) (list : List Turn) (n : ℕ) (line : List ℕ)
      (answer : Option Reply) → Takes first old base longest list → new ≡ old
      → t.AnswersLine base (state n) line [] answer (state n) → Served1 new list n line answer
  none_used new old list n line answer takes same answers = record {
    more = [];
    reads = n;
    takes = subst (λ (e : Engine D Y F B of_disk of_yard of_file of_build). Takes first e base longest (list ++ []))
        (sym same) (subst (λ (g : List Turn). Takes first old base longest g) (sym (append-nil list)) takes);
    answers = answers;
  }

  module _ (old new : Engine D Y F B of_disk of_yard of_file of_build) (list : List Turn) (n : ℕ) (line : List ℕ)
      (takes : Takes first old base longest list) where
    -- a commit
    commit_line : (ops : List Op) (answer : Reply) → AreOps ops → Step old (command.Commit ops) answer new
        → Lines n line (command.Commit ops) → Served1 new list n line (Some answer)
    commit_line ops answer asked (result, says, has) lines =
        let turn = commit_turn at_now first base longest old new ops asked list takes result in
        record {
          more = turn ∷ [];
          reads = n;
          takes = takes_commit at_now first base longest old new ops asked list takes result has;
          answers = lines (turns_behind 0 list (turn ∷ [])) answer n (
            answer_of result,
            (record { before = list; turn = turn }, refl, refl, refl),
            ap Some says ∙ said_is result,
            refl,
          );
        }

    look_turn : Turn
    look_turn = turn_of look (looks (look_reply (history_of base list))) (down_since old)

    look_takes : Takes first old base longest (list ++ look_turn ∷ [])
    unfolding look_turn
    look_takes = takes_same at_now first base longest old list look_turn takes refl
        (record { asked = tt; of_job = tt; answers = inr refl; is_down = takes.down }) refl takes.down
        (pending_stays list look (looks (look_reply (history_of base list))) (down_since old) takes.down
        (λ n. refl))

    -- a command that only looks
    looked : (m : ℕ) (answer : Reply) → new ≡ old
        → t.AnswersLine base (state n) line (turns_behind 0 list (look_turn ∷ [])) (Some answer) (state m)
        → Served1 new list n line (Some answer)
    looked m answer same answers = record {
      more = look_turn ∷ [];
      reads = m;
      takes = subst (λ (e : Engine D Y F B of_disk of_yard of_file of_build).
          Takes first e base longest (list ++ look_turn ∷ [])) (sym same) look_takes;
      answers = answers;
    }

    -- a look at the history of the turns before
    looks_here : Looks base (turns_behind 0 list (look_turn ∷ [])) (history_of base list)
    unfolding look_turn
    looks_here = (record { before = list; turn = look_turn }, refl, refl, refl, refl)

    -- want of memory
    lacking : (answer : Reply) → answer ≡ reply.Memory → new ≡ old
        → t.AnswersLine base (state n) line [] (Some reply.Memory) (state n) → Served1 new list n line (Some answer)
    lacking answer wants same lacks =
        none_used new old list n line (Some answer) takes same
        (subst (λ (r : Reply). t.AnswersLine base (state n) line [] (Some r) (state n)) (sym wants) lacks)

    -- a search
    search_line : (q : Query) (answer : Reply) → Step old (command.Search q when.Front) answer new
        → Lines n line (command.Search q when.Front)
        → t.AnswersLine base (state n) line [] (Some reply.Memory) (state n) → Served1 new list n line (Some answer)
    search_line q answer (inl says, same) lines lacks =
        let h = history_of base list in
        let m = n + a.reads_of (command.Search q when.Front) h in
        looked m answer same (lines (turns_behind 0 list (look_turn ∷ [])) answer m
        (h, looks_here, (says h takes.is_at, refl)))
    search_line q answer (inr wants, same) lines lacks = lacking answer wants same lacks

    -- a get
    get_line : (uri : List ℕ) (answer : Reply) → Step old (command.Get uri when.Front) answer new
        → Lines n line (command.Get uri when.Front)
        → t.AnswersLine base (state n) line [] (Some reply.Memory) (state n) → Served1 new list n line (Some answer)
    get_line uri answer (inl says, same) lines lacks =
        let h = history_of base list in
        let m = n + a.reads_of (command.Get uri when.Front) h in
        looked m answer same (lines (turns_behind 0 list (look_turn ∷ [])) answer m
        (h, looks_here, (says h takes.is_at, refl)))
    get_line uri answer (inr wants, same) lines lacks = lacking answer wants same lacks

    -- a stamp
    stamp_line : (answer : Reply) → Step old command.Stamp answer new → Lines n line command.Stamp
        → Served1 new list n line (Some answer)
    stamp_line answer (says, same) lines =
        let h = history_of base list in
        looked n answer same (lines (turns_behind 0 list (look_turn ∷ [])) answer n
        (h, looks_here, says h takes.is_at, refl))

  -- what a command of a line uses, by its step
  command_line : (old new : Engine D Y F B of_disk of_yard of_file of_build) (list : List Turn) (n : ℕ) (line : List ℕ)
      (asked : Command) (answer : Reply) → Takes first old base longest list → Asks line asked
      → asked ≢ command.Quit → Step old asked answer new → Lines n line asked
      → t.AnswersLine base (state n) line [] (Some reply.Memory) (state n)
      → Served1 new list n line (Some answer)
  command_line old new list n line (command.Commit ops) answer takes asks differs step lines lacks =
      commit_line old new list n line takes ops answer (asked_ops line ops asks) step lines
  command_line old new list n line (command.Get uri when.Front) answer takes asks differs step lines lacks =
      get_line old new list n line takes uri answer step lines lacks
  command_line old new list n line (command.Search q when.Front) answer takes asks differs step lines lacks =
      search_line old new list n line takes q answer step lines lacks
  command_line old new list n line command.Stamp answer takes asks differs step lines lacks =
      stamp_line old new list n line takes answer step lines
  command_line old new list n line command.Quit answer takes asks differs step lines lacks = absurd (differs refl)
  command_line old new list n line (command.Search q (when.At at)) answer takes asks differs step lines lacks =
      absurd asks
  command_line old new list n line (command.Search q when.Pinned) answer takes asks differs step lines lacks =
      absurd asks
  command_line old new list n line (command.Get uri (when.At at)) answer takes asks differs step lines lacks =
      absurd asks
  command_line old new list n line (command.Get uri when.Pinned) answer takes asks differs step lines lacks =
      absurd asks
  command_line old new list n line (command.Estimate q when) answer takes asks differs step lines lacks = absurd asks
  command_line old new list n line (command.Forget to) answer takes asks differs step lines lacks = absurd asks
  command_line old new list n line command.Pin answer takes asks differs step lines lacks = absurd asks
  command_line old new list n line command.Unpin answer takes asks differs step lines lacks = absurd asks
  command_line old new list n line command.Save answer takes asks differs step lines lacks = absurd asks
  command_line old new list n line command.Merge answer takes asks differs step lines lacks = absurd asks
  command_line old new list n line command.Revive answer takes asks differs step lines lacks = absurd asks

  -- a service that answers as the engine does that is in it
  module _ {S : Type 0} (answers : s.Relation S) (engine_of : S → Engine D Y F B of_disk of_yard of_file of_build)
      (steps : (old : S) (asked : Command) (said : Reply) (new : S) → answers old asked said new
      → Step (engine_of old) asked said (engine_of new)) where
    -- one line of the session uses what its command uses
    serves_line : (old new : S) (list : List Turn) (n : ℕ) (line : List ℕ) (answer : Option Reply)
        → Takes first (engine_of old) base longest list → s.AnswersLine answers old line answer new
        → Served1 (engine_of new) list n line answer
    serves_line old new list n [] answer takes (none, same) =
        none_used (engine_of new) (engine_of old) list n [] answer takes (ap engine_of same) (refl, none, refl)
    serves_line old new list n (b ∷ line) None takes never = absurd never
    serves_line old new list n (b ∷ line) (Some answer) takes (inl (asked, asks, differs, step)) =
        command_line (engine_of old) (engine_of new) list n (b ∷ line) asked answer takes asks differs
        (steps old asked answer new step) (λ used other m says. inl (asked, asks, inl says))
        (inr (inr (refl, asks_no_quit (b ∷ line) asked asks differs, inl (refl, refl))))
    serves_line old new list n (b ∷ line) (Some answer) takes (inr (inl (quits, bye, same))) =
        none_used (engine_of new) (engine_of old) list n (b ∷ line) (Some answer) takes (ap engine_of same)
        (inl (command.Quit, quits, inl (refl, bye, refl)))
    serves_line old new list n (b ∷ line) (Some answer) takes (inr (inr (inl (refused, same)))) =
        none_used (engine_of new) (engine_of old) list n (b ∷ line) (Some answer) takes (ap engine_of same)
        (inr (inl (refused, refl, refl)))
    serves_line old new list n (b ∷ line) (Some answer) takes (inr (inr (inr (lacks, stays, same)))) =
        none_used (engine_of new) (engine_of old) list n (b ∷ line) (Some answer) takes (ap engine_of same)
        (inr (inr (lacks, stays, inl (refl, refl))))

    -- the lines of a session, in turn
    pub record ServedAll (new : S) (list : List Turn) (n : ℕ) (exchanges : List Exchange) : Type 0 where
      pub more : List Turn
      pub served : List ServedLine
      pub reads : ℕ
      pub takes : Takes first (engine_of new) base longest (list ++ more)
      pub answered : t.AnswersLines base (state n) served (state reads)
      pub used : turns_behind 0 list more ≡ flat_map (λ s. s.used) served
      pub lines : t.lines_of served ≡ s.lines_of exchanges
      pub texts : t.texts_of served ≡ s.texts_of exchanges

    pub serves_lines : (old new : S) (list : List Turn) (n : ℕ) (exchanges : List Exchange)
        → Takes first (engine_of old) base longest list → s.AnswersLines answers old exchanges new
        → ServedAll new list n exchanges
    serves_lines old new list n [] takes same = record {
      more = [];
      served = [];
      reads = n;
      takes = subst (λ (e : S). Takes first (engine_of e) base longest (list ++ [])) (sym same)
          (subst (λ (g : List Turn). Takes first (engine_of old) base longest g) (sym (append-nil list)) takes);
      answered = refl;
      used = refl;
      lines = refl;
      texts = refl;
    }
    serves_lines old new list n (exchange ∷ others) takes (mid, here, behind) =
        let one = serves_line old mid list n (content exchange.line) exchange.answer takes here in
        let rest = serves_lines mid new (list ++ one.more) one.reads others one.takes behind in
        let served : ServedLine = record {
          line = exchange.line;
          used = turns_behind 0 list one.more;
          answer = exchange.answer;
        } in
        record {
          more = one.more ++ rest.more;
          served = served ∷ rest.served;
          reads = rest.reads;
          takes = subst (λ (g : List Turn). Takes first (engine_of new) base longest g)
              (append_assoc list one.more rest.more) rest.takes;
          answered = (state one.reads, one.answers, rest.answered);
          used = visits-append 0 list one.more rest.more
              ∙ ap (λ (vs : List TurnAt). turns_behind 0 list one.more ++ vs) rest.used;
          lines = ap (λ (ls : List Line). exchange.line ∷ ls) rest.lines;
          texts = ap (λ (texts : List (List ℕ)). t.text_of_answer exchange.answer ∷ texts) rest.texts;
        }
