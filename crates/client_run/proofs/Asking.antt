-- How one line is answered.
use Rattle.std.proofs.Common.{◌≢◌, inl, inr, ◌∷◌, [], ℕ, List, Option, Some, Err, refl, sym, subst}
use Rattle.client_run.specs.Closing.{Closes}
use Rattle.client_run.specs.Serving.{AnswersOne}
use Rattle.client_run.specs.Sessions.{Relation, AnswersLine}
use Rattle.transcript.specs.Commands.{Asks}
use Rattle.transcript.specs.Forms.{Form, HasForm}
use Rattle.transcript.specs.Forms as form
use Rattle.transcript.specs.Refusals.{ComesLater, IsRefused}
use Rattle.transcript.specs.declared.command.Command.{Command}
use Rattle.transcript.specs.declared.command.Command.TheVariants as command
use Rattle.transcript.specs.declared.command.Command.TheVariants.{Quit}
use Rattle.transcript.specs.declared.command.When.TheVariants.{Front, At, Pinned}
use Rattle.transcript.specs.Texts.{text_of}
use Rattle.transcript.specs.declared.reply.BadKind.{BadKind}
use Rattle.transcript.specs.declared.reply.Reply.{Reply}
use Rattle.transcript.specs.declared.reply.Reply.TheVariants as reply
use Rattle.transcript.specs.declared.session_end.SessionEnd.{SessionEnd}
use Rattle.transcript.specs.declared.session_end.SessionEnd.TheVariants as end

-- an empty line has no form
no_form : (f : Form) → HasForm [] f → ⊥
no_form (form.put uri json) has = let is = has.fits.1 in absurd (cc)
no_form (form.remove uri) has = let is = has.fits.1 in absurd (cc)
no_form (form.commit json) has = let is = has.fits.1 in absurd (cc)
no_form (form.get when uri) has = let is = has.fits.1 in absurd (cc)
no_form (form.search when json) has = let is = has.fits.1 in absurd (cc)
no_form (form.estimate when json) has = let is = has.fits.1 in absurd (cc)
no_form form.stamp has = let is = has.fits.1 in absurd (cc)
no_form (form.forget to) has = let is = has.fits.1 in absurd (cc)
no_form form.pin has = let is = has.fits.1 in absurd (cc)
no_form form.unpin has = let is = has.fits.1 in absurd (cc)
no_form form.save has = let is = has.fits.1 in absurd (cc)
no_form form.merge has = let is = has.fits.1 in absurd (cc)
no_form form.revive has = let is = has.fits.1 in absurd (cc)
no_form form.quit has = let is = has.fits.1 in absurd (cc)

-- it asks nothing
asks_nothing : (asked : Command) → Asks [] asked → ⊥
asks_nothing (command.Commit ops) (inl (uri, json, root, has, is_uri, is_json, is, are)) = no_form (form.put uri json) has
asks_nothing (command.Commit ops) (inr (uri, has, is_uri, is, are)) = no_form (form.remove uri) has
asks_nothing (command.Get uri Front) (has, is_uri) = no_form (form.get Front uri) has
asks_nothing (command.Get uri (At t)) never = absurd never
asks_nothing (command.Get uri Pinned) never = absurd never
asks_nothing (command.Search q Front) asks = no_form (form.search Front asks.0) asks.1
asks_nothing (command.Search q (At t)) never = absurd never
asks_nothing (command.Search q Pinned) never = absurd never
asks_nothing (command.Estimate q when) never = absurd never
asks_nothing command.Stamp is = absurd (cc)
asks_nothing (command.Forget to) never = absurd never
asks_nothing command.Pin never = absurd never
asks_nothing command.Unpin never = absurd never
asks_nothing command.Save never = absurd never
asks_nothing command.Merge never = absurd never
asks_nothing command.Revive never = absurd never
asks_nothing command.Quit is = absurd (cc)

module _ {S : Type 0} (answers : Relation S) (old : S) where
  -- a line that was read as a command is answered by the service
  pub says_answer : (new : S) (line : List ℕ) (asked : Command) (said : Reply) → Asks line asked → asked ≢ Quit
      → answers old asked said new → AnswersLine answers old line (Some said) new
  says_answer new [] asked said is differs step = absurd (asks_nothing asked is)
  says_answer new (b ∷ line) asked said is differs step = inl (asked, is, differs, step)

  -- a line of a form that isn't answered yet is answered so
  pub says_later : (line : List ℕ) → ComesLater line → AnswersLine answers old line (Some reply.Later) old
  says_later [] (f, has, is) = absurd (no_form f has)
  says_later (b ∷ line) later = inr (inr (inl (inr (later, refl), refl)))

  -- a refused line is answered with its fault
  pub says_bad : (line : List ℕ) (kind : BadKind) (place : ℕ) → line ≢ [] → IsRefused line kind place
      → AnswersLine answers old line (Some (reply.Bad kind place)) old
  says_bad [] kind place some refused = absurd (some refl)
  says_bad (b ∷ line) kind place some refused = inr (inr (inl (inl refused, refl)))

  -- for want of memory
  pub says_memory : (line : List ℕ) → line ≢ [] → (Asks line Quit → ⊥)
      → AnswersLine answers old line (Some reply.Memory) old
  says_memory [] some stays = absurd (some refl)
  says_memory (b ∷ line) some stays = inr (inr (inr (refl, stays, refl)))

  says_bye : (line : List ℕ) → Asks line Quit → AnswersLine answers old line (Some reply.Bye) old
  says_bye [] is = absurd (asks_nothing Quit is)
  says_bye (b ∷ line) is = inr (inl (is, refl, refl))

  -- a line that asks to quit ends the session
  pub quits : (line waits waits' : List ℕ) (w w' : Option (List ℕ)) (result : SessionEnd) → Asks line Quit →
      Closes end.Quit result waits w w' (text_of reply.Bye) → AnswersOne answers old old line (Err result) waits
      waits' w w'
  quits line waits waits' w w' result asks (inl (is, went)) =
      subst (λ (how : SessionEnd). AnswersOne answers old old line (Err how) waits waits' w w') (sym is)
      (Some reply.Bye, says_bye line asks, went, asks)
  quits line waits waits' w w' result asks (inr (is, tears)) =
      subst (λ (how : SessionEnd). AnswersOne answers old old line (Err how) waits waits' w w') (sym is)
      (Some reply.Bye, says_bye line asks, tears, inr asks)
