-- What an image shows.
use Rattle.std.proofs.Common.{◌≡◌, ◌⊎◌, inl, inr, ⊎_elim, ℕ, ◌<◌, ◌≤◌, List, [], ◌∷◌, ◌++◌, eqb, length, refl, sym, ap, ap₂, ◌∙◌, subst, arith, length-append}
use Rattle.std.proofs.lemmas.Bool.{cases_eq, cond-false, cond-true, eq-eqb, ne_eqb}
use Rattle.std.proofs.lemmas.List.{append-nil, ext_get_or}
use Rattle.std.specs.FinMap.{empty}
use Rattle.std.specs.List.{AllZip}
use Rattle.disk_model.specs.Files.{Files}
use Rattle.disk_model.specs.Logs.{Image}
use Rattle.doc_meaning.specs.History.{Base, History, front, merge_after}
use Rattle.frame_log.specs.Frames.{HasFrames, MayHave}
use Rattle.journal_bodies.specs.Roots.{PlainRoot, SpellsRoot}
use Rattle.directory_meaning.specs.Bodies.{Bodies, HasBodies, IsNewest, MayHaveBodies, TellsEntries}
use Rattle.directory_meaning.specs.Laws.{KeptIsShown, NothingIsShown, OneBaseIsShown, ToldIsShown}
use Rattle.directory_meaning.specs.Shown.{IsBaseOf, Shows, Tells, only_body, shown_from, with_body, with_entry}
use Rattle.directory_meaning.specs.declared.logs.TheConstants.{DIRECTORY_LOGS}
use Rattle.directory_meaning.proofs.BaseLemmas.{always_empty}
use Rattle.directory_meaning.proofs.EntryLemmas.{merge_push_within}
use Rattle.directory_meaning.proofs.NextLemmas.{another_entry_is_told}
use Rattle.directory_meaning.proofs.OneLemmas.{one_frames, one_list_told, one_root_told, same_entries, same_root}

-- a log that has the frames that are kept, or no more than these
has_kept : (kept : List (List ℕ)) (bytes : List ℕ) → MayHave kept [] bytes → HasFrames kept bytes
has_kept kept bytes (inl has) = has
has_kept kept bytes (inr has) = subst (λ bodies. HasFrames bodies bytes) (append-nil kept) has

-- no bodies spell no roots
nothing_spelled : (bodies : List (List ℕ)) (roots : List PlainRoot) → bodies ≡ [] →
    AllZip SpellsRoot bodies roots → roots ≡ []
nothing_spelled [] [] none spelled = refl
nothing_spelled [] (r ∷ roots) none spelled = absurd spelled
nothing_spelled (b ∷ bodies) roots none spelled = absurd (cc)

shows_told : (files : Files) (bodies : Bodies) (h : History) (m : ℕ) (image : Image) → Tells files bodies h m →
    m ≤ front h → HasBodies bodies image → Shows files image (shown_from m h)
shows_told files bodies h m image told ordered has =
    record { bodies = bodies; history = h; merge = m; has = has; tells = told; ordered = ordered; shown = refl }

pub told_is_shown : ToldIsShown
told_is_shown files kept h m image told ordered may =
    shows_told files kept h m image told ordered (λ file known. has_kept (kept file) (image file) (may file known))

-- of one log the frames that are kept may be there, or one more; of the others those that are kept
module _ (kept : Bodies) (file : ℕ) (body : List ℕ) (image : Image)
    (may : MayHaveBodies kept (only_body file body) image) where
  other_log : (log : ℕ) → (log ≡ file → ⊥) → log < DIRECTORY_LOGS → HasFrames (kept log) (image log)
  other_log log apart known =
      let none : only_body file body log ≡ [] = cond-false (eqb log file) (body ∷ []) [] (ne_eqb log file apart) in
      has_kept (kept log) (image log) (subst (λ more. MayHave (kept log) more (image log)) none (may log known))

  all_kept : HasFrames (kept file) (image file) → HasBodies kept image
  all_kept has log known = ⊎_elim
      (λ (same : log ≡ file). subst (λ log. HasFrames (kept log) (image log)) (sym same) has)
      (λ apart. other_log log apart known)
      (cases_eq log file)

  one_more : HasFrames (kept file ++ body ∷ []) (image file) → HasBodies (with_body kept file body) image
  one_more has log known = ⊎_elim
      (λ (same : log ≡ file).
      let this : with_body kept file body log ≡ kept log ++ body ∷ [] =
      cond-true (eqb log file) (kept log ++ body ∷ []) (kept log) (eq-eqb log file same) in
      subst (λ bodies. HasFrames bodies (image log)) (sym this)
      (subst (λ log. HasFrames (kept log ++ body ∷ []) (image log)) (sym same) has))
      (λ (apart : log ≡ file → ⊥).
      let that : with_body kept file body log ≡ kept log =
      cond-false (eqb log file) (kept log ++ body ∷ []) (kept log) (ne_eqb log file apart) in
      subst (λ bodies. HasFrames bodies (image log)) (sym that) (other_log log apart known))
      (cases_eq log file)

  kept_or_more : file < DIRECTORY_LOGS → HasBodies kept image ⊎ HasBodies (with_body kept file body) image
  kept_or_more known =
      let this : only_body file body file ≡ body ∷ [] =
      cond-true (eqb file file) (body ∷ []) [] (eq-eqb file file refl) in
      ⊎_elim
      (λ has. inl (all_kept has))
      (λ has. inr (one_more (subst (λ more. HasFrames (kept file ++ more) (image file)) this has)))
      (may file known)

pub kept_is_shown : KeptIsShown
kept_is_shown files kept file h m body entry image told ordered spelled are may = ⊎_elim
    (λ has. inl (shows_told files kept h m image told.tells ordered has))
    (λ has. inr (shows_told files (with_body kept file body) (with_entry h entry) (merge_after m (entry ∷ [])) image
    (another_entry_is_told files kept file h m body entry told spelled are).tells
    (merge_push_within h m entry ordered are) has))
    (kept_or_more kept file body image may (omega (arith, told.current.journal)))

-- without roots there is no newest one
none_newest : (two three : List PlainRoot) (root : PlainRoot) → two ≡ [] → three ≡ [] → IsNewest (two ++ three) root → ⊥
none_newest two three root first second newest = omega (
  arith,
  ap length newest.whole,
  ap length first,
  ap length second,
  length-append two three,
  length-append newest.before (root ∷ newest.behind),
)

pub nothing_is_shown : NothingIsShown
nothing_is_shown files bodies image base has two three shows =
    let newest = shows.tells.newest in
    let log_two : shows.bodies 2 ≡ [] = one_frames shows.bodies bodies image 2 shows.has has (omega arith) ∙ two in
    let log_three : shows.bodies 3 ≡ [] = one_frames shows.bodies bodies image 3 shows.has has (omega arith) ∙ three in
    none_newest newest.roots_0 newest.roots_1 shows.tells.root
    (nothing_spelled (shows.bodies 2) newest.roots_0 log_two newest.first_log)
    (nothing_spelled (shows.bodies 3) newest.roots_1 log_three newest.second_log) newest.newest

-- a root tells one base
one_base : (files : Files) (root : PlainRoot) (base other : Base) → IsBaseOf files root base →
    IsBaseOf files root other → base ≡ other
one_base files root base other one two =
    let fronts : base.front ≡ other.front = one.front ∙ sym two.front in
    let merges : base.merge ≡ other.merge = one.horizon ∙ sym two.horizon in
    let same : base.settings ≡ other.settings = one.settings ∙ sym two.settings in
    let databases : base.databases ≡ other.databases =
    ext_get_or empty base.databases other.databases (one.each ∙ sym two.each)
    (λ i below. always_empty files root base one i ∙ sym (always_empty files root other two i)) in
    λ i. record { front = fronts i; merge = merges i; settings = same i; databases = databases i }

one_history : (files : Files) (bodies : Bodies) (h k : History) (m n : ℕ) → Tells files bodies h m →
    Tells files bodies k n → (h ≡ k) × (m ≡ n)
one_history files bodies h k m n one two =
    let root : one.root ≡ two.root = one_root_told bodies one.root two.root one.newest two.newest in
    let base : h.base ≡ k.base =
    one_base files two.root h.base k.base (subst (λ r. IsBaseOf files r h.base) root one.base) two.base in
    let entries : h.entries ≡ k.entries = one_list_told bodies two.root.checkpoint h.entries k.entries
    (subst (λ (r : PlainRoot). TellsEntries bodies r.checkpoint h.entries) root one.entries) two.entries in (
      λ i. record { base = base i; entries = entries i },
      one.merged ∙ ap₂ (λ (r : PlainRoot) es. merge_after r.merge es) root entries ∙ sym two.merged,
    )

-- what bodies tell the same bodies tell
same_told : (files : Files) (some others : Bodies) (h : History) (m : ℕ) →
    ((file : ℕ) → file < DIRECTORY_LOGS → some file ≡ others file) → Tells files some h m → Tells files others h m
same_told files some others h m same told = record {
  root = told.root;
  newest = same_root some others told.root (same 2 (omega arith)) (same 3 (omega arith)) told.newest;
  base = told.base;
  entries = same_entries some others told.root.checkpoint h.entries (same 0 (omega arith)) (same 1 (omega arith))
      told.entries;
  rules = told.rules;
  merged = told.merged;
  horizon = told.horizon;
}

-- of one image the same files tell one history and one merge timestamp
pub one_is_told : (files : Files) (image : Image) (some others : Bodies) (h k : History) (m n : ℕ) →
    HasBodies some image → HasBodies others image → Tells files some h m → Tells files others k n → (h ≡ k) × (m ≡ n)
one_is_told files image some others h k m n has have one two =
    one_history files others h k m n (same_told files some others h m
    (λ file known. one_frames some others image file has have known) one) two

pub one_base_is_shown : OneBaseIsShown
one_base_is_shown files image base other one two =
    let same = one_is_told files image one.bodies two.bodies one.history two.history one.merge two.merge one.has two.has
    one.tells two.tells in
    one.shown ∙ ap₂ shown_from same.1 same.0 ∙ sym two.shown
