-- What logs tell without entries past the checkpoint.
use Rattle.std.proofs.Common.{◌≡◌, inl, ℕ, zero, suc, ◌+◌, ◌-◌, ◌<◌, ◌≤◌, leb, List, [], ◌∷◌, ◌++◌, length, map, refl, sym, ap, ◌∙◌, subst, arith}
use Rattle.std.proofs.lemmas.Bool.{cond_both}
use Rattle.std.proofs.lemmas.List.Elements.{All-nil}
use Rattle.std.specs.FinMap.{empty}
use Rattle.disk_model.specs.Files.{Files}
use Rattle.doc_model.specs.declared.settings.Settings.{Settings}
use Rattle.doc_meaning.specs.History.{base_at, empty_base, front, settings_of}
use Rattle.journal_bodies.specs.Roots.{PlainRoot, SpellsRoot}
use Rattle.directory_meaning.specs.Bodies.{IsJournal, Numbered, RiseFrom, TellsEntries, by_first_number, past}
use Rattle.directory_meaning.specs.Laws.{FirstRootIsTold, OldEntriesDoNotCount}
use Rattle.directory_meaning.specs.Shown.{TakesNext, Tells, TellsAt, first_root, only_body, without_first}
use Rattle.directory_meaning.proofs.OneLemmas.{same_root}

-- a log without frames is a journal without entries
no_journal : IsJournal [] []
no_journal = record { from = 0; spelled = tt; rises = refl }

-- the only database of the empty base
first_empty : (settings : Settings) (at : ℕ) → at ≤ 0 → base_at (empty_base (settings_of settings)) at ≡ empty
first_empty settings zero high = refl
first_empty settings (suc at) high = absurd (omega (arith, high))

first_told : (files : Files) (settings : Settings) (body : List ℕ) → SpellsRoot body (first_root settings) →
    Tells files (only_body 2 body) (record { base = empty_base (settings_of settings); entries = [] }) 0
first_told files settings body spelled = record {
  root = first_root settings;
  newest = record {
    roots_0 = first_root settings ∷ [];
    roots_1 = [];
    first_log = (spelled, tt);
    second_log = tt;
    newest = record {
      before = [];
      behind = [];
      whole = refl;
      earlier = All-nil (λ (r : PlainRoot). r.number < 1);
      later = All-nil (λ (r : PlainRoot). r.number ≤ 1);
    };
  };
  base = record {
    front = refl;
    horizon = refl;
    settings = refl;
    each = refl;
    databases = λ at low high. (refl, first_empty settings at high);
  };
  entries = record {
    entries_0 = [];
    entries_1 = [];
    first_journal = no_journal;
    second_journal = no_journal;
    rises = refl;
    entries = refl;
  };
  rules = tt;
  merged = refl;
  horizon = omega arith;
}

first_told_at : (files : Files) (settings : Settings) (body : List ℕ) (file : ℕ) →
    SpellsRoot body (first_root settings) → file ≤ 1 →
    IsJournal (only_body 2 body file) [] → IsJournal (only_body 2 body (1 - file)) [] →
    TellsAt files (only_body 2 body) file (record { base = empty_base (settings_of settings); entries = [] }) 0
first_told_at files settings body file spelled journal own other = record {
  tells = first_told files settings body spelled;
  current = record {
    own = [];
    other = [];
    journal = journal;
    own_journal = own;
    other_journal = other;
    takes = record { rises = refl; reaches = refl; next = inl refl };
  };
}

pub first_root_is_told : FirstRootIsTold
first_root_is_told files settings body zero spelled journal =
    first_told_at files settings body 0 spelled journal no_journal no_journal
first_root_is_told files settings body (suc zero) spelled journal =
    first_told_at files settings body 1 spelled journal no_journal no_journal
first_root_is_told files settings body (suc (suc file)) spelled journal = absurd (omega (arith, journal))

-- where journals in turn tell no entry, neither has one
no_turn : (zeros ones : List Numbered) → [] ≡ map (λ e. e.1) (by_first_number zeros ones) → (zeros ≡ []) × (ones ≡ [])
no_turn [] [] none = (refl, refl)
no_turn [] (f ∷ ones) none = absurd (cc)
no_turn (e ∷ zeros) [] none = absurd (cc)
no_turn (e ∷ zeros) (f ∷ ones) none = absurd
    (cond_both (leb e.0 f.0) ((e ∷ zeros) ++ f ∷ ones) ((f ∷ ones) ++ e ∷ zeros)
    (λ (l : List Numbered). [] ≡ map (λ (e : Numbered). e.1) l → ⊥) (λ first same. cc) (λ second same. cc) none)

takes_none : (checkpoint end : ℕ) (other : List Numbered) → past checkpoint other ≡ [] → end ≡ checkpoint →
    TakesNext checkpoint end [] other
takes_none checkpoint end other none at = record {
  rises = subst (λ l. RiseFrom (checkpoint + 1) (l ++ [])) (sym none) refl;
  reaches = omega (arith, ap length none);
  next = inl refl;
}

pub old_entries_do_not_count : OldEntriesDoNotCount
old_entries_do_not_count files bodies h m tells none = record {
  tells = record {
    root = tells.root;
    newest = same_root bodies (without_first bodies) tells.root refl refl tells.newest;
    base = tells.base;
    entries = record {
      entries_0 = [];
      entries_1 = told.entries_1;
      first_journal = no_journal;
      second_journal = told.second_journal;
      rises = subst (RiseFrom (tells.root.checkpoint + 1)) (sym nothing) refl;
      entries = none ∙ ap (map (λ (e : Numbered). e.1)) (sym nothing);
    };
    rules = tells.rules;
    merged = tells.merged;
    horizon = tells.horizon;
  };
  current = record {
    own = [];
    other = told.entries_1;
    journal = omega arith;
    own_journal = no_journal;
    other_journal = told.second_journal;
    takes = takes_none h.base.front (front h) told.entries_1 (ap (λ n. past n told.entries_1) tells.base.front ∙ both.1)
        (omega (arith, ap length none));
  };
}
  where
    told : TellsEntries bodies tells.root.checkpoint h.entries
    told = tells.entries

    both : (past tells.root.checkpoint told.entries_0 ≡ []) × (past tells.root.checkpoint told.entries_1 ≡ [])
    both = no_turn (past tells.root.checkpoint told.entries_0) (past tells.root.checkpoint told.entries_1)
        (sym none ∙ told.entries)

    nothing : by_first_number [] (past tells.root.checkpoint told.entries_1) ≡ []
    nothing = ap (by_first_number []) both.1
