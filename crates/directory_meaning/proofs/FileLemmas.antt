-- Files that no part names change nothing.
use Rattle.std.proofs.Common.{ℕ}
use Rattle.disk_model.specs.Files.{Files}
use Rattle.doc_meaning.specs.History.{Base, History}
use Rattle.journal_bodies.specs.Roots.{PlainRoot}
use Rattle.directory_meaning.specs.Bodies.{Bodies}
use Rattle.directory_meaning.specs.Laws.{OtherFilesDoNotCount}
use Rattle.directory_meaning.specs.Shown.{IsBaseOf, Tells}

-- a base has no parts so far, so it is that of the root with any files
other_base : (files more : Files) (root : PlainRoot) (base : Base) → IsBaseOf files root base → IsBaseOf more root base
other_base files more root base is = record {
  front = is.front;
  horizon = is.horizon;
  settings = is.settings;
  each = is.each;
  databases = is.databases;
}

other_told : (files more : Files) (bodies : Bodies) (h : History) (m : ℕ) → Tells files bodies h m →
    Tells more bodies h m
other_told files more bodies h m t = record {
  root = t.root;
  newest = t.newest;
  base = other_base files more t.root h.base t.base;
  entries = t.entries;
  rules = t.rules;
  merged = t.merged;
  horizon = t.horizon;
}

pub other_files_do_not_count : OtherFilesDoNotCount
other_files_do_not_count files more image base same shows = record {
  bodies = shows.bodies;
  history = shows.history;
  merge = shows.merge;
  has = shows.has;
  tells = other_told files more shows.bodies shows.history shows.merge shows.tells;
  ordered = shows.ordered;
  shown = shows.shown;
}
