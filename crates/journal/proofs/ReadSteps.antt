-- A log that was read, before and after other logs are.
use Rattle.std.proofs.Common.{ℕ, List}
use Rattle.disk_model.specs.Stretches.{OnlyRead}
use Rattle.disk_model.specs.declared.disk.Disk
use Rattle.frame_log.specs.LogStates.{Holds}
use Rattle.frame_log.specs.Scanned.{Opens}
use Rattle.frame_log.specs.declared.log.Log.{Log}
use Rattle.journal.specs.LogReading.{IsRead}
use Rattle.journal.proofs.Syncs.{settled_still}

module _ {D : Type 0} (of_disk : Disk.Ghosts D) where
  -- the log has its frames after the disk was only read
  holds_later : (old new : D) (log : Log) (bodies : List (List ℕ)) → OnlyRead of_disk old new
      → Holds of_disk log old bodies → Holds of_disk log new bodies
  holds_later old new log bodies read holds = record {
    good = holds.good;
    represents = record {
      told = rw read.same holds.represents.told;
      at_end = holds.represents.at_end;
      images = λ c left. holds.represents.images c (read.fewer c left);
    };
  }

  opens_later : (file : ℕ) (old mid new : D) (log : Log) (bodies : List (List ℕ)) → OnlyRead of_disk mid new
      → Opens of_disk file old mid log bodies → Opens of_disk file old new log bodies
  opens_later file old mid new log bodies read opens = record {
    of_file = opens.of_file;
    up = opens.up;
    place = opens.place;
    within = rw read.same opens.within;
    holds = λ told settled. holds_later mid new log bodies read (opens.holds told settled);
  }

  opens_earlier : (file : ℕ) (old mid new : D) (log : Log) (bodies : List (List ℕ)) → OnlyRead of_disk old mid
      → Opens of_disk file mid new log bodies → Opens of_disk file old new log bodies
  opens_earlier file old mid new log bodies read opens = record {
    of_file = opens.of_file;
    up = opens.up;
    place = opens.place;
    within = opens.within;
    holds = λ told settled. opens.holds (rw read.same told)
        (settled_still file (of_disk.seen old) (of_disk.seen mid) (of_disk.may_leave old) (of_disk.may_leave mid)
        read.same read.fewer settled);
  }

  -- a log that was read is so after the disk was only read
  pub read_later : (file : ℕ) (old mid new : D) (log : Log) (bodies : List (List ℕ)) → OnlyRead of_disk mid new
      → IsRead of_disk file old mid log bodies → IsRead of_disk file old new log bodies
  read_later file old mid new log bodies read is = record {
    opens = opens_later file old mid new log bodies read is.opens;
    frames = is.frames;
  }

  -- and so it is where the disk was only read before
  pub read_earlier : (file : ℕ) (old mid new : D) (log : Log) (bodies : List (List ℕ)) → OnlyRead of_disk old mid
      → IsRead of_disk file mid new log bodies → IsRead of_disk file old new log bodies
  read_earlier file old mid new log bodies read is = record {
    opens = opens_earlier file old mid new log bodies read is.opens;
    frames = rw read.same at is.frames;
  }
