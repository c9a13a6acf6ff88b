-- What a call on one pair leaves of another one.
use Rattle.disk_model.specs.Stretches.{Since}
use Rattle.disk_model.specs.declared.disk.Disk
use Rattle.frame_log.specs.LogStates.{file_of}
use Rattle.log_pair.specs.Bodies.{Bodies}
use Rattle.log_pair.specs.PairStates.{first_of, AreTrimmed, AreWithin, Both, PairLeaves, PairMayHave, PairRepresents}
use Rattle.log_pair.specs.Sparing.{IsApart, SparesOtherPairs}
use Rattle.log_pair.specs.declared.pair.LogPair.{LogPair}

-- no log of the one pair is a log of the other
abbrev pub ArePairsApart : LogPair → LogPair → Type 0
ArePairsApart one other = Both (λ log. IsApart (first_of one) (file_of log)) other

module _ {D : Type 0} (of_disk : Disk.Ghosts D) where
  -- a fact on each pair, where nothing but the logs of another pair changed
  abbrev pub OfOtherPair : (LogPair → LogPair → D → D → Type 0) → Type 0
  OfOtherPair Fact = (one other : LogPair) (old new : D) → ArePairsApart one other
      → SparesOtherPairs of_disk (first_of one) old new → Fact one other old new

  -- its last gates stay within their files
  abbrev pub OtherPairsStayWithin : Type 0
  OtherPairsStayWithin = OfOtherPair (λ one other old new.
      AreWithin other (of_disk.seen old) → AreWithin other (of_disk.seen new))

  -- it represents the frames that it represented
  abbrev pub OtherPairsRepresent : Type 0
  OtherPairsRepresent = (kept more : Bodies) → OfOtherPair (λ one other old new.
      PairRepresents of_disk other old kept more → PairRepresents of_disk other new kept more)

  -- it stays trimmed
  abbrev pub OtherPairsStayTrimmed : Type 0
  OtherPairsStayTrimmed = OfOtherPair (λ one other old new.
      AreTrimmed other (of_disk.seen old) (of_disk.may_leave old)
      → AreTrimmed other (of_disk.seen new) (of_disk.may_leave new))

  -- at each moment a crash leaves of it what it might have left before
  abbrev pub OtherPairsAreLeft : Type 0
  OtherPairsAreLeft = (kept more : Bodies) → OfOtherPair (λ one other old new.
      PairRepresents of_disk other old kept more → Since of_disk old new (PairLeaves other kept more))

  -- at each moment a crash leaves of both pairs what it leaves of each
  abbrev pub BothPairsAreLeft : Type 0
  BothPairsAreLeft = (kept more held rest : Bodies) → OfOtherPair (λ one other old new.
      PairRepresents of_disk other old held rest → Since of_disk old new (PairMayHave one kept more)
      → Since of_disk old new (λ c. PairMayHave one kept more c × PairLeaves other held rest c))
