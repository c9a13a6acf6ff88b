-- What is known of the gates of two pairs of logs.
use Rattle.std.specs.Prelude.{◌≡◌, Option, Some}
use Rattle.frame_log.specs.LogStates.{IsGateUnknown}
use Rattle.journal.specs.declared.broken_off.BrokenOff.{BrokenOff}
use Rattle.journal.specs.declared.broken_off.BrokenOff.TheVariants.{Entry, Root, Reset}
use Rattle.log_pair.specs.PairStates.{current_of, other_of}
use Rattle.log_pair.specs.declared.pair.LogPair.{LogPair}

-- a gate that a fault may have left open is that of the call which was broken off
pub record KnowsGates (entries roots : LogPair) (broken_off : Option BrokenOff) : Type 0 where
  pub entry : IsGateUnknown (current_of entries) → broken_off ≡ Some Entry
  pub root : IsGateUnknown (current_of roots) → broken_off ≡ Some Root
  pub journal : IsGateUnknown (other_of entries) → broken_off ≡ Some Reset
  pub root_log : IsGateUnknown (other_of roots) → broken_off ≡ Some Reset
