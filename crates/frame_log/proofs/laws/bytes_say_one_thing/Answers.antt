use Rattle.frame_log.proofs.OneLemmas.{frames_are_one, damaged_has_none, damage_is_one}
use Rattle.frame_log.proofs.laws.bytes_say_one_thing.Goals as goal

pub returns-clause-one : goal.returns-clause-one
returns-clause-one c = frames_are_one

pub returns-clause-none : goal.returns-clause-none
returns-clause-none c = damaged_has_none

pub returns-clause-place : goal.returns-clause-place
returns-clause-place c = damage_is_one
