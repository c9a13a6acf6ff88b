use Rattle.client_lines.proofs.OnlyReading.{one_reading_is_had}
use Rattle.client_lines.proofs.laws.one_reading_is_had.Goals as goal

pub returns : goal.returns
returns c = one_reading_is_had
