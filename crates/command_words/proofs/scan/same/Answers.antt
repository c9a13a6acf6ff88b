use Rattle.std.proofs.lemmas.Slice.Eq.{slice_eq-Decides}
use Rattle.std.proofs.lemmas.Bool.Decides.{Decides-eqb}
use Rattle.command_words.proofs.scan.same.Goals as goal

pub returns : goal.returns
returns c = slice_eq-Decides Decides-eqb c.args.word.now c.args.text.now c.eq.result c.eq.ensures
