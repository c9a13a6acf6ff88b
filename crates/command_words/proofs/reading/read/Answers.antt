use Rattle.std.proofs.Common.{map, string_bytes}
use Rattle.command_words.proofs.TellingLemmas.{read_more, refused, refused_of, taken_of, unnamed}
use Rattle.command_words.proofs.reading.read.Goals as goal

pub returns-in_err-ok : goal.returns-in_err-ok
returns-in_err-ok c = rw c.from_residual.ensures
    (refused (map string_bytes c.args.words.now) c.loop-argument.reading (map string_bytes c.loop-argument.rest.now)
    (map string_bytes c.in-Some.behind.now) c.in-Some.argument c.loop-argument.invariant c.in-Some.ensures
    (refused_of c.take.result c.in_err-ok.ensures.value c.take.ensures.refused))

pub loop-argument-preserved : goal.loop-argument-preserved
loop-argument-preserved c =
    read_more (map string_bytes c.args.words.now) c.loop-argument.reading c.take.new.self
    (map string_bytes c.loop-argument.rest.now) (map string_bytes c.in-Some.behind.now) c.in-Some.argument
    c.loop-argument.invariant c.in-Some.ensures
    (taken_of c.take.result c.in_ok-ok.field-0 c.in_ok-ok.ensures.value c.take.ensures.added)

pub returns-in_err-directory : goal.returns-in_err-directory
returns-in_err-directory c = rw c.from_residual-in_err-directory.ensures
    (unnamed (map string_bytes c.args.words.now) c.loop-argument.reading (map string_bytes c.loop-argument.rest.now)
    c.loop-argument.invariant c.in_default.ensures c.in_err-directory.ensures)
