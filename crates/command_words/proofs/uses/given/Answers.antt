use Rattle.std.proofs.Common.{map, string_bytes}
use Rattle.command_words.proofs.UseLemmas.{apart_first, empty_text, joined_first, no_option}
use Rattle.command_words.proofs.uses.given.Goals as goal

pub returns-in_err-setting : goal.returns-in_err-setting
returns-in_err-setting c = rw c.from_residual.ensures
    (no_option c.args.word.now (map string_bytes c.args.behind.now) c.requires c.in_err-setting.ensures)

pub returns-in-Some : goal.returns-in-Some
returns-in-Some c =
    joined_first c.args.word.now (map string_bytes c.args.behind.now) c.in_ok-setting.setting
    c.in_ok-setting.tail.now c.in-Some.value c.in_ok-setting.ensures c.in-Some.ensures

pub returns-in-len1-up : goal.returns-in-len1-up
returns-in-len1-up c =
    apart_first c.args.word.now c.args.behind.now c.value-item.result c.in_ok-setting.setting
    c.in_ok-setting.tail.now c.deref-in-len1-up.result c.deref.result.now c.in_ok-setting.ensures
    (empty_text c.in_ok-setting.tail.now c.is_empty.result c.is_empty.ensures c.if-is_empty.true)
    c.in-len1-up.len_at_least c.value-item.is c.deref-in-len1-up.ensures c.deref.ensures
    (c.has_no_dash.ensures.0 c.if-has_no_dash.true)
