use Rattle.std.proofs.Common.{ap, ◌∙◌, subst, refl, drop, get_or}
use Rattle.std.specs.Str.{IsUtf8}
use Rattle.std.specs.List.{prefix_len}
use Rattle.json_text.specs.Strings.{is_plain}
use Rattle.json_text.proofs.EscapedRuns.{headed, nothing_left, cut_there, after_escape, needs_escape, no_escape, escape_between}
use Rattle.json_text.proofs.quoting.split_escape.Goals as goal

pub split_at-requires : goal.split_at-requires
split_at-requires c =
    cut_there c.args.text.now c.run_len.result (c.run_len.ensures ∙ ap (prefix_len is_plain) c.as_bytes.ensures.value)

pub range_from-requires : goal.range_from-requires
range_from-requires c =
    let n = c.run_len.ensures ∙ ap (prefix_len is_plain) c.as_bytes.ensures.value in
    let rest = c.split_at.result.1.now in
    let b = get_or c.as_bytes-2.result.now 0 0 in
    let is = headed rest c.as_bytes-2.result.now (drop 1 rest) c.as_bytes-2.ensures.value c.in-len1-up.len_at_least refl in
    let escape = needs_escape c.args.text.now rest (drop 1 rest) c.run_len.result b n c.split_at.ensures.back is in
    λ lt. after_escape rest (drop 1 rest) b (subst IsUtf8 c.as_bytes-2.ensures.value c.as_bytes-2.ensures.utf8) escape is

pub returns-in-empty-clause-parts : goal.returns-in-empty-clause-parts
returns-in-empty-clause-parts c =
    let n = c.run_len.ensures ∙ ap (prefix_len is_plain) c.as_bytes.ensures.value in
    let rest = nothing_left c.split_at.result.1.now c.as_bytes-2.result.now c.as_bytes-2.ensures.value c.in-empty.len_below in
    no_escape c.args.text.now c.split_at.result.0.now c.split_at.result.1.now c.run_len.result c.utf8.text n
    c.split_at.ensures.front c.split_at.ensures.back rest

pub returns-in-len1-up-clause-parts : goal.returns-in-len1-up-clause-parts
returns-in-len1-up-clause-parts c =
    let n = c.run_len.ensures ∙ ap (prefix_len is_plain) c.as_bytes.ensures.value in
    let rest = c.split_at.result.1.now in
    let b = get_or c.as_bytes-2.result.now 0 0 in
    let is = headed rest c.as_bytes-2.result.now c.range_from.result.now c.as_bytes-2.ensures.value
    c.in-len1-up.len_at_least c.range_from.ensures.value in
    escape_between c.args.text.now c.split_at.result.0.now rest c.range_from.result.now c.run_len.result b c.utf8.text
    n c.split_at.ensures.front c.split_at.ensures.back is

pub returns-in-len1-up-clause-byte : goal.returns-in-len1-up-clause-byte
returns-in-len1-up-clause-byte c =
    let n = c.run_len.ensures ∙ ap (prefix_len is_plain) c.as_bytes.ensures.value in
    let rest = c.split_at.result.1.now in
    let b = get_or c.as_bytes-2.result.now 0 0 in
    let is = headed rest c.as_bytes-2.result.now c.range_from.result.now c.as_bytes-2.ensures.value
    c.in-len1-up.len_at_least c.range_from.ensures.value in
    needs_escape c.args.text.now rest c.range_from.result.now c.run_len.result b n c.split_at.ensures.back is
