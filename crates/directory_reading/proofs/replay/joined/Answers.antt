use Rattle.std.proofs.Common.{◌≡◌, ◌∙◌, ◌++◌, List, ap, nat_lt, rules}
use Rattle.std.proofs.lemmas.Fn.{filter_same}
use Rattle.directory_meaning.specs.Bodies.{Numbered, past}
use Rattle.directory_reading.proofs.replay.joined.Goals as goal

pub returns : goal.returns
returns c =
    let first : c.retain.new.self.items ≡ past c.args.checkpoint c.args.earlier.items =
    filter_same _ (λ (e : Numbered). nat_lt c.args.checkpoint e.0) _ (λ x b f' k. search rules) _ _
    c.retain.ensures.filtered in
    let second : c.retain-2.new.self.items ≡ past c.args.checkpoint c.args.later.items =
    filter_same _ (λ (e : Numbered). nat_lt c.args.checkpoint e.0) _ (λ x b f' k. search rules) _ _
    c.retain-2.ensures.filtered in
    c.in_ok-append.ensures.items
    ∙ ap (λ (l : List Numbered). l ++ c.retain-2.new.self.items) first
    ∙ ap (λ (l : List Numbered). past c.args.checkpoint c.args.earlier.items ++ l) second
