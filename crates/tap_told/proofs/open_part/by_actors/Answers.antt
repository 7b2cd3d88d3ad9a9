use Rattle.std.proofs.Common.{rules, nat_lt, ◌∙◌}
use Rattle.std.proofs.lemmas.Fn.{always_returns_same, filter_same}
use Rattle.std.proofs.lemmas.List.Sorted.{IsNonDecreasingBy-from_sort_by_key}
use Rattle.tap_trace.specs.declared.trace.AnswerLine.{AnswerLine}
use Rattle.tap_told.proofs.Actors.{in_actor_order}
use Rattle.tap_told.proofs.open_part.by_actors.Goals as goal

pub returns : goal.returns
returns c =
    let sorted = c.in_ok-sort_by_key.ensures in
    let kept = filter_same _ (λ (x : AnswerLine). nat_lt x.actor c.args.actors) _ (λ x b f' k. search rules) _ _ c.retain.ensures.filtered in
    c.from_vec.ensures
    ∙ in_actor_order c.args.actors c.args.answers.items c.retain.new.self.items c.sort_by_key.new.self.items kept sorted.permutation
    (IsNonDecreasingBy-from_sort_by_key (λ (x : AnswerLine). x.actor) _ sorted.sorted (λ a r f' k. search rules))
    (sorted.stable (λ (x : AnswerLine). x.actor) (always_returns_same _ _ _ (λ a r f' k. search rules)))
