-- Commands of the scenario and their answers.
use Rattle.std.proofs.Common.{◌≡◌, Some, sym, ap, ◌∙◌}
use Rattle.scen_words.specs.declared.command.Command.{Command}
use Rattle.tap_legal.specs.Numbered.{AnswerAt, Asked, Told}
use Rattle.tap_legal.specs.Case.{Case}
use Rattle.tap_legal.specs.Lookups.{asked_at}
use Rattle.tap_sights.specs.Sight.{In}
use Rattle.tap_sights.specs.Sights.{Sighted}
use Rattle.tap_sights.proofs.Kit.{some_same}
use Rattle.tap_sights.proofs.LinesKit.{at_in}

module _ (c : Case) (s : Sighted c) where
  -- what an answer was asked
  pub command_is : (a : AnswerAt) → In a c.answers → (k : Command) → a.asked ≡ Some k
      → asked_at c a.told.command ≡ Some (record { told = a.told; command = k })
  command_is a i k is =
      let r = s.shape.asked a i in
      r.1 ∙ ap (λ (x : Command). Some (made x)) (some_same r.0 k (sym r.2 ∙ is))
    where
      made : Command → Asked
      made x = record { told = a.told; command = x }

  -- the answer of a command
  pub answer_asked : (x : Asked) → In x c.asked → (a : AnswerAt) × In a c.answers × (a.told ≡ x.told) × (a.asked ≡ Some x.command)
  answer_asked x i =
      let n = at_in c.asked x i in
      let r = s.shape.answered x i in
      let k = s.shape.asked r.0 r.1 in
      let number = ap (λ (t : Told). t.command) r.2 ∙ s.shape.numbers n.0 x n.1 in
      let same = some_same (record { told = r.0.told; command = k.0 }) x (sym k.1 ∙ ap (asked_at c) number ∙ n.1) in
      (r.0, r.1, r.2, k.2 ∙ ap (λ (y : Asked). Some y.command) same)
