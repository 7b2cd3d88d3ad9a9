-- This project's own: what is printed for the refusal of a scenario.
use Rattle.std.specs.Prelude.{ℕ, List, ◌∷◌, codes}
use Rattle.std.specs.Fmt.{decimal}
use Rattle.scen_text.specs.declared.fault.ScenFault.{ScenFault}
use Rattle.scen_words.specs.Why.{why_fields}

-- `refused LINE WHY`, and the further numbers of the refusal
abbrev pub refused_fields : ScenFault → List (List ℕ)
refused_fields fault = codes "refused" ∷ decimal fault.line ∷ why_fields fault.why
