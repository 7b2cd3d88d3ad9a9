-- This project's own: the programs of declarations.
use Rattle.std.specs.Prelude.{ℕ, List, [], ◌∷◌}
use Rattle.scen_words.specs.declared.declaration.Declaration.{Declaration}
use Rattle.scen_words.specs.declared.declaration.Declaration.TheVariants as declaration

-- the programs that are declared, with their numbers, in their order
abbrev pub programs_in : List Declaration → List (ℕ × List ℕ)
programs_in [] = []
programs_in (declaration.Prog program code ∷ ds) = (program, code) ∷ programs_in ds
programs_in (d ∷ ds) = programs_in ds
