-- This project's own: the numbers of the refusals of a scenario.
use Rattle.std.specs.Prelude.{ℕ, List, [], ◌∷◌}
use Rattle.std.specs.Fmt.{decimal}
use Rattle.ebpf_code.specs.Faults.{number}
use Rattle.guest_mem.specs.Regions.{number_of_fault}
use Rattle.scen_words.specs.declared.fault.Why.{Why}
use Rattle.scen_words.specs.declared.fault.Why.TheVariants.{TooLong, NotText, Version, Word, Fields, Number, Hex, Late, Twice, Unknown, Region, Program, Phase, Limit}

-- the number that is printed for a refusal; of the refusals of one line the one with the least number comes first
abbrev pub why_number : Why → ℕ
why_number TooLong = 1
why_number NotText = 2
why_number Version = 3
why_number Word = 4
why_number Fields = 5
why_number Number = 6
why_number Hex = 7
why_number Late = 8
why_number Twice = 9
why_number Unknown = 10
why_number (Region fault) = 11
why_number (Program fault) = 12
why_number Phase = 13
why_number Limit = 14

-- the further numbers of a refusal: which fault the regions have; which fault a program has, and its place
abbrev pub further_numbers : Why → List (List ℕ)
further_numbers (Region fault) = decimal (number_of_fault fault) ∷ []
further_numbers (Program fault) = decimal (number fault.why) ∷ decimal fault.place ∷ []
further_numbers why = []

-- what is printed for a refusal: its number, and the further ones
abbrev pub why_fields : Why → List (List ℕ)
why_fields why = decimal (why_number why) ∷ further_numbers why
