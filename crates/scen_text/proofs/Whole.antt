-- A whole text: what its first line and the lines behind it make.
use Rattle.std.proofs.Common.{◌≡◌, ℕ, ◌+◌, ◌<◌, ◌≤◌, ◌^◌, List, [], ◌∷◌, length, Some, Ok, Err, refl, ap, arith}
use Rattle.std.proofs.lemmas.Bool.{le-ltb, lt-ltb}
use Rattle.text_fields.specs.Lines.{lines_of}
use Rattle.scen_text.specs.declared.builder.Builder.{Builder}
use Rattle.tap_ground.specs.declared.error.OrMemory.{OrMemory}
use Rattle.tap_ground.specs.declared.error.OrMemory.TheVariants as error
use Rattle.scen_text.specs.declared.fault.ScenFault.{ScenFault}
use Rattle.scen_words.specs.declared.fault.Why.{Why}
use Rattle.scen_words.specs.declared.fault.Why.TheVariants as why
use Rattle.scen_text.specs.declared.scenario.Scenario.{Scenario}
use Rattle.scen_words.specs.declared.sentence.Sentence.{Sentence}
use Rattle.scen_text.specs.Building.{Builds, Keeps}
use Rattle.scen_text.specs.Refusals.{first_refusal, said_in, said_of, said_of_lines}
use Rattle.scen_text.specs.Scenario.{IsError, Stands, scenario_of}
use Rattle.scen_words.specs.Sentences.{version_of}
use Rattle.scen_text.proofs.Lines.{lines_bound}

pub too_long : (bytes : List ℕ) → 67108864 < length bytes → first_refusal bytes ≡ Some (let f : ScenFault = record { line = 0; why = why.TooLong } in f)
unfolding said_of
too_long bytes h = rw (lt-ltb 67108864 (length bytes) h) refl

-- a text within the limit is judged by its lines
by_lines : (bytes : List ℕ) → length bytes ≤ 67108864 → said_of bytes ≡ said_of_lines (lines_of bytes)
unfolding said_of
by_lines bytes h = rw (le-ltb 67108864 (length bytes) h) refl

pub no_line : (bytes : List ℕ) → length bytes ≤ 67108864 → lines_of bytes ≡ [] → first_refusal bytes ≡ Some (let f : ScenFault = record { line = 1; why = why.Version } in f)
unfolding said_of_lines
no_line bytes h none = rw (by_lines bytes h, none) refl

pub bad_version : (bytes first : List ℕ) (rest : List (List ℕ)) (w : Why) → length bytes ≤ 67108864 → lines_of bytes ≡ first ∷ rest → version_of first ≡ Err w
    → first_refusal bytes ≡ Some (let f : ScenFault = record { line = 1; why = w } in f)
unfolding said_of_lines
bad_version bytes first rest w h is v = rw (by_lines bytes h, is, v) refl

pub few_lines : (bytes first : List ℕ) (rest : List (List ℕ)) → length bytes ≤ 67108864 → lines_of bytes ≡ first ∷ rest → length rest + 2 < 2 ^ 32
few_lines bytes first rest h is =
    let count = ap (λ (ls : List (List ℕ)). length ls) is in
    omega (arith, lines_bound bytes, count)

pub refused : (bytes first : List ℕ) (rest : List (List ℕ)) (v : ℕ) (e : OrMemory ScenFault) → length bytes ≤ 67108864 → lines_of bytes ≡ first ∷ rest
    → version_of first ≡ Ok v → Builds v rest (Err e) → IsError bytes e
unfolding said_of_lines
refused bytes first rest v (error.Fault f) h is version builds = rw (by_lines bytes h, is, version, builds) refl
refused bytes first rest v error.NoMemory h is version builds = tt

pub found : (bytes first : List ℕ) (rest : List (List ℕ)) (v : ℕ) (b : Builder) (s : Scenario) → length bytes ≤ 67108864 → lines_of bytes ≡ first ∷ rest
    → version_of first ≡ Ok v → Builds v rest (Ok b) → ((said : List Sentence) → Keeps b said → s ≡ scenario_of (said_in v said)) → Stands bytes s
unfolding said_of_lines
found bytes first rest v b s h is version builds made =
    (said_in v builds.0, rw (by_lines bytes h, is, version, builds.1) refl, made builds.0 builds.2)
