-- Each scenario that some text stands for is laid.
use Rattle.std.proofs.Common.{◌≡◌, ℕ, ◌≤◌, [], sym, subst, ◌∙◌, append-nil, le_trans, arith}
use Rattle.scen_words.specs.Laws.{SentencesFit, ValuesAreKept, WordsAreKept}
use Rattle.scen_words.specs.declared.limits.TheConstants.{MAX_BYTES}
use Rattle.scen_text.specs.Before.{names_of, phases_of}
use Rattle.scen_text.specs.Refusals.{Said}
use Rattle.scen_text.specs.Scenario.{scenario_of}
use Rattle.scen_laid.specs.Laid.{IsLaid, ReadIsLaid}
use Rattle.scen_laid.proofs.Histories.{GivenUpTo, text_given}
use Rattle.scen_laid.proofs.Naming.{Grows, are_names}
use Rattle.scen_laid.proofs.Ordered.{few_phases, lines_are, phases_numbered}
use Rattle.scen_laid.proofs.Phased.{phased}
use Rattle.scen_laid.proofs.Setups.{laid_down, lays, names_laid}

le_of : {n m most : ℕ} → n ≡ m → m ≤ most → n ≤ most
le_of e h = omega (arith, e, h)

pub said_is_laid : WordsAreKept → ValuesAreKept → (said : Said) → GivenUpTo MAX_BYTES said → IsLaid (scenario_of said)
unfolding scenario_of
said_is_laid words values said g =
    let e = said.sentences in
    let h = g.accepted in
    let s = scenario_of said in
    let l = lays s said.version e h in
    let ls = lines_are said.version e h in
    let grows : Grows (names_of e) (laid_down s e).names = ([], names_laid s e ∙ sym (append-nil (names_of e))) in
    record {
      declarations = l.ranges;
      places = l.good.places;
      capacities = l.good.capacities;
      guests = l.good.guests;
      memories = l.good.memories;
      programs = l.good.programs;
      flows = l.good.flows;
      few = l.good.few;
      names = are_names said.version e h;
      numbers = phases_numbered 0 (phases_of e) ls.numbers;
      phases = phased words values said.version e h (laid_down s e) grows l.is;
      limits = record { phases = le_trans (few_phases e) g.few; commands = le_of ls.count ls.few; turns = le_of ls.turned ls.few_turns };
    }

pub read_is_laid : SentencesFit → WordsAreKept → ValuesAreKept → ReadIsLaid
read_is_laid fit words values bytes s stands =
    let said = stands.0 in
    subst IsLaid (sym stands.2) (said_is_laid words values said (text_given fit bytes said stands.1))
