-- What is promised of the runs of a scenario that is read.
use Rattle.scen_laid.specs.Laid.{IsLaid}
use Rattle.scen_plain.specs.PlainRun.{PlainRunsAreSound, UpgradeHasSameTraces}
use Rattle.scen_text.specs.declared.scenario.Scenario.{Scenario}
use Rattle.tap_words.specs.declared.request.Request.{Request}
use Rattle.tap_words.specs.declared.request.Request.TheVariants.{Check, Plain, Live, Audit, Gen, Upgrade}
use Rattle.tap_top.specs.Headline.{Headline}

pub headline : (request : Request) (s : Scenario) → IsLaid s → PlainRunsAreSound → UpgradeHasSameTraces → Headline request s
headline Check s laid sound same = tt
headline (Plain seed json) s laid sound same = λ t p. sound s seed t laid p
headline (Live json) s laid sound same = tt
headline Audit s laid sound same = tt
headline (Gen count) s laid sound same = tt
headline Upgrade s laid sound same = λ seed t. same s seed t
