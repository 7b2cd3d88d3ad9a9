-- This project's own: what is promised of the runs behind what is written.
use Rattle.std.specs.Prelude.{ℕ, ◌↔◌}
use Rattle.scen_plain.specs.PlainRun.{IsPlainRun, IsSoundRun}
use Rattle.scen_text.specs.declared.scenario.Scenario.{Scenario}
use Rattle.tap_trace.specs.declared.trace.Trace.{Trace}
use Rattle.tap_words.specs.declared.request.Request.{Request}
use Rattle.tap_words.specs.declared.request.Request.TheVariants.{Plain, Upgrade}

-- The headline. The run that a seed picks is sound: each accepted frame stands exactly once in the world that it ends
-- in, frames leave each line in the order placed, and each chain is published used at most once. An upgrade has the same
-- traces, seed by seed.
abbrev pub Headline : Request → Scenario → Type 0
Headline (Plain seed json) s = (t : Trace) (p : IsPlainRun s seed t) → IsSoundRun s p.events p.world
Headline Upgrade s =
    (seed : ℕ) (t : Trace) → IsPlainRun s seed t ↔ IsPlainRun (record s { version = 2 }) seed t
Headline request s = Unit {0}
