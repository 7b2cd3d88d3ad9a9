-- This project's own: the traces of runs, byte for byte.
use Rattle.std.specs.Prelude.{◌≡◌, Some}
use Rattle.example_runs.specs.Play.{output}
use Rattle.example_runs.specs.Texts.{alike, alike_trace, guests, guests_trace, later, later_trace, no_ring, no_ring_trace, one_place, one_place_trace, poked, poked_trace, short, short_trace, workers, workers_trace}

abbrev pub RunsAreAsWritten : Type 0
RunsAreAsWritten =
    (output 0 guests ≡ Some guests_trace)
    × (output 0 no_ring ≡ Some no_ring_trace)
    × (output 0 workers ≡ Some workers_trace)
    × (output 0 one_place ≡ Some one_place_trace)
    × (output 0 poked ≡ Some poked_trace)
    × (output 0 later ≡ Some later_trace)
    × (output 0 short ≡ Some short_trace)
    × (output 0 alike ≡ Some alike_trace)
