-- What is sighted fails nowhere in clause c.
use Rattle.std.proofs.Common.{◌≡◌, []}
use Rattle.tap_legal.specs.Case.{Case, fails_order, of_answer}
use Rattle.tap_legal.specs.Lookups.{put_in, taken_from}
use Rattle.tap_legal.specs.LegalLines.{c_fails, file_numbers, resizes_fail, rises}
use Rattle.tap_sights.specs.Sights.{Sighted}
use Rattle.tap_sights.proofs.Kit.{both_none, none_mapped}
use Rattle.tap_sights.proofs.LinesFiles.{files_are, places_are}
use Rattle.tap_sights.proofs.LinesPlaces.{entries_placed, placed_stand, puts_rise}
use Rattle.tap_sights.proofs.LinesTakers.{copies_are, reads_are, takes_rise}
use Rattle.tap_sights.proofs.LinesEnds.{ends_are, epochs_are, numbers_are, waits_are}
use Rattle.tap_sights.proofs.Cuts.{cut_entries, resizes_are}

-- In the order of the sentences: files; what is placed; entries and their places; places that rise with an actor; epochs and
-- what waits; CLAIMED and FREED; reads and copies; places that are taken; epochs that end; what is cut; resizes.
pub lines_are_legal : (c : Case) → Sighted c → c_fails c ≡ []
lines_are_legal c s =
    both_none _ _ (both_none _ _ (both_none _ _ (both_none _ _ (both_none _ _ (both_none _ _ (both_none _ _ (both_none _ _ (both_none _ _
    (both_none _ _ (both_none _ _ (both_none _ _ (both_none _ _
    (files_are c s)
    (placed_stand c s))
    (entries_placed c s))
    (places_are c s))
    (none_mapped (λ file. fails_order of_answer (rises (put_in file)) c.answers) (file_numbers c) (λ file i. puts_rise c s file)))
    (epochs_are c s))
    (waits_are c s))
    (numbers_are c s))
    (reads_are c s))
    (copies_are c s))
    (none_mapped (λ file. fails_order of_answer (rises (taken_from file)) c.answers) (file_numbers c) (λ file i. takes_rise c s file)))
    (ends_are c s))
    (cut_entries c s))
    (none_mapped (resizes_fail c) (file_numbers c) (λ file i. resizes_are c s file))
