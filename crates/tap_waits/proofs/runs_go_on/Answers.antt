use Rattle.tap_waits.proofs.Going.{can_go_on}
use Rattle.tap_waits.proofs.runs_go_on.Goals as goal

pub returns : goal.returns
returns c = λ s w laid reached.
    let steady = c.runs_are_steady.ensures.reached s w laid reached in
    let each = c.next_is_allowed_in_runs.ensures.next s w laid reached steady in
    let choices = c.next_is_allowed_in_runs.ensures.choices s w laid reached steady in
    let sound = ((c.laid_runs_are_sound.ensures s laid).reached w reached).sound in
    record {
      each = each;
      choices = choices;
      goes_on = λ left. can_go_on _ w each choices (c.no_standstill.ensures _ w sound steady left);
    }
