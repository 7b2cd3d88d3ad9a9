use Rattle.tap_waits.proofs.next_is_allowed_in_runs.Goals as goal

pub returns-clause-next : goal.returns-clause-next
returns-clause-next c = λ s w laid reached steady.
    let runs = c.laid_runs_are_sound.ensures s laid in
    c.next_is_allowed.ensures _ w (λ e r row. runs.new w e r reached row) (runs.reached w reached).sound steady

pub returns-clause-choices : goal.returns-clause-choices
returns-clause-choices c = λ s w laid reached steady.
    let runs = c.laid_runs_are_sound.ensures s laid in
    c.choices_are_next.ensures _ w (λ e r row. runs.new w e r reached row) (runs.reached w reached).sound steady
