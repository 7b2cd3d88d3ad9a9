use Rattle.tap_steady.proofs.Joined as joined
use Rattle.tap_steady.proofs.runs_are_steady.Goals as goal

parts : goal.After-ending_is_kept → joined.AreParts
parts c = record {
  there = c.what_is_there_stays.ensures;
  named = c.what_is_named_is_there.ensures;
  placed = c.places_are_kept.ensures;
  lawful = c.what_is_to_be_published_stays_lawful.ensures;
  turns = c.turns_are_kept.ensures;
  sent = c.entries_were_sent.ensures;
  seen = c.what_commands_found_stays.ensures;
  told = c.told_is_kept.ensures;
  ops = c.operations_are_of_commands.ensures;
  sized = c.cuts_are_kept.ensures;
  ended = c.ending_is_kept.ensures;
}

worlds : goal.After-ending_is_kept → joined.WorldLaws
worlds c = record {
  first = c.worlds_go_on.ensures.first;
  begin = c.worlds_go_on.ensures.begin;
  event = c.worlds_go_on.ensures.event;
  end = c.worlds_go_on.ensures.end;
}

pub returns-clause-reached : goal.returns-clause-reached
returns-clause-reached c = λ s w laid is. joined.reached_is_steady (parts c) (worlds c) s w laid (c.laid_runs_are_sound.ensures s laid) is

pub returns-clause-ended : goal.returns-clause-ended
returns-clause-ended c = λ s events w laid is. joined.run_is_steady (parts c) (worlds c) s events w laid (c.laid_runs_are_sound.ensures s laid) is
