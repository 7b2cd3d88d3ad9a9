use Rattle.std.proofs.Common.{◌≡◌, ◌∙◌, ℕ, List, ap, subst}
use Rattle.tap_bridge.specs.Bridge.{Table, at_ports, young, table_after, source, sent_on}
use Rattle.tap_bridge.specs.Kept.{AreAt}
use Rattle.tap_bridge.specs.Steps.{trimmed}
use Rattle.tap_bridge.specs.Laws.{IsSound}
use Rattle.tap_bridge.proofs.Sound.{steps_are_one, after_sound}
use Rattle.tap_bridge.proofs.bridge.Bridge.frame.Goals as goal

pub keep_ports-requires-clause-at_ports : goal.keep_ports-requires-clause-at_ports
keep_ports-requires-clause-at_ports c same =
    c.put_source.ensures.at_ports c.args.ports.now c.requires.own
    (subst (λ (ports : List ℕ). AreAt ports c.self.inside.by_address.entries) same c.self.invariant.at_ports)

-- the table as it was is sound
sound_before : (c : goal.After-fill) → IsSound c.self.inside.by_address.entries
sound_before c = record { ordered = c.self.invariant.ordered; few = c.self.invariant.few }

-- the steps are one
entries_are : (c : goal.After-fill)
    → c.trim.new.by_address.entries ≡ table_after c.args.port c.args.bytes.now c.args.now c.args.ports.now c.self.inside.by_address.entries
entries_are c =
    c.trim.ensures.entries
    ∙ ap (λ (t : Table). trimmed (source c.args.bytes.now) t)
    (c.drop_old.ensures.entries
    ∙ ap (λ (t : Table). young c.args.now t)
    (c.keep_ports.ensures.entries ∙ ap (λ (t : Table). at_ports c.args.ports.now t) c.in_ok-put_source.ensures.entries))
    ∙ steps_are_one c.args.port c.args.bytes.now c.args.now c.args.ports.now c.self.inside.by_address.entries c.requires.own (sound_before c)

pub invariant_of-self-2 : goal.invariant_of-self-2
invariant_of-self-2 c = record {
  timed = c.trim.ensures.timed;
  ordered = c.trim.ensures.ordered;
  at_ports = λ a s h. c.keep_ports.ensures.at_ports a s (c.drop_old.ensures.part a s (c.trim.ensures.part a s h));
  few = rw (entries_are c) (after_sound c.args.port c.args.bytes.now c.args.now c.args.ports.now c.self.inside.by_address.entries (sound_before c)).few;
}

pub returns-clause-table : goal.returns-clause-table
returns-clause-table c =
    entries_are c ∙ ap (λ (t : Table). table_after c.args.port c.args.bytes.now c.args.now c.args.ports.now t) c.self.view_is

pub returns-clause-answer : goal.returns-clause-answer
returns-clause-answer c =
    c.fill.ensures ∙ ap (λ (t : Table). sent_on c.args.port c.args.bytes.now c.args.ports.now t) (returns-clause-table c)
