-- Poke and Peek.
use Rattle.std.proofs.Common.{◌≡◌, ℕ, List, [], ◌++◌, length, Option, Some, refl, ap, ◌∙◌}
use Rattle.std.specs.Prelude.{option_map, option_to_list}
use Rattle.guest_mem.specs.Memory.{Contents, first_bad}
use Rattle.scen_words.specs.declared.command.Command.{Command}
use Rattle.scen_words.specs.declared.command.Command.TheVariants as command
use Rattle.tap_ground.specs.Options.{◌>>=◌}
use Rattle.tap_guests.specs.Steps.{step_by}
use Rattle.tap_trace.specs.declared.answer.Answer.{Answer}
use Rattle.tap_trace.specs.declared.kind.Kind.{Kind}
use Rattle.tap_trace.specs.declared.kind.Kind.TheVariants as kind
use Rattle.tap_world.specs.ByNumber.{at, with_at}
use Rattle.tap_world.specs.declared.event.EventKind.{EventKind}
use Rattle.tap_world.specs.declared.event.EventKind.TheVariants as event
use Rattle.tap_world.specs.Effect as world
use Rattle.tap_world.specs.Effect.{Effect, only}
use Rattle.tap_world.specs.Effect.OnGuests.{OnGuest}
use Rattle.tap_world.specs.Guests.{Guest}
use Rattle.tap_world.specs.Scripts.{next_kind}
use Rattle.tap_world.specs.Step.{row}
use Rattle.tap_world.specs.StepControl.{peeked, poke_leaves, poke_told, poked}
use Rattle.tap_world.specs.World.{World}
use Rattle.tap_world.specs.World as come
use Rattle.core_shared.specs.Asking.{Asking, setup}
use Rattle.core_shared.specs.Did.{Did, HasEffect}
use Rattle.core_shared.specs.MayDo.{MayDo, actor_at}
use Rattle.core_shared.specs.Worlds.{world_in}
use Rattle.core_shared.specs.declared.doing.Doing.TheVariants as doing
use Rattle.core_shared.specs.declared.onward.Onward.TheVariants as on
use Rattle.core_shared.specs.declared.shared.Shared.{Shared}
use Rattle.core_shared.proofs.Leaving.{guests_lie_with, no_more, turns_same}

abbrev pub bare : Shared → World
bare x = world_in x [] []

-- a guest after a step on it
abbrev pub stepped : Guest → ℕ → ℕ → Contents → Option Kind → Guest
stepped g actor number m step =
    record { memory = m; steps = g.steps ++ option_to_list (option_map (step_by actor number) step) }

-- one guest changes, and the command ends
abbrev on_guest : Shared → ℕ → ℕ → Contents → Option Kind → Answer → Effect
on_guest x seen guest m step answer =
    record (only (world.Onward.Ends seen answer) (bare x)) { guests = OnGuest guest m step }

guest_did :
    {a : Asking} {kind₀ : EventKind} {x : Shared} (m : MayDo a doing.Begun kind₀ x) (k : EventKind) (guest : ℕ)
    (c : Contents) (step : Option Kind) (answer : Answer) (g : Guest)
    → at x.guests guest ≡ Some g → c.regions ≡ g.memory.regions
    → HasEffect a come.Doing.Begun k x (on_guest x a.seen guest c step answer)
    → Did a doing.Begun k x (record x { guests = with_at guest (stepped g a.actor a.number c step) x.guests })
    (on.Ends a.seen answer)
guest_did {a} {kind₀} {x} m k guest c step answer g is regions has = record {
  effect = on_guest x a.seen guest c step answer;
  has = has;
  left = record {
    ops = no_more x.ops.ops;
    files = refl;
    guests = ap (λ (o : Option Guest). o >>= (λ (h : Guest). Some (with_at guest (stepped h a.actor a.number c step) x.guests))) is;
    vhosts = refl;
    hosted = no_more x.hosted.items;
    dropped = no_more x.dropped.items;
    writer = refl;
    phase = refl;
  };
  onward = refl;
  held = record {
    table = m.held.table;
    frames = m.held.frames;
    vhosts = guests_lie_with x.guests x.vhosts guest g (stepped g a.actor a.number c step) m.held.vhosts is regions;
  };
  suits = tt;
  stay = turns_same a.actor x.vhosts;
}

pub poke_did :
    {a : Asking} {kind₀ : EventKind} {x : Shared} (m : MayDo a doing.Begun kind₀ x) (guest addr : ℕ) (bytes : List ℕ)
    (g : Guest) → a.command ≡ command.Poke guest addr bytes → at x.guests guest ≡ Some g
    → (poke_leaves g.memory addr bytes (first_bad g.memory.regions addr (length bytes))).regions ≡ g.memory.regions
    → Did a doing.Begun event.Poke x (record x {
      guests = with_at guest (stepped g a.actor a.number
          (poke_leaves g.memory addr bytes (first_bad g.memory.regions addr (length bytes))) (Some kind.Poke)) x.guests;
    })
    (on.Ends a.seen (poke_told (first_bad g.memory.regions addr (length bytes))))
poke_did {a} {kind₀} {x} m guest addr bytes g cmd is regions =
    let bad = first_bad g.memory.regions addr (length bytes) in
    guest_did m event.Poke guest (poke_leaves g.memory addr bytes bad) (Some kind.Poke) (poke_told bad) g is regions
    (record {
      is_next = λ actors said. ap (λ (c : Command). next_kind (world_in x actors said) come.Doing.Begun c) cmd;
      is_row = λ actors said rest.
          ap (λ (c : Command). row (setup a) (world_in x actors said) event.Poke a.actor
          (actor_at a come.Doing.Begun rest) a.number c) cmd
          ∙ ap (λ (o : Option Guest). o >>= (λ (h : Guest). Some (poked (world_in x actors said) a.seen guest addr bytes
          h.memory (first_bad h.memory.regions addr (length bytes))))) is;
    })

pub peek_did :
    {a : Asking} {kind₀ : EventKind} {x : Shared} (m : MayDo a doing.Begun kind₀ x) (guest addr len : ℕ)
    (g : Guest) → a.command ≡ command.Peek guest addr len → at x.guests guest ≡ Some g
    → Did a doing.Begun event.Peek x
    (record x { guests = with_at guest (stepped g a.actor a.number g.memory (Some kind.Peek)) x.guests })
    (on.Ends a.seen (peeked addr len g.memory (first_bad g.memory.regions addr len)))
peek_did {a} {kind₀} {x} m guest addr len g cmd is =
    let bad = first_bad g.memory.regions addr len in
    guest_did m event.Peek guest g.memory (Some kind.Peek) (peeked addr len g.memory bad) g is refl
    (record {
      is_next = λ actors said. ap (λ (c : Command). next_kind (world_in x actors said) come.Doing.Begun c) cmd;
      is_row = λ actors said rest.
          ap (λ (c : Command). row (setup a) (world_in x actors said) event.Peek a.actor
          (actor_at a come.Doing.Begun rest) a.number c) cmd
          ∙ ap (λ (o : Option Guest). o >>= (λ (h : Guest). Some (record (only (world.Onward.Ends a.seen
          (peeked addr len h.memory (first_bad h.memory.regions addr len))) (world_in x actors said))
          { guests = OnGuest guest h.memory (Some kind.Peek) }))) is;
    })
