-- This project's own: the row of an event, where it is known how far its command has come, and which command it is.
use Rattle.std.proofs.Common.{◌≡◌, List, Some, sym, ap, ◌∙◌}
use Rattle.scen_words.specs.declared.command.Command.{Command}
use Rattle.tap_world.specs.declared.event.EventKind.{EventKind}
use Rattle.tap_world.specs.declared.told.Said.{Said}
use Rattle.tap_world.specs.Effect.{Effect}
use Rattle.tap_world.specs.Scripts.{next_kind}
use Rattle.tap_world.specs.Setup.{Numbered}
use Rattle.tap_world.specs.Step.{row}
use Rattle.tap_world.specs.World as world
use Rattle.tap_world.specs.World.{Actor, World}
use Rattle.core_shared.specs.Asking.{Asking, setup}
use Rattle.core_shared.specs.Coming.{come_of}
use Rattle.core_shared.specs.Did.{HasEffect}
use Rattle.core_shared.specs.MayDo.{MayDo, actor_at}
use Rattle.core_shared.specs.Worlds.{world_in}
use Rattle.core_shared.specs.declared.doing.Doing.{Doing}
use Rattle.core_shared.specs.declared.shared.Shared.{Shared}

-- the row, by what is known
pub row_by : (a : Asking) (w : World) (kind k : EventKind) (d so_far : world.Doing) (c : Command) (rest : List Numbered)
    → kind ≡ k → d ≡ so_far → a.command ≡ c
    → row (setup a) w kind a.actor (actor_at a d rest) a.number a.command
    ≡ row (setup a) w k a.actor (actor_at a so_far rest) a.number c
row_by a w kind k d so_far c rest ek ed ec =
    ap (λ (q : EventKind). row (setup a) w q a.actor (actor_at a d rest) a.number a.command) ek
    ∙ ap (λ (q : world.Doing). row (setup a) w k a.actor (actor_at a q rest) a.number a.command) ed
    ∙ ap (λ (q : Command). row (setup a) w k a.actor (actor_at a so_far rest) a.number q) ec

pub next_by : (w : World) (d so_far : world.Doing) (a : Asking) (c : Command) → d ≡ so_far → a.command ≡ c
    → next_kind w d a.command ≡ next_kind w so_far c
next_by w d so_far a c ed ec =
    ap (λ (q : world.Doing). next_kind w q a.command) ed ∙ ap (λ (q : Command). next_kind w so_far q) ec

-- which event it is, of which command, and how far that has come
module _ {a : Asking} {d : Doing} {kind : EventKind} {x : Shared} (m : MayDo a d kind x) (so_far : world.Doing)
    (c : Command) (come : come_of x.vhosts d ≡ so_far) (asked : a.command ≡ c) where
  -- its kind
  pub next_is : next_kind (world_in x m.actors m.said) so_far c ≡ Some kind
  next_is = sym (next_by (world_in x m.actors m.said) (come_of x.vhosts d) so_far a c come asked) ∙ m.event.is_next

  -- its effect
  pub row_is : (k : EventKind) → kind ≡ k
      → row (setup a) (world_in x m.actors m.said) k a.actor (actor_at a so_far m.rest) a.number c ≡ Some m.event.effect
  row_is k ek =
      sym (row_by a (world_in x m.actors m.said) kind k (come_of x.vhosts d) so_far c m.rest ek come asked)
      ∙ m.event.is_row

  -- an effect, whoever the other actors are
  pub has_effect : (k : EventKind) (r : Effect) → kind ≡ k
      → ((actors : List Actor) (said : List Said) → next_kind (world_in x actors said) so_far c ≡ Some k)
      → ((actors : List Actor) (said : List Said) (rest : List Numbered)
      → row (setup a) (world_in x actors said) k a.actor (actor_at a so_far rest) a.number c ≡ Some r)
      → HasEffect a (come_of x.vhosts d) kind x r
  has_effect k r ek next is = record {
    is_next = λ actors said. next_by (world_in x actors said) (come_of x.vhosts d) so_far a c come asked
        ∙ next actors said ∙ ap Some (sym ek);
    is_row = λ actors said rest. row_by a (world_in x actors said) kind k (come_of x.vhosts d) so_far c rest ek come
        asked ∙ is actors said rest;
  }
