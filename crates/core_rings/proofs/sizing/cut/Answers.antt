use Rattle.std.proofs.Common.{ℕ, ◌-◌, ◌^◌, ◌≤◌, Some, ◌∙◌, refl, ap, arith}
use Rattle.tap_world.specs.declared.event.EventKind.TheVariants as kind
use Rattle.core_shared.specs.declared.doing.Doing.TheVariants as doing
use Rattle.tap_world.specs.Line.{in_ring, last_that}
use Rattle.core_rings.proofs.Done.{file_done, frames_go, goes_named}
use Rattle.core_rings.proofs.Events.{here, there}
use Rattle.core_rings.proofs.Rows.{cut_event}
use Rattle.scen_words.specs.declared.command.Command.{Command}
use Rattle.tap_world.specs.Setup.{Numbered}
use Rattle.tap_world.specs.Steady.{IsShrinking}
use Rattle.tap_world.specs.World.Doing.{Shrinks}
use Rattle.core_shared.specs.Asking.{Asking, setup}
use Rattle.core_shared.specs.MayDo.{MayDo, actor_at}
use Rattle.core_shared.specs.Worlds.{world_in}
use Rattle.core_shared.specs.declared.shared.Shared.{Shared}
use Rattle.core_rings.proofs.sizing.cut.Goals as goal

abbrev numbered : ℕ → Command → Numbered
numbered n c = record { number = n; command = c }

-- it has cut no more frames than there are places
cuts_few : (a : Asking) (x : Shared) (file capacity places n : ℕ) → MayDo a (doing.Shrinks file capacity places n) kind.Cut x → n ≤ 2 ^ 40 - 1
cuts_few a x file capacity places n m =
    let now = ap (λ (c : Command). Some (numbered a.number c)) m.suits in
    let s : IsShrinking (setup a) (world_in x m.actors m.said) a.actor file places n capacity =
    m.steady.sized a.actor (actor_at a (Shrinks file places n) m.rest) m.is_actor a.number file capacity file places n now refl in
    let room = (m.sound.lines file s.f s.is_there).ordered.places in
    let most = s.most in
    let many = s.as_many in
    omega (arith, room, most, many)

pub overflow_add-result : goal.overflow_add-result
overflow_add-result c =
    let few = cuts_few c.args.asked.now c.args.shared.now c.args.file c.args.capacity c.args.claimed c.args.cuts c.requires.may in
    omega (arith, few)

pub side_mut-requires : goal.side_mut-requires
side_mut-requires c =
    there _ _ _ _ _ _ _ _ (cut_event c.args.asked.now c.args.shared.now c.args.file c.args.capacity c.args.claimed c.args.cuts c.requires.may)

pub cut-requires : goal.cut-requires
cut-requires c =
    let e = here _ _ _ _ _ _ _ _ _ (cut_event c.args.asked.now c.args.shared.now c.args.file c.args.capacity c.args.claimed c.args.cuts c.requires.may)
    c.side_mut.ensures.value in
    e.may

pub returns : goal.returns
returns c =
    let m = c.requires.may in
    let e = here _ _ _ _ _ _ _ _ _ (cut_event c.args.asked.now c.args.shared.now c.args.file c.args.capacity c.args.claimed c.args.cuts m)
    c.side_mut.ensures.value in
    let line = c.side_mut.result.now.file.line in
    let sent = frames_go c.args.asked.now c.args.shared.now c.args.file c.side_mut.result.now _ _ _ m.held c.side_mut.ensures.value
    c.cut.ensures.frame in
    let name = c.end-name.ensures ∙ goes_named line (last_that in_ring line) c.cut.result e.found c.cut.ensures.frame.its e.is_found in
    record {
      did = file_done c.args.asked.now (doing.Shrinks c.args.file c.args.capacity c.args.claimed c.args.cuts) kind.Cut c.args.shared.now c.args.file
          _ _ _ _ _ e.has m.held c.side_mut.ensures.value c.cut.ensures.file sent (rw (c.seen.ensures, name) refl) m.suits;
    }
