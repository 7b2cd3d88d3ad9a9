use Rattle.std.proofs.Common.{◌≡◌, ℕ, Option, sym, ap, ◌∙◌}
use Rattle.tap_frame.specs.Frame.{FrameValue}
use Rattle.tap_guests.specs.Side.{Side}
use Rattle.tap_sound.proofs.Kit.{some_same}
use Rattle.tap_world.specs.StepTransmits.{chains_after}
use Rattle.core_transmit.specs.Stepping.{Tells, held_in, onward_by}
use Rattle.core_transmit.proofs.steps.go_on.Goals as goal

pub returns : goal.returns
returns c =
    let tells : Tells c.args.asked.now c.args.vhost c.unwrap-kind.result c.args.shared.now c.tell.new.shared =
    c.in_ok-tell.ensures in
    let side : c.side-side.result.now ≡ tells.side =
    some_same c.side-side.result.now tells.side (sym c.side-side.ensures ∙ tells.is_side) in
    record {
      kind = c.unwrap-kind.result;
      is_kind = sym c.kind_of.ensures ∙ c.unwrap-kind.ensures;
      tells = tells;
      more = c.add_chain.new.chains;
      is_more = c.in_ok-add_chain.ensures
          ∙ ap (λ (h : Option FrameValue). chains_after c.args.act h c.args.chains.items)
          (c.held.ensures ∙ ap (λ (s : Side). held_in s) side);
      onward = ap (λ (n : ℕ). onward_by n c.args.vhost c.args.file c.add_chain.new.chains c.unwrap-kind.result c.args.over)
          (sym c.seen.ensures) ∙ c.onward.ensures;
    }
