use Rattle.std.proofs.Common.{◌≡◌, true, false, ◌||◌, ap, refl}
use Rattle.scen_text.specs.Before.{Before}
use Rattle.scen_text.specs.Building.{standing}
use Rattle.scen_text.specs.Refusals.{is_block}
use Rattle.scen_text.specs.declared.place.Place.TheVariants.{Block}
use Rattle.scen_text.proofs.Steps.{hears_opens, open_good, open_refused}
use Rattle.scen_text.proofs.builder.Builder.open.Goals as goal

pub returns-then-is_block-last : goal.returns-then-is_block-last
returns-then-is_block-last c =
    let t : (is_block c.args.self.now.place || c.args.last) ≡ true = rw (← c.is_block.ensures) c.if-is_block-last.true in
    open_refused (standing c.args.self.now) c.args.last c.args.actors t

pub returns : goal.returns
returns c =
    let t : (is_block c.args.self.now.place || c.args.last) ≡ false = rw (← c.is_block.ensures) c.if-is_block-last.false in (
      open_good (standing c.args.self.now) c.args.last c.args.actors t,
      hears_opens c.args.self.now _ c.args.actors
          (ap (λ (b : Before). let r : Before = record b { started = true; place = Block c.args.actors } in r) c.in_ok-close.ensures.standing)
          (rw (c.in_ok-close.ensures.phases, c.in_ok-close.ensures.lines) refl),
    )
