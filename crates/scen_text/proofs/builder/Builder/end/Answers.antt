use Rattle.std.proofs.Common.{◌≡◌, true, false, ap}
use Rattle.std.proofs.lemmas.List.{append-nil}
use Rattle.scen_text.specs.Before.{Before}
use Rattle.scen_text.specs.Building.{shown, standing}
use Rattle.scen_text.specs.Refusals.{is_block}
use Rattle.scen_text.specs.declared.place.Place.TheVariants.{Outside}
use Rattle.scen_text.proofs.Steps.{end_good, end_refused, hears_ends}
use Rattle.scen_text.proofs.builder.Builder.end.Goals as goal

pub returns-then-not-is_block : goal.returns-then-not-is_block
returns-then-not-is_block c =
    let t : is_block c.args.self.now.place ≡ false = cc in end_refused (standing c.args.self.now) c.args.last t

pub returns : goal.returns
returns c =
    let t : is_block c.args.self.now.place ≡ true = cc in
    let there : c.close.new.self.place ≡ Outside = ap (λ (b : Before). b.place) c.in_ok-close.ensures.standing in (
      end_good (standing c.args.self.now) c.args.last t,
      hears_ends c.args.self.now _
          (ap (λ (b : Before). let r : Before = record b { started = true } in r) c.in_ok-close.ensures.standing)
          (rw (there, c.in_ok-close.ensures.phases) (append-nil (shown c.args.self.now))),
    )
