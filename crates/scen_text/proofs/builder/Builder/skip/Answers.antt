use Rattle.std.proofs.Common.{◌≡◌, true, false, ◌&&◌}
use Rattle.scen_text.specs.Building.{standing}
use Rattle.scen_text.specs.Refusals.{is_block}
use Rattle.scen_text.proofs.Steps.{hears_skipped, skipped_good, skipped_refused}
use Rattle.scen_text.proofs.builder.Builder.skip.Goals as goal

pub returns-then-last-is_block : goal.returns-then-last-is_block
returns-then-last-is_block c =
    let t : (c.args.last && is_block c.args.self.now.place) ≡ true = rw (← c.is_block.ensures) c.if-last-is_block.true in
    skipped_refused (standing c.args.self.now) c.args.last t

pub returns : goal.returns
returns c =
    let t : (c.args.last && is_block c.args.self.now.place) ≡ false = rw (← c.is_block.ensures) c.if-last-is_block.false in
    (skipped_good (standing c.args.self.now) c.args.last t, hears_skipped c.args.self.now)
