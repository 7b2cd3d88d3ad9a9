-- A turn that stands rightly and is ready has the frame and the chains that its stage says.
use Rattle.std.proofs.Common.{◌≡◌, ◌<◌, true, false, length, Option, Some, None, refl, ap}
use Rattle.vhost_queue.specs.Queue.{Queue}
use Rattle.vring_turns.specs.declared.stage.RxStage.{RxStage}
use Rattle.vring_turns.specs.declared.stage.RxStage.TheVariants as stage
use Rattle.vring_turns.specs.declared.stage.After.TheVariants as after
use Rattle.vring_turns.specs.Ring.{room_in}
use Rattle.vring_turns.specs.RxTurn.{RxTurn, quota}
use Rattle.vring_turns.specs.Stage.{gathers_at, copies_at}
use Rattle.vring_turns.specs.Standing.{RxStandsAt, IsGathering, HasNone}
use Rattle.vhost_rx.specs.Worker.{need_in, ReadyTurnsHaveChains}

-- what a stage says of the chains
record Chained (st : RxStage) (t : RxTurn) : Type 0 where
  pub fewer : gathers_at st ≡ true → length t.chains < quota t.mergeable
  pub short : gathers_at st ≡ true → room_in t.chains < need_in t
  pub none : gathers_at st ≡ false → copies_at st ≡ false → length t.chains ≡ 0

chained : (st : RxStage) (t : RxTurn) (q : Queue) → RxStandsAt st t q → Chained st t
chained stage.Begin t q at = record { fewer = λ h. cc; short = λ h. cc; none = λ g c. ap length at.0 }
chained stage.Hand t q at = record { fewer = λ h. cc; short = λ h. cc; none = λ g c. ap length at.0 }
chained stage.Fetch t q at = record { fewer = λ h. at.fewer; short = λ h. at.short; none = λ g c. cc }
chained stage.NoticesOn t q at = record { fewer = λ h. at.fewer; short = λ h. at.short; none = λ g c. cc }
chained stage.FetchAgain t q at = record { fewer = λ h. at.fewer; short = λ h. at.short; none = λ g c. cc }
chained (stage.NoticesOff after.Fetch) t q at =
    record { fewer = λ h. at.fewer; short = λ h. at.short; none = λ g c. cc }
chained (stage.NoticesOff after.Copy) t q at = record { fewer = λ h. cc; short = λ h. cc; none = λ g c. cc }
chained (stage.NoticesOff (after.Discard had)) t q at =
    record { fewer = λ h. cc; short = λ h. cc; none = λ g c. ap length at }
chained (stage.NoticesOff (after.PutBack end)) t q at =
    record { fewer = λ h. cc; short = λ h. cc; none = λ g c. ap length at.0 }
chained stage.Copy t q at = record { fewer = λ h. cc; short = λ h. cc; none = λ g c. cc }
chained stage.Out t q at = record { fewer = λ h. cc; short = λ h. cc; none = λ g c. ap length at }
chained (stage.Discard had) t q at = record { fewer = λ h. cc; short = λ h. cc; none = λ g c. ap length at }
chained (stage.PutBack end) t q at = record { fewer = λ h. cc; short = λ h. cc; none = λ g c. ap length at.0 }
chained (stage.Publish None) t q at = record { fewer = λ h. cc; short = λ h. cc; none = λ g c. ap length at }
chained (stage.Publish (Some end)) t q at = record { fewer = λ h. cc; short = λ h. cc; none = λ g c. ap length at.0 }
chained (stage.Ended end) t q at = record { fewer = λ h. cc; short = λ h. cc; none = λ g c. ap length at.0 }

pub have_chains : ReadyTurnsHaveChains
have_chains t q stands ready =
    let c = chained t.stage t q stands.stage in
    record {
      held = ready.held;
      fewer = c.fewer;
      short = c.short;
      enough = ready.enough;
      most = ready.most;
      none = c.none;
    }
