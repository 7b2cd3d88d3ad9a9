-- What holds of a vhost's rings where its settings change.
use Rattle.std.proofs.Common.{◌≡◌, Bool, true, false, Option, Some, None, is_some, MatchOption, refl, if◌then◌else◌}
use Rattle.vhost_queue.specs.Positions.{IsIdle}
use Rattle.vhost_dev.specs.declared.error.VhostErr.{VhostErr}
use Rattle.vhost_dev.specs.Calls.{chosen}
use Rattle.vhost_dev.specs.Settings.{RingSettings, Settings, ring_of, with_ring}
use Rattle.vhost_rx.specs.Worker.{Worker as RxWorker}
use Rattle.vhost_tx.specs.Worker.{Worker as TxWorker}
use Rattle.tap_guests.specs.Side.{Side, IsSide, RingIsIdle, RxIsServed, TxIsServed}

-- a fact by cases on a worker, where each case stays
pub either :
    {A : Type 0} (o : Option A) (P P' : Type 0) (Q Q' : A → Type 0)
    → (P → P') → ((w : A) → Q w → Q' w) → MatchOption o P Q → MatchOption o P' Q'
either None P P' Q Q' p q h = p h
either (Some w) P P' Q Q' p q h = q w h

-- without a worker there is one case
pub unserved :
    {A : Type 0} (o : Option A) (P P' : Type 0) (Q Q' : A → Type 0)
    → is_some o ≡ false → (P → P') → MatchOption o P Q → MatchOption o P' Q'
unserved None P P' Q Q' none p h = p h
unserved (Some w) P P' Q Q' none p h = absurd (cc)

-- the settings of a vhost are others
abbrev pub with_settings : Settings → Side → Side
with_settings t s = record s { vhost = record s.vhost { settings = t } }

-- a worker serves the ring that receives, or the other one
abbrev pub serves : Bool → Side → Bool
serves rx s = if rx then is_some s.rx else is_some s.tx

-- what a worker of one ring needs is left where the other one changes
rx_same :
    (s : Side) (r : RingSettings) (w : RxWorker)
    → RxIsServed s w → RxIsServed (with_settings (record s.vhost.settings { tx = r }) s) w
rx_same s r w t = record { fits = t.fits; stands = t.stands; held = t.held; backed = t.backed }

tx_same :
    (s : Side) (r : RingSettings) (w : TxWorker)
    → TxIsServed s w → TxIsServed (with_settings (record s.vhost.settings { rx = r }) s) w
tx_same s r w t = record { fits = t.fits; stands = t.stands; held = t.held; backed = t.backed }

-- a call that isn't refused changes one ring, which nobody serves, and what is idle stays idle
pub one_ring :
    (refusal : Option VhostErr) (b : Bool) (f : RingSettings → RingSettings) (s : Side)
    → (refusal ≡ None → serves b s ≡ false)
    → (RingIsIdle b s → IsIdle (f (ring_of b s.vhost.settings)).queue.positions)
    → IsSide s
    → IsSide (with_settings (chosen refusal s.vhost.settings
    (with_ring b (f (ring_of b s.vhost.settings)) s.vhost.settings)) s)
one_ring (Some e) b f s free idle h = record { rx = h.rx; tx = h.tx }
one_ring None true f s free idle h = record {
  rx = unserved s.rx _ _ _ _ (free refl) idle h.rx;
  tx = either s.tx _ _ _ _ (λ i. i) (tx_same s _) h.tx;
}
one_ring None false f s free idle h = record {
  rx = either s.rx _ _ _ _ (λ i. i) (rx_same s _) h.rx;
  tx = unserved s.tx _ _ _ _ (free refl) idle h.tx;
}
