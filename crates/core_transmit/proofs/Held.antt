-- This project's own: the frame that a transmit turn holds before and after a step.
use Rattle.std.proofs.Common.{◌≡◌, ℕ, true, false, List, [], ◌∷◌, length, Option, Some, None, refl, sym, ap, ◌∙◌, subst, true≢false}
use Rattle.std.specs.Prelude.{is_some, IfSome, option_map}
use Rattle.tap_frame.specs.declared.reading.BadFrame.{BadFrame}
use Rattle.tap_frame.specs.Frame.{FrameValue}
use Rattle.tap_ground.specs.Options.{◌>>=◌}
use Rattle.tap_guests.specs.Side.{Side}
use Rattle.tap_ledger.specs.declared.act.Act.{Act}
use Rattle.tap_sound.proofs.Kit.{WhereSome}
use Rattle.tap_world.specs.StepTransmits.{tx_over}
use Rattle.vhost_step.specs.Transmit.{tx_given}
use Rattle.vhost_tx.specs.Worker.{Worker}
use Rattle.vring_turns.specs.declared.end.End.{End}
use Rattle.vring_turns.specs.declared.stage.TxStage.{TxStage}
use Rattle.vring_turns.specs.declared.stage.TxStage.TheVariants as tx
use Rattle.vring_turns.specs.Ring.{Gathered, Made, fetches, first_position, publishes}
use Rattle.vring_turns.specs.Stage.{is_giving, tx_is_over}
use Rattle.vring_turns.specs.TransmitBytes.{bytes_of_chain, refusal_of}
use Rattle.vring_turns.specs.TxTurn.{TxState, TxTurn, tx_after_notices, tx_copies, tx_done, tx_gives, tx_judged, tx_made, tx_next, tx_ring}
use Rattle.core_transmit.specs.Stepping.{held_in}

-- ---- before a step that gives none

no_some : {A : Type 0} (o : Option A) → is_some o ≡ false → o ≡ None
no_some None e = refl
no_some (Some x) e = absurd (true≢false e)

pub none_held : (st : TxStage) (t : TxTurn) → tx_given st t ≡ None → is_some t.held ≡ is_giving st → t.held ≡ None
none_held tx.Begin t none held = no_some t.held held
none_held tx.Fetch t none held = no_some t.held held
none_held tx.NoticesOn t none held = no_some t.held held
none_held tx.FetchAgain t none held = no_some t.held held
none_held (tx.NoticesOff fault) t none held = no_some t.held held
none_held tx.Copy t none held = no_some t.held held
none_held tx.Give t none held = none
none_held (tx.Publish end) t none held = no_some t.held held
none_held (tx.Ended end) t none held = no_some t.held held

-- ---- one that gives one

pub gave : (st : TxStage) (t : TxTurn) (f : FrameValue) → tx_given st t ≡ Some f → (st ≡ tx.Give) × (t.held ≡ Some f)
gave tx.Give t f e = (refl, e)
gave tx.Begin t f e = absurd (cc (e))
gave tx.Fetch t f e = absurd (cc (e))
gave tx.NoticesOn t f e = absurd (cc (e))
gave tx.FetchAgain t f e = absurd (cc (e))
gave (tx.NoticesOff fault) t f e = absurd (cc (e))
gave tx.Copy t f e = absurd (cc (e))
gave (tx.Publish end) t f e = absurd (cc (e))
gave (tx.Ended end) t f e = absurd (cc (e))

-- ---- after it

-- a frame that is held has all of its bytes, and is given next
abbrev pub IsWhole : TxStage → FrameValue → Type 0
IsWhole st f = (f.mark ≡ length f.made) × (is_giving st ≡ true)

abbrev pub HeldWhole : TxState × Act → Type 0
HeldWhole made = IfSome made.0.turn.held (IsWhole made.0.turn.stage)

none_whole : (st : TxStage) (held : Option FrameValue) → held ≡ None → IfSome held (IsWhole st)
none_whole st held none = subst (λ (o : Option FrameValue). IfSome o (IsWhole st)) (sym none) tt

fetched_whole : (o : Option TxStage) (s : TxState) → s.turn.held ≡ None
    → WhereSome HeldWhole (elim o as (λ (k : Option TxStage). Option (TxState × Act)) [
      | None ↦ None
      | Some stage ↦ Some (tx_made (fetches (tx_ring s) s.memory) stage s)
    ])
fetched_whole None s none = tt
fetched_whole (Some stage) s none = none_whole stage s.turn.held none

published_whole : (o : Option Made) (end : Option End) (s : TxState) → s.turn.held ≡ None
    → WhereSome HeldWhole (elim o as (λ (k : Option Made). Option (TxState × Act)) [
      | None ↦ None
      | Some made ↦ Some (tx_made made (elim end [ None ↦ tx.Fetch | Some e ↦ tx.Ended e ]) s)
    ])
published_whole None end s none = tt
published_whole (Some made) end s none = none_whole _ s.turn.held none

judged_whole : (position : ℕ) (bytes : List ℕ) (bad : Option BadFrame) (s : TxState) → s.turn.held ≡ None
    → HeldWhole (tx_judged position bytes bad s)
judged_whole position bytes None s none = (refl, refl)
judged_whole position bytes (Some bad) s none = none_whole _ s.turn.held none

copied_whole : (chains : List Gathered) (s : TxState) → s.turn.held ≡ None → WhereSome HeldWhole (tx_copies chains s)
copied_whole [] s none = tt
copied_whole (c ∷ cs) s none =
    judged_whole (first_position (tx_ring s)) (bytes_of_chain s.turn.header s.memory c)
    (refusal_of s.turn.header (bytes_of_chain s.turn.header s.memory c)) (tx_done c s) none

pub held_whole : (st : TxStage) (s : TxState) → s.turn.held ≡ None → WhereSome HeldWhole (tx_next st s)
held_whole tx.Begin s none = none_whole tx.Fetch s.turn.held none
held_whole tx.Fetch s none = fetched_whole _ s none
held_whole tx.NoticesOn s none = none_whole tx.FetchAgain s.turn.held none
held_whole tx.FetchAgain s none = fetched_whole _ s none
held_whole (tx.NoticesOff fault) s none = none_whole (tx_after_notices s.queue fault) s.turn.held none
held_whole tx.Copy s none = copied_whole s.turn.chains s none
held_whole tx.Give s none = subst (λ (o : Option FrameValue). WhereSome HeldWhole (tx_gives o s)) (sym none) tt
held_whole (tx.Publish end) s none = published_whole (publishes (tx_ring s) s.memory) end s none
held_whole (tx.Ended end) s none = tt

-- ---- what the worker of a vhost holds

pub over_holds_none : (st : TxStage) (e : End) (held : Option FrameValue) → tx_over st ≡ Some e
    → IfSome held (IsWhole st) → held ≡ None
over_holds_none st e None over h = refl
over_holds_none (tx.Ended end) e (Some f) over h = absurd (true≢false (sym h.1))
over_holds_none st e (Some f) over h = absurd (cc (over))

turns_held : (o : Option Worker)
    → (o >>= λ w. w.turn.held) ≡ (option_map (λ (w : Worker). w.turn) o >>= λ (t : TxTurn). t.held)
turns_held None = refl
turns_held (Some w) = refl

pub held_by : (s : Side) (t : Option TxTurn) → option_map (λ (w : Worker). w.turn) s.tx ≡ t
    → held_in s ≡ (t >>= λ (u : TxTurn). u.held)
held_by s t is = turns_held s.tx ∙ ap (λ (o : Option TxTurn). o >>= λ (u : TxTurn). u.held) is

pub not_over : (st : TxStage) → tx_is_over st ≡ false → tx_over st ≡ None
not_over (tx.Ended e) h = absurd (true≢false h)
not_over tx.Begin h = refl
not_over tx.Fetch h = refl
not_over tx.NoticesOn h = refl
not_over tx.FetchAgain h = refl
not_over (tx.NoticesOff fault) h = refl
not_over tx.Copy h = refl
not_over tx.Give h = refl
not_over (tx.Publish end) h = refl
