-- The step that comes next, at the stages with a frame in hand.
use Rattle.std.proofs.Common.{◌≡◌, ℕ, Bool, true, Option, Some, None, IfSome, is_some, refl, sym, ap, ◌∙◌}
use Rattle.tap_frame.specs.Frame.{FrameValue}
use Rattle.tap_ledger.specs.declared.act.Act.{Act}
use Rattle.guest_mem.specs.Memory.{Contents}
use Rattle.tap_ledger.specs.declared.fate.Fate.{Fate}
use Rattle.tap_ledger.specs.Queue.{QueueState, finished}
use Rattle.tap_ledger.specs.declared.hand.Hand.TheVariants.{Off}
use Rattle.vring_turns.specs.declared.end.End.{End}
use Rattle.vring_turns.specs.declared.stage.RxStage.TheVariants as stage
use Rattle.vring_turns.specs.ReceiveImage.{need_of}
use Rattle.vring_turns.specs.RxTurn.{RxState, overrun, rx_outs, rx_puts_back, rx_with, rx_in_hand, rx_next, rx_step}
use Rattle.vring_turns.specs.Stage.{need_at}
use Rattle.vhost_rx.specs.Worker.{need_in}

out_by :
    (s after : RxState) (told : Act) (n : ℕ) (held : Option FrameValue)
    → s.turn.stage ≡ stage.Out → s.turn.held ≡ held → n ≡ need_at s.turn.header held → is_some held ≡ true
    → IfSome held (λ frame. rx_outs n frame s ≡ (after, told))
    → rx_step Off s ≡ Some (after, told)
out_by s after told n None e h m some outs = cc
out_by s after told n (Some frame) e h m some outs =
    ap (λ st. rx_next st Off s) e
    ∙ (ap (λ o. rx_in_hand o s) h
    ∙ (ap (λ st. rx_with st frame s) e
    ∙ (ap (λ k. Some (rx_outs k frame s)) (sym m) ∙ ap (λ p. Some p) outs)))

pub out_step :
    (s after : RxState) (told : Act) (n : ℕ)
    → s.turn.stage ≡ stage.Out → n ≡ need_in s.turn → is_some s.turn.held ≡ true
    → IfSome s.turn.held (λ frame. rx_outs n frame s ≡ (after, told))
    → rx_step Off s ≡ Some (after, told)
out_step s after told n e m some outs = out_by s after told n s.turn.held e refl m some outs

discard_by :
    (s after : RxState) (told : Act) (had : ℕ) (held : Option FrameValue)
    → s.turn.stage ≡ stage.Discard had → s.turn.held ≡ held → is_some held ≡ true
    → IfSome held (λ frame. rx_outs 0 frame s ≡ (after, told))
    → rx_step Off s ≡ Some (after, told)
discard_by s after told had None e h some outs = cc
discard_by s after told had (Some frame) e h some outs =
    ap (λ st. rx_next st Off s) e
    ∙ (ap (λ o. rx_in_hand o s) h ∙ (ap (λ st. rx_with st frame s) e ∙ ap (λ p. Some p) outs))

pub discard_step :
    (s after : RxState) (told : Act) (had : ℕ)
    → s.turn.stage ≡ stage.Discard had → is_some s.turn.held ≡ true
    → IfSome s.turn.held (λ frame. rx_outs 0 frame s ≡ (after, told))
    → rx_step Off s ≡ Some (after, told)
discard_step s after told had e some outs = discard_by s after told had s.turn.held e refl some outs

back_by :
    (s after : RxState) (told : Act) (end : End) (held : Option FrameValue)
    → s.turn.stage ≡ stage.PutBack end → s.turn.held ≡ held → is_some held ≡ true
    → rx_puts_back end s ≡ (after, told)
    → rx_step Off s ≡ Some (after, told)
back_by s after told end None e h some back = cc
back_by s after told end (Some frame) e h some back =
    ap (λ st. rx_next st Off s) e
    ∙ (ap (λ o. rx_in_hand o s) h ∙ (ap (λ st. rx_with st frame s) e ∙ ap (λ p. Some p) back))

pub back_step :
    (s after : RxState) (told : Act) (end : End)
    → s.turn.stage ≡ stage.PutBack end → is_some s.turn.held ≡ true
    → rx_puts_back end s ≡ (after, told)
    → rx_step Off s ≡ Some (after, told)
back_step s after told end e some back = back_by s after told end s.turn.held e refl some back

-- what is said of a frame for every memory is said for one
pub at_memory :
    (held : Option FrameValue) (P : FrameValue → Contents → Type 0) (m : Contents)
    → IfSome held (λ frame. (k : Contents) → P frame k) → IfSome held (λ frame. P frame m)
at_memory None P m h = tt
at_memory (Some frame) P m h = h m

-- the fate of a discarded frame is that of the one in hand
pub discarded :
    (held : Option FrameValue) (header had : ℕ) (mergeable : Bool) (fate : Fate) (old new : QueueState)
    → fate ≡ overrun mergeable (need_at header held) had
    → IfSome held (λ frame. new ≡ finished frame fate old)
    → IfSome held (λ frame. new ≡ finished frame (overrun mergeable (need_of header frame) had) old)
discarded None header had mergeable fate old new e h = tt
discarded (Some frame) header had mergeable fate old new e h = h ∙ ap (λ f. finished frame f old) e
