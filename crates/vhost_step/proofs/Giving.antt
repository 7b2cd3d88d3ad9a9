-- What the host is given in a step, and what such a step leaves.
use Rattle.std.proofs.Common.{◌≡◌, ℕ, List, [], ◌∷◌, Option, None, Some, refl, sym, ap, ◌∙◌}
use Rattle.guest_mem.specs.Memory.{Contents}
use Rattle.tap_frame.specs.declared.reading.BadFrame.{BadFrame}
use Rattle.tap_frame.specs.Frame.{FrameValue}
use Rattle.tap_ledger.specs.declared.act.Act.{Act}
use Rattle.tap_ledger.specs.Host.{HostState}
use Rattle.vhost_queue.specs.Queue.{Queue}
use Rattle.vring_turns.specs.declared.end.End.{End}
use Rattle.vring_turns.specs.declared.stage.TxStage.{TxStage}
use Rattle.vring_turns.specs.declared.stage.TxStage.TheVariants as tx
use Rattle.vring_turns.specs.Ring.{Gathered, Made, fetches, first_position}
use Rattle.vring_turns.specs.TransmitBytes.{bytes_of_chain, refusal_of}
use Rattle.vring_turns.specs.TxTurn.{TxTurn, TxState, tx_copies, tx_done, tx_gives, tx_judged, tx_made, tx_next, tx_ring, tx_step}
use Rattle.vhost_step.specs.Queues.{one_host}
use Rattle.vhost_step.specs.Transmit.{tx_given}

-- the host that a step leaves, if there is one
abbrev host_or : HostState → Option (TxState × Act) → HostState
host_or h None = h
host_or h (Some p) = p.0.host

-- all steps but the one that gives leave the host
fetch_host :
    (o : Option TxStage) (s : TxState)
    → host_or s.host (elim o as (λ (k : Option TxStage). Option (TxState × Act)) [
      | None ↦ None
      | Some stage ↦ Some (tx_made (fetches (tx_ring s) s.memory) stage s)
    ]) ≡ s.host
fetch_host None s = refl
fetch_host (Some stage) s = refl

publish_host :
    (o : Option Made) (end : Option End) (s : TxState)
    → host_or s.host (elim o as (λ (k : Option Made). Option (TxState × Act)) [
      | None ↦ None
      | Some made ↦ Some (tx_made made (elim end [ None ↦ tx.Fetch | Some e ↦ tx.Ended e ]) s)
    ]) ≡ s.host
publish_host None end s = refl
publish_host (Some made) end s = refl

judged_host :
    (position : ℕ) (bytes : List ℕ) (bad : Option BadFrame) (s : TxState)
    → (tx_judged position bytes bad s).0.host ≡ s.host
judged_host position bytes None s = refl
judged_host position bytes (Some bad) s = refl

copy_host : (chains : List Gathered) (s : TxState) → host_or s.host (tx_copies chains s) ≡ s.host
copy_host [] s = refl
copy_host (c ∷ cs) s =
    judged_host (first_position (tx_ring s)) (bytes_of_chain s.turn.header s.memory c)
    (refusal_of s.turn.header (bytes_of_chain s.turn.header s.memory c)) (tx_done c s)

-- a state whose host has room for one frame
abbrev with_room : TxTurn → Queue → Contents → TxState
with_room t q m = record { turn = t; queue = q; memory = m; host = one_host None }

give_host :
    (held : Option FrameValue) (t : TxTurn) (q : Queue) (m : Contents)
    → host_or (one_host None) (tx_gives held (with_room t q m)) ≡ one_host held
give_host None t q m = refl
give_host (Some frame) t q m = refl

host_at :
    (stage : TxStage) (t : TxTurn) (q : Queue) (m : Contents)
    → host_or (one_host None) (tx_next stage (with_room t q m)) ≡ one_host (tx_given stage t)
host_at tx.Begin t q m = refl
host_at tx.Fetch t q m = fetch_host _ (with_room t q m)
host_at tx.NoticesOn t q m = refl
host_at tx.FetchAgain t q m = fetch_host _ (with_room t q m)
host_at (tx.NoticesOff fault) t q m = refl
host_at tx.Copy t q m = copy_host t.chains (with_room t q m)
host_at tx.Give t q m = give_host t.held t q m
host_at (tx.Publish end) t q m = publish_host _ end (with_room t q m)
host_at (tx.Ended end) t q m = refl

-- the frame that a host was given
abbrev first_in : List FrameValue → Option FrameValue
first_in [] = None
first_in (frame ∷ rest) = Some frame

given_in : (given : Option FrameValue) → first_in (one_host given).given ≡ given
given_in None = refl
given_in (Some frame) = refl

pub given_by :
    (t t' : TxTurn) (q q' : Queue) (m m' : Contents) (given : Option FrameValue) (told : Act)
    → tx_step (with_room t q m)
    ≡ Some (record { turn = t'; queue = q'; memory = m'; host = one_host given }, told)
    → given ≡ tx_given t.stage t
given_by t t' q q' m m' given told step =
    let hosts = sym (ap (host_or (one_host None)) step) ∙ host_at t.stage t q m in
    sym (given_in given) ∙ ap (λ h. first_in h.given) hosts ∙ given_in (tx_given t.stage t)
