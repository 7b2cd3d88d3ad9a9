-- A receive worker and its queue fit together after a copy.
use Rattle.std.proofs.Common.{◌≡◌, ℕ, suc, ◌+◌, ◌-◌, List, [], ◌∷◌, length, refl, ap, ◌∙◌, arith}
use Rattle.std.proofs.lemmas.List.{length-append}
use Rattle.vhost_queue.specs.declared.done.Done.{Done}
use Rattle.vhost_queue.specs.Positions.{Positions, with_done}
use Rattle.vhost_queue.specs.Queue.{Reserved}
use Rattle.vring_turns.specs.declared.stage.RxStage.TheVariants as stage
use Rattle.vring_turns.specs.Ring.{Gathered, bytes_in, with_all_done}
use Rattle.vring_turns.specs.ReceiveImage.{shares}
use Rattle.vring_turns.specs.Stage.{has_in_hand, rx_stopped_at}
use Rattle.vhost_rx.specs.Worker.{Worker, IsSteady, counts_at}

length-shares : (cs : List Gathered) (n : ℕ) → length (shares cs n) ≡ length cs
length-shares [] n = refl
length-shares (c ∷ cs) n = ap (λ k. suc k) (length-shares cs (n - bytes_in c.segments))

next-all_done : (ds : List Done) (p : Positions) → (with_all_done ds p).next ≡ p.next
next-all_done [] p = refl
next-all_done (d ∷ ds) p = next-all_done ds (with_done d.head d.len p)

gathered-all_done :
    (ds : List Done) (p : Positions) → (with_all_done ds p).gathered ≡ p.gathered - length ds
gathered-all_done [] p = omega arith
gathered-all_done (d ∷ ds) p =
    let e = gathered-all_done ds (with_done d.head d.len p) in
    omega arith

done-all_done :
    (ds : List Done) (p : Positions) → length (with_all_done ds p).done ≡ length p.done + length ds
done-all_done [] p = omega arith
done-all_done (d ∷ ds) p =
    let e = done-all_done ds (with_done d.head d.len p) in
    let n = length-append p.done (record { head = d.head; len = d.len } ∷ []) in
    omega arith

pub copied_steady :
    (w : Worker) (r : Reserved) (n : ℕ)
    → IsSteady w r → w.turn.stage ≡ stage.Copy
    → IsSteady
    (record w {
      turn = record w.turn {
        handled = w.turn.handled + length w.turn.chains;
        chains = [];
        stage = stage.Out;
      };
    })
    (record r {
      queue = record r.queue {
        positions = with_all_done (shares w.turn.chains n) r.queue.positions;
      };
    })
copied_steady w r n s e =
    let ds = shares w.turn.chains n in
    let k = length-shares w.turn.chains n in
    let g = gathered-all_done ds r.queue.positions in
    let d = done-all_done ds r.queue.positions in
    record {
      queue = record {
        layout = s.queue.layout;
        next = next-all_done ds r.queue.positions ∙ s.queue.next;
        gathered = omega (arith, s.queue.gathered);
        stopped = s.queue.stopped ∙ ap rx_stopped_at e;
        done = λ h. cc;
      };
      chains = record {
        held = s.chains.held ∙ ap has_in_hand e;
        fewer = λ h. cc;
        short = λ h. cc;
        enough = λ h. cc;
        most = omega arith;
        none = λ h i. refl;
      };
      places = record {
        packets = λ h. s.places.packets (ap counts_at e);
        bytes = λ h. s.places.bytes (ap counts_at e);
        handled = λ h. cc;
        few = λ h. cc;
        reserved = omega (arith, s.places.reserved);
      };
    }
