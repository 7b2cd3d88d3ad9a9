use Rattle.std.proofs.Common.{rules, ◌<◌, ◌≤◌, List, sym, subst, arith}
use Rattle.std.specs.List.{All}
use Rattle.std.proofs.lemmas.List.Elements.{All-push, All-head, All-tail}
use Rattle.vring_packed.specs.declared.chain.PackedChain.{PackedChain}
use Rattle.vring_packed.specs.declared.done.PackedDone.{PackedDone}
use Rattle.vhost_queue.specs.Queue.{room_in}
use Rattle.vring_packed.specs.Queue.{PackedQueue, lists_of}
use Rattle.vring_packed.proofs.Queues.{room_left}
use Rattle.vring_packed.proofs.vq.PackedVq.done.Goals as goal

pub invariant_of-self : goal.invariant_of-self
invariant_of-self c =
    let num = c.self.inside.layout.num in
    let P : PackedChain → Type 0 = λ x. (x.count ≤ num) × (x.place.at < num) in
    let D : PackedDone → Type 0 = λ x. x.count ≤ num in
    let all = subst (λ (xs : List PackedChain). All P xs) c.in-Some.ensures.items c.self.invariant.served in
    let fits = All-head P c.in-Some.chain c.pop_front.new.self.items all in
    let left = room_left c.self.inside.done.items c.self.inside.reserved (subst (λ (q : PackedQueue). 0 < room_in (lists_of q) q.reserved) (sym c.self.view_is) c.requires.room) in
    let len = c.push_reserved.ensures.len in
    let room = c.push_reserved.ensures.capacity in
    let inv = c.self.invariant in
    record {
      some = search rules;
      most = search rules;
      next = search rules;
      used = search rules;
      fetched = search rules;
      served = All-tail P c.in-Some.chain c.pop_front.new.self.items all;
      done = subst (λ (xs : List PackedDone). All D xs) (sym c.push_reserved.ensures.items) (All-push D c.self.inside.done.items _ c.self.invariant.done fits.0);
      served_most = search rules;
      served_room = search rules;
      done_most = let few = left.0 in omega (arith, len);
      done_room = search rules;
      reserved = let few = left.1 in omega (arith, len);
      journal_room = search rules;
    }
