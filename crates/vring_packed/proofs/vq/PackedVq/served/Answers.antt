use Rattle.std.proofs.Common.{rules, ◌<◌, ◌≤◌, List, sym, subst}
use Rattle.std.specs.List.{All}
use Rattle.std.proofs.lemmas.List.Elements.{All-push}
use Rattle.vring_packed.specs.declared.chain.PackedChain.{PackedChain}
use Rattle.vring_packed.proofs.vq.PackedVq.served.Goals as goal

pub invariant_of-self : goal.invariant_of-self
invariant_of-self c =
    let num = c.self.inside.layout.num in
    let P : PackedChain → Type 0 = λ x. (x.count ≤ num) × (x.place.at < num) in
    let fits : P c.in-Some.chain = search rules in
    record {
      some = search rules;
      most = search rules;
      next = search rules;
      used = search rules;
      fetched = search rules;
      served = subst (λ (xs : List PackedChain). All P xs) (sym {A = List PackedChain} c.push_back_reserved.ensures.items) (All-push P c.self.inside.served.items c.in-Some.chain c.self.invariant.served fits);
      done = search rules;
      served_most = search rules;
      served_room = search rules;
      done_most = search rules;
      done_room = search rules;
      reserved = search rules;
      journal_room = search rules;
    }
