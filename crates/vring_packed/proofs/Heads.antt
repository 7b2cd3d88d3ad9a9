-- The ids of the chains that were served and aren't done.
use Rattle.std.proofs.Common.{◌≡◌, ℕ, ◌-◌, List, length, take, sym, ap, ◌∙◌}
use Rattle.std.proofs.lemmas.List.{length-map, take-map}
use Rattle.vring_packed.specs.declared.chain.PackedChain.{PackedChain}
use Rattle.vring_packed.specs.Heads.{ids_of}
use Rattle.vring_packed.specs.Queue.{PackedQueue, with_rewound}

-- those of the latest ones are gone when these stand at their places again
pub rewound_heads :
    (count : ℕ) (q new : PackedQueue) (heads : List ℕ)
    → new ≡ with_rewound count q → heads ≡ ids_of q.served → take (length heads - count) heads ≡ ids_of new.served
rewound_heads count q new heads is are =
    let long : length heads ≡ length q.served = ap length are ∙ length-map q.served (λ (x : PackedChain). x.id) in
    (λ i. take (long i - count) (are i)) ∙ (take-map (λ (x : PackedChain). x.id) (length q.served - count) q.served
    ∙ ap (λ (p : PackedQueue). ids_of p.served) (sym is))
