use Rattle.std.proofs.Common.{◌≡◌, ℕ, ◌+◌, ◌++◌, [], ◌∷◌, List, length, drop, All, IsTrue, refl, sym, ap, ◌∙◌, subst, arith}
use Rattle.std.proofs.lemmas.List.{length-append}
use Rattle.guest_mem.specs.Memory.{covers}
use Rattle.vring_split.specs.declared.segment.Segment.{Segment}
use Rattle.vring_turns.specs.Ring.{Gathered, LieIn, bytes_in, room_in, segments_of, found_behind}
use Rattle.vhost_rx.specs.Kept.{split_into}
use Rattle.vhost_rx.proofs.Splits.{length-split_into, segments_of-split_into, split_into-more, AreSplit-more, room_in-more, LieIn-more, new_part}
use Rattle.vhost_rx.proofs.Takes.{room_stays, chains_stay}
use Rattle.vhost_rx.proofs.chains.Chains.take.Goals as goal
use Rattle.vhost_rx.proofs.chains.Chains.take.Goals.{After-push_reserved}

pub push_reserved-requires : goal.push_reserved-requires
push_reserved-requires c =
    let a = ap length (sym c.self.view_is) in
    let b = length-split_into c.self.inside.kept.items c.self.inside.room in
    omega (arith, c.self.invariant.counted, c.self.invariant.places, c.requires.few)

-- the segments of the chains are those that were kept
segments_are : (c : After-push_reserved) → segments_of c.args.self.now ≡ c.self.inside.room
segments_are c =
    ap segments_of (sym c.self.view_is)
    ∙ segments_of-split_into c.self.inside.kept.items c.self.inside.room c.self.invariant.split

-- the room has the segments that were found behind its own
room_is :
    (c : After-push_reserved)
    → c.fetch-found.new.room
    ≡ c.self.inside.room ++ (found_behind c.args.self.now c.args.mem.now c.args.ring.now c.args.position).1
room_is c = rw (segments_are c) c.in-Chain.ensures.as_function.1

-- which are those behind the first ones
behind_are :
    (c : After-push_reserved)
    → drop (length c.list-before.result.now) c.list.result.now
    ≡ (found_behind c.args.self.now c.args.mem.now c.args.ring.now c.args.position).1
behind_are c =
    new_part c.self.inside.room c.list.result.now _ (length c.list-before.result.now)
    (ap length c.list-before.ensures.list) (c.list.ensures.list ∙ room_is c)

-- the new chain has them
chain_has :
    (c : After-push_reserved)
    → c.chain_behind-chain.result.segments
    ≡ length (found_behind c.args.self.now c.args.mem.now c.args.ring.now c.args.position).1
chain_has c = c.chain_behind-chain.ensures.segments ∙ ap length (behind_are c)

chain_counts :
    (c : After-push_reserved)
    → c.chain_behind-chain.result.bytes
    ≡ bytes_in (found_behind c.args.self.now c.args.mem.now c.args.ring.now c.args.position).1
chain_counts c = c.chain_behind-chain.ensures.bytes ∙ ap bytes_in (behind_are c)

pub returns-in-Chain-clause-found : goal.returns-in-Chain-clause-found
returns-in-Chain-clause-found c = rw (segments_are c) c.in-Chain.ensures.as_function.0

-- the chains that are kept now
chains_are :
    (c : After-push_reserved)
    → split_into c.push_reserved.new.self.items c.fetch-found.new.room
    ≡ c.args.self.now ++ record {
      head = c.in-Chain.head;
      segments = (found_behind c.args.self.now c.args.mem.now c.args.ring.now c.args.position).1;
    } ∷ []
chains_are c =
    let more = (found_behind c.args.self.now c.args.mem.now c.args.ring.now c.args.position).1 in
    let F : ℕ → List Gathered → List Gathered = λ h cs. cs ++ record { head = h; segments = more } ∷ [] in
    rw (c.push_reserved.ensures.items, room_is c)
    (split_into-more c.self.inside.kept.items c.self.inside.room more c.chain_behind-chain.result
    c.self.invariant.split (chain_has c)
    ∙ (ap (λ h. F h (split_into c.self.inside.kept.items c.self.inside.room)) c.chain_behind-chain.ensures.head
    ∙ ap (λ cs. F c.in-Chain.head cs) c.self.view_is))

pub returns-in-Chain-clause-chains : goal.returns-in-Chain-clause-chains
returns-in-Chain-clause-chains c = chains_are c

pub returns-in-Chain-clause-lies : goal.returns-in-Chain-clause-lies
returns-in-Chain-clause-lies c =
    let more = (found_behind c.args.self.now c.args.mem.now c.args.ring.now c.args.position).1 in
    let P : List Segment → Type 0 = λ ss. All (λ s. IsTrue (covers c.args.mem.now.regions s.addr s.len)) ss in
    let Q : List Gathered → Type 0 = λ cs. LieIn (covers c.args.mem.now.regions) cs in
    let answer = c.in-Chain.ensures.answer in
    let usable = c.chains_are_usable.ensures _ _ _ _ answer.0 answer.1.chain in
    let same : answer.0 ≡ more =
    sym (new_part c.self.inside.room c.fetch-found.new.room answer.0 (length c.self.inside.room) refl answer.3)
    ∙ new_part c.self.inside.room c.fetch-found.new.room more (length c.self.inside.room) refl (room_is c) in
    subst Q (sym (chains_are c))
    (LieIn-more (covers c.args.mem.now.regions) c.args.self.now _ c.requires.lies (subst P same usable.lies))

pub invariant_of-self : goal.invariant_of-self
invariant_of-self c =
    let more = (found_behind c.args.self.now c.args.mem.now c.args.ring.now c.args.position).1 in
    let items = c.self.inside.kept.items in
    let room = c.self.inside.room in
    let chain = c.chain_behind-chain.result in
    let n = length-append items (chain ∷ []) in
    let m = length-append room more in
    let had : room_in (split_into c.push_reserved.new.self.items c.fetch-found.new.room)
    ≡ c.self.inside.had + chain.bytes =
    ap room_in (chains_are c) ∙ (room_in-more c.args.self.now _
    ∙ (ap (λ k. k + bytes_in more) (ap room_in (sym c.self.view_is) ∙ sym c.self.invariant.had)
    ∙ ap (λ k. c.self.inside.had + k) (sym (chain_counts c)))) in
    record {
      split = rw (c.push_reserved.ensures.items, room_is c)
          (AreSplit-more items room more chain c.self.invariant.split (chain_has c) (chain_counts c));
      counted = rw c.push_reserved.ensures.items (omega (arith, c.push_reserved.ensures.len, c.self.invariant.counted, n));
      places = omega (arith, c.push_reserved.ensures.capacity, c.self.invariant.places);
      had = sym had;
      small =
          let l = ap length (room_is c) in
          let b = ap length (behind_are c) in
          omega (arith, c.self.invariant.small, c.chain_behind-chain.ensures.small, l, b, m);
    }

pub returns-in_default : goal.returns-in_default
returns-in_default c =
    let e : segments_of c.args.self.now ≡ c.self.inside.room =
    ap segments_of (sym c.self.view_is)
    ∙ segments_of-split_into c.self.inside.kept.items c.self.inside.room c.self.invariant.split in
    let stays : c.fetch-found.new.room ≡ c.self.inside.room =
    room_stays _ _ _ _ _ _ c.fetch-found.result c.in_default.not-Chain c.fetch-found.ensures.answer in
    let same : split_into c.self.inside.kept.items c.fetch-found.new.room ≡ c.args.self.now =
    ap (λ ss. split_into c.self.inside.kept.items ss) stays ∙ c.self.view_is in
    let Q : List Gathered → Type 0 = λ cs. LieIn (covers c.args.mem.now.regions) cs in
    record {
      found = rw e c.fetch-found.ensures.as_function.0;
      chains = same ∙ sym (chains_stay _ c.args.self.now c.fetch-found.result c.in_default.not-Chain);
      lies = subst Q (sym same) c.requires.lies;
    }
