-- A look of a queue in memory.
use Rattle.std.proofs.Common.{◌≡◌, ℕ, ◌==◌, false, List, [], ◌∷◌, take, drop, refl}
use Rattle.tap_frame.specs.Frame.{FrameValue}
use Rattle.tap_ledger.specs.declared.mem_queue.MemQueue.TheInside.{Inside}
use Rattle.tap_ground.specs.Counts.{one_more}
use Rattle.tap_ledger.specs.Memory.{MemoryQueue, with_first_in_hand, prepared, found}
use Rattle.tap_ledger.specs.MemoryRoom.{meaning}

-- taking a frame in hand is no look
pub with_first_in_hand-looks : (waiting : List FrameValue) (q : MemoryQueue) → (with_first_in_hand waiting q).queue.looks ≡ q.queue.looks
with_first_in_hand-looks [] q = refl
with_first_in_hand-looks (frame ∷ rest) q = refl

-- where it is on and none is known it looks
pub looks_for : (q : Inside) (n looks : ℕ) → q.is_off ≡ false → q.known ≡ 0 → n ≡ found (meaning q) → looks ≡ one_more q.looks
    → meaning (record q { known = n; looks = looks; found_none = n == 0 }) ≡ prepared (meaning q)
looks_for q n looks off zero is more =
    let none : take q.known q.frames.items ≡ [] = rw zero refl in
    let all : drop q.known q.frames.items ≡ q.frames.items = rw zero refl in
    rw (is, more, off, none, all) refl
