-- Writing used entries one after the other.
use Rattle.std.proofs.Common.{◌≡◌, ℕ, ◌+◌, ◌<◌, List, [], length, drop, get_or, ap, add-one, drop-cons}
use Rattle.guest_mem.specs.Memory.{Contents, written}
use Rattle.vring_split.specs.Split.{used_entry_addr}
use Rattle.vring_split.specs.declared.layout.Layout.{Layout}
use Rattle.vhost_queue.specs.declared.done.Done.{Done}
use Rattle.vhost_queue.specs.Positions.{after}
use Rattle.vhost_queue.specs.Publication.{entry_bytes, with_entries}

-- one more entry was written
pub entries_more : (l : Layout) (index : ℕ) (ds : List Done) (i : ℕ) (d : Done) (m : Contents) → i < length ds
    → with_entries l (after index 1) (drop (i + 1) ds) (written m (used_entry_addr l index) (entry_bytes (get_or ds i d)))
    ≡ with_entries l index (drop i ds) m
unfolding with_entries
entries_more l index ds i d m h = rw (drop-cons ds i d, add-one i)

-- none is left
pub entries_none : (l : Layout) (index : ℕ) (ds : List Done) (m : Contents) → ds ≡ [] → with_entries l index ds m ≡ m
unfolding with_entries
entries_none l index ds m e = ap (λ (xs : List Done). with_entries l index xs m) e
