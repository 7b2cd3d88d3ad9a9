-- A file's frames where it changes among all of them.
use Rattle.std.proofs.Common.{◌≡◌, ℕ, List, Option, Some, None, sym, subst}
use Rattle.std.specs.Prelude.{slice_set}
use Rattle.tap_frame.specs.Frame.{FrameValue}
use Rattle.tap_lines.specs.Placed.{Placed}
use Rattle.tap_world.specs.ByNumber.{at, with_at}
use Rattle.tap_world.specs.Setup.{Setup}
use Rattle.core_shared.proofs.Leaving as leaving
use Rattle.core_shared.proofs.Leaving.{files_sent_with, sent_with, sent_without}
use Rattle.core_shared.specs.Suiting.{IsSent}
use Rattle.core_receive.specs.Going.{AreSent}

-- with the same frames
pub sent_same :
    (s : Setup) (xs : List (Option Placed)) (n : ℕ) (old new : Placed)
    → at xs n ≡ Some old → new.frames ≡ old.frames → AreSent s xs → AreSent s (with_at n new xs)
sent_same s xs n old new is same sent =
    files_sent_with s xs n new sent
    (subst (λ (l : List (Option FrameValue)). leaving.AreSent s l) (sym same) (λ i frame e. sent n i old frame is e))

-- with one of them, which was sent, in another place
pub sent_set :
    (s : Setup) (xs : List (Option Placed)) (n index : ℕ) (old new : Placed) (back : FrameValue)
    → at xs n ≡ Some old → new.frames ≡ slice_set old.frames index (Some back) → IsSent s back
    → AreSent s xs → AreSent s (with_at n new xs)
sent_set s xs n index old new back is same was sent =
    files_sent_with s xs n new sent
    (subst (λ (l : List (Option FrameValue)). leaving.AreSent s l) (sym same)
    (sent_with s old.frames index back was (λ i frame e. sent n i old frame is e)))

-- with one of them gone
pub sent_gone :
    (s : Setup) (xs : List (Option Placed)) (n index : ℕ) (old new : Placed)
    → at xs n ≡ Some old → new.frames ≡ slice_set old.frames index None
    → AreSent s xs → AreSent s (with_at n new xs)
sent_gone s xs n index old new is same sent =
    files_sent_with s xs n new sent
    (subst (λ (l : List (Option FrameValue)). leaving.AreSent s l) (sym same)
    (sent_without s old.frames index (λ i frame e. sent n i old frame is e)))
