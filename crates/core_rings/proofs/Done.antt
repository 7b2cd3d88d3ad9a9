-- An event was done: of one that changes a file, of one that drops a frame, and of one that changes nothing.
use Rattle.std.proofs.Common.{◌≡◌, ℕ, List, [], ◌∷◌, ◌++◌, Option, Some, None, refl, sym, ap, ◌∙◌, subst}
use Rattle.std.specs.declared.alloc.Global.{Global}
use Rattle.std.specs.Prelude.{slice_get, IfOk, IfSome, OnOk, Result, Ok, Err, Vec}
use Rattle.tap_frame.specs.declared.name.Name.{Name}
use Rattle.tap_frame.specs.Frame.{FrameValue}
use Rattle.tap_ground.specs.Options.{◌>>=◌}
use Rattle.tap_ledger.specs.declared.fate.Cause.{Cause}
use Rattle.tap_lines.specs.Framed.{Goes, IsFrameAt, IsFrameOf}
use Rattle.tap_lines.specs.Placed.{Placed, framed}
use Rattle.tap_sound.proofs.Kit.{some_same}
use Rattle.tap_trace.specs.declared.answer.Answer.TheVariants as answer
use Rattle.tap_world.specs.ByNumber.{at, with_at}
use Rattle.tap_world.specs.declared.event.EventKind.{EventKind}
use Rattle.tap_world.specs.declared.line.Entry.{Entry}
use Rattle.tap_world.specs.Effect as world
use Rattle.tap_world.specs.Effect.{Effect, only}
use Rattle.tap_world.specs.LineSteps.{Change, changed}
use Rattle.tap_world.specs.StepRing.{name_at}
use Rattle.tap_world.specs.World.{name_of}
use Rattle.core_shared.proofs.Leaving.{AreSent, held_files, no_more, on_file_left, same_left, sent_of, sent_without, turns_same}
use Rattle.core_shared.specs.Asking.{Asking, setup}
use Rattle.core_shared.specs.Coming.{come_of, onward_of, written_out}
use Rattle.core_shared.specs.Did.{Did, HasEffect}
use Rattle.core_shared.specs.Held.{IsHeld}
use Rattle.core_shared.specs.Suiting.{SuitsOn}
use Rattle.core_shared.specs.Worlds.{world_in}
use Rattle.core_shared.specs.declared.doing.Doing.{Doing}
use Rattle.core_shared.specs.declared.onward.Onward.{Onward}
use Rattle.core_shared.specs.declared.onward.Onward.TheVariants as on
use Rattle.core_shared.specs.declared.shared.Shared.{Shared}
use Rattle.core_rings.proofs.Events.{changes_file, drops_under}

-- ---- frames

-- those of a file with the same frames were sent
pub frames_stay : (a : Asking) (x : Shared) (file : ℕ) (p q : Placed) → IsHeld (setup a) x → at x.files file ≡ Some p → q.frames ≡ p.frames
    → AreSent (setup a) q.frames
frames_stay a x file p q held is same =
    subst (λ (l : List (Option FrameValue)). AreSent (setup a) l) (sym same) (sent_of (setup a) x file p held is)

-- and those of a file from which a frame has gone
pub frames_go : (a : Asking) (x : Shared) (file : ℕ) (p : Placed) (found : Option ℕ) (frame : FrameValue) (left : List (Option FrameValue))
    → IsHeld (setup a) x → at x.files file ≡ Some p → Goes found (framed p) frame left → AreSent (setup a) left
frames_go a x file p found frame left held is goes =
    subst (λ (l : List (Option FrameValue)). AreSent (setup a) l) (sym goes.gone)
    (sent_without (setup a) p.frames goes.index (sent_of (setup a) x file p held is))

-- the frame that has gone has the name of its entry
pub goes_named : (line : List Entry) (found : Option ℕ) (frame : FrameValue) (n : Name) → IsFrameAt found line frame → name_at line found ≡ Some n
    → frame.name ≡ n
goes_named line None frame n its e = absurd (cc (e))
goes_named line (Some i) frame n its e = go (slice_get line i) its e
  where
    go : (o : Option Entry) → IfSome o (λ d. IsFrameOf d frame) → (o >>= λ (d : Entry). Some d.name) ≡ Some n → frame.name ≡ n
    go None h k = absurd (cc (k))
    go (Some d) h k = h.name ∙ some_same d.name n k

-- ---- one file changes

-- with another file of this number
abbrev pub with_file : ℕ → Placed → Shared → Shared
with_file file q x = record x { files = with_at file q x.files }

pub file_done : (a : Asking) (d : Doing) (k : EventKind) (x : Shared) (file : ℕ) (change : Change) (o : world.Onward) (goes : Onward) (p q : Placed)
    → HasEffect a (come_of x.vhosts d) k x (changes_file file change o x) → IsHeld (setup a) x
    → at x.files file ≡ Some p → changed change p.file ≡ Some q.file → AreSent (setup a) q.frames
    → written_out a.seen (come_of x.vhosts d) o ≡ onward_of x.vhosts goes → SuitsOn x.vhosts a goes
    → Did a d k x (with_file file q x) goes
file_done a d k x file change o goes p q has held is_there is_changed sent onward suits = record {
  effect = changes_file file change o x;
  has = has;
  left = on_file_left file change o x.writer a x [] [] p q is_there is_changed;
  onward = onward;
  held = held_files (setup a) x file q held sent;
  suits = suits;
  stay = turns_same a.actor x.vhosts;
}

-- ---- a frame is dropped

pub drop_done : (a : Asking) (d : Doing) (k : EventKind) (x : Shared) (file : ℕ) (c : Cause) (v : Vec Name Global)
    → HasEffect a (come_of x.vhosts d) k x (drops_under a file x c) → IsHeld (setup a) x
    → v.items ≡ x.dropped.items ++ name_of a.actor a.number ∷ []
    → Did a d k x (record x { dropped = v }) (on.Ends a.seen (answer.Dropped (Some file) c))
drop_done a d k x file c v has held is = record {
  effect = drops_under a file x c;
  has = has;
  left = record {
    ops = no_more x.ops.ops;
    files = refl;
    guests = refl;
    vhosts = refl;
    hosted = no_more x.hosted.items;
    dropped = is;
    writer = refl;
    phase = refl;
  };
  onward = refl;
  held = record { table = held.table; frames = held.frames; vhosts = held.vhosts };
  suits = tt;
  stay = turns_same a.actor x.vhosts;
}

-- whatever name it was dropped under, and where memory didn't run out
pub drop_result : {E : Type 0} (a : Asking) (d : Doing) (k : EventKind) (x : Shared) (file : ℕ) (c told : Cause) (n : Name) (v : Vec Name Global)
    (result : Result Onward E)
    → HasEffect a (come_of x.vhosts d) k x (drops_under a file x c) → IsHeld (setup a) x → n ≡ name_of a.actor a.number → told ≡ c
    → OnOk result (v.items ≡ x.dropped.items ++ n ∷ [])
    → IfOk result (λ goes. goes ≡ on.Ends a.seen (answer.Dropped (Some file) told))
    → IfOk result (λ goes. Did a d k x (record x { dropped = v }) goes)
drop_result a d k x file c told n v (Ok goes) has held named same is ends =
    let at_name : v.items ≡ x.dropped.items ++ name_of a.actor a.number ∷ [] = is ∙ ap (λ (m : Name). x.dropped.items ++ m ∷ []) named in
    let so : goes ≡ on.Ends a.seen (answer.Dropped (Some file) c) = ends ∙ ap (λ (y : Cause). on.Ends a.seen (answer.Dropped (Some file) y)) same in
    subst (λ (g : Onward). Did a d k x (record x { dropped = v }) g) (sym so) (drop_done a d k x file c v has held at_name)
drop_result a d k x file c told n v (Err e) has held named same is ends = tt

-- ---- nothing changes

abbrev pub keeps : world.Onward → Shared → Effect
keeps o x = only o (world_in x [] [])

pub same_done : (a : Asking) (d : Doing) (k : EventKind) (x : Shared) (o : world.Onward) (goes : Onward)
    → HasEffect a (come_of x.vhosts d) k x (keeps o x) → IsHeld (setup a) x
    → written_out a.seen (come_of x.vhosts d) o ≡ onward_of x.vhosts goes → SuitsOn x.vhosts a goes → Did a d k x x goes
same_done a d k x o goes has held onward suits = record {
  effect = keeps o x;
  has = has;
  left = same_left o a x [] [];
  onward = onward;
  held = held;
  suits = suits;
  stay = turns_same a.actor x.vhosts;
}
