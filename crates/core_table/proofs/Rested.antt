-- An event that changes the table, the names of frames and the writer alone.
use Rattle.std.proofs.Common.{◌≡◌, ℕ, List, [], ◌∷◌, ◌++◌, map, Option, Some, refl, sym, ap, ◌∙◌, subst}
use Rattle.std.specs.Prelude.{IfSome, slice_get}
use Rattle.core_shared.proofs.Leaving.{no_more, table_more, turns_same}
use Rattle.tap_frame.specs.declared.name.Name.{Name}
use Rattle.tap_frame.specs.Frame.{FrameValue}
use Rattle.tap_guests.specs.Side.{Side}
use Rattle.tap_guests.specs.Within.{IsIn}
use Rattle.tap_lines.specs.Files.{files_of}
use Rattle.tap_lines.specs.Placed.{Placed}
use Rattle.tap_lines.specs.Told.{BeganAt, Told, told_more}
use Rattle.tap_steer.specs.declared.operation.Op.{Op}
use Rattle.tap_world.specs.ByNumber.{at}
use Rattle.tap_world.specs.declared.event.EventKind.{EventKind}
use Rattle.tap_world.specs.Effect as world
use Rattle.tap_world.specs.Effect.{Effect}
use Rattle.tap_world.specs.Effect.OnFiles.{NoFile}
use Rattle.tap_world.specs.Effect.OnGuests.{NoGuest}
use Rattle.tap_world.specs.Effect.OnVhosts.{NoVhost}
use Rattle.tap_world.specs.Guests.{Guest}
use Rattle.tap_world.specs.Setup.{opening_table}
use Rattle.core_shared.specs.Asking.{Asking, setup}
use Rattle.core_shared.specs.Coming.{come_of, onward_of, written_out}
use Rattle.core_shared.specs.Did.{Did, HasEffect, TurnsStay}
use Rattle.core_shared.specs.Held.{IsHeld}
use Rattle.core_shared.specs.Suiting.{IsSent, SuitsOn}
use Rattle.core_shared.specs.Worlds.{vhosts_of}
use Rattle.core_shared.specs.declared.doing.Doing.{Doing}
use Rattle.core_shared.specs.declared.onward.Onward.{Onward}
use Rattle.core_shared.specs.declared.shared.Shared.{Shared}

-- its effect
abbrev pub effect_with : List Op → List Name → List Name → Option ℕ → world.Onward → Effect
effect_with ops hosts drops writer o = record {
  ops = ops;
  files = NoFile;
  guests = NoGuest;
  vhosts = NoVhost;
  hosts = hosts;
  drops = drops;
  writer = writer;
  onward = o;
}

-- and what it leaves
pub record Rests (a : Asking) (published : List Op) (given gone : List Name) (holder : Option ℕ) (old new : Shared) : Type 0 where
  pub ops :
      new.ops.ops
      ≡ old.ops.ops ++ map (λ (x : Op). record { phase = old.phase; actor = a.actor; command = a.number; op = x }) published
  pub table : BeganAt (opening_table (setup a)) new.ops
  pub files : new.files ≡ old.files
  pub guests : new.guests ≡ old.guests
  pub vhosts : new.vhosts ≡ old.vhosts
  pub hosted : new.hosted.items ≡ old.hosted.items ++ given
  pub dropped : new.dropped.items ≡ old.dropped.items ++ gone
  pub writer : new.writer ≡ holder
  pub phase : new.phase ≡ old.phase

-- ---- what always holds still does

abbrev HaveFrames : Asking → List (Option Placed) → Type 0
HaveFrames a fs =
    (file i : ℕ) (p : Placed) (frame : FrameValue) → at fs file ≡ Some p → slice_get p.frames i ≡ Some (Some frame)
    → IsSent (setup a) frame

abbrev HaveVhosts : List (Option Guest) → List (Option Side) → Type 0
HaveVhosts gs vs =
    (vhost : ℕ) (v : Side) → at vs vhost ≡ Some v → IfSome (at gs v.vhost.guest) (λ g. IsIn g.memory.regions v)

still_held : (a : Asking) (old new : Shared) → IsHeld (setup a) old → BeganAt (opening_table (setup a)) new.ops
    → new.files ≡ old.files → new.guests ≡ old.guests → new.vhosts ≡ old.vhosts → IsHeld (setup a) new
still_held a old new held table files guests vhosts = record {
  table = table;
  frames = subst (HaveFrames a) (sym files) held.frames;
  vhosts = subst (λ (gs : List (Option Guest)). HaveVhosts gs new.vhosts) (sym guests)
      (subst (λ (vs : List (Option Side)). HaveVhosts old.guests vs) (sym vhosts) held.vhosts);
}

-- ---- such an event was done

pub done : (a : Asking) (d : Doing) (kind : EventKind) (old new : Shared) (on : Onward)
    (ops : List Op) (hosts drops : List Name) (writer : Option ℕ) (o : world.Onward)
    → Rests a ops hosts drops writer old new → IsHeld (setup a) old
    → HasEffect a (come_of old.vhosts d) kind old (effect_with ops hosts drops writer o)
    → written_out a.seen (come_of old.vhosts d) o ≡ onward_of old.vhosts on → SuitsOn old.vhosts a on
    → Did a d kind old new on
done a d kind old new on ops hosts drops writer o r held has onward suits = record {
  effect = effect_with ops hosts drops writer o;
  has = has;
  left = record {
    ops = r.ops;
    files = ap (λ (fs : List (Option Placed)). Some (files_of fs)) (sym r.files);
    guests = ap (λ (gs : List (Option Guest)). Some gs) (sym r.guests);
    vhosts = ap (λ (vs : List (Option Side)). vhosts_of vs) (sym r.vhosts);
    hosted = r.hosted;
    dropped = r.dropped;
    writer = r.writer;
    phase = r.phase;
  };
  onward = subst (λ (vs : List (Option Side)). written_out a.seen (come_of old.vhosts d) o ≡ onward_of vs on) (sym r.vhosts) onward;
  held = still_held a old new held r.table r.files r.guests r.vhosts;
  suits = subst (λ (vs : List (Option Side)). SuitsOn vs a on) (sym r.vhosts) suits;
  stay = subst (λ (vs : List (Option Side)). TurnsStay a.actor old.vhosts vs) (sym r.vhosts) (turns_same a.actor old.vhosts);
}

-- ---- what is left: all but the writer, with one more name, or with one more operation

pub rests : (a : Asking) (x : Shared) (writer : Option ℕ) → IsHeld (setup a) x
    → Rests a [] [] [] writer x (record x { writer = writer })
rests a x writer held = record {
  ops = no_more x.ops.ops;
  table = held.table;
  files = refl;
  guests = refl;
  vhosts = refl;
  hosted = no_more x.hosted.items;
  dropped = no_more x.dropped.items;
  writer = refl;
  phase = refl;
}

pub rests_dropping : (a : Asking) (old new : Shared) (name : Name) → IsHeld (setup a) old
    → new ≡ record old { dropped = new.dropped } → new.dropped.items ≡ old.dropped.items ++ name ∷ []
    → Rests a [] [] (name ∷ []) old.writer old new
rests_dropping a old new name held is names = record {
  ops = ap (λ (x : Shared). x.ops.ops) is ∙ no_more old.ops.ops;
  table = subst (λ (t : Told). BeganAt (opening_table (setup a)) t) (sym (ap (λ (x : Shared). x.ops) is)) held.table;
  files = ap (λ (x : Shared). x.files) is;
  guests = ap (λ (x : Shared). x.guests) is;
  vhosts = ap (λ (x : Shared). x.vhosts) is;
  hosted = ap (λ (x : Shared). x.hosted.items) is ∙ no_more old.hosted.items;
  dropped = names;
  writer = ap (λ (x : Shared). x.writer) is;
  phase = ap (λ (x : Shared). x.phase) is;
}

pub rests_publishing : (a : Asking) (old : Shared) (x : Op) (writer : Option ℕ) → IsHeld (setup a) old
    → Rests a (x ∷ []) [] [] writer old (record old {
      ops = told_more (record { phase = old.phase; actor = a.actor; command = a.number; op = x }) old.ops;
      writer = writer;
    })
rests_publishing a old x writer held = record {
  ops = refl;
  table = table_more (opening_table (setup a)) (record { phase = old.phase; actor = a.actor; command = a.number; op = x })
      old.ops held.table;
  files = refl;
  guests = refl;
  vhosts = refl;
  hosted = no_more old.hosted.items;
  dropped = no_more old.dropped.items;
  writer = refl;
  phase = refl;
}
