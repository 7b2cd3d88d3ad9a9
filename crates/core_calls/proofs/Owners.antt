-- The owner of a file.
use Rattle.std.proofs.Common.{◌≡◌, ℕ, List, Bool, true, false, Option, Some, None, refl, sym, ap, ◌∙◌, subst}
use Rattle.std.specs.Prelude.{if◌then◌else◌, ◌==◌, is_some}
use Rattle.std.specs.Option.{option_map_or}
use Rattle.scen_words.specs.declared.command.Command.{Command}
use Rattle.tap_guests.specs.Side.{Side}
use Rattle.tap_lines.specs.Files.{files_of}
use Rattle.tap_lines.specs.Placed.{MayChange, Placed}
use Rattle.tap_sound.proofs.Kit.{then_some}
use Rattle.tap_trace.specs.declared.answer.Answer.TheVariants as answer
use Rattle.tap_world.specs.declared.event.EventKind.{EventKind}
use Rattle.tap_world.specs.declared.event.EventKind.TheVariants as event
use Rattle.tap_world.specs.declared.event.Found.TheVariants as found
use Rattle.tap_world.specs.ByNumber.{at, with_at}
use Rattle.tap_world.specs.Effect as world
use Rattle.tap_world.specs.Effect.{Effect, files_after, on_file}
use Rattle.tap_world.specs.Effect.OnFiles.{OnFile}
use Rattle.tap_world.specs.Line.{File}
use Rattle.tap_world.specs.LineSteps.{Change, changed}
use Rattle.tap_world.specs.LineSteps.Change.{Owned}
use Rattle.tap_world.specs.Step.{row}
use Rattle.tap_world.specs.StepBackend.{back_over}
use Rattle.tap_world.specs.World as come
use Rattle.core_shared.specs.Asking.{Asking, setup}
use Rattle.core_shared.specs.Did.{Did, HasEffect}
use Rattle.core_shared.specs.MayDo.{MayDo, actor_at}
use Rattle.core_shared.specs.Worlds.{world_in}
use Rattle.core_shared.specs.declared.doing.Doing.TheVariants as doing
use Rattle.core_shared.specs.declared.onward.Onward.TheVariants as on
use Rattle.core_shared.specs.declared.shared.Shared.{Shared}
use Rattle.core_shared.proofs.Kit.{placed_at}
use Rattle.core_shared.proofs.Leaving.{AreSent, file_left, files_sent_with, no_more, sent_of, turns_same}
use Rattle.core_calls.specs.Turned.{turned}
use Rattle.core_calls.proofs.Facts.{effect_is, held}
use Rattle.core_calls.proofs.Holding.{turned_lies, turned_stay, turned_vhosts}
use Rattle.core_calls.proofs.Poking.{bare}

if_held_is : {A : Type 0} (b : Bool) (r q : A) → b ≡ true → (if b then r else q) ≡ r
if_held_is true r q e = refl
if_held_is false r q e = absurd (cc (e))

-- where one file is to change, it is there and may change so
pub record ChangesOne (change : Change) (files : List (Option Placed)) (file : ℕ) : Type 0 where
  pub old : Placed
  pub is_there : at files file ≡ Some old
  pub may : MayChange change old.file

changes_one : (change : Change) (files : List (Option Placed)) (file : ℕ) (after : List (Option File))
    → files_after (OnFile file change) (files_of files) ≡ Some after → ChangesOne change files file
changes_one change files file after e =
    let f = then_some (at (files_of files) file) _ after e in
    let g = then_some (changed change f.0) _ after f.2 in
    let p = placed_at file files f.0 f.1 in
    record {
      old = p.0;
      is_there = p.1;
      may = ap (λ (y : File). is_some (changed change y)) p.2 ∙ ap (λ (o : Option File). is_some o) g.1;
    }

-- ---- a worker owns the file

abbrev owned : Asking → Shared → ℕ → ℕ → ℕ → Effect
owned a x vhost file version =
    record (back_over (bare x) a.seen vhost 0 version) { files = OnFile file (Owned (Some vhost)) }

has_owned : {a : Asking} {kind₀ : EventKind} {x : Shared} (vhost file version : ℕ)
    → MayDo a (doing.Owns vhost file version) kind₀ x
    → HasEffect a (come.Doing.Owns file version) event.Owner x (owned a x vhost file version)
has_owned {a} {kind₀} {x} vhost file version m = record {
  is_next = λ actors said. refl;
  is_row = λ actors said rest.
      ap (λ (c : Command). row (setup a) (world_in x actors said) event.Owner a.actor
      (actor_at a (come.Doing.Owns file version) rest) a.number c) m.suits.0
      ∙ if_held_is (option_map_or (λ (k : ℕ). k == a.actor) x.writer false) (Some (owned a x vhost file version)) None (held m refl);
}

pub owns_one : {a : Asking} {kind₀ : EventKind} {x : Shared} (vhost file version : ℕ)
    → MayDo a (doing.Owns vhost file version) kind₀ x → ChangesOne (Owned (Some vhost)) x.files file
owns_one {a} {kind₀} {x} vhost file version m =
    changes_one (Owned (Some vhost)) x.files file m.event.files
    (subst (λ (r : Effect). files_after r.files (files_of x.files) ≡ Some m.event.files)
    (effect_is m event.Owner (owned a x vhost file version) (has_owned vhost file version m)) m.event.is_files)

pub own_did : {a : Asking} {kind₀ : EventKind} {x : Shared} (vhost file version : ℕ)
    (m : MayDo a (doing.Owns vhost file version) kind₀ x) (v : Side) (p q : Placed)
    → at x.vhosts vhost ≡ Some v
    → at x.files file ≡ Some p → changed (Owned (Some vhost)) p.file ≡ Some q.file → q.frames ≡ p.frames
    → Did a (doing.Owns vhost file version) event.Owner x
    (record x { files = with_at file q x.files; vhosts = turned vhost 0 None x.vhosts; writer = None })
    (on.Ends a.seen (answer.Version version))
own_did {a} {kind₀} {x} vhost file version m v p q is there change frames = record {
  effect = owned a x vhost file version;
  has = has_owned vhost file version m;
  left = record {
    ops = no_more x.ops.ops;
    files = file_left file (Owned (Some vhost)) x.files p q there change;
    guests = refl;
    vhosts = turned_vhosts vhost 0 None x.vhosts;
    hosted = no_more x.hosted.items;
    dropped = no_more x.dropped.items;
    writer = refl;
    phase = refl;
  };
  onward = refl;
  held = record {
    table = m.held.table;
    frames = files_sent_with (setup a) x.files file q m.held.frames
        (subst (AreSent (setup a)) (sym frames) (sent_of (setup a) x file p m.held there));
    vhosts = turned_lies vhost 0 None x.vhosts v is x.guests m.held.vhosts;
  };
  suits = tt;
  stay = turned_stay vhost 0 None x.vhosts v is a.actor;
}

-- ---- none does

abbrev disowned : Asking → Shared → ℕ → Effect
disowned a x file =
    on_file file (Owned None) (world.Onward.Goes a.seen (come.Doing.Disowned file) (found.Owner None)) (bare x)

has_disowned : {a : Asking} {kind₀ : EventKind} {x : Shared} (vhost file : ℕ)
    → MayDo a (doing.Unbacked vhost file) kind₀ x
    → HasEffect a (come.Doing.Unbacked file) event.Owner x (disowned a x file)
has_disowned {a} {kind₀} {x} vhost file m = record {
  is_next = λ actors said. refl;
  is_row = λ actors said rest.
      ap (λ (c : Command). row (setup a) (world_in x actors said) event.Owner a.actor
      (actor_at a (come.Doing.Unbacked file) rest) a.number c) m.suits.0
      ∙ if_held_is (option_map_or (λ (k : ℕ). k == a.actor) x.writer false) (Some (disowned a x file)) None (held m refl);
}

pub disowns_one : {a : Asking} {kind₀ : EventKind} {x : Shared} (vhost file : ℕ)
    → MayDo a (doing.Unbacked vhost file) kind₀ x → ChangesOne (Owned None) x.files file
disowns_one {a} {kind₀} {x} vhost file m =
    changes_one (Owned None) x.files file m.event.files
    (subst (λ (r : Effect). files_after r.files (files_of x.files) ≡ Some m.event.files)
    (effect_is m event.Owner (disowned a x file) (has_disowned vhost file m)) m.event.is_files)

pub disown_did : {a : Asking} {kind₀ : EventKind} {x : Shared} (vhost file : ℕ)
    (m : MayDo a (doing.Unbacked vhost file) kind₀ x) (p q : Placed)
    → at x.files file ≡ Some p → changed (Owned None) p.file ≡ Some q.file → q.frames ≡ p.frames
    → Did a (doing.Unbacked vhost file) event.Owner x (record x { files = with_at file q x.files })
    (on.Goes a.seen (doing.Disowned vhost file) (found.Owner None))
disown_did {a} {kind₀} {x} vhost file m p q there change frames = record {
  effect = disowned a x file;
  has = has_disowned vhost file m;
  left = record {
    ops = no_more x.ops.ops;
    files = file_left file (Owned None) x.files p q there change;
    guests = refl;
    vhosts = refl;
    hosted = no_more x.hosted.items;
    dropped = no_more x.dropped.items;
    writer = refl;
    phase = refl;
  };
  onward = refl;
  held = record {
    table = m.held.table;
    frames = files_sent_with (setup a) x.files file q m.held.frames
        (subst (AreSent (setup a)) (sym frames) (sent_of (setup a) x file p m.held there));
    vhosts = m.held.vhosts;
  };
  suits = m.suits;
  stay = turns_same a.actor x.vhosts;
}
