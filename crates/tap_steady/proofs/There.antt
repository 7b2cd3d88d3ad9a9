-- This project's own: files, guests and vhosts stay the declared ones.
use Rattle.std.proofs.Common.{◌≡◌, ℕ, zero, suc, ◌-◌, List, [], ◌∷◌, map, Bool, true, false, Option, Some, None, refl, sym, ap, ◌∙◌, subst}
use Rattle.std.specs.Prelude.{if◌then◌else◌, ◌&&◌, ◌==◌, not, is_none, option_map, slice_get}
use Rattle.std.specs.Option.{option_map_or}
use Rattle.guest_mem.specs.declared.region.Region.{Region}
use Rattle.guest_mem.specs.Memory.{Contents}
use Rattle.tap_ledger.specs.declared.error.TapErr.{TapErr as TapText}
use Rattle.vhost_dev.specs.Refusals.{number_refusal, ready_refusal}
use Rattle.vhost_dev.specs.Settings.{ring_at}
use Rattle.tap_steer.specs.Select.{shape_of}
use Rattle.scen_words.specs.declared.command.Command.{Command}
use Rattle.scen_words.specs.declared.command.Command.TheVariants as command
use Rattle.tap_trace.specs.declared.answer.Answer.{Answer}
use Rattle.tap_trace.specs.declared.kind.Kind.{Kind}
use Rattle.tap_world.specs.ByNumber.{at, with_at}
use Rattle.tap_world.specs.Setup.{Declared, Setup, setup_of}
use Rattle.tap_world.specs.declared.line.Standing.{Standing}
use Rattle.tap_world.specs.declared.line.Standing.TheVariants.{Batched, Cut, Out}
use Rattle.tap_world.specs.Line.{File, first_that, has_claim, in_batch, in_ring, is_over, last_that}
use Rattle.tap_world.specs.LineSteps.{Change, changed, may_leave, moves_to, ready_front}
use Rattle.tap_world.specs.LineSteps.Change.{Claims, Cuts, Leaves, Moves, Owned, Puts, PutsBack, Reopens, Shuts, Sizes, Takes}
use Rattle.tap_world.specs.Guests.{Guest, Vhost, is_ring, new_guest, new_vhost, with_turn}
use Rattle.tap_world.specs.World.{Actor, Doing, World, table}
use Rattle.tap_world.specs.World.Doing.{Backed, Disowned, Owns, Released, Unbacked}
use Rattle.tap_world.specs.Effect.{Effect, OnFiles, OnGuests, OnVhosts, files_after, guests_after, vhosts_after, with_effect}
use Rattle.tap_world.specs.Effect.OnFiles.{NoFile, OnFile}
use Rattle.tap_world.specs.Effect.OnGuests.{NoGuest, OnGuest}
use Rattle.tap_world.specs.Effect.OnVhosts.{NoVhost, OnVhost}
use Rattle.tap_world.specs.StepBackend as back
use Rattle.tap_world.specs.StepTurns.{rx_state}
use Rattle.tap_world.specs.StepTransmits.{tx_state}
use Rattle.tap_world.specs.Runs.{new_file}
use Rattle.tap_world.specs.Steady.{IsThere}
use Rattle.tap_sound.proofs.Kit.{either, some_same, then_some, where_some}
use Rattle.tap_sound.proofs.Taken.{if_some, step_is, when_settled}
use Rattle.tap_sound.proofs.Kept.{effect_files}
use Rattle.tap_sound.proofs.Held.{shape_here}
use Rattle.tap_sound.proofs.Shapes.{Shape}
use Rattle.tap_sound.proofs.Shapes.Shape.{Approves, BackApproves, BackDrives, BackPublishes, Calling, Giving, Learning, Owning, Publishing, Quiet, Reopening, RxTurning, Shutting, Sizing, Touching, Trims, TxTurning, Withdrawing}
use Rattle.tap_sound.proofs.Kit.{only_some}
use Rattle.tap_steady.specs.Part.{IsPart}
use Rattle.tap_steady.proofs.ThereCalls.{call_guest}
use Rattle.tap_steady.proofs.ThereTurns.{RxSame, TxSame, rx_same, tx_same}

-- ---- lists by number

-- what all say stays, where what is new says what the old one said
same_map : {A B : Type 0} (h : A → B) (n : ℕ) (new old : A) (xs : List (Option A)) → at xs n ≡ Some old → h new ≡ h old
    → map (λ (x : Option A). option_map h x) (with_at n new xs) ≡ map (λ (x : Option A). option_map h x) xs
same_map h n new old [] e same = refl
same_map h zero new old (x ∷ xs) e same =
    ap (λ (y : Option _). y ∷ map (λ (z : Option _). option_map h z) xs) (ap (λ (k : _). Some k) same
    ∙ sym (ap (λ (z : Option _). option_map h z) e))
same_map h (suc n) new old (x ∷ xs) e same = ap (λ (ys : List (Option _)). option_map h x ∷ ys)
    (same_map h n new old xs e same)

-- what is made of each, and then said of it
made_map : {A B C : Type 0} (h : B → C) (k : A → B) (j : A → C) → ((x : A) → h (k x) ≡ j x) → (xs : List (Option A))
    → map (λ (x : Option B). option_map h x) (map (λ (x : Option A). option_map k x) xs) ≡ map
    (λ (x : Option A). option_map j x) xs
made_map h k j same [] = refl
made_map h k j same (None ∷ xs) = ap (λ (ys : List (Option _)). None ∷ ys) (made_map h k j same xs)
made_map h k j same (Some x ∷ xs) =
    ap (λ (y : _). Some y ∷ map (λ (z : Option _). option_map h z) (map (λ (z : Option _). option_map k z) xs)) (same x)
    ∙ ap (λ (ys : List (Option _)). Some (j x) ∷ ys) (made_map h k j same xs)

itself : {A : Type 0} (xs : List (Option A)) → map (λ (x : Option A). option_map (λ (y : A). y) x) xs ≡ xs
itself [] = refl
itself (None ∷ xs) = ap (λ (ys : List (Option _)). None ∷ ys) (itself xs)
itself (Some x ∷ xs) = ap (λ (ys : List (Option _)). Some x ∷ ys) (itself xs)

-- ---- files

abbrev firsts : List (Option File) → List (Option ℕ)
firsts fs = map (λ (f : Option File). option_map (λ (x : File). x.first) f) fs

moved_first : (s : Standing) (f g : File) (o : Option ℕ) → moves_to s f o ≡ Some g → g.first ≡ f.first
moved_first s f g None e = absurd (cc (e))
moved_first s f g (Some i) e = ap (λ (x : File). x.first) (sym (some_same _ g e))

first_kept : (c : Change) (f g : File) → changed c f ≡ Some g → g.first ≡ f.first
first_kept (Claims actor name epoch len) f g e = ap (λ (x : File). x.first) (sym (only_some _ _ g e).1)
first_kept (Puts actor place) f g e =
    let t = then_some (slice_get f.line (place - f.first)) _ g e in
    ap (λ (x : File). x.first) (sym (only_some _ _ g t.2).1)
first_kept Moves f g e = moved_first Batched f g (ready_front f.line) (if_some _ _ g e).1
first_kept (Takes vhost) f g e = ap (λ (x : File). x.first) (sym (only_some _ _ g e).1)
first_kept (PutsBack vhost) f g e = ap (λ (x : File). x.first) (sym (only_some _ _ g e).1)
first_kept (Leaves worker fate) f g e =
    moved_first (Out fate) (record f { hand = None }) g (first_that in_batch f.line)
    (if_some (may_leave worker f) _ g e).1
first_kept Shuts f g e = ap (λ (x : File). x.first) (sym (only_some _ _ g e).1)
first_kept Reopens f g e = ap (λ (x : File). x.first) (sym (only_some _ _ g e).1)
first_kept (Sizes capacity) f g e = ap (λ (x : File). x.first) (sym (only_some _ _ g e).1)
first_kept Cuts f g e = moved_first Cut f g (last_that in_ring f.line)
    (if_some (is_over f && not (has_claim f)) _ g e).1
first_kept (Owned owner) f g e = ap (λ (x : File). x.first) (sym (only_some _ _ g e).1)

files_same : (o : OnFiles) (files after : List (Option File)) → files_after o files ≡ Some after
    → firsts after ≡ firsts files
files_same NoFile files after e = ap firsts (sym (some_same files after e))
files_same (OnFile file c) files after e =
    let f = then_some (at files file) _ after e in
    let g = then_some (changed c f.0) _ after f.2 in
    ap firsts (sym (some_same _ after g.2)) ∙ same_map (λ (x : File). x.first) file g.0 f.0 files f.1
    (first_kept c f.0 g.0 g.1)

-- ---- guests and vhosts

-- a guest that changes is there, and keeps its regions; a vhost that changes is there, and keeps its guest
abbrev GuestStays : World → OnGuests → Type 0
GuestStays w NoGuest = Unit {0}
GuestStays w (OnGuest guest m step) = (g : Guest) × (at w.guests guest ≡ Some g) × (m.regions ≡ g.memory.regions)

abbrev VhostStays : World → OnVhosts → Type 0
VhostStays w NoVhost = Unit {0}
VhostStays w (OnVhost vhost new) = (v : Vhost) × (at w.vhosts vhost ≡ Some v) × (new.guest ≡ v.guest)

record LeavesAll (w : World) (r : Effect) : Type 0 where
  guests : GuestStays w r.guests
  vhosts : VhostStays w r.vhosts

none : (w : World) (r : Effect) → r.guests ≡ NoGuest → r.vhosts ≡ NoVhost → LeavesAll w r
none w r g v = record { guests = subst (GuestStays w) (sym g) tt; vhosts = subst (VhostStays w) (sym v) tt }

turn_guest : (ring : ℕ) (o : Option ℕ) (v : Vhost) → (with_turn ring o v).guest ≡ v.guest
turn_guest ring o v = either (λ (q : Vhost). q.guest ≡ v.guest) (ring == 0) _ _ refl refl

perhaps_turned : (b : Bool) (ring : ℕ) (o : Option ℕ) (w : World) (vhost : ℕ) (v : Vhost) → at w.vhosts vhost ≡ Some v
    → VhostStays w (OnVhost vhost (if b then with_turn ring o v else v))
perhaps_turned true ring o w vhost v is = (v, is, turn_guest ring o v)
perhaps_turned false ring o w vhost v is = (v, is, refl)

-- a step of a guest, perhaps
told_guest : (w : World) (guest : ℕ) (g : Guest) (m : Contents) (o : Option Kind) → at w.guests guest ≡ Some g
    → m.regions ≡ g.memory.regions
    → GuestStays w (option_map_or (λ k. OnGuest guest m (Some k)) o NoGuest)
told_guest w guest g m None is same = tt
told_guest w guest g m (Some k) is same = (g, is, same)

back_over : (w : World) (vhost ring : ℕ) (o : Option Vhost) → at w.vhosts vhost ≡ o
    → VhostStays w (option_map_or (λ v. OnVhost vhost (with_turn ring None v)) o NoVhost)
back_over w vhost ring None is = tt
back_over w vhost ring (Some v) is = (v, is, turn_guest ring None v)

back_publishes : (w : World) (d : Doing) (vhost ring : ℕ) (asked : Option ℕ) (r : Effect)
    → back.publishes_back w d (command.Backend vhost ring asked) ≡ Some r → LeavesAll w r
back_publishes w (Backed file) vhost ring asked r e =
    subst (LeavesAll w) (some_same _ r e)
    (either (LeavesAll w) (ring == 0) _ _ (record { guests = tt; vhosts = tt })
    (record { guests = tt; vhosts = back_over w vhost ring (at w.vhosts vhost) refl }))
back_publishes w (Disowned file) vhost ring asked r e =
    subst (LeavesAll w) (some_same _ r e)
    (record { guests = tt; vhosts = back_over w vhost ring (at w.vhosts vhost) refl })
back_publishes w (Released file) vhost ring asked r e =
    subst (LeavesAll w) (some_same _ r e)
    (record { guests = tt; vhosts = back_over w vhost ring (at w.vhosts vhost) refl })
back_publishes w d vhost ring asked r e = absurd (cc (e))

owning : (w : World) (seen : ℕ) (d : Doing) (vhost ring : ℕ) (asked : Option ℕ) (r : Effect)
    → back.owns w seen d (command.Backend vhost ring asked) ≡ Some r → LeavesAll w r
owning w seen (Owns file version) vhost ring asked r e =
    subst (LeavesAll w) (some_same _ r e)
    (record { guests = tt; vhosts = back_over w vhost ring (at w.vhosts vhost) refl })
owning w seen (Unbacked file) vhost ring asked r e = subst (LeavesAll w) (some_same _ r e)
    (record { guests = tt; vhosts = tt })
owning w seen d vhost ring asked r e = absurd (cc (e))

unsets : (w : World) (me seen vhost ring : ℕ) (v : Vhost) (g : Guest) (a : Option Answer) (file : Option ℕ)
    → at w.vhosts vhost ≡ Some v
    → at w.guests v.guest ≡ Some g → LeavesAll w (back.unsets_back w me seen vhost ring v g.memory a file)
unsets w me seen vhost ring v g (Some a) file is got =
    record { guests = tt; vhosts = perhaps_turned (is_ring ring && true) ring None w vhost v is }
unsets w me seen vhost ring v g None None is got =
    record { guests = (g, got, refl); vhosts = perhaps_turned (is_ring ring && true) ring None w vhost v is }
unsets w me seen vhost ring v g None (Some file) is got = record { guests = (g, got, refl); vhosts = (v, is, refl) }

sets : (w : World) (me seen vhost ring file : ℕ) (x : Option TapText) (v : Vhost) (g : Guest) (a : Option Answer)
    → at w.vhosts vhost ≡ Some v
    → at w.guests v.guest ≡ Some g → LeavesAll w (back.sets_back w me seen vhost ring file x v g.memory a)
sets w me seen vhost ring file x v g (Some a) is got = record {
  guests = told_guest w v.guest g g.memory _ got refl;
  vhosts = perhaps_turned (is_ring ring && is_none x) ring None w vhost v is;
}
sets w me seen vhost ring file x v g None is got = record { guests = (g, got, refl); vhosts = (v, is, refl) }

drives : (s : Setup) (w : World) (me seen : ℕ) (x : Option TapText) (vhost ring : ℕ) (file : Option ℕ) (v : Vhost)
    (g : Guest) (r : Effect)
    → at w.vhosts vhost ≡ Some v → at w.guests v.guest ≡ Some g
    → back.back_call s w me seen x vhost ring file v g.memory ≡ Some r → LeavesAll w r
drives s w me seen x vhost ring None v g r is got e =
    let t = then_some (back.refused_by (number_refusal ring)) _ r e in
    subst (LeavesAll w) (some_same _ r t.2) (unsets w me seen vhost ring v g t.0 (ring_at ring v.settings).file is got)
drives s w me seen x vhost ring (Some file) v g r is got e =
    let t = then_some (back.back_answer (ready_refusal ring g.memory v.settings) x
    (back.unfit_for (shape_of (table s w) file) v.settings)) _ r e in
    subst (LeavesAll w) (some_same _ r t.2) (sets w me seen vhost ring file x v g t.0 is got)

-- ---- each shape

leaves : (s : Setup) (w : World) (me seen : ℕ) (d : Doing) (c : Command) (r : Effect) → Shape s w me seen d c r
    → LeavesAll w r
leaves s w me seen d c r (Quiet o f g v wr a) = none w r g v
leaves s w me seen d c r (Giving vhost file t told o f g v wr h) = none w r g v
leaves s w me seen d c r (Trims file n m k f is eq) = subst (LeavesAll w) eq (record { guests = tt; vhosts = tt })
leaves s w me seen d c r (Approves x is of free lawful eq) = subst (LeavesAll w) eq
    (record { guests = tt; vhosts = tt })
leaves s w me seen d c r (BackApproves vhost ring file v is cis at_ free turn lawful eq) =
    subst (LeavesAll w) eq (record { guests = tt; vhosts = perhaps_turned (is_ring ring) ring (Some me) w vhost v at_ })
leaves s w me seen d c r (Reopening file f is at_ eq) = subst (LeavesAll w) eq (record { guests = tt; vhosts = tt })
leaves s w me seen d c r (Shutting file version f is at_ eq) = subst (LeavesAll w) eq
    (record { guests = tt; vhosts = tt })
leaves s w me seen d c r (Sizing file capacity f is at_ eq) = subst (LeavesAll w) eq
    (record { guests = tt; vhosts = tt })
leaves s w me seen d c r (Publishing x v y last of lawful eq) = subst (LeavesAll w) eq
    (record { guests = tt; vhosts = tt })
leaves s w me seen d c r (Withdrawing x file is of lawful eq) = subst (LeavesAll w) eq
    (record { guests = tt; vhosts = tt })
leaves s w me seen d c r (Learning file hash o f g v wr free a) = none w r g v
leaves s w me seen d c r (BackPublishes vhost ring asked cis eq) = back_publishes w d vhost ring asked r eq
leaves s w me seen d c r (Owning vhost ring asked cis eq) = owning w seen d vhost ring asked r eq
leaves s w me seen d c r
    (BackDrives x vhost ring file v g is cis at_ got free eq) = drives s w me seen x vhost ring file v g r at_ got eq
leaves s w me seen d c r (Calling vhost v g x is of at_ got call may eq) =
    let k = call_guest c v g.memory x call in
    subst (LeavesAll w) eq (record { guests = told_guest w v.guest g x.memory x.step got k.0; vhosts = (v, at_, k.1) })
leaves s w me seen d c r (Touching guest g m step v y got same is o f gs vs wr on) =
    record { guests = subst (GuestStays w) (sym gs) (g, got, same); vhosts = subst (VhostStays w) (sym vs) tt }
leaves s w me seen d c r (RxTurning vhost file t v g h made files f over cis at_ got way step lv told eq) =
    subst (LeavesAll w) eq
    (record {
      guests = (
        g,
        got,
        where_some (RxSame (rx_state t v g.memory)) _ made
            (rx_same h (rx_state t v g.memory)) step,
      );
      vhosts = (v, at_, refl);
    })
leaves s w me seen d c r (TxTurning vhost file t told v g made st over cis at_ got way step end_ eq) =
    subst (LeavesAll w) eq
    (record {
      guests = (
        g,
        got,
        where_some (TxSame (tx_state t v g.memory)) _ made
            (tx_same (tx_state t v g.memory)) step,
      );
      vhosts = (v, at_, refl);
    })

-- ---- the world after an event

abbrev regions : List (Option Guest) → List (Option (List Region))
regions gs = map (λ (g : Option Guest). option_map (λ (x : Guest). x.memory.regions) g) gs

abbrev guests : List (Option Vhost) → List (Option ℕ)
guests vs = map (λ (v : Option Vhost). option_map (λ (x : Vhost). x.guest) v) vs

guests_same : (w : World) (o : OnGuests) (actor n : ℕ) (after : List (Option Guest)) → GuestStays w o
    → guests_after actor n o w.guests ≡ Some after → regions after ≡ regions w.guests
guests_same w NoGuest actor n after h e = ap regions (sym (some_same w.guests after e))
guests_same w (OnGuest guest m step) actor n after h e =
    let g = then_some (at w.guests guest) _ after e in
    ap regions (sym (some_same _ after g.2))
    ∙ same_map (λ (x : Guest). x.memory.regions) guest _ g.0 w.guests g.1
    (h.2 ∙ ap (λ (x : Guest). x.memory.regions) (some_same h.0 g.0 (sym h.1 ∙ g.1)))

vhosts_same : (w : World) (o : OnVhosts) → VhostStays w o → guests (vhosts_after o w.vhosts) ≡ guests w.vhosts
vhosts_same w NoVhost h = refl
vhosts_same w (OnVhost vhost new) h = same_map (λ (x : Vhost). x.guest) vhost new h.0 w.vhosts h.1 h.2

effect_guests : (r : Effect) (actor : ℕ) (a : Actor) (n : ℕ) (w v : World) → with_effect r actor a n w ≡ Some v
    → (guests_after actor n r.guests w.guests ≡ Some v.guests) × (vhosts_after r.vhosts w.vhosts ≡ v.vhosts)
effect_guests r actor a n w v e =
    let f = then_some (files_after r.files w.files) _ v e in
    let g = then_some (guests_after actor n r.guests w.guests) _ v f.2 in
    (g.1 ∙ ap (λ (x : World). Some x.guests) (some_same _ v g.2), ap (λ (x : World). x.vhosts) (some_same _ v g.2))

between_there : (s : Setup) (w : World) (r : Effect) (actor : ℕ) (a : Actor) (n : ℕ) (v : World)
    → with_effect r actor a n w ≡ Some v
    → LeavesAll w r → IsThere s w → IsThere s v
between_there s w r actor a n v made l h =
    let e = effect_guests r actor a n w v made in
    record {
      files = files_same r.files w.files v.files (effect_files r actor a n w v made) ∙ h.files;
      guests = guests_same w r.guests actor n v.guests l.guests e.0 ∙ h.guests;
      vhosts = ap guests (sym e.1) ∙ vhosts_same w r.vhosts l.vhosts ∙ h.vhosts;
    }

pub what_is_there_stays : IsPart (λ s w. IsThere s w)
what_is_there_stays = record {
  first = λ s laid. record {
    files = made_map (λ (x : File). x.first) new_file (λ (d : Declared). d.first) (λ d. refl) (setup_of s).files;
    guests = made_map (λ (x : Guest). x.memory.regions) new_guest (λ (rs : List Region). rs) (λ rs. refl)
        (setup_of s).guests
        ∙ itself (setup_of s).guests;
    vhosts = made_map (λ (x : Vhost). x.guest) new_vhost (λ (guest : ℕ). guest) (λ guest. refl) (setup_of s).vhosts
        ∙ itself (setup_of s).vhosts;
  };
  begin = λ s ended p w laid between is sound steady.
      record { files = steady.there.files; guests = steady.there.guests; vhosts = steady.there.vhosts };
  event = λ s w e u laid of_ is sound steady after.
      let t = step_is (setup_of s) w e u is in
      let shape = shape_here (setup_of s) w e u.0 t sound.sound.actors.stand in
      let l = leaves (setup_of s) w e.actor t.actor.seen t.actor.doing t.now.command t.effect shape in
      let b : IsThere (setup_of s) t.between = between_there
      (setup_of s) w t.effect e.actor t.actor e.command t.between t.made l steady.there in
      subst (IsThere (setup_of s)) t.is
      (when_settled (IsThere (setup_of s)) t.between b
      (λ f end. record { files = b.files; guests = b.guests; vhosts = b.vhosts }));
}
