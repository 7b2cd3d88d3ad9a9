-- No world stands still. Who holds the writer may go on, or waits for one who may: who has claimed a place, or has a
-- frame in hand. Where nobody holds it, who waits does so for a turn, and the command that holds that turn may go on.
use Rattle.std.proofs.Common.{◌≡◌, ◌⊎◌, ℕ, ◌<◌, map, Bool, true, false, Option, Some, None, inl, inr, ⊎_elim, refl, sym, ap, ◌∙◌, subst, true≢false, option_map}
use Rattle.std.specs.Prelude.{if◌then◌else◌, ◌+◌, ◌==◌, ◌&&◌, ◌||◌, not, is_none, is_some, slice_get, IfSome, IsSome}
use Rattle.std.specs.Option.{option_map_or}
use Rattle.tap_frame.specs.declared.name.Name.{Name}
use Rattle.scen_words.specs.declared.command.Command.{Command}
use Rattle.scen_words.specs.declared.command.Command.TheVariants as command
use Rattle.tap_ground.specs.Options.{only_if}
use Rattle.tap_ledger.specs.declared.error.TapErr.{TapErr as TapText}
use Rattle.tap_world.specs.ByNumber.{at}
use Rattle.tap_world.specs.Setup.{Declared, NamesDeclared, Numbered, Setup}
use Rattle.tap_world.specs.Line.{File, has_batch, has_claim, is_empty, is_over}
use Rattle.tap_world.specs.LineSteps.{ready_front}
use Rattle.tap_world.specs.Guests.{Vhost, is_free, is_free_for, is_ring, turn_of}
use Rattle.tap_world.specs.World.{Actor, Doing, World, current}
use Rattle.tap_world.specs.World.Doing.{Backed, Backs, Begun, Changes, Disowned, Given, Hosts, Learns, Opened, Opens, Owns, Placed, Purges, Reads, Receives, Released, Resizes, Routed, Shrinks, Teaches, Transmits, Unbacked, Withdrawn, Withdraws}
use Rattle.tap_world.specs.Effect.{Ending, ending, purge_of}
use Rattle.tap_world.specs.Runs.{has_ended}
use Rattle.tap_world.specs.Sound.{IsSound, holds, is_receiving, is_serving}
use Rattle.tap_world.specs.SoundActors.{CanBe, can_be, is_begun}
use Rattle.tap_world.specs.SoundRings.{IsActor, holds_turn, is_about, ring_in}
use Rattle.tap_world.specs.Steady.{IsSteady, file_in}
use Rattle.tap_world.specs.StepControl.{may_call}
use Rattle.tap_world.specs.Waiting.{has_free_turn, may_begin, may_drive, may_go_from, may_purge, may_shrink, vhost_is}
use Rattle.tap_sound.proofs.Kit.{either, some_then}
use Rattle.tap_sound.proofs.Taken.{both}
use Rattle.tap_sound.proofs.Turned.{itself}
use Rattle.tap_waits.specs.Standstill.{SomeMayGo}
use Rattle.tap_waits.proofs.Kit.{and_both, first_of, is_in_map, is_there, there_in, true_or_false}
use Rattle.tap_waits.proofs.StandstillLines.{HasClaimed, any_found, claim_in, claim_in_front, isnt_none, less_than, not_all_found}

-- ---- commands

pub goes : (w : World) (i : ℕ) (a : Actor) (c : Numbered) (d : Doing) → slice_get w.actors i ≡ Some a → current a.script ≡ Some c → a.doing ≡ d
    → may_go_from w i c.command d ≡ true → SomeMayGo w
goes w i a c d here now is h = (i, a, c, here, now, ap (λ (q : Doing). may_go_from w i c.command q) is ∙ h)

-- an actor that has begun has a command
pub under_way : (a : Actor) → CanBe a → is_begun a.doing ≡ false → (c : Numbered) × (current a.script ≡ Some c)
under_way a can begun = go (current a.script) refl can
  where
    go : (o : Option Numbered) → current a.script ≡ o → option_map_or (λ (c : Numbered). can_be a.doing c.command) o (is_begun a.doing) ≡ true
        → (c : Numbered) × (current a.script ≡ Some c)
    go None is h = absurd (true≢false (sym h ∙ begun))
    go (Some c) is h = (c, is)

about_one : (vhost ring : ℕ) (o : Option Numbered) → is_about vhost ring o ≡ true → (c : Numbered) × (o ≡ Some c)
about_one vhost ring None e = absurd (true≢false (sym e))
about_one vhost ring (Some c) e = (c, refl)

begun_holds : (d : Doing) → holds d ≡ true → is_begun d ≡ false
begun_holds Begun h = absurd (true≢false (sym h))
begun_holds d h = refl

-- a receive turn always goes on
receiving : (w : World) (i : ℕ) (c : Command) (file : ℕ) (n : Name) (d : Doing) → is_receiving file n d ≡ true → may_go_from w i c d ≡ true
receiving w i c file n (Receives other t) e = refl
receiving w i c file n d e = absurd (true≢false (sym e))

-- a command that holds a turn, and not the writer, goes on where nobody holds that
serving : (w : World) (i : ℕ) (c : Command) (d : Doing) → w.writer ≡ None → holds_turn d ≡ true → holds d ≡ false → may_go_from w i c d ≡ true
serving w i c (Receives file t) free turn writer = refl
serving w i c (Transmits file t chains) free turn writer = refl
serving w i c (Given file t chains frame) free turn writer = refl
serving w i c (Teaches file t chains frame) free turn writer = ap (λ (o : Option ℕ). is_none o) free
serving w i c (Backs None) free turn writer = absurd (true≢false writer)
serving w i c (Backed file) free turn writer = absurd (true≢false writer)
serving w i c (Owns file version) free turn writer = absurd (true≢false writer)
serving w i c (Unbacked file) free turn writer = absurd (true≢false writer)
serving w i c (Disowned file) free turn writer = absurd (true≢false writer)
serving w i c (Released file) free turn writer = absurd (true≢false writer)
serving w i c d free turn writer = absurd (true≢false (sym turn))

-- ---- turns

-- somebody holds the turn of a ring that there is
pub record IsHeld (ring : ℕ) (v : Vhost) : Type 0 where
  pub holder : ℕ
  pub is_ring : ring < 2
  pub is : turn_of ring v ≡ Some holder

free_or_held : (ring : ℕ) (v : Vhost) → ring < 2 → (is_free ring v ≡ true) ⊎ IsHeld ring v
free_or_held ring v lt = go (turn_of ring v) refl
  where
    go : (o : Option ℕ) → turn_of ring v ≡ o → (is_none o ≡ true) ⊎ IsHeld ring v
    go None is = inl refl
    go (Some holder) is = inr (record { holder = holder; is_ring = lt; is = is })

has_free_or_held : (ring : ℕ) (v : Vhost) → (has_free_turn ring v ≡ true) ⊎ IsHeld ring v
has_free_or_held ring v = go (is_ring ring) refl
  where
    go : (b : Bool) → is_ring ring ≡ b → ((not b || is_free ring v) ≡ true) ⊎ IsHeld ring v
    go true is = free_or_held ring v (less_than ring 2 is)
    go false is = inl refl

free_for_or_held : (i ring : ℕ) (v : Vhost) → (is_free_for i ring v ≡ true) ⊎ IsHeld ring v
free_for_or_held i ring v = go (is_ring ring) refl (turn_of ring v) refl
  where
    go : (b : Bool) → is_ring ring ≡ b → (o : Option ℕ) → turn_of ring v ≡ o
        → ((not b || option_map_or (λ a. a == i) o true) ≡ true) ⊎ IsHeld ring v
    go true is None turn = inl refl
    go true is (Some holder) turn = inr (record { holder = holder; is_ring = less_than ring 2 is; is = turn })
    go false is o turn = inl refl

-- who holds the turn is free for itself
free_for_holder : (i ring : ℕ) (v : Vhost) → (is_ring ring ≡ true → option_map_or (λ a. a == i) (turn_of ring v) false ≡ true) → is_free_for i ring v ≡ true
free_for_holder i ring v h = go (is_ring ring) refl (turn_of ring v) refl
  where
    go : (b : Bool) → is_ring ring ≡ b → (o : Option ℕ) → turn_of ring v ≡ o → (not b || option_map_or (λ a. a == i) o true) ≡ true
    go true is None turn = refl
    go true is (Some holder) turn = ap (λ (o : Option ℕ). option_map_or (λ a. a == i) o false) (sym turn) ∙ h is
    go false is o turn = refl

-- a ring that a backend names is what it is about
about_its_ring : (vhost ring : ℕ) (asked : Option ℕ) → is_ring ring ≡ true
    → option_map_or (λ (r : ℕ × ℕ). r.0 == vhost && r.1 == ring) (ring_in (command.Backend vhost ring asked)) false ≡ true
about_its_ring vhost ring asked is =
    ap (λ (b : Bool). option_map_or (λ (r : ℕ × ℕ). r.0 == vhost && r.1 == ring) (only_if b (vhost, ring)) false) is
    ∙ and_both (vhost == vhost) (ring == ring) (itself vhost) (itself ring)

-- ---- a sound and steady world

module _ (s : Setup) (w : World) (sound : IsSound s w) (steady : IsSteady s w) where
  file_there : (file : ℕ) → is_some (at s.files file) ≡ true → (f : File) × (at w.files file ≡ Some f)
  file_there file e =
      there_in (λ (x : File). x.first) w.files (map (λ (o : Option Declared). option_map (λ (x : Declared). x.first) o) s.files) file steady.there.files
      (is_in_map (λ (x : Declared). x.first) s.files file e)

  vhost_there : (vhost : ℕ) → is_some (at s.vhosts vhost) ≡ true → (v : Vhost) × (at w.vhosts vhost ≡ Some v)
  vhost_there vhost e = there_in (λ (x : Vhost). x.guest) w.vhosts s.vhosts vhost steady.there.vhosts e

  file_done : (i : ℕ) (a : Actor) (d : Doing) (file : ℕ) → slice_get w.actors i ≡ Some a → a.doing ≡ d → file_in d ≡ Some file → (f : File) × (at w.files file ≡ Some f)
  file_done i a d file here is names = file_there file
      (subst (λ (o : Option ℕ). IfSome o (λ k. IsSome (at s.files k))) (ap file_in is ∙ names) (steady.named.doing i a here))

  -- a vhost that is there is so, or somebody may go on
  vhost_may : (vhost : ℕ) (test : Vhost → Bool) → is_some (at s.vhosts vhost) ≡ true
      → ((v : Vhost) → at w.vhosts vhost ≡ Some v → (test v ≡ true) ⊎ SomeMayGo w) → (vhost_is w vhost test ≡ true) ⊎ SomeMayGo w
  vhost_may vhost test e h =
      let there = vhost_there vhost e in
      ⊎_elim (λ k. inl (ap (λ (o : Option Vhost). option_map_or test o false) there.1 ∙ k)) (λ k. inr k) (h there.0 there.1)

  -- ---- who is waited for

  -- who has claimed a place puts it
  claimer_goes : (file : ℕ) (f : File) → at w.files file ≡ Some f → HasClaimed f.line → SomeMayGo w
  claimer_goes file f here h =
      let held = sound.claims file f here h.index h.actor h.entry h.is_there h.claimed in
      let c = under_way held.0 (sound.actors.stand h.actor held.0 held.1) (ap is_begun held.2) in
      goes w h.actor held.0 c.0 (Placed file (f.first + h.index) h.entry.epoch h.entry.len) held.1 c.1 held.2 refl

  -- who has a frame in hand goes on with its turn
  receiver_goes : (file : ℕ) (f : File) (vhost : ℕ) → at w.files file ≡ Some f → f.hand ≡ Some vhost → SomeMayGo w
  receiver_goes file f vhost here hand =
      let h = sound.hand file f here vhost hand in
      let found = any_found (is_serving vhost file h.1) w.actors h.3 in
      let t = both (is_receiving file h.1 found.item.doing) (is_about vhost 0 (current found.item.script)) found.is in
      let c = about_one vhost 0 (current found.item.script) t.1 in
      goes w found.index found.item c.0 found.item.doing found.is_there c.1 refl (receiving w found.index c.0.command file h.1 found.item.doing t.0)

  -- where nobody holds the writer, who holds a turn goes on
  holder_goes : w.writer ≡ None → (vhost ring : ℕ) (v : Vhost) → at w.vhosts vhost ≡ Some v → IsHeld ring v → SomeMayGo w
  holder_goes free vhost ring v here h =
      let both_are = sound.actors.holders.1 vhost v here in
      let is_actor : IsActor w (turn_of ring v) = either (IsActor w) (ring == 0) v.rx_turn v.tx_turn both_are.0 both_are.1 in
      let b = is_there (slice_get w.actors h.holder) (subst (IsActor w) h.is is_actor) in
      let t = both (holds_turn b.0.doing) (is_about vhost ring (current b.0.script))
      (sound.actors.turns vhost v here ring h.holder b.0 h.is_ring b.1
      ∙ ap (λ (o : Option ℕ). option_map_or (λ other. other == h.holder) o false) h.is ∙ itself h.holder) in
      let c = about_one vhost ring (current b.0.script) t.1 in
      let writer = sound.actors.writer h.holder b.0 b.1 ∙ ap (λ (o : Option ℕ). option_map_or (λ other. other == h.holder) o false) free in
      goes w h.holder b.0 c.0 b.0.doing b.1 c.1 refl (serving w h.holder c.0.command b.0.doing free t.0 writer)

  -- ---- the command that holds the writer

  not_empty : (i : ℕ) (a : Actor) (c : Numbered) (file version : ℕ) (f : File) → w.writer ≡ Some i → slice_get w.actors i ≡ Some a → current a.script ≡ Some c
      → a.doing ≡ Purges file version → at w.files file ≡ Some f → is_empty f ≡ true → ⊥
  not_empty i a c file version f writer here now is there empty =
      let e : Ending = record { actor = i; state = a; command = c.number; version = version } in
      let ends : ending w ≡ Some e =
      some_then w.writer _ i e writer
      (some_then (slice_get w.actors i) _ a e here
      (some_then (purge_of a.doing) _ (file, version) e (ap purge_of is)
      (some_then (at w.files file) _ f e there
      (some_then (slice_get a.script 0) _ c e now (ap (λ (b : Bool). only_if b e) empty))))) in
      cc (sym steady.ended ∙ ends)

  -- a purge meets a frame in hand, or a claimed place in front of the ring
  purge_waits : (file : ℕ) (f : File) → at w.files file ≡ Some f → is_empty f ≡ false → may_purge f ≡ false → SomeMayGo w
  purge_waits file f here waits h = go (has_batch f) refl h
    where
      go : (b : Bool) → has_batch f ≡ b → (if b then is_none f.hand else is_some (ready_front f.line)) ≡ false → SomeMayGo w
      go true is k = let hand = isnt_none f.hand k in receiver_goes file f hand.0 here hand.1
      go false is k = claimer_goes file f here (claim_in_front f.line waits is k)

  purge_goes : (i : ℕ) (a : Actor) (c : Numbered) (file version : ℕ) → w.writer ≡ Some i → slice_get w.actors i ≡ Some a → current a.script ≡ Some c
      → a.doing ≡ Purges file version → SomeMayGo w
  purge_goes i a c file version writer here now is =
      let f = file_done i a (Purges file version) file here is refl in
      let waits : is_empty f.0 ≡ false =
      ⊎_elim (λ e. absurd (not_empty i a c file version f.0 writer here now is f.1 e)) (λ e. e) (true_or_false (is_empty f.0)) in
      ⊎_elim
      (λ e. goes w i a c (Purges file version) here now is (ap (λ (o : Option File). option_map_or may_purge o false) f.1 ∙ e))
      (λ e. purge_waits file f.0 f.1 waits e)
      (true_or_false (may_purge f.0))

  -- a resize meets a claimed place
  shrink_waits : (file : ℕ) (f : File) → at w.files file ≡ Some f → may_shrink f ≡ false → SomeMayGo w
  shrink_waits file f here h = go (is_over f) (has_claim f) refl h
    where
      go : (o b : Bool) → has_claim f ≡ b → (not o || not b) ≡ false → SomeMayGo w
      go true true is k = claimer_goes file f here (claim_in f.line is)
      go true false is k = absurd (true≢false k)
      go false b is k = absurd (true≢false k)

  shrink_goes : (i : ℕ) (a : Actor) (c : Numbered) (file places cuts : ℕ) → slice_get w.actors i ≡ Some a → current a.script ≡ Some c
      → a.doing ≡ Shrinks file places cuts → SomeMayGo w
  shrink_goes i a c file places cuts here now is =
      let f = file_done i a (Shrinks file places cuts) file here is refl in
      ⊎_elim
      (λ e. goes w i a c (Shrinks file places cuts) here now is (ap (λ (o : Option File). option_map_or may_shrink o false) f.1 ∙ e))
      (λ e. shrink_waits file f.0 f.1 e)
      (true_or_false (may_shrink f.0))

  -- a backend that holds the writer holds its ring's turn
  drives : (i : ℕ) (a : Actor) (n : ℕ) (c : Command) → slice_get w.actors i ≡ Some a → current a.script ≡ Some (record { number = n; command = c })
      → a.doing ≡ Backs None → NamesDeclared s c → can_be (Backs None) c ≡ true → (may_drive w i c ≡ true) ⊎ SomeMayGo w
  drives i a n (command.Backend vhost ring asked) here now is names can =
      vhost_may vhost (is_free_for i ring) names.vhost (λ v there. inl (free_for_holder i ring v (λ ringed.
      sym (sound.actors.turns vhost v there ring i a (less_than ring 2 ringed) here)
      ∙ and_both (holds_turn a.doing) (is_about vhost ring (current a.script)) (ap holds_turn is)
      (ap (is_about vhost ring) now ∙ about_its_ring vhost ring asked ringed))))
  drives i a n c here now is names can = absurd (true≢false (sym can))

  writer_goes : (i : ℕ) (a : Actor) (n : ℕ) (c : Command) (d : Doing) → w.writer ≡ Some i → slice_get w.actors i ≡ Some a
      → current a.script ≡ Some (record { number = n; command = c }) → a.doing ≡ d → holds d ≡ true → NamesDeclared s c → can_be d c ≡ true → SomeMayGo w
  writer_goes i a n c Changes writer here now is h names can = goes w i a (record { number = n; command = c }) Changes here now is refl
  writer_goes i a n c (Opens file) writer here now is h names can = goes w i a (record { number = n; command = c }) (Opens file) here now is refl
  writer_goes i a n c (Opened file) writer here now is h names can = goes w i a (record { number = n; command = c }) (Opened file) here now is refl
  writer_goes i a n c (Withdraws file) writer here now is h names can = goes w i a (record { number = n; command = c }) (Withdraws file) here now is refl
  writer_goes i a n c (Withdrawn file version) writer here now is h names can =
      goes w i a (record { number = n; command = c }) (Withdrawn file version) here now is refl
  writer_goes i a n c (Purges file version) writer here now is h names can = purge_goes i a (record { number = n; command = c }) file version writer here now is
  writer_goes i a n c (Resizes file capacity) writer here now is h names can = goes w i a (record { number = n; command = c }) (Resizes file capacity) here now is refl
  writer_goes i a n c (Shrinks file places cuts) writer here now is h names can = shrink_goes i a (record { number = n; command = c }) file places cuts here now is
  writer_goes i a n c (Backs None) writer here now is h names can = ⊎_elim
      (λ e. goes w i a (record { number = n; command = c }) (Backs None) here now is e)
      (λ g. g) (drives i a n c here now is names can)
  writer_goes i a n c (Backed file) writer here now is h names can = goes w i a (record { number = n; command = c }) (Backed file) here now is refl
  writer_goes i a n c (Owns file version) writer here now is h names can = goes w i a (record { number = n; command = c }) (Owns file version) here now is refl
  writer_goes i a n c (Unbacked file) writer here now is h names can = goes w i a (record { number = n; command = c }) (Unbacked file) here now is refl
  writer_goes i a n c (Disowned file) writer here now is h names can = goes w i a (record { number = n; command = c }) (Disowned file) here now is refl
  writer_goes i a n c (Released file) writer here now is h names can = goes w i a (record { number = n; command = c }) (Released file) here now is refl
  writer_goes i a n c d writer here now is h names can = absurd (true≢false (sym h))

  names_of : (i : ℕ) (a : Actor) (c : Numbered) → slice_get w.actors i ≡ Some a → current a.script ≡ Some c → NamesDeclared s c.command
  names_of i a c here now = first_of (λ (x : Numbered). NamesDeclared s x.command) a.script c (steady.named.commands i a here) now

  can_of : (i : ℕ) (a : Actor) (c : Numbered) → slice_get w.actors i ≡ Some a → current a.script ≡ Some c → can_be a.doing c.command ≡ true
  can_of i a c here now =
      sym (ap (λ (o : Option Numbered). option_map_or (λ (x : Numbered). can_be a.doing x.command) o (is_begun a.doing)) now) ∙ sound.actors.stand i a here

  held_goes : (i : ℕ) → w.writer ≡ Some i → SomeMayGo w
  held_goes i writer =
      let a = is_there (slice_get w.actors i) (subst (IsActor w) writer sound.actors.holders.0) in
      let h : holds a.0.doing ≡ true =
      sound.actors.writer i a.0 a.1 ∙ ap (λ (o : Option ℕ). option_map_or (λ other. other == i) o false) writer ∙ itself i in
      let c = under_way a.0 (sound.actors.stand i a.0 a.1) (begun_holds a.0.doing h) in
      writer_goes i a.0 c.0.number c.0.command a.0.doing writer a.1 c.1 refl h (names_of i a.0 c.0 a.1 c.1) (can_of i a.0 c.0 a.1 c.1)

  -- ---- where nobody holds the writer

  module _ (free : w.writer ≡ None) where
    writer_free : is_none w.writer ≡ true
    writer_free = ap (λ (o : Option ℕ). is_none o) free

    free_to : (vhost ring : ℕ) (test : Bool) (v : Vhost) → at w.vhosts vhost ≡ Some v → (test ≡ true) ⊎ IsHeld ring v → (test ≡ true) ⊎ SomeMayGo w
    free_to vhost ring test v here h = ⊎_elim (λ e. inl e) (λ held. inr (holder_goes free vhost ring v here held)) h

    calls : (i vhost ring : ℕ) → is_some (at s.vhosts vhost) ≡ true → (vhost_is w vhost (is_free_for i ring) ≡ true) ⊎ SomeMayGo w
    calls i vhost ring e = vhost_may vhost (is_free_for i ring) e (λ v here. free_to vhost ring (is_free_for i ring v) v here (free_for_or_held i ring v))

    begins : (i : ℕ) (c : Command) → NamesDeclared s c → (may_begin w i c ≡ true) ⊎ SomeMayGo w
    begins i (command.SetIff file name flags) names = inl writer_free
    begins i (command.SetQueue file flags) names = inl writer_free
    begins i (command.Close file) names = inl writer_free
    begins i (command.Persist file on) names = inl writer_free
    begins i (command.HdrSize file size) names = inl writer_free
    begins i (command.Steer file program) names = inl writer_free
    begins i (command.Filter file program) names = inl writer_free
    begins i (command.Tick now) names = inl writer_free
    begins i (command.Resize file capacity) names = inl writer_free
    begins i (command.Backend vhost ring asked) names = ⊎_elim
        (λ e. inl (and_both (is_none w.writer) (vhost_is w vhost (has_free_turn ring)) writer_free e)) (λ g. inr g)
        (vhost_may vhost (has_free_turn ring) names.vhost (λ v here. free_to vhost ring (has_free_turn ring v) v here (has_free_or_held ring v)))
    begins i (command.RxTurn vhost) names =
        vhost_may vhost (is_free 0) names.vhost (λ v here. free_to vhost 0 (is_free 0 v) v here (free_or_held 0 v (less_than 0 2 refl)))
    begins i (command.TxTurn vhost) names =
        vhost_may vhost (is_free 1) names.vhost (λ v here. free_to vhost 1 (is_free 1 v) v here (free_or_held 1 v (less_than 1 2 refl)))
    begins i (command.Features vhost bits) names = vhost_may vhost (may_call i (command.Features vhost bits)) names.vhost (λ v here. ⊎_elim
        (λ e. ⊎_elim
        (λ f. inl (and_both (is_free_for i 0 v) (is_free_for i 1 v) e f)) (λ g. inr g)
        (free_to vhost 1 (is_free_for i 1 v) v here (free_for_or_held i 1 v)))
        (λ g. inr g)
        (free_to vhost 0 (is_free_for i 0 v) v here (free_for_or_held i 0 v)))
    begins i (command.VNum vhost ring n) names = calls i vhost ring names.vhost
    begins i (command.VBase vhost ring n) names = calls i vhost ring names.vhost
    begins i (command.VAddr vhost ring desc avail used) names = calls i vhost ring names.vhost
    begins i (command.GetBase vhost ring) names = calls i vhost ring names.vhost
    begins i (command.DriveAt vhost ring addr) names = inl refl
    begins i (command.PostIn vhost ring lens) names = inl refl
    begins i (command.PostOut vhost ring bytes) names = inl refl
    begins i (command.Harvest vhost ring) names = inl refl
    begins i (command.Poke guest addr bytes) names = inl refl
    begins i (command.Peek guest addr len) names = inl refl
    begins i (command.Send device hdr bytes) names = inl refl
    begins i (command.Read file room) names = inl refl
    begins i (command.Write file bytes) names = inl refl

    -- a backend that the table refused waits for its ring's turn
    tries : (i : ℕ) (refusal : TapText) (c : Command) → NamesDeclared s c → can_be (Backs (Some refusal)) c ≡ true → (may_drive w i c ≡ true) ⊎ SomeMayGo w
    tries i refusal (command.Backend vhost ring asked) names can = calls i vhost ring names.vhost
    tries i refusal c names can = absurd (true≢false (sym can))

    goes_on : (i : ℕ) (c : Command) (d : Doing) → holds d ≡ false → NamesDeclared s c → can_be d c ≡ true → (may_go_from w i c d ≡ true) ⊎ SomeMayGo w
    goes_on i c Begun h names can = begins i c names
    goes_on i c (Learns file ether) h names can = inl writer_free
    goes_on i c (Teaches file t chains frame) h names can = inl writer_free
    goes_on i c (Backs (Some refusal)) h names can = tries i refusal c names can
    goes_on i c (Routed file epoch len) h names can = inl refl
    goes_on i c (Placed file place epoch len) h names can = inl refl
    goes_on i c (Reads file room front) h names can = inl refl
    goes_on i c (Hosts file ether learns) h names can = inl refl
    goes_on i c (Receives file t) h names can = inl refl
    goes_on i c (Transmits file t chains) h names can = inl refl
    goes_on i c (Given file t chains frame) h names can = inl refl
    goes_on i c d h names can = absurd (true≢false h)

    free_goes : has_ended w ≡ false → SomeMayGo w
    free_goes left =
        let found = not_all_found (λ (a : Actor). is_none (current a.script)) w.actors left in
        let c = isnt_none (current found.item.script) found.is in
        let here = found.is_there in
        let h : holds found.item.doing ≡ false =
        sound.actors.writer found.index found.item here
        ∙ ap (λ (o : Option ℕ). option_map_or (λ other. other == found.index) o false) free in
        ⊎_elim
        (λ e. (found.index, found.item, c.0, here, c.1, e)) (λ g. g)
        (goes_on found.index c.0.command found.item.doing h (names_of found.index found.item c.0 here c.1) (can_of found.index found.item c.0 here c.1))

  some_goes : has_ended w ≡ false → SomeMayGo w
  some_goes left = go w.writer refl
    where
      go : (o : Option ℕ) → w.writer ≡ o → SomeMayGo w
      go None is = free_goes is left
      go (Some i) is = held_goes i is

pub no_standstill : (s : Setup) (w : World) → IsSound s w → IsSteady s w → has_ended w ≡ false → SomeMayGo w
no_standstill s w sound steady left = some_goes s w sound steady left
