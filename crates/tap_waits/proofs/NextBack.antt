-- Backends under way: they may always go on, but that the call of one which the table refused waits for its ring's
-- turn.
use Rattle.std.proofs.Common.{◌≡◌, ℕ, List, [], ◌∷◌, Bool, true, false, not, length, Option, Some, None, refl, sym, ap, ◌∙◌, true≢false, option_map, arith}
use Rattle.std.specs.Prelude.{if◌then◌else◌, ◌==◌, ◌&&◌, is_none, is_some, slice_get, map, take, ◌++◌, option_to_list}
use Rattle.std.specs.Option.{option_map_or}
use Rattle.guest_mem.specs.Memory.{Contents}
use Rattle.tap_frame.specs.declared.name.Name.{Name}
use Rattle.tap_ledger.specs.declared.error.TapErr.{TapErr as TapText}
use Rattle.tap_ledger.specs.declared.side.Side.TheVariants.{Rx}
use Rattle.tap_steer.specs.Table.{file_at}
use Rattle.tap_steer.specs.Rules.{backer}
use Rattle.tap_steer.specs.After.{after_all}
use Rattle.tap_steer.specs.Select.{shape_of}
use Rattle.tap_trace.specs.declared.answer.Answer.{Answer}
use Rattle.tap_trace.specs.declared.answer.Answer.TheVariants as answer
use Rattle.tap_trace.specs.declared.kind.Kind.{Kind}
use Rattle.tap_trace.specs.declared.kind.Kind.TheVariants as kind
use Rattle.vhost_dev.specs.declared.error.VhostErr.{VhostErr}
use Rattle.vhost_dev.specs.Refusals.{number_refusal, ready_refusal}
use Rattle.vhost_dev.specs.Settings.{ring_at}
use Rattle.scen_words.specs.declared.command.Command.{Command}
use Rattle.scen_words.specs.declared.command.Command.TheVariants as command
use Rattle.tap_ground.specs.Options.{◌>>=◌, only_if}
use Rattle.tap_world.specs.declared.event.EventKind.TheVariants as event
use Rattle.tap_world.specs.declared.told.Published.{Published}
use Rattle.tap_world.specs.declared.event.Found.TheVariants as found
use Rattle.tap_world.specs.ByNumber.{at, with_at}
use Rattle.tap_world.specs.Setup.{Numbered, Setup, opening_table}
use Rattle.tap_world.specs.Line.{File}
use Rattle.tap_world.specs.LineSteps.Change.{Owned}
use Rattle.tap_world.specs.Guests.{Guest, Vhost, is_free_for, is_ring, turn_of, vhost_answer}
use Rattle.tap_world.specs.World.{Actor, Doing, World, current, newest, table, table_at}
use Rattle.tap_world.specs.World.Doing.{Backed, Backs, Disowned, Owns, Receives, Released, Unbacked}
use Rattle.tap_world.specs.Effect.{Effect, files_after, guests_after}
use Rattle.tap_world.specs.Effect.OnFiles.{OnFile}
use Rattle.tap_world.specs.Effect.OnGuests.{NoGuest, OnGuest}
use Rattle.tap_world.specs.Effect.Onward.{Goes as GoesOn}
use Rattle.tap_world.specs.StepBackend.{back_answer, back_call, owns, publishes_back, refused_by, sets_back, unfit_for, unsets_back}
use Rattle.tap_world.specs.Sound.{is_receiving, is_serving}
use Rattle.tap_world.specs.SoundActors as so
use Rattle.tap_world.specs.SoundRings.{holds_turn, is_about}
use Rattle.tap_world.specs.SoundTable.{Agreed, of_table}
use Rattle.tap_sound.proofs.Kit.{some_same}
use Rattle.tap_sound.proofs.Taken.{both}
use Rattle.tap_sound.proofs.Turned.{at_is, itself}
use Rattle.tap_sound.proofs.Publishing.{equal}
use Rattle.tap_waits.proofs.Kit.{can_do, does}
use Rattle.tap_waits.proofs.NextFacts.{Goes, Here, agreed, does_on_file, file_changes, file_named, guest_of_vhost, held_row, me, names, vhost_there, and_true}
use Rattle.tap_waits.proofs.NextLines.{some_only}
use Rattle.tap_waits.proofs.NextControl.{any_place}
use Rattle.tap_waits.proofs.NextWords.{HasWords, fit_words, number_words, ready_words}
use Rattle.tap_waits.proofs.NextRing.{none_in_hand}

-- ---- refusals have words

refused_told : (o : Option VhostErr) → HasWords o → (x : Option Answer) × (refused_by o ≡ Some x)
refused_told None h = (None, refl)
refused_told (Some e) h = go (vhost_answer e) h
  where
    go : (q : Option Answer) → is_some q ≡ true → (x : Option Answer) × (option_map (λ (y : Answer). Some y) q ≡ Some x)
    go (Some y) k = (Some y, refl)
    go None k = absurd (true≢false (sym k))

back_told : (ready : Option VhostErr) (refusal : Option TapText) (unfit : Option VhostErr) → HasWords ready
    → HasWords unfit
    → (x : Option Answer) × (back_answer ready refusal unfit ≡ Some x)
back_told (Some e) refusal unfit h k = refused_told (Some e) h
back_told None (Some r) unfit h k = (Some (answer.Tap r), refl)
back_told None None unfit h k = refused_told unfit k

-- ---- rows

pub guest_done : (w : World) (i n guest : ℕ) (m : Contents) (k : Option Kind) (g : Guest) → at w.guests guest ≡ Some g
    → is_some (guests_after i n (OnGuest guest m k) w.guests) ≡ true
guest_done w i n guest m k g e = ap (λ (o : Option Guest). is_some (o >>= (λ y. Some (with_at guest (record {
  memory = m;
  steps = y.steps ++ option_to_list (option_map (λ z. record { actor = i; command = n; kind = z }) k);
}) w.guests)))) e

pub does_if : (w : World) (i n : ℕ) (b : Bool) (o : Option Effect) → does w i n o ≡ true
    → does w i n (if b then o else None) ≡ b
does_if w i n true o e = e
does_if w i n false o e = refl

pub does_either : (w : World) (i n : ℕ) (b : Bool) (r q : Effect) → can_do w i n r ≡ true → can_do w i n q ≡ true
    → does w i n (Some (if b then r else q)) ≡ true
does_either w i n true r q e f = e
does_either w i n false r q e f = f

take_all : {A : Type 0} (xs : List A) → take (length xs) xs ≡ xs
take_all [] = refl
take_all (x ∷ xs) = ap (λ ys. x ∷ ys) (take_all xs)

module _ (s : Setup) (w : World) (i seen : ℕ) (script : List Numbered) (n : ℕ) where
  sets_done : (vhost r file : ℕ) (refusal : Option TapText) (v : Vhost) (g : Guest) (told : Option Answer)
      → at w.guests v.guest ≡ Some g
      → can_do w i n (sets_back w i seen vhost r file refusal v g.memory told) ≡ true
  sets_done vhost r file refusal v g (Some x) at_ = go (is_ring r)
    where
      go : (b : Bool) → is_some
          (guests_after i n (option_map_or (λ k. OnGuest v.guest g.memory (Some k))
          (only_if b (kind.Backend vhost r false)) NoGuest) w.guests) ≡ true
      go true = guest_done w i n v.guest g.memory (Some (kind.Backend vhost r false)) g at_
      go false = refl
  sets_done vhost r file refusal v g None at_ = guest_done w i n v.guest g.memory (Some (kind.Backend vhost r true)) g
      at_

  unsets_done : (vhost r : ℕ) (v : Vhost) (g : Guest) (told : Option Answer) (file : Option ℕ)
      → at w.guests v.guest ≡ Some g
      → can_do w i n (unsets_back w i seen vhost r v g.memory told file) ≡ true
  unsets_done vhost r v g (Some x) file at_ = refl
  unsets_done vhost r v g None None at_ = guest_done w i n v.guest g.memory (Some (kind.Backend vhost r false)) g at_
  unsets_done vhost r v g None (Some file) at_ = guest_done w i n v.guest g.memory (Some (kind.Backend vhost r true)) g
      at_

  call_done : (refusal : Option TapText) (vhost r : ℕ) (file : Option ℕ) (v : Vhost) (g : Guest)
      → at w.guests v.guest ≡ Some g
      → does w i n (back_call s w i seen refusal vhost r file v g.memory) ≡ true
  call_done refusal vhost r None v g at_ =
      let t = refused_told (number_refusal r) (number_words r) in
      ap (λ (o : Option (Option Answer)). does w i n
      (o >>= (λ told. Some (unsets_back w i seen vhost r v g.memory told (ring_at r v.settings).file)))) t.1
      ∙ unsets_done vhost r v g t.0 (ring_at r v.settings).file at_
  call_done refusal vhost r (Some file) v g at_ =
      let t = back_told (ready_refusal r g.memory v.settings) refusal
      (unfit_for (shape_of (table s w) file) v.settings) (ready_words r g.memory v.settings)
      (fit_words (shape_of (table s w) file) v.settings) in
      ap (λ (o : Option (Option Answer)). does w i n
      (o >>= (λ told. Some (sets_back w i seen vhost r file refusal v g.memory told)))) t.1
      ∙ sets_done vhost r file refusal v g t.0 at_

  -- ---- the call

  pub backs_goes : (c : Command) (refusal : Option TapText) → Here s w i seen script n c (Backs refusal)
      → so.is_back refusal c ≡ true → Goes s w i seen script n c (Backs refusal)
  backs_goes (command.Backend vhost r file) refusal h e =
      let v = vhost_there h vhost (names h).vhost in
      let g = guest_of_vhost h vhost v.0 v.1 in
      record {
        kind = event.Drive;
        is_next = refl;
        done =
            ap (λ (o : Option Vhost). does w i n
            (o >>= (λ x. at w.guests x.guest
            >>= (λ y. if is_free_for i r x then back_call s w i seen refusal vhost r file x y.memory else None))))
            v.1
            ∙ ap (λ (o : Option Guest). does w i n
            (o >>= (λ y. if is_free_for i r v.0 then back_call s w i seen refusal vhost r file v.0 y.memory else
            None))) g.1
            ∙ does_if w i n (is_free_for i r v.0) (back_call s w i seen refusal vhost r file v.0 g.0.memory)
            (call_done refusal vhost r file v.0 g.0 g.1)
            ∙ sym (ap (λ (o : Option Vhost). option_map_or (is_free_for i r) o false) v.1);
      }
  backs_goes c refusal h e = absurd (true≢false (sym e))

  -- ---- one that sets

  pub backed_goes : (c : Command) (file : ℕ) → Here s w i seen script n c (Backed file) → so.sets file c ≡ true
      → Goes s w i seen script n c (Backed file)
  backed_goes (command.Backend vhost r asked) file h e = record {
    kind = event.Publish;
    is_next = refl;
    done =
        ap (does w i n) (held_row h refl (publishes_back w (Backed file) (command.Backend vhost r asked)))
        ∙ does_either w i n (r == 0) _ _ refl refl;
  }
  backed_goes c file h e = absurd (cc (e))

  pub owns_goes : (c : Command) (file version : ℕ) → Here s w i seen script n c (Owns file version)
      → (so.sets file c && so.is_of_rx c) ≡ true → Goes s w i seen script n c (Owns file version)
  owns_goes (command.Backend vhost r asked) file version h e =
      let there = file_named h file refl in
      let f = there.0 in
      let x = of_table (table s w) file in
      let none : is_some f.owner ≡ false =
      ap (λ (y : Agreed). is_some y.owner) (agreed h refl file f there.1)
      ∙ ap (λ (b : Bool). is_some (if b then record x { owner = None } else x).owner) (itself file) in
      record {
        kind = event.Owner;
        is_next = refl;
        done =
            ap (does w i n) (held_row h refl (owns w seen (Owns file version) (command.Backend vhost r asked)))
            ∙ and_true (is_some (files_after (OnFile file (Owned (Some vhost))) w.files))
            ∙ file_changes w file f (Owned (Some vhost)) there.1
            ∙ some_only (is_none f.hand) (record f { owner = Some vhost }) ∙ none_in_hand h file f there.1 none;
      }
  owns_goes c file version h e = absurd (cc (e))

  -- ---- one that unsets

  newest_table : table_at s w (newest w) ≡ table s w
  newest_table = ap (λ (ops : List Published). after_all (opening_table s) (map (λ (p : Published). p.op) ops))
      (take_all w.ops)

  -- the vhost that it unsets is the file's owner
  unbacks_owner : (vhost r file : ℕ) → Here s w i seen script n (command.Backend vhost r None) (Unbacked file)
      → (f : File) → at w.files file ≡ Some f → f.owner ≡ Some vhost
  unbacks_owner vhost r file h f at_ =
      let a = h.steady.seen i (me seen script (Unbacked file)) h.found in
      let was : backer Rx (file_at (table_at s w seen) file) ≡ Some vhost = a.found
      (record { number = n; command = command.Backend vhost r None }) h.now in
      ap (λ (y : Agreed). y.owner) (agreed h refl file f at_)
      ∙ ap (λ t. (file_at t file).rx) (sym newest_table)
      ∙ ap (λ (k : ℕ). (file_at (table_at s w k) file).rx) (sym (a.newest refl)) ∙ was

  receiving_holds : (file : ℕ) (name : Name) (d : Doing) → is_receiving file name d ≡ true → holds_turn d ≡ true
  receiving_holds file name (Receives other t) e = refl
  receiving_holds file name d e = absurd (cc (e))

  -- no turn holds the file's front, since the ring's turn is this command's
  unbacks_free : (vhost r file : ℕ) → Here s w i seen script n (command.Backend vhost r None) (Unbacked file) → r ≡ 0
      → (f : File) → at w.files file ≡ Some f → is_none f.hand ≡ true
  unbacks_free vhost r file h zero_ f at_ = go f.hand refl
    where
      go : (o : Option ℕ) → f.hand ≡ o → is_none f.hand ≡ true
      go None is = ap (λ o. is_none o) is
      go (Some other) is =
          let hand = h.sound.hand file f at_ other is in
          let same : other ≡ vhost = some_same other vhost (sym hand.0 ∙ unbacks_owner vhost r file h f at_) in
          let p = any_place (is_serving other file hand.1) w.actors hand.3 in
          let serving = both (is_receiving file hand.1 p.1.doing) (is_about other 0 (current p.1.script)) p.3 in
          let v = vhost_there h vhost (names h).vhost in
          let turns = h.sound.actors.turns vhost v.0 v.1 in
          let its : turn_of 0 v.0 ≡ Some p.0 = at_is p.0 (turn_of 0 v.0)
          (sym (turns 0 p.0 p.1 (omega (arith)) p.2) ∙ ap (λ (b : Bool). b && is_about vhost 0 (current p.1.script))
          (receiving_holds file hand.1 p.1.doing serving.0)
          ∙ ap (λ (k : ℕ). is_about k 0 (current p.1.script)) (sym same) ∙ serving.1) in
          let about : is_about vhost 0 (current script) ≡ true =
          ap (λ (o : Option Numbered). is_about vhost 0 o) h.now
          ∙ ap (λ (k : ℕ). is_about vhost 0 (Some (record { number = n; command = command.Backend vhost k None })))
          zero_
          ∙ ap (λ (b : Bool). b && (0 == 0)) (itself vhost) in
          let mine : turn_of 0 v.0 ≡ Some i = at_is i (turn_of 0 v.0)
          (sym (turns 0 i (me seen script (Unbacked file)) (omega (arith)) h.found) ∙ about) in
          let one : p.0 ≡ i = some_same p.0 i (sym its ∙ mine) in
          let me_ : p.1 ≡ me seen script (Unbacked file) = some_same p.1 (me seen script (Unbacked file))
          (sym p.2 ∙ ap (λ (k : ℕ). slice_get w.actors k) one ∙ h.found) in
          absurd (true≢false (sym serving.0 ∙ ap (λ (a : Actor). is_receiving file hand.1 a.doing) me_))

  pub unbacked_goes : (c : Command) (file : ℕ) → Here s w i seen script n c (Unbacked file)
      → (so.unsets c && so.is_of_rx c) ≡ true → Goes s w i seen script n c (Unbacked file)
  unbacked_goes (command.Backend vhost r None) file h e =
      let there = file_named h file refl in
      record {
        kind = event.Owner;
        is_next = refl;
        done =
            ap (does w i n) (held_row h refl (owns w seen (Unbacked file) (command.Backend vhost r None)))
            ∙ does_on_file w i n file there.0 (Owned None) (GoesOn seen (Disowned file) (found.Owner None)) there.1
            ∙ some_only (is_none there.0.hand) (record there.0 { owner = None })
            ∙ unbacks_free vhost r file h (equal r 0 (both (is_ring r) (r == 0) e).1) there.0 there.1;
      }
  unbacked_goes c file h e = absurd (cc (e))

  pub disowned_goes : (c : Command) (file : ℕ) → Here s w i seen script n c (Disowned file)
      → (so.unsets c && so.is_of_rx c) ≡ true → Goes s w i seen script n c (Disowned file)
  disowned_goes (command.Backend vhost r asked) file h e = record {
    kind = event.Publish;
    is_next = refl;
    done = ap (does w i n) (held_row h refl (publishes_back w (Disowned file) (command.Backend vhost r asked)));
  }
  disowned_goes c file h e = absurd (cc (e))

  pub released_goes : (c : Command) (file : ℕ) → Here s w i seen script n c (Released file)
      → (so.unsets c && not (so.is_of_rx c)) ≡ true → Goes s w i seen script n c (Released file)
  released_goes (command.Backend vhost r asked) file h e = record {
    kind = event.Publish;
    is_next = refl;
    done = ap (does w i n) (held_row h refl (publishes_back w (Released file) (command.Backend vhost r asked)));
  }
  released_goes c file h e = absurd (cc (e))
