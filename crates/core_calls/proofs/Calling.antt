-- Calls of a vhost's control and of its drivers.
use Rattle.std.proofs.Common.{◌≡◌, ℕ, ◌+◌, List, [], ◌∷◌, length, Bool, true, false, Option, Some, None, refl, sym, ap, ◌∙◌, subst, true≢false, option_map, arith}
use Rattle.std.specs.Prelude.{if◌then◌else◌, ◌==◌, IfSome, IsSome, is_some}
use Rattle.std.specs.Option.{option_map_or}
use Rattle.guest_mem.specs.Memory.{Contents}
use Rattle.scen_words.specs.Commands.{command_values, command_word}
use Rattle.scen_words.specs.Words.{command_form}
use Rattle.scen_words.specs.declared.command.Command.{Command}
use Rattle.scen_words.specs.declared.command.Command.TheVariants as command
use Rattle.tap_ground.specs.Options.{◌>>=◌, only_if}
use Rattle.tap_guests.specs.Calls.{AskUnserved, HasPiece, made_by, with_vhost}
use Rattle.tap_guests.specs.Laws.{CallersMeetNone}
use Rattle.tap_guests.specs.Side.{IsSide, Side}
use Rattle.tap_guests.specs.Within.{IsIn}
use Rattle.tap_guests.specs.declared.called.Called.{Called}
use Rattle.tap_sound.proofs.Kit.{WhereSome, only_some, some_same, then_some, where_some}
use Rattle.tap_trace.specs.declared.answer.Answer.{Answer}
use Rattle.tap_trace.specs.declared.answer.Answer.TheVariants as answer
use Rattle.tap_trace.specs.declared.causes.DriveText.{DriveText}
use Rattle.tap_trace.specs.declared.kind.Kind.{Kind}
use Rattle.tap_trace.specs.declared.kind.Kind.TheVariants as kind
use Rattle.tap_trace.specs.declared.trace.StepLine.{StepLine}
use Rattle.text_fields.specs.Forms.{FitForm}
use Rattle.tap_world.specs.declared.event.EventKind.{EventKind}
use Rattle.tap_world.specs.declared.event.EventKind.TheVariants as event
use Rattle.tap_world.specs.ByNumber.{at, with_at}
use Rattle.tap_world.specs.Effect.{Effect, guests_after}
use Rattle.tap_world.specs.Effect.OnGuests.{NoGuest, OnGuest}
use Rattle.tap_world.specs.Guests.{Guest, Vhost, driver_of, with_driver}
use Rattle.tap_world.specs.Scripts.{first_kind}
use Rattle.tap_world.specs.StepControl as control
use Rattle.tap_world.specs.StepControl.{call_effect, call_of, driven_vhost, may_call}
use Rattle.tap_world.specs.World as come
use Rattle.tap_world.specs.World.{World}
use Rattle.vhost_dev.specs.declared.error.VhostErr.{VhostErr}
use Rattle.vhost_dev.specs.Calls as dev
use Rattle.vhost_dev.specs.Refusals.{addr_refusal, base_refusal, features_refusal, num_refusal, number_refusal}
use Rattle.vhost_dev.specs.Settings.{Settings, ring_at}
use Rattle.vring_drive.specs.declared.error.DriveErr.{DriveErr}
use Rattle.vring_drive.specs.declared.error.PostErr.{PostErr}
use Rattle.vring_drive.specs.Area.{drive_refusal}
use Rattle.vring_drive.specs.Books.{Books, first_books}
use Rattle.vring_drive.specs.Posts.{full_pieces, post_in_refusal, post_out_refusal, posted_in, posted_out}
use Rattle.core_shared.specs.Asking.{Asking, setup}
use Rattle.core_shared.specs.Did.{Did, HasEffect}
use Rattle.core_shared.specs.MayDo.{MayDo}
use Rattle.core_shared.specs.Worlds.{vhosts_of, world_in}
use Rattle.core_shared.specs.declared.doing.Doing.TheVariants as doing
use Rattle.core_shared.specs.declared.onward.Onward.TheVariants as on
use Rattle.core_shared.specs.declared.shared.Shared.{Shared}
use Rattle.core_shared.proofs.Kit.{side_at, vhost_at, with_at_same}
use Rattle.core_shared.proofs.Knowing.{holds_none}
use Rattle.core_shared.proofs.Leaving.{VhostsLie, guests_lie_with, no_more, vhost_left, vhosts_lie_with}
use Rattle.core_shared.proofs.Taking.{form}
use Rattle.core_calls.proofs.Facts.{row_at}
use Rattle.core_calls.proofs.Holding.{turns_stay}
use Rattle.core_calls.proofs.Poking.{bare, stepped}

-- ---- a piece of room at least

formed : (names : List (List ℕ)) (c : Command) → FitForm (command_form (command_word c)) (command_values names c) → HasPiece c
unfolding command_values
formed names (command.PostIn vhost ring []) h = absurd (true≢false (sym h.count))
formed names (command.PostIn vhost ring (l ∷ ls)) h = omega arith
formed names other h = tt

pub has_piece : {a : Asking} {kind₀ : EventKind} {x : Shared} → MayDo a doing.Begun kind₀ x → HasPiece a.command
has_piece {a} {kind₀} {x} m = formed (setup a).names a.command (form m)

-- ---- what a call leaves: the vhost its guest, and without a step the memory

record StepsWell (v : Vhost) (m : Contents) (x : control.Call) : Type 0 where
  pub guest : x.vhost.guest ≡ v.guest
  pub still : x.step ≡ None → x.memory ≡ m

driver_guest : (ring : ℕ) (b : Books) (v : Vhost) → (with_driver ring b v).guest ≡ v.guest
driver_guest ring b v = go (ring == 0) where
  go : (t : Bool) → (if t then record v { rx_driver = Some b } else record v { tx_driver = Some b }).guest ≡ v.guest
  go true = refl
  go false = refl

driven_well : (ring : ℕ) (k : Kind) (v : Vhost) (b : Books) (n m : Contents) (y : Answer)
    → StepsWell v m (control.driven ring k v b n y)
driven_well ring k v b n m y = record { guest = driver_guest ring b v; still = λ e. absurd (cc (e)) }

refused_well : (k : Kind) (v : Vhost) (m : Contents) (o : Option DriveText) → WhereSome (StepsWell v m) (control.refused k v m o)
refused_well k v m None = tt
refused_well k v m (Some t) = record { guest = refl; still = λ e. refl }

books_well : (k : Kind) (v : Vhost) (m : Contents) (o : Option Books) (call : Books → Option control.Call)
    → ((b : Books) → WhereSome (StepsWell v m) (call b)) → WhereSome (StepsWell v m) (control.with_books k v m o call)
books_well k v m None call h = record { guest = refl; still = λ e. refl }
books_well k v m (Some b) call h = h b

posts_well : (vhost ring : ℕ) (o : Option PostErr) (need : ℕ) (n : Contents) (b : Books) (v : Vhost) (m : Contents)
    → WhereSome (StepsWell v m) (control.posts vhost ring o need n b v m)
posts_well vhost ring None need n b v m = driven_well ring (kind.Post vhost ring) v _ n m _
posts_well vhost ring (Some e) need n b v m = refused_well (kind.Post vhost ring) v m (control.post_told e)

called_well : (o : Option VhostErr) (changed : Settings) (y : Answer) (k : Option Kind) (v : Vhost) (m : Contents)
    (x : control.Call) → control.called o changed y k v m ≡ Some x → StepsWell v m x
called_well o changed y k v m x e =
    let b = then_some (control.told_by o y) _ x e in
    subst (StepsWell v m) (some_same _ x b.2) (record { guest = refl; still = λ h. refl })

call_well : (c : Command) (v : Vhost) (m : Contents) (x : control.Call) → call_of c v m ≡ Some x → StepsWell v m x
call_well (command.Features vhost bits) v m x e =
    called_well (features_refusal bits v.settings) (dev.with_features bits v.settings) answer.Done (Some (kind.Features vhost)) v m x e
call_well (command.VNum vhost ring n) v m x e =
    called_well (num_refusal ring n v.settings) (dev.with_num ring n v.settings) answer.Done (control.on_ring ring (kind.Num vhost ring)) v m x e
call_well (command.VBase vhost ring n) v m x e =
    called_well (base_refusal ring n v.settings) (dev.with_base ring n v.settings) answer.Done (control.on_ring ring (kind.Base vhost ring)) v m x e
call_well (command.VAddr vhost ring desc avail used) v m x e =
    called_well (addr_refusal ring desc avail used m v.settings) (dev.with_addr ring desc avail used v.settings) answer.Done
    (control.on_ring ring (kind.Addr vhost ring)) v m x e
call_well (command.GetBase vhost ring) v m x e =
    called_well (number_refusal ring) v.settings (answer.Base (ring_at ring v.settings).queue.positions.next) (control.on_ring ring (kind.GetBase vhost ring)) v m x e
call_well (command.DriveAt vhost ring addr) v m x e =
    where_some (StepsWell v m) (call_of (command.DriveAt vhost ring addr) v m) x (go (drive_refusal m addr (ring_at ring v.settings).queue.layout.num)) e
  where
    go : (o : Option DriveErr) → WhereSome (StepsWell v m) (option_map_or (λ r. control.refused (kind.Drive vhost ring) v m (control.drive_told r)) o
        (Some (control.driven ring (kind.Drive vhost ring) v
        (first_books addr (ring_at ring v.settings).queue.layout.num (ring_at ring v.settings).queue.layout.event) m answer.Done)))
    go None = driven_well ring (kind.Drive vhost ring) v _ m m _
    go (Some r) = refused_well (kind.Drive vhost ring) v m (control.drive_told r)
call_well (command.PostIn vhost ring lens) v m x e = where_some (StepsWell v m) (call_of (command.PostIn vhost ring lens) v m) x
    (books_well (kind.Post vhost ring) v m (driver_of ring v) _ (λ b. posts_well vhost ring (post_in_refusal lens b) (length lens) (posted_in b lens m) b v m)) e
call_well (command.PostOut vhost ring bytes) v m x e = where_some (StepsWell v m) (call_of (command.PostOut vhost ring bytes) v m) x
    (books_well (kind.Post vhost ring) v m (driver_of ring v) _
    (λ b. posts_well vhost ring (post_out_refusal (length bytes) b) (full_pieces (length bytes) + 1) (posted_out b bytes m) b v m)) e
call_well (command.Harvest vhost ring) v m x e = where_some (StepsWell v m) (call_of (command.Harvest vhost ring) v m) x
    (books_well (kind.Harvest vhost ring) v m (driver_of ring v) _ (λ b. driven_well ring (kind.Harvest vhost ring) v _ _ m _)) e
call_well c v m x e = absurd (cc (e))

-- ---- when it may be made

-- its first event is the call
drives_first : (w : World) (c : Command) (vhost : ℕ) → driven_vhost c ≡ Some vhost → first_kind w c ≡ event.Drive
drives_first w (command.RxTurn v) vhost e = absurd (cc (e))
drives_first w (command.TxTurn v) vhost e = absurd (cc (e))
drives_first w (command.Poke guest addr bytes) vhost e = absurd (cc (e))
drives_first w (command.Peek guest addr len) vhost e = absurd (cc (e))
drives_first w c vhost e = ap (λ (o : Option ℕ). if is_some o then event.Drive else event.Look) e

-- the vhost and its guest are there, the command is a call, and may be made
pub record MayCall (a : Asking) (x : Shared) (vhost : ℕ) : Type 0 where
  pub side : Side
  pub guest : Guest
  pub is_vhost : at x.vhosts vhost ≡ Some side
  pub is_guest : at x.guests side.vhost.guest ≡ Some guest
  pub is_call : IsSome (call_of a.command side.vhost guest.memory)
  pub may : may_call a.actor a.command side.vhost ≡ true

module _ {a : Asking} {kind₀ : EventKind} {x : Shared} (m : MayDo a doing.Begun kind₀ x) (vhost : ℕ)
    (cmd : driven_vhost a.command ≡ Some vhost)
  where
    abbrev call_on : World → ℕ → Vhost → Contents → Option Effect
    call_on w n v mem = call_of a.command v mem >>= (λ (c : control.Call). only_if (may_call a.actor a.command v) (call_effect w a.seen n v.guest c))

    abbrev call_at : World → ℕ → Option Effect
    call_at w n = at w.vhosts n >>= (λ (v : Vhost). at w.guests v.guest >>= (λ (g : Guest). call_on w n v g.memory))

    pub may_do : MayCall a x vhost
    may_do =
        let w = world_in x m.actors m.said in
        let next = ap (λ (k : EventKind). Some k) (drives_first w a.command vhost cmd) in
        let r = sym (ap (λ (o : Option ℕ). o >>= (λ (n : ℕ). call_at w n)) cmd) ∙ row_at m event.Drive next in
        let v = then_some (at (vhosts_of x.vhosts) vhost) _ m.event.effect r in
        let s = side_at vhost x.vhosts v.0 v.1 in
        let g = then_some (at x.guests v.0.guest) _ m.event.effect v.2 in
        let c = then_some (call_of a.command v.0 g.0.memory) _ m.event.effect g.2 in
        let may = only_some (may_call a.actor a.command v.0) (call_effect w a.seen vhost v.0.guest c.0) m.event.effect c.2 in
        record {
          side = s.0;
          guest = g.0;
          is_vhost = s.1;
          is_guest = ap (λ (y : Vhost). at x.guests y.guest) s.2 ∙ g.1;
          is_call = ap (λ (y : Vhost). is_some (call_of a.command y g.0.memory)) s.2 ∙ ap (λ (o : Option control.Call). is_some o) c.1;
          may = ap (λ (y : Vhost). may_call a.actor a.command y) s.2 ∙ may.0;
        }

    pub none_asked : CallersMeetNone → (v : Side) → IsSide v → at x.vhosts vhost ≡ Some v → AskUnserved a.command v
    none_asked law v side is =
        let f = may_do in
        law a.actor a.command v side (holds_none m refl vhost v is)
        (ap (λ (y : Side). may_call a.actor a.command y.vhost) (some_same v f.side (sym is ∙ f.is_vhost)) ∙ f.may)

    -- ---- done

    module _ (v k : Side) (g : Guest) (mem : Contents) (told : Called)
        (is_v : at x.vhosts vhost ≡ Some v) (is_g : at x.guests v.vhost.guest ≡ Some g)
        (call : call_of a.command v.vhost g.memory ≡ Some (made_by told k.vhost mem))
        (only : k ≡ with_vhost k.vhost v) (regions : mem.regions ≡ g.memory.regions) (within : IsIn mem.regions k)
      where
        its : StepsWell v.vhost g.memory (made_by told k.vhost mem)
        its = call_well a.command v.vhost g.memory (made_by told k.vhost mem) call

        may_its : may_call a.actor a.command v.vhost ≡ true
        may_its =
            let f = may_do in
            ap (λ (y : Side). may_call a.actor a.command y.vhost) (some_same v f.side (sym is_v ∙ f.is_vhost)) ∙ f.may

        tells : (step : Option Kind) → (step ≡ None → mem ≡ g.memory)
            → guests_after a.actor a.number (option_map_or (λ (j : Kind). OnGuest v.vhost.guest mem (Some j)) step NoGuest) x.guests
            ≡ Some (with_at v.vhost.guest (stepped g a.actor a.number mem step) x.guests)
        tells (Some j) h =
            ap (λ (o : Option Guest). o >>= (λ (y : Guest). Some (with_at v.vhost.guest (stepped y a.actor a.number mem (Some j)) x.guests))) is_g
        tells None h = ap (λ (gs : List (Option Guest)). Some gs)
            (sym (with_at_same v.vhost.guest (stepped g a.actor a.number mem None) x.guests
            (is_g ∙ ap (λ (ss : List StepLine). Some (record g { steps = ss })) (no_more g.steps)
            ∙ ap (λ (n : Contents). Some (stepped g a.actor a.number n None)) (sym (h refl)))))

        lie : (step : Option Kind)
            → VhostsLie (with_at v.vhost.guest (stepped g a.actor a.number mem step) x.guests) (with_at vhost k x.vhosts)
        lie step =
            guests_lie_with x.guests (with_at vhost k x.vhosts) v.vhost.guest g (stepped g a.actor a.number mem step)
            (vhosts_lie_with x.guests x.vhosts vhost k m.held.vhosts
            (subst (λ (o : Option Guest). IfSome o (λ (y : Guest). IsIn y.memory.regions k))
            (sym (ap (λ (n : ℕ). at x.guests n) its.guest ∙ is_g))
            (subst (λ rs. IsIn rs k) regions within))) is_g regions

        has : HasEffect a come.Doing.Begun event.Drive x
            (call_effect (bare x) a.seen vhost v.vhost.guest (made_by told k.vhost mem))
        has = record {
          is_next = λ actors said.
              ap (λ (j : EventKind). Some j) (drives_first (world_in x actors said) a.command vhost cmd);
          is_row = λ actors said rest.
              let w = world_in x actors said in
              ap (λ (o : Option ℕ). o >>= (λ (n : ℕ). call_at w n)) cmd
              ∙ ap (λ (o : Option Vhost). o >>= (λ (y : Vhost). at x.guests y.guest >>= (λ (h : Guest). call_on w vhost y h.memory)))
              (vhost_at vhost x.vhosts v is_v)
              ∙ ap (λ (o : Option Guest). o >>= (λ (h : Guest). call_on w vhost v.vhost h.memory)) is_g
              ∙ ap (λ (o : Option control.Call). o >>= (λ (c : control.Call). only_if (may_call a.actor a.command v.vhost) (call_effect w a.seen vhost v.vhost.guest c))) call
              ∙ ap (λ (b : Bool). only_if b (call_effect w a.seen vhost v.vhost.guest (made_by told k.vhost mem))) may_its;
        }

        pub call_did : Did a doing.Begun event.Drive x (record x {
          guests = with_at v.vhost.guest (stepped g a.actor a.number mem told.step) x.guests;
          vhosts = with_at vhost k x.vhosts;
        }) (on.Ends a.seen told.answer)
        call_did = record {
          effect = call_effect (bare x) a.seen vhost v.vhost.guest (made_by told k.vhost mem);
          has = has;
          left = record {
            ops = no_more x.ops.ops;
            files = refl;
            guests = tells told.step its.still;
            vhosts = vhost_left vhost k x.vhosts;
            hosted = no_more x.hosted.items;
            dropped = no_more x.dropped.items;
            writer = refl;
            phase = refl;
          };
          onward = refl;
          held = record { table = m.held.table; frames = m.held.frames; vhosts = lie told.step };
          suits = tt;
          stay = turns_stay a.actor vhost v k x.vhosts is_v (ap (λ (s : Side). s.rx) only) (ap (λ (s : Side). s.tx) only);
        }

-- a call that was made answers
pub has_answer : (o : Option control.Call) (v : Vhost) (m : Contents) (told : Option Called) → IsSome o
    → o ≡ option_map (λ (c : Called). made_by c v m) told → IsSome told
has_answer o v m None some e = ap (λ (q : Option control.Call). is_some q) (sym e) ∙ some
has_answer o v m (Some t) some e = refl
