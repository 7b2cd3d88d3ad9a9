-- Commands that are about to begin: on the table they wait for the writer, a backend and a turn for the ring's turn, a
-- control call for what it would meet.
use Rattle.std.proofs.Common.{◌≡◌, ℕ, ◌+◌, List, Bool, true, false, not, length, Option, Some, None, refl, sym, ap, ◌∙◌, true≢false}
use Rattle.std.specs.Prelude.{if◌then◌else◌, ◌&&◌, ◌||◌, is_none, is_some, nat_lt, IfSome, IsSome}
use Rattle.std.specs.Option.{option_map_or}
use Rattle.guest_mem.specs.Memory.{Contents, first_bad}
use Rattle.tap_frame.specs.declared.name.Name.{Name}
use Rattle.tap_frame.specs.declared.reading.BadFrame.{BadFrame}
use Rattle.tap_ledger.specs.declared.error.TapErr.{TapErr}
use Rattle.tap_steer.specs.declared.operation.Op.{Op}
use Rattle.tap_steer.specs.declared.operation.Op.TheVariants as op
use Rattle.tap_steer.specs.declared.selection.Select.{Select}
use Rattle.tap_steer.specs.declared.selection.Select.TheVariants as select
use Rattle.tap_steer.specs.Rules.{refuse}
use Rattle.tap_steer.specs.Select as steer
use Rattle.tap_trace.specs.declared.answer.Answer.{Answer}
use Rattle.tap_trace.specs.declared.answer.Answer.TheVariants as answer
use Rattle.tap_trace.specs.declared.causes.DriveText.{DriveText}
use Rattle.tap_trace.specs.declared.kind.Kind.{Kind}
use Rattle.tap_trace.specs.declared.kind.Kind.TheVariants as kind
use Rattle.vhost_dev.specs.declared.error.VhostErr.{VhostErr}
use Rattle.vhost_dev.specs.Calls.{with_addr, with_base, with_features, with_num}
use Rattle.vhost_dev.specs.Refusals.{addr_refusal, base_refusal, features_refusal, num_refusal, number_refusal}
use Rattle.vhost_dev.specs.Settings.{Settings, ring_at}
use Rattle.vring_drive.specs.declared.error.DriveErr.{DriveErr}
use Rattle.vring_drive.specs.declared.error.PostErr.{PostErr}
use Rattle.vring_drive.specs.Area.{drive_refusal}
use Rattle.vring_drive.specs.Books.{Books, first_books}
use Rattle.vring_drive.specs.Posts.{full_pieces, post_in_refusal, post_out_refusal, posted_in, posted_out}
use Rattle.scen_words.specs.Commands.{is_turn}
use Rattle.scen_words.specs.declared.command.Command.{Command}
use Rattle.scen_words.specs.declared.command.Command.TheVariants as command
use Rattle.tap_ground.specs.Options.{◌>>=◌, only_if}
use Rattle.tap_world.specs.declared.event.EventKind.TheVariants as event
use Rattle.tap_world.specs.ByNumber.{at}
use Rattle.tap_world.specs.Frames.{Front, bad_in, ether_in, sent_bytes, sent_front, least_in}
use Rattle.tap_world.specs.Setup.{Numbered, Setup, place_of}
use Rattle.tap_world.specs.Guests.{Guest, Vhost, driver_of, is_ring, turn_of, vhost_answer}
use Rattle.tap_world.specs.World.{Doing, World, name_of, newest, table}
use Rattle.tap_world.specs.World.Doing.{Begun, Hosts}
use Rattle.tap_world.specs.declared.event.Found.TheVariants as found
use Rattle.tap_world.specs.Effect.{Effect, guests_after, only}
use Rattle.tap_world.specs.Effect.Onward.{Ends, Goes as GoesOn}
use Rattle.tap_world.specs.Effect.OnGuests.{NoGuest, OnGuest}
use Rattle.tap_world.specs.StepBackend.{back_refusal, back_seen}
use Rattle.tap_world.specs.StepControl.{Call, call_effect, call_of, called, calls, driven, driven_vhost, drive_told, drives, harvests, may_call, on_ring, peeked, poke_leaves, poked, post_told, posts, refused, undriven, with_books}
use Rattle.tap_world.specs.StepTable.{course, decided, reads, routed, sends, unless_bad, with_front, writes}
use Rattle.tap_world.specs.Waiting.{has_free_turn, vhost_is}
use Rattle.tap_waits.proofs.Kit.{can_do, does}
use Rattle.tap_waits.proofs.NextFacts.{Goes, Here, guest_of_vhost, guest_there, names, vhost_there}
use Rattle.tap_waits.proofs.NextWords.{HasPostWords, HasWords, addr_words, base_words, drive_words, features_words, num_words, number_words, post_in_words, post_out_words}
use Rattle.tap_waits.proofs.NextRing.{does_only}
use Rattle.tap_waits.proofs.NextBack.{guest_done}

-- ---- calls have an answer

abbrev IsCalled : Option Call → Type 0
IsCalled o = (x : Call) × (o ≡ Some x)

called_there : (refusal : Option VhostErr) (changed : Settings) (x : Answer) (step : Option Kind) (v : Vhost)
    (m : Contents) → HasWords refusal → IsCalled (called refusal changed x step v m)
called_there None changed x step v m h = (_, refl)
called_there (Some e) changed x step v m h = go (vhost_answer e) h
  where
    go : (o : Option Answer) → is_some o ≡ true
        → IsCalled (o >>= (λ told. Some
        (record { vhost = record v { settings = v.settings }; memory = m; answer = told; step = step })))
    go (Some y) k = (record { vhost = record v { settings = v.settings }; memory = m; answer = y; step = step }, refl)
    go None k = absurd (true≢false (sym k))

refused_there : (k : Kind) (v : Vhost) (m : Contents) (o : Option DriveText) → is_some o ≡ true
    → IsCalled (refused k v m o)
refused_there k v m (Some x) e = (undriven k v m (answer.Drive x), refl)
refused_there k v m None e = absurd (true≢false (sym e))

drives_there : (vhost r addr : ℕ) (v : Vhost) (m : Contents) → IsCalled (drives vhost r addr v m)
drives_there vhost r addr v m = go (drive_refusal m addr (ring_at r v.settings).queue.layout.num)
    (drive_words m addr (ring_at r v.settings).queue.layout.num)
  where
    go : (o : Option DriveErr) → IfSome o (λ e. is_some (drive_told e) ≡ true)
        → IsCalled (option_map_or (λ e. refused (kind.Drive vhost r) v m (drive_told e)) o
        (Some (driven r (kind.Drive vhost r) v
        (first_books addr (ring_at r v.settings).queue.layout.num (ring_at r v.settings).queue.layout.event) m
        answer.Done)))
    go None h = (
      driven r (kind.Drive vhost r) v
          (first_books addr (ring_at r v.settings).queue.layout.num (ring_at r v.settings).queue.layout.event) m
          answer.Done,
      refl,
    )
    go (Some e) h = refused_there (kind.Drive vhost r) v m (drive_told e) h

posts_there : (vhost r : ℕ) (o : Option PostErr) (need : ℕ) (after : Contents) (b : Books) (v : Vhost) (m : Contents)
    → HasPostWords o → IsCalled (posts vhost r o need after b v m)
posts_there vhost r None need after b v m h = (_, refl)
posts_there vhost r (Some e) need after b v m h = refused_there (kind.Post vhost r) v m (post_told e) h

with_books_there : (k : Kind) (v : Vhost) (m : Contents) (o : Option Books) (call : Books → Option Call)
    → ((b : Books) → IsCalled (call b)) → IsCalled (with_books k v m o call)
with_books_there k v m None call h = (undriven k v m answer.NoDriver, refl)
with_books_there k v m (Some b) call h = h b

module _ (s : Setup) (w : World) (i seen : ℕ) (script : List Numbered) (n : ℕ) where
  -- ---- looks

  decided_done : (doing : Doing) (o : Option TapErr) → can_do w i n (decided w i doing o) ≡ true
  decided_done doing (Some refusal) = refl
  decided_done doing None = refl

  looks_done : (x : Op)
      → does w i n (only_if (is_none w.writer) (decided w i (course (table s w) x) (refuse (table s w) x)))
      ≡ is_none w.writer
  looks_done x = does_only w i n (is_none w.writer) (decided w i (course (table s w) x) (refuse (table s w) x))
      (decided_done (course (table s w) x) (refuse (table s w) x))

  unless_done : (o : Option BadFrame) (e : Effect) → can_do w i n e ≡ true → can_do w i n (unless_bad o w e) ≡ true
  unless_done (Some bad) e h = refl
  unless_done None e h = h

  routed_done : (name : Name) (x : Select) → can_do w i n (routed w name x) ≡ true
  routed_done name select.NoQueue = refl
  routed_done name select.Filtered = refl
  routed_done name (select.Row row keep resizes capacity) = refl

  sends_done : (name : Name) (device : ℕ) (front : Front) (bytes : List ℕ)
      → can_do w i n (sends (table s w) w name device front bytes) ≡ true
  sends_done name device front bytes = unless_done (bad_in front bytes)
      (routed w name (steer.select (table s w) device (ether_in front bytes)))
      (routed_done name (steer.select (table s w) device (ether_in front bytes)))

  front_done : (o : Option Front) (e : Front → Effect) → ((front : Front) → can_do w i n (e front) ≡ true)
      → can_do w i n (with_front o w e) ≡ true
  front_done None e h = refl
  front_done (Some front) e h = h front

  reads_done : (file room : ℕ) (front : Front) → can_do w i n (reads w file room front) ≡ true
  reads_done file room front = go (nat_lt room (least_in front)) _ _ refl refl
    where
      go : (b : Bool) (r q : Effect) → can_do w i n r ≡ true → can_do w i n q ≡ true
          → can_do w i n (if b then r else q) ≡ true
      go true r q e f = e
      go false r q e f = f

  seen_done : (vhost r : ℕ) (v : Vhost) (o : Option TapErr) → can_do w i n (back_seen w i vhost r v o) ≡ true
  seen_done vhost r v (Some refusal) = refl
  seen_done vhost r v None = refl

  backend_begins : (vhost r : ℕ) (file : Option ℕ) → Here s w i seen script n (command.Backend vhost r file) Begun
      → Goes s w i seen script n (command.Backend vhost r file) Begun
  backend_begins vhost r file h =
      let v = vhost_there h vhost (names h).vhost in
      record {
        kind = event.Look;
        is_next = refl;
        done =
            ap (λ (o : Option Vhost). does w i n
            (o >>= (λ x. only_if (is_none w.writer && (not (is_ring r) || is_none (turn_of r x)))
            (back_seen w i vhost r x (back_refusal (table s w) vhost r file))))) v.1
            ∙ does_only w i n (is_none w.writer && (not (is_ring r) || is_none (turn_of r v.0)))
            (back_seen w i vhost r v.0 (back_refusal (table s w) vhost r file))
            (seen_done vhost r v.0 (back_refusal (table s w) vhost r file))
            ∙ sym (ap (λ (o : Option Vhost). is_none w.writer && option_map_or (has_free_turn r) o false) v.1);
      }

  -- ---- calls

  effect_done : (vhost guest : ℕ) (x : Call) (g : Guest) → at w.guests guest ≡ Some g
      → can_do w i n (call_effect w seen vhost guest x) ≡ true
  effect_done vhost guest x g at_ = go x.step
    where
      go : (o : Option Kind)
          → is_some (guests_after i n (option_map_or (λ k. OnGuest guest x.memory (Some k)) o NoGuest) w.guests) ≡ true
      go None = refl
      go (Some k) = guest_done w i n guest x.memory (Some k) g at_

  calls_done : (c : Command) (vhost : ℕ) (v : Vhost) (g : Guest) (x : Call) → driven_vhost c ≡ Some vhost
      → at w.vhosts vhost ≡ Some v → at w.guests v.guest ≡ Some g → call_of c v g.memory ≡ Some x
      → does w i n (calls w i seen c) ≡ may_call i c v
  calls_done c vhost v g x d e f k =
      ap (λ (o : Option ℕ). does w i n
      (o >>= (λ vh. at w.vhosts vh
      >>= (λ y. at w.guests y.guest
      >>= (λ z. call_of c y z.memory >>= (λ q. only_if (may_call i c y) (call_effect w seen vh y.guest q))))))) d
      ∙ ap (λ (o : Option Vhost). does w i n
      (o >>= (λ y. at w.guests y.guest
      >>= (λ z. call_of c y z.memory >>= (λ q. only_if (may_call i c y) (call_effect w seen vhost y.guest q)))))) e
      ∙ ap (λ (o : Option Guest). does w i n
      (o >>= (λ z. call_of c v z.memory >>= (λ q. only_if (may_call i c v) (call_effect w seen vhost v.guest q)))))
      f
      ∙ ap (λ (o : Option Call). does w i n
      (o >>= (λ q. only_if (may_call i c v) (call_effect w seen vhost v.guest q)))) k
      ∙ does_only w i n (may_call i c v) (call_effect w seen vhost v.guest x) (effect_done vhost v.guest x g f)

  -- the vhost of a call, and what it does there
  pub record IsCall (c : Command) (vhost : ℕ) : Type 0 where
    pub v : Vhost
    pub is_vhost : at w.vhosts vhost ≡ Some v
    pub done : does w i n (calls w i seen c) ≡ may_call i c v

  call_here : (c : Command) (vhost : ℕ) → Here s w i seen script n c Begun → driven_vhost c ≡ Some vhost
      → IsSome (at s.vhosts vhost) → ((v : Vhost) (m : Contents) → IsCalled (call_of c v m)) → IsCall c vhost
  call_here c vhost h d named called_ =
      let v = vhost_there h vhost named in
      let g = guest_of_vhost h vhost v.0 v.1 in
      let x = called_ v.0 g.0.memory in
      record { v = v.0; is_vhost = v.1; done = calls_done c vhost v.0 g.0 x.0 d v.1 g.1 x.1 }

  -- a control call waits, a driver's call doesn't
  waits : (c : Command) (vhost : ℕ) → Here s w i seen script n c Begun → driven_vhost c ≡ Some vhost
      → IsSome (at s.vhosts vhost) → ((v : Vhost) (m : Contents) → IsCalled (call_of c v m))
      → does w i n (calls w i seen c) ≡ vhost_is w vhost (may_call i c)
  waits c vhost h d named called_ =
      let k = call_here c vhost h d named called_ in
      k.done ∙ sym (ap (λ (o : Option Vhost). option_map_or (may_call i c) o false) k.is_vhost)

  control_begins : (c : Command) → Here s w i seen script n c Begun → is_some (driven_vhost c) ≡ true
      → Goes s w i seen script n c Begun
  control_begins (command.Features vhost bits) h e = record {
    kind = event.Drive;
    is_next = refl;
    done = waits (command.Features vhost bits) vhost h refl (names h).vhost
        (λ v m. called_there (features_refusal bits v.settings) (with_features bits v.settings) answer.Done
        (Some (kind.Features vhost)) v m (features_words bits v.settings));
  }
  control_begins (command.VNum vhost r num) h e = record {
    kind = event.Drive;
    is_next = refl;
    done = waits (command.VNum vhost r num) vhost h refl (names h).vhost
        (λ v m. called_there (num_refusal r num v.settings) (with_num r num v.settings) answer.Done
        (on_ring r (kind.Num vhost r)) v m (num_words r num v.settings));
  }
  control_begins (command.VBase vhost r base) h e = record {
    kind = event.Drive;
    is_next = refl;
    done = waits (command.VBase vhost r base) vhost h refl (names h).vhost
        (λ v m. called_there (base_refusal r base v.settings) (with_base r base v.settings) answer.Done
        (on_ring r (kind.Base vhost r)) v m (base_words r base v.settings));
  }
  control_begins (command.VAddr vhost r desc avail used) h e = record {
    kind = event.Drive;
    is_next = refl;
    done = waits (command.VAddr vhost r desc avail used) vhost h refl (names h).vhost
        (λ v m. called_there (addr_refusal r desc avail used m v.settings) (with_addr r desc avail used v.settings)
        answer.Done (on_ring r (kind.Addr vhost r)) v m (addr_words r desc avail used m v.settings));
  }
  control_begins (command.GetBase vhost r) h e = record {
    kind = event.Drive;
    is_next = refl;
    done = waits (command.GetBase vhost r) vhost h refl (names h).vhost
        (λ v m. called_there (number_refusal r) v.settings (answer.Base (ring_at r v.settings).queue.positions.next)
        (on_ring r (kind.GetBase vhost r)) v m (number_words r));
  }
  control_begins (command.DriveAt vhost r addr) h e = record {
    kind = event.Drive;
    is_next = refl;
    done = (call_here (command.DriveAt vhost r addr) vhost h refl (names h).vhost
        (λ v m. drives_there vhost r addr v m)).done;
  }
  control_begins (command.PostIn vhost r lens) h e = record {
    kind = event.Drive;
    is_next = refl;
    done = (call_here (command.PostIn vhost r lens) vhost h refl (names h).vhost (λ v m.
        with_books_there (kind.Post vhost r) v m (driver_of r v)
        (λ b. posts vhost r (post_in_refusal lens b) (length lens) (posted_in b lens m) b v m)
        (λ b. posts_there vhost r (post_in_refusal lens b) (length lens) (posted_in b lens m) b v m
        (post_in_words lens b)))).done;
  }
  control_begins (command.PostOut vhost r bytes) h e = record {
    kind = event.Drive;
    is_next = refl;
    done = (call_here (command.PostOut vhost r bytes) vhost h refl (names h).vhost (λ v m.
        with_books_there (kind.Post vhost r) v m (driver_of r v)
        (λ b. posts vhost r (post_out_refusal (length bytes) b) (full_pieces (length bytes) + 1)
        (posted_out b bytes m) b v m)
        (λ b. posts_there vhost r (post_out_refusal (length bytes) b) (full_pieces (length bytes) + 1)
        (posted_out b bytes m) b v m (post_out_words (length bytes) b)))).done;
  }
  control_begins (command.Harvest vhost r) h e = record {
    kind = event.Drive;
    is_next = refl;
    done = (call_here (command.Harvest vhost r) vhost h refl (names h).vhost (λ v m.
        with_books_there (kind.Harvest vhost r) v m (driver_of r v) (λ b. Some (harvests vhost r b v m))
        (λ b. (harvests vhost r b v m, refl)))).done;
  }
  control_begins c h e = absurd (true≢false (sym e))

  -- ---- all but turns

  poke_begins : (guest addr : ℕ) (bytes : List ℕ) → Here s w i seen script n (command.Poke guest addr bytes) Begun
      → Goes s w i seen script n (command.Poke guest addr bytes) Begun
  poke_begins guest addr bytes h =
      let g = guest_there h guest (names h).guest in
      record {
        kind = event.Poke;
        is_next = refl;
        done =
            ap (λ (o : Option Guest). does w i n
            (o >>= (λ y. Some (poked w seen guest addr bytes y.memory
            (first_bad y.memory.regions addr (length bytes)))))) g.1
            ∙ guest_done w i n guest
            (poke_leaves g.0.memory addr bytes (first_bad g.0.memory.regions addr (length bytes))) (Some kind.Poke)
            g.0 g.1;
      }

  peek_begins : (guest addr len : ℕ) → Here s w i seen script n (command.Peek guest addr len) Begun
      → Goes s w i seen script n (command.Peek guest addr len) Begun
  peek_begins guest addr len h =
      let g = guest_there h guest (names h).guest in
      record {
        kind = event.Peek;
        is_next = refl;
        done =
            ap (λ (o : Option Guest). does w i n
            (o >>= (λ y. Some (record (only
            (Ends seen (peeked addr len y.memory (first_bad y.memory.regions addr len))) w) {
              guests = OnGuest
                  guest y.memory (Some kind.Peek);
            })))) g.1
            ∙ guest_done w i n guest g.0.memory (Some kind.Peek) g.0 g.1;
      }

  pub begun_goes : (c : Command) → Here s w i seen script n c Begun → is_turn c ≡ false
      → Goes s w i seen script n c Begun
  begun_goes (command.SetIff file name flags) h e = record {
    kind = event.Look;
    is_next = refl;
    done = looks_done
        (op.SetIff file name flags);
  }
  begun_goes (command.SetQueue file flags) h e = record {
    kind = event.Look;
    is_next = refl;
    done = looks_done
        (op.SetQueue file flags);
  }
  begun_goes (command.Close file) h e = record { kind = event.Look; is_next = refl; done = looks_done (op.Shut file) }
  begun_goes (command.Persist file on) h e = record {
    kind = event.Look;
    is_next = refl;
    done = looks_done
        (op.Persist file on);
  }
  begun_goes (command.HdrSize file size) h e = record {
    kind = event.Look;
    is_next = refl;
    done = looks_done
        (op.HdrSize file size);
  }
  begun_goes (command.Steer file program) h e = record {
    kind = event.Look;
    is_next = refl;
    done = looks_done
        (op.Steering file (place_of s program));
  }
  begun_goes (command.Filter file program) h e = record {
    kind = event.Look;
    is_next = refl;
    done = looks_done
        (op.Filter file (place_of s program));
  }
  begun_goes (command.Tick now) h e = record { kind = event.Look; is_next = refl; done = looks_done (op.Tick now) }
  begun_goes (command.Resize file capacity) h e = record {
    kind = event.Look;
    is_next = refl;
    done = looks_done
        (op.Resize file capacity);
  }
  begun_goes (command.Send device hdr bytes) h e = record {
    kind = event.Look;
    is_next = refl;
    done = sends_done
        (name_of i n) device (sent_front hdr) (sent_bytes hdr bytes);
  }
  begun_goes (command.Read file room) h e = record {
    kind = event.Look;
    is_next = refl;
    done = front_done
        (steer.shape_of (table s w) file) (reads w file room) (reads_done file room);
  }
  begun_goes (command.Write file bytes) h e = record {
    kind = event.Look;
    is_next = refl;
    done = front_done (steer.shape_of (table s w) file) (writes (table s w) w file bytes)
        (λ front. unless_done (bad_in front bytes)
        (only (GoesOn (newest w) (Hosts file (ether_in front bytes) (steer.learns (table s w) file))
        (found.Version (newest w))) w) refl);
  }
  begun_goes (command.Backend vhost r file) h e = backend_begins vhost r file h
  begun_goes (command.Poke guest addr bytes) h e = poke_begins guest addr bytes h
  begun_goes (command.Peek guest addr len) h e = peek_begins guest addr len h
  begun_goes (command.RxTurn vhost) h e = absurd (true≢false e)
  begun_goes (command.TxTurn vhost) h e = absurd (true≢false e)
  begun_goes (command.Features vhost bits) h e = control_begins (command.Features vhost bits) h refl
  begun_goes (command.VNum vhost r num) h e = control_begins (command.VNum vhost r num) h refl
  begun_goes (command.VBase vhost r base) h e = control_begins (command.VBase vhost r base) h refl
  begun_goes (command.VAddr vhost r desc avail used) h e = control_begins (command.VAddr vhost r desc avail used) h refl
  begun_goes (command.GetBase vhost r) h e = control_begins (command.GetBase vhost r) h refl
  begun_goes (command.DriveAt vhost r addr) h e = control_begins (command.DriveAt vhost r addr) h refl
  begun_goes (command.PostIn vhost r lens) h e = control_begins (command.PostIn vhost r lens) h refl
  begun_goes (command.PostOut vhost r bytes) h e = control_begins (command.PostOut vhost r bytes) h refl
  begun_goes (command.Harvest vhost r) h e = control_begins (command.Harvest vhost r) h refl
