-- A call on a vhost or a driver doesn't look at who holds the turns, but for its own ring's, and leaves them.
use Rattle.std.proofs.Common.{◌≡◌, ◌⊎◌, ℕ, zero, suc, List, [], ◌∷◌, length, Option, Some, None, Bool, true, false, refl, sym, ap, ◌∙◌, inl, inr, ⊎_elim, cond, true≢false, arith}
use Rattle.std.specs.Prelude.{◌+◌, ◌==◌, option_map, is_some}
use Rattle.std.specs.Option.{option_map_or}
use Rattle.std.proofs.lemmas.Bool.{and_from, and_parts, eqb-true, le-leb, ltb-false, ltb-true}
use Rattle.guest_mem.specs.Memory.{Contents}
use Rattle.vhost_dev.specs.declared.error.VhostErr.{VhostErr}
use Rattle.vhost_dev.specs.declared.error.VhostErr.TheVariants.{EBUSY, EFAULT, EINVAL, ENOBUFS}
use Rattle.vhost_dev.specs.Calls.{begun, chosen, placed, resized, with_addr, with_base, with_features, with_num}
use Rattle.vhost_dev.specs.Refusals.{addr_refusal, base_refusal, features_refusal, is_backed, is_bad_position, is_bad_size, is_no_ring, is_outside, is_unaligned, num_refusal, number_refusal}
use Rattle.vhost_dev.specs.Settings.{RingSettings, Settings, at_ring, is_rx, ring_at, ring_of, with_ring}
use Rattle.vring_drive.specs.declared.error.DriveErr.{DriveErr}
use Rattle.vring_drive.specs.declared.error.PostErr.{PostErr}
use Rattle.vring_drive.specs.Area.{drive_refusal}
use Rattle.vring_drive.specs.Books.{Books, chain_of, first_books, head_of, sent_out}
use Rattle.vring_drive.specs.Harvests.{harvested, harvested_in}
use Rattle.vring_drive.specs.Posts.{full_pieces, post_in_refusal, post_out_refusal, posted_in, posted_out}
use Rattle.scen_words.specs.declared.command.Command.{Command}
use Rattle.scen_words.specs.declared.command.Command.TheVariants as command
use Rattle.tap_trace.specs.declared.answer.Answer.{Answer}
use Rattle.tap_trace.specs.declared.answer.Answer.TheVariants as answer
use Rattle.tap_trace.specs.declared.causes.DriveText.{DriveText}
use Rattle.tap_trace.specs.declared.kind.Kind.{Kind}
use Rattle.tap_trace.specs.declared.kind.Kind.TheVariants as kind
use Rattle.tap_ground.specs.Options.{◌>>=◌, first_that_holds, only_if}
use Rattle.tap_world.specs.Guests.{Vhost, driver_of, is_free_for, is_ring, turn_of, with_driver}
use Rattle.tap_world.specs.StepControl.{Call, call_of, called, drive_told, driven, driver_call, drives, harvest_told, harvests, may_call, on_ring, post_told, posts, refused, told_by, with_books}
use Rattle.tap_world.specs.StepTurns.{turn_on}
use Rattle.tap_legal.specs.Numbered.{StepAt}
use Rattle.tap_legal.specs.Case.{Case}
use Rattle.tap_legal.specs.LegalGuests.{has_steps}
use Rattle.tap_legal.specs.Replay.{Replay, replay_back}
use Rattle.tap_sights.proofs.Kit.{some_same}
use Rattle.tap_sound.proofs.Kit.{WhereSome}
use Rattle.tap_acts.proofs.Vhosts.{Freer, free_stays}

abbrev pub turned : Option ℕ → Option ℕ → Vhost → Vhost
turned rx tx v = record v { rx_turn = rx; tx_turn = tx }

abbrev pub call_turned : Option ℕ → Option ℕ → Call → Call
call_turned rx tx x = record x { vhost = turned rx tx x.vhost }

abbrev call_as : Settings → Option Kind → Vhost → Contents → Answer → Option Call
call_as s step v m told = Some (record { vhost = record v { settings = s }; memory = m; answer = told; step = step })

abbrev step_of : Vhost → Contents → Answer → Kind → Call
step_of v m x k = record { vhost = v; memory = m; answer = x; step = Some k }

-- ---- whoever holds the turns

module _ (rx tx : Option ℕ) where
  by_called : (refusal : Option VhostErr) (changed : Settings) (x : Answer) (step : Option Kind) (v : Vhost) (m : Contents)
      → called refusal changed x step (turned rx tx v) m ≡ option_map (call_turned rx tx) (called refusal changed x step v m)
  by_called refusal changed x step v m = go (told_by refusal x)
    where
      go : (o : Option Answer)
          → (o >>= (λ (y : Answer). call_as (chosen refusal v.settings changed) step (turned rx tx v) m y))
          ≡ option_map (call_turned rx tx) (o >>= (λ (y : Answer). call_as (chosen refusal v.settings changed) step v m y))
      go None = refl
      go (Some y) = refl

  by_refused : (k : Kind) (v : Vhost) (m : Contents) (told : Option DriveText)
      → refused k (turned rx tx v) m told ≡ option_map (call_turned rx tx) (refused k v m told)
  by_refused k v m None = refl
  by_refused k v m (Some x) = refl

  by_driven : (ring : ℕ) (k : Kind) (v : Vhost) (b : Books) (m : Contents) (x : Answer)
      → driven ring k (turned rx tx v) b m x ≡ call_turned rx tx (driven ring k v b m x)
  by_driven ring k v b m x = ap (λ (w : Vhost). step_of w m x k) (go (ring == 0))
    where
      go : (t : Bool) → cond t (record (turned rx tx v) { rx_driver = Some b }) (record (turned rx tx v) { tx_driver = Some b })
          ≡ turned rx tx (cond t (record v { rx_driver = Some b }) (record v { tx_driver = Some b }))
      go true = refl
      go false = refl

  by_drives : (vhost ring addr : ℕ) (v : Vhost) (m : Contents)
      → drives vhost ring addr (turned rx tx v) m ≡ option_map (call_turned rx tx) (drives vhost ring addr v m)
  by_drives vhost ring addr v m = go (drive_refusal m addr (ring_at ring v.settings).queue.layout.num)
    where
      go : (o : Option DriveErr)
          → option_map_or (λ e. refused (kind.Drive vhost ring) (turned rx tx v) m (drive_told e)) o
          (Some (driven ring (kind.Drive vhost ring) (turned rx tx v)
          (first_books addr (ring_at ring v.settings).queue.layout.num (ring_at ring v.settings).queue.layout.event) m answer.Done))
          ≡ option_map (call_turned rx tx) (option_map_or (λ e. refused (kind.Drive vhost ring) v m (drive_told e)) o
          (Some (driven ring (kind.Drive vhost ring) v
          (first_books addr (ring_at ring v.settings).queue.layout.num (ring_at ring v.settings).queue.layout.event) m answer.Done)))
      go None = ap Some (by_driven ring (kind.Drive vhost ring) v
          (first_books addr (ring_at ring v.settings).queue.layout.num (ring_at ring v.settings).queue.layout.event) m answer.Done)
      go (Some e) = by_refused (kind.Drive vhost ring) v m (drive_told e)

  by_posts : (vhost ring : ℕ) (refusal : Option PostErr) (need : ℕ) (after : Contents) (b : Books) (v : Vhost) (m : Contents)
      → posts vhost ring refusal need after b (turned rx tx v) m ≡ option_map (call_turned rx tx) (posts vhost ring refusal need after b v m)
  by_posts vhost ring None need after b v m =
      ap Some (by_driven ring (kind.Post vhost ring) v (sent_out need b) after (answer.Posted (head_of (chain_of need b))))
  by_posts vhost ring (Some e) need after b v m = by_refused (kind.Post vhost ring) v m (post_told e)

  by_books : (k : Kind) (v : Vhost) (m : Contents) (o : Option Books) (new old : Books → Option Call)
      → ((b : Books) → new b ≡ option_map (call_turned rx tx) (old b))
      → with_books k (turned rx tx v) m o new ≡ option_map (call_turned rx tx) (with_books k v m o old)
  by_books k v m None new old each = refl
  by_books k v m (Some b) new old each = each b

  pub call_turns : (k : Command) (v : Vhost) (m : Contents) → call_of k (turned rx tx v) m ≡ option_map (call_turned rx tx) (call_of k v m)
  call_turns (command.Features vhost bits) v m =
      by_called (features_refusal bits v.settings) (with_features bits v.settings) answer.Done (Some (kind.Features vhost)) v m
  call_turns (command.VNum vhost ring n) v m =
      by_called (num_refusal ring n v.settings) (with_num ring n v.settings) answer.Done (on_ring ring (kind.Num vhost ring)) v m
  call_turns (command.VBase vhost ring n) v m =
      by_called (base_refusal ring n v.settings) (with_base ring n v.settings) answer.Done (on_ring ring (kind.Base vhost ring)) v m
  call_turns (command.VAddr vhost ring desc avail used) v m =
      by_called (addr_refusal ring desc avail used m v.settings) (with_addr ring desc avail used v.settings) answer.Done
      (on_ring ring (kind.Addr vhost ring)) v m
  call_turns (command.GetBase vhost ring) v m =
      by_called (number_refusal ring) v.settings (answer.Base (ring_at ring v.settings).queue.positions.next)
      (on_ring ring (kind.GetBase vhost ring)) v m
  call_turns (command.DriveAt vhost ring addr) v m = by_drives vhost ring addr v m
  call_turns (command.PostIn vhost ring lens) v m =
      by_books (kind.Post vhost ring) v m (driver_of ring v) _ _
      (λ b. by_posts vhost ring (post_in_refusal lens b) (length lens) (posted_in b lens m) b v m)
  call_turns (command.PostOut vhost ring bytes) v m =
      by_books (kind.Post vhost ring) v m (driver_of ring v) _ _
      (λ b. by_posts vhost ring (post_out_refusal (length bytes) b) (full_pieces (length bytes) + 1) (posted_out b bytes m) b v m)
  call_turns (command.Harvest vhost ring) v m =
      by_books (kind.Harvest vhost ring) v m (driver_of ring v) _ _
      (λ b. ap Some (by_driven ring (kind.Harvest vhost ring) v (harvested m b).books (harvested_in m b) (harvest_told (harvested m b))))
  call_turns other v m = refl

-- a call leaves who holds the turns
pub call_keeps : (k : Command) (v : Vhost) (m : Contents) (x : Call) → call_of k v m ≡ Some x → turned v.rx_turn v.tx_turn x.vhost ≡ x.vhost
call_keeps k v m x e =
    sym (ap (λ (y : Call). y.vhost)
    (some_same _ _ (sym e ∙ call_turns v.rx_turn v.tx_turn k v m ∙ ap (option_map (call_turned v.rx_turn v.tx_turn)) e)))

-- ---- who may call

pub may_stay : (actor : ℕ) (k : Command) (v w : Vhost) → ((ring : ℕ) → Freer (turn_of ring v) (turn_of ring w))
    → may_call actor k v ≡ true → may_call actor k w ≡ true
may_stay actor (command.Features vhost bits) v w free e =
    let p = and_parts (is_free_for actor 0 v) (is_free_for actor 1 v) e in
    and_from (is_free_for actor 0 w) (is_free_for actor 1 w) (free_stays actor 0 v w (free 0) p.0) (free_stays actor 1 v w (free 1) p.1)
may_stay actor (command.VNum vhost ring n) v w free e = free_stays actor ring v w (free ring) e
may_stay actor (command.VBase vhost ring n) v w free e = free_stays actor ring v w (free ring) e
may_stay actor (command.VAddr vhost ring desc avail used) v w free e = free_stays actor ring v w (free ring) e
may_stay actor (command.GetBase vhost ring) v w free e = free_stays actor ring v w (free ring) e
may_stay actor other v w free e = e

-- ---- what is no call

pub no_turn_called : (k : Command) (v : Vhost) (m : Contents) (x : Call) → call_of k v m ≡ Some x → turn_on k ≡ None
no_turn_called (command.RxTurn vhost) v m x e = absurd (cc (e))
no_turn_called (command.TxTurn vhost) v m x e = absurd (cc (e))
no_turn_called other v m x e = refl

pub no_back_called : (c : Case) (s : StepAt) (r : Replay) (k : Command) (v : Vhost) (m : Contents) (x : Call) → call_of k v m ≡ Some x
    → replay_back c s k r ≡ None
no_back_called c s r (command.Backend vhost ring file) v m x e = absurd (cc (e))
no_back_called c s r other v m x e = refl

-- ---- a call without a step is of a ring that there isn't, and changes nothing

abbrev pub Silent : Command → Vhost → Contents → Call → Type 0
Silent k v m x = x.step ≡ None → (x.vhost ≡ v) × (x.memory ≡ m) × (has_steps k ≡ false)

by_silent : (k : Command) (refusal : Option VhostErr) (changed : Settings) (y : Answer) (step : Option Kind) (v : Vhost) (m : Contents)
    → (step ≡ None → (chosen refusal v.settings changed ≡ v.settings) × (has_steps k ≡ false))
    → WhereSome (Silent k v m) (called refusal changed y step v m)
by_silent k refusal changed y step v m h = go (told_by refusal y)
  where
    go : (o : Option Answer) → WhereSome (Silent k v m) (o >>= (λ (t : Answer). call_as (chosen refusal v.settings changed) step v m t))
    go None = tt
    go (Some t) = λ e. let p = h e in (ap (λ (s : Settings). record v { settings = s }) p.0, refl, p.1)

no_ring : (ring : ℕ) (k : Kind) → on_ring ring k ≡ None → is_ring ring ≡ false
no_ring ring k e = go (is_ring ring) e
  where
    go : (b : Bool) → only_if b k ≡ None → b ≡ false
    go true e = absurd (cc (e))
    go false e = refl

refused_so : (ring : ℕ) (rows : List (Bool × VhostErr)) (old new : Settings) → is_ring ring ≡ false
    → chosen (first_that_holds ((is_no_ring ring, ENOBUFS) ∷ rows)) old new ≡ old
refused_so ring rows old new e =
    ap (λ (b : Bool). chosen (first_that_holds ((b, ENOBUFS) ∷ rows)) old new) (le-leb 2 ring (ltb-false ring 2 e))

-- a driver's call has a step, and leaves the settings
abbrev Driven : Vhost → Call → Type 0
Driven v x = (is_some x.step ≡ true) × (x.vhost.settings ≡ v.settings)

books_settings : (ring : ℕ) (b : Books) (v : Vhost) → (with_driver ring b v).settings ≡ v.settings
books_settings ring b v = go (ring == 0)
  where
    go : (t : Bool) → (cond t (record v { rx_driver = Some b }) (record v { tx_driver = Some b })).settings ≡ v.settings
    go true = refl
    go false = refl

pub drives_step : (k : Command) (v : Vhost) (m : Contents) → WhereSome (Driven v) (driver_call k v m)
drives_step (command.DriveAt vhost ring addr) v m = go (drive_refusal m addr (ring_at ring v.settings).queue.layout.num)
  where
    told : (o : Option DriveText) → WhereSome (Driven v) (refused (kind.Drive vhost ring) v m o)
    told None = tt
    told (Some x) = (refl, refl)

    go : (o : Option DriveErr) → WhereSome (Driven v) (option_map_or (λ e. refused (kind.Drive vhost ring) v m (drive_told e)) o
        (Some (driven ring (kind.Drive vhost ring) v
        (first_books addr (ring_at ring v.settings).queue.layout.num (ring_at ring v.settings).queue.layout.event) m answer.Done)))
    go None = (refl, books_settings ring _ v)
    go (Some e) = told (drive_told e)
drives_step (command.PostIn vhost ring lens) v m = go (driver_of ring v)
  where
    told : (o : Option DriveText) → WhereSome (Driven v) (refused (kind.Post vhost ring) v m o)
    told None = tt
    told (Some x) = (refl, refl)

    put : (refusal : Option PostErr) (need : ℕ) (after : Contents) (b : Books) → WhereSome (Driven v) (posts vhost ring refusal need after b v m)
    put None need after b = (refl, books_settings ring (sent_out need b) v)
    put (Some e) need after b = told (post_told e)

    go : (o : Option Books) → WhereSome (Driven v) (with_books (kind.Post vhost ring) v m o
        (λ b. posts vhost ring (post_in_refusal lens b) (length lens) (posted_in b lens m) b v m))
    go None = (refl, refl)
    go (Some b) = put (post_in_refusal lens b) (length lens) (posted_in b lens m) b
drives_step (command.PostOut vhost ring bytes) v m = go (driver_of ring v)
  where
    told : (o : Option DriveText) → WhereSome (Driven v) (refused (kind.Post vhost ring) v m o)
    told None = tt
    told (Some x) = (refl, refl)

    put : (refusal : Option PostErr) (need : ℕ) (after : Contents) (b : Books) → WhereSome (Driven v) (posts vhost ring refusal need after b v m)
    put None need after b = (refl, books_settings ring (sent_out need b) v)
    put (Some e) need after b = told (post_told e)

    go : (o : Option Books) → WhereSome (Driven v) (with_books (kind.Post vhost ring) v m o
        (λ b. posts vhost ring (post_out_refusal (length bytes) b) (full_pieces (length bytes) + 1) (posted_out b bytes m) b v m))
    go None = (refl, refl)
    go (Some b) = put (post_out_refusal (length bytes) b) (full_pieces (length bytes) + 1) (posted_out b bytes m) b
drives_step (command.Harvest vhost ring) v m = go (driver_of ring v)
  where
    go : (o : Option Books) → WhereSome (Driven v) (with_books (kind.Harvest vhost ring) v m o (λ b. Some (harvests vhost ring b v m)))
    go None = (refl, refl)
    go (Some b) = (refl, books_settings ring (harvested m b).books v)
drives_step other v m = tt

driver_silent : (k : Command) (v : Vhost) (m : Contents) → WhereSome (Silent k v m) (driver_call k v m)
driver_silent k v m = go (driver_call k v m) (drives_step k v m)
  where
    go : (o : Option Call) → WhereSome (Driven v) o → WhereSome (Silent k v m) o
    go None h = tt
    go (Some x) h = λ e. let is = h.0 in absurd (cc (e, is))

pub silent_call : (k : Command) (v : Vhost) (m : Contents) → WhereSome (Silent k v m) (call_of k v m)
silent_call (command.Features vhost bits) v m =
    by_silent (command.Features vhost bits) (features_refusal bits v.settings) (with_features bits v.settings) answer.Done (Some (kind.Features vhost)) v m
    (λ e. absurd (cc (e)))
silent_call (command.VNum vhost ring n) v m =
    by_silent (command.VNum vhost ring n) (num_refusal ring n v.settings) (with_num ring n v.settings) answer.Done (on_ring ring (kind.Num vhost ring)) v m
    (λ e. (refused_so ring ((is_backed (ring_at ring v.settings), EBUSY) ∷ (is_bad_size n, EINVAL) ∷ []) v.settings (with_num ring n v.settings) (no_ring ring (kind.Num vhost ring) e), no_ring ring (kind.Num vhost ring) e))
silent_call (command.VBase vhost ring n) v m =
    by_silent (command.VBase vhost ring n) (base_refusal ring n v.settings) (with_base ring n v.settings) answer.Done (on_ring ring (kind.Base vhost ring)) v m
    (λ e. (refused_so ring ((is_backed (ring_at ring v.settings), EBUSY) ∷ (is_bad_position n, EINVAL) ∷ []) v.settings (with_base ring n v.settings) (no_ring ring (kind.Base vhost ring) e), no_ring ring (kind.Base vhost ring) e))
silent_call (command.VAddr vhost ring desc avail used) v m =
    by_silent (command.VAddr vhost ring desc avail used) (addr_refusal ring desc avail used m v.settings)
    (with_addr ring desc avail used v.settings) answer.Done (on_ring ring (kind.Addr vhost ring)) v m
    (λ e. (
      refused_so ring ((is_backed (ring_at ring v.settings), EBUSY) ∷ (is_unaligned desc avail used, EINVAL)
          ∷ (is_outside (ring_at ring v.settings).queue.layout.num desc avail used m, EFAULT) ∷ []) v.settings
          (with_addr ring desc avail used v.settings) (no_ring ring (kind.Addr vhost ring) e),
      no_ring ring (kind.Addr vhost ring) e,
    ))
silent_call (command.GetBase vhost ring) v m =
    by_silent (command.GetBase vhost ring) (number_refusal ring) v.settings (answer.Base (ring_at ring v.settings).queue.positions.next)
    (on_ring ring (kind.GetBase vhost ring)) v m
    (λ e. (refused_so ring [] v.settings v.settings (no_ring ring (kind.GetBase vhost ring) e), no_ring ring (kind.GetBase vhost ring) e))
silent_call other v m = driver_silent other v m

-- ---- a call leaves a ring whose turn another holds

abbrev pub Spares : ℕ → Vhost → Call → Type 0
Spares ring v x = ring_at ring x.vhost.settings ≡ ring_at ring v.settings

-- two rings that there are
pub same_ring : (ring other : ℕ) → (ring ≡ 0) ⊎ (ring ≡ 1) → is_ring other ≡ true → (ring == 0) ≡ (other == 0) → ring ≡ other
same_ring ring other (inl e) is same = e ∙ sym (eqb-true other 0 (sym same ∙ ap (λ n. n == 0) e))
same_ring ring other (inr e) is same = e ∙ sym (one other is (sym same ∙ ap (λ n. n == 0) e))
  where
    one : (n : ℕ) → is_ring n ≡ true → (n == 0) ≡ false → n ≡ 1
    one zero is e = absurd (true≢false e)
    one (suc zero) is e = refl
    one (suc (suc n)) is e = let lt = ltb-true (suc (suc n)) 2 is in absurd (omega (arith, lt))

pub other_of : (a b : Bool) (r : RingSettings) (s : Settings) → (a ≡ b → ⊥) → ring_of a (with_ring b r s) ≡ ring_of a s
other_of true true r s ne = absurd (ne refl)
other_of true false r s ne = refl
other_of false true r s ne = refl
other_of false false r s ne = absurd (ne refl)

by_spared : (refusal : Option VhostErr) (changed : Settings) (y : Answer) (step : Option Kind) (v : Vhost) (m : Contents) (ring : ℕ)
    → ring_at ring (chosen refusal v.settings changed) ≡ ring_at ring v.settings → WhereSome (Spares ring v) (called refusal changed y step v m)
by_spared refusal changed y step v m ring h = go (told_by refusal y)
  where
    go : (o : Option Answer) → WhereSome (Spares ring v) (o >>= (λ (t : Answer). call_as (chosen refusal v.settings changed) step v m t))
    go None = tt
    go (Some t) = h

chosen_spares : (refusal : Option VhostErr) (s changed : Settings) (ring : ℕ) → ring_at ring changed ≡ ring_at ring s
    → ring_at ring (chosen refusal s changed) ≡ ring_at ring s
chosen_spares None s changed ring e = e
chosen_spares (Some x) s changed ring e = refl

module _ (actor ring : ℕ) (v : Vhost) (real : (ring ≡ 0) ⊎ (ring ≡ 1)) (busy : is_free_for actor ring v ≡ false) where
  not_same : (other : ℕ) → is_free_for actor other v ≡ true → ring ≡ other → ⊥
  not_same other free same = true≢false (sym free ∙ ap (λ n. is_free_for actor n v) (sym same) ∙ busy)

  -- a change of another ring, or of none where there is no such ring
  other_ring : (other : ℕ) (rows : List (Bool × VhostErr)) (f : RingSettings → RingSettings) → is_free_for actor other v ≡ true
      → ring_at ring (chosen (first_that_holds ((is_no_ring other, ENOBUFS) ∷ rows)) v.settings (at_ring other f v.settings)) ≡ ring_at ring v.settings
  other_ring other rows f free = go (is_ring other) refl
    where
      go : (b : Bool) → is_ring other ≡ b
          → ring_at ring (chosen (first_that_holds ((is_no_ring other, ENOBUFS) ∷ rows)) v.settings (at_ring other f v.settings)) ≡ ring_at ring v.settings
      go false is = ap (ring_at ring) (refused_so other rows v.settings (at_ring other f v.settings) is)
      go true is =
          chosen_spares (first_that_holds ((is_no_ring other, ENOBUFS) ∷ rows)) v.settings (at_ring other f v.settings) ring
          (other_of (is_rx ring) (is_rx other) (f (ring_at other v.settings)) v.settings
          (λ same. not_same other free (same_ring ring other real is same)))

  driver_spares : (k : Command) (m : Contents) → WhereSome (Spares ring v) (driver_call k v m)
  driver_spares k m = go (driver_call k v m) (drives_step k v m)
    where
      go : (o : Option Call) → WhereSome (Driven v) o → WhereSome (Spares ring v) o
      go None h = tt
      go (Some x) h = ap (ring_at ring) h.1

  pub call_spares : (k : Command) (m : Contents) → may_call actor k v ≡ true → WhereSome (Spares ring v) (call_of k v m)
  call_spares (command.Features vhost bits) m may =
      let p = and_parts (is_free_for actor 0 v) (is_free_for actor 1 v) may in
      absurd (⊎_elim (not_same 0 p.0) (not_same 1 p.1) real)
  call_spares (command.VNum vhost other n) m may =
      by_spared (num_refusal other n v.settings) (with_num other n v.settings) answer.Done (on_ring other (kind.Num vhost other)) v m ring
      (other_ring other ((is_backed (ring_at other v.settings), EBUSY) ∷ (is_bad_size n, EINVAL) ∷ []) (resized n) may)
  call_spares (command.VBase vhost other n) m may =
      by_spared (base_refusal other n v.settings) (with_base other n v.settings) answer.Done (on_ring other (kind.Base vhost other)) v m ring
      (other_ring other ((is_backed (ring_at other v.settings), EBUSY) ∷ (is_bad_position n, EINVAL) ∷ []) (begun n) may)
  call_spares (command.VAddr vhost other desc avail used) m may =
      by_spared (addr_refusal other desc avail used m v.settings) (with_addr other desc avail used v.settings) answer.Done
      (on_ring other (kind.Addr vhost other)) v m ring
      (other_ring other ((is_backed (ring_at other v.settings), EBUSY) ∷ (is_unaligned desc avail used, EINVAL)
      ∷ (is_outside (ring_at other v.settings).queue.layout.num desc avail used m, EFAULT) ∷ []) (placed desc avail used) may)
  call_spares (command.GetBase vhost other) m may =
      by_spared (number_refusal other) v.settings (answer.Base (ring_at other v.settings).queue.positions.next)
      (on_ring other (kind.GetBase vhost other)) v m ring (chosen_spares (number_refusal other) v.settings v.settings ring refl)
  call_spares other m may = driver_spares other m
