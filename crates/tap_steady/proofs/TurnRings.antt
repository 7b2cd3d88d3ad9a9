-- A ring whose turn another actor holds, and which has a backend, stays as it is.
use Rattle.std.proofs.Common.{◌≡◌, ◌≢◌, ℕ, ◌+◌, length, Bool, true, false, true≢false, Option, Some, None, ⊎_elim, refl, sym, ap, ◌∙◌, subst, arith}
use Rattle.std.specs.Prelude.{◌==◌, ◌||◌, not, if◌then◌else◌, nat_le, nat_lt}
use Rattle.std.specs.Option.{option_map_or}
use Rattle.std.proofs.lemmas.Bool.{leb-false, ltb-false}
use Rattle.std.proofs.lemmas.Bool.Decides.{eqb_tells}
use Rattle.guest_mem.specs.Memory.{Contents}
use Rattle.vhost_dev.specs.declared.error.VhostErr.{VhostErr}
use Rattle.vhost_dev.specs.declared.error.VhostErr.TheVariants.{ENOBUFS}
use Rattle.vhost_dev.specs.Calls.{chosen}
use Rattle.vhost_dev.specs.Calls as dev
use Rattle.vhost_dev.specs.Refusals.{addr_refusal, base_refusal, features_refusal, is_backed, num_refusal, number_refusal}
use Rattle.vhost_dev.specs.Settings.{RingSettings, Settings, at_ring, hdr_of, is_rx, ring_at, ring_of, with_ring}
use Rattle.vring_drive.specs.declared.error.DriveErr.{DriveErr}
use Rattle.vring_drive.specs.declared.error.PostErr.{PostErr}
use Rattle.vring_drive.specs.Area.{drive_refusal}
use Rattle.vring_drive.specs.Books.{Books, chain_of, first_books, head_of}
use Rattle.vring_drive.specs.Harvests.{harvested, harvested_in}
use Rattle.vring_drive.specs.Posts.{full_pieces, post_in_refusal, post_out_refusal, posted_in, posted_out}
use Rattle.scen_words.specs.declared.command.Command.{Command}
use Rattle.scen_words.specs.declared.command.Command.TheVariants as command
use Rattle.tap_trace.specs.declared.answer.Answer.{Answer}
use Rattle.tap_trace.specs.declared.answer.Answer.TheVariants as answer
use Rattle.tap_trace.specs.declared.causes.DriveText.{DriveText}
use Rattle.tap_trace.specs.declared.kind.Kind.{Kind}
use Rattle.tap_trace.specs.declared.kind.Kind.TheVariants as kind
use Rattle.tap_world.specs.Guests.{Vhost, driver_of, is_free_for, is_ring, turn_of, with_turn}
use Rattle.tap_world.specs.StepControl as control
use Rattle.tap_sound.proofs.Kit.{WhereSome, where_then}

-- ---- settings

-- a ring of the settings is the same, and so is what turns read of the device
pub record SameIn (b : Bool) (s t : Settings) : Type 0 where
  pub ring : ring_of b t ≡ ring_of b s
  pub mrg : t.mrg ≡ s.mrg
  pub hdr : hdr_of t ≡ hdr_of s

pub same_in : (b : Bool) (s t : Settings) → t ≡ s → SameIn b s t
same_in b s t is = subst (SameIn b s) (sym is) (record { ring = refl; mrg = refl; hdr = refl })

-- the other ring changes
pub ring_other : (a b : Bool) (r : RingSettings) (s : Settings) → (a ≡ b → ⊥) → SameIn b s (with_ring a r s)
ring_other true true r s apart = absurd (apart refl)
ring_other true false r s apart = record { ring = refl; mrg = refl; hdr = refl }
ring_other false true r s apart = record { ring = refl; mrg = refl; hdr = refl }
ring_other false false r s apart = absurd (apart refl)

-- a ring that has no backend isn't this one
pub unbacked : (b : Bool) (ring : ℕ) (s : Settings) → is_backed (ring_of b s) ≡ true → is_backed (ring_at ring s) ≡ false → is_rx ring ≡ b → ⊥
unbacked b ring s backed free same = true≢false (sym backed ∙ ap (λ (x : Bool). is_backed (ring_of x s)) (sym same) ∙ free)

-- ---- calls

module _ (b : Bool) (v : Vhost) (m : Contents) (backed : is_backed (ring_of b v.settings) ≡ true) where
  abbrev Stays : control.Call → Type 0
  Stays x = SameIn b v.settings x.vhost.settings

  none_second : (p q : Bool) (o : Option VhostErr) (x y : VhostErr) → (if p then Some x else if q then Some y else o) ≡ None → q ≡ false
  none_second true q o x y h = absurd (cc (h))
  none_second false true o x y h = absurd (cc (h))
  none_second false false o x y h = refl

  called_stays : (o : Option VhostErr) (changed : Settings) (y : Answer) (k : Option Kind) → (o ≡ None → SameIn b v.settings changed)
      → WhereSome Stays (control.called o changed y k v m)
  called_stays None changed y k h = h refl
  called_stays (Some e) changed y k h = where_then Stays (control.told_by (Some e) y) _ (λ told q. same_in b v.settings v.settings refl)

  driven_stays : (ring : ℕ) (k : Kind) (x : Books) (n : Contents) (y : Answer) → Stays (control.driven ring k v x n y)
  driven_stays ring k x n y = go (ring == 0)
    where
      go : (t : Bool) → SameIn b v.settings (if t then record v { rx_driver = Some x } else record v { tx_driver = Some x }).settings
      go true = same_in b v.settings v.settings refl
      go false = same_in b v.settings v.settings refl

  refused_stays : (k : Kind) (o : Option DriveText) → WhereSome Stays (control.refused k v m o)
  refused_stays k None = tt
  refused_stays k (Some x) = same_in b v.settings v.settings refl

  posts_stay : (vhost ring : ℕ) (o : Option PostErr) (need : ℕ) (n : Contents) (x : Books) → WhereSome Stays (control.posts vhost ring o need n x v m)
  posts_stay vhost ring (Some e) need n x = refused_stays (kind.Post vhost ring) (control.post_told e)
  posts_stay vhost ring None need n x = driven_stays ring (kind.Post vhost ring) _ n (answer.Posted (head_of (chain_of need x)))

  books_stay : (k : Kind) (o : Option Books) (call : Books → Option control.Call) → ((x : Books) → WhereSome Stays (call x)) → WhereSome Stays (control.with_books k v m o call)
  books_stay k None call h = same_in b v.settings v.settings refl
  books_stay k (Some x) call h = h x

  drives_stay : (vhost ring addr : ℕ) (o : Option DriveErr) → WhereSome Stays (option_map_or (λ e. control.refused (kind.Drive vhost ring) v m (control.drive_told e)) o
      (Some (control.driven ring (kind.Drive vhost ring) v
      (first_books addr (ring_at ring v.settings).queue.layout.num (ring_at ring v.settings).queue.layout.event) m answer.Done)))
  drives_stay vhost ring addr None = driven_stays ring (kind.Drive vhost ring) _ m answer.Done
  drives_stay vhost ring addr (Some e) = refused_stays (kind.Drive vhost ring) (control.drive_told e)

  -- a change of one ring, where it isn't refused for its backend
  one_stays : (ring : ℕ) (change : RingSettings → RingSettings) → is_backed (ring_at ring v.settings) ≡ false → SameIn b v.settings (at_ring ring change v.settings)
  one_stays ring change free = ring_other (is_rx ring) b (change (ring_at ring v.settings)) v.settings (unbacked b ring v.settings backed free)

  features_busy : (bits : ℕ) → features_refusal bits v.settings ≡ None → ⊥
  features_busy bits h = true≢false (sym (either_backed b backed) ∙ none_first _ _ _ h)
    where
      either_backed : (a : Bool) → is_backed (ring_of a v.settings) ≡ true → (is_backed v.settings.rx || is_backed v.settings.tx) ≡ true
      either_backed true q = ap (λ (x : Bool). x || is_backed v.settings.tx) q
      either_backed false q = ap (λ (x : Bool). is_backed v.settings.rx || x) q ∙ or_true (is_backed v.settings.rx)
        where
          or_true : (x : Bool) → (x || true) ≡ true
          or_true true = refl
          or_true false = refl

      none_first : (p : Bool) (x : VhostErr) (o : Option VhostErr) → (if p then Some x else o) ≡ None → p ≡ false
      none_first true x o q = absurd (cc (q))
      none_first false x o q = refl

  pub calls_stay : (c : Command) → WhereSome Stays (control.call_of c v m)
  calls_stay (command.Features vhost bits) = called_stays (features_refusal bits v.settings) _ _ _ (λ h. absurd (features_busy bits h))
  calls_stay (command.VNum vhost ring n) = called_stays (num_refusal ring n v.settings) _ _ _
      (λ h. one_stays ring (dev.resized n) (none_second _ _ _ _ _ h))
  calls_stay (command.VBase vhost ring n) = called_stays (base_refusal ring n v.settings) _ _ _
      (λ h. one_stays ring (dev.begun n) (none_second _ _ _ _ _ h))
  calls_stay (command.VAddr vhost ring desc avail used) = called_stays (addr_refusal ring desc avail used m v.settings) _ _ _
      (λ h. one_stays ring (dev.placed desc avail used) (none_second _ _ _ _ _ h))
  calls_stay (command.GetBase vhost ring) = called_stays (number_refusal ring) v.settings _ _ (λ h. same_in b v.settings v.settings refl)
  calls_stay (command.DriveAt vhost ring addr) = drives_stay vhost ring addr (drive_refusal m addr (ring_at ring v.settings).queue.layout.num)
  calls_stay (command.PostIn vhost ring lens) = books_stay (kind.Post vhost ring) (driver_of ring v) _
      (λ x. posts_stay vhost ring (post_in_refusal lens x) (length lens) (posted_in x lens m) x)
  calls_stay (command.PostOut vhost ring bytes) = books_stay (kind.Post vhost ring) (driver_of ring v) _
      (λ x. posts_stay vhost ring (post_out_refusal (length bytes) x) (full_pieces (length bytes) + 1) (posted_out x bytes m) x)
  calls_stay (command.Harvest vhost ring) = books_stay (kind.Harvest vhost ring) (driver_of ring v) _
      (λ x. driven_stays ring (kind.Harvest vhost ring) (harvested m x).books (harvested_in m x) (control.harvest_told (harvested m x)))
  calls_stay c = tt

-- ---- turns

abbrev pub turn_in : Bool → Vhost → Option ℕ
turn_in b v = if b then v.rx_turn else v.tx_turn

pub with_turn_stays : (b : Bool) (ring : ℕ) (o : Option ℕ) (v : Vhost) → SameIn b v.settings (with_turn ring o v).settings
with_turn_stays b ring o v = go (ring == 0)
  where
    go : (t : Bool) → SameIn b v.settings (if t then record v { rx_turn = o } else record v { tx_turn = o }).settings
    go true = same_in b v.settings v.settings refl
    go false = same_in b v.settings v.settings refl

pub if_turn_stays : (b : Bool) (t : Bool) (ring : ℕ) (o : Option ℕ) (v : Vhost) → SameIn b v.settings (if t then with_turn ring o v else v).settings
if_turn_stays b true ring o v = with_turn_stays b ring o v
if_turn_stays b false ring o v = same_in b v.settings v.settings refl

-- a ring that is free for another actor isn't one whose turn is held
pub free_clash : (me i ring : ℕ) (b : Bool) (v : Vhost) → is_ring ring ≡ true → is_free_for me ring v ≡ true → turn_in b v ≡ Some i → i ≢ me → is_rx ring ≡ b → ⊥
free_clash me i ring b v there free held apart same =
    let turn : turn_of ring v ≡ Some i = ap (λ (x : Bool). turn_in x v) same ∙ held in
    let at_ : (not true || option_map_or (λ a. a == me) (Some i) true) ≡ true =
    subst (λ (o : Option ℕ). (not true || option_map_or (λ a. a == me) o true) ≡ true) turn
    (subst (λ (x : Bool). (not x || option_map_or (λ a. a == me) (turn_of ring v) true) ≡ true) there free) in
    ⊎_elim (λ t. apart t.1) (λ t. true≢false (sym at_ ∙ t.0)) (eqb_tells i me)

pub numbered : (ring : ℕ) → number_refusal ring ≡ None → is_ring ring ≡ true
numbered ring h = go (nat_le 2 ring) refl h
  where
    lesser : (b : Bool) → nat_lt ring 2 ≡ b → nat_le 2 ring ≡ false → b ≡ true
    lesser true is small = refl
    lesser false is small = let lt = leb-false 2 ring small in let ge = ltb-false ring 2 is in absurd (omega (arith, lt, ge))

    go : (b : Bool) → nat_le 2 ring ≡ b → (if b then Some ENOBUFS else None) ≡ None → nat_lt ring 2 ≡ true
    go true is q = absurd (cc (q))
    go false is q = lesser (nat_lt ring 2) refl is
