-- What each event of a `backend` says where it ends it.
use Rattle.std.proofs.Common.{◌≡◌, ℕ, suc, ◌+◌, List, [], ◌∷◌, ◌++◌, Bool, true, false, Option, Some, None, ⊎_elim, refl, sym, ap, ◌∙◌, subst, true≢false, arith}
use Rattle.std.specs.Prelude.{◌==◌, ◌&&◌, ◌||◌, if◌then◌else◌, is_none, not, slice_get}
use Rattle.std.proofs.lemmas.Bool.{eqb-true}
use Rattle.std.proofs.lemmas.Bool.Decides.{leb_tells}
use Rattle.std.proofs.lemmas.List.{append-nil}
use Rattle.tap_ground.specs.Options.{first_that_holds}
use Rattle.tap_ledger.specs.declared.error.TapErr.{TapErr}
use Rattle.tap_ledger.specs.declared.side.Side.{Side}
use Rattle.tap_ledger.specs.declared.side.Side.TheVariants.{Rx, Tx}
use Rattle.tap_steer.specs.declared.operation.Op.{Op}
use Rattle.tap_steer.specs.declared.operation.Op.TheVariants as op
use Rattle.tap_steer.specs.Rules.{backer}
use Rattle.tap_steer.specs.Select as steer
use Rattle.tap_steer.specs.Table.{file_at}
use Rattle.scen_words.specs.declared.command.Command.{Command}
use Rattle.scen_words.specs.declared.command.Command.TheVariants as command
use Rattle.tap_trace.specs.declared.answer.Answer.{Answer}
use Rattle.tap_trace.specs.declared.answer.Answer.TheVariants as answer
use Rattle.tap_trace.specs.declared.causes.VhostText.{VhostText}
use Rattle.vhost_dev.specs.declared.error.VhostErr.{VhostErr}
use Rattle.vhost_dev.specs.declared.error.VhostErr.TheVariants as err
use Rattle.vhost_dev.specs.Refusals.{is_astray, is_backed, is_no_ring, number_refusal, ready_refusal}
use Rattle.vhost_dev.specs.Settings.{hdr_of, ring_at}
use Rattle.tap_world.specs.declared.event.EventKind.{EventKind}
use Rattle.tap_world.specs.declared.event.EventKind.TheVariants as event
use Rattle.tap_world.specs.declared.told.Published.{Published}
use Rattle.tap_world.specs.ByNumber.{at}
use Rattle.tap_world.specs.Effect.{Effect}
use Rattle.tap_world.specs.Frames.{Front, size_in}
use Rattle.tap_world.specs.Guests.{Guest, Vhost, is_ring, turn_of, vhost_answer, vhost_text}
use Rattle.tap_world.specs.Setup.{Numbered, Setup}
use Rattle.tap_world.specs.Step.{row}
use Rattle.tap_world.specs.StepBackend as back
use Rattle.tap_world.specs.StepBackend.{side_of}
use Rattle.tap_world.specs.World.{Doing, World, newest, table, table_at}
use Rattle.tap_world.specs.World.Doing.{Backed, Backs, Begun, Disowned, Owns, Released, Unbacked}
use Rattle.tap_sound.proofs.Kit.{either, some_same, where_only, where_then}
use Rattle.tap_sound.proofs.Steps.{held, setting, unsetting}
use Rattle.tap_sound.proofs.Taken.{both}
use Rattle.tap_answers.specs.Laws.{is_backend}
use Rattle.tap_answers.specs.SaysBackends.{FindsVhost, IsUnset, SetSays, UnsetSays}
use Rattle.tap_answers.specs.SaysOperations.{IsPublished}
use Rattle.tap_answers.specs.SaysShared.{Occasion, as_its}
use Rattle.tap_answers.proofs.Kit.{at_front, mapped}
use Rattle.tap_answers.proofs.NextKinds.{at_kind}
use Rattle.tap_answers.proofs.OperationRows.{its_version}
use Rattle.tap_answers.proofs.Rows.{AllSay, GoesOn, HasPublished, Known, Leaves, RowSays, Says, actor_at, at_doing, sees_known, sees_next}

-- ---- refusals

-- the words of a refusal, where it is told
told_words : (e : VhostErr) (a : Answer) → back.refused_by (Some e) ≡ Some (Some a)
    → (x : VhostText) × (vhost_text e ≡ Some x) × (answer.Vhost x ≡ a)
told_words e a h =
    let t = mapped (λ (x : Answer). Some x) (vhost_answer e) (Some a) h in
    let q = mapped (λ (x : VhostText). answer.Vhost x) (vhost_text e) t.0 t.1 in
    (q.0, q.1, q.2 ∙ some_same t.0 a t.2)

-- a ring that isn't ready isn't refused for a header
no_header : (a b c : Bool) (want have : ℕ)
    → first_that_holds ((a, err.ENOBUFS) ∷ (b, err.EBUSY) ∷ (c, err.EFAULT) ∷ []) ≡ Some (err.EHDR want have) → ⊥
no_header true b c want have h = cc (h)
no_header false true c want have h = cc (h)
no_header false false true want have h = cc (h)
no_header false false false want have h = cc (h)

-- a ring that there isn't, or is
no_ring : (ring : ℕ) → is_no_ring ring ≡ true → is_ring ring ≡ false
no_ring ring is = ⊎_elim
    (λ t. ⊎_elim (λ q. let a = t.1 in let b = q.1 in absurd (omega (arith, a, b))) (λ q. q.0) (leb_tells (suc ring) 2))
    (λ t. absurd (true≢false (sym is ∙ t.0)))
    (leb_tells 2 ring)

a_ring : (ring : ℕ) → is_no_ring ring ≡ false → is_ring ring ≡ true
a_ring ring is = ⊎_elim (λ t. absurd (true≢false (sym t.0 ∙ is)))
    (λ t. ⊎_elim (λ q. q.0) (λ q. let a = t.1 in let b = q.1 in absurd (omega (arith, a, b)))
    (leb_tells (suc ring) 2))
    (leb_tells 2 ring)

module _ (s : Setup) (w u : World) (me low n : ℕ) (script : List Numbered) (vhost r : ℕ) where
  abbrev on : Doing → Occasion
  on d = at_doing w u me low n d

  abbrev finds : (d : Doing) (v : Vhost) (g : Guest) → at w.vhosts vhost ≡ Some v → at w.guests v.guest ≡ Some g → u.ops ≡ w.ops
      → FindsVhost (on d) vhost low
  finds d v g e1 e2 none = record { known = refl; none = none; v = v; is_vhost = e1; g = g; is_guest = e2 }

  -- ---- to set one

  module _ (file : ℕ) where
    abbrev c : Command
    c = command.Backend vhost r (Some file)

    -- an answer that the ring isn't ready
    unready : (x : Option TapErr) (f : FindsVhost (on (Backs x)) vhost low) (e : VhostErr)
        → ready_refusal r f.g.memory f.v.settings ≡ Some e → (t : VhostText) → vhost_text e ≡ Some t
        → SetSays s (on (Backs x)) vhost r file low (answer.Vhost t)
    unready x f err.EINVAL is t told =
        subst (λ (q : VhostText). SetSays s (on (Backs x)) vhost r file low (answer.Vhost q)) (some_same _ t told)
        (record { finds = f; reason = err.EINVAL; refused = is; told = refl })
    unready x f err.EBUSY is t told =
        subst (λ (q : VhostText). SetSays s (on (Backs x)) vhost r file low (answer.Vhost q)) (some_same _ t told)
        (record { finds = f; reason = err.EBUSY; refused = is; told = refl })
    unready x f err.EFAULT is t told =
        subst (λ (q : VhostText). SetSays s (on (Backs x)) vhost r file low (answer.Vhost q)) (some_same _ t told)
        (record { finds = f; reason = err.EFAULT; refused = is; told = refl })
    unready x f err.ENOBUFS is t told =
        subst (λ (q : VhostText). SetSays s (on (Backs x)) vhost r file low (answer.Vhost q)) (some_same _ t told)
        (record { finds = f; reason = err.ENOBUFS; refused = is; told = refl })
    unready x f err.ENOTSUP is t told =
        subst (λ (q : VhostText). SetSays s (on (Backs x)) vhost r file low (answer.Vhost q)) (some_same _ t told)
        (record { finds = f; reason = err.ENOTSUP; refused = is; told = refl })
    unready x f (err.EHDR want have) is t told = absurd (no_header (is_no_ring r) (is_backed (ring_at r f.v.settings))
        (is_astray (ring_at r f.v.settings).queue.layout f.g.memory) want have is)
    unready x f err.NoMemory is t told = absurd (cc (told))

    -- or that the header isn't of its size
    unfit : (f : FindsVhost (on (Backs None)) vhost low) → ready_refusal r f.g.memory f.v.settings ≡ None
        → back.back_refusal (table_at s w low) vhost r (Some file) ≡ None
        → (o : Option Front) → steer.shape_of (table s w) file ≡ o → (a : Answer)
        → back.refused_by (back.unfit_for o f.v.settings) ≡ Some (Some a)
        → SetSays s (on (Backs None)) vhost r file low a
    unfit f ready lawful None shape a told = absurd (never_told a told)
      where
        never_told : (b : Answer) → back.refused_by None ≡ Some (Some b) → ⊥
        never_told b h = cc (h)
    unfit f ready lawful (Some front) shape a told =
        go (front.0 || not (size_in front == hdr_of f.v.settings)) refl told
      where
        go : (b : Bool) → (front.0 || not (size_in front == hdr_of f.v.settings)) ≡ b
            → back.refused_by (first_that_holds ((b, err.EHDR (hdr_of f.v.settings) (size_in front)) ∷ [])) ≡ Some (Some a)
            → SetSays s (on (Backs None)) vhost r file low a
        go true is h = subst (λ (q : Answer). SetSays s (on (Backs None)) vhost r file low q)
            (some_same _ a (some_same _ (Some a) h)) (record {
              finds = f;
              ready = ready;
              lawful = lawful;
              front = front;
              shape = shape;
              refused = ap (λ (b : Bool).
                  first_that_holds ((b, err.EHDR (hdr_of f.v.settings) (size_in front)) ∷ [])) is;
            })
        go false is h = absurd (cc (h))

    -- by the three reasons in their order
    refused : (x : Option TapErr) (f : FindsVhost (on (Backs x)) vhost low)
        → back.back_refusal (table_at s w low) vhost r (Some file) ≡ x
        → (ready : Option VhostErr) → ready_refusal r f.g.memory f.v.settings ≡ ready → (a : Answer)
        → back.back_answer ready x (back.unfit_for (steer.shape_of (table s w) file) f.v.settings) ≡ Some (Some a)
        → SetSays s (on (Backs x)) vhost r file low a
    refused x f lawful (Some e) ready a told =
        let t = told_words e a told in
        subst (λ (q : Answer). SetSays s (on (Backs x)) vhost r file low q) t.2 (unready x f e ready t.0 t.1)
    refused (Some e) f lawful None ready a told =
        subst (λ (q : Answer). SetSays s (on (Backs (Some e))) vhost r file low q) (some_same _ a (some_same _ (Some a) told))
        (record { finds = f; ready = ready; refused = lawful })
    refused None f lawful None ready a told = unfit f ready lawful (steer.shape_of (table s w) file) refl a told

    sets : (x : Option TapErr) → Known s (on (Backs x)) c → (v : Vhost) (g : Guest) → at w.vhosts vhost ≡ Some v
        → at w.guests v.guest ≡ Some g → (a : Option Answer)
        → back.back_answer (ready_refusal r g.memory v.settings) x
        (back.unfit_for (steer.shape_of (table s w) file) v.settings) ≡ Some a
        → RowSays s (on (Backs x)) c (back.sets_back w me low vhost r file x v g.memory a)
    sets x k v g e1 e2 None told left = tt
    sets x k v g e1 e2 (Some a) told left = (
      refused x (finds (Backs x) v g e1 e2 (left.ops ∙ append-nil w.ops)) k.found
          (ready_refusal r g.memory v.settings) refl a told,
      sees_known s (on (Backs x)) c k _ left.ops,
    )

    setting_ : (x : Option TapErr) → Known s (on (Backs x)) c
        → AllSay s (on (Backs x)) c (back.backs s w me low (Backs x) c)
    setting_ x k = let P = RowSays s (on (Backs x)) c in
        where_then P (at w.vhosts vhost) _ (λ v e1. where_then P (at w.guests v.guest) _
        (λ g e2. setting P s w me low x vhost r file v g.memory (λ told e3. sets x k v g e1 e2 told e3)))

  -- ---- to unset one

  abbrev none : Command
  none = command.Backend vhost r None

  no_ring_told : (x : Option TapErr) (f : FindsVhost (on (Backs x)) vhost low) (b : Bool) → is_no_ring r ≡ b → (a : Answer)
      → back.refused_by (first_that_holds ((b, err.ENOBUFS) ∷ [])) ≡ Some (Some a)
      → UnsetSays s (on (Backs x)) vhost r low a
  no_ring_told x f true is a told = subst (λ (q : Answer). UnsetSays s (on (Backs x)) vhost r low q)
      (some_same _ a (some_same _ (Some a) told)) (record { finds = f; none = no_ring r is })
  no_ring_told x f false is a told = absurd (cc (told))

  ring_there : (b : Bool) → is_no_ring r ≡ b → back.refused_by (first_that_holds ((b, err.ENOBUFS) ∷ [])) ≡ Some None
      → is_ring r ≡ true
  ring_there true is told = absurd (cc (told))
  ring_there false is told = a_ring r is

  unsets_ : (x : Option TapErr) → Known s (on (Backs x)) none → (v : Vhost) (g : Guest) → at w.vhosts vhost ≡ Some v
      → at w.guests v.guest ≡ Some g → (a : Option Answer) → back.refused_by (number_refusal r) ≡ Some a
      → (file : Option ℕ) → (ring_at r v.settings).file ≡ file
      → RowSays s (on (Backs x)) none (back.unsets_back w me low vhost r v g.memory a file)
  unsets_ x k v g e1 e2 (Some a) told file has left = (
    no_ring_told x (finds (Backs x) v g e1 e2 (left.ops ∙ append-nil w.ops)) (is_no_ring r) refl a told,
    sees_known s (on (Backs x)) none k _ left.ops,
  )
  unsets_ x k v g e1 e2 None told None has left = (
    record {
      finds = finds (Backs x) v g e1 e2 (left.ops ∙ append-nil w.ops);
      there = ring_there (is_no_ring r) refl told;
      none = has;
    },
    sees_known s (on (Backs x)) none k _ left.ops,
  )
  unsets_ x k v g e1 e2 None told (Some file) has left = go (r == 0)
    where
      go : (b : Bool) → GoesOn (on (Backs x)) low (if b then Unbacked file else Released file)
      go true = tt
      go false = tt

  unsetting_ : (x : Option TapErr) → Known s (on (Backs x)) none
      → AllSay s (on (Backs x)) none (back.backs s w me low (Backs x) none)
  unsetting_ x k = let P = RowSays s (on (Backs x)) none in
      where_then P (at w.vhosts vhost) _ (λ v e1. where_then P (at w.guests v.guest) _
      (λ g e2. unsetting P s w me low x vhost r v g.memory (λ told e3.
      unsets_ x k v g e1 e2 told e3 (ring_at r v.settings).file refl)))

  -- ---- its version

  -- what it published before stands there after the event
  earlier : (d : Doing) (c : Command) (version : ℕ) (r : Effect) → Leaves r me n w u → (x : Op)
      → (h : HasPublished s (on d) c version) → h.op ≡ x → IsPublished (on d) x low version
  earlier d c version r left x h same = record {
    is_seen = sym h.seen;
    operation = record {
      index = h.index;
      is = h.is;
      published = ap (λ (l : List Published). slice_get l h.index) left.ops
          ∙ at_front w.ops _ h.index _ h.published
          ∙ ap (λ (y : Op). Some (as_its (on d) y)) same;
    };
  }

  side_rx : (r == 0) ≡ true → Rx ≡ side_of r
  side_rx is = sym (ap (λ (b : Bool). if b then Rx else Tx) is)

  side_tx : (r == 0) ≡ false → Tx ≡ side_of r
  side_tx is = sym (ap (λ (b : Bool). if b then Rx else Tx) is)

  back_published : (file : ℕ) → Known s (on (Backed file)) (command.Backend vhost r (Some file))
      → AllSay s (on (Backed file)) (command.Backend vhost r (Some file))
      (back.publishes_back w (Backed file) (command.Backend vhost r (Some file)))
  back_published file k = let c = command.Backend vhost r (Some file) in
      either (RowSays s (on (Backed file)) c) (r == 0) _ _
      (λ left. tt)
      (λ left. (
        record {
          there = (both _ _ k.can).1;
          published = its_version (on (Backed file)) (op.Back file (side_of r) (Some vhost)) left.ops;
        },
        sees_next s (on (Backed file)) c k _ left.ops,
      ))

  owned : (file version : ℕ) → Known s (on (Owns file version)) (command.Backend vhost r (Some file))
      → AllSay s (on (Owns file version)) (command.Backend vhost r (Some file))
      (back.owns w low (Owns file version) (command.Backend vhost r (Some file)))
  owned file version k left =
      let c = command.Backend vhost r (Some file) in
      let h = k.version version refl in (
        record {
          there = h.its.0;
          published = earlier (Owns file version) c version _ left (op.Back file (side_of r) (Some vhost)) h h.its.1;
        },
        sees_known s (on (Owns file version)) c k _ left.ops,
      )

  unset_told : (d : Doing) (file : ℕ) (side : Side) → Known s (on d) none → is_ring r ≡ true → side ≡ side_of r
      → backer side (file_at (table_at s w low) file) ≡ Some vhost
      → u.ops ≡ w.ops ++ as_its (on d) (op.Back file (side_of r) None) ∷ []
      → IsUnset s (on d) vhost r (newest w + 1) (newest w + 1)
  unset_told d file side k there same had left = record {
    there = there;
    file = file;
    had = subst (λ (q : Side). backer q (file_at (table_at s w low) file) ≡ Some vhost) same had;
    published = its_version (on d) (op.Back file (side_of r) None) left;
  }

  disowned : (file : ℕ) → Known s (on (Disowned file)) none
      → AllSay s (on (Disowned file)) none (back.publishes_back w (Disowned file) none)
  disowned file k left = let t = both (is_ring r) (r == 0) k.can in (
    unset_told (Disowned file) file Rx k t.0 (side_rx t.1) k.found left.ops,
    sees_next s (on (Disowned file)) none k _ left.ops,
  )

  released : (file : ℕ) → Known s (on (Released file)) none
      → AllSay s (on (Released file)) none (back.publishes_back w (Released file) none)
  released file k left = let t = both (is_ring r) (not (r == 0)) k.can in (
    unset_told (Released file) file Tx k t.0 (side_tx (denied (r == 0) t.1)) k.found left.ops,
    sees_next s (on (Released file)) none k _ left.ops,
  )
    where
      denied : (b : Bool) → not b ≡ true → b ≡ false
      denied true h = absurd (true≢false (sym h))
      denied false h = refl

  -- ---- as far as it has come

  abbrev At : Command → Doing → EventKind → Type 0
  At c d j = AllSay s (on d) c (row s w j me (actor_at low script d) n c)

  looked : (asked : Option ℕ) → At (command.Backend vhost r asked) Begun event.Look
  looked asked = let P = RowSays s (on Begun) (command.Backend vhost r asked) in
      where_then P (at w.vhosts vhost) _ (λ v e1. where_only P (is_none w.writer && (not (is_ring r) || is_none (turn_of r v)))
      (back.back_seen w me vhost r v (back.back_refusal (table s w) vhost r asked))
      (λ b. seen v (back.back_refusal (table s w) vhost r asked)))
    where
      seen : (v : Vhost) (o : Option TapErr)
          → RowSays s (on Begun) (command.Backend vhost r asked) (back.back_seen w me vhost r v o)
      seen v None left = tt
      seen v (Some e) left = tt

  set_says : (other : ℕ) (d : Doing) → Says s w u me low n script d (command.Backend vhost r (Some other))
  set_says other Begun k j next =
      at_kind (At (command.Backend vhost r (Some other)) Begun) j event.Look next (looked (Some other))
  set_says other (Backs x) k j next =
      at_kind (At (command.Backend vhost r (Some other)) (Backs x)) j event.Drive next (setting_ other x k)
  set_says other (Backed file) k j next = subst
      (λ (q : ℕ). Known s (on (Backed q)) (command.Backend vhost r (Some other))
      → At (command.Backend vhost r (Some other)) (Backed q) j) (eqb-true other file (both _ _ k.can).0)
      (λ h. at_kind (At (command.Backend vhost r (Some other)) (Backed other)) j event.Publish next
      (held (RowSays s (on (Backed other)) (command.Backend vhost r (Some other))) w me _ (back_published other h))) k
  set_says other (Owns file version) k j next = subst
      (λ (q : ℕ). Known s (on (Owns q version)) (command.Backend vhost r (Some other))
      → At (command.Backend vhost r (Some other)) (Owns q version) j)
      (eqb-true other file (both _ _ (both _ _ k.can).0).0)
      (λ h. at_kind (At (command.Backend vhost r (Some other)) (Owns other version)) j event.Owner next
      (held (RowSays s (on (Owns other version)) (command.Backend vhost r (Some other))) w me _ (owned other version h))) k
  set_says other d k j next = absurd (true≢false (sym k.can))

  unset_says : (d : Doing) → Says s w u me low n script d none
  unset_says Begun k j next = at_kind (At none Begun) j event.Look next (looked None)
  unset_says (Backs x) k j next = at_kind (At none (Backs x)) j event.Drive next (unsetting_ x k)
  unset_says (Unbacked file) k j next = at_kind (At none (Unbacked file)) j event.Owner next
      (held (RowSays s (on (Unbacked file)) none) w me (back.owns w low (Unbacked file) none) (λ left. tt))
  unset_says (Disowned file) k j next = at_kind (At none (Disowned file)) j event.Publish next
      (held (RowSays s (on (Disowned file)) none) w me (back.publishes_back w (Disowned file) none) (disowned file k))
  unset_says (Released file) k j next = at_kind (At none (Released file)) j event.Publish next
      (held (RowSays s (on (Released file)) none) w me (back.publishes_back w (Released file) none) (released file k))
  unset_says d k j next = absurd (true≢false (sym k.can))

-- each event of a `backend`
pub backends_by : (s : Setup) (w u : World) (me low n : ℕ) (script : List Numbered) (d : Doing) (c : Command)
    → is_backend c ≡ true → Says s w u me low n script d c
backends_by s w u me low n script d (command.Backend vhost ring (Some file)) is =
    set_says s w u me low n script vhost ring file d
backends_by s w u me low n script d (command.Backend vhost ring None) is =
    unset_says s w u me low n script vhost ring d
backends_by s w u me low n script d c is = absurd (true≢false (sym is))
