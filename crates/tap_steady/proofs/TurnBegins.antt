-- How a receive turn and its file stand before a step of it: as it begins, and under way.
use Rattle.std.proofs.Common.{◌≡◌, ◌⊎◌, ℕ, zero, suc, ◌<◌, List, [], ◌∷◌, map, Bool, true, false, true≢false, Option, Some, None, inl, inr, ⊎_elim, refl, sym, ap, ◌∙◌, subst, arith}
use Rattle.std.specs.Prelude.{◌==◌, ◌&&◌, ◌||◌, if◌then◌else◌, is_none, is_some, option_map, slice_get, IfSome, IsSome}
use Rattle.std.specs.List.{list_any}
use Rattle.std.specs.Option.{option_map_or}
use Rattle.std.proofs.lemmas.Bool.Decides.{eqb_tells}
use Rattle.tap_frame.specs.declared.name.Name.{Name}
use Rattle.tap_ledger.specs.declared.side.Side.TheVariants.{Rx}
use Rattle.tap_steer.specs.Rules.{backer}
use Rattle.tap_steer.specs.Table.{file_at}
use Rattle.vhost_dev.specs.Settings.{Settings, hdr_of}
use Rattle.vring_turns.specs.Ready.{ReceiveTurnsBeginReady, ReceiveTurnsStayReady, RxReady, TransmitTurnsBeginReady, TransmitTurnsStayReady}
use Rattle.vring_turns.specs.RxTurn.{RxTurn, rx_begun}
use Rattle.vring_turns.specs.Stage.{has_in_hand, need_at}
use Rattle.vring_turns.specs.Standing.{ReceiveTurnsBegin, RxStands}
use Rattle.scen_words.specs.declared.command.Command.{Command}
use Rattle.scen_words.specs.declared.command.Command.TheVariants as command
use Rattle.tap_world.specs.ByNumber.{at}
use Rattle.tap_world.specs.Setup.{Declared, Numbered, Setup}
use Rattle.tap_world.specs.Line.{File}
use Rattle.tap_world.specs.LineSteps.{is_in_hand_of}
use Rattle.tap_world.specs.Guests.{Vhost, is_free}
use Rattle.tap_world.specs.World.{Actor, Doing, World, current, table}
use Rattle.tap_world.specs.World.Doing.{Backed, Disowned, Given, Receives, Released, Teaches, Transmits, Unbacked}
use Rattle.tap_world.specs.StepTurns.{front_frame}
use Rattle.tap_world.specs.Sound.{IsSound, is_receiving, is_serving}
use Rattle.tap_world.specs.SoundRings.{StandsWith, TurnsAreHeld, holds_turn, is_about, ring_in, serves}
use Rattle.tap_world.specs.SoundTable.{backer_by, commanded, writing}
use Rattle.tap_world.specs.Steady.{IsReceiving, IsSteady, IsThere, file_in}
use Rattle.tap_sound.proofs.Kit.{some_same}
use Rattle.tap_sound.proofs.Taken.{both}
use Rattle.tap_sound.proofs.Turned.{is_at, itself}
use Rattle.tap_steady.proofs.TurnFacts.{writes}
use Rattle.tap_steady.proofs.TurnSteps.{Overruns}

-- the laws of turns
pub record TurnLaws : Type 0 where
  pub rx_stand : ReceiveTurnsBegin
  pub rx_begin : ReceiveTurnsBeginReady
  pub rx_stay : ReceiveTurnsStayReady
  pub tx_begin : TransmitTurnsBeginReady
  pub tx_stay : TransmitTurnsStayReady

-- before a step of a receive turn
pub record RxBefore (s : Setup) (files : List (Option File)) (vhost file : ℕ) (t : RxTurn) (v : Vhost) : Type 0 where
  pub f : File
  pub is_file : at files file ≡ Some f
  pub backend : v.settings.rx.file ≡ Some file
  pub mergeable : t.mergeable ≡ v.settings.mrg
  pub header : t.header ≡ hdr_of v.settings
  pub ready : RxReady t v.settings.rx.queue
  pub in_hand : is_in_hand_of vhost f ≡ has_in_hand t.stage
  pub front : has_in_hand t.stage ≡ true → front_frame s f ≡ t.held
  pub overruns : Overruns t.stage (need_at t.header t.held)
  pub stands : RxStands t v.settings.rx.queue

-- ---- who serves

pub about_it : (vhost ring : ℕ) (script : List Numbered) (c : Numbered) → current script ≡ Some c → ring_in c.command ≡ Some (vhost, ring)
    → is_about vhost ring (current script) ≡ true
about_it vhost ring script c now in_ =
    ap (is_about vhost ring) now ∙ ap (λ (o : Option (ℕ × ℕ)). option_map_or (λ (r : ℕ × ℕ). r.0 == vhost && r.1 == ring) o false) in_
    ∙ ap (λ (b : Bool). b && ring == ring) (itself vhost) ∙ itself ring

-- a ring whose turn is free has no command that holds it
none_holds : (w : World) (vhost : ℕ) (v : Vhost) (j : ℕ) (a : Actor) → TurnsAreHeld w vhost v → is_free 0 v ≡ true → slice_get w.actors j ≡ Some a
    → holds_turn a.doing ≡ true → is_about vhost 0 (current a.script) ≡ true → ⊥
none_holds w vhost v j a turns free at_ holds about =
    true≢false (sym (ap (λ (b : Bool). b && is_about vhost 0 (current a.script)) holds ∙ about)
    ∙ turns 0 j a (omega arith) at_ ∙ none_at v.rx_turn free)
  where
    none_at : (o : Option ℕ) → is_none o ≡ true → is_at j o ≡ false
    none_at None h = refl
    none_at (Some n) h = absurd (true≢false (sym h))

any_is : (test : Actor → Bool) (actors : List Actor) → list_any test actors ≡ true → (j : ℕ) × (a : Actor) × (slice_get actors j ≡ Some a) × (test a ≡ true)
any_is test [] e = absurd (true≢false (sym e))
any_is test (x ∷ xs) e = go (test x) refl e (any_is test xs)
  where
    go : (b : Bool) → test x ≡ b → (b || list_any test xs) ≡ true → (list_any test xs ≡ true → (j : ℕ) × (a : Actor) × (slice_get xs j ≡ Some a) × (test a ≡ true))
        → (j : ℕ) × (a : Actor) × (slice_get (x ∷ xs) j ≡ Some a) × (test a ≡ true)
    go true is h rest = (0, x, refl, is)
    go false is h rest = let r = rest h in (suc r.0, r.1, r.2, r.3)

receiving_holds : (file : ℕ) (n : Name) (d : Doing) → is_receiving file n d ≡ true → holds_turn d ≡ true
receiving_holds file n (Receives other t) h = refl
receiving_holds file n d h = absurd (true≢false (sym h))

-- ---- the file of a ring's backend

-- the table names the worker, or the writer's command has set it
there_by : (d : Doing) (c : Option Command) (file vhost : ℕ) (x : Option ℕ) → backer_by d c Rx file x ≡ Some vhost → (x ≡ Some vhost) ⊎ (d ≡ Backed file)
there_by (Backed other) (Some (command.Backend vh ring asked)) file vhost x h = go (other == file) refl (ring == 0) h
  where
    go : (a : Bool) → (other == file) ≡ a → (b : Bool) → (if a && b then Some vh else x) ≡ Some vhost → (x ≡ Some vhost) ⊎ (Backed other ≡ Backed file)
    go true is true q = inr (ap (λ (n : ℕ). Backed n) (⊎_elim (λ y. y.1) (λ y. absurd (true≢false (sym is ∙ y.0))) (eqb_tells other file)))
    go true is false q = inl q
    go false is b q = inl q
there_by (Disowned other) c file vhost x h = go (other == file) h
  where
    go : (b : Bool) → (if b && true then None else x) ≡ Some vhost → (x ≡ Some vhost) ⊎ (Disowned other ≡ Backed file)
    go true q = absurd (cc (q))
    go false q = inl q
there_by (Unbacked other) c file vhost x h = go (other == file) h
  where
    go : (b : Bool) → (if b && true then None else x) ≡ Some vhost → (x ≡ Some vhost) ⊎ (Unbacked other ≡ Backed file)
    go true q = absurd (cc (q))
    go false q = inl q
there_by (Released other) c file vhost x h = go (other == file) h
  where
    go : (b : Bool) → (if b && false then None else x) ≡ Some vhost → (x ≡ Some vhost) ⊎ (Released other ≡ Backed file)
    go true q = inl q
    go false q = inl q
there_by d c file vhost x h = inl h

at_map : {A B : Type 0} (g : A → B) (xs : List (Option A)) (n : ℕ) → at (map (λ (o : Option A). option_map g o) xs) n ≡ option_map g (at xs n)
at_map g [] n = refl
at_map g (x ∷ xs) zero = refl
at_map g (x ∷ xs) (suc n) = at_map g xs n

some_map : {A B : Type 0} (g : A → B) (o : Option A) → is_some (option_map g o) ≡ is_some o
some_map g None = refl
some_map g (Some x) = refl

file_there : (s : Setup) (w : World) (file : ℕ) → IsThere s w → IsSome (at s.files file) → (f : File) × (at w.files file ≡ Some f)
file_there s w file there is = found (at w.files file) refl
    (sym (some_map (λ (x : File). x.first) (at w.files file)) ∙ ap (λ (o : Option ℕ). is_some o)
    (sym (at_map (λ (x : File). x.first) w.files file) ∙ ap (λ (xs : List (Option ℕ)). at xs file) there.files ∙ at_map (λ (x : Declared). x.first) s.files file)
    ∙ some_map (λ (x : Declared). x.first) (at s.files file) ∙ is)
  where
    found : (o : Option File) → at w.files file ≡ o → is_some o ≡ true → (f : File) × (at w.files file ≡ Some f)
    found None e h = absurd (true≢false (sym h))
    found (Some f) e h = (f, e)

module _ (s : Setup) (w : World) (sound : IsSound s w) (steady : IsSteady s w) where
  backed_there : (vhost file : ℕ) (v : Vhost) → at w.vhosts vhost ≡ Some v → v.settings.rx.file ≡ Some file → (f : File) × (at w.files file ≡ Some f)
  backed_there vhost file v at_v backend = ⊎_elim
      (λ named. file_there s w file steady.there (steady.named.backed Rx file vhost named).0)
      (λ set. let k = writes w (Backed file) sound.actors.stand set refl in
      file_there s w file steady.there
      (subst (λ (d : Doing). IfSome (file_in d) (λ n. IsSome (at s.files n))) k.doing (steady.named.doing k.j k.a k.found)))
      (there_by (writing w) (commanded w) file vhost (backer Rx (file_at (table s w) file)) ((sound.tabled.backends vhost v at_v Rx file).0 backend))

  hand_free : (vhost file : ℕ) (v : Vhost) (f : File) → at w.vhosts vhost ≡ Some v → at w.files file ≡ Some f → is_free 0 v ≡ true → is_in_hand_of vhost f ≡ false
  hand_free vhost file v f at_v at_f free = go f.hand refl
    where
      served : f.hand ≡ Some vhost → ⊥
      served is =
          let h = sound.hand file f at_f vhost is in
          let k = any_is (is_serving vhost file h.1) w.actors h.3 in
          let b = both (is_receiving file h.1 k.1.doing) (is_about vhost 0 (current k.1.script)) k.3 in
          none_holds w vhost v k.0 k.1 (sound.actors.turns vhost v at_v) free k.2 (receiving_holds file h.1 k.1.doing b.0) b.1

      go : (o : Option ℕ) → f.hand ≡ o → option_map_or (λ n. n == vhost) o false ≡ false
      go None is = refl
      go (Some n) is = ⊎_elim (λ t. absurd (served (is ∙ ap (λ (k : ℕ). Some k) t.1))) (λ t. t.0) (eqb_tells n vhost)

  -- as it begins
  pub rx_begins : TurnLaws → (vhost file : ℕ) (v : Vhost) → at w.vhosts vhost ≡ Some v → v.settings.rx.file ≡ Some file → is_free 0 v ≡ true
      → RxBefore s w.files vhost file (rx_begun v.settings.mrg (hdr_of v.settings)) v
  rx_begins laws vhost file v at_v backend free =
      let f = backed_there vhost file v at_v backend in
      record {
        f = f.0;
        is_file = f.1;
        backend = backend;
        mergeable = refl;
        header = refl;
        ready = laws.rx_begin v.settings.mrg (hdr_of v.settings) v.settings.rx.queue;
        in_hand = hand_free vhost file v f.0 at_v f.1 free;
        front = λ h. absurd (true≢false (sym h));
        overruns = tt;
        stands = laws.rx_stand v.settings.mrg (hdr_of v.settings) v.settings.rx.queue (more v.settings)
            ((sound.rings.served vhost v at_v).idle 0 (omega arith)
            (λ j a at_ serving. none_holds w vhost v j a (sound.actors.turns vhost v at_v) free at_ (serves_holds a.doing serving.0) serving.1));
      }
    where
      more : (x : Settings) → 0 < hdr_of x
      more x = go (x.mrg || x.version_1)
        where
          go : (b : Bool) → 0 < (if b then 12 else 10)
          go true = omega arith
          go false = omega arith

      serves_holds : (d : Doing) → serves d ≡ true → holds_turn d ≡ true
      serves_holds (Receives n t) h = refl
      serves_holds (Transmits n t told) h = refl
      serves_holds (Given n t told x) h = refl
      serves_holds (Teaches n t told x) h = refl
      serves_holds d h = absurd (true≢false (sym h))

  -- under way
  pub rx_goes : (i : ℕ) (a : Actor) (c : Numbered) (vhost file : ℕ) (t : RxTurn) (v : Vhost) → slice_get w.actors i ≡ Some a → current a.script ≡ Some c
      → c.command ≡ command.RxTurn vhost → a.doing ≡ Receives file t → at w.vhosts vhost ≡ Some v → IsReceiving s w vhost file t → RxBefore s w.files vhost file t v
  rx_goes i a c vhost file t v at_i now turns doing at_v h =
      let same : h.v ≡ v = some_same h.v v (sym h.is_vhost ∙ at_v) in
      record {
        f = h.f;
        is_file = h.is_file;
        backend = ap (λ (x : Vhost). x.settings.rx.file) (sym same) ∙ h.backend;
        mergeable = h.mergeable ∙ ap (λ (x : Vhost). x.settings.mrg) same;
        header = h.header ∙ ap (λ (x : Vhost). hdr_of x.settings) same;
        ready = subst (λ (x : Vhost). RxReady t x.settings.rx.queue) same h.ready;
        in_hand = h.in_hand;
        front = h.front;
        overruns = h.overruns;
        stands = subst (λ (d : Doing). StandsWith d v) doing
            ((sound.rings.served vhost v at_v).stands 0 i a at_i (ap serves doing, about_it vhost 0 a.script c now (ap ring_in turns)));
      }
