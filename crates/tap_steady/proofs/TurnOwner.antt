-- The worker of a receive turn owns the turn's file: that follows from the table.
use Rattle.std.proofs.Common.{◌≡◌, ℕ, ◌+◌, Bool, true, false, true≢false, Option, Some, None, ⊎_elim, refl, sym, ap, ◌∙◌, subst, arith}
use Rattle.std.specs.Prelude.{◌==◌, ◌&&◌, if◌then◌else◌, slice_get}
use Rattle.std.proofs.lemmas.Bool.Decides.{eqb_tells}
use Rattle.tap_ground.specs.Options.{only_if}
use Rattle.tap_ledger.specs.declared.side.Side.TheVariants.{Rx}
use Rattle.tap_steer.specs.Rules.{backer}
use Rattle.tap_steer.specs.Table.{Table, file_at}
use Rattle.vring_turns.specs.RxTurn.{RxTurn}
use Rattle.scen_words.specs.declared.command.Command.{Command}
use Rattle.scen_words.specs.declared.command.Command.TheVariants as command
use Rattle.tap_world.specs.ByNumber.{at}
use Rattle.tap_world.specs.Setup.{Numbered, Setup}
use Rattle.tap_world.specs.Line.{File}
use Rattle.tap_world.specs.Guests.{Vhost, is_ring, turn_of}
use Rattle.tap_world.specs.World.{Actor, Doing, World, current, table}
use Rattle.tap_world.specs.World.Doing.{Backed, Disowned, Opened, Owns, Receives, Released, Shrinks, Unbacked, Withdrawn}
use Rattle.tap_world.specs.Sound.{IsSound}
use Rattle.tap_world.specs.SoundActors.{is_of_rx, sets}
use Rattle.tap_world.specs.SoundRings.{holds_turn, ring_in}
use Rattle.tap_world.specs.SoundTable.{Agreed, IsAsFound, asked_by, backer_by, commanded, expected, of_table, writing}
use Rattle.tap_sound.proofs.Kit.{some_same}
use Rattle.tap_sound.proofs.Taken.{both}
use Rattle.tap_steady.proofs.TurnFacts.{Writes, writes}
use Rattle.tap_steady.proofs.TurnOthers.{holder}

module _ (t : Table) (file vhost : ℕ) (c : Option Command) where
  -- a backend that has set this ring, or makes this file's worker its owner, would serve the same ring
  abbrev Clash : Doing → Type 0
  Clash (Backed other) = (vh ring : ℕ) (asked : Option ℕ) → c ≡ Some (command.Backend vh ring asked) → (ring == 0) ≡ true → vh ≡ vhost → ⊥
  Clash (Owns other version) = other ≡ file → (file_at t file).rx ≡ Some vhost → ⊥
  Clash d = Unit {0}

  with_back : (other : ℕ) (o : Option Command) → c ≡ o → Clash (Backed other) → backer_by (Backed other) o Rx file (file_at t file).rx ≡ Some vhost
      → (file_at t file).rx ≡ Some vhost
  with_back other (Some (command.Backend vh ring asked)) is clash h = go (other == file) (ring == 0) refl h
    where
      go : (a b : Bool) → (ring == 0) ≡ b → (if a && b then Some vh else (file_at t file).rx) ≡ Some vhost → (file_at t file).rx ≡ Some vhost
      go true true on q = absurd (clash vh ring asked is on (some_same vh vhost q))
      go true false on q = q
      go false b on q = q
  with_back other o is clash h = h

  owner_by : (d : Doing) → Clash d → backer_by d c Rx file (backer Rx (file_at t file)) ≡ Some vhost → (expected d c file (of_table t file)).owner ≡ Some vhost
  owner_by (Backed other) clash h = with_back other c refl clash h
  owner_by (Owns other version) clash h = go (other == file) refl
    where
      go : (b : Bool) → (other == file) ≡ b → (if b then record (of_table t file) { owner = None } else of_table t file).owner ≡ Some vhost
      go true is = absurd (clash (⊎_elim (λ x. x.1) (λ x. absurd (true≢false (sym is ∙ x.0))) (eqb_tells other file)) h)
      go false is = h
  owner_by (Disowned other) clash h = go (other == file) h
    where
      go : (b : Bool) → (if b && true then None else (file_at t file).rx) ≡ Some vhost → (if b then record (of_table t file) { owner = None } else of_table t file).owner ≡ Some vhost
      go true q = absurd (cc (q))
      go false q = q
  owner_by (Unbacked other) clash h = go (other == file) h
    where
      go : (b : Bool) → (if b && true then None else (file_at t file).rx) ≡ Some vhost → (file_at t file).rx ≡ Some vhost
      go true q = absurd (cc (q))
      go false q = q
  owner_by (Released other) clash h = go (other == file) h
    where
      go : (b : Bool) → (if b && false then None else (file_at t file).rx) ≡ Some vhost → (file_at t file).rx ≡ Some vhost
      go true q = q
      go false q = q
  owner_by (Opened other) clash h = go (other == file)
    where
      go : (b : Bool) → (if b then record (of_table t file) { epoch = (of_table t file).epoch + 1; shut = false } else of_table t file).owner ≡ Some vhost
      go true = h
      go false = h
  owner_by (Withdrawn other version) clash h = go (other == file)
    where
      go : (b : Bool) → (if b then record (of_table t file) { shut = false } else of_table t file).owner ≡ Some vhost
      go true = h
      go false = h
  owner_by (Shrinks other places cuts) clash h = go (other == file)
    where
      go : (b : Bool) → (if b then record (of_table t file) { capacity = asked_by c; resizes = (of_table t file).resizes + 1 } else of_table t file).owner ≡ Some vhost
      go true = h
      go false = h
  owner_by d clash h = h

-- ---- in a sound world

-- a backend that has set its ring
abbrev holds_back : Doing → Bool
holds_back (Backed file) = true
holds_back (Owns file version) = true
holds_back d = false

rx_back : (c : Command) → is_of_rx c ≡ true → (vh ring : ℕ) × (asked : Option ℕ) × (c ≡ command.Backend vh ring asked) × ((ring == 0) ≡ true)
rx_back (command.Backend vh ring asked) h = (vh, ring, asked, refl, h)
rx_back c h = absurd (true≢false (sym h))

not_receiving : (d : Doing) (e : Doing) (file : ℕ) (t : RxTurn) → d ≡ e → d ≡ Receives file t → holds_back e ≡ true → ⊥
not_receiving d e file t a b h = true≢false (sym h ∙ ap holds_back (sym a ∙ b))

module _ (s : Setup) (w : World) (sound : IsSound s w) (i : ℕ) (a : Actor) (c : Numbered) (vhost file : ℕ) (t : RxTurn) (v : Vhost)
    (at_i : slice_get w.actors i ≡ Some a) (now : current a.script ≡ Some c) (turns : c.command ≡ command.RxTurn vhost) (doing : a.doing ≡ Receives file t)
    (at_v : at w.vhosts vhost ≡ Some v) where
  pub mine : turn_of 0 v ≡ Some i
  mine = holder w vhost 0 i v a c (sound.actors.turns vhost v at_v) (omega arith) at_i now (ap ring_in turns) (ap holds_turn doing)

  -- a backend at this ring would be at its own command
  clash : (d : Doing) (k : Writes w d) (vh ring : ℕ) (asked : Option ℕ) → k.c.command ≡ command.Backend vh ring asked → (ring == 0) ≡ true → vh ≡ vhost
      → holds_turn d ≡ true → holds_back d ≡ true → ⊥
  clash d k vh ring asked is zero_ same holds back_ =
      let ring0 : ring ≡ 0 = ⊎_elim (λ x. x.1) (λ x. absurd (true≢false (sym zero_ ∙ x.0))) (eqb_tells ring 0) in
      let in_ : ring_in k.c.command ≡ Some (vhost, 0) =
      ap ring_in is ∙ ap (λ (n : ℕ). only_if (is_ring n) (vh, n)) ring0 ∙ ap (λ (n : ℕ). Some (n, 0)) same in
      let its = holder w vhost 0 k.j v k.a k.c (sound.actors.turns vhost v at_v) (omega arith) k.found k.now in_ (ap holds_turn k.doing ∙ holds) in
      let one : i ≡ k.j = some_same i k.j (sym mine ∙ its) in
      let actor : a ≡ k.a = some_same a k.a (sym at_i ∙ ap (slice_get w.actors) one ∙ k.found) in
      not_receiving a.doing d file t (ap (λ (x : Actor). x.doing) actor ∙ k.doing) doing back_

  no_clash : (d : Doing) → writing w ≡ d → Clash (table s w) file vhost (commanded w) d
  no_clash (Backed other) is = λ vh ring asked of zero_ same.
      let k = writes w (Backed other) sound.actors.stand is refl in
      clash (Backed other) k vh ring asked (some_same k.c.command (command.Backend vh ring asked) (sym k.is ∙ of)) zero_ same refl refl
  no_clash (Owns other version) is = λ same rx.
      let k = writes w (Owns other version) sound.actors.stand is refl in
      let r = rx_back k.c.command (both (sets other k.c.command) (is_of_rx k.c.command) k.can).1 in
      let found : IsAsFound (Owns other version) (Some (command.Backend r.0 r.1 r.2)) (table s w) =
      subst (λ (o : Option Command). IsAsFound (Owns other version) o (table s w)) (k.is ∙ ap (λ (q : Command). Some q) r.3)
      (subst (λ (d : Doing). IsAsFound d (commanded w) (table s w)) is sound.tabled.found) in
      let vh : r.0 ≡ vhost = some_same r.0 vhost (sym found ∙ ap (λ (n : ℕ). (file_at (table s w) n).rx) same ∙ rx) in
      clash (Owns other version) k r.0 r.1 r.2 r.3 r.4 vh refl refl
  no_clash d is = tt

  pub owner_is : (f : File) → at w.files file ≡ Some f → v.settings.rx.file ≡ Some file → f.owner ≡ Some vhost
  owner_is f at_f backend =
      ap (λ (x : Agreed). x.owner) (sound.tabled.agrees file f at_f)
      ∙ owner_by (table s w) file vhost (commanded w) (writing w) (no_clash (writing w) refl) ((sound.tabled.backends vhost v at_v Rx file).0 backend)
