-- This project's own: what commands name, what the table has attached and backed, and what commands under way are about
-- stays declared.
use Rattle.std.proofs.Common.{◌≡◌, ◌⊎◌, ℕ, zero, suc, List, [], ◌∷◌, map, true, Option, Some, None, inl, inr, ⊎_elim, refl, sym, ap, ◌∙◌, subst}
use Rattle.std.specs.Prelude.{IsSome, drop, slice_get, slice_index_or}
use Rattle.std.specs.List.{AllByRecursion}
use Rattle.std.specs.Option.{option_map_or}
use Rattle.tap_ledger.specs.declared.side.Side.{Side}
use Rattle.tap_ledger.specs.declared.side.Side.TheVariants.{Rx, Tx}
use Rattle.tap_steer.specs.declared.files.File.{File}
use Rattle.tap_steer.specs.After.{after_all}
use Rattle.tap_steer.specs.Laws.{RowsAreEnabled}
use Rattle.tap_steer.specs.Rules.{backer}
use Rattle.tap_steer.specs.Sound as steer
use Rattle.tap_steer.specs.Table.{Table, device_of, file_at, first, home, new_file}
use Rattle.scen_text.specs.declared.scenario.Phase.{Phase}
use Rattle.scen_text.specs.declared.scenario.Scenario.{Scenario}
use Rattle.scen_laid.specs.Laid.{IsLaid}
use Rattle.tap_world.specs.declared.event.Event.{Event}
use Rattle.tap_world.specs.ByNumber.{at}
use Rattle.tap_world.specs.Setup.{NamesDeclared, Numbered, Setup, script_in, setup_of}
use Rattle.tap_world.specs.World.{Actor, Doing, World, current, newest, table}
use Rattle.tap_world.specs.World.Doing.{Purges}
use Rattle.tap_world.specs.Effect.{Onward, actor_after}
use Rattle.tap_world.specs.Effect.Onward.{Ends, Goes, Stays}
use Rattle.tap_world.specs.Runs.{begins, opening}
use Rattle.tap_world.specs.Sound.{HaveActors, IsSound}
use Rattle.tap_world.specs.SoundActors.{CanBe, can_be, is_begun}
use Rattle.tap_world.specs.Steady.{NamesWhatIsThere, file_in}
use Rattle.tap_sound.proofs.Taken.{IsStep, step_is, when_settled}
use Rattle.tap_steady.specs.Part.{IsPart}
use Rattle.tap_steady.specs.Tables.{TablesAreSound}
use Rattle.tap_steady.proofs.Kit.{all_at, all_on, phases_are}
use Rattle.tap_steady.proofs.LawfulKit.{table_between}
use Rattle.tap_steady.proofs.NamedActors.{acted_after, each_after, new_actor}
use Rattle.tap_steady.proofs.NamedFiles.{IsDeclared, back_named, declared_in, goes_declared, named_file, named_vhost, none_some, op_named}
use Rattle.tap_steady.proofs.NamedTable.{attached_before, backed_before}
use Rattle.tap_steady.proofs.Ops.{told_here}
use Rattle.tap_steady.proofs.NamedSound.{IsGoodCommand, script_good}
use Rattle.tap_steady.proofs.OpsTold.{FoundOn, IsOne, ToldOn}

-- ---- commands

all_drop : {A : Type 0} (P : A → Type 0) (xs : List A) → AllByRecursion P xs → AllByRecursion P (drop 1 xs)
all_drop P [] h = tt
all_drop P (x ∷ xs) h = h.1

abbrev pub AllDeclared : Setup → List Numbered → Type 0
AllDeclared s cs = AllByRecursion (λ (c : Numbered). NamesDeclared s c.command) cs

script_after : (s : Setup) (o : Onward) (a : Actor) → AllDeclared s a.script → AllDeclared s (actor_after o a).script
script_after s (Goes v e f) a h = h
script_after s (Ends v y) a h = all_drop (λ (c : Numbered). NamesDeclared s c.command) a.script h
script_after s (Stays f) a h = h

-- the commands of a phase's scripts
script_declared : (s : Scenario) (ended actor : ℕ) (p : Phase) → IsLaid s → slice_get s.phases ended ≡ Some p
    → AllDeclared (setup_of s) (script_in p actor)
script_declared s ended actor p laid is =
    all_on (λ (c : Numbered). IsGoodCommand (setup_of s) c.command)
    (λ (c : Numbered). NamesDeclared (setup_of s) c.command) (λ c g. g.names) (script_in p actor)
    (script_good s ended actor p laid (ap (λ (ps : List Phase). slice_get ps ended) (phases_are s) ∙ is))

-- ---- the first table

new_at : (caps : List ℕ) (n : ℕ) → (k : ℕ) × (slice_index_or (map new_file caps) n (new_file 0) ≡ new_file k)
new_at [] n = (0, refl)
new_at (c ∷ cs) zero = (c, refl)
new_at (c ∷ cs) (suc n) = new_at cs n

first_at : (programs : List (List ℕ)) (caps : List ℕ) (flows : List (ℕ × ℕ)) (n : ℕ)
    → (k : ℕ) × (file_at (first programs caps flows) n ≡ new_file k)
unfolding first
first_at programs caps flows n = new_at caps n

new_backer : (side : Side) (k : ℕ) → backer side (new_file k) ≡ None
new_backer Rx k = refl
new_backer Tx k = refl

at_first : (s : Setup) → NamesWhatIsThere s (opening s)
at_first s = record {
  commands = λ i a at_. absurd (cc (at_));
  attached = λ file device e.
      let k = first_at _ _ _ file in
      none_some device (sym (ap (λ (f : File). home f.attachment) k.1) ∙ e);
  backed = λ side file vhost e.
      let k = first_at _ _ _ file in
      none_some vhost (sym (new_backer side k.0) ∙ sym (ap (backer side) k.1) ∙ e);
  doing = λ i a at_. absurd (cc (at_));
}

at_begin : (s : Scenario) (ended : ℕ) (p : Phase) (w : World) → IsLaid s → slice_get s.phases ended ≡ Some p
    → NamesWhatIsThere (setup_of s) w
    → NamesWhatIsThere (setup_of s) (begins ended p w)
at_begin s ended p w laid is h = record {
  commands = λ i a at_. subst (λ (q : Actor). AllDeclared (setup_of s) q.script)
      (new_actor p (newest w) 0 p.actors i a at_)
      (script_declared s ended _ p laid is);
  attached = h.attached;
  backed = h.backed;
  doing = λ i a at_. subst (λ (q : Actor). IsDeclared (setup_of s) q.doing)
      (new_actor p (newest w) 0 p.actors i a at_) tt;
}

-- ---- an event

module _ (s : Setup) (w : World) (x : Event) (u : World) (t : IsStep s w x u) where
  pub table_after : table s u ≡ after_all (table s w) t.effect.ops
  table_after =
      let P : World → Type 0 = λ q. table s q ≡ after_all (table s w) t.effect.ops in
      subst P t.is (when_settled P t.between (table_between s w x u t) (λ f end. table_between s w x u t))

  its_names : NamesWhatIsThere s w → NamesDeclared s t.now.command
  its_names names = all_at (λ (c : Numbered). NamesDeclared s c.command) t.actor.script 0 t.now
      (names.commands x.actor t.actor t.found) t.current_is

  -- how far the command has come can be
  can_after : (o : Onward) → t.effect.onward ≡ o → (v : ℕ) (e : Doing) → (actor_after o t.actor).doing ≡ e
      → (actor_after o t.actor).script ≡ t.actor.script
      → CanBe (actor_after t.effect.onward t.actor) → can_be e t.now.command ≡ true
  can_after o is v e doing script can =
      let known : CanBe (actor_after o t.actor) = subst (λ (q : Onward). CanBe (actor_after q t.actor)) is can in
      let there : option_map_or (λ (c : Numbered). can_be e c.command) (current t.actor.script) (is_begun e) ≡ true =
      subst (λ (q : List Numbered). option_map_or (λ (c : Numbered). can_be e c.command) (current q)
      (is_begun e) ≡ true) script
      (subst (λ (d : Doing). option_map_or (λ (c : Numbered). can_be d c.command)
      (current (actor_after o t.actor).script) (is_begun d) ≡ true) doing known) in
      sym (ap (λ (q : Option Numbered). option_map_or (λ (c : Numbered). can_be e c.command) q
      (is_begun e)) t.current_is) ∙ there

  doing_declared : RowsAreEnabled → steer.IsSound (table s w) → IsSound s w → HaveActors u → NamesWhatIsThere s w
      → IsDeclared s (actor_after t.effect.onward t.actor).doing
  doing_declared rows tabled sound stood names = go t.effect.onward refl (told_here s w x u t sound.actors.stand).onward
    where
      was : IsDeclared s t.actor.doing
      was = names.doing x.actor t.actor t.found

      go : (o : Onward) → t.effect.onward ≡ o → ToldOn s w t.actor.seen t.actor.doing t.now.command t.effect o
          → IsDeclared s (actor_after o t.actor).doing
      go (Ends v y) is told = tt
      go (Stays f) is told = was
      go (Goes v e f) is told = ⊎_elim
          (λ here. goes_declared s w t.actor.seen v t.actor.doing e t.now.command rows tabled names
          sound.tabled.backends (its_names names) was
          (can_after (Goes v e f) is v e refl refl
          (stood.stand x.actor (actor_after t.effect.onward t.actor) here)) told.1)
          (λ purge.
          let doing : e ≡ Purges purge.0 purge.1 = sym (ap (λ (q : Onward). (actor_after q t.actor).doing) is)
          ∙ purge.2 in
          subst (IsDeclared s) (sym doing)
          (declared_in s t.actor.doing purge.0 was
          (ap file_in (subst (λ
          (q : Doing). FoundOn s w t.actor.seen t.actor.doing t.now.command v q) doing told.1).1)))
          (acted_after s w x u t)

  attached_after : NamesWhatIsThere s w → HaveActors w → (file device : ℕ) → device_of (table s u) file ≡ Some device
      → IsSome (at s.files file)
  attached_after names h file device e = go (told_here s w x u t h.stand).ops
    where
      go : (t.effect.ops ≡ []) ⊎ IsOne s w t.actor.doing t.now.command t.effect → IsSome (at s.files file)
      go (inl none) = names.attached file device
          (subst (λ (q : Table). device_of q file ≡ Some device) (table_after ∙ ap (after_all (table s w)) none) e)
      go (inr one) = ⊎_elim
          (λ before. names.attached file device before)
          (λ its. named_file s t.now.command file (its_names names) (op_named s t.now.command one.x file one.op its))
          (attached_before (table s w) one.x file device
          (subst (λ (q : Table). device_of q file ≡ Some device) (table_after ∙ ap (after_all (table s w)) one.is) e))

  backed_after : NamesWhatIsThere s w → HaveActors w → (side : Side) (file vhost : ℕ)
      → backer side (file_at (table s u) file) ≡ Some vhost
      → IsSome (at s.files file) × IsSome (at s.vhosts vhost)
  backed_after names h side file vhost e = go (told_here s w x u t h.stand).ops
    where
      go : (t.effect.ops ≡ []) ⊎ IsOne s w t.actor.doing t.now.command t.effect → IsSome (at s.files file)
          × IsSome (at s.vhosts vhost)
      go (inl none) = names.backed side file vhost
          (subst (λ (q : Table). backer side (file_at q file) ≡ Some vhost)
          (table_after ∙ ap (after_all (table s w)) none) e)
      go (inr one) = ⊎_elim
          (λ before. names.backed side file vhost before)
          (λ its.
          let n = back_named s t.now.command one.x file vhost side one.op its in (
            named_file s t.now.command file (its_names names) n.0,
            named_vhost s t.now.command vhost
                (its_names names) n.1,
          ))
          (backed_before (table s w) one.x side file vhost
          (subst (λ (q : Table). backer side (file_at q file) ≡ Some vhost)
          (table_after ∙ ap (after_all (table s w)) one.is) e))

  named_after : RowsAreEnabled → steer.IsSound (table s w) → IsSound s w → HaveActors u → NamesWhatIsThere s w
      → NamesWhatIsThere s u
  named_after rows tabled sound stood names = record {
    commands = each_after s w x u t (λ i a. AllDeclared s a.script)
        (λ i a other at_. names.commands i a at_)
        (script_after s t.effect.onward t.actor (names.commands x.actor t.actor t.found))
        (λ i a h. all_drop (λ (c : Numbered). NamesDeclared s c.command) a.script h);
    attached = attached_after names sound.actors;
    backed = backed_after names sound.actors;
    doing = each_after s w x u t (λ i a. IsDeclared s a.doing)
        (λ i a other at_. names.doing i a at_)
        (doing_declared rows tabled sound stood names)
        (λ i a h. tt);
  }

pub what_is_named_is_there : RowsAreEnabled → TablesAreSound → IsPart (λ s w. NamesWhatIsThere s w)
what_is_named_is_there rows tables = record {
  first = λ s laid. at_first (setup_of s);
  begin = λ s ended p w laid between is sound steady. at_begin s ended p w laid is steady.named;
  event = λ s w e u laid of_ is sound steady after_.
      named_after (setup_of s) w e u.0 (step_is (setup_of s) w e u is) rows
      (tables s w laid steady.ops) sound.sound after_.sound.actors steady.named;
}
