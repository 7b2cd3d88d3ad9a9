-- Acts leave each vhost where it is.
use Rattle.std.proofs.Common.{◌≡◌, ℕ, zero, suc, List, [], ◌∷◌, Option, Some, None, Bool, true, refl, sym, ap, ◌∙◌, subst, ⊎_elim}
use Rattle.std.specs.Prelude.{◌==◌, ◌&&◌, is_none, is_some, if◌then◌else◌}
use Rattle.std.specs.Option.{option_map_or}
use Rattle.std.proofs.lemmas.Bool.{cases_eq, eq-eqb}
use Rattle.tap_ledger.specs.declared.hand.Hand.{Hand}
use Rattle.scen_words.specs.declared.command.Command.{Command}
use Rattle.scen_words.specs.declared.command.Command.TheVariants as command
use Rattle.tap_trace.specs.declared.answer.Answer.{Answer}
use Rattle.tap_trace.specs.declared.answer.Answer.TheVariants as answer
use Rattle.tap_world.specs.ByNumber.{at, with_at}
use Rattle.tap_world.specs.Guests.{Vhost, is_ring, new_vhost, turn_of}
use Rattle.tap_world.specs.StepControl.{call_of, may_call}
use Rattle.tap_world.specs.StepTurns.{is_off, turn_on}
use Rattle.tap_legal.specs.Case.{Case}
use Rattle.tap_legal.specs.Lookups.{table_at}
use Rattle.tap_legal.specs.Replay.{back_made, back_wanted, vhost_named}
use Rattle.tap_legal.specs.Replays.{vhosts_on}
use Rattle.tap_sights.specs.Acts.{Act, Done, State, What, backed, backs, called_by, calls, does, done_as, found_off, last_state, on_bytes, turns}
use Rattle.tap_sights.specs.Acts.What.{Backed, Called, FoundOff, OnBytes, Turned}
use Rattle.tap_sound.proofs.Kit.{WhereSome, only_some, then_some, where_only, where_some}
use Rattle.tap_acts.specs.Replaying.{Follow}
use Rattle.tap_acts.proofs.TurnSteps.{its_own, turn_step_of, went_by}
use Rattle.tap_acts.proofs.Vhosts.{at_else, at_with}

with_there : {A : Type 0} (k : ℕ) (new old : A) (xs : List (Option A)) → at xs k ≡ Some old
    → (n : ℕ) → is_some (at (with_at k new xs) n) ≡ is_some (at xs n)
with_there k new old xs e n = ⊎_elim
    (λ here. subst (λ m. is_some (at (with_at k new xs) m) ≡ is_some (at xs m)) here
    (ap is_some (at_with k new old xs e) ∙ sym (ap is_some e)))
    (λ ne. ap is_some (at_else k new xs n ne))
    (cases_eq k n)

module _ (c : Case) (guest : ℕ) (st : State) where
  abbrev Keeps : Done → Type 0
  Keeps d = (n : ℕ) → is_some (at d.state.vhosts n) ≡ is_some (at st.vhosts n)

  calls_keep : (a : Act) (d : Done) → calls a st ≡ Some d → Keeps d
  calls_keep a d e =
      let vhost = then_some (vhost_named a.command) _ d e in
      let v = then_some (at st.vhosts vhost.0) _ d vhost.2 in
      let x = then_some (call_of a.command v.0 st.memory) _ d v.2 in
      let is = (only_some (may_call a.told.command a.command v.0) (called_by vhost.0 st x.0) d x.2).1 in
      λ n. sym (ap (λ (z : Done). is_some (at z.state.vhosts n)) is) ∙ with_there vhost.0 x.0.vhost v.0 st.vhosts v.1 n

  bytes_keep : (k : Command) → WhereSome Keeps (on_bytes guest k st)
  bytes_keep (command.Poke g addr bytes) = where_only Keeps (g == guest) _ (λ e n. refl)
  bytes_keep (command.Peek g addr len) = where_only Keeps (g == guest) _ (λ e n. refl)
  bytes_keep other = tt

  backed_keeps : (vhost ring : ℕ) (file : Option ℕ) (v : Vhost) → at st.vhosts vhost ≡ Some v → (o : Option Answer) → Keeps (backed vhost ring file v st o)
  backed_keeps vhost ring file v there (Some x) = λ n. refl
  backed_keeps vhost ring file v there None = with_there vhost (back_made ring file st.memory v) v st.vhosts there

  backs_keep : (version : ℕ) (k : Command) (d : Done) → backs c version k st ≡ Some d → Keeps d
  backs_keep version (command.Backend vhost ring file) d e =
      let v = then_some (at st.vhosts vhost) _ d e in
      let o = then_some (back_wanted vhost ring file v.0 st.memory (table_at c version)) _ d v.2 in
      let is = (only_some (is_ring ring && is_none (turn_of ring v.0)) (backed vhost ring file v.0 st o.0) d o.2).1 in
      subst Keeps is (backed_keeps vhost ring file v.0 v.1 o.0)
  backs_keep version other d e = absurd (cc (e))

  off_keeps : (k : Command) (d : Done) → found_off k st ≡ Some d → Keeps d
  off_keeps k d e =
      let t = then_some (turn_on k) _ d e in
      let v = then_some (at st.vhosts t.0.0) _ d t.2 in
      let told = then_some (is_off t.0.0 t.0.1 v.0) _ d v.2 in
      let is = (only_some (is_none (turn_of t.0.1 v.0)) (done_as st (Some told.0.1) (Some (answer.Turn 0 0 told.0.0 []))) d told.2).1 in
      λ n. sym (ap (λ (z : Done). is_some (at z.state.vhosts n)) is)

  turns_keep : (h : Hand) (a : Act) (d : Done) → turns h a st ≡ Some d → Keeps d
  turns_keep h a d e =
      let s = turn_step_of h a st d e in
      let its = its_own h a st d s in
      let w = went_by h s.u s.v st d s.step in
      λ n. ap (λ (z : State). is_some (at z.vhosts n)) w.state
      ∙ with_there s.u.vhost _ s.v st.vhosts (ap (at st.vhosts) its.vhost ∙ s.there) n

  act_keeps : (a : Act) (w : What) (d : Done) → does c guest a w st ≡ Some d → Keeps d
  act_keeps a Called d e = calls_keep a d e
  act_keeps a OnBytes d e = where_some Keeps (on_bytes guest a.command st) d (bytes_keep a.command) e
  act_keeps a (Backed version) d e = backs_keep version a.command d e
  act_keeps a FoundOff d e = off_keeps a.command d e
  act_keeps a (Turned h) d e = turns_keep h a d e

pub vhosts_stay : (c : Case) (guest : ℕ) (st : State) (ds : List (Act × Done)) → Follow c guest st ds
    → (n : ℕ) → is_some (at (last_state st ds).vhosts n) ≡ is_some (at st.vhosts n)
vhosts_stay c guest st [] follow n = refl
vhosts_stay c guest st (d ∷ ds) follow n =
    vhosts_stay c guest d.1.state ds follow.1 n
    ∙ act_keeps c guest st d.0 d.0.what d.1 follow.0 n

pub first_there : (guest : ℕ) (gs : List (Option ℕ)) (n : ℕ) → at gs n ≡ Some guest → is_some (at (vhosts_on guest gs) n) ≡ true
first_there guest [] n e = absurd (cc (e))
first_there guest (g ∷ gs) zero e =
    ap (λ (o : Option ℕ). is_some (option_map_or (λ x. if x == guest then Some (new_vhost x) else None) o None)) e
    ∙ ap (λ (b : Bool). is_some (if b then Some (new_vhost guest) else None)) (eq-eqb guest guest refl)
first_there guest (g ∷ gs) (suc n) e = first_there guest gs n e
