-- This project's own: that each event of a run on a guest is one act.
use Rattle.std.specs.Prelude.{◌≡◌, ℕ, ◌<◌, ◌≤◌, true, ◌++◌, List, [], Some, None, Option, option_map, option_to_list}
use Rattle.guest_mem.specs.Memory.{Contents}
use Rattle.scen_words.specs.declared.command.Command.{Command}
use Rattle.scen_words.specs.Commands.{guest_of}
use Rattle.tap_trace.specs.declared.answer.Answer.{Answer}
use Rattle.guest_mem.specs.declared.region.Region.{Region}
use Rattle.scen_text.specs.declared.scenario.Scenario.{Scenario}
use Rattle.scen_laid.specs.Laid.{IsLaid}
use Rattle.tap_sound.specs.Worlds.{IsWorldOf}
use Rattle.tap_world.specs.declared.event.Event.{Event}
use Rattle.tap_world.specs.declared.event.Heard.{Heard}
use Rattle.tap_world.specs.ByNumber.{at}
use Rattle.tap_world.specs.Effect.{Effect}
use Rattle.tap_world.specs.Effect.OnGuests.{OnGuest}
use Rattle.tap_world.specs.Effect.OnVhosts.{NoVhost}
use Rattle.tap_world.specs.Effect.Onward.{Ends}
use Rattle.tap_world.specs.Guests.{Guest, Vhost, is_ring, turn_of}
use Rattle.tap_world.specs.Runs.{opening}
use Rattle.tap_world.specs.Setup.{Setup, setup_of}
use Rattle.tap_world.specs.StepControl.{Call, call_of, driven_vhost, may_call, pokes}
use Rattle.tap_legal.specs.Numbered.{Told}
use Rattle.tap_world.specs.Step.{step}
use Rattle.tap_world.specs.World.{World, newest, table_at}
use Rattle.tap_legal.specs.Case.{Case}
use Rattle.tap_sights.specs.Acts.{Act, Done, State, all_done, backed, called_by, does, done_as, last_state, step_in}
use Rattle.tap_sights.specs.Acts.What.{Backed, Called, FoundOff, OnBytes, Turned}
use Rattle.tap_sights.specs.GuestFacts.{printed}
use Rattle.tap_grows.specs.Leads.{Leads}
use Rattle.tap_acted.specs.Acted.{act_of, acts_on}
use Rattle.tap_acted.specs.Standing.{AreActs, IsCaseOf, StandsAs, held_by, turn_by}
use Rattle.tap_legal.specs.Replay.{Under, back_wanted}
use Rattle.scen_words.specs.declared.command.Command.TheVariants as command
use Rattle.tap_legal.specs.ReplayTurns.{turn_begun}
use Rattle.tap_ledger.specs.declared.hand.Hand.{Hand}
use Rattle.tap_trace.specs.declared.answer.Answer.TheVariants as answer
use Rattle.tap_trace.specs.declared.kind.Kind.{Kind}
use Rattle.tap_trace.specs.declared.turn.TurnText.{TurnText}
use Rattle.tap_world.specs.StepTurns.{is_off, turn_on}

-- What is done leads a guest from a world to another, after acts before which it stands as in the first.
pub record LeadsOn (c : Case) (u : World) (guest : ℕ) (g : Guest) (st : State) (acts : List Act) : Type 0 where
  pub done : List (Act × Done)
  pub folds : all_done c guest acts st ≡ Some done
  pub now : Guest
  pub is_now : at u.guests guest ≡ Some now
  pub stands : StandsAs u guest now (last_state st done)
  pub steps : now.steps ≡ g.steps ++ printed done

-- What each event is shown to be: one act on a guest, or none.
abbrev pub EventsAreActs : Type 0
EventsAreActs =
    (s : Scenario) (w : World) (e : Event) (u : World × Heard) → IsLaid s → IsWorldOf s w
    → step (setup_of s) w e ≡ Some u
    → (c : Case) → IsCaseOf c (setup_of s) w → (guest : ℕ) (g : Guest) (st : State) → at w.guests guest ≡ Some g
    → StandsAs w guest g st → LeadsOn c u.0 guest g st (option_to_list (act_of (setup_of s) w e guest))

-- A run of a laid scenario has made the acts that are told along it, in each world that it reaches.
abbrev pub ActsAreMade : Type 0
ActsAreMade =
    (s : Scenario) (w : World) → IsLaid s → (lead : Leads s (opening (setup_of s)) w) (c : Case)
    → IsCaseOf c (setup_of s) w → (guest : ℕ) (regions : List Region) → at (setup_of s).guests guest ≡ Some regions
    → AreActs c w guest regions (acts_on s guest (opening (setup_of s)) w lead)

-- Where each event is so, runs are.
abbrev pub RunsAreActs : Type 0
RunsAreActs = EventsAreActs → ActsAreMade

-- ---- single acts

-- An act that touches no vhost does on its guest what the row of its event does: it has the same memory, step and answer.
pub record DoesAs (c : Case) (guest : ℕ) (a : Act) (st : State) (r : Effect) : Type 0 where
  pub done : Done
  pub does : does c guest a a.what st ≡ Some done
  pub guests : r.guests ≡ OnGuest guest done.state.memory done.step
  pub no_vhost : r.vhosts ≡ NoVhost
  pub vhosts : done.state.vhosts ≡ st.vhosts
  pub under : done.state.under ≡ st.under
  pub seen : ℕ
  pub said : Answer
  pub ends : r.onward ≡ Ends seen said
  pub answer : done.answer ≡ Some said

-- A poke or a peek is one act.
abbrev pub BytesAreActs : Type 0
BytesAreActs =
    (c : Case) (w : World) (guest : ℕ) (g : Guest) (st : State) (t : Told) (k : Command) (seen : ℕ) (r : Effect)
    → at w.guests guest ≡ Some g → st.memory ≡ g.memory → guest_of k ≡ Some guest → pokes w seen k ≡ Some r
    → DoesAs c guest (record { told = t; command = k; what = OnBytes }) st r

-- A call on a vhost or a driver doesn't look at who holds the turns of rings, and leaves them.
abbrev pub held_call : Option ℕ → Option ℕ → Call → Call
held_call rx tx x = record x { vhost = held_by rx tx x.vhost }

abbrev pub CallsAreAlike : Type 0
CallsAreAlike =
    (k : Command) (v : Vhost) (m : Contents) (rx tx : Option ℕ)
    → call_of k (held_by rx tx v) m ≡ option_map (held_call rx tx) (call_of k v m)

-- What a call makes of a vhost in a world is one act: who holds the vhost's turns after acts doesn't stand in its way, and
-- is left. The actor that calls holds no turn of the vhost's rings.
abbrev pub CallsAreActs : Type 0
CallsAreActs =
    (c : Case) (w : World) (guest : ℕ) (g : Guest) (st : State) (t : Told) (k : Command) (vhost : ℕ) (v : Vhost) (x : Call)
    → StandsAs w guest g st → at w.vhosts vhost ≡ Some v → v.guest ≡ guest → driven_vhost k ≡ Some vhost
    → call_of k v g.memory ≡ Some x → may_call t.actor k v ≡ true
    → ((ring : ℕ) → ring < 2 → turn_of ring v ≡ Some t.actor → ⊥)
    → (y : Vhost) × (at st.vhosts vhost ≡ Some y) × (y ≡ held_by y.rx_turn y.tx_turn v)
    × (does c guest (record { told = t; command = k; what = Called }) Called st
    ≡ Some (called_by vhost st (held_call y.rx_turn y.tx_turn x)))

-- ---- turns

-- A turn that finds its ring without a backend or stopped, and free, is one act.
abbrev pub FoundOffIsAnAct : Type 0
FoundOffIsAnAct =
    (c : Case) (w : World) (guest : ℕ) (g : Guest) (st : State) (t : Told) (k : Command) (vhost ring : ℕ) (v : Vhost)
    (told : TurnText × Kind) → StandsAs w guest g st → at w.vhosts vhost ≡ Some v → v.guest ≡ guest
    → turn_on k ≡ Some (vhost, ring) → ring < 2 → is_off vhost ring v ≡ Some told → turn_of ring v ≡ None
    → does c guest (record { told = t; command = k; what = FoundOff }) FoundOff st
    ≡ Some (done_as st (Some told.1) (Some (answer.Turn 0 0 told.0 [])))

-- A later event of a turn is a step of the turn that is under way after acts: that of the actor which holds the ring.
abbrev pub TurnsGoOn : Type 0
TurnsGoOn =
    (c : Case) (w : World) (guest : ℕ) (g : Guest) (st : State) (t : Told) (k : Command) (h : Hand) (vhost ring : ℕ)
    (v : Vhost) (u : Under) → StandsAs w guest g st → at w.vhosts vhost ≡ Some v → v.guest ≡ guest
    → turn_on k ≡ Some (vhost, ring) → ring < 2 → turn_by w.actors vhost (turn_of ring v) ≡ Some u
    → u.command ≡ t.command
    → (y : Vhost) × (at st.vhosts vhost ≡ Some y) × (y ≡ held_by y.rx_turn y.tx_turn v)
    × (does c guest (record { told = t; command = k; what = Turned h }) (Turned h) st ≡ step_in h u u.turning y st)

-- the turn of a command as it begins on a ring
abbrev pub first_turn : Told → ℕ → ℕ → Vhost → Under
first_turn t vhost ring y =
    record { vhost = vhost; command = t.command; turning = turn_begun ring t.command t.actor y }

-- A turn's first event on a ring that is free, has a backend and isn't stopped is the first step of a turn.
abbrev pub TurnsBegin : Type 0
TurnsBegin =
    (c : Case) (w : World) (guest : ℕ) (g : Guest) (st : State) (t : Told) (k : Command) (h : Hand) (vhost ring : ℕ)
    (v : Vhost) → StandsAs w guest g st → at w.vhosts vhost ≡ Some v → v.guest ≡ guest
    → turn_on k ≡ Some (vhost, ring) → ring < 2 → is_off vhost ring v ≡ None → turn_of ring v ≡ None
    → (y : Vhost) × (at st.vhosts vhost ≡ Some y) × (y ≡ held_by y.rx_turn y.tx_turn v)
    × (does c guest (record { told = t; command = k; what = Turned h }) (Turned h) st
    ≡ step_in h (first_turn t vhost ring y) (turn_begun ring t.command t.actor y) y st)

-- ---- backends

-- Where a backend's command comes to its ring, that is one act, judged by the table of a version so far: nobody has a turn
-- under way on the ring.
abbrev pub BacksAreActs : Type 0
BacksAreActs =
    (c : Case) (s : Setup) (w : World) (guest : ℕ) (g : Guest) (st : State) (t : Told) (vhost ring : ℕ) (file : Option ℕ)
    (v : Vhost) (seen : ℕ) (wanted : Option Answer) → IsCaseOf c s w → seen ≤ newest w → StandsAs w guest g st
    → at w.vhosts vhost ≡ Some v → v.guest ≡ guest → is_ring ring ≡ true
    → turn_by w.actors vhost (turn_of ring v) ≡ None
    → back_wanted vhost ring file v g.memory (table_at s w seen) ≡ Some wanted
    → (y : Vhost) × (at st.vhosts vhost ≡ Some y) × (y ≡ held_by y.rx_turn y.tx_turn v)
    × (does c guest (record { told = t; command = command.Backend vhost ring file; what = Backed seen }) (Backed seen) st
    ≡ Some (backed vhost ring file y st wanted))
