-- What an act on a guest may print, and on which of its vhosts it is.
use Rattle.std.proofs.Common.{◌≡◌, ℕ, Option, Some, None, Bool, true, false, refl, sym, ap, ◌∙◌, subst, true≢false}
use Rattle.std.specs.Prelude.{◌==◌, ◌&&◌, find, is_none, is_some}
use Rattle.std.proofs.lemmas.Bool.{and_parts, eqb-true}
use Rattle.tap_ledger.specs.declared.act.Act.{Act as Told}
use Rattle.tap_ledger.specs.declared.act.Act.TheVariants as act
use Rattle.tap_ledger.specs.declared.hand.Hand.{Hand}
use Rattle.vhost_dev.specs.Settings.{ring_at}
use Rattle.vring_turns.specs.declared.end.End.{End}
use Rattle.vring_turns.specs.declared.end.End.TheVariants as end
use Rattle.vring_turns.specs.RxTurn.{rx_step}
use Rattle.vring_turns.specs.Stage.{first_answer}
use Rattle.vring_turns.specs.TxTurn.{tx_step}
use Rattle.scen_words.specs.declared.command.Command.{Command}
use Rattle.scen_words.specs.declared.command.Command.TheVariants as command
use Rattle.tap_trace.specs.declared.answer.Answer.{Answer}
use Rattle.tap_trace.specs.declared.kind.Kind.{Kind}
use Rattle.tap_trace.specs.declared.kind.Kind.TheVariants as kind
use Rattle.tap_trace.specs.declared.turn.TurnText.{TurnText}
use Rattle.tap_world.specs.ByNumber.{at}
use Rattle.tap_world.specs.Guests.{Vhost, is_ring, turn_of}
use Rattle.tap_world.specs.StepControl.{call_of, may_call}
use Rattle.tap_world.specs.StepTransmits.{tx_state}
use Rattle.tap_world.specs.StepTurns.{is_off, kind_of, rx_state, step_at_once, turn_on}
use Rattle.tap_legal.specs.Case.{Case}
use Rattle.tap_legal.specs.Lookups.{table_at}
use Rattle.tap_legal.specs.Replay.{Turning, Under, back_wanted, vhost_named}
use Rattle.tap_legal.specs.Replay.Turning.{Receiving, Sending}
use Rattle.tap_legal.specs.ReplayTurns.{is_under_on}
use Rattle.tap_legal.specs.Served.{is_set_on}
use Rattle.tap_sights.specs.Acts.{Act, Done, State, What, backed, backs, calls, does, found_off, on_bytes, step_in, turns, under_by}
use Rattle.tap_sights.specs.Acts.What.{Backed, Called, FoundOff, OnBytes, Turned}
use Rattle.tap_sights.proofs.CallSteps.{bound, call_is, sets}
use Rattle.tap_sights.proofs.Kit.{some_same}
use Rattle.tap_sights.proofs.Taken.{only_some}

-- ---- steps that set no backend

pub sets_on : (ring : ℕ × ℕ) (k : Kind) → is_set_on ring k ≡ true → sets (Some k) ≡ true
sets_on ring (kind.Backend v r b) is = (and_parts (v == ring.0 && r == ring.1) b is).1
sets_on ring k is = absurd (true≢false (sym is))

pub turn_sets : (vhost ring : ℕ) (t : Told) → sets (kind_of vhost ring t) ≡ false
turn_sets vhost ring (act.Fetch position head) = refl
turn_sets vhost ring act.Nothing = refl
turn_sets vhost ring act.Crowded = refl
turn_sets vhost ring (act.Halt fault) = refl
turn_sets vhost ring (act.Copy position name) = refl
turn_sets vhost ring (act.Refused position bad) = refl
turn_sets vhost ring (act.Publish count call) = refl
turn_sets vhost ring (act.Notices on wrote) = refl
turn_sets vhost ring t = refl

at_once_sets : (vhost ring : ℕ) (e : End) (told : TurnText × Kind) → step_at_once vhost ring e ≡ Some told → sets (Some told.1) ≡ false
at_once_sets vhost ring end.Off told h = ap (λ (x : TurnText × Kind). sets (Some x.1)) (sym (some_same _ told h))
at_once_sets vhost ring (end.Stopped fault) told h = ap (λ (x : TurnText × Kind). sets (Some x.1)) (sym (some_same _ told h))
at_once_sets vhost ring e told h = absurd (cc (h))

pub off_sets : (vhost ring : ℕ) (v : Vhost) (told : TurnText × Kind) → is_off vhost ring v ≡ Some told → sets (Some told.1) ≡ false
off_sets vhost ring v told e =
    let b = bound (first_answer (is_some (ring_at ring v.settings).file) (ring_at ring v.settings).queue.stopped) _ told e in
    at_once_sets vhost ring b.0 told b.2

-- ---- the step of an act

bytes_sets : (guest : ℕ) (k : Command) (st : State) (d : Done) → on_bytes guest k st ≡ Some d → sets d.step ≡ false
bytes_sets guest (command.Poke g addr bytes) st d e = ap (λ (x : Done). sets x.step) (sym (only_some (g == guest) _ d e).1)
bytes_sets guest (command.Peek g addr len) st d e = ap (λ (x : Done). sets x.step) (sym (only_some (g == guest) _ d e).1)
bytes_sets guest k st d e = absurd (cc (e))

calls_sets : (a : Act) (st : State) (d : Done) → calls a st ≡ Some d → sets d.step ≡ false
calls_sets a st d e =
    let vhost = bound (vhost_named a.command) _ d e in
    let v = bound (at st.vhosts vhost.0) _ d vhost.2 in
    let x = bound (call_of a.command v.0 st.memory) _ d v.2 in
    ap (λ (z : Done). sets z.step) (sym (only_some (may_call a.told.command a.command v.0) _ d x.2).1) ∙ (call_is a.command v.0 st.memory x.0 x.1).none

off_done_sets : (k : Command) (st : State) (d : Done) → found_off k st ≡ Some d → sets d.step ≡ false
off_done_sets k st d e =
    let t = bound (turn_on k) _ d e in
    let v = bound (at st.vhosts t.0.0) _ d t.2 in
    let x = bound (is_off t.0.0 t.0.1 v.0) _ d v.2 in
    ap (λ (z : Done). sets z.step) (sym (only_some (is_none (turn_of t.0.1 v.0)) _ d x.2).1) ∙ off_sets t.0.0 t.0.1 v.0 x.0 x.1

step_sets : (h : Hand) (u : Under) (t : Turning) (v : Vhost) (st : State) (d : Done) → step_in h u t v st ≡ Some d → sets d.step ≡ false
step_sets h u (Receiving t) v st d e =
    let made = bound (rx_step h (rx_state t v st.memory)) _ d e in
    ap (λ (z : Done). sets z.step) (sym (some_same _ d made.2)) ∙ turn_sets u.vhost 0 made.0.1
step_sets h u (Sending t chains) v st d e =
    let made = bound (tx_step (tx_state t v st.memory)) _ d e in
    ap (λ (z : Done). sets z.step) (sym (some_same _ d made.2)) ∙ turn_sets u.vhost 1 made.0.1

turns_sets : (h : Hand) (a : Act) (st : State) (d : Done) → turns h a st ≡ Some d → sets d.step ≡ false
turns_sets h a st d e =
    let t = bound (turn_on a.command) _ d e in
    let v = bound (at st.vhosts t.0.0) _ d t.2 in
    let u = bound (under_by a t.0 v.0 (find (is_under_on t.0.0 t.0.1) st.under)) _ d v.2 in
    step_sets h u.0 u.0.turning v.0 st d u.2

-- a step that sets a ring is of a `backend` command of that ring
abbrev pub IsBackend : ℕ × ℕ → Command → Type 0
IsBackend ring k = (file : Option ℕ) × (k ≡ command.Backend ring.0 ring.1 file)

on_its_ring : (ring : ℕ × ℕ) (vhost r : ℕ) (file : Option ℕ) (b : Bool) → is_set_on ring (kind.Backend vhost r b) ≡ true
    → IsBackend ring (command.Backend vhost r file)
on_its_ring ring vhost r file b is =
    let p = and_parts (vhost == ring.0) (r == ring.1) (and_parts (vhost == ring.0 && r == ring.1) b is).0 in
    (file, of_both (eqb-true vhost ring.0 p.0) (eqb-true r ring.1 p.1))
  where
    of_both : vhost ≡ ring.0 → r ≡ ring.1 → command.Backend vhost r file ≡ command.Backend ring.0 ring.1 file
    of_both p q = λ i. command.Backend (p i) (q i) file

backed_on : (ring : ℕ × ℕ) (vhost r : ℕ) (file : Option ℕ) (v : Vhost) (st : State) (w : Option Answer) (k : Kind)
    → (backed vhost r file v st w).step ≡ Some k → is_set_on ring k ≡ true → IsBackend ring (command.Backend vhost r file)
backed_on ring vhost r file v st None k e is =
    on_its_ring ring vhost r file true (subst (λ (x : Kind). is_set_on ring x ≡ true) (sym (some_same _ k e)) is)
backed_on ring vhost r file v st (Some x) k e is =
    on_its_ring ring vhost r file false (subst (λ (y : Kind). is_set_on ring y ≡ true) (sym (some_same _ k e)) is)

backs_on : (c : Case) (version : ℕ) (ring : ℕ × ℕ) (n : Command) (st : State) (d : Done) (k : Kind)
    → backs c version n st ≡ Some d → d.step ≡ Some k → is_set_on ring k ≡ true → IsBackend ring n
backs_on c version ring (command.Backend vhost r file) st d k e step is =
    let v = bound (at st.vhosts vhost) _ d e in
    let w = bound (back_wanted vhost r file v.0 st.memory (table_at c version)) _ d v.2 in
    backed_on ring vhost r file v.0 st w.0 k
    (ap (λ (z : Done). z.step) (only_some (is_ring r && is_none (turn_of r v.0)) _ d w.2).1 ∙ step) is
backs_on c version ring n st d k e step is = absurd (cc (e))

-- no other act prints such a step
printed_none : {A : Type 0} (ring : ℕ × ℕ) (o : Option Kind) (k : Kind) → sets o ≡ false → o ≡ Some k → is_set_on ring k ≡ true → A
printed_none ring o k none e is = absurd (true≢false (sym (sets_on ring k is) ∙ ap sets (sym e) ∙ none))

pub does_set : (c : Case) (guest : ℕ) (ring : ℕ × ℕ) (a : Act) (w : What) (st : State) (d : Done) (k : Kind)
    → does c guest a w st ≡ Some d → d.step ≡ Some k → is_set_on ring k ≡ true → IsBackend ring a.command
does_set c guest ring a Called st d k e step is = printed_none ring d.step k (calls_sets a st d e) step is
does_set c guest ring a OnBytes st d k e step is = printed_none ring d.step k (bytes_sets guest a.command st d e) step is
does_set c guest ring a (Backed version) st d k e step is = backs_on c version ring a.command st d k e step is
does_set c guest ring a FoundOff st d k e step is = printed_none ring d.step k (off_done_sets a.command st d e) step is
does_set c guest ring a (Turned h) st d k e step is = printed_none ring d.step k (turns_sets h a st d e) step is
