-- An act on a guest is on one of its vhosts, and what a turn accepts is its command's.
use Rattle.std.proofs.Common.{◌≡◌, ℕ, zero, suc, cond, List, [], ◌∷◌, Option, Some, None, Bool, true, false, refl, sym, ap, ◌∙◌, subst, inl, inr}
use Rattle.std.specs.Prelude.{◌==◌, ◌&&◌, find, is_none}
use Rattle.std.proofs.lemmas.Bool.{and_parts, eqb-true}
use Rattle.tap_frame.specs.Frame.{FrameValue}
use Rattle.tap_ledger.specs.declared.act.Act.{Act as Told}
use Rattle.tap_ledger.specs.declared.act.Act.TheVariants as act
use Rattle.tap_ledger.specs.declared.hand.Hand.{Hand}
use Rattle.vring_turns.specs.RxTurn.{rx_step}
use Rattle.vring_turns.specs.TxTurn.{tx_step}
use Rattle.scen_words.specs.declared.command.Command.{Command}
use Rattle.scen_words.specs.declared.command.Command.TheVariants as command
use Rattle.tap_trace.specs.declared.answer.Answer.{Answer}
use Rattle.tap_world.specs.ByNumber.{at, with_at}
use Rattle.tap_world.specs.Guests.{Vhost, is_ring, new_vhost, turn_of}
use Rattle.tap_world.specs.StepControl.{call_of, may_call}
use Rattle.tap_world.specs.StepTransmits.{tx_state}
use Rattle.tap_world.specs.StepTurns.{is_off, rx_state, turn_on}
use Rattle.tap_legal.specs.Case.{Case}
use Rattle.tap_legal.specs.Replay.{Accepted, Turning, Under, back_wanted, vhost_named}
use Rattle.tap_legal.specs.Replay.Turning.{Receiving, Sending}
use Rattle.tap_legal.specs.Lookups.{table_at}
use Rattle.tap_legal.specs.Replays.{vhosts_on}
use Rattle.tap_legal.specs.ReplayTurns.{accepted_by, is_under_on, turning_on}
use Rattle.tap_sights.specs.Acts.{Act, Done, State, What, all_done, backed, backs, does, on_bytes, step_in, turns, under_by}
use Rattle.tap_sights.specs.Acts.What.{Backed, Called, FoundOff, OnBytes, Turned}
use Rattle.tap_sights.specs.Sight.{In}
use Rattle.tap_sights.proofs.CallSteps.{bound}
use Rattle.tap_sights.proofs.Kit.{passes, some_same}
use Rattle.tap_sights.proofs.Taken.{only_some}

-- ---- the vhosts of a guest stay

pub with_at_keeps : {A : Type 0} (m : ℕ) (x v : A) (xs : List (Option A)) (n : ℕ) (w : A) → at xs m ≡ Some x → at (with_at m v xs) n ≡ Some w
    → (y : A) × (at xs n ≡ Some y)
with_at_keeps m x v [] n w there e = absurd (cc (there))
with_at_keeps zero x v (o ∷ xs) zero w there e = (x, there)
with_at_keeps zero x v (o ∷ xs) (suc n) w there e = (w, e)
with_at_keeps (suc m) x v (o ∷ xs) zero w there e = (w, e)
with_at_keeps (suc m) x v (o ∷ xs) (suc n) w there e = with_at_keeps m x v xs n w there e

-- each vhost of one state is one of another
abbrev Keeps : List (Option Vhost) → List (Option Vhost) → Type 0
Keeps old new = (n : ℕ) (w : Vhost) → at new n ≡ Some w → (y : Vhost) × (at old n ≡ Some y)

same_kept : (old : List (Option Vhost)) → Keeps old old
same_kept old n w e = (w, e)

-- what a turn makes of the vhosts
step_keeps : (h : Hand) (u : Under) (t : Turning) (v : Vhost) (st : State) (d : Done) (w : Vhost) → at st.vhosts u.vhost ≡ Some w
    → step_in h u t v st ≡ Some d → Keeps st.vhosts d.state.vhosts
step_keeps h u (Receiving t) v st d w there e =
    let made = bound (rx_step h (rx_state t v st.memory)) _ d e in
    subst (λ (z : Done). Keeps st.vhosts z.state.vhosts) (some_same _ d made.2) (λ n x i. with_at_keeps u.vhost w _ st.vhosts n x there i)
step_keeps h u (Sending t chains) v st d w there e =
    let made = bound (tx_step (tx_state t v st.memory)) _ d e in
    subst (λ (z : Done). Keeps st.vhosts z.state.vhosts) (some_same _ d made.2) (λ n x i. with_at_keeps u.vhost w _ st.vhosts n x there i)

-- the turn of an act is on its vhost, and of its command
under_is : (a : Act) (t : ℕ × ℕ) (v : Vhost) (o : Option Under) (u : Under) → ((w : Under) → o ≡ Some w → is_under_on t.0 t.1 w ≡ true)
    → under_by a t v o ≡ Some u → (u.vhost ≡ t.0) × (u.command ≡ a.told.command)
under_is a t v (Some w) u on e =
    let r = only_some (w.command == a.told.command) _ u e in
    let p = and_parts (w.vhost == t.0) (turning_on w.turning == t.1) (on w refl) in (
      ap (λ (x : Under). x.vhost) (sym r.1) ∙ eqb-true w.vhost t.0 p.0,
      ap (λ (x : Under). x.command) (sym r.1) ∙ eqb-true w.command a.told.command r.0,
    )
under_is a t v None u on e =
    let r = only_some (is_none (is_off t.0 t.1 v) && is_none (turn_of t.1 v)) _ u e in
    (ap (λ (x : Under). x.vhost) (sym r.1), ap (λ (x : Under). x.command) (sym r.1))

-- the parts of an act that is a step of a turn
pub record IsTurn (h : Hand) (a : Act) (st : State) (d : Done) : Type 0 where
  pub ring : ℕ × ℕ
  pub turns : turn_on a.command ≡ Some ring
  pub v : Vhost
  pub there : at st.vhosts ring.0 ≡ Some v
  pub under : Under
  pub on : under.vhost ≡ ring.0
  pub of : under.command ≡ a.told.command
  pub does : step_in h under under.turning v st ≡ Some d

pub turn_parts : (h : Hand) (a : Act) (st : State) (d : Done) → turns h a st ≡ Some d → IsTurn h a st d
turn_parts h a st d e =
    let t = bound (turn_on a.command) _ d e in
    let v = bound (at st.vhosts t.0.0) _ d t.2 in
    let u = bound (under_by a t.0 v.0 (find (is_under_on t.0.0 t.0.1) st.under)) _ d v.2 in
    let is = under_is a t.0 v.0 (find (is_under_on t.0.0 t.0.1) st.under) u.0 (λ w f. passes (is_under_on t.0.0 t.0.1) st.under w f) u.1 in
    record { ring = t.0; turns = t.1; v = v.0; there = v.1; under = u.0; on = is.0; of = is.1; does = u.2 }

bytes_keep : (guest : ℕ) (k : Command) (st : State) (d : Done) → on_bytes guest k st ≡ Some d → Keeps st.vhosts d.state.vhosts
bytes_keep guest (command.Poke g addr bytes) st d e =
    subst (λ (z : Done). Keeps st.vhosts z.state.vhosts) (only_some (g == guest) _ d e).1 (same_kept st.vhosts)
bytes_keep guest (command.Peek g addr len) st d e =
    subst (λ (z : Done). Keeps st.vhosts z.state.vhosts) (only_some (g == guest) _ d e).1 (same_kept st.vhosts)
bytes_keep guest k st d e = absurd (cc (e))

backed_keep : (vhost ring : ℕ) (file : Option ℕ) (v : Vhost) (st : State) (w : Option Answer) → at st.vhosts vhost ≡ Some v
    → Keeps st.vhosts (backed vhost ring file v st w).state.vhosts
backed_keep vhost ring file v st None there n x i = with_at_keeps vhost v _ st.vhosts n x there i
backed_keep vhost ring file v st (Some y) there n x i = (x, i)

backs_keep : (c : Case) (version : ℕ) (k : Command) (st : State) (d : Done) → backs c version k st ≡ Some d → Keeps st.vhosts d.state.vhosts
backs_keep c version (command.Backend vhost ring file) st d e =
    let v = bound (at st.vhosts vhost) _ d e in
    let w = bound (back_wanted vhost ring file v.0 st.memory (table_at c version)) _ d v.2 in
    subst (λ (z : Done). Keeps st.vhosts z.state.vhosts) (only_some (is_ring ring && is_none (turn_of ring v.0)) _ d w.2).1 (backed_keep vhost ring file v.0 st w.0 v.1)
backs_keep c version k st d e = absurd (cc (e))

does_keep : (c : Case) (guest : ℕ) (a : Act) (w : What) (st : State) (d : Done) → does c guest a w st ≡ Some d → Keeps st.vhosts d.state.vhosts
does_keep c guest a Called st d e =
    let vhost = bound (vhost_named a.command) _ d e in
    let v = bound (at st.vhosts vhost.0) _ d vhost.2 in
    let x = bound (call_of a.command v.0 st.memory) _ d v.2 in
    subst (λ (z : Done). Keeps st.vhosts z.state.vhosts) (only_some (may_call a.told.command a.command v.0) _ d x.2).1 (λ n y i. with_at_keeps vhost.0 v.0 _ st.vhosts n y v.1 i)
does_keep c guest a OnBytes st d e = bytes_keep guest a.command st d e
does_keep c guest a (Backed version) st d e = backs_keep c version a.command st d e
does_keep c guest a FoundOff st d e =
    let t = bound (turn_on a.command) _ d e in
    let v = bound (at st.vhosts t.0.0) _ d t.2 in
    let x = bound (is_off t.0.0 t.0.1 v.0) _ d v.2 in
    subst (λ (z : Done). Keeps st.vhosts z.state.vhosts) (only_some (is_none (turn_of t.0.1 v.0)) _ d x.2).1 (same_kept st.vhosts)
does_keep c guest a (Turned h) st d e =
    let t = turn_parts h a st d e in
    step_keeps h t.under t.under.turning t.v st d t.v (ap (at st.vhosts) t.on ∙ t.there) t.does

-- ---- an act's vhost is declared on its guest

-- the vhosts of a state are the guest's
abbrev pub IsOn : Case → ℕ → State → Type 0
IsOn c guest st = (n : ℕ) (v : Vhost) → at st.vhosts n ≡ Some v → at c.setup.vhosts n ≡ Some guest

pub first_on : (guest : ℕ) (gs : List (Option ℕ)) (n : ℕ) (v : Vhost) → at (vhosts_on guest gs) n ≡ Some v → at gs n ≡ Some guest
first_on guest [] n v e = absurd (cc (e))
first_on guest (None ∷ gs) zero v e = absurd (cc (e))
first_on guest (Some g ∷ gs) zero v e = go (g == guest) refl e
  where
    go : (b : Bool) → (g == guest) ≡ b → cond b (Some (new_vhost g)) None ≡ Some v → ◌≡◌ {A = Option ℕ} (Some g) (Some guest)
    go true is h = ap Some (eqb-true g guest is)
    go false is h = absurd (cc (h))
first_on guest (g ∷ gs) (suc n) v e = first_on guest gs n v e

-- an act of a list, with the state before it
pub record IsDone (c : Case) (guest : ℕ) (d : Act × Done) : Type 0 where
  pub st : State
  pub on : IsOn c guest st
  pub does : does c guest d.0 d.0.what st ≡ Some d.1

pub done_on : (c : Case) (guest : ℕ) (as_ : List Act) (st : State) (ds : List (Act × Done)) → IsOn c guest st
    → all_done c guest as_ st ≡ Some ds → (d : Act × Done) → In d ds → IsDone c guest d
done_on c guest [] st ds on e d i = absurd (subst (In d) (sym (some_same [] ds e)) i)
done_on c guest (a ∷ as_) st ds on e d i =
    let x = bound (does c guest a a.what st) _ ds e in
    let xs = bound (all_done c guest as_ x.0.state) _ ds x.2 in
    go x.0 x.1 xs.0 (λ j. done_on c guest as_ x.0.state xs.0 (later x.0 x.1) xs.1 d j) (subst (In d) (sym (some_same _ ds xs.2)) i)
  where
    later : (y : Done) → does c guest a a.what st ≡ Some y → IsOn c guest y.state
    later y h n v there = let w = does_keep c guest a a.what st y h n v there in on n w.0 w.1

    go : (y : Done) → does c guest a a.what st ≡ Some y → (ys : List (Act × Done)) → (In d ys → IsDone c guest d)
        → In d ((a, y) ∷ ys) → IsDone c guest d
    go y h ys rest (inl is) = subst (IsDone c guest) is (record { st = st; on = on; does = h })
    go y h ys rest (inr j) = rest j

-- ---- what acts accept

accepted_command : (n : ℕ) (t : Told) (o : Option FrameValue) (x : Accepted) → In x (accepted_by n t o) → x.command ≡ n
accepted_command n (act.Copy position name) (Some f) x (inl e) = ap (λ (y : Accepted). y.command) (sym e)
accepted_command n (act.Copy position name) (Some f) x (inr i) = absurd i
accepted_command n t o x i = absurd i

step_accepts : (h : Hand) (u : Under) (t : Turning) (v : Vhost) (st : State) (d : Done) → step_in h u t v st ≡ Some d
    → (x : Accepted) → In x d.accepted → x.command ≡ u.command
step_accepts h u (Receiving t) v st d e x i =
    let made = bound (rx_step h (rx_state t v st.memory)) _ d e in
    absurd (subst (λ (z : Done). In x z.accepted) (sym (some_same _ d made.2)) i)
step_accepts h u (Sending t chains) v st d e x i =
    let made = bound (tx_step (tx_state t v st.memory)) _ d e in
    accepted_command u.command made.0.1 made.0.0.turn.held x (subst (λ (z : Done). In x z.accepted) (sym (some_same _ d made.2)) i)

bytes_accept : (guest : ℕ) (k : Command) (st : State) (d : Done) → on_bytes guest k st ≡ Some d → (x : Accepted) → In x d.accepted → ⊥
bytes_accept guest (command.Poke g addr bytes) st d e x i = subst (λ (z : Done). In x z.accepted) (sym (only_some (g == guest) _ d e).1) i
bytes_accept guest (command.Peek g addr len) st d e x i = subst (λ (z : Done). In x z.accepted) (sym (only_some (g == guest) _ d e).1) i
bytes_accept guest k st d e x i = cc (e)

backed_accept : (vhost ring : ℕ) (file : Option ℕ) (v : Vhost) (st : State) (w : Option Answer) (x : Accepted)
    → In x (backed vhost ring file v st w).accepted → ⊥
backed_accept vhost ring file v st None x i = i
backed_accept vhost ring file v st (Some y) x i = i

backs_accept : (c : Case) (version : ℕ) (k : Command) (st : State) (d : Done) → backs c version k st ≡ Some d → (x : Accepted)
    → In x d.accepted → ⊥
backs_accept c version (command.Backend vhost ring file) st d e x i =
    let v = bound (at st.vhosts vhost) _ d e in
    let w = bound (back_wanted vhost ring file v.0 st.memory (table_at c version)) _ d v.2 in
    backed_accept vhost ring file v.0 st w.0 x (subst (λ (z : Done). In x z.accepted) (sym (only_some (is_ring ring && is_none (turn_of ring v.0)) _ d w.2).1) i)
backs_accept c version k st d e x i = cc (e)

-- a frame that an act accepted is of its command, which is a turn of a vhost
pub record IsAccepted (a : Act) (st : State) (x : Accepted) : Type 0 where
  pub of : x.command ≡ a.told.command
  pub ring : ℕ × ℕ
  pub turns : turn_on a.command ≡ Some ring
  pub v : Vhost
  pub there : at st.vhosts ring.0 ≡ Some v

pub accepts_own : (c : Case) (guest : ℕ) (a : Act) (w : What) (st : State) (d : Done) → does c guest a w st ≡ Some d
    → (x : Accepted) → In x d.accepted → IsAccepted a st x
accepts_own c guest a Called st d e x i =
    let vhost = bound (vhost_named a.command) _ d e in
    let v = bound (at st.vhosts vhost.0) _ d vhost.2 in
    let y = bound (call_of a.command v.0 st.memory) _ d v.2 in
    absurd (subst (λ (z : Done). In x z.accepted) (sym (only_some (may_call a.told.command a.command v.0) _ d y.2).1) i)
accepts_own c guest a OnBytes st d e x i = absurd (bytes_accept guest a.command st d e x i)
accepts_own c guest a (Backed version) st d e x i = absurd (backs_accept c version a.command st d e x i)
accepts_own c guest a FoundOff st d e x i =
    let t = bound (turn_on a.command) _ d e in
    let v = bound (at st.vhosts t.0.0) _ d t.2 in
    let y = bound (is_off t.0.0 t.0.1 v.0) _ d v.2 in
    absurd (subst (λ (z : Done). In x z.accepted) (sym (only_some (is_none (turn_of t.0.1 v.0)) _ d y.2).1) i)
accepts_own c guest a (Turned h) st d e x i =
    let t = turn_parts h a st d e in
    record {
      of = step_accepts h t.under t.under.turning t.v st d t.does x i ∙ t.of;
      ring = t.ring;
      turns = t.turns;
      v = t.v;
      there = t.there;
    }

-- ---- the vhost that an act's command names

pub turn_named : (k : Command) (ring : ℕ × ℕ) → turn_on k ≡ Some ring → vhost_named k ≡ Some ring.0
turn_named (command.RxTurn vhost) ring e = ap (λ (r : ℕ × ℕ). Some r.0) (some_same (vhost, 0) ring e)
turn_named (command.TxTurn vhost) ring e = ap (λ (r : ℕ × ℕ). Some r.0) (some_same (vhost, 1) ring e)
turn_named k ring e = absurd (cc (e))

bytes_named : {A : Type 0} (guest : ℕ) (k : Command) (st : State) (d : Done) → on_bytes guest k st ≡ Some d → (vhost : ℕ) → vhost_named k ≡ Some vhost → A
bytes_named guest (command.Poke g addr bytes) st d e vhost is = absurd (cc (is))
bytes_named guest (command.Peek g addr len) st d e vhost is = absurd (cc (is))
bytes_named guest k st d e vhost is = absurd (cc (e))

backs_named : (c : Case) (version : ℕ) (k : Command) (st : State) (d : Done) → backs c version k st ≡ Some d → (vhost : ℕ)
    → vhost_named k ≡ Some vhost → (v : Vhost) × (at st.vhosts vhost ≡ Some v)
backs_named c version (command.Backend other ring file) st d e vhost is =
    let v = bound (at st.vhosts other) _ d e in
    (v.0, ap (at st.vhosts) (sym (some_same other vhost is)) ∙ v.1)
backs_named c version k st d e vhost is = absurd (cc (e))

-- it is one of the state
pub named_vhost : (c : Case) (guest : ℕ) (a : Act) (w : What) (st : State) (d : Done) → does c guest a w st ≡ Some d
    → (vhost : ℕ) → vhost_named a.command ≡ Some vhost → (v : Vhost) × (at st.vhosts vhost ≡ Some v)
named_vhost c guest a Called st d e vhost is =
    let n = bound (vhost_named a.command) _ d e in
    let v = bound (at st.vhosts n.0) _ d n.2 in
    (v.0, ap (at st.vhosts) (some_same vhost n.0 (sym is ∙ n.1)) ∙ v.1)
named_vhost c guest a OnBytes st d e vhost is = bytes_named guest a.command st d e vhost is
named_vhost c guest a (Backed version) st d e vhost is = backs_named c version a.command st d e vhost is
named_vhost c guest a FoundOff st d e vhost is =
    let t = bound (turn_on a.command) _ d e in
    let v = bound (at st.vhosts t.0.0) _ d t.2 in
    (v.0, ap (at st.vhosts) (some_same vhost t.0.0 (sym is ∙ turn_named a.command t.0 t.1)) ∙ v.1)
named_vhost c guest a (Turned h) st d e vhost is =
    let t = turn_parts h a st d e in
    (t.v, ap (at st.vhosts) (some_same vhost t.ring.0 (sym is ∙ turn_named a.command t.ring t.turns)) ∙ t.there)
