-- Pokes, peeks, backends, and turns that find no backend, in the replay.
use Rattle.std.proofs.Common.{◌≡◌, ℕ, List, [], ◌∷◌, ◌++◌, length, Option, Some, None, Bool, true, false, refl, sym, ap, ◌∙◌, subst, inl, inr, ⊎_elim, true≢false}
use Rattle.std.specs.Prelude.{◌==◌, ◌&&◌, is_none, if◌then◌else◌, option_map}
use Rattle.std.specs.List.{list_any}
use Rattle.std.proofs.lemmas.Bool.{and_from, and_parts, eq-eqb, eqb-true}
use Rattle.guest_mem.specs.Memory.{Contents, first_bad}
use Rattle.vhost_dev.specs.Settings.{ring_at}
use Rattle.scen_words.specs.declared.command.Command.{Command}
use Rattle.scen_words.specs.declared.command.Command.TheVariants as command
use Rattle.tap_trace.specs.declared.answer.Answer.{Answer}
use Rattle.tap_trace.specs.declared.answer.Answer.TheVariants as answer
use Rattle.tap_trace.specs.declared.kind.Kind.{Kind}
use Rattle.tap_trace.specs.declared.kind.Kind.TheVariants as kind
use Rattle.tap_trace.specs.declared.trace.StepLine.{StepLine}
use Rattle.tap_trace.specs.declared.turn.TurnText.{TurnText}
use Rattle.tap_ground.specs.Options.{only_if}
use Rattle.tap_world.specs.ByNumber.{at, with_at}
use Rattle.tap_world.specs.Guests.{Vhost, is_ring, turn_of}
use Rattle.tap_world.specs.StepControl.{peeked, poke_leaves, poke_told}
use Rattle.tap_world.specs.StepTurns.{is_off, turn_on}
use Rattle.tap_legal.specs.Numbered.{StepAt}
use Rattle.tap_legal.specs.Case.{Case}
use Rattle.tap_legal.specs.Lookups.{answer_of, own_ops, table_at}
use Rattle.tap_legal.specs.Replay.{Replay, Under, Unset, back_made, back_wanted, backed_as, done_with, peeked_at, poked_at, replay_back, unset_of, version_for}
use Rattle.tap_legal.specs.ReplayTurns.{begun, replay_as, turn_step, under_on}
use Rattle.tap_sights.specs.Acts.{Act, Done, State, backed, backs, done_as, found_off, on_bytes}
use Rattle.tap_sights.specs.Acts.What.{Backed, FoundOff, OnBytes}
use Rattle.tap_sights.specs.GuestFacts.{ActTells}
use Rattle.tap_sights.specs.LineFacts.{IsShaped}
use Rattle.tap_sights.specs.Replayed.{IsUnset}
use Rattle.tap_sights.specs.Sight.{In}
use Rattle.tap_sights.proofs.Kit.{in_append, some_same}
use Rattle.tap_sound.proofs.Kit.{only_some, some_then, then_some}
use Rattle.tap_acts.specs.Replaying.{IsAmong, held_as, holder_on, is_turned}
use Rattle.tap_acts.proofs.Answered.{answer_is}
use Rattle.tap_acts.proofs.Calls.{freer_in, keeps_turns, replayed_vhost}
use Rattle.tap_acts.proofs.CallsHeld.{turned}
use Rattle.tap_acts.proofs.Ends.{Goes, IsLine, IsNext, Leaves, ends, stepped}
use Rattle.tap_acts.proofs.Printed.{as_back, as_bytes, as_turn, if_step_is}
use Rattle.tap_acts.proofs.Vhosts.{both_with, each_with, holder_freer, none_stays}

-- ---- backends of a vhost with other turns

back_turned : (ring : ℕ) (file : Option ℕ) (m : Contents) (rx tx : Option ℕ) (v : Vhost)
    → back_made ring file m (turned rx tx v) ≡ turned rx tx (back_made ring file m v)
back_turned ring None m rx tx v = refl
back_turned ring (Some f) m rx tx v = refl

pub back_keeps : (ring : ℕ) (file : Option ℕ) (m : Contents) (v : Vhost)
    → turned v.rx_turn v.tx_turn (back_made ring file m v) ≡ back_made ring file m v
back_keeps ring None m v = refl
back_keeps ring (Some f) m v = refl

-- an unset took a file off the ring
was_backed : (o : Option ℕ) → (if is_none o then Some answer.Done else None) ≡ None → (f : ℕ) × (o ≡ Some f)
was_backed None e = absurd (cc (e))
was_backed (Some f) e = (f, refl)

-- ---- turns

-- who holds the turn that a command names
pub turn_held : (k : Command) (t : ℕ × ℕ) (v : Vhost) (us : List Under) → turn_on k ≡ Some t → held_as t.0 us v ≡ v
    → turn_of t.1 v ≡ holder_on t.0 t.1 us
turn_held (command.RxTurn vhost) t v us e held =
    subst (λ (q : ℕ × ℕ). held_as q.0 us v ≡ v → turn_of q.1 v ≡ holder_on q.0 q.1 us) (some_same (vhost, 0) t e)
    (λ h. sym (ap (λ (w : Vhost). w.rx_turn) h)) held
turn_held (command.TxTurn vhost) t v us e held =
    subst (λ (q : ℕ × ℕ). held_as q.0 us v ≡ v → turn_of q.1 v ≡ holder_on q.0 q.1 us) (some_same (vhost, 1) t e)
    (λ h. sym (ap (λ (w : Vhost). w.tx_turn) h)) held
turn_held other t v us e held = absurd (cc (e))

no_command : (o : Option Under) → is_none (option_map (λ (u : Under). u.command) o) ≡ true → o ≡ None
no_command None e = refl
no_command (Some u) e = absurd (true≢false (sym e))

module _ (c : Case) (shape : IsShaped c) (all : List (Act × Done)) (tells : (d : Act × Done) → In d all → ActTells c d) (guest : ℕ)
    (d : Act × Done) (rest : List (Act × Done)) (st : State) (r : Replay) (next : IsNext all d rest) (among : IsAmong c all (d ∷ rest) st r) where
  -- an act whose one step is printed, with its answer, and whose replay is `done_with` that answer
  one_step : (m : Contents) (vs : List (Option Vhost)) (us : ℕ → List Unset) (x : Answer) (k : Kind) → Leaves c shape all tells st d r m vs
      → d.1.answer ≡ Some x → d.1.step ≡ Some k → ((u : Unset) → In u (us d.0.told.command) → IsUnset all u)
      → ((s : StepAt) (ss : List StepAt) → IsLine guest d k s → list_any (λ n. n == s.at.command) r.finished ≡ false
      → replay_as c s ss d.0.command r ≡ Some (done_with c s.at.command x (record r { memory = m; vhosts = vs; unsets = us s.at.command })))
      → Goes c guest all rest d r
  one_step m vs us x k leaves answers step unset replays = record {
    prints = λ l is s ss line more.
        let it : IsLine guest d k s = subst (λ j. IsLine guest d j s) (some_same l k (sym is ∙ step)) line in
        let same : s.at.command ≡ d.0.told.command = ap (λ (z : StepLine). z.command) it.at in
        subst (IsAmong c all rest d.1.state)
        (sym (stepped c shape all tells d rest st r (done_with c s.at.command x (record r { memory = m; vhosts = vs; unsets = us s.at.command }))
        k guest s ss next among step it (λ undone. replays s ss it undone)))
        (subst (λ n. IsAmong c all rest d.1.state (done_with c n x (record r { memory = m; vhosts = vs; unsets = us n }))) (sym same)
        (ends c shape all tells d rest st r m vs (us d.0.told.command) x next among leaves answers unset));
    stays = λ none. absurd (cc (step, none));
  }

  -- what leaves vhosts as they are
  same_vhosts : (m : Contents) → is_turned d.0.what ≡ false → d.1.accepted ≡ [] → d.1.state.under ≡ st.under → m ≡ d.1.state.memory → d.1.state.vhosts ≡ st.vhosts
      → Leaves c shape all tells st d r m r.vhosts
  same_vhosts m what accepted under memory vhosts = record {
    what = what;
    accepted = accepted;
    under = under;
    memory = memory;
    vhosts = λ n. among.vhosts n ∙ ap (λ (vs : List (Option Vhost)). option_map (held_as n r.under) (at vs n)) (sym vhosts);
    held = λ n v e. among.state.held n v (ap (λ (vs : List (Option Vhost)). at vs n) (sym vhosts) ∙ e);
  }

  -- ---- bytes

  poked : (g addr : ℕ) (bytes : List ℕ) → d.0.what ≡ OnBytes → d.0.command ≡ command.Poke g addr bytes → on_bytes guest (command.Poke g addr bytes) st ≡ Some d.1
      → Goes c guest all rest d r
  poked g addr bytes what asks e =
      let p = only_some (g == guest) (done_as (record st { memory = poke_leaves st.memory addr bytes (first_bad st.memory.regions addr (length bytes)) })
      (Some kind.Poke) (Some (poke_told (first_bad st.memory.regions addr (length bytes))))) d.1 e in
      let is = p.1 in
      one_step (poke_leaves r.memory addr bytes (first_bad r.memory.regions addr (length bytes))) r.vhosts (λ n. r.unsets)
      (poke_told (first_bad r.memory.regions addr (length bytes))) kind.Poke
      (same_vhosts (poke_leaves r.memory addr bytes (first_bad r.memory.regions addr (length bytes))) (ap is_turned what) (sym (ap (λ (z : Done). z.accepted) is))
      (sym (ap (λ (z : Done). z.state.under) is))
      (ap (λ (m : Contents). poke_leaves m addr bytes (first_bad m.regions addr (length bytes))) among.memory ∙ ap (λ (z : Done). z.state.memory) is)
      (sym (ap (λ (z : Done). z.state.vhosts) is)))
      (sym (ap (λ (z : Done). z.answer) is) ∙ ap (λ (m : Contents). Some (poke_told (first_bad m.regions addr (length bytes)))) (sym among.memory))
      (sym (ap (λ (z : Done). z.step) is)) among.unset
      (λ s ss line undone. ap (λ q. replay_as c s ss q r) asks
      ∙ as_bytes c s ss (command.Poke g addr bytes) r _ undone refl refl refl
      (ap (λ (b : Bool). only_if b (poked_at c s addr bytes r)) (eq-eqb g s.guest (eqb-true g guest p.0 ∙ sym line.on))
      ∙ ap Some (if_step_is s (Some kind.Poke) r _ kind.Poke refl (ap (λ (l : StepLine). l.kind) line.at))))

  peeks : (g addr len : ℕ) → d.0.what ≡ OnBytes → d.0.command ≡ command.Peek g addr len → on_bytes guest (command.Peek g addr len) st ≡ Some d.1
      → Goes c guest all rest d r
  peeks g addr len what asks e =
      let p = only_some (g == guest) (done_as st (Some kind.Peek) (Some (peeked addr len st.memory (first_bad st.memory.regions addr len)))) d.1 e in
      let is = p.1 in
      one_step r.memory r.vhosts (λ n. r.unsets)
      (peeked addr len r.memory (first_bad r.memory.regions addr len)) kind.Peek
      (same_vhosts r.memory (ap is_turned what) (sym (ap (λ (z : Done). z.accepted) is))
      (sym (ap (λ (z : Done). z.state.under) is)) (among.memory ∙ ap (λ (z : Done). z.state.memory) is) (sym (ap (λ (z : Done). z.state.vhosts) is)))
      (sym (ap (λ (z : Done). z.answer) is) ∙ ap (λ (m : Contents). Some (peeked addr len m (first_bad m.regions addr len))) (sym among.memory))
      (sym (ap (λ (z : Done). z.step) is)) among.unset
      (λ s ss line undone. ap (λ q. replay_as c s ss q r) asks
      ∙ as_bytes c s ss (command.Peek g addr len) r _ undone refl refl refl
      (ap (λ (b : Bool). only_if b (peeked_at c s addr len r)) (eq-eqb g s.guest (eqb-true g guest p.0 ∙ sym line.on))
      ∙ ap Some (if_step_is s (Some kind.Peek) r _ kind.Peek refl (ap (λ (l : StepLine). l.kind) line.at))))

  pub bytes_go : (k : Command) → d.0.what ≡ OnBytes → d.0.command ≡ k → on_bytes guest k st ≡ Some d.1 → Goes c guest all rest d r
  bytes_go (command.Poke g addr bytes) what asks e = poked g addr bytes what asks e
  bytes_go (command.Peek g addr len) what asks e = peeks g addr len what asks e
  bytes_go other what asks e = absurd (cc (e))

  -- ---- backends

  module _ (version vhost ring : ℕ) (file : Option ℕ) (what : d.0.what ≡ Backed version) (asks : d.0.command ≡ command.Backend vhost ring file)
      (v : Vhost) (there : at st.vhosts vhost ≡ Some v)
      (free : (is_ring ring && is_none (turn_of ring v)) ≡ true) where
    abbrev w : Vhost
    w = held_as vhost r.under v

    free_too : (is_ring ring && is_none (turn_of ring w)) ≡ true
    free_too =
        let p = and_parts (is_ring ring) (is_none (turn_of ring v)) free in
        and_from (is_ring ring) (is_none (turn_of ring w)) p.0
        (none_stays (turn_of ring v) (turn_of ring w) (freer_in c all (d ∷ rest) st r among vhost v there ring) p.1)

    -- the replay's way to a backend
    backs_so : (wanted : Option Answer) (x : Answer) → back_wanted vhost ring file v st.memory (table_at c version) ≡ Some wanted
        → d.1.answer ≡ Some x → (s : StepAt) (k : Kind) → IsLine guest d k s
        → replay_back c s (command.Backend vhost ring file) r ≡ Some (backed_as c s vhost ring file w wanted r)
    backs_so wanted x wants answers s k line =
        let y = (tells d next.here).told x answers in
        let same : s.at.command ≡ d.0.told.command = ap (λ (l : StepLine). l.command) line.at in
        let judged : version ≡ version_for y.0 (own_ops c s.at.command) =
        (tells d next.here).table version what y.0 y.1 y.2 ∙ ap (λ n. version_for y.0 (own_ops c n)) (sym same) in
        some_then (at r.vhosts vhost) _ w _ (replayed_vhost c all (d ∷ rest) st r among vhost v there)
        (some_then (answer_of c s.at.command) _ y.0 _ (ap (answer_of c) same ∙ answer_is c shape d (tells d next.here) y.0 y.1 y.2)
        (some_then (back_wanted vhost ring file w r.memory (table_at c (version_for y.0 (own_ops c s.at.command)))) _ wanted _
        (ap (λ (m : Contents). back_wanted vhost ring file w m (table_at c (version_for y.0 (own_ops c s.at.command)))) among.memory
        ∙ ap (λ n. back_wanted vhost ring file w st.memory (table_at c n)) (sym judged)
        ∙ same_wanted file wanted wants)
        (ap (λ (b : Bool). only_if b (backed_as c s vhost ring file w wanted r)) free_too)))
      where
        same_wanted : (f : Option ℕ) (o : Option Answer) → back_wanted vhost ring f v st.memory (table_at c version) ≡ Some o
            → back_wanted vhost ring f (held_as vhost r.under v) st.memory (table_at c version) ≡ Some o
        same_wanted None o e = e
        same_wanted (Some f) o e = e

    refused : (x : Answer) → back_wanted vhost ring file v st.memory (table_at c version) ≡ Some (Some x) → backed vhost ring file v st (Some x) ≡ d.1
        → Goes c guest all rest d r
    refused x wants is =
        let answers : d.1.answer ≡ Some x = sym (ap (λ (z : Done). z.answer) is) in
        one_step r.memory r.vhosts (λ n. r.unsets) x (kind.Backend vhost ring false)
        (same_vhosts r.memory (ap is_turned what) (sym (ap (λ (z : Done). z.accepted) is))
        (sym (ap (λ (z : Done). z.state.under) is)) (among.memory ∙ ap (λ (z : Done). z.state.memory) is) (sym (ap (λ (z : Done). z.state.vhosts) is)))
        answers (sym (ap (λ (z : Done). z.step) is)) among.unset
        (λ s ss line undone. ap (λ q. replay_as c s ss q r) asks
        ∙ as_back c s ss (command.Backend vhost ring file) r _ undone refl
        (backs_so (Some x) x wants answers s (kind.Backend vhost ring false) line
        ∙ ap Some (if_step_is s (Some (kind.Backend vhost ring false)) (done_with c s.at.command x r) _ (kind.Backend vhost ring false) refl (ap (λ (l : StepLine). l.kind) line.at))))

    unset_by : (f : Option ℕ) → file ≡ f → back_wanted vhost ring f v st.memory (table_at c version) ≡ Some None → backed vhost ring f v st None ≡ d.1
        → (u : Unset) → In u (unset_of d.0.told.command ring f w) → IsUnset all u
    unset_by (Some f) same wants is u i = absurd i
    unset_by None same wants is u (inr i) = absurd i
    unset_by None same wants is u (inl it) =
        let had = was_backed (ring_at ring v.settings).file (some_same _ _ wants) in
        record {
          file = had.0;
          had = sym (ap (λ (z : Unset). z.file) it) ∙ had.1;
          act = d;
          there = next.here;
          by = ap (λ (z : Unset). z.command) it;
          gave = sym (ap (λ (z : Done). z.gave) is) ∙ had.1;
        }

    made : back_wanted vhost ring file v st.memory (table_at c version) ≡ Some None → backed vhost ring file v st None ≡ d.1
        → Goes c guest all rest d r
    made wants is =
        let answers : d.1.answer ≡ Some (answer.Version 0) = sym (ap (λ (z : Done). z.answer) is) in
        let new : back_made ring file r.memory w ≡ held_as vhost r.under (back_made ring file st.memory v) =
        ap (λ (m : Contents). back_made ring file m w) among.memory
        ∙ back_turned ring file st.memory (holder_on vhost 0 r.under) (holder_on vhost 1 r.under) v in
        one_step r.memory (with_at vhost (back_made ring file r.memory w) r.vhosts) (λ n. r.unsets ++ unset_of n ring file w) (answer.Version 0)
        (kind.Backend vhost ring true)
        (record {
          what = ap is_turned what;
          accepted = sym (ap (λ (z : Done). z.accepted) is);
          under = sym (ap (λ (z : Done). z.state.under) is);
          memory = among.memory ∙ ap (λ (z : Done). z.state.memory) is;
          vhosts = λ n. ap (λ (y : Vhost). at (with_at vhost y r.vhosts) n) new
              ∙ both_with (λ k y. held_as k r.under y) st.vhosts r.vhosts among.vhosts vhost (back_made ring file st.memory v) v there n
              ∙ ap (λ (z : Done). option_map (held_as n r.under) (at z.state.vhosts n)) is;
          held = λ n y e. each_with (λ k z. held_as k st.under z ≡ z) st.vhosts vhost (back_made ring file st.memory v) v (λ m z ne. among.state.held m z) there
              (keeps_turns vhost st v (back_made ring file st.memory v) (among.state.held vhost v there) (back_keeps ring file st.memory v)) n y
              (ap (λ (z : Done). at z.state.vhosts n) is ∙ e);
        })
        answers (sym (ap (λ (z : Done). z.step) is))
        (λ u i. ⊎_elim (λ old. among.unset u old) (λ one. unset_by file refl wants is u one) (in_append u r.unsets (unset_of d.0.told.command ring file w) i))
        (λ s ss line undone. ap (λ q. replay_as c s ss q r) asks
        ∙ as_back c s ss (command.Backend vhost ring file) r _ undone refl
        (backs_so None (answer.Version 0) wants answers s (kind.Backend vhost ring true) line
        ∙ ap Some (if_step_is s (Some (kind.Backend vhost ring true)) (done_with c s.at.command (answer.Version 0) r) _ (kind.Backend vhost ring true) refl (ap (λ (l : StepLine). l.kind) line.at))))

  backend_goes : (version vhost ring : ℕ) (file : Option ℕ) → d.0.what ≡ Backed version → d.0.command ≡ command.Backend vhost ring file
      → backs c version (command.Backend vhost ring file) st ≡ Some d.1 → Goes c guest all rest d r
  backend_goes version vhost ring file what asks e =
      let v = then_some (at st.vhosts vhost) _ d.1 e in
      let o = then_some (back_wanted vhost ring file v.0 st.memory (table_at c version)) _ d.1 v.2 in
      let p = only_some (is_ring ring && is_none (turn_of ring v.0)) (backed vhost ring file v.0 st o.0) d.1 o.2 in
      go v.0 v.1 o.0 o.1 p.0 p.1
    where
      go : (v : Vhost) → at st.vhosts vhost ≡ Some v → (o : Option Answer) → back_wanted vhost ring file v st.memory (table_at c version) ≡ Some o
          → (is_ring ring && is_none (turn_of ring v)) ≡ true → backed vhost ring file v st o ≡ d.1 → Goes c guest all rest d r
      go v there None wants free is = made version vhost ring file what asks v there free wants is
      go v there (Some x) wants free is = refused version vhost ring file what asks v there free x wants is

  pub backs_go : (k : Command) (version : ℕ) → d.0.what ≡ Backed version → d.0.command ≡ k → backs c version k st ≡ Some d.1 → Goes c guest all rest d r
  backs_go (command.Backend vhost ring file) version what asks e = backend_goes version vhost ring file what asks e
  backs_go other version what asks e = absurd (cc (e))

  -- ---- a turn that finds no backend, or a stopped ring

  module _ (what : d.0.what ≡ FoundOff) (t : ℕ × ℕ) (v : Vhost) (told : TurnText × Kind) (names : turn_on d.0.command ≡ Some t)
      (there : at st.vhosts t.0 ≡ Some v) (off : is_off t.0 t.1 v ≡ Some told) (free : is_none (turn_of t.1 v) ≡ true)
      (is : done_as st (Some told.1) (Some (answer.Turn 0 0 told.0 [])) ≡ d.1) where
    none_under : under_on t.0 t.1 r ≡ None
    none_under =
        no_command (under_on t.0 t.1 r)
        (none_stays (holder_on t.0 t.1 st.under) (holder_on t.0 t.1 r.under)
        (holder_freer t.0 t.1 (d ∷ rest) st.under r.under (among.under t.0 t.1))
        (ap (λ (o : Option ℕ). is_none o) (sym (turn_held d.0.command t v st.under names (among.state.held t.0 v there))) ∙ free))

    off_so : Goes c guest all rest d r
    off_so =
        one_step r.memory r.vhosts (λ n. r.unsets) (answer.Turn 0 0 told.0 []) told.1
        (same_vhosts r.memory (ap is_turned what) (sym (ap (λ (z : Done). z.accepted) is))
        (sym (ap (λ (z : Done). z.state.under) is)) (among.memory ∙ ap (λ (z : Done). z.state.memory) is) (sym (ap (λ (z : Done). z.state.vhosts) is)))
        (sym (ap (λ (z : Done). z.answer) is)) (sym (ap (λ (z : Done). z.step) is)) among.unset
        (λ s ss line undone. as_turn c s ss d.0.command r _ undone
        (some_then (turn_on d.0.command) _ t _ names
        (some_then (at r.vhosts t.0) _ (held_as t.0 r.under v) _ (replayed_vhost c all (d ∷ rest) st r among t.0 v there)
        (ap (λ (o : Option Under). turn_step c s ss t.0 t.1 (held_as t.0 r.under v) o r) none_under
        ∙ ap (λ (b : Bool). if b then None else begun c s ss t.0 t.1 (held_as t.0 r.under v) (is_off t.0 t.1 v) r) undone
        ∙ ap (λ (o : Option (TurnText × Kind)). begun c s ss t.0 t.1 (held_as t.0 r.under v) o r) off
        ∙ ap Some (if_step_is s (Some told.1) r _ told.1 refl (ap (λ (l : StepLine). l.kind) line.at))))))

  pub off_goes : d.0.what ≡ FoundOff → found_off d.0.command st ≡ Some d.1 → Goes c guest all rest d r
  off_goes what e =
      let t = then_some (turn_on d.0.command) _ d.1 e in
      let v = then_some (at st.vhosts t.0.0) _ d.1 t.2 in
      let told = then_some (is_off t.0.0 t.0.1 v.0) _ d.1 v.2 in
      let p = only_some (is_none (turn_of t.0.1 v.0)) (done_as st (Some told.0.1) (Some (answer.Turn 0 0 told.0.0 []))) d.1 told.2 in
      off_so what t.0 v.0 told.0 t.1 v.1 told.1 p.0 p.1
