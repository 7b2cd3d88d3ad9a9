-- How the replay goes on behind an act that ends its command, or that prints nothing and changes nothing.
use Rattle.std.proofs.Common.{◌≡◌, ◌⊎◌, ℕ, List, [], ◌∷◌, ◌++◌, Option, Some, None, true, false, refl, sym, ap, ◌∙◌, subst, inl, inr, true≢false}
use Rattle.std.specs.Prelude.{◌==◌, find, is_some, option_map}
use Rattle.std.specs.List.{list_any}
use Rattle.guest_mem.specs.Memory.{Contents}
use Rattle.tap_trace.specs.declared.answer.Answer.{Answer}
use Rattle.tap_trace.specs.declared.kind.Kind.{Kind}
use Rattle.tap_trace.specs.declared.trace.StepLine.{StepLine}
use Rattle.tap_world.specs.ByNumber.{at}
use Rattle.tap_world.specs.Guests.{Vhost}
use Rattle.tap_legal.specs.Numbered.{Asked, StepAt}
use Rattle.tap_legal.specs.Case.{Case}
use Rattle.tap_legal.specs.LegalGuests.{has_steps}
use Rattle.tap_legal.specs.Lookups.{asked_at}
use Rattle.tap_legal.specs.Replay.{Accepted, Replay, Under, Unset, done_with}
use Rattle.tap_legal.specs.ReplayTurns.{is_under_on, replay_as, replay_step}
use Rattle.tap_sights.specs.Acts.{Act, Done, State}
use Rattle.tap_sights.specs.GuestFacts.{ActTells, IsNotAfterAnswer, printed, step_line}
use Rattle.tap_sights.specs.LineFacts.{IsShaped}
use Rattle.tap_sights.specs.Replayed.{IsFinished, IsUnset}
use Rattle.tap_sights.specs.Sight.{In, Ordered}
use Rattle.tap_sights.proofs.Kit.{some_same}
use Rattle.tap_acts.specs.Replaying.{IsAmong, IsHeld, SameUnder, all_accepted, held_as, is_turned, settled}
use Rattle.tap_acts.proofs.Answered.{still_right}
use Rattle.tap_acts.proofs.Printed.{lines, none_has, step_is}
use Rattle.tap_acts.proofs.Vhosts.{settled_skip}

-- the next of the acts, with those behind it
pub record IsNext (all : List (Act × Done)) (d : Act × Done) (rest : List (Act × Done)) : Type 0 where
  pub here : In d all
  pub later : (e : Act × Done) → In e rest → In e all
  pub order : Ordered IsNotAfterAnswer (d ∷ rest)

-- its line in the trace
pub record IsLine (guest : ℕ) (d : Act × Done) (k : Kind) (s : StepAt) : Type 0 where
  pub at : s.at ≡ step_line d.0 k
  pub on : s.guest ≡ guest

-- the replay goes on by the line that it prints, or stays where it prints none
pub record Goes (c : Case) (guest : ℕ) (all rest : List (Act × Done)) (d : Act × Done) (r : Replay) : Type 0 where
  pub prints : (k : Kind) → d.1.step ≡ Some k → (s : StepAt) (ss : List StepAt) → IsLine guest d k s → printed rest ≡ lines ss
      → IsAmong c all rest d.1.state (replay_step c s ss r)
  pub stays : d.1.step ≡ None → IsAmong c all rest d.1.state r

module _ (c : Case) (shape : IsShaped c) (all : List (Act × Done)) (tells : (d : Act × Done) → In d all → ActTells c d) where
  pub told_from : (d e : Act × Done) → In d all → In e all → d.0.told.command ≡ e.0.told.command → d.0.told ≡ e.0.told
  told_from d e i j same =
      ap (λ (x : Asked). x.told) (some_same _ _ (sym (tells d i).asked ∙ ap (asked_at c) same ∙ (tells e j).asked))

  -- a printed step is the replay's, as its command goes
  pub stepped : (d : Act × Done) (rest : List (Act × Done)) (st : State) (r new : Replay) (k : Kind) (guest : ℕ) (s : StepAt) (ss : List StepAt)
      → IsNext all d rest → IsAmong c all (d ∷ rest) st r → d.1.step ≡ Some k → IsLine guest d k s
      → ((undone : list_any (λ m. m == s.at.command) r.finished ≡ false) → replay_as c s ss d.0.command r ≡ Some new)
      → replay_step c s ss r ≡ new
  stepped d rest st r new k guest s ss next among step line h =
      let same : s.at.command ≡ d.0.told.command = ap (λ (l : StepLine). l.command) line.at in
      step_is c s ss r new (record { told = d.0.told; command = d.0.command }) (ap (asked_at c) same ∙ (tells d next.here).asked)
      (sym (ap (λ (l : StepLine). l.actor) line.at))
      (h (none_has s.at.command r.finished (λ i.
      let silent = among.over s.at.command i d (inl refl) (sym same) in
      absurd (cc (step, silent)))))

  -- what of the state behind an act has to be told, where its turns stay as they are
  pub record Leaves (st : State) (d : Act × Done) (r : Replay) (m : Contents) (vs : List (Option Vhost)) : Type 0 where
    pub what : is_turned d.0.what ≡ false
    pub accepted : d.1.accepted ≡ []
    pub under : d.1.state.under ≡ st.under
    pub memory : m ≡ d.1.state.memory
    pub vhosts : (n : ℕ) → at vs n ≡ option_map (held_as n r.under) (at d.1.state.vhosts n)
    pub held : (n : ℕ) (v : Vhost) → at d.1.state.vhosts n ≡ Some v → held_as n st.under v ≡ v

  turns_stay : (d : Act × Done) (rest : List (Act × Done)) (st : State) (r : Replay) → is_turned d.0.what ≡ false
      → d.1.state.under ≡ st.under → IsAmong c all (d ∷ rest) st r → (vhost ring : ℕ)
      → SameUnder (settled vhost ring rest (find (is_under_on vhost ring) d.1.state.under)) (find (is_under_on vhost ring) r.under)
  turns_stay d rest st r what same among vhost ring =
      subst (λ q. SameUnder q (find (is_under_on vhost ring) r.under))
      (settled_skip vhost ring d rest (find (is_under_on vhost ring) st.under) what
      ∙ ap (λ (us : List Under). settled vhost ring rest (find (is_under_on vhost ring) us)) (sym same))
      (among.under vhost ring)

  state_stays : (d : Act × Done) (rest : List (Act × Done)) (st : State) (r : Replay) (m : Contents) (vs : List (Option Vhost))
      → Leaves st d r m vs → IsAmong c all (d ∷ rest) st r → IsHeld c d.1.state
  state_stays d rest st r m vs left among = record {
    held = λ n v e. ap (λ (us : List Under). held_as n us v) left.under ∙ left.held n v e;
    asked = λ u i. among.state.asked u (subst (In u) left.under i);
  }

  accepts_on : (d : Act × Done) (rest : List (Act × Done)) (xs : List Accepted) → d.1.accepted ≡ []
      → xs ++ all_accepted (d ∷ rest) ≡ all_accepted all → xs ++ all_accepted rest ≡ all_accepted all
  accepts_on d rest xs none h = sym (ap (λ (ys : List Accepted). xs ++ (ys ++ all_accepted rest)) none) ∙ h

  -- an act that gives its command's answer
  pub ends : (d : Act × Done) (rest : List (Act × Done)) (st : State) (r : Replay) (m : Contents) (vs : List (Option Vhost)) (us : List Unset) (x : Answer)
      → IsNext all d rest → IsAmong c all (d ∷ rest) st r → Leaves st d r m vs → d.1.answer ≡ Some x → ((u : Unset) → In u us → IsUnset all u)
      → IsAmong c all rest d.1.state (done_with c d.0.told.command x (record r { memory = m; vhosts = vs; unsets = us }))
  ends d rest st r m vs us x next among left answers unset = record {
    state = state_stays d rest st r m vs left among;
    broken = among.broken;
    fails = still_right c shape d (tells d next.here) x answers r.fails among.fails;
    memory = left.memory;
    vhosts = left.vhosts;
    under = turns_stay d rest st r left.what left.under among;
    over = over;
    accepted = accepts_on d rest r.accepted left.accepted among.accepted;
    unset = unset;
    finished = finished;
    done = λ e i y has. done e (among.done e i y has);
    ended = λ n ring u found none. inr (among.ended n ring u (ap (find (is_under_on n ring)) (sym left.under) ∙ found) none);
  }
    where
      over : (n : ℕ) → In n (d.0.told.command ∷ r.finished) → (e : Act × Done) → In e rest → e.0.told.command ≡ n → e.1.step ≡ None
      over n (inl is) e i same =
          let none = next.order.0 e i (told_from d e next.here (next.later e i) (is ∙ sym same)) in
          absurd (cc (answers, none))
      over n (inr j) e i same = among.over n j e (inr i) same

      finished : (n : ℕ) → In n (d.0.told.command ∷ r.finished) → IsFinished all n
      finished n (inl is) = record { act = d; there = next.here; by = is; answers = ap is_some answers }
      finished n (inr j) = among.finished n j

      done : (e : Act × Done) → In e (d ∷ rest) ⊎ In e.0.told.command r.finished → In e rest ⊎ In e.0.told.command (d.0.told.command ∷ r.finished)
      done e (inl (inl is)) = inr (inl (ap (λ (z : Act × Done). z.0.told.command) is))
      done e (inl (inr i)) = inl i
      done e (inr j) = inr (inr j)

  -- one of a command that has no step
  pub passes_by : (d : Act × Done) (rest : List (Act × Done)) (st : State) (r : Replay)
      → IsNext all d rest → IsAmong c all (d ∷ rest) st r → Leaves st d r r.memory r.vhosts → has_steps d.0.command ≡ false
      → IsAmong c all rest d.1.state r
  passes_by d rest st r next among left none = record {
    state = state_stays d rest st r r.memory r.vhosts left among;
    broken = among.broken;
    fails = among.fails;
    memory = left.memory;
    vhosts = left.vhosts;
    under = turns_stay d rest st r left.what left.under among;
    over = λ n j e i same. among.over n j e (inr i) same;
    accepted = accepts_on d rest r.accepted left.accepted among.accepted;
    unset = among.unset;
    finished = among.finished;
    done = λ e i y has. done e has (among.done e i y has);
    ended = λ n ring u found none. among.ended n ring u (ap (find (is_under_on n ring)) (sym left.under) ∙ found) none;
  }
    where
      done : (e : Act × Done) → has_steps e.0.command ≡ true → In e (d ∷ rest) ⊎ In e.0.told.command r.finished → In e rest ⊎ In e.0.told.command r.finished
      done e has (inl (inl is)) = absurd (true≢false (sym has ∙ sym (ap (λ (z : Act × Done). has_steps z.0.command) is) ∙ none))
      done e has (inl (inr i)) = inl i
      done e has (inr j) = inr j
