-- What is kept of turns: what the vhost and the file of each have, and that the file's owner follows from the table.
use Rattle.std.proofs.Common.{◌≡◌, ℕ, ◌<◌, List, true, false, true≢false, Option, Some, None, refl, sym, ap, ◌∙◌}
use Rattle.std.specs.Prelude.{slice_get}
use Rattle.std.specs.Option.{option_map_or}
use Rattle.tap_frame.specs.declared.name.Name.{Name}
use Rattle.vhost_dev.specs.Settings.{hdr_of}
use Rattle.vring_turns.specs.Ready.{RxReady, TxReady}
use Rattle.vring_turns.specs.Ring.{done_in}
use Rattle.vring_turns.specs.RxTurn.{RxTurn}
use Rattle.vring_turns.specs.TxTurn.{TxTurn}
use Rattle.vring_turns.specs.Stage.{has_in_hand, is_giving, need_at, rx_is_over, tx_is_over}
use Rattle.scen_words.specs.declared.command.Command.{Command}
use Rattle.scen_words.specs.declared.command.Command.TheVariants as command
use Rattle.tap_ground.specs.Options.{◌>>=◌}
use Rattle.tap_world.specs.ByNumber.{at}
use Rattle.tap_world.specs.Setup.{Numbered, Setup}
use Rattle.tap_world.specs.Line.{File}
use Rattle.tap_world.specs.LineSteps.{is_in_hand_of}
use Rattle.tap_world.specs.Guests.{Vhost}
use Rattle.tap_world.specs.World.{Actor, Doing, World, current, name_of}
use Rattle.tap_world.specs.World.Doing.{Begun, Given, Receives, Teaches, Transmits}
use Rattle.tap_world.specs.StepTurns.{front_frame}
use Rattle.tap_world.specs.SoundActors.{CanBe, can_be, is_begun}
use Rattle.tap_world.specs.SoundTable.{commanded, writer_of, writing}
use Rattle.tap_world.specs.Steady.{IsAtTurn, IsReceiving, IsSending}
use Rattle.tap_world.specs.Each.{EachActor}
use Rattle.tap_steady.proofs.TurnSteps.{Overruns}

-- ---- what is kept

-- a receive turn that goes on, but for the file's owner
pub record RxFacts (s : Setup) (files : List (Option File)) (vhosts : List (Option Vhost)) (vhost file : ℕ) (t : RxTurn) : Type 0 where
  pub v : Vhost
  pub f : File
  pub is_vhost : at vhosts vhost ≡ Some v
  pub is_file : at files file ≡ Some f
  pub goes_on : rx_is_over t.stage ≡ false
  pub backend : v.settings.rx.file ≡ Some file
  pub mergeable : t.mergeable ≡ v.settings.mrg
  pub header : t.header ≡ hdr_of v.settings
  pub ready : RxReady t v.settings.rx.queue
  pub in_hand : is_in_hand_of vhost f ≡ has_in_hand t.stage
  pub front : has_in_hand t.stage ≡ true → front_frame s f ≡ t.held
  pub overruns : Overruns t.stage (need_at t.header t.held)

-- a transmit turn that goes on
pub record TxFacts (vhosts : List (Option Vhost)) (vhost file : ℕ) (t : TxTurn) (first : Name) : Type 0 where
  pub v : Vhost
  pub is_vhost : at vhosts vhost ≡ Some v
  pub goes_on : tx_is_over t.stage ≡ false
  pub backend : v.settings.tx.file ≡ Some file
  pub header : t.header ≡ hdr_of v.settings
  pub names : t.first ≡ first
  pub ready : TxReady t v.settings.tx.queue
  pub done : is_giving t.stage ≡ true → 0 < done_in v.settings.tx.queue

abbrev pub Facts : Setup → List (Option File) → List (Option Vhost) → Name → Command → Doing → Type 0
Facts s files vhosts first (command.RxTurn vhost) (Receives file t) = RxFacts s files vhosts vhost file t
Facts s files vhosts first (command.TxTurn vhost) (Transmits file t chains) = TxFacts vhosts vhost file t first
Facts s files vhosts first (command.TxTurn vhost) (Given file t chains frame) = TxFacts vhosts vhost file t first × (is_giving t.stage ≡ false)
Facts s files vhosts first (command.TxTurn vhost) (Teaches file t chains frame) = TxFacts vhosts vhost file t first × (is_giving t.stage ≡ false)
Facts s files vhosts first c doing = Unit {0}

pub record HaveFacts (s : Setup) (w : World) : Type 0 where
  pub each : (i : ℕ) (a : Actor) → slice_get w.actors i ≡ Some a → (c : Numbered) → current a.script ≡ Some c
      → Facts s w.files w.vhosts (name_of i c.number) c.command a.doing

pub begun_facts : (s : Setup) (files : List (Option File)) (vhosts : List (Option Vhost)) (first : Name) (c : Command) → Facts s files vhosts first c Begun
begun_facts s files vhosts first (command.RxTurn vhost) = tt
begun_facts s files vhosts first (command.TxTurn vhost) = tt
begun_facts s files vhosts first c = tt

-- ---- from what is steady, and back

of_sending : (w : World) (vhost file : ℕ) (t : TxTurn) (first : Name) → IsSending w vhost file t first → TxFacts w.vhosts vhost file t first
of_sending w vhost file t first h = record {
  v = h.v;
  is_vhost = h.is_vhost;
  goes_on = h.goes_on;
  backend = h.backend;
  header = h.header;
  names = h.names;
  ready = h.ready;
  done = h.done;
}

pub to_sending : (w : World) (vhost file : ℕ) (t : TxTurn) (first : Name) → TxFacts w.vhosts vhost file t first → IsSending w vhost file t first
to_sending w vhost file t first h = record {
  v = h.v;
  is_vhost = h.is_vhost;
  goes_on = h.goes_on;
  backend = h.backend;
  header = h.header;
  names = h.names;
  ready = h.ready;
  done = h.done;
}

of_receiving : (s : Setup) (w : World) (vhost file : ℕ) (t : RxTurn) → IsReceiving s w vhost file t → RxFacts s w.files w.vhosts vhost file t
of_receiving s w vhost file t h = record {
  v = h.v;
  f = h.f;
  is_vhost = h.is_vhost;
  is_file = h.is_file;
  goes_on = h.goes_on;
  backend = h.backend;
  mergeable = h.mergeable;
  header = h.header;
  ready = h.ready;
  in_hand = h.in_hand;
  front = h.front;
  overruns = h.overruns;
}

pub facts_of : (s : Setup) (w : World) (first : Name) (c : Command) (d : Doing) → IsAtTurn s w first c d → Facts s w.files w.vhosts first c d
facts_of s w first (command.RxTurn vhost) (Receives file t) h = of_receiving s w vhost file t h
facts_of s w first (command.TxTurn vhost) (Transmits file t chains) h = of_sending w vhost file t first h
facts_of s w first (command.TxTurn vhost) (Given file t chains frame) h = (of_sending w vhost file t first h.0, h.1)
facts_of s w first (command.TxTurn vhost) (Teaches file t chains frame) h = (of_sending w vhost file t first h.0, h.1)
facts_of s w first c d h = tt

-- ---- the command that holds the writer

pub record Writes (w : World) (d : Doing) : Type 0 where
  pub j : ℕ
  pub a : Actor
  pub c : Numbered
  pub found : slice_get w.actors j ≡ Some a
  pub doing : a.doing ≡ d
  pub now : current a.script ≡ Some c
  pub can : can_be d c.command ≡ true
  pub is : commanded w ≡ Some c.command

pub writes : (w : World) (d : Doing) → EachActor w (λ actor a. CanBe a) → writing w ≡ d → is_begun d ≡ false → Writes w d
writes w d stand is some = with_writer w.writer refl is
  where
    with_current : (j : ℕ) (a : Actor) → slice_get w.actors j ≡ Some a → writer_of w ≡ Some a → a.doing ≡ d → (o : Option Numbered) → current a.script ≡ o
        → option_map_or (λ (c : Numbered). can_be a.doing c.command) o (is_begun a.doing) ≡ true → Writes w d
    with_current j a at_ holds doing None now can = absurd (true≢false (sym can ∙ ap is_begun doing ∙ some))
    with_current j a at_ holds doing (Some c) now can = record {
      j = j;
      a = a;
      c = c;
      found = at_;
      doing = doing;
      now = now;
      can = ap (λ (e : Doing). can_be e c.command) (sym doing) ∙ can;
      is = ap (λ (o : Option Actor). o >>= λ a. current a.script >>= λ c. Some c.command) holds
          ∙ ap (λ (o : Option Numbered). o >>= λ c. Some c.command) now;
    }

    with_actor : (j : ℕ) (o : Option Actor) → slice_get w.actors j ≡ o → w.writer ≡ Some j → option_map_or (λ (a : Actor). a.doing) o Begun ≡ d → Writes w d
    with_actor j None at_ holds h = absurd (true≢false (ap is_begun h ∙ some))
    with_actor j (Some a) at_ holds h =
        with_current j a at_ (ap (λ (o : Option ℕ). o >>= λ k. slice_get w.actors k) holds ∙ at_) h (current a.script) refl
        (stand j a at_)

    with_writer : (o : Option ℕ) → w.writer ≡ o → option_map_or (λ (a : Actor). a.doing) (writer_of w) Begun ≡ d → Writes w d
    with_writer None holds h =
        absurd (true≢false (ap is_begun (ap (λ (o : Option ℕ). option_map_or (λ (a : Actor). a.doing) (o >>= λ k. slice_get w.actors k) Begun) (sym holds) ∙ h) ∙ some))
    with_writer (Some j) holds h =
        with_actor j (slice_get w.actors j) refl holds
        (ap (λ (o : Option ℕ). option_map_or (λ (a : Actor). a.doing) (o >>= λ k. slice_get w.actors k) Begun) (sym holds) ∙ h)
