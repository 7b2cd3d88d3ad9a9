-- What each event of any command says where it ends it; and so what each answer says.
use Rattle.std.proofs.Common.{◌≡◌, ℕ, List, true, Some, ⊎_elim, refl, sym, ap, ◌∙◌, subst}
use Rattle.std.specs.Prelude.{Bool, slice_get}
use Rattle.scen_laid.specs.Runs.{LaidRunsAreSound}
use Rattle.scen_words.specs.declared.command.Command.{Command}
use Rattle.scen_words.specs.declared.command.Command.TheVariants as command
use Rattle.tap_grows.specs.Moments.{EventTells}
use Rattle.tap_grows.specs.Moments.EventTells.{OfAPurge, OfItsOwn}
use Rattle.tap_sound.proofs.Scripts.{effect_actors}
use Rattle.tap_sound.proofs.Taken.{IsEnding, ending_is}
use Rattle.tap_sound.proofs.Turned.{with_nth_inv}
use Rattle.tap_steady.specs.Runs.{ReachedIsSteady}
use Rattle.tap_world.specs.declared.event.Event.{Event}
use Rattle.tap_world.specs.declared.event.Heard.{Heard}
use Rattle.tap_world.specs.declared.told.Said.{Said}
use Rattle.tap_world.specs.ByNumber.{with_nth}
use Rattle.tap_world.specs.Effect.{Ending, Onward, actor_after}
use Rattle.tap_world.specs.Effect.Onward.{Ends, Goes, Stays}
use Rattle.tap_world.specs.Setup.{Numbered, Setup, setup_of}
use Rattle.tap_world.specs.Step as rows
use Rattle.tap_world.specs.World.{Actor, World, current}
use Rattle.tap_world.specs.World.Doing.{Purges}
use Rattle.tap_answers.specs.Laws.{AnswersSay}
use Rattle.tap_answers.proofs.BackendRows.{backends_by}
use Rattle.tap_answers.proofs.GuestRows.{guests_by}
use Rattle.tap_answers.proofs.OperationRows.{operations_by}
use Rattle.tap_answers.proofs.ReadRows.{reads_by}
use Rattle.tap_answers.proofs.SendRows.{sends_by}
use Rattle.tap_answers.proofs.Telling.{RowsSay, all_say, event_is, head_is, said_is}
use Rattle.tap_answers.proofs.TurnRows.{turns_by}
use Rattle.tap_answers.proofs.WriteRows.{writes_by}

-- ---- all commands

abbrev pub any : Command → Bool
any c = true

pub any_by : RowsSay any
any_by s w u me low n script d (command.Send device hdr bytes) is =
    sends_by s w u me low n script d (command.Send device hdr bytes) refl
any_by s w u me low n script d (command.Read file room) is =
    reads_by s w u me low n script d (command.Read file room) refl
any_by s w u me low n script d (command.Write file bytes) is =
    writes_by s w u me low n script d (command.Write file bytes) refl
any_by s w u me low n script d (command.SetIff file device flags) is =
    operations_by s w u me low n script d (command.SetIff file device flags) refl
any_by s w u me low n script d (command.SetQueue file flags) is =
    operations_by s w u me low n script d (command.SetQueue file flags) refl
any_by s w u me low n script d (command.Close file) is =
    operations_by s w u me low n script d (command.Close file) refl
any_by s w u me low n script d (command.Persist file on) is =
    operations_by s w u me low n script d (command.Persist file on) refl
any_by s w u me low n script d (command.HdrSize file size) is =
    operations_by s w u me low n script d (command.HdrSize file size) refl
any_by s w u me low n script d (command.Steer file program) is =
    operations_by s w u me low n script d (command.Steer file program) refl
any_by s w u me low n script d (command.Filter file program) is =
    operations_by s w u me low n script d (command.Filter file program) refl
any_by s w u me low n script d (command.Tick now) is =
    operations_by s w u me low n script d (command.Tick now) refl
any_by s w u me low n script d (command.Resize file capacity) is =
    operations_by s w u me low n script d (command.Resize file capacity) refl
any_by s w u me low n script d (command.Backend vhost ring file) is =
    backends_by s w u me low n script d (command.Backend vhost ring file) refl
any_by s w u me low n script d (command.RxTurn vhost) is =
    turns_by s w u me low n script d (command.RxTurn vhost) refl
any_by s w u me low n script d (command.TxTurn vhost) is =
    turns_by s w u me low n script d (command.TxTurn vhost) refl
any_by s w u me low n script d (command.Features vhost bits) is =
    guests_by s w u me low n script d (command.Features vhost bits) refl
any_by s w u me low n script d (command.VNum vhost ring m) is =
    guests_by s w u me low n script d (command.VNum vhost ring m) refl
any_by s w u me low n script d (command.VBase vhost ring m) is =
    guests_by s w u me low n script d (command.VBase vhost ring m) refl
any_by s w u me low n script d (command.VAddr vhost ring desc avail used) is =
    guests_by s w u me low n script d (command.VAddr vhost ring desc avail used) refl
any_by s w u me low n script d (command.GetBase vhost ring) is =
    guests_by s w u me low n script d (command.GetBase vhost ring) refl
any_by s w u me low n script d (command.DriveAt vhost ring addr) is =
    guests_by s w u me low n script d (command.DriveAt vhost ring addr) refl
any_by s w u me low n script d (command.PostIn vhost ring lens) is =
    guests_by s w u me low n script d (command.PostIn vhost ring lens) refl
any_by s w u me low n script d (command.PostOut vhost ring bytes) is =
    guests_by s w u me low n script d (command.PostOut vhost ring bytes) refl
any_by s w u me low n script d (command.Harvest vhost ring) is =
    guests_by s w u me low n script d (command.Harvest vhost ring) refl
any_by s w u me low n script d (command.Poke guest addr bytes) is =
    guests_by s w u me low n script d (command.Poke guest addr bytes) refl
any_by s w u me low n script d (command.Peek guest addr len) is =
    guests_by s w u me low n script d (command.Peek guest addr len) refl

-- ---- whose answer it is

-- an answer is that of its actor's command under way
record IsAsked (w : World) (x : Said) : Type 0 where
  phase : x.phase ≡ w.phase
  actor : Actor
  is_actor : slice_get w.actors x.line.actor ≡ Some actor
  now : Numbered
  is_now : current actor.script ≡ Some now
  number : now.number ≡ x.line.command

-- a command that goes on to purge has its script left
purging_script : (o : Onward) (a : Actor) (file version : ℕ) → (actor_after o a).doing ≡ Purges file version
    → (actor_after o a).script ≡ a.script
purging_script (Goes seen d f) a file version is = refl
purging_script (Stays f) a file version is = refl
purging_script (Ends seen y) a file version is = absurd (cc (is))

purger : (w v : World) (me : ℕ) (a : Actor) (o : Onward) (p : Ending) → slice_get w.actors me ≡ Some a
    → v.actors ≡ with_nth me (actor_after o a) w.actors → (end : IsEnding v p)
    → (b : Actor) × (slice_get w.actors p.actor ≡ Some b) × (p.state.script ≡ b.script)
purger w v me a o p at_a actors end = ⊎_elim
    (λ mine. (
      a,
      subst (λ (m : ℕ). slice_get w.actors m ≡ Some a) mine.0 at_a,
      ap (λ (y : Actor). y.script) (sym mine.1)
          ∙ purging_script o a end.file p.version (ap (λ (y : Actor). y.doing) mine.1 ∙ end.doing),
    ))
    (λ other. (p.state, other.1, refl))
    (with_nth_inv me (actor_after o a) w.actors p.actor p.state
    (ap (λ (l : List Actor). slice_get l p.actor) (sym actors) ∙ end.found))

asked : (s : Setup) (w : World) (e : Event) (u : World × Heard) (x : Said) → rows.step s w e ≡ Some u → EventTells s w e x
    → IsAsked w x
asked s w e u x h (OfItsOwn r is said) =
    let t = event_is s w e u r h is in
    let q = said_is r.onward w.phase e.actor e.command x said in
    subst (IsAsked w) q.is (record {
      phase = refl;
      actor = t.its.actor;
      is_actor = t.its.found;
      now = t.its.now;
      is_now = t.its.current_is;
      number = t.its.number;
    })
asked s w e u x h (OfAPurge r a v p is at_a made ends said) =
    let end = ending_is v p ends in
    let b = purger w v e.actor a r.onward p at_a (effect_actors r e.actor a e.command w v made) end in
    subst (IsAsked w) (head_is _ x said) (record {
      phase = refl;
      actor = b.0;
      is_actor = b.1;
      now = end.now;
      is_now = ap (λ (l : List Numbered). current l) (sym b.2) ∙ end.current_is;
      number = end.number;
    })

-- ---- each answer

pub answers_say : LaidRunsAreSound → ReachedIsSteady → AnswersSay
answers_say runs steady s w e u x laid reached h told =
    let q = asked (setup_of s) w e u x h told in
    let says = all_say any any_by runs steady s w e u x laid reached h told q.actor q.now q.is_actor q.is_now refl in
    record {
      phase = q.phase;
      actor = q.actor;
      is_actor = q.is_actor;
      now = q.now;
      is_now = q.is_now;
      number = q.number;
      from = says.1.from;
      to = says.1.to;
      says = says.0;
    }
