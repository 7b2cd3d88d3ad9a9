-- What an actor does next, and whether all commands of a phase have ended.
use Rattle.std.proofs.Common.{◌≡◌, ℕ, zero, suc, ◌<◌, Bool, true, List, [], ◌∷◌, length, map, Option, Some, None, refl, sym, ap, ◌∙◌, subst, arith}
use Rattle.std.specs.Prelude.{◌&&◌, if◌then◌else◌, is_none, option_map, slice_get}
use Rattle.std.specs.List.{AllByRecursion, list_all}
use Rattle.std.specs.Option.{option_map_or}
use Rattle.scen_laid.specs.Runs.{LaidRunsAreSound}
use Rattle.scen_text.specs.declared.scenario.Line.{Line}
use Rattle.scen_text.specs.declared.scenario.Scenario.{Scenario}
use Rattle.tap_guests.specs.Side.{Side}
use Rattle.tap_frame.specs.Frame.{FrameValue}
use Rattle.tap_ground.specs.Options.{◌>>=◌}
use Rattle.tap_waits.specs.Going.{RunsGoOn}
use Rattle.tap_waits.specs.NextChoices.{does_by}
use Rattle.tap_world.specs.declared.event.EventKind.{EventKind}
use Rattle.tap_world.specs.Runs as runs
use Rattle.tap_world.specs.Runs.Next.{Does, Ended, Waits}
use Rattle.tap_world.specs.Runs.{Next}
use Rattle.tap_world.specs.Scripts.{next_kind}
use Rattle.tap_world.specs.Setup.{Numbered, setup_of}
use Rattle.tap_world.specs.Waiting.{may_go_from}
use Rattle.tap_world.specs.World.{Actor, World, current}
use Rattle.tap_world.specs.declared.told.Said.{Said}
use Rattle.tap_sound.specs.Worlds.{OpeningIsFirst}
use Rattle.core_actors.specs.Acting.{Acting, HasPlaces, actor_of, actors_of, numbered, script_of, with_command}
use Rattle.core_next.specs.Telling.{HasWorker}
use Rattle.core_shared.specs.Coming.{come_of}
use Rattle.core_shared.specs.Suiting.{Suits}
use Rattle.core_shared.specs.declared.doing.Doing.{Doing}
use Rattle.core_shared.specs.declared.shared.Shared.{Shared}
use Rattle.tap_core.specs.Running.{IsRunning, SuitsFirst, asking_for, current_line, lines_in, world_of}
use Rattle.tap_core.specs.Carried.{IsPendingAt, IsPendingOf, pending_in}
use Rattle.tap_core.proofs.Carrying.{carries, has_worker, none_yet}
use Rattle.tap_core.proofs.Kit.{at_place}
use Rattle.tap_core.proofs.Reaching.{is_world}

-- ---- places

pub place_of_map : {A B : Type 0} (f : A → B) (xs : List A) (i : ℕ) → slice_get (map f xs) i ≡ option_map f (slice_get xs i)
place_of_map f [] zero = refl
place_of_map f [] (suc i) = refl
place_of_map f (x ∷ xs) zero = refl
place_of_map f (x ∷ xs) (suc i) = place_of_map f xs i

there : {A : Type 0} (xs : List A) (i : ℕ) → i < length xs → (x : A) × (slice_get xs i ≡ Some x)
there [] i h = absurd (omega arith)
there (x ∷ xs) zero h = (x, refl)
there (x ∷ xs) (suc i) h = there xs i (omega arith)

-- ---- an actor's first command

-- it is the command of its line; without a line there is none
script_at : (lines : List Line) (i : ℕ) (is : List ℕ) (l : Line) → slice_get lines i ≡ Some l
    → current (script_of lines (i ∷ is)) ≡ Some (numbered l)
script_at lines i is l e = ap (λ (o : Option Line). current (with_command o (script_of lines is))) e

pub current_is : (lines : List Line) (script : List ℕ) → AllByRecursion (λ i. i < length lines) script
    → current (script_of lines script) ≡ option_map numbered (slice_get script 0 >>= λ i. slice_get lines i)
current_is lines [] all = refl
current_is lines (i ∷ is) all =
    let t = there lines i all.0 in
    script_at lines i is t.0 t.1 ∙ ap (λ (o : Option Line). option_map numbered o) (sym t.1)

-- ---- whether all have ended

pub ended_is : (lines : List Line) (vhosts : List (Option Side)) (as_ : List Acting) → AllByRecursion (HasPlaces lines) as_
    → list_all (λ (a : Acting). is_none (slice_get a.script 0)) as_
    ≡ list_all (λ (a : Actor). is_none (current a.script)) (actors_of lines vhosts as_)
ended_is lines vhosts [] all = refl
ended_is lines vhosts (a ∷ as_) all =
    λ k. is_left a.script all.0 k && ended_is lines vhosts as_ all.1 k
  where
    is_left : (script : List ℕ) → AllByRecursion (λ i. i < length lines) script
        → is_none (slice_get script 0) ≡ is_none (current (script_of lines script))
    is_left [] h = refl
    is_left (i ∷ is) h =
        let t = there lines i h.0 in
        sym (ap (λ (o : Option Numbered). is_none o) (script_at lines i is t.0 t.1))

-- ---- what is next

-- what an actor does next, by the line of its command
abbrev pub next_by_line : World → ℕ → Option Acting → List (Option Side) → Option Line → Next
next_by_line w i None vhosts o = Ended
next_by_line w i (Some a) vhosts None = Ended
next_by_line w i (Some a) vhosts (Some l) =
    option_map_or
    (λ kind. if may_go_from w i l.command (come_of vhosts a.doing)
    then Does (record { actor = i; command = l.number; kind = kind }) else Waits)
    (next_kind w (come_of vhosts a.doing) l.command) Waits

of_line : (w : World) (i : ℕ) (lines : List Line) (vhosts : List (Option Side)) (a : Acting) (o : Option Line)
    → does_by w i (actor_of lines vhosts a) (option_map numbered o) ≡ next_by_line w i (Some a) vhosts o
of_line w i lines vhosts a None = refl
of_line w i lines vhosts a (Some l) = refl

of_actor : (w : World) (s : Scenario) (x : Shared) (actors : List Acting) (i : ℕ) (a : Option Acting) → slice_get actors i ≡ a
    → AllByRecursion (HasPlaces (lines_in s x.phase)) actors
    → option_map_or (λ (b : Actor). does_by w i b (current b.script)) (option_map (actor_of (lines_in s x.phase) x.vhosts) a) Ended
    ≡ next_by_line w i a x.vhosts (a >>= λ b. slice_get b.script 0 >>= λ place. slice_get (lines_in s x.phase) place)
of_actor w s x actors i None e all = refl
of_actor w s x actors i (Some a) e all =
    ap (λ (c : Option Numbered). does_by w i (actor_of (lines_in s x.phase) x.vhosts a) c)
    (current_is (lines_in s x.phase) a.script (at_place (HasPlaces (lines_in s x.phase)) actors i a all e))
    ∙ of_line w i (lines_in s x.phase) x.vhosts a (slice_get a.script 0 >>= λ place. slice_get (lines_in s x.phase) place)

pub next_is : (s : Scenario) (begun : ℕ) (x : Shared) (actors : List Acting) (said : List Said) (i : ℕ) → OpeningIsFirst → RunsGoOn
    → IsRunning s begun x actors said
    → next_by_line (world_of s x actors said) i (slice_get actors i) x.vhosts (current_line s x.phase actors i)
    ≡ runs.next (setup_of s) (world_of s x actors said) i
next_is s begun x actors said i first going h =
    let w = world_of s x actors said in
    sym ((going s w h.laid (is_world s begun w first h.reached)).choices.next i
    ∙ ap (λ (o : Option Actor). option_map_or (λ (b : Actor). does_by w i b (current b.script)) o Ended)
    (place_of_map (actor_of (lines_in s x.phase) x.vhosts) actors i)
    ∙ of_actor w s x actors i (slice_get actors i) refl h.places)

-- ---- with what the code found

-- no line
pub when_idle : (w : World) (i : ℕ) (vhosts : List (Option Side)) (o : Option Acting) (a : Acting) (l : Option Line) (n : Next) → Some a ≡ o
    → None ≡ l → next_by_line w i o vhosts l ≡ n → Ended ≡ n
when_idle w i vhosts o a l n is without e = (λ k. next_by_line w i (is k) vhosts (without k)) ∙ e

-- a line: its command has come so far
abbrev pub kind_of : Bool → Option EventKind → ℕ → ℕ → Next
kind_of may kind i n =
    option_map_or (λ k. if may then Does (record { actor = i; command = n; kind = k }) else Waits) kind Waits

of_kind : (w : World) (i : ℕ) (vhosts : List (Option Side)) (o : Option Acting) (a : Acting) (p : Option Line) (l : Line) (kind : Option EventKind) (may : Bool) (n : Next)
    → Some a ≡ o → Some l ≡ p → next_kind w (come_of vhosts a.doing) l.command ≡ kind
    → may_go_from w i l.command (come_of vhosts a.doing) ≡ may
    → next_by_line w i o vhosts p ≡ n → kind_of may kind i l.number ≡ n
of_kind w i vhosts o a p l kind may n is has next may_is e =
    (λ k. kind_of (sym may_is k) (sym next k) i l.number) ∙ (λ k. next_by_line w i (is k) vhosts (has k)) ∙ e

-- no kind
pub when_over : (w : World) (i : ℕ) (vhosts : List (Option Side)) (o : Option Acting) (a : Acting) (p : Option Line) (l : Line) (d : Doing) (n : Next)
    → Some a ≡ o → Some l ≡ p → d ≡ a.doing → next_kind w (come_of vhosts d) l.command ≡ None
    → next_by_line w i o vhosts p ≡ n → Waits ≡ n
when_over w i vhosts o a p l d n is has came next e =
    of_kind w i vhosts o a p l None (may_go_from w i l.command (come_of vhosts a.doing)) n is has
    (ap (λ (b : Doing). next_kind w (come_of vhosts b) l.command) (sym came) ∙ next) refl e

-- a kind, and whether the actor may go on
pub when_kind : (w : World) (i : ℕ) (vhosts : List (Option Side)) (o : Option Acting) (a : Acting) (p : Option Line) (l : Line) (d b : Doing) (kind : EventKind) (may : Bool) (n : Next)
    → Some a ≡ o → Some l ≡ p → d ≡ a.doing → next_kind w (come_of vhosts d) l.command ≡ Some kind
    → b ≡ a.doing → may_go_from w i l.command (come_of vhosts b) ≡ may
    → next_by_line w i o vhosts p ≡ n → kind_of may (Some kind) i l.number ≡ n
when_kind w i vhosts o a p l d b kind may n is has came next come_so may_is e =
    of_kind w i vhosts o a p l (Some kind) may n is has
    (ap (λ (b : Doing). next_kind w (come_of vhosts b) l.command) (sym came) ∙ next)
    (ap (λ (b : Doing). may_go_from w i l.command (come_of vhosts b)) (sym come_so) ∙ may_is) e

-- ---- what a command carries

command_is : (s : Scenario) (x : Shared) (actors : List Acting) (i : ℕ) (a : Acting) (l : Line) → AllByRecursion (HasPlaces (lines_in s x.phase)) actors
    → Some a ≡ slice_get actors i → Some l ≡ current_line s x.phase actors i
    → current (script_of (lines_in s x.phase) a.script) ≡ Some (numbered l)
command_is s x actors i a l all is has =
    current_is (lines_in s x.phase) a.script (at_place (HasPlaces (lines_in s x.phase)) actors i a all (sym is))
    ∙ ap (λ (o : Option Line). option_map numbered o)
    (ap (λ (o : Option Acting). o >>= λ b. slice_get b.script 0 >>= λ place. slice_get (lines_in s x.phase) place) is ∙ sym has)

pub suits_so : (s : Scenario) (begun : ℕ) (x : Shared) (actors : List Acting) (said : List Said) (i : ℕ) (a : Acting) (l : Line) → IsRunning s begun x actors said
    → Some a ≡ slice_get actors i → Some l ≡ current_line s x.phase actors i
    → Suits x.vhosts (asking_for s i a (numbered l)) a.doing
suits_so s begun x actors said i a l h is has =
    subst (λ (o : Option Numbered). SuitsFirst s x.vhosts i a o)
    (command_is s x actors i a l h.places is has) (h.suits i a (sym is))

pub worker_there : (s : Scenario) (begun : ℕ) (x : Shared) (actors : List Acting) (said : List Said) (i : ℕ) (a : Acting) (l : Line) (d : Doing) → IsRunning s begun x actors said
    → Some a ≡ slice_get actors i → Some l ≡ current_line s x.phase actors i → d ≡ a.doing → HasWorker x.vhosts d
worker_there s begun x actors said i a l d h is has came =
    subst (λ (b : Doing). HasWorker x.vhosts b) (sym came)
    (has_worker x.vhosts (asking_for s i a (numbered l)) a.doing (suits_so s begun x actors said i a l h is has))

-- the frame that is told
none_left : (o : Option Numbered) (f : Numbered → Bool) (b : Bool) → o ≡ None → option_map_or f o b ≡ true → b ≡ true
none_left None f b is e = e
none_left (Some c) f b is e = absurd (cc (is))

frame_is : (s : Scenario) (begun : ℕ) (x : Shared) (actors : List Acting) (said : List Said) (i : ℕ) (a : Acting) → OpeningIsFirst → LaidRunsAreSound
    → IsRunning s begun x actors said → slice_get actors i ≡ Some a
    → IsPendingAt (setup_of s) i (slice_get (world_of s x actors said).actors i) (pending_in x.vhosts a.doing)
frame_is s begun x actors said i a first sounds h is =
    subst (λ (o : Option Actor). IsPendingAt (setup_of s) i o (pending_in x.vhosts a.doing)) (sym there_it_is)
    (by_command (current (script_of (lines_in s x.phase) a.script)) refl)
  where
    there_it_is : slice_get (world_of s x actors said).actors i ≡ Some (actor_of (lines_in s x.phase) x.vhosts a)
    there_it_is =
        place_of_map (actor_of (lines_in s x.phase) x.vhosts) actors i
        ∙ ap (λ (o : Option Acting). option_map (actor_of (lines_in s x.phase) x.vhosts) o) is

    by_command : (o : Option Numbered) → current (script_of (lines_in s x.phase) a.script) ≡ o
        → IsPendingOf (setup_of s) i (come_of x.vhosts a.doing) o (pending_in x.vhosts a.doing)
    by_command None e =
        none_yet x.vhosts a.doing
        (none_left (current (script_of (lines_in s x.phase) a.script)) _ _ e
        (((sounds s h.laid).reached (world_of s x actors said)
        (is_world s begun (world_of s x actors said) first h.reached)).sound.actors.stand i _ there_it_is))
    by_command (Some c) e =
        carries x.vhosts (asking_for s i a c) a.doing
        (subst (λ (o : Option Numbered). SuitsFirst s x.vhosts i a o) e (h.suits i a is))

pub pending_is : (s : Scenario) (begun : ℕ) (x : Shared) (actors : List Acting) (said : List Said) (i : ℕ) (a : Acting) (d : Doing) (f : Option FrameValue) → OpeningIsFirst → LaidRunsAreSound
    → IsRunning s begun x actors said → Some a ≡ slice_get actors i → d ≡ a.doing → f ≡ pending_in x.vhosts d
    → IsPendingAt (setup_of s) i (slice_get (world_of s x actors said).actors i) f
pending_is s begun x actors said i a d f first sounds h is came carried =
    subst (λ (g : Option FrameValue). IsPendingAt (setup_of s) i (slice_get (world_of s x actors said).actors i) g)
    (sym (carried ∙ ap (λ (b : Doing). pending_in x.vhosts b) came)) (frame_is s begun x actors said i a first sounds h (sym is))
