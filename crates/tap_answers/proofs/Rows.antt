-- What is known before an event, what it leaves, and what a row says of the answer by which its command ends.
use Rattle.std.proofs.Common.{◌≡◌, ◌⊎◌, ℕ, suc, ◌+◌, ◌≤◌, List, [], ◌∷◌, ◌++◌, length, map, true, Option, Some, sym, ap, ◌∙◌, arith, length-append}
use Rattle.std.specs.Prelude.{slice_get}
use Rattle.std.specs.List.{AllByRecursion}
use Rattle.tap_steer.specs.declared.operation.Op.{Op}
use Rattle.scen_words.specs.declared.command.Command.{Command}
use Rattle.scen_words.specs.declared.command.Command.TheVariants as command
use Rattle.tap_world.specs.declared.event.EventKind.{EventKind}
use Rattle.tap_world.specs.ByNumber.{at}
use Rattle.tap_world.specs.Each.{EachFile}
use Rattle.tap_world.specs.Effect.{Effect, Onward, files_after, guests_after, vhosts_after, with_effect}
use Rattle.tap_world.specs.Effect.OnFiles.{OnFile}
use Rattle.tap_world.specs.Effect.Onward.{Ends, Goes, Stays}
use Rattle.tap_world.specs.Line.{File}
use Rattle.tap_world.specs.LineSteps.{Change, changed}
use Rattle.tap_world.specs.Scripts.{is_kind, next_kind}
use Rattle.tap_world.specs.Setup.{Numbered, Setup}
use Rattle.tap_world.specs.Sound.{holds}
use Rattle.tap_world.specs.SoundActors.{can_be}
use Rattle.tap_world.specs.Steady.{FoundIn, IsClaimed, IsOpOf, IsShrinking, WasSent, version_in}
use Rattle.tap_world.specs.Step.{row}
use Rattle.tap_world.specs.declared.told.Published.{Published}
use Rattle.tap_world.specs.World.{Actor, Doing, World, name_of, newest, table_at}
use Rattle.tap_world.specs.World.Doing.{Placed, Purges, Receives, Shrinks, Withdrawn}
use Rattle.tap_sound.proofs.Kit.{WhereSome, some_same, then_some}
use Rattle.vring_turns.specs.RxTurn.{RxTurn}
use Rattle.tap_answers.specs.Idle.{is_idle}
use Rattle.tap_answers.specs.Says.{SaysBy}
use Rattle.tap_answers.specs.SaysTurns.{HasNoFrame}
use Rattle.tap_answers.specs.SaysShared.{Occasion, as_its}
use Rattle.tap_answers.proofs.Kit.{with_at_here}

-- ---- before the event

-- a version that the command has published: that of one of its operations, and seen
pub record HasPublished (s : Setup) (o : Occasion) (c : Command) (version : ℕ) : Type 0 where
  pub seen : version ≡ o.known
  pub index : ℕ
  pub op : Op
  pub is : version ≡ suc index
  pub published : slice_get o.before.ops index ≡ Some (as_its o op)
  pub its : IsOpOf s c op

-- what is known of the command
pub record Known (s : Setup) (o : Occasion) (c : Command) : Type 0 where
  pub can : can_be o.doing c ≡ true
  pub seen : o.known ≤ newest o.before
  pub newest : holds o.doing ≡ true → o.known ≡ newest o.before
  pub found : FoundIn (table_at s o.before o.known) c o.doing
  pub claim : (file place epoch len : ℕ) → o.doing ≡ Placed file place epoch len
      → IsClaimed o.before o.actor file place epoch len (name_of o.actor o.number)
  pub cuts : (other asked file places cuts : ℕ) → c ≡ command.Resize other asked
      → o.doing ≡ Shrinks file places cuts → IsShrinking s o.before o.actor file places cuts asked
  pub version : (version : ℕ) → version_in o.doing ≡ Some version → HasPublished s o c version
  pub sent : EachFile o.before (λ file f. AllByRecursion (WasSent s) f.line)

-- ---- behind it

-- what an effect leaves, and the end of a purge behind it
pub record Leaves (r : Effect) (me n : ℕ) (w u : World) : Type 0 where
  pub ops : u.ops ≡ w.ops ++ map (λ (x : Op). record { phase = w.phase; actor = me; command = n; op = x }) r.ops
  pub files : files_after r.files w.files ≡ Some u.files
  pub vhosts : u.vhosts ≡ vhosts_after r.vhosts w.vhosts
  pub hosted : u.hosted ≡ w.hosted ++ r.hosts
  pub dropped : u.dropped ≡ w.dropped ++ r.drops

pub made_leaves : (r : Effect) (me : ℕ) (a : Actor) (n : ℕ) (w v : World) → with_effect r me a n w ≡ Some v
    → Leaves r me n w v
made_leaves r me a n w v e =
    let f = then_some (files_after r.files w.files) _ v e in
    let g = then_some (guests_after me n r.guests w.guests) _ v f.2 in
    let same = some_same _ v g.2 in
    record {
      ops = ap (λ (x : World). x.ops) (sym same);
      files = f.1 ∙ ap (λ (x : World). Some x.files) same;
      vhosts = ap (λ (x : World). x.vhosts) (sym same);
      hosted = ap (λ (x : World). x.hosted) (sym same);
      dropped = ap (λ (x : World). x.dropped) (sym same);
    }

-- the one file that changes
pub record OneFile (file : ℕ) (x : Change) (files after : List (Option File)) : Type 0 where
  pub f : File
  pub g : File
  pub is_before : at files file ≡ Some f
  pub is_changed : changed x f ≡ Some g
  pub is_after : at after file ≡ Some g

pub one_file : (file : ℕ) (x : Change) (files after : List (Option File))
    → files_after (OnFile file x) files ≡ Some after → OneFile file x files after
one_file file x files after e =
    let f = then_some (at files file) _ after e in
    let g = then_some (changed x f.0) _ after f.2 in
    record {
      f = f.0;
      g = g.0;
      is_before = f.1;
      is_changed = g.1;
      is_after = ap (λ (l : List (Option File)). at l file) (sym (some_same _ after g.2))
          ∙ with_at_here file f.0 g.0 files f.1;
    }

-- ---- the answer

-- SEEN isn't below what the actor had seen, nor above what is published by then
pub record IsSeen (o : Occasion) (seen : ℕ) : Type 0 where
  pub from : o.known ≤ seen
  pub to : seen ≤ newest o.after

-- a receive turn was to end so before the event, or finds no frame ready at it
abbrev pub WasIdle : Occasion → ℕ → Type 0
WasIdle o file =
    (t : RxTurn) × (o.doing ≡ Receives file t)
    × ((is_idle t.stage ≡ true) ⊎ ((place : ℕ) × HasNoFrame o.before file place))

-- A purge begins as the gate is shut, and sees nothing; and a receive turn is to end since no frame was ready where it
-- found none.
abbrev pub GoesOn : Occasion → ℕ → Doing → Type 0
GoesOn o seen (Purges file version) = (o.doing ≡ Withdrawn file version) × (seen ≡ o.known)
GoesOn o seen (Receives file t) = is_idle t.stage ≡ true → WasIdle o file
GoesOn o seen d = Unit {0}

-- where the command ends, the answer says what it does
abbrev pub EndSays : Setup → Occasion → Command → Onward → Type 0
EndSays s o c (Ends seen x) = SaysBy s o c seen x × IsSeen o seen
EndSays s o c (Goes seen d f) = GoesOn o seen d
EndSays s o c (Stays f) = Unit {0}

abbrev pub RowSays : Setup → Occasion → Command → Effect → Type 0
RowSays s o c r = Leaves r o.actor o.number o.before o.after → EndSays s o c r.onward

abbrev pub AllSay : Setup → Occasion → Command → Option Effect → Type 0
AllSay s o c x = WhereSome (RowSays s o c) x

-- an event of a command that has come so far
abbrev pub at_doing : World → World → ℕ → ℕ → ℕ → Doing → Occasion
at_doing w u me low n d = record { before = w; after = u; actor = me; known = low; doing = d; number = n }

abbrev pub actor_at : ℕ → List Numbered → Doing → Actor
actor_at low script d = record { seen = low; script = script; doing = d }

-- what its row says, of whatever kind it is
abbrev pub Says : Setup → World → World → ℕ → ℕ → ℕ → List Numbered → Doing → Command → Type 0
Says s w u me low n script d c =
    Known s (at_doing w u me low n d) c → (k : EventKind) → is_kind k (next_kind w d c) ≡ true
    → AllSay s (at_doing w u me low n d) c (row s w k me (actor_at low script d) n c)

-- ---- SEEN

module _ (s : Setup) (o : Occasion) (c : Command) (known : Known s o c) where
  more : (ps : List Published) → o.after.ops ≡ o.before.ops ++ ps → newest o.before ≤ newest o.after
  more ps is =
      let e = ap (λ (l : List Published). length l) is ∙ length-append o.before.ops ps in omega (arith, e)

  pub sees_known : (ps : List Published) → o.after.ops ≡ o.before.ops ++ ps → IsSeen o o.known
  sees_known ps is = let a = known.seen in let b = more ps is in
      record { from = omega arith; to = omega (arith, a, b) }

  pub sees_newest : (ps : List Published) → o.after.ops ≡ o.before.ops ++ ps → IsSeen o (newest o.before)
  sees_newest ps is = record { from = known.seen; to = more ps is }

  pub sees_next : (p : Published) → o.after.ops ≡ o.before.ops ++ p ∷ [] → IsSeen o (newest o.before + 1)
  sees_next p is =
      let a = known.seen in
      let e = ap (λ (l : List Published). length l) is ∙ length-append o.before.ops (p ∷ []) in
      record { from = omega (arith, a); to = omega (arith, e) }
