-- This project's own: what commands found stays so after an event, for the command of the event and for all others.
use Rattle.std.proofs.Common.{◌≡◌, ◌≢◌, ◌⊎◌, ℕ, suc, ◌+◌, ◌≤◌, List, [], ◌∷◌, ◌++◌, length, map, take, drop, Bool, true, false, Some, None, inl, inr, ⊎_elim, refl, sym, ap, ◌∙◌, subst, true≢false, arith, length-append}
use Rattle.std.specs.Prelude.{IfSome, slice_get}
use Rattle.std.proofs.lemmas.Bool.{cases_lt}
use Rattle.std.proofs.lemmas.List.{take-append-le}
use Rattle.tap_ledger.specs.declared.side.Side.{Side}
use Rattle.tap_ledger.specs.declared.side.Side.TheVariants.{Rx, Tx}
use Rattle.tap_steer.specs.declared.operation.Op.{Op}
use Rattle.tap_steer.specs.After.{after_all}
use Rattle.tap_steer.specs.Rules.{backer}
use Rattle.tap_steer.specs.Table.{Table, file_at}
use Rattle.vhost_dev.specs.Settings.{ring_of}
use Rattle.scen_words.specs.declared.command.Command.{Command}
use Rattle.scen_text.specs.declared.scenario.Phase.{Phase}
use Rattle.tap_world.specs.declared.event.Event.{Event}
use Rattle.tap_world.specs.declared.told.Published.{Published}
use Rattle.tap_world.specs.Setup.{Numbered, Setup, opening_table, script_in}
use Rattle.tap_world.specs.World.{Actor, Doing, World, current, newest, table, table_at}
use Rattle.tap_world.specs.World.Doing.{Backed, Backs, Begun, Disowned, Hosts, Learns, Owns, Placed, Purges, Reads, Released, Routed, Teaches, Unbacked, Withdrawn}
use Rattle.tap_world.specs.Effect.{Onward, actor_after}
use Rattle.tap_world.specs.Effect.Onward.{Ends, Goes, Stays}
use Rattle.tap_world.specs.Each.{EachActor, EachVhost}
use Rattle.tap_world.specs.Sound.{HasSeen, HaveActors, holds}
use Rattle.tap_world.specs.SoundTable.{HasItsBackends, commanded, on_side, writing}
use Rattle.tap_world.specs.Steady.{FoundIn, HasFound, IsLearntBy, IsOwn, IsPublished, IsSteady, version_in}
use Rattle.tap_sound.specs.Fresh.{ArePhasesNumbered}
use Rattle.tap_sound.proofs.Kit.{some_same}
use Rattle.tap_sound.proofs.Held.{shape_here}
use Rattle.tap_sound.proofs.Taken.{IsStep}
use Rattle.tap_sound.proofs.Turned.{at_is, is_at, others}
use Rattle.tap_steady.proofs.Kit.{all_at, at_front, at_plus}
use Rattle.tap_steady.proofs.Lawful.{leaves_lawful}
use Rattle.tap_steady.proofs.LawfulKit.{published, with_none}
use Rattle.tap_steady.proofs.NamedActors.{each_after, ended_actor}
use Rattle.tap_steady.proofs.NamedFiles.{by_table}
use Rattle.tap_steady.proofs.Ops.{new_op, ops_after, told_here, writes_here}
use Rattle.tap_steady.proofs.OpsLists.{at_end, at_more}
use Rattle.tap_steady.proofs.OpsTold.{FoundOn, IsOne, IsUnset, SaysOn, SeenOn, ToldOn}
use Rattle.tap_steady.proofs.SeenFound.{disowned_found, learns_found, nothing_found, placed_found, teaches_found}
use Rattle.tap_steady.proofs.SeenNumbers.{earlier_phase, phase_from, same_actor, same_place}

take_whole : {A : Type 0} (xs : List A) → take (length xs) xs ≡ xs
take_whole [] = refl
take_whole (x ∷ xs) = ap (λ (ys : List _). x ∷ ys) (take_whole xs)

drop_at : {A : Type 0} (xs : List A) (k : ℕ) → slice_get (drop 1 xs) k ≡ slice_get xs (suc k)
drop_at [] k = refl
drop_at (x ∷ xs) k = refl

heads : {A : Type 0} (x y : A) → x ∷ [] ≡ y ∷ [] → x ≡ y
heads x y e = cc (e)

-- ---- an actor that has begun no command

-- no operation so far is of a command that is still to come
abbrev pub LaterFree : World → Actor → Type 0
LaterFree u a =
    (k : ℕ) (c : Numbered) (i : ℕ) (p : Published) → slice_get a.script (suc k) ≡ Some c → slice_get u.ops i ≡ Some p
    → p.command ≡ c.number → ⊥

abbrev pub FirstFree : World → List Numbered → Type 0
FirstFree u script =
    (c : Numbered) (i : ℕ) (p : Published) → current script ≡ Some c → slice_get u.ops i ≡ Some p → p.command ≡ c.number
    → ⊥

pub begun_found : (s : Setup) (u : World) (seen : ℕ) (script : List Numbered) → FirstFree u script
    → HasFound s u (record { seen = seen; script = script; doing = Begun })
begun_found s u seen script free = record {
  found = λ c e. nothing_found (table_at s u seen) c.command Begun refl;
  newest = λ h. absurd (true≢false (sym h));
  published = tt;
  its = λ c v e h. absurd (cc (h));
  own = λ c i p e at_p same. absurd (free c i p e at_p same);
}

-- the command that comes next has published nothing
pub next_free : (u : World) (a : Actor) → LaterFree u a → FirstFree u (drop 1 a.script)
next_free u a later c i p e at_p same = later 0 c i p (sym (drop_at a.script 0) ∙ e) at_p same

pub ended_later : (u : World) (a : Actor) → LaterFree u a → LaterFree u (ended_actor a)
ended_later u a later k c i p e at_p same = later (suc k) c i p (sym (drop_at a.script (suc k)) ∙ e) at_p same

-- ---- where a command stands in its script

record IsPlaced (s : Setup) (w : World) (i : ℕ) (a : Actor) : Type 0 where
  phase : Phase
  is_phase : slice_get s.phases w.phase ≡ Some phase
  before : List Numbered
  script : script_in phase i ≡ before ++ a.script

placed : (s : Setup) (w : World) → IsSteady s w → (i : ℕ) (a : Actor) → slice_get w.actors i ≡ Some a → IsPlaced s w i a
placed s w steady i a at_ =
    let o = steady.told.order i a at_ in
    record { phase = o.0; is_phase = o.1; before = o.2.0; script = o.2.1 }

at_place : (s : Setup) (w : World) (i : ℕ) (a : Actor) (q : IsPlaced s w i a) (k : ℕ) (c : Numbered)
    → slice_get a.script k ≡ Some c
    → slice_get (script_in q.phase i) (length q.before + k) ≡ Some c
at_place s w i a q k c e =
    ap (λ (l : List Numbered). slice_get l (length q.before + k)) q.script ∙ at_plus q.before a.script k
    (length q.before + k) refl ∙ e

long : (s : Setup) (w : World) (i : ℕ) (a : Actor) (q : IsPlaced s w i a)
    → length (script_in q.phase i) ≡ length q.before + length a.script
long s w i a q = ap (λ (l : List Numbered). length l) q.script ∙ length-append q.before a.script

module _ (s : Setup) (w : World) (x : Event) (u : World) (t : IsStep s w x u) (numbers : ArePhasesNumbered 0 s.phases)
    (h : HaveActors w)
    (steady : IsSteady s w) (versions : EachActor w (HasSeen w)) (backends : EachVhost w (HasItsBackends s w)) where
  -- a command of the event's number is the event's
  mine_alone : (i : ℕ) (a : Actor) → slice_get w.actors i ≡ Some a → (k : ℕ) (c : Numbered)
      → slice_get a.script k ≡ Some c → c.number ≡ t.now.number
      → (i ≡ x.actor) × (k ≡ 0)
  mine_alone i a at_ k c e same =
      let p = placed s w steady i a at_ in
      let q = placed s w steady x.actor t.actor t.found in
      let phases : p.phase ≡ q.phase = some_same p.phase q.phase (sym p.is_phase ∙ q.is_phase) in
      let f = phase_from 0 s.phases w.phase q.phase numbers q.is_phase in
      let c_at : slice_get (script_in q.phase i) (length p.before + k) ≡ Some c =
      subst (λ (g : Phase). slice_get (script_in g i) (length p.before + k) ≡ Some c) phases
      (at_place s w i a p k c e) in
      let n_at : slice_get (script_in q.phase x.actor)
      (length q.before + 0) ≡ Some t.now = at_place s w x.actor t.actor q 0 t.now t.current_is in
      let actor : i ≡ x.actor = same_actor f.from q.phase.lines f.numbered i x.actor _ _ c t.now c_at n_at same in
      let own : a ≡ t.actor = some_same a t.actor (sym at_ ∙ ap (slice_get w.actors) actor ∙ t.found) in
      let place : length p.before + k ≡ length q.before + 0 = same_place f.from q.phase.lines x.actor f.numbered _ _ c
      t.now
      (subst (λ (n : ℕ). slice_get (script_in q.phase n) (length p.before + k) ≡ Some c) actor c_at) n_at same in
      let lp = long s w i a p in
      let lq = long s w x.actor t.actor q in
      let total : length (script_in p.phase i) ≡ length (script_in q.phase x.actor) =
      ap (λ (g : Phase). length (script_in g i)) phases ∙ ap (λ (n : ℕ). length (script_in q.phase n)) actor in
      let la : length a.script ≡ length t.actor.script = ap (λ (b : Actor). length b.script) own in
      (actor, omega (arith, place, lp, lq, total, la))

  -- no operation is of a command that is still to come
  later_old : (i : ℕ) (a : Actor) → slice_get w.actors i ≡ Some a → LaterFree w a
  later_old i a at_ k c idx p e at_p same =
      let o = all_at (IsPublished s w) w.ops idx p steady.ops.published at_p in
      let q = placed s w steady i a at_ in
      let le : p.phase ≤ w.phase = all_at (λ (y : Published). y.phase ≤ w.phase) w.ops idx p steady.ops.latest at_p in
      let num : o.command.number ≡ c.number = o.number ∙ same in
      let c_at = at_place s w i a q (suc k) c e in
      ⊎_elim
      (λ lt.
      let less = earlier_phase 0 s.phases p.phase w.phase o.phase q.phase numbers lt o.is_phase q.is_phase p.actor i
      o.index _ o.command c o.is_command c_at in
      omega (arith, less, num))
      (λ ge.
      let now : p.phase ≡ w.phase = omega (arith, le, ge) in
      let phases : o.phase ≡ q.phase = some_same o.phase q.phase (sym o.is_phase ∙ ap (slice_get s.phases) now
      ∙ q.is_phase) in
      let f = phase_from 0 s.phases w.phase q.phase numbers q.is_phase in
      let o_at : slice_get (script_in q.phase p.actor) o.index ≡ Some o.command =
      subst (λ (g : Phase). slice_get (script_in g p.actor) o.index ≡ Some o.command) phases o.is_command in
      let actor : p.actor ≡ i = same_actor f.from q.phase.lines f.numbered p.actor i _ _ o.command c o_at c_at num in
      let b = o.so_far now in
      let own : b.0 ≡ a = some_same b.0 a (sym b.1 ∙ ap (slice_get w.actors) actor ∙ at_) in
      let place : o.index ≡ length q.before + suc k = same_place f.from q.phase.lines i f.numbered _ _ o.command c
      (subst (λ (n : ℕ). slice_get (script_in q.phase n) o.index ≡ Some o.command) actor o_at) c_at num in
      let most = b.2 in
      let total : length (script_in o.phase p.actor) ≡ length (script_in q.phase i) =
      ap (λ (g : Phase). length (script_in g p.actor)) phases ∙ ap (λ (n : ℕ). length (script_in q.phase n)) actor in
      let lq = long s w i a q in
      let la : length b.0.script ≡ length a.script = ap (λ (y : Actor). length y.script) own in
      omega (arith, place, most, total, lq, la))
      (cases_lt p.phase w.phase)

  -- ---- operations afterwards

  -- an operation that the event published
  record IsNew (idx : ℕ) (p : Published) : Type 0 where
    place : idx ≡ newest w
    command : p.command ≡ t.now.number
    ops : t.effect.ops ≡ p.op ∷ []

  none_more : t.effect.ops ≡ [] → u.ops ≡ w.ops
  none_more none = ops_after s w x u t ∙ ap (λ (l : List Op). w.ops ++ published w x.actor x.command l) none
      ∙ with_none w.ops

  one_more : (y : Op) → t.effect.ops ≡ y ∷ [] → u.ops ≡ w.ops ++ new_op s w x u t y ∷ []
  one_more y is = ops_after s w x u t ∙ ap (λ (l : List Op). w.ops ++ published w x.actor x.command l) is

  split : (idx : ℕ) (p : Published) → slice_get u.ops idx ≡ Some p → (slice_get w.ops idx ≡ Some p) ⊎ IsNew idx p
  split idx p e = go (told_here s w x u t h.stand).ops
    where
      go : (t.effect.ops ≡ []) ⊎ IsOne s w t.actor.doing t.now.command t.effect → (slice_get w.ops idx ≡ Some p)
          ⊎ IsNew idx p
      go (inl none) = inl (ap (λ (l : List Published). slice_get l idx) (sym (none_more none)) ∙ e)
      go (inr one) = ⊎_elim
          (λ old. inl old.0)
          (λ new. inr (record {
            place = new.0;
            command = sym (ap (λ (q : Published). q.command) new.1) ∙ sym t.number;
            ops = one.is ∙ ap (λ (y : Op). y ∷ []) (ap (λ (q : Published). q.op) new.1);
          }))
          (at_more w.ops (new_op s w x u t one.x) idx p
          (ap (λ (l : List Published). slice_get l idx) (sym (one_more one.x one.is)) ∙ e))

  old_at : (idx : ℕ) (p : Published) → slice_get w.ops idx ≡ Some p → slice_get u.ops idx ≡ Some p
  old_at idx p e = ap (λ (l : List Published). slice_get l idx) (ops_after s w x u t) ∙ at_front w.ops _ idx p e

  newest_same : t.effect.ops ≡ [] → newest u ≡ newest w
  newest_same none = ap (λ (l : List Published). length l) (none_more none)

  newest_more : (y : Op) → t.effect.ops ≡ y ∷ [] → newest u ≡ newest w + 1
  newest_more y is = ap (λ (l : List Published). length l) (one_more y is)
      ∙ length-append w.ops (new_op s w x u t y ∷ [])

  table_old : (v : ℕ) → v ≤ newest w → table_at s u v ≡ table_at s w v
  table_old v le = ap (λ (l : List Published). after_all (opening_table s) (map (λ (p : Published). p.op) l))
      (ap (take v) (ops_after s w x u t) ∙ take-append-le v w.ops _ le)

  table_newest : table_at s u (newest w) ≡ table s w
  table_newest = table_old (newest w) (omega arith)
      ∙ ap (λ (l : List Published). after_all (opening_table s) (map (λ (p : Published). p.op) l)) (take_whole w.ops)

  later_free : (i : ℕ) (a : Actor) → slice_get w.actors i ≡ Some a → LaterFree u a
  later_free i a at_ k c idx p e at_p same = ⊎_elim
      (λ old. later_old i a at_ k c idx p e old same)
      (λ new. let m = (mine_alone i a at_ (suc k) c e (sym same ∙ new.command)).1 in omega (arith, m))
      (split idx p at_p)

  -- ---- a command that is as it was

  still : (i : ℕ) (a : Actor) → slice_get w.actors i ≡ Some a → (holds a.doing ≡ true → newest u ≡ newest w)
      → ((c : Numbered) (idx : ℕ) (p : Published) → current a.script ≡ Some c → IsNew idx p → p.command ≡ c.number → ⊥)
      → HasFound s u a
  still i a at_ as_new alone =
      let f = steady.seen i a at_ in
      record {
        found = λ c e. subst (λ (q : Table). FoundIn q c.command a.doing) (sym (table_old a.seen (versions i a at_)))
            (f.found c e);
        newest = λ held. f.newest held ∙ sym (as_new held);
        published = f.published;
        its = λ c v e said. let k = f.its c v e said in (k.0, k.1, k.2, old_at k.0 k.1 k.3, k.4);
        own = λ c idx p e at_p same. ⊎_elim (λ old. f.own c idx p e old same) (λ new. absurd (alone c idx p e new same))
            (split idx p at_p);
      }

  other : (i : ℕ) (a : Actor) → x.actor ≢ i → slice_get w.actors i ≡ Some a → HasFound s u a
  other i a away at_ = still i a at_ as_new
      (λ c idx p e new same. away (sym (mine_alone i a at_ 0 c e (sym same ∙ new.command)).0))
    where
      as_new : holds a.doing ≡ true → newest u ≡ newest w
      as_new held =
          let writer : w.writer ≡ Some i = at_is i w.writer (sym (h.writer i a at_) ∙ held) in
          let mine : holds t.actor.doing ≡ is_at x.actor w.writer = h.writer x.actor t.actor t.found in
          let quiet : holds t.actor.doing ≡ false = mine ∙ ap (is_at x.actor) writer
          ∙ others i x.actor (λ e. away (sym e)) in
          ⊎_elim
          (λ none. newest_same none)
          (λ free. absurd (cc (free, writer)))
          ((leaves_lawful s w x.actor t.actor.seen t.actor.doing t.now.command t.effect mine
          (shape_here s w x u t h.stand)).aside quiet)

  -- ---- the command of the event

  f_old : HasFound s w t.actor
  f_old = steady.seen x.actor t.actor t.found

  le_old : t.actor.seen ≤ newest w
  le_old = versions x.actor t.actor t.found

  found_old : FoundIn (table_at s w t.actor.seen) t.now.command t.actor.doing
  found_old = f_old.found t.now t.current_is

  at_new : (v : ℕ) (e : Doing) → v ≡ newest w → FoundIn (table s w) t.now.command e
      → FoundIn (table_at s u v) t.now.command e
  at_new v e is f = subst (λ (q : Table). FoundIn q t.now.command e) (sym (ap (table_at s u) is ∙ table_newest)) f

  at_old : (v : ℕ) (e : Doing) → v ≡ t.actor.seen → FoundIn (table_at s w t.actor.seen) t.now.command e
      → FoundIn (table_at s u v) t.now.command e
  at_old v e is f = subst (λ (q : Table). FoundIn q t.now.command e)
      (sym (ap (table_at s u) is ∙ table_old t.actor.seen le_old)) f

  found_as : (d : Doing) → t.actor.doing ≡ d → FoundIn (table_at s w t.actor.seen) t.now.command d
  found_as d is = subst (λ (q : Doing). FoundIn (table_at s w t.actor.seen) t.now.command q) is found_old

  -- a backend that is unset was the table's
  was_tabled : (side : Side) (b : Bool) (file : ℕ) (k : IsUnset w t.actor.doing t.now.command b file)
      → (on_side side k.v.settings).file ≡ Some file
      → backer side (file_at (table_at s w t.actor.seen) file) ≡ Some k.vhost
  was_tabled side b file k has =
      let held : holds t.actor.doing ≡ true = ap holds k.doing in
      let now : t.actor.seen ≡ newest w = f_old.newest held in
      let i = writes_here s w x u t h held in
      let same : table s w ≡ table_at s w t.actor.seen =
      sym (ap (λ (l : List Published). after_all (opening_table s) (map (λ (p : Published). p.op) l))
      (take_whole w.ops)) ∙ ap (table_at s w) (sym now) in
      subst (λ (q : Table). backer side (file_at q file) ≡ Some k.vhost) same (⊎_elim
      (λ tabled. tabled)
      (λ writes. absurd (not_backed file (sym k.doing ∙ sym i.0 ∙ writes)))
      (by_table (writing w) (commanded w) side file k.vhost _ ((backends k.vhost k.v k.is_vhost side file).0 has)))
    where
      not_backed : (n : ℕ) → Backs None ≡ Backed n → ⊥
      not_backed n e = cc (e)

  found_on : (v : ℕ) (e : Doing) → FoundOn s w t.actor.seen t.actor.doing t.now.command v e
      → FoundIn (table_at s u v) t.now.command e
  found_on v (Routed file epoch len) k = at_new v (Routed file epoch len) k.0 k.1
  found_on v (Placed file place epoch len) k =
      at_old v (Placed file place epoch len) k.0 (placed_found _ t.now.command file place epoch len
      (found_as (Routed file epoch len) k.1))
  found_on v (Reads file room front) k = at_new v (Reads file room front) k.0 k.1
  found_on v (Hosts file ether learns) k = at_new v (Hosts file ether learns) k.0 k.1
  found_on v (Learns file ether) k = at_old v (Learns file ether) k.0
      (learns_found _ t.now.command file ether (found_as (Hosts file ether true) k.1))
  found_on v (Backs refusal) k = at_new v (Backs refusal) k.0 k.1
  found_on v (Unbacked file) k = at_old v (Unbacked file) k.0
      (subst (λ (c : Command). FoundIn (table_at s w t.actor.seen) c (Unbacked file)) (sym k.1.is_command)
      (was_tabled Rx true file k.1 (sym (ap (λ (b : Bool). (ring_of b k.1.v.settings).file) k.1.side) ∙ k.1.backend)))
  found_on v (Released file) k = at_old v (Released file) k.0
      (subst (λ (c : Command). FoundIn (table_at s w t.actor.seen) c (Released file)) (sym k.1.is_command)
      (was_tabled Tx false file k.1 (sym (ap (λ (b : Bool). (ring_of b k.1.v.settings).file) k.1.side) ∙ k.1.backend)))
  found_on v (Disowned file) k = at_old v (Disowned file) k.0
      (disowned_found _ t.now.command file (found_as (Unbacked file) k.1))
  found_on v (Teaches file turn chains f) k = at_new v (Teaches file turn chains f) k.0
      (teaches_found _ t.now.command file turn chains f k.1)
  found_on v e k = nothing_found (table_at s u v) t.now.command e refl

  abbrev Seen : ℕ → Doing → Type 0
  Seen v e = SeenOn w t.actor.seen t.actor.doing t.now.command t.effect v e

  newest_on : (v : ℕ) (e : Doing) → Seen v e → holds e ≡ true → v ≡ newest u
  newest_on v e (inl (none, inl (as_seen, same))) held = as_seen ∙ f_old.newest (sym same ∙ held)
      ∙ sym (newest_same none)
  newest_on v e (inl (none, inr as_newest)) held = as_newest ∙ sym (newest_same none)
  newest_on v e (inr (y, is, as_more, known)) held = as_more ∙ sym (newest_more y is)

  published_on : (v : ℕ) (e : Doing) → FoundOn s w t.actor.seen t.actor.doing t.now.command v e
      → IfSome (version_in e) (λ version. version ≡ v)
  published_on v (Withdrawn file version) k = k.0
  published_on v (Owns file version) k = k.0
  published_on v (Purges file version) k =
      subst (λ (d : Doing). IfSome (version_in d) (λ n. n ≡ t.actor.seen)) k.1 f_old.published ∙ sym k.0
  published_on v e k = tt

  abbrev ItsOp : ℕ → Type 0
  ItsOp version = (i : ℕ) × (p : Published) × (version ≡ suc i) × (slice_get u.ops i ≡ Some p)
      × (p.command ≡ t.now.number)

  -- it has published just now
  just_now : (v version : ℕ) (e : Doing) → version ≡ v → v ≡ newest w + 1 → Seen v e → ItsOp version
  just_now v version e is more (inl (none, inl (as_seen, same))) = absurd (omega (arith, more, as_seen, le_old))
  just_now v version e is more (inl (none, inr as_newest)) = absurd (omega (arith, more, as_newest))
  just_now v version e is more (inr (y, published_, as_more, known)) = (
    newest w,
    new_op s w x u t y,
    omega (arith, is, more),
    ap (λ (l : List Published). slice_get l (newest w)) (one_more y published_)
        ∙ at_end w.ops (new_op s w x u t y ∷ []),
    sym t.number,
  )

  its_on : (v : ℕ) (e : Doing) → FoundOn s w t.actor.seen t.actor.doing t.now.command v e → Seen v e → (version : ℕ)
      → version_in e ≡ Some version → ItsOp version
  its_on v (Withdrawn file version) k seen n said = subst ItsOp (some_same version n said)
      (just_now v version (Withdrawn file version) k.0 k.1 seen)
  its_on v (Owns file version) k seen n said = subst ItsOp (some_same version n said)
      (just_now v version (Owns file version) k.0 k.1 seen)
  its_on v (Purges file version) k seen n said =
      let o = f_old.its t.now n t.current_is (ap version_in k.1 ∙ said) in
      (o.0, o.1, o.2, old_at o.0 o.1 o.3, o.4)
  its_on v e k seen n said = absurd (cc (said))

  abbrev GoneOn : ℕ → Doing → Actor
  GoneOn v e = record t.actor { seen = v; doing = e }

  own_old : (v : ℕ) (e : Doing) → Seen v e → SaysOn t.actor.doing e → (idx : ℕ) (p : Published)
      → slice_get w.ops idx ≡ Some p → p.command ≡ t.now.number
      → IsOwn (GoneOn v e) t.now (suc idx) p
  own_old v e seen says idx p at_p same =
      let k = f_old.own t.now idx p t.current_is at_p same in
      let before = k.seen in
      record {
        seen = go seen before;
        known = ⊎_elim
            (λ said. ⊎_elim (λ none. absurd (cc (none, said))) (λ kept. inl (kept ∙ said)) says)
            (λ learnt. inr learnt) k.known;
      }
    where
      go : Seen v e → suc idx ≤ t.actor.seen → suc idx ≤ v
      go (inl (none, inl (as_seen, same_))) le = omega (arith, as_seen, le)
      go (inl (none, inr as_newest)) le = let most = le_old in omega (arith, as_newest, le, most)
      go (inr (y, is, as_more, known)) le = let most = le_old in omega (arith, as_more, le, most)

  own_new : (v : ℕ) (e : Doing) → Seen v e → (idx : ℕ) (p : Published) → IsNew idx p
      → IsOwn (GoneOn v e) t.now (suc idx) p
  own_new v e (inl (none, how)) idx p new = absurd (cc (none, new.ops))
  own_new v e (inr (y, is, as_more, known)) idx p new =
      let place = new.place in
      record {
        seen = omega (arith, as_more, place);
        known = ⊎_elim
            (λ said. inl (said ∙ ap (λ (n : ℕ). Some n) (omega (arith, place))))
            (λ learnt. inr (subst (IsLearntBy t.now.command) (heads y p.op (sym is ∙ new.ops)) learnt))
            known;
      }

  goes_on : (v : ℕ) (e : Doing) → Seen v e → FoundOn s w t.actor.seen t.actor.doing t.now.command v e
      → SaysOn t.actor.doing e → HasFound s u (GoneOn v e)
  goes_on v e seen k says = record {
    found = λ c at_c. subst (λ (m : Numbered). FoundIn (table_at s u v) m.command e) (its c at_c) (found_on v e k);
    newest = newest_on v e seen;
    published = published_on v e k;
    its = λ c n at_c said. subst (λ (m : Numbered). (i : ℕ) × (p : Published) × (n ≡ suc i)
        × (slice_get u.ops i ≡ Some p) × (p.command ≡ m.number)) (its c at_c)
        (its_on v e k seen n said);
    own = λ c idx p at_c at_p same. subst (λ (m : Numbered). IsOwn (GoneOn v e) m (suc idx) p) (its c at_c)
        (⊎_elim
        (λ old. own_old v e seen says idx p old (same ∙ ap (λ (m : Numbered). m.number) (sym (its c at_c))))
        (λ new. own_new v e seen idx p new)
        (split idx p at_p));
  }
    where
      its : (c : Numbered) → current t.actor.script ≡ Some c → t.now ≡ c
      its c at_c = some_same t.now c (sym t.current_is ∙ at_c)

  mine : HasFound s u (actor_after t.effect.onward t.actor) × LaterFree u (actor_after t.effect.onward t.actor)
  mine = go t.effect.onward (told_here s w x u t h.stand).onward
    where
      later : LaterFree u t.actor
      later = later_free x.actor t.actor t.found

      go : (o : Onward) → ToldOn s w t.actor.seen t.actor.doing t.now.command t.effect o
          → HasFound s u (actor_after o t.actor) × LaterFree u (actor_after o t.actor)
      go (Goes v e f) told = (goes_on v e told.0 told.1 told.2, later)
      go (Ends v y) told = (
        begun_found s u v (drop 1 t.actor.script) (next_free u t.actor later),
        ended_later u t.actor later,
      )
      go (Stays f) told = (
        still x.actor t.actor t.found (λ held. newest_same told)
            (λ c idx p e new same. cc (told, new.ops)),
        later,
      )

  pub found_after : EachActor u (λ i a. HasFound s u a)
  found_after i a at_ = (each_after s w x u t (λ k b. HasFound s u b × LaterFree u b)
      (λ k b away at_b. (other k b away at_b, later_free k b at_b))
      mine
      (λ k b is. (begun_found s u b.seen (drop 1 b.script) (next_free u b is.1), ended_later u b is.1)) i a at_).0
