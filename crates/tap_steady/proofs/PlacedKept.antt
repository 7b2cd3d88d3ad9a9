-- An actor that has a place has the entry there.
use Rattle.std.proofs.Common.{◌≡◌, ◌≢◌, ℕ, ◌+◌, ◌++◌, List, [], ◌∷◌, length, Bool, true, false, true≢false, Option, Some, None, ⊎_elim, refl, sym, ap, ◌∙◌, subst}
use Rattle.std.specs.Prelude.{drop, if◌then◌else◌, slice_get, ◌==◌, ◌||◌}
use Rattle.tap_frame.specs.declared.name.Name.{Name}
use Rattle.tap_frame.specs.declared.reading.BadFrame.{BadFrame}
use Rattle.tap_frame.specs.declared.header.Hdr.{Hdr}
use Rattle.tap_ledger.specs.declared.fate.Cause.{Cause}
use Rattle.std.specs.Option.{option_map_or}
use Rattle.tap_steer.specs.declared.selection.Select.{Select}
use Rattle.tap_steer.specs.declared.selection.Select.TheVariants as select
use Rattle.tap_steer.specs.Select as steer
use Rattle.scen_words.specs.declared.command.Command.{Command}
use Rattle.scen_words.specs.declared.command.Command.TheVariants as command
use Rattle.tap_world.specs.declared.event.Event.{Event}
use Rattle.tap_world.specs.declared.event.EventKind.{EventKind}
use Rattle.tap_world.specs.declared.event.EventKind.TheVariants as event
use Rattle.tap_world.specs.ByNumber.{at, with_at}
use Rattle.tap_world.specs.Frames.{bad_in, ether_in, sent_bytes, sent_front}
use Rattle.tap_world.specs.Setup.{Numbered, Setup, setup_of}
use Rattle.tap_world.specs.declared.line.Entry.{Entry}
use Rattle.tap_world.specs.declared.line.Standing.TheVariants.{Claimed}
use Rattle.tap_world.specs.Line.{File, claimed, is_full, is_gone, is_spent}
use Rattle.tap_world.specs.LineSteps.{Change, changed}
use Rattle.tap_world.specs.LineSteps.Change.{Claims, Puts}
use Rattle.tap_world.specs.World.{Actor, Doing, World, current, name_of, newest, table}
use Rattle.tap_world.specs.World.Doing.{Begun, Placed, Routed}
use Rattle.tap_world.specs.Effect.{Effect, OnFiles, Onward, actor_after, ended, files_after}
use Rattle.tap_world.specs.Effect.OnFiles.{NoFile, OnFile}
use Rattle.tap_world.specs.Effect.Onward.{Ends, Goes, Stays}
use Rattle.tap_world.specs.Scripts.{is_kind, kind_number, next_kind, send_next}
use Rattle.tap_world.specs.Step.{row}
use Rattle.tap_world.specs.StepRing as ring
use Rattle.tap_world.specs.StepTable as tables
use Rattle.tap_world.specs.Each.{EachActor}
use Rattle.tap_world.specs.SoundActors.{CanBe, can_be, is_begun, is_send}
use Rattle.tap_world.specs.Steady.{HasItsPlace, IsClaimed}
use Rattle.std.proofs.lemmas.Bool.Decides.{eqb_tells}
use Rattle.tap_sound.proofs.Kit.{WhereSome, only_some, some_same, then_some, where_some, where_then}
use Rattle.tap_sound.proofs.Held.{can_here}
use Rattle.tap_sound.proofs.Kept.{effect_files}
use Rattle.tap_sound.proofs.Scripts.{effect_actors}
use Rattle.tap_sound.proofs.Taken.{IsStep, step_is, when_settled}
use Rattle.tap_sound.proofs.Turned.{with_nth_inv}
use Rattle.tap_steady.specs.Part.{IsPart}
use Rattle.tap_steady.proofs.Kit.{begun_all, with_at_else, with_at_here}
use Rattle.tap_steady.proofs.PlacedChanges.{IsOf, Makes, row_makes, who}
use Rattle.tap_steady.proofs.PlacedLines.{IsPutOf, claims_stay}

-- ---- others keep it

is_put : (me n : ℕ) (d : Doing) (c : Command) (file : ℕ) (change : Change) → IsOf (who me n d c) (OnFile file change) → IsPutOf me change
is_put me n d c file (Puts actor place) h = h
is_put me n d c file change h = tt

-- the files after an effect that puts no frame of others
claimed_on : (me : ℕ) (o : OnFiles) (w v : World) → ((file : ℕ) (c : Change) → o ≡ OnFile file c → IsPutOf me c) → files_after o w.files ≡ Some v.files
    → (actor file place epoch len : ℕ) (name : Name) → actor ≢ me → IsClaimed w actor file place epoch len name → IsClaimed v actor file place epoch len name
claimed_on me NoFile w v put after actor file place epoch len name ne h =
    record {
      f = h.f;
      is_there = ap (λ (q : List (Option File)). at q file) (sym (some_same w.files v.files after)) ∙ h.is_there;
      index = h.index;
      is_place = h.is_place;
      entry = h.entry;
    }
claimed_on me (OnFile n c) w v put after actor file place epoch len name ne h =
    let f = then_some (at w.files n) _ v.files after in
    let g = then_some (changed c f.0) _ v.files f.2 in
    let is : with_at n g.0 w.files ≡ v.files = some_same _ v.files g.2 in
    let k = claims_stay me c f.0 g.0 (put n c refl) g.1 in
    ⊎_elim
    (λ same.
    let mine : f.0 ≡ h.f = some_same f.0 h.f (sym f.1 ∙ ap (at w.files) same.1 ∙ h.is_there) in
    let there : at (with_at n g.0 w.files) file ≡ Some g.0 = subst (λ (i : ℕ). at (with_at n g.0 w.files) i ≡ Some g.0) same.1 (with_at_here n g.0 f.0 w.files f.1) in
    let first : h.f.first ≡ g.0.first = ap (λ (q : File). q.first) (sym mine) ∙ sym k.first in
    record {
      f = g.0;
      is_there = ap (λ (q : List (Option File)). at q file) (sym is) ∙ there;
      index = h.index;
      is_place = h.is_place ∙ ap (λ (i : ℕ). i + h.index) first;
      entry = k.line.kept h.index actor _ ne (ap (λ (q : File). slice_get q.line h.index) mine ∙ h.entry) refl;
    })
    (λ differ. record {
      f = h.f;
      is_there = ap (λ (q : List (Option File)). at q file) (sym is) ∙ with_at_else n g.0 w.files file differ.1 ∙ h.is_there;
      index = h.index;
      is_place = h.is_place;
      entry = h.entry;
    })
    (eqb_tells n file)

-- ---- how a send goes on

-- it gets a place by the event that claims it, and never stays as it is
abbrev SendsOn : World → ℕ → ℕ → Onward → OnFiles → Type 0
SendsOn w me n (Goes seen (Placed file place epoch len) f) files =
    (g : File) × (at w.files file ≡ Some g) × (place ≡ claimed g) × (files ≡ OnFile file (Claims me (name_of me n) epoch len))
SendsOn w me n (Stays f) files = ⊥
SendsOn w me n o files = Unit {0}

abbrev Sends : World → ℕ → ℕ → Effect → Type 0
Sends w me n r = SendsOn w me n r.onward r.files

abbrev AllSend : World → ℕ → ℕ → Option Effect → Type 0
AllSend w me n o = WhereSome (Sends w me n) o

claims : (w : World) (me n seen : ℕ) (d : Doing) → AllSend w me n (ring.claims w me n seen d)
claims w me n seen (Routed file epoch len) = where_then (Sends w me n) (at w.files file) _ (λ f e. (f, e, refl, refl))
claims w me n seen d = tt

puts : (w : World) (me n seen : ℕ) (d : Doing) → AllSend w me n (ring.puts w me seen d)
puts w me n seen (Placed file place epoch len) = tt
puts w me n seen d = tt

drops : (why : ℕ → File → Option Cause) (w : World) (me n seen : ℕ) (d : Doing) → AllSend w me n (ring.drops_for why w me n seen d)
drops why w me n seen (Routed file epoch len) =
    where_then (Sends w me n) (at w.files file) _ (λ f e1. where_then (Sends w me n) (why epoch f) _ (λ x e2. tt))
drops why w me n seen d = tt

looks : (w : World) (me n : ℕ) (name : Name) (bad : Option BadFrame) (x : Select) → Sends w me n (tables.unless_bad bad w (tables.routed w name x))
looks w me n name (Some bad) x = tt
looks w me n name None select.NoQueue = tt
looks w me n name None select.Filtered = tt
looks w me n name None (select.Row r keep resizes capacity) = tt

-- the kinds of its events, once it has a row
abbrev is_drop : ℕ → Bool
is_drop k = k == 2 || k == 4 || k == 5 || k == 6

drop_kinds : (o : Option File) (epoch : ℕ) (k : EventKind) → is_kind k (option_map_or (λ f. Some (send_next epoch f)) o None) ≡ true → is_drop (kind_number k) ≡ true
drop_kinds None epoch k e = absurd (true≢false (sym e))
drop_kinds (Some f) epoch k e = go (is_gone epoch f) (is_spent f) (is_full f) e
  where
    is : (j : EventKind) → is_drop (kind_number j) ≡ true → is_kind k (Some j) ≡ true → is_drop (kind_number k) ≡ true
    is j h q = ⊎_elim (λ t. subst (λ (i : ℕ). is_drop i ≡ true) t.1 h) (λ t. absurd (true≢false (sym q ∙ t.0))) (eqb_tells (kind_number j) (kind_number k))

    go : (a b c : Bool) → is_kind k (Some (if a then event.Gone else if b then event.Spent else if c then event.Full else event.Claim)) ≡ true
        → is_drop (kind_number k) ≡ true
    go true b c q = is event.Gone refl q
    go false true c q = is event.Spent refl q
    go false false true q = is event.Full refl q
    go false false false q = is event.Claim refl q

begun_send : (s : Setup) (w : World) (k : EventKind) (me : ℕ) (a : Actor) (n device : ℕ) (hdr : Option Hdr) (bytes : List ℕ) → is_kind k (Some event.Look) ≡ true
    → AllSend w me n (row s w k me a n (command.Send device hdr bytes))
begun_send s w event.Look me a n device hdr bytes e =
    looks w me n (name_of me n) (bad_in (sent_front hdr) (sent_bytes hdr bytes)) (steer.select (table s w) device (ether_in (sent_front hdr) (sent_bytes hdr bytes)))
begun_send s w k me a n device hdr bytes e = absurd (true≢false (sym e))

routed_send : (s : Setup) (w : World) (k : EventKind) (me : ℕ) (a : Actor) (n : ℕ) (c : Command) → is_drop (kind_number k) ≡ true
    → AllSend w me n (row s w k me a n c)
routed_send s w event.Claim me a n c e = claims w me n a.seen a.doing
routed_send s w event.Full me a n c e = drops ring.full_now w me n a.seen a.doing
routed_send s w event.Gone me a n c e = drops ring.gone_now w me n a.seen a.doing
routed_send s w event.Spent me a n c e = drops ring.spent_now w me n a.seen a.doing
routed_send s w k me a n c e = absurd (true≢false (sym e))

placed_send : (s : Setup) (w : World) (k : EventKind) (me : ℕ) (a : Actor) (n : ℕ) (c : Command) → is_kind k (Some event.Ready) ≡ true
    → AllSend w me n (row s w k me a n c)
placed_send s w event.Ready me a n c e = puts w me n a.seen a.doing
placed_send s w k me a n c e = absurd (true≢false (sym e))

sends : (s : Setup) (w : World) (k : EventKind) (me : ℕ) (a : Actor) (n device : ℕ) (hdr : Option Hdr) (bytes : List ℕ) (d : Doing) → a.doing ≡ d
    → can_be d (command.Send device hdr bytes) ≡ true → is_kind k (next_kind w d (command.Send device hdr bytes)) ≡ true
    → AllSend w me n (row s w k me a n (command.Send device hdr bytes))
sends s w k me a n device hdr bytes Begun is can e = begun_send s w k me a n device hdr bytes e
sends s w k me a n device hdr bytes (Routed file epoch len) is can e =
    routed_send s w k me a n (command.Send device hdr bytes) (drop_kinds (at w.files file) epoch k e)
sends s w k me a n device hdr bytes (Placed file place epoch len) is can e = placed_send s w k me a n (command.Send device hdr bytes) e
sends s w k me a n device hdr bytes d is can e = absurd (true≢false (sym can))

-- the event of a send
pub send_on : (s : Setup) (w : World) (x : Event) (u : World) (t : IsStep s w x u) (c : Command) → t.now.command ≡ c → is_send c ≡ true
    → can_be t.actor.doing t.now.command ≡ true → Sends w x.actor t.now.number t.effect
send_on s w x u t (command.Send device hdr bytes) is send can =
    where_some (Sends w x.actor t.now.number) _ t.effect
    (sends s w x.kind x.actor t.actor t.now.number device hdr bytes t.actor.doing refl
    (subst (λ (q : Command). can_be t.actor.doing q ≡ true) is can) (subst (λ (q : Command). is_kind x.kind (next_kind w t.actor.doing q) ≡ true) is t.next))
    (subst (λ (q : Command). row s w x.kind x.actor t.actor t.now.number q ≡ Some t.effect) is t.is_row)
send_on s w x u t c is send can = absurd (true≢false (sym send))

-- ---- after an event

get_last : (line : List Entry) (d : Entry) → slice_get (line ++ d ∷ []) (length line) ≡ Some d
get_last [] d = refl
get_last (y ∷ ys) d = get_last ys d

-- what is claimed in one world, is in another with the same files
same_files : (v u : World) (actor file place epoch len : ℕ) (name : Name) → v.files ≡ u.files → IsClaimed v actor file place epoch len name
    → IsClaimed u actor file place epoch len name
same_files v u actor file place epoch len name is h = record {
  f = h.f;
  is_there = ap (λ (q : List (Option File)). at q file) (sym is) ∙ h.is_there;
  index = h.index;
  is_place = h.is_place;
  entry = h.entry;
}

-- a place that is claimed now
claimed_now : (w v : World) (actor file place epoch len : ℕ) (name : Name) (g : File) → at w.files file ≡ Some g → place ≡ claimed g
    → files_after (OnFile file (Claims actor name epoch len)) w.files ≡ Some v.files → IsClaimed v actor file place epoch len name
claimed_now w v actor file place epoch len name g there is after =
    let f = then_some (at w.files file) _ v.files after in
    let h = then_some (changed (Claims actor name epoch len) f.0) _ v.files f.2 in
    let o = only_some _ _ h.0 h.1 in
    let same : f.0 ≡ g = some_same f.0 g (sym f.1 ∙ there) in
    let files : with_at file h.0 w.files ≡ v.files = some_same _ v.files h.2 in
    record {
      f = h.0;
      is_there = ap (λ (q : List (Option File)). at q file) (sym files) ∙ with_at_here file h.0 f.0 w.files f.1;
      index = length f.0.line;
      is_place = is ∙ ap (λ (q : File). claimed q) (sym same) ∙ ap (λ (q : File). q.first + length f.0.line) o.1;
      entry = ap (λ (q : File). slice_get q.line (length f.0.line)) (sym o.1)
          ∙ get_last f.0.line (record { name = name; epoch = epoch; len = len; stands = Claimed actor });
    }

not_begun : (d : Doing) (file place epoch len : ℕ) → d ≡ Begun → d ≡ Placed file place epoch len → ⊥
not_begun d file place epoch len a b = cc (a, b)

can_current : (a : Actor) (c : Numbered) → current a.script ≡ Some c → CanBe a → can_be a.doing c.command ≡ true
can_current a c is can = subst (λ (o : Option Numbered). option_map_or (λ (y : Numbered). can_be a.doing y.command) o (is_begun a.doing) ≡ true) is can

-- each actor that has come no further than it can has its place
pub record HavePlaces (w : World) : Type 0 where
  pub each : (i : ℕ) (a : Actor) → slice_get w.actors i ≡ Some a → CanBe a → HasItsPlace w i a

module _ (s : Setup) (w : World) (x : Event) (u : World) (t : IsStep s w x u) (can : can_be t.actor.doing t.now.command ≡ true) where
  after_files : files_after t.effect.files w.files ≡ Some t.between.files
  after_files = effect_files t.effect x.actor t.actor x.command w t.between t.made

  own : (o : Onward) → t.effect.onward ≡ o → (c : Numbered) (file place epoch len : ℕ) → current (actor_after o t.actor).script ≡ Some c
      → (actor_after o t.actor).doing ≡ Placed file place epoch len → can_be (Placed file place epoch len) c.command ≡ true
      → IsClaimed t.between x.actor file place epoch len (name_of x.actor c.number)
  own (Ends seen y) is c file place epoch len now doing send = absurd (not_begun Begun file place epoch len refl doing)
  own (Stays f) is c file place epoch len now doing send =
      let same : t.now ≡ c = some_same t.now c (sym t.current_is ∙ now) in
      absurd (subst (λ (q : Onward). SendsOn w x.actor t.now.number q t.effect.files) is
      (send_on s w x u t c.command (ap (λ (q : Numbered). q.command) same) send can))
  own (Goes seen e f) is c file place epoch len now doing send =
      let same : t.now ≡ c = some_same t.now c (sym t.current_is ∙ now) in
      let onward : t.effect.onward ≡ Goes seen (Placed file place epoch len) f = is ∙ ap (λ (q : Doing). Goes seen q f) doing in
      let by : SendsOn w x.actor t.now.number (Goes seen (Placed file place epoch len) f) t.effect.files =
      subst (λ (q : Onward). SendsOn w x.actor t.now.number q t.effect.files) onward
      (send_on s w x u t c.command (ap (λ (q : Numbered). q.command) same) send can) in
      subst (λ (n : ℕ). IsClaimed t.between x.actor file place epoch len (name_of x.actor n)) (ap (λ (q : Numbered). q.number) same)
      (claimed_now w t.between x.actor file place epoch len (name_of x.actor t.now.number) by.0 by.1 by.2
      (subst (λ (q : OnFiles). files_after q w.files ≡ Some t.between.files) by.3 after_files))

  others_put : (file : ℕ) (change : Change) → t.effect.files ≡ OnFile file change → IsPutOf x.actor change
  others_put file change is = is_put x.actor t.now.number t.actor.doing t.now.command file change
      (subst (IsOf (who x.actor t.now.number t.actor.doing t.now.command)) is
      (where_some (Makes (who x.actor t.now.number t.actor.doing t.now.command)) _ t.effect
      (row_makes s w x.kind x.actor t.actor t.now.number t.now.command can) t.is_row))

  pub between_places : EachActor w (HasItsPlace w) → HavePlaces t.between
  between_places each = record {
    each = λ i a at_ stands c file place epoch len now doing. ⊎_elim
        (λ same.
        let mine : actor_after t.effect.onward t.actor ≡ a = same.1 in
        subst (λ (n : ℕ). IsClaimed t.between n file place epoch len (name_of n c.number)) same.0
        (own t.effect.onward refl c file place epoch len (ap (λ (q : Actor). current q.script) mine ∙ now) (ap (λ (q : Actor). q.doing) mine ∙ doing)
        (subst (λ (d : Doing). can_be d c.command ≡ true) doing (can_current a c now stands))))
        (λ other. claimed_on x.actor t.effect.files w t.between others_put after_files i file place epoch len (name_of i c.number)
        (λ h. other.0 (sym h)) (each i a other.1 c file place epoch len now doing))
        (with_nth_inv x.actor (actor_after t.effect.onward t.actor) w.actors i a
        (ap (λ (q : List Actor). slice_get q i) (sym (effect_actors t.effect x.actor t.actor x.command w t.between t.made)) ∙ at_));
  }

  pub after_places : EachActor w (HasItsPlace w) → HavePlaces u
  after_places each = subst HavePlaces t.is (when_settled HavePlaces t.between (between_places each) (λ e end. record {
    each = λ i a at_ stands c file place epoch len now doing. ⊎_elim
        (λ same. absurd (not_begun a.doing file place epoch len (ap (λ (q : Actor). q.doing) (sym same.1)) doing))
        (λ other. same_files t.between (ended e t.between) i file place epoch len (name_of i c.number) refl
        ((between_places each).each i a other.1 stands c file place epoch len now doing))
        (with_nth_inv e.actor (record e.state { script = drop 1 e.state.script; doing = Begun }) t.between.actors i a at_);
  }))

-- ---- the part

pub no_actor : (i : ℕ) (a : Actor) → slice_get {X = Actor} [] i ≡ Some a → ⊥
no_actor i a h = cc (h)

pub places : IsPart (λ s w. EachActor w (HasItsPlace w))
places = record {
  first = λ s laid i a at_. absurd (no_actor i a at_);
  begin = λ s ended p w laid between is sound steady i a at_ c file place epoch len now doing.
      absurd (not_begun a.doing file place epoch len (begun_all p (newest w) 0 p.actors i a at_) doing);
  event = λ s w e u laid world is sound steady after.
      let t = step_is (setup_of s) w e u is in
      let h = after_places (setup_of s) w e u.0 t (can_here (setup_of s) w e u.0 t sound.sound.actors.stand) steady.placed in
      λ i a at_. h.each i a at_ (after.sound.actors.stand i a at_);
}
