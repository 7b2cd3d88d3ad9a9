-- What a read gives is the frame that stands at its file's front.
use Rattle.std.proofs.Common.{◌≡◌, ℕ, zero, suc, Bool, true, false, List, [], ◌∷◌, Option, Some, None, refl, sym, ap, subst, ◌∙◌}
use Rattle.std.specs.List.{AllByRecursion}
use Rattle.std.specs.Option.{option_map_or}
use Rattle.std.specs.Prelude.{if◌then◌else◌, ◌==◌, slice_get}
use Rattle.std.proofs.lemmas.Bool.{eqb-true}
use Rattle.scen_laid.specs.Runs.{LaidRunsAreSound}
use Rattle.scen_words.specs.declared.command.Command.{Command}
use Rattle.scen_words.specs.declared.command.Command.TheVariants as command
use Rattle.tap_frame.specs.declared.name.Name.{Name}
use Rattle.tap_ground.specs.Options.{◌>>=◌}
use Rattle.tap_trace.specs.declared.answer.Answer.{Answer}
use Rattle.tap_trace.specs.declared.answer.Answer.TheVariants as answer
use Rattle.tap_steer.specs.Select as steer
use Rattle.tap_steer.specs.Table.{Table}
use Rattle.tap_world.specs.declared.event.Heard.{Heard}
use Rattle.tap_world.specs.declared.event.Heard.TheVariants as heard
use Rattle.tap_world.specs.ByNumber.{at}
use Rattle.tap_world.specs.Effect.{Effect, Ending, Onward, ending, heard_by, heard_of, settled, with_effect}
use Rattle.tap_world.specs.Effect.Onward.{Ends, Goes, Stays}
use Rattle.tap_world.specs.Each.{EachFile}
use Rattle.tap_world.specs.Frames.{Front, text_in}
use Rattle.tap_world.specs.declared.line.Entry.{Entry}
use Rattle.tap_world.specs.Line.{first_that, in_batch}
use Rattle.tap_world.specs.Setup.{Numbered, Setup, frame_of, setup_of}
use Rattle.tap_world.specs.SoundActors.{can_be, is_begun, reads_from}
use Rattle.tap_world.specs.Steady.{FoundIn, WasSent}
use Rattle.tap_world.specs.Step as rows
use Rattle.tap_world.specs.StepRing as ring
use Rattle.tap_world.specs.Stands.{are_new, if_new, names_of}
use Rattle.tap_world.specs.World.{Actor, Doing, World, current, table_at}
use Rattle.tap_world.specs.World.Doing.{Purges, Reads}
use Rattle.tap_sound.proofs.Kit.{only_some, some_same, then_some, where_some, where_then}
use Rattle.tap_sound.proofs.Taken.{row_is}
use Rattle.tap_steady.specs.Runs.{ReachedIsSteady}
use Rattle.scen_plain.proofs.Rows.{AllGive, Gives, GivesOn, row_gives}
use Rattle.scen_plain.specs.Reads.{GivesFrame, ReadsGiveWhatWasSent}

-- ---- the batch's front leaves

abbrev numbered : ℕ → Command → Numbered
numbered number c = record { number = number; command = c }

all_at : (Q : Entry → Type 0) (line : List Entry) (i : ℕ) (e : Entry) → AllByRecursion Q line → slice_get line i ≡ Some e → Q e
all_at Q [] i e a h = absurd (cc (h))
all_at Q (x ∷ xs) zero e a h = subst Q (some_same x e h) a.0
all_at Q (x ∷ xs) (suc i) e a h = all_at Q xs i e a.1 h

-- what reads a file is a read of it
read_is : (other : ℕ) (c : Command) → reads_from other c ≡ true → (room : ℕ) × (c ≡ command.Read other room)
read_is other (command.Read file room) e = (room, ap (λ (k : ℕ). command.Read k room) (eqb-true file other e))
read_is other c e = absurd (cc (e))

-- what a command found, where it is a read
read_found : (t : Table) (c : Command) (other room its : ℕ) (front : Front) → c ≡ command.Read other room → FoundIn t c (Reads other its front)
    → (its ≡ room) × (steer.shape_of t other ≡ Some front)
read_found t c other room its front is found_ =
    let h : FoundIn t (command.Read other room) (Reads other its front) = subst (λ (x : Command). FoundIn t x (Reads other its front)) is found_ in
    (h.0, h.1)

leaving : (s : Setup) (w : World) (me : ℕ) (a : Actor) (c : Numbered) (d : Doing) → slice_get w.actors me ≡ Some a → current a.script ≡ Some c
    → EachFile w (λ number f. AllByRecursion (WasSent s) f.line) → can_be d c.command ≡ true → FoundIn (table_at s w a.seen) c.command d
    → AllGive (GivesFrame s w me) (ring.leaves s w a.seen d)
leaving s w me a c (Reads other its front) is_actor is_current sent can found_ =
    let Q = GivesFrame s w me in
    let r = read_is other c.command can in
    let h = read_found (table_at s w a.seen) c.command other r.0 its front r.1 found_ in
    where_then (Gives Q) (at w.files other) _ (λ f e1. where_then (Gives Q) (first_that in_batch f.line) _
    (λ i e2. where_then (Gives Q) (slice_get f.line i) _ (λ e e3. where_then (Gives Q) (frame_of s e.name e.len) _
    (λ x e4. record {
      reader = a;
      is_reader = is_actor;
      number = c.number;
      file = other;
      room = r.0;
      reads = is_current ∙ ap (λ (y : Command). Some (numbered c.number y)) r.1;
      f = f;
      is_file = e1;
      i = i;
      is_front = e2;
      is_place = refl;
      entry = e;
      is_entry = e3;
      is_name = refl;
      was_sent = all_at (WasSent s) f.line i e (sent other f e1) e3;
      frame = x;
      is_frame = e4;
      front = front;
      is_shape = h.1;
      gives = ap (λ (k : ℕ). text_in front x k) h.0;
    }))))
leaving s w me a c (Purges other version) is_actor is_current sent can found_ = where_then (Gives (GivesFrame s w me)) (at w.files other) _
    (λ f e1. where_then (Gives (GivesFrame s w me)) (ring.name_at f.line (first_that in_batch f.line)) _ (λ m e2. tt))
leaving s w me a c d is_actor is_current sent can found_ = tt

-- ---- an event

answered : (Q : Name → ℕ → List ℕ → Type 0) (seen : ℕ) (x : Answer) (name : Name) (place : ℕ) (bytes : List ℕ)
    → x ≡ answer.Read name place bytes → GivesOn Q (Ends seen x) → Q name place bytes
answered Q seen x name place bytes e h = subst (λ (y : Answer). GivesOn Q (Ends seen y)) e h

same_answer : (x y : Answer) → heard.Answer x ≡ heard.Answer y → x ≡ y
same_answer x y e = cc (e)

heard_one : (Q : Name → ℕ → List ℕ → Type 0) (o : Onward) (name : Name) (place : ℕ) (bytes : List ℕ)
    → heard_of o ≡ heard.Answer (answer.Read name place bytes) → GivesOn Q o → Q name place bytes
heard_one Q (Goes seen d f) name place bytes e h = absurd (cc (e))
heard_one Q (Stays f) name place bytes e h = absurd (cc (e))
heard_one Q (Ends seen x) name place bytes e h = answered Q seen x name place bytes (same_answer x (answer.Read name place bytes) e) h

heard_read : (Q : Name → ℕ → List ℕ → Type 0) (actor : ℕ) (o : Onward) (end : Option Ending) (name : Name) (place : ℕ) (bytes : List ℕ)
    → heard_by actor o end ≡ heard.Answer (answer.Read name place bytes) → GivesOn Q o → Q name place bytes
heard_read Q actor o None name place bytes e h = heard_one Q o name place bytes e h
heard_read Q actor o (Some end) name place bytes e h = go (end.actor == actor) e
  where
    go : (b : Bool) → (if b then heard.Answer (answer.Version end.version) else heard_of o) ≡ heard.Answer (answer.Read name place bytes) → Q name place bytes
    go true e = absurd (cc (e))
    go false e = heard_one Q o name place bytes e h

pub reads_give : LaidRunsAreSound → ReachedIsSteady → ReadsGiveWhatWasSent
reads_give sound steady s w v e name place bytes laid reached stepped_ =
    let t = setup_of s in
    let Q = GivesFrame t w e.actor in
    let answered_ : World × Heard = (v, heard.Answer (answer.Read name place bytes)) in
    let r = then_some (rows.effect t w e) (λ x. slice_get w.actors e.actor >>= λ b. rows.stepped x e b w) answered_ stepped_ in
    let b = then_some (slice_get w.actors e.actor) (λ y. rows.stepped r.0 e y w) answered_ r.2 in
    let u = then_some (with_effect r.0 e.actor b.0 e.command w) (λ y. Some (settled y (ending y), heard_by e.actor r.0.onward (ending y))) answered_ b.2 in
    let q = then_some (rows.row_of t w e) (λ x. if_new w x) r.0 r.1 in
    let o = only_some (are_new w (names_of q.0)) q.0 r.0 q.2 in
    let row = row_is t w e q.0 q.1 in
    let told : heard_by e.actor r.0.onward (ending u.0) ≡ heard.Answer (answer.Read name place bytes) =
    ap (λ (x : World × Heard). x.1) (some_same (settled u.0 (ending u.0), heard_by e.actor r.0.onward (ending u.0)) answered_ u.2) in
    let its : rows.row t w e.kind e.actor row.actor row.now.number row.now.command ≡ Some r.0 = row.is_row ∙ ap (λ (x : Effect). Some x) o.1 in
    let can : can_be row.actor.doing row.now.command ≡ true =
    sym (ap (λ (x : Option Numbered). option_map_or (λ (y : Numbered). can_be row.actor.doing y.command) x (is_begun row.actor.doing)) row.current_is)
    ∙ ((sound s laid).reached w reached).sound.actors.stand e.actor row.actor row.found in
    let kept = steady s w laid reached in
    let found_ = (kept.seen e.actor row.actor row.found).found row.now row.current_is in
    heard_read Q e.actor r.0.onward (ending u.0) name place bytes told
    (where_some (Gives Q) (rows.row t w e.kind e.actor row.actor row.now.number row.now.command) r.0
    (row_gives Q t w e.actor row.now.number e.kind row.actor row.now.command
    (leaving t w e.actor row.actor row.now row.actor.doing row.found row.current_is kept.sent can found_)) its)
