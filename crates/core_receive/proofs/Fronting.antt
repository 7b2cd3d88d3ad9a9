-- The front of a batch as a worker has it.
use Rattle.std.proofs.Common.{◌≡◌, ℕ, zero, suc, ◌≤◌, List, [], ◌∷◌, length, Option, Some, None, sym, ap, ◌∙◌, subst, arith}
use Rattle.std.specs.Prelude.{IfSome, min, slice_get, option_map}
use Rattle.std.specs.List.{AllByRecursion}
use Rattle.tap_frame.specs.Frame.{FrameValue}
use Rattle.tap_ground.specs.Options.{◌>>=◌}
use Rattle.tap_lines.specs.Framed.{IsFrameAt, IsFrameOf}
use Rattle.tap_sound.proofs.Kit.{some_same, some_then, then_some}
use Rattle.scen_text.specs.declared.scenario.Line.{Line}
use Rattle.scen_words.specs.declared.command.Command.{Command}
use Rattle.tap_world.specs.Frames.{FrameText, frame_in, sent_bytes, sent_front}
use Rattle.tap_world.specs.declared.line.Entry.{Entry}
use Rattle.tap_world.specs.Line.{File, first_that, in_batch}
use Rattle.tap_world.specs.Setup.{Setup, frame_sent, kept_frame, sent_by}
use Rattle.tap_world.specs.StepTurns.{frame_at, front_frame}
use Rattle.tap_world.specs.Steady.{WasSent}
use Rattle.core_shared.specs.Suiting.{IsSent}

all_at : {A : Type 0} (P : A → Type 0) (xs : List A) (i : ℕ) (x : A) → AllByRecursion P xs → slice_get xs i ≡ Some x → P x
all_at P [] i x h e = absurd (cc (e))
all_at P (y ∷ ys) zero x h e = subst P (some_same y x e) h.0
all_at P (y ∷ ys) (suc i) x h e = all_at P ys i x h.1 e

least : (a b : ℕ) → a ≤ b → min a b ≡ a
least a b h = omega (arith, h)

-- the frame of an entry that was sent has its name, and as many bytes as are kept
frame_is : (s : Setup) (e : Entry) (frame : FrameValue) → WasSent s e → frame_at s e ≡ Some frame → IsFrameOf e frame
frame_is s e frame was h =
    let text : frame_sent s e.name ≡ Some (frame_in (sent_front was.hdr) (sent_bytes was.hdr was.bytes)) =
    ap (λ (o : Option Line). o >>= (λ l. sent_by l.command)) was.is_line ∙ ap (λ (c : Command). sent_by c) was.command in
    let same = some_same _ frame
    (sym (ap (λ (o : Option FrameText). option_map (λ (f : FrameText). record { name = e.name; hdr = f.hdr; made = f.ether; mark = min e.len (length f.ether) }) o) text)
    ∙ h) in
    record {
      name = ap (λ (f : FrameValue). f.name) (sym same);
      mark = ap (λ (f : FrameValue). f.mark) (sym same) ∙ least e.len _ was.kept;
    }

-- so it is the one that was sent
its_frame : (s : Setup) (e : Entry) (frame : FrameValue) → IsFrameOf e frame → frame_at s e ≡ Some frame → IsSent s frame
its_frame s e frame its h =
    ap (λ n. kept_frame s n frame.mark) its.name ∙ ap (λ (k : ℕ). kept_frame s e.name k) its.mark ∙ h

-- a frame is that of an entry, where there is one
abbrev IfEntry : Option Entry → FrameValue → Type 0
IfEntry o x = IfSome o (λ e. IsFrameOf e x)

-- the front of a batch, which a worker has
pub record HasFront (s : Setup) (f : File) (frame : FrameValue) : Type 0 where
  pub index : ℕ
  pub is_front : first_that in_batch f.line ≡ Some index
  pub its : IsFrameAt (Some index) f.line frame
  pub sent : IsSent s frame

pub front_is : (s : Setup) (f : File) (frame : FrameValue) → AllByRecursion (WasSent s) f.line → front_frame s f ≡ Some frame
    → HasFront s f frame
front_is s f frame were h =
    let one = then_some (first_that in_batch f.line) (λ i. slice_get f.line i >>= (λ e. frame_at s e)) frame h in
    let two = then_some (slice_get f.line one.0) (λ e. frame_at s e) frame one.2 in
    let was : WasSent s two.0 = all_at (WasSent s) f.line one.0 two.0 were two.1 in
    let its : IsFrameOf two.0 frame = frame_is s two.0 frame was two.2 in
    record {
      index = one.0;
      is_front = one.1;
      its = at_entry (slice_get f.line one.0) two.0 frame two.1 its;
      sent = its_frame s two.0 frame its two.2;
    }
  where
    at_entry : (o : Option Entry) (e : Entry) (x : FrameValue) → o ≡ Some e → IsFrameOf e x
        → IfEntry o x
    at_entry None e x p q = absurd (cc (p))
    at_entry (Some d) e x p q = subst (λ (y : Entry). IsFrameOf y x) (sym (some_same d e p)) q

-- and the other way: the frame of the batch's front, which was sent, is what a worker gets
pub front_of : (s : Setup) (f : File) (index : ℕ) (frame : FrameValue) → first_that in_batch f.line ≡ Some index
    → IsFrameAt (Some index) f.line frame → (e : Entry) → slice_get f.line index ≡ Some e → IsSent s frame
    → front_frame s f ≡ Some frame
front_of s f index frame is its e there sent =
    let here : IsFrameOf e frame = of_entry (slice_get f.line index) e frame there its in
    some_then (first_that in_batch f.line) (λ i. slice_get f.line i >>= (λ x. frame_at s x)) index frame is
    (some_then (slice_get f.line index) (λ x. frame_at s x) e frame there
    (sym (ap (λ n. kept_frame s n frame.mark) here.name ∙ ap (λ (k : ℕ). kept_frame s e.name k) here.mark) ∙ sent))
  where
    of_entry : (o : Option Entry) (e : Entry) (x : FrameValue) → o ≡ Some e → IfEntry o x → IsFrameOf e x
    of_entry o e x p q = subst (λ (y : Option Entry). IfEntry y x) p q
