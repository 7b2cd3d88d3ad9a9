-- Sends, reads and writes under way, and what is learnt of a flow: they may always go on, but for a learning, which
-- waits for the writer.
use Rattle.std.proofs.Common.{◌≡◌, ℕ, zero, suc, ◌+◌, ◌-◌, List, [], ◌∷◌, Bool, true, false, not, Option, Some, None, refl, sym, ap, ◌∙◌, subst, true≢false, option_map, arith}
use Rattle.std.specs.Prelude.{if◌then◌else◌, ◌==◌, ◌&&◌, ◌||◌, ◌++◌, is_none, is_some, slice_get, take}
use Rattle.std.specs.Option.{option_map_or}
use Rattle.std.specs.List.{AllByRecursion}
use Rattle.tap_ledger.specs.declared.fate.Cause.{Cause}
use Rattle.tap_ledger.specs.declared.fate.Cause.TheVariants as cause
use Rattle.tap_ledger.specs.declared.fate.Fate.TheVariants as fate
use Rattle.tap_trace.specs.declared.answer.Answer.TheVariants as answer
use Rattle.tap_trace.specs.declared.turn.ChainText.{ChainText}
use Rattle.vring_turns.specs.TxTurn.{TxTurn}
use Rattle.scen_text.specs.declared.scenario.Line.{Line}
use Rattle.scen_words.specs.declared.command.Command.{Command}
use Rattle.scen_words.specs.declared.command.Command.TheVariants as command
use Rattle.tap_ground.specs.Options.{◌>>=◌, only_if}
use Rattle.tap_world.specs.declared.event.EventKind.TheVariants as event
use Rattle.tap_world.specs.declared.event.Found.TheVariants as found
use Rattle.tap_world.specs.declared.line.Entry.{Entry}
use Rattle.tap_world.specs.declared.line.Standing.TheVariants.{Claimed, Ready}
use Rattle.tap_world.specs.ByNumber.{at}
use Rattle.tap_world.specs.Frames.{Front, FrameText, frame_in, sent_bytes, sent_front}
use Rattle.tap_world.specs.Setup.{Numbered, Setup, frame_of, frame_sent, sent_by}
use Rattle.tap_world.specs.Line.{File, claimed, first_that, freed, front_place, has_batch, in_batch, is_full, is_gone, is_spent}
use Rattle.tap_world.specs.LineSteps.{is_claim_of, ready_front, restand}
use Rattle.tap_world.specs.LineSteps.Change.{Claims, Leaves, Puts}
use Rattle.tap_world.specs.World.{Doing, HostFrame, World, name_of}
use Rattle.tap_world.specs.World.Doing.{Given, Hosts, Learns, Placed, Reads, Routed, Teaches}
use Rattle.tap_world.specs.Effect.{Effect, on_file, only}
use Rattle.tap_world.specs.Effect.Onward.{Ends, Goes as GoesOn}
use Rattle.tap_world.specs.Scripts.{read_next, send_next}
use Rattle.tap_world.specs.Step.{or_else}
use Rattle.tap_world.specs.StepRing.{drops_for, full_now, gone_now, leaves, read_told, spent_now}
use Rattle.tap_world.specs.StepTransmits.{turns}
use Rattle.tap_world.specs.SoundActors as so
use Rattle.tap_world.specs.Steady.{IsClaimed, WasSent}
use Rattle.tap_sound.proofs.Kit.{some_same}
use Rattle.tap_sound.proofs.Turned.{itself}
use Rattle.tap_waits.proofs.Kit.{can_do, does, is_there}
use Rattle.tap_waits.proofs.NextFacts.{Goes, Here, does_on_file, does_there, file_named, me}
use Rattle.tap_waits.proofs.NextLines.{first_stands, left_is, some_only}
use Rattle.tap_waits.proofs.NextControl.{moves_done}

pub does_only : (w : World) (i n : ℕ) (b : Bool) (r : Effect) → can_do w i n r ≡ true → does w i n (only_if b r) ≡ b
does_only w i n true r e = e
does_only w i n false r e = refl

pub none_of : {A : Type 0} (o : Option A) → is_some o ≡ false → is_none o ≡ true
none_of None e = refl
none_of (Some x) e = absurd (true≢false e)

pub all_at : (P : Entry → Type 0) (xs : List Entry) (k : ℕ) (x : Entry) → AllByRecursion P xs → slice_get xs k ≡ Some x
    → P x
all_at P [] k x h e = absurd (cc (e))
all_at P (y ∷ ys) zero x h e = subst P (some_same y x e) h.0
all_at P (y ∷ ys) (suc k) x h e = all_at P ys k x h.1 e

-- the frame of an entry that was sent
pub frame_there : (s : Setup) (e : Entry) → WasSent s e → (x : FrameText) × (frame_sent s e.name ≡ Some x)
frame_there s e h = (
  frame_in (sent_front h.hdr) (sent_bytes h.hdr h.bytes),
  ap (λ (o : Option Line). o >>= (λ l. sent_by l.command)) h.is_line ∙ ap (λ (c : Command). sent_by c) h.command,
)

-- nothing is in hand of a file that no worker owns
pub none_in_hand : {s : Setup} {w : World} {i seen : ℕ} {script : List Numbered} {n : ℕ} {c : Command} {d : Doing}
    → Here s w i seen script n c d → (file : ℕ) (f : File) → at w.files file ≡ Some f → is_some f.owner ≡ false
    → is_none f.hand ≡ true
none_in_hand h file f at_ none = go f.hand refl
  where
    go : (o : Option ℕ) → f.hand ≡ o → is_none f.hand ≡ true
    go None is = ap (λ o. is_none o) is
    go (Some v) is = absurd (true≢false (sym (ap (λ o. is_some o) (h.sound.hand file f at_ v is).0) ∙ none))

module _ (s : Setup) (w : World) (i seen : ℕ) (script : List Numbered) (n : ℕ) where
  -- ---- a send

  abbrev dropped_as : ℕ → Cause → Effect
  dropped_as file x = record (only (Ends seen (answer.Dropped (Some file) x)) w) { drops = name_of i n ∷ [] }

  drops_done : (why : ℕ → File → Option Cause) (file epoch len : ℕ) (f : File) (x : Cause) → at w.files file ≡ Some f
      → why epoch f ≡ Some x
      → does w i n (drops_for why w i n seen (Routed file epoch len)) ≡ true
  drops_done why file epoch len f x at_ e =
      ap (λ (o : Option File). does w i n (o >>= (λ g. why epoch g >>= (λ y. Some (dropped_as file y))))) at_
      ∙ ap (λ (o : Option Cause). does w i n (o >>= (λ y. Some (dropped_as file y)))) e

  pub routed_goes : (c : Command) (file epoch len : ℕ) → Here s w i seen script n c (Routed file epoch len)
      → Goes s w i seen script n c (Routed file epoch len)
  routed_goes c file epoch len h =
      let there = file_named h file refl in
      go there.0 there.1 (is_gone epoch there.0) (is_spent there.0) (is_full there.0) refl refl refl
    where
      next : (f : File) → at w.files file ≡ Some f → (a b d : Bool) → is_gone epoch f ≡ a → is_spent f ≡ b
          → is_full f ≡ d
          → option_map_or (λ g. Some (send_next epoch g)) (at w.files file) None
          ≡ Some (if a then event.Gone else if b then event.Spent else if d then event.Full else event.Claim)
      next f at_ a b d gone spent full =
          ap (λ (o : Option File). option_map_or (λ g. Some (send_next epoch g)) o None) at_
          ∙ ap (λ (q : Bool). Some (if q then event.Gone else if is_spent f then event.Spent else if is_full f then
          event.Full else event.Claim)) gone
          ∙ ap (λ (q : Bool). Some (if a then event.Gone else if q then event.Spent else if is_full f then event.Full
          else event.Claim)) spent
          ∙ ap (λ (q : Bool). Some (if a then event.Gone else if b then event.Spent else if q then event.Full else
          event.Claim)) full

      go : (f : File) → at w.files file ≡ Some f → (a b d : Bool) → is_gone epoch f ≡ a → is_spent f ≡ b
          → is_full f ≡ d → Goes s w i seen script n c (Routed file epoch len)
      go f at_ true b d gone spent full = record {
        kind = event.Gone;
        is_next = next f at_ true b d gone spent full;
        done = drops_done gone_now file epoch len f (cause.Gone epoch f.epoch f.shut) at_
            (ap (λ (q : Bool). only_if q (cause.Gone epoch f.epoch f.shut)) gone);
      }
      go f at_ false true d gone spent full = record {
        kind = event.Spent;
        is_next = next f at_ false true d gone spent full;
        done = drops_done spent_now file epoch len f (cause.Spent (claimed f)) at_
            (ap (λ (q : Bool). only_if q (cause.Spent (claimed f))) spent);
      }
      go f at_ false false true gone spent full = record {
        kind = event.Full;
        is_next = next f at_ false false true gone spent full;
        done = drops_done full_now file epoch len f (cause.Full (claimed f) (freed f)) at_
            (ap (λ (q : Bool). only_if q (cause.Full (claimed f) (freed f))) full);
      }
      go f at_ false false false gone spent full = record {
        kind = event.Claim;
        is_next = next f at_ false false false gone spent full;
        done =
            does_there w i n file f (Claims i (name_of i n) epoch len)
            (λ g. GoesOn seen (Placed file (claimed g) epoch len) (found.Place file (claimed g) epoch)) at_
            ∙ some_only (not (is_gone epoch f || is_spent f || is_full f))
            (record f {
              line = f.line
                  ++ record { name = name_of i n; epoch = epoch; len = len; stands = Claimed i } ∷ [];
            })
            ∙ ap (λ (q : Bool). not (q || is_spent f || is_full f)) gone ∙ ap (λ (q : Bool). not (q || is_full f)) spent
            ∙ ap (λ (q : Bool). not q) full;
      }

  pub placed_goes : (c : Command) (file place epoch len : ℕ) → Here s w i seen script n c (Placed file place epoch len)
      → Goes s w i seen script n c (Placed file place epoch len)
  placed_goes c file place epoch len h =
      let p : IsClaimed w i file place epoch len (name_of i n) = h.steady.placed i
      (me seen script (Placed file place epoch len)) h.found (record { number = n; command = c }) file place epoch
      len h.now refl in
      let f = p.f in
      let back : (f.first + p.index) - f.first ≡ p.index = omega (arith) in
      let there : slice_get f.line (place - f.first)
      ≡ Some (record { name = name_of i n; epoch = epoch; len = len; stands = Claimed i }) =
      ap (λ (k : ℕ). slice_get f.line (k - f.first)) p.is_place ∙ ap (λ (k : ℕ). slice_get f.line k) back ∙ p.entry in
      record {
        kind = event.Ready;
        is_next = refl;
        done =
            does_on_file w i n file f (Puts i place) (Ends seen (answer.Placed file place epoch len)) p.is_there
            ∙ ap (λ (o : Option Entry). is_some
            (o >>= (λ e. only_if (is_claim_of i e.stands)
            (record f { line = restand (place - f.first) Ready f.line })))) there
            ∙ some_only (i == i) (record f { line = restand (place - f.first) Ready f.line }) ∙ itself i;
      }

  -- ---- a read

  reads_on : (other asked file room : ℕ) (front : Front) → Here s w i seen script n (command.Read other asked)
      (Reads file room front)
      → Goes s w i seen script n (command.Read other asked) (Reads file room front)
  reads_on other asked file room front h =
      let there = file_named h file refl in
      let f = there.0 in
      go f there.1 (is_some f.owner) (has_batch f) (is_some (ready_front f.line)) refl refl refl
    where
      next : (f : File) → at w.files file ≡ Some f → (a b d : Bool) → is_some f.owner ≡ a → has_batch f ≡ b
          → is_some (ready_front f.line) ≡ d
          → option_map_or (λ g. Some (read_next g)) (at w.files file) None
          ≡ Some (if a then event.Owner else if b then event.Out else if d then event.Move else event.NotReady)
      next f at_ a b d owned batched ready =
          ap (λ (o : Option File). option_map_or (λ g. Some (read_next g)) o None) at_
          ∙ ap (λ (q : Bool). Some (if q then event.Owner else if has_batch f then event.Out else if is_some
          (ready_front f.line) then event.Move else event.NotReady)) owned
          ∙ ap (λ (q : Bool). Some (if a then event.Owner else if q then event.Out else if is_some (ready_front f.line)
          then event.Move else event.NotReady)) batched
          ∙ ap (λ (q : Bool). Some (if a then event.Owner else if b then event.Out else if q then event.Move else
          event.NotReady)) ready

      go : (f : File) → at w.files file ≡ Some f → (a b d : Bool) → is_some f.owner ≡ a → has_batch f ≡ b
          → is_some (ready_front f.line) ≡ d
          → Goes s w i seen script n (command.Read other asked) (Reads file room front)
      go f at_ true b d owned batched ready = record {
        kind = event.Owner;
        is_next = next f at_ true b d owned batched ready;
        done =
            ap (λ (o : Option File). does w i n
            (or_else (o >>= (λ g. only_if (is_some g.owner) (only (Ends seen answer.Busy) w))) None)) at_
            ∙ ap (λ (q : Bool). does w i n (or_else (only_if q (only (Ends seen answer.Busy) w)) None)) owned;
      }
      go f at_ false true d owned batched ready =
          let k = is_there (first_that in_batch f.line) batched in
          let e = first_stands in_batch f.line k.0 k.1 in
          let sent = frame_there s e.entry (all_at (WasSent s) f.line k.0 e.entry (h.steady.sent file f at_)
          e.is_there) in
          let x : FrameText = record sent.0 { ether = take e.entry.len sent.0.ether } in
          let r : leaves s w seen (Reads file room front)
          ≡ Some (on_file file (Leaves None fate.Read) (read_told f front room seen k.0 e.entry x) w) =
          ap (λ (o : Option File). o
          >>= (λ g. first_that in_batch g.line
          >>= (λ j. slice_get g.line j >>= (λ y. frame_of s y.name y.len >>= (λ z.
          Some (on_file file (Leaves None fate.Read) (read_told g front room seen j y z) w)))))) at_
          ∙ ap (λ (o : Option ℕ). o >>= (λ j. slice_get f.line j >>= (λ y. frame_of s y.name y.len >>= (λ z.
          Some (on_file file (Leaves None fate.Read) (read_told f front room seen j y z) w))))) k.1
          ∙ ap (λ (o : Option Entry). o >>= (λ y. frame_of s y.name y.len >>= (λ z.
          Some (on_file file (Leaves None fate.Read) (read_told f front room seen k.0 y z) w)))) e.is_there
          ∙ ap (λ (o : Option FrameText). option_map (λ (y : FrameText). record y { ether = take e.entry.len y.ether })
          o >>= (λ z.
          Some (on_file file (Leaves None fate.Read) (read_told f front room seen k.0 e.entry z) w))) sent.1 in
          record {
            kind = event.Out;
            is_next = next f at_ false true d owned batched ready;
            done =
                ap (λ (o : Option Effect). does w i n
                (or_else o (turns w i n seen (Reads file room front) (command.Read other asked)))) r
                ∙ does_on_file w i n file f (Leaves None fate.Read) (read_told f front room seen k.0 e.entry x) at_
                ∙ left_is f fate.Read k.0 k.1 ∙ none_in_hand h file f at_ owned;
          }
      go f at_ false false true owned batched ready = record {
        kind = event.Move;
        is_next = next f at_ false false true owned batched ready;
        done = moves_done w i n file f at_ batched ∙ ready;
      }
      go f at_ false false false owned batched ready = record {
        kind = event.NotReady;
        is_next = next f at_ false false false owned batched ready;
        done =
            ap (λ (o : Option File). does w i n
            (or_else (o >>= (λ g. only_if (is_none (first_that in_batch g.line) && is_none (ready_front g.line))
            (only (Ends seen (answer.Again (front_place g))) w))) None)) at_
            ∙ ap (λ (q : Bool). does w i n
            (or_else (only_if (q && is_none (ready_front f.line))
            (only (Ends seen (answer.Again (front_place f))) w)) None)) (none_of (first_that in_batch f.line) batched)
            ∙ ap (λ (q : Bool). does w i n (or_else (only_if q (only (Ends seen (answer.Again (front_place f))) w))
            None)) (none_of (ready_front f.line) ready);
      }

  pub reads_goes : (c : Command) (file room : ℕ) (front : Front) → Here s w i seen script n c (Reads file room front)
      → so.reads_from file c ≡ true → Goes s w i seen script n c (Reads file room front)
  reads_goes (command.Read other asked) file room front h e = reads_on other asked file room front h
  reads_goes c file room front h e = absurd (true≢false (sym e))

  -- ---- a write, and learnings

  pub hosts_goes : (c : Command) (file : ℕ) (ether : List ℕ) (learns : Bool)
      → Goes s w i seen script n c (Hosts file ether learns)
  hosts_goes c file ether true = record { kind = event.HostIn; is_next = refl; done = refl }
  hosts_goes c file ether false = record { kind = event.HostIn; is_next = refl; done = refl }

  pub learns_goes : (c : Command) (file : ℕ) (ether : List ℕ) → so.writes_to file c ≡ true
      → Goes s w i seen script n c (Learns file ether)
  learns_goes (command.Write other bytes) file ether e =
      record { kind = event.Publish; is_next = refl; done = does_only w i n (is_none w.writer) _ refl }
  learns_goes c file ether e = absurd (true≢false (sym e))

  pub given_goes : (c : Command) (file : ℕ) (t : TxTurn) (chains : List ChainText) (frame : HostFrame)
      → so.is_tx_turn c ≡ true → Goes s w i seen script n c (Given file t chains frame)
  given_goes (command.TxTurn vhost) file t chains frame e = record { kind = event.Look; is_next = refl; done = refl }
  given_goes c file t chains frame e = absurd (true≢false (sym e))

  pub teaches_goes : (c : Command) (file : ℕ) (t : TxTurn) (chains : List ChainText) (frame : HostFrame)
      → so.is_tx_turn c ≡ true → Goes s w i seen script n c (Teaches file t chains frame)
  teaches_goes (command.TxTurn vhost) file t chains frame e =
      record { kind = event.Publish; is_next = refl; done = does_only w i n (is_none w.writer) _ refl }
  teaches_goes c file t chains frame e = absurd (true≢false (sym e))
