-- What each step of a receive turn makes of its queue of frames, and a run of them.
use Rattle.std.proofs.Common.{◌≡◌, ℕ, ◌+◌, ◌-◌, Bool, true, false, List, [], ◌∷◌, ◌++◌, length, map, Option, None, Some, IfSome, is_some, if◌then◌else◌, nat_le, nat_eq, refl, sym, ap, ◌∙◌, subst, append_assoc, take, take_at, arith}
use Rattle.std.specs.Option.{option_map, option_to_list}
use Rattle.tap_frame.specs.declared.name.Name.{Name}
use Rattle.std.proofs.lemmas.List.{append-nil, map-append, length-append}
use Rattle.vhost_queue.specs.Queue.{Queue}
use Rattle.tap_frame.specs.Frame.{FrameValue}
use Rattle.tap_ledger.specs.declared.act.Act.{Act}
use Rattle.tap_ledger.specs.declared.act.Act.TheVariants as act
use Rattle.tap_ledger.specs.declared.fate.Fate.{Fate}
use Rattle.tap_ledger.specs.declared.fate.Fate.TheVariants.{Guest}
use Rattle.tap_ledger.specs.declared.hand.OutFrame.{OutFrame}
use Rattle.tap_ledger.specs.declared.hand.Hand.{Hand}
use Rattle.tap_ledger.specs.declared.hand.Hand.TheVariants as hand
use Rattle.tap_ledger.specs.Queue.{QueueState, out_with, finished, put_back}
use Rattle.vring_turns.specs.declared.end.End.{End}
use Rattle.vring_turns.specs.declared.end.End.TheVariants as end
use Rattle.vring_turns.specs.declared.stage.RxStage.{RxStage}
use Rattle.vring_turns.specs.declared.stage.RxStage.TheVariants as stage
use Rattle.vring_turns.specs.Ring.{Made, room_in, found, fetches, noticed, done_in}
use Rattle.vring_turns.specs.Turn.{is_enough, publishes_at}
use Rattle.vring_turns.specs.ReceiveImage.{need_of}
use Rattle.vring_turns.specs.Hands.{Hands, MovesAt}
use Rattle.vring_turns.specs.RxTurn.{RxTurn, RxState, overrun, rx_ring, rx_made, rewinding, rx_outs, rx_puts_back, rx_hands, rx_with, rx_in_hand, rx_next, stage_of, rx_at, rx_closing, rx_rewinds, rx_way, rx_after_fetch, rx_after_second}
use Rattle.vring_turns.specs.RxRun.{IsRxRun}
use Rattle.vring_turns.specs.RxLine.{Other, Joins, Purges, Cuts, Looks, LineEvent, Makes, Meets, Does, IsKnownAt, AreMoves, own_steps, with_fate, leaves_at, left_at, left_by, line_at, line_by, back_at, back_by, PutsBack, TellsNeed, PutsBackAt, Handles, PassesLine}
use Rattle.vring_turns.specs.Stage.{has_in_hand, need_at}
use Rattle.vring_turns.proofs.TxRuns.{some_is}
use Rattle.vring_turns.proofs.RxRuns.{published_made, copied_made}
use Rattle.vring_turns.proofs.LineStages.{closing_has, closing_back, packet_has, packet_back, way_has, way_back, first_back, second_back, first_has, second_has}

abbrev frame_of : FrameValue × Fate → FrameValue
frame_of x = x.0

abbrev out_of : FrameValue × Fate → OutFrame
out_of x = out_with x.1 x.0

abbrev name_of : Option FrameValue → Option Name
name_of o = option_map (λ frame. frame.name) o

-- One step.

-- a step lets these out, makes these known, and leaves these put back
record Passes
    (t u : RxTurn) (f g : QueueState) (left : List (FrameValue × Fate)) (more back : List FrameValue) : Type 0 where
  pub out : g.out ≡ f.out ++ map out_of left
  pub line : map frame_of left ++ (option_to_list u.held ++ g.waiting) ≡ (option_to_list t.held ++ f.waiting) ++ more
  pub handles : Handles u g back

of_answer :
    (s s' : RxState) (told : Act) (x : RxState × Act) (f g : QueueState) (left : List (FrameValue × Fate))
    (more back : List FrameValue)
    → Some x ≡ Some (s', told) → Passes s.turn x.0.turn f g left more back
    → Passes s.turn s'.turn f g left more back
of_answer s s' told x f g left more back e d =
    let P : RxState → Type 0 = λ u. Passes s.turn u.turn f g left more back in
    subst P (ap (λ y. y.0) (some_is x (s', told) e)) d

-- a step that leaves the frame in hand and the queue
keeps :
    (t u : RxTurn) (f g : QueueState) (back : List FrameValue)
    → u.held ≡ t.held → g ≡ f → f.in_hand ≡ name_of t.held → is_some t.held ≡ has_in_hand u.stage
    → PutsBackAt u.stage u back
    → Passes t u f g [] [] back
keeps t u f g back held same hand has puts =
    let P : QueueState → Type 0 = λ k. Passes t u f k [] [] back in
    let line : option_to_list u.held ++ f.waiting ≡ (option_to_list t.held ++ f.waiting) ++ [] =
    ap (λ h. option_to_list h ++ f.waiting) held ∙ sym (append-nil (option_to_list t.held ++ f.waiting)) in
    subst P (sym same) (record {
      out = sym (append-nil f.out);
      line = line;
      handles = record {
        holds = ap is_some held ∙ has;
        in_hand = hand ∙ ap name_of (sym held);
        puts_back = puts;
      };
    })

none_held : (o : Option FrameValue) → is_some o ≡ false → o ≡ None
none_held None e = refl
none_held (Some frame) e = cc

hand_passes :
    (s s' : RxState) (told : Act) (h : Hand) (f g : QueueState) (more back : List FrameValue)
    → is_some s.turn.held ≡ false → back ≡ [] → Hands h f g → IsKnownAt stage.Hand h f g more
    → rx_hands h s ≡ Some (s', told)
    → Passes s.turn s'.turn f g [] more back
hand_passes s s' told (hand.Got frame) f g more back none put moves known e =
    let x : RxState × Act = (record s { turn = record s.turn { held = Some frame; stage = stage.Fetch } }, act.Hand) in
    let line : frame ∷ g.waiting ≡ (option_to_list s.turn.held ++ f.waiting) ++ more =
    known ∙ ap (λ o. (option_to_list o ++ f.waiting) ++ more) (sym (none_held s.turn.held none)) in
    of_answer s s' told x f g [] more back e (record {
      out = moves.out_stays ∙ sym (append-nil f.out);
      line = line;
      handles = record { holds = refl; in_hand = moves.in_hand; puts_back = put };
    })
hand_passes s s' told (hand.NotReady place) f g more back none put moves known e =
    let x : RxState × Act = (record s { turn = rx_at (rx_closing end.Idle s.queue) s.turn }, act.NotReady) in
    let b = nat_eq (done_in s.queue) 0 in
    let held = none_held s.turn.held none in
    let line : option_to_list s.turn.held ++ g.waiting ≡ (option_to_list s.turn.held ++ f.waiting) ++ more =
    ap (λ l. option_to_list s.turn.held ++ l) known
    ∙ sym (append_assoc (option_to_list s.turn.held) f.waiting more) in
    of_answer s s' told x f g [] more back e (record {
      out = moves.out_stays ∙ sym (append-nil f.out);
      line = line;
      handles = record {
        holds = none ∙ sym (closing_has b end.Idle);
        in_hand = moves.in_hand ∙ ap name_of (sym held);
        puts_back = closing_back b end.Idle x.0.turn back put;
      };
    })
hand_passes s s' told hand.Off f g more back none put moves known e = cc
hand_passes s s' told hand.NoMemory f g more back none put moves known e = cc

made_passes :
    (s s' : RxState) (told : Act) (made : Made) (st : RxStage) (f g : QueueState) (back : List FrameValue)
    → Some (rx_made made st s) ≡ Some (s', told) → g ≡ f → f.in_hand ≡ name_of s.turn.held
    → is_some s.turn.held ≡ has_in_hand st → PutsBackAt st (rx_made made st s).0.turn back
    → Passes s.turn s'.turn f g [] [] back
made_passes s s' told made st f g back e same hand has puts =
    of_answer s s' told (rx_made made st s) f g [] [] back e
    (keeps s.turn (rx_made made st s).0.turn f g back refl same hand has puts)

publish_has : (o : Option End) → has_in_hand (elim o [ None ↦ stage.Hand | Some e ↦ stage.Ended e ]) ≡ false
publish_has None = refl
publish_has (Some e) = refl

publish_back :
    (o : Option End) (t u : RxTurn) (back : List FrameValue)
    → u.header ≡ t.header → PutsBackAt (stage.Publish o) t back
    → PutsBackAt (elim o [ None ↦ stage.Hand | Some e ↦ stage.Ended e ]) u back
publish_back None t u back a h = h
publish_back (Some e) t u back a h =
    let P : ℕ → Type 0 = λ n. PutsBack e n back in
    subst P (sym a) h

publish_passes :
    (s s' : RxState) (told : Act) (o : Option End) (f g : QueueState) (back : List FrameValue) (b : Bool)
    → (elim (if b then None else Some (published_made s)) as (λ (k : Option Made). Option (RxState × Act)) [
      | None ↦ None
      | Some m ↦ Some (rx_made m (elim o [ None ↦ stage.Hand | Some e ↦ stage.Ended e ]) s)
    ]) ≡ Some (s', told)
    → g ≡ f → f.in_hand ≡ name_of s.turn.held → is_some s.turn.held ≡ false
    → PutsBackAt (stage.Publish o) s.turn back
    → Passes s.turn s'.turn f g [] [] back
publish_passes s s' told o f g back true e same hand none puts = cc
publish_passes s s' told o f g back false e same hand none puts =
    let st : RxStage = elim o [ None ↦ stage.Hand | Some e ↦ stage.Ended e ] in
    made_passes s s' told (published_made s) st f g back e same hand (none ∙ sym (publish_has o))
    (publish_back o s.turn (rx_made (published_made s) st s).0.turn back refl puts)

copy_passes :
    (s s' : RxState) (told : Act) (frame : FrameValue) (f g : QueueState) (back : List FrameValue) (b : Bool)
    → (elim (if b then Some (copied_made frame s) else None) as (λ (k : Option Made). Option (RxState × Act)) [
      | None ↦ None
      | Some m ↦
          let next = rx_made m stage.Out s in
          Some (record next.0 { turn = record next.0.turn { handled = s.turn.handled + length s.turn.chains } }, next.1)
    ]) ≡ Some (s', told)
    → g ≡ f → f.in_hand ≡ name_of s.turn.held → is_some s.turn.held ≡ true → back ≡ []
    → Passes s.turn s'.turn f g [] [] back
copy_passes s s' told frame f g back false e same hand has put = cc
copy_passes s s' told frame f g back true e same hand has put =
    let next = rx_made (copied_made frame s) stage.Out s in
    let x : RxState × Act =
    (record next.0 { turn = record next.0.turn { handled = s.turn.handled + length s.turn.chains } }, next.1) in
    of_answer s s' told x f g [] [] back e (keeps s.turn x.0.turn f g back refl same hand has put)

-- the frame in hand leaves the line
out_passes :
    (s s' : RxState) (told : Act) (n : ℕ) (frame : FrameValue) (fate : Fate) (f g : QueueState) (back : List FrameValue)
    → Some (rx_outs n frame s) ≡ Some (s', told) → s.turn.held ≡ Some frame → g ≡ finished frame fate f → back ≡ []
    → Passes s.turn s'.turn f g ((frame, fate) ∷ []) [] back
out_passes s s' told n frame fate f g back e held gone put =
    let u = (rx_outs n frame s).0.turn in
    let a = is_enough u.packets u.bytes u.handled in
    let b = nat_le publishes_at (done_in s.queue) in
    let c = nat_eq (done_in s.queue) 0 in
    let P : QueueState → Type 0 = λ k. Passes s.turn u f k ((frame, fate) ∷ []) [] back in
    let line : frame ∷ f.waiting ≡ (option_to_list s.turn.held ++ f.waiting) ++ [] =
    ap (λ o. option_to_list o ++ f.waiting) (sym held) ∙ sym (append-nil (option_to_list s.turn.held ++ f.waiting)) in
    of_answer s s' told (rx_outs n frame s) f g ((frame, fate) ∷ []) [] back e (subst P (sym gone) (record {
      out = refl;
      line = line;
      handles = record {
        holds = sym (packet_has a b c);
        in_hand = refl;
        puts_back = packet_back a b c u back put;
      };
    }))

back_puts :
    (e : End) (t : RxTurn) (frame : FrameValue) (back : List FrameValue)
    → t.held ≡ Some frame → TellsNeed e t → back ≡ [] → PutsBack e t.header (option_to_list t.held ++ back)
back_puts (end.Short need had) t frame back held h put = (
  frame,
  ap (λ o. option_to_list o ++ back) held ∙ ap (λ l. frame ∷ l) put,
  ap (λ o. need_at t.header o) (sym held) ∙ h,
)
back_puts (end.Stopped fault) t frame back held h put =
    (frame, ap (λ o. option_to_list o ++ back) held ∙ ap (λ l. frame ∷ l) put, tt)
back_puts end.Idle t frame back held h put = absurd h
back_puts end.Again t frame back held h put = absurd h
back_puts end.Off t frame back held h put = absurd h
back_puts end.NoMemory t frame back held h put = absurd h

-- the frame in hand is the front again
back_passes :
    (s s' : RxState) (told : Act) (e : End) (frame : FrameValue) (f g : QueueState) (back : List FrameValue)
    → Some (rx_puts_back e s) ≡ Some (s', told) → s.turn.held ≡ Some frame → g ≡ put_back frame f → TellsNeed e s.turn
    → back ≡ []
    → Passes s.turn s'.turn f g [] [] (option_to_list s.turn.held ++ back)
back_passes s s' told e frame f g back is held gone tells put =
    let u = (rx_puts_back e s).0.turn in
    let b = nat_eq (done_in s.queue) 0 in
    let now = option_to_list s.turn.held ++ back in
    let P : QueueState → Type 0 = λ k. Passes s.turn u f k [] [] now in
    let line : frame ∷ f.waiting ≡ (option_to_list s.turn.held ++ f.waiting) ++ [] =
    ap (λ o. option_to_list o ++ f.waiting) (sym held) ∙ sym (append-nil (option_to_list s.turn.held ++ f.waiting)) in
    of_answer s s' told (rx_puts_back e s) f g [] [] now is (subst P (sym gone) (record {
      out = sym (append-nil f.out);
      line = line;
      handles = record {
        holds = sym (closing_has b e);
        in_hand = refl;
        puts_back = closing_back b e u now (back_puts e s.turn frame back held tells put);
      };
    }))

-- a step with the frame in hand
with_passes :
    (s s' : RxState) (told : Act) (h : Hand) (st : RxStage) (frame : FrameValue) (f g : QueueState)
    (back : List FrameValue)
    → rx_with st frame s ≡ Some (s', told) → s.turn.held ≡ Some frame → f.in_hand ≡ name_of s.turn.held
    → is_some s.turn.held ≡ has_in_hand st → PutsBackAt st s.turn back → MovesAt st s.turn h f g
    → Passes s.turn s'.turn f g (leaves_at st s.turn) [] (back_at st s.turn back)
with_passes s s' told h stage.Begin frame f g back e held hand has puts moves = cc
with_passes s s' told h stage.Hand frame f g back e held hand has puts moves = cc
with_passes s s' told h stage.Fetch frame f g back e held hand has puts moves =
    let need = need_of s.turn.header frame in
    let way = rx_way need s in
    let made = rewinding (rx_rewinds false way) (fetches (rx_ring s) s.memory) in
    let cs = (fetches (rx_ring s) s.memory).ring.chains in
    made_passes s s' told made (rx_after_fetch way) f g back e moves hand (has ∙ sym (first_has way))
    (first_back s.turn.mergeable need cs (found (rx_ring s) s.memory).0 (rx_made made (rx_after_fetch way) s).0.turn
    back puts)
with_passes s s' told h stage.NoticesOn frame f g back e held hand has puts moves = cc
with_passes s s' told h stage.FetchAgain frame f g back e held hand has puts moves =
    let need = need_of s.turn.header frame in
    let way = rx_way need s in
    let made = rewinding (rx_rewinds true way) (fetches (rx_ring s) s.memory) in
    let cs = (fetches (rx_ring s) s.memory).ring.chains in
    let st = rx_after_second need s.turn.chains way in
    made_passes s s' told made st f g back e moves hand (has ∙ sym (second_has need s.turn.chains way))
    (second_back s.turn.mergeable need cs s.turn.chains (found (rx_ring s) s.memory).0 (rx_made made st s).0.turn
    back puts (ap (λ o. need_at s.turn.header o) held))
with_passes s s' told h (stage.NoticesOff way) frame f g back e held hand has puts moves = cc
with_passes s s' told h stage.Copy frame f g back e held hand has puts moves =
    copy_passes s s' told frame f g back (nat_le (need_of s.turn.header frame) (room_in s.turn.chains)) e moves hand has
    puts
with_passes s s' told h stage.Out frame f g back e held hand has puts moves =
    let P : Option FrameValue → Type 0 = λ o. Passes s.turn s'.turn f g (with_fate Guest o) [] back in
    let M : Option FrameValue → Type 0 = λ o. IfSome o (λ x. g ≡ finished x Guest f) in
    subst P (sym held)
    (out_passes s s' told (need_of s.turn.header frame) frame Guest f g back e held (subst M held moves) puts)
with_passes s s' told h (stage.Discard had) frame f g back e held hand has puts moves =
    let fate : Option FrameValue → Fate = λ o. overrun s.turn.mergeable (need_at s.turn.header o) had in
    let P : Option FrameValue → Type 0 = λ o. Passes s.turn s'.turn f g (with_fate (fate o) o) [] back in
    let M : Option FrameValue → Type 0 =
    λ o. IfSome o (λ x. g ≡ finished x (overrun s.turn.mergeable (need_of s.turn.header x) had) f) in
    subst P (sym held) (out_passes s s' told 0 frame (fate (Some frame)) f g back e held (subst M held moves) puts)
with_passes s s' told h (stage.PutBack end) frame f g back e held hand has puts moves =
    let M : Option FrameValue → Type 0 = λ o. IfSome o (λ x. g ≡ put_back x f) in
    back_passes s s' told end frame f g back e held (subst M held moves) puts.0 puts.1
with_passes s s' told h (stage.Publish end) frame f g back e held hand has puts moves = cc
with_passes s s' told h (stage.Ended end) frame f g back e held hand has puts moves = cc

held_passes :
    (s s' : RxState) (told : Act) (h : Hand) (st : RxStage) (held : Option FrameValue) (f g : QueueState)
    (more back : List FrameValue)
    → s.turn.stage ≡ st → s.turn.held ≡ held → rx_in_hand held s ≡ Some (s', told) → f.in_hand ≡ name_of s.turn.held
    → is_some s.turn.held ≡ has_in_hand st → PutsBackAt st s.turn back → MovesAt st s.turn h f g → more ≡ []
    → Passes s.turn s'.turn f g (leaves_at st s.turn) more (back_at st s.turn back)
held_passes s s' told h st None f g more back at is e hand has puts moves known = cc
held_passes s s' told h st (Some frame) f g more back at is e hand has puts moves known =
    let Q : RxStage → Type 0 = λ k. rx_with k frame s ≡ Some (s', told) in
    let P : List FrameValue → Type 0 =
    λ l. Passes s.turn s'.turn f g (leaves_at st s.turn) l (back_at st s.turn back) in
    subst P (sym known) (with_passes s s' told h st frame f g back (subst Q at e) is hand has puts moves)

-- a step without it
free_passes :
    (s : RxState) (u : RxTurn) (f g : QueueState) (more back : List FrameValue)
    → more ≡ [] → Passes s.turn u f g [] [] back → Passes s.turn u f g [] more back
free_passes s u f g more back known p =
    let P : List FrameValue → Type 0 = λ l. Passes s.turn u f g [] l back in
    subst P (sym known) p

step_passes :
    (s s' : RxState) (told : Act) (h : Hand) (st : RxStage) (f g : QueueState) (more back : List FrameValue)
    → s.turn.stage ≡ st → rx_next st h s ≡ Some (s', told) → f.in_hand ≡ name_of s.turn.held
    → is_some s.turn.held ≡ has_in_hand st → PutsBackAt st s.turn back → MovesAt st s.turn h f g
    → IsKnownAt st h f g more
    → Passes s.turn s'.turn f g (leaves_at st s.turn) more (back_at st s.turn back)
step_passes s s' told h stage.Begin f g more back at e hand has puts moves known =
    free_passes s s'.turn f g more back known
    (made_passes s s' told (noticed false (rx_ring s) s.memory) stage.Hand f g back e moves hand has puts)
step_passes s s' told h stage.Hand f g more back at e hand has puts moves known =
    hand_passes s s' told h f g more back has puts moves known e
step_passes s s' told h stage.Fetch f g more back at e hand has puts moves known =
    held_passes s s' told h stage.Fetch s.turn.held f g more back at refl e hand has puts moves known
step_passes s s' told h stage.NoticesOn f g more back at e hand has puts moves known =
    free_passes s s'.turn f g more back known
    (made_passes s s' told (noticed true (rx_ring s) s.memory) stage.FetchAgain f g back e moves hand has puts)
step_passes s s' told h stage.FetchAgain f g more back at e hand has puts moves known =
    held_passes s s' told h stage.FetchAgain s.turn.held f g more back at refl e hand has puts moves known
step_passes s s' told h (stage.NoticesOff way) f g more back at e hand has puts moves known =
    let made = noticed false (rx_ring s) s.memory in
    free_passes s s'.turn f g more back known
    (made_passes s s' told made (stage_of way) f g back e moves hand (has ∙ sym (way_has way))
    (way_back way s.turn (rx_made made (stage_of way) s).0.turn back refl refl puts))
step_passes s s' told h stage.Copy f g more back at e hand has puts moves known =
    held_passes s s' told h stage.Copy s.turn.held f g more back at refl e hand has puts moves known
step_passes s s' told h stage.Out f g more back at e hand has puts moves known =
    held_passes s s' told h stage.Out s.turn.held f g more back at refl e hand has puts moves known
step_passes s s' told h (stage.Discard had) f g more back at e hand has puts moves known =
    held_passes s s' told h (stage.Discard had) s.turn.held f g more back at refl e hand has puts moves known
step_passes s s' told h (stage.PutBack end) f g more back at e hand has puts moves known =
    held_passes s s' told h (stage.PutBack end) s.turn.held f g more back at refl e hand has puts moves known
step_passes s s' told h (stage.Publish end) f g more back at e hand has puts moves known =
    free_passes s s'.turn f g more back known
    (publish_passes s s' told end f g back (nat_eq (done_in s.queue) 0) e moves hand has puts)
step_passes s s' told h (stage.Ended end) f g more back at e hand has puts moves known = cc

-- What others do.

-- the last of a list is taken away
without_last : (xs : List FrameValue) (x : FrameValue) → take (length (xs ++ x ∷ []) - 1) (xs ++ x ∷ []) ≡ xs
without_last xs x = take_at xs (x ∷ []) (length (xs ++ x ∷ []) - 1) (omega (arith, length-append xs (x ∷ [])))

-- what an event makes of a line behind frames that are gone, and that the turn stays as it was
record Meeting
    (t : RxTurn) (f g : QueueState) (e : LineEvent) (back : List FrameValue) : Type 0 where
  pub out : g.out ≡ f.out ++ map out_of (left_at e)
  pub line : (gone : List FrameValue)
      → line_at e (gone ++ (option_to_list t.held ++ f.waiting))
      ≡ gone ++ (map frame_of (left_at e) ++ (option_to_list t.held ++ g.waiting))
  pub handles : Handles t g back

held_none : (o : Option FrameValue) → None ≡ name_of o → o ≡ None
held_none None e = refl
held_none (Some frame) e = cc

meets :
    (t : RxTurn) (f g : QueueState) (other : Other) (back : List FrameValue)
    → Handles t f back → Does other f g → Meeting t f g (Meets other) back
meets t f g (Joins frame) back h does =
    let held = option_to_list t.held in
    record {
      out = does.1 ∙ sym (append-nil f.out);
      line = λ gone.
          append_assoc gone (held ++ f.waiting) (frame ∷ [])
          ∙ ap (λ l. gone ++ l) (append_assoc held f.waiting (frame ∷ []) ∙ ap (λ l. held ++ l) (sym does.0));
      handles = record { holds = h.holds; in_hand = does.2 ∙ h.in_hand; puts_back = h.puts_back };
    }
meets t f g (Purges frame) back h does =
    let none : t.held ≡ None = held_none t.held (sym does.2 ∙ h.in_hand) in
    let now : option_to_list t.held ++ f.waiting ≡ frame ∷ (option_to_list t.held ++ g.waiting) =
    ap (λ o. option_to_list o ++ f.waiting) none
    ∙ (does.0 ∙ ap (λ o. frame ∷ (option_to_list o ++ g.waiting)) (sym none)) in
    record {
      out = does.1;
      line = λ gone. ap (λ l. gone ++ l) now;
      handles = record { holds = h.holds; in_hand = does.3 ∙ ap name_of (sym none); puts_back = h.puts_back };
    }
meets t f g (Cuts frame) back h does =
    let held = option_to_list t.held in
    let whole : (gone : List FrameValue) → gone ++ (held ++ f.waiting) ≡ (gone ++ (held ++ g.waiting)) ++ frame ∷ [] =
    λ gone.
    ap (λ l. gone ++ (held ++ l)) does.0
    ∙ (ap (λ l. gone ++ l) (sym (append_assoc held g.waiting (frame ∷ [])))
    ∙ sym (append_assoc gone (held ++ g.waiting) (frame ∷ []))) in
    record {
      out = does.1 ∙ sym (append-nil f.out);
      line = λ gone.
          ap (λ l. take (length l - 1) l) (whole gone) ∙ without_last (gone ++ (held ++ g.waiting)) frame;
      handles = record { holds = h.holds; in_hand = does.2 ∙ h.in_hand; puts_back = h.puts_back };
    }
meets t f g Looks back h does =
    let held = option_to_list t.held in
    record {
      out = does.1 ∙ sym (append-nil f.out);
      line = λ gone. ap (λ l. gone ++ (held ++ l)) (sym does.0);
      handles = record { holds = h.holds; in_hand = does.2 ∙ h.in_hand; puts_back = h.puts_back };
    }

-- Runs.

-- the same behind frames that are gone
record Passed
    (t t' : RxTurn) (f f' : QueueState) (es : List LineEvent) (back : List FrameValue) : Type 0 where
  pub out : f'.out ≡ f.out ++ map out_of (left_by es)
  pub line : (gone : List FrameValue)
      → gone ++ (map frame_of (left_by es) ++ (option_to_list t'.held ++ f'.waiting))
      ≡ line_by es (gone ++ (option_to_list t.held ++ f.waiting))
  pub handles : Handles t' f' (back_by es back)

-- an event, and those after it
then_passes :
    (t u t' : RxTurn) (f g f' : QueueState) (e : LineEvent) (es : List LineEvent) (back now : List FrameValue)
    → g.out ≡ f.out ++ map out_of (left_at e)
    → ((gone : List FrameValue)
    → line_at e (gone ++ (option_to_list t.held ++ f.waiting))
    ≡ gone ++ (map frame_of (left_at e) ++ (option_to_list u.held ++ g.waiting)))
    → back_by (e ∷ es) back ≡ back_by es now
    → Passed u t' g f' es now
    → Passed t t' f f' (e ∷ es) back
then_passes t u t' f g f' e es back now out line backs rest =
    let ys = left_at e in
    let F = map frame_of in
    let behind = option_to_list t'.held ++ f'.waiting in
    record {
      out = rest.out ∙ (ap (λ l. l ++ map out_of (left_by es)) out
          ∙ (append_assoc f.out (map out_of ys) (map out_of (left_by es))
          ∙ ap (λ l. f.out ++ l) (sym (map-append out_of ys (left_by es)))));
      line = λ gone.
          ap (λ l. gone ++ (l ++ behind)) (map-append frame_of ys (left_by es))
          ∙ (ap (λ l. gone ++ l) (append_assoc (F ys) (F (left_by es)) behind)
          ∙ (sym (append_assoc gone (F ys) (F (left_by es) ++ behind))
          ∙ (rest.line (gone ++ F ys)
          ∙ ap (line_by es) (append_assoc gone (F ys) (option_to_list u.held ++ g.waiting)
          ∙ sym (line gone)))));
      handles = let P : List FrameValue → Type 0 = λ l. Handles t' f' l in subst P (sym backs) rest.handles;
    }

run_passed :
    (t t' : RxTurn) (q q' : Queue) (f f' : QueueState) (es : List LineEvent) (back : List FrameValue)
    → Handles t f back → IsRxRun t q (own_steps es) t' q' → AreMoves f es f' → Passed t t' f f' es back
run_passed t t' q q' f f' [] back h run moves =
    let P : RxTurn → Type 0 = λ u. Passed t u f f' [] back in
    let Q : QueueState → Type 0 = λ k. Passed t t f k [] back in
    subst P (sym run.0) (subst Q (sym moves) (record {
      out = sym (append-nil f.out);
      line = λ gone. refl;
      handles = h;
    }))
run_passed t t' q q' f f' (Makes m more ∷ es) back h run (g, happens, moves) =
    let b = m.before in
    let st = b.turn.stage in
    let Q : RxTurn → Type 0 = λ u. Handles u f back in
    let right : Handles b.turn f back = subst Q (sym run.0) h in
    let one = step_passes b m.after m.told m.hand st f g more back refl run.2 right.in_hand right.holds
    right.puts_back happens.0 happens.1 in
    let rest = run_passed m.after.turn t' m.after.queue q' g f' es (back_at st b.turn back) one.handles run.3 moves in
    let P : RxTurn → Type 0 = λ u. Passed u t' f f' (Makes m more ∷ es) back in
    let line : (gone : List FrameValue)
    → (gone ++ (option_to_list b.turn.held ++ f.waiting)) ++ more
    ≡ gone ++ (map frame_of (leaves_at st b.turn) ++ (option_to_list m.after.turn.held ++ g.waiting)) =
    λ gone.
    append_assoc gone (option_to_list b.turn.held ++ f.waiting) more ∙ ap (λ l. gone ++ l) (sym one.line) in
    subst P run.0
    (then_passes b.turn m.after.turn t' f g f' (Makes m more) es back (back_at st b.turn back) one.out line refl rest)
run_passed t t' q q' f f' (Meets other ∷ es) back h run (g, happens, moves) =
    let one = meets t f g other back h happens in
    let rest = run_passed t t' q q' g f' es back one.handles run moves in
    then_passes t t t' f g f' (Meets other) es back back one.out one.line refl rest

pub run_passes :
    (t t' : RxTurn) (q q' : Queue) (f f' : QueueState) (es : List LineEvent) (back : List FrameValue)
    → Handles t f back → IsRxRun t q (own_steps es) t' q' → AreMoves f es f' → PassesLine t t' f f' es back
run_passes t t' q q' f f' es back h run moves =
    let p = run_passed t t' q q' f f' es back h run moves in
    record { out = p.out; line = p.line []; handles = p.handles }
