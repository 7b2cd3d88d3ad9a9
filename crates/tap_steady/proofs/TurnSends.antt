-- What a step makes of a transmit turn.
use Rattle.std.proofs.Common.{◌≡◌, ℕ, ◌<◌, List, [], ◌∷◌, ◌++◌, length, Bool, true, false, true≢false, ⊎_elim, Option, Some, None, refl, sym, ap, ◌∙◌, subst, arith}
use Rattle.std.specs.Prelude.{◌==◌, if◌then◌else◌, nat_le, nat_lt}
use Rattle.std.proofs.lemmas.Bool.Decides.{eqb_tells}
use Rattle.tap_frame.specs.Frame.{FrameValue}
use Rattle.tap_frame.specs.declared.reading.BadFrame.{BadFrame}
use Rattle.tap_ledger.specs.declared.act.Act.{Act}
use Rattle.tap_ledger.specs.declared.act.Act.TheVariants as act
use Rattle.tap_ledger.specs.Host.{with_given}
use Rattle.vring_split.specs.declared.fault.RingFault.{RingFault}
use Rattle.vring_walk.specs.declared.walk.Fetched.{Fetched}
use Rattle.vring_walk.specs.declared.walk.Fetched.TheVariants as fetched
use Rattle.vhost_queue.specs.Queue.{Queue}
use Rattle.vhost_queue.specs.declared.done.Done.{Done}
use Rattle.vring_turns.specs.declared.end.End.{End}
use Rattle.vring_turns.specs.declared.end.End.TheVariants.{Again, Idle, Stopped}
use Rattle.vring_turns.specs.declared.stage.TxStage.{TxStage}
use Rattle.vring_turns.specs.declared.stage.TxStage.TheVariants as tx
use Rattle.vring_turns.specs.Ring.{Gathered, Made, done_in, fetches, first_position, found, publishes}
use Rattle.vring_turns.specs.TransmitBytes.{bytes_of_chain, refusal_of}
use Rattle.vring_turns.specs.TxTurn as turn
use Rattle.vring_turns.specs.TxTurn.{TxState, TxTurn}
use Rattle.vring_turns.specs.Stage.{is_giving, tx_is_over}
use Rattle.vring_turns.specs.Turn.{is_enough, publishes_at}
use Rattle.tap_sound.proofs.Kit.{WhereSome}

-- What a step makes of a turn: its frames have the names that they had, and where one is given next its chain is done.
pub record TxOn (t : TxTurn) (x : TxState × Act) : Type 0 where
  pub header : x.0.turn.header ≡ t.header
  pub names : x.0.turn.first ≡ t.first
  pub done : is_giving x.0.turn.stage ≡ true → 0 < done_in x.0.queue

-- a turn that gave its frame: it gives none next, and goes on where the chain is done
pub record TxGave (t : TxTurn) (q : Queue) (x : TxState × Act) : Type 0 where
  pub on : TxOn t x
  pub queue : x.0.queue ≡ q
  pub gives : is_giving x.0.turn.stage ≡ false
  pub goes_on : 0 < done_in q → tx_is_over x.0.turn.stage ≡ false

-- ---- stages

closing_gives : (e : End) (q : Queue) → is_giving (turn.tx_closing e q) ≡ false
closing_gives e q = go (done_in q == 0)
  where
    go : (b : Bool) → is_giving (if b then tx.Ended e else tx.Publish (Some e)) ≡ false
    go true = refl
    go false = refl

packet_gives : (t : TxTurn) (q : Queue) → is_giving (turn.tx_after_packet t q) ≡ false
packet_gives t q = go (is_enough t.packets t.bytes t.packets) (nat_le publishes_at (done_in q)) (closing_gives Again q)
  where
    go : (a b : Bool) → is_giving (turn.tx_closing Again q) ≡ false
        → is_giving (if a then turn.tx_closing Again q else if b then tx.Publish None else tx.Fetch) ≡ false
    go true b h = h
    go false true h = refl
    go false false h = refl

some_done : (n : ℕ) → 0 < n → (n == 0) ≡ false
some_done n lt = ⊎_elim (λ t. let same = t.1 in absurd (omega (arith, same, lt))) (λ t. t.0) (eqb_tells n 0)

packet_goes : (t : TxTurn) (q : Queue) → 0 < done_in q → tx_is_over (turn.tx_after_packet t q) ≡ false
packet_goes t q some = go (is_enough t.packets t.bytes t.packets) (nat_le publishes_at (done_in q)) (some_done (done_in q) some)
  where
    go : (a b : Bool) → (done_in q == 0) ≡ false → tx_is_over (if a then turn.tx_closing Again q else if b then tx.Publish None else tx.Fetch) ≡ false
    go true b h = ap (λ (x : Bool). tx_is_over (if x then tx.Ended Again else tx.Publish (Some Again))) h
    go false true h = refl
    go false false h = refl

-- ---- steps

made_on : (s : TxState) (made : Made) (st : TxStage) → is_giving st ≡ false → TxOn s.turn (turn.tx_made made st s)
made_on s made st not_ = record { header = refl; names = refl; done = λ h. absurd (true≢false (sym h ∙ not_)) }

abbrev giving : Option TxStage → Bool
giving None = false
giving (Some st) = is_giving st

first_gives : (q : Queue) (f : Fetched) → giving (turn.tx_after_fetch q f) ≡ false
first_gives q (fetched.Chain head) = refl
first_gives q fetched.Nothing = refl
first_gives q (fetched.Bad fault) = closing_gives (Stopped fault) q
first_gives q fetched.Crowded = refl

second_gives : (q : Queue) (f : Fetched) → giving (turn.tx_after_second q f) ≡ false
second_gives q (fetched.Chain head) = refl
second_gives q fetched.Nothing = closing_gives Idle q
second_gives q (fetched.Bad fault) = refl
second_gives q fetched.Crowded = refl

notices_give : (q : Queue) (fault : Option RingFault) → is_giving (turn.tx_after_notices q fault) ≡ false
notices_give q None = refl
notices_give q (Some fault) = closing_gives (Stopped fault) q

fetched_on : (s : TxState) (o : Option TxStage) → giving o ≡ false
    → WhereSome (TxOn s.turn) (elim o [
      | None ↦ None
      | Some st ↦ Some (turn.tx_made (fetches (turn.tx_ring s) s.memory) st s)
    ])
fetched_on s None h = tt
fetched_on s (Some st) h = made_on s (fetches (turn.tx_ring s) s.memory) st h

judged_on : (s : TxState) (c : Gathered) (position : ℕ) (bytes : List ℕ) (o : Option BadFrame)
    → TxOn s.turn (turn.tx_judged position bytes o (turn.tx_done c s))
judged_on s c position bytes (Some bad) = let d = turn.tx_done c s in
    record { header = refl; names = refl; done = λ h. absurd (true≢false (sym h ∙ packet_gives d.turn d.queue)) }
judged_on s c position bytes None = record {
  header = refl;
  names = refl;
  done = λ h. one_more s.queue.positions.done (record { head = c.head; len = 0 });
}
  where
    one_more : (ds : List Done) (d : Done) → 0 < length (ds ++ d ∷ [])
    one_more [] d = omega arith
    one_more (x ∷ xs) d = omega arith

copies_on : (s : TxState) (cs : List Gathered) → WhereSome (TxOn s.turn) (turn.tx_copies cs s)
copies_on s [] = tt
copies_on s (c ∷ cs) =
    let bytes = bytes_of_chain s.turn.header s.memory c in
    judged_on s c (first_position (turn.tx_ring s)) bytes (refusal_of s.turn.header bytes)

publishes_on : (e : Option End) (s : TxState) → WhereSome (TxOn s.turn) (turn.tx_publishes e s)
publishes_on e s = go e (publishes (turn.tx_ring s) s.memory)
  where
    go : (e : Option End) (o : Option Made) → WhereSome (TxOn s.turn) (elim o [
      | None ↦ None
      | Some made ↦ Some (turn.tx_made made (elim e [ None ↦ tx.Fetch | Some x ↦ tx.Ended x ]) s)
    ])
    go e None = tt
    go None (Some made) = made_on s made tx.Fetch refl
    go (Some x) (Some made) = made_on s made (tx.Ended x) refl

-- a step that gives the frame
abbrev given_next : TxState → FrameValue → TxState × Act
given_next s frame = (
  record s {
    turn = record s.turn { held = None; stage = turn.tx_after_packet s.turn s.queue };
    host = with_given frame s.host;
  },
  act.Given frame.name,
)

gave : (s : TxState) (frame : FrameValue) → TxGave s.turn s.queue (given_next s frame)
gave s frame = record {
  on = record { header = refl; names = refl; done = λ h. absurd (true≢false (sym h ∙ packet_gives s.turn s.queue)) };
  queue = refl;
  gives = packet_gives s.turn s.queue;
  goes_on = packet_goes s.turn s.queue;
}

given_on : (s : TxState) (o : Option FrameValue) → WhereSome (TxGave s.turn s.queue) (turn.tx_gives o s)
given_on s None = tt
given_on s (Some frame) = go (nat_lt 0 s.host.room)
  where
    go : (b : Bool) → WhereSome (TxGave s.turn s.queue) (if b then Some (given_next s frame) else None)
    go true = gave s frame
    go false = tt

weaken : (t : TxTurn) (q : Queue) (o : Option (TxState × Act)) → WhereSome (TxGave t q) o → WhereSome (TxOn t) o
weaken t q None h = tt
weaken t q (Some x) h = h.on

sends_at : (st : TxStage) (s : TxState) → WhereSome (TxOn s.turn) (turn.tx_next st s)
sends_at tx.Begin s = made_on s _ tx.Fetch refl
sends_at tx.Fetch s = fetched_on s (turn.tx_after_fetch s.queue (found (turn.tx_ring s) s.memory).0) (first_gives s.queue (found (turn.tx_ring s) s.memory).0)
sends_at tx.NoticesOn s = made_on s _ tx.FetchAgain refl
sends_at tx.FetchAgain s =
    fetched_on s (turn.tx_after_second s.queue (found (turn.tx_ring s) s.memory).0) (second_gives s.queue (found (turn.tx_ring s) s.memory).0)
sends_at (tx.NoticesOff fault) s = made_on s _ (turn.tx_after_notices s.queue fault) (notices_give s.queue fault)
sends_at tx.Copy s = copies_on s s.turn.chains
sends_at tx.Give s = weaken s.turn s.queue (turn.tx_gives s.turn.held s) (given_on s s.turn.held)
sends_at (tx.Publish e) s = publishes_on e s
sends_at (tx.Ended e) s = tt

pub sends_on : (s : TxState) → WhereSome (TxOn s.turn) (turn.tx_step s)
sends_on s = sends_at s.turn.stage s

pub gives_on : (s : TxState) → s.turn.stage ≡ tx.Give → WhereSome (TxGave s.turn s.queue) (turn.tx_step s)
gives_on s is = subst (λ (st : TxStage). WhereSome (TxGave s.turn s.queue) (turn.tx_next st s)) (sym is) (given_on s s.turn.held)
