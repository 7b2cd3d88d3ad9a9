-- From what the steps of a put told to what the call promises.
use Rattle.std.proofs.Common.{◌≡◌, ℕ, ◌+◌, ◌^◌, ◌<◌, [], ◌∷◌, ◌++◌, refl, sym, ap, ◌∙◌, subst, inl, append-nil, Result, Ok, Err, arith, ◌≤◌}
use Rattle.std.specs.Prelude.{IfOk, IfErr}
use Rattle.tap_frame.specs.Frame.{FrameValue}
use Rattle.tap_ring.specs.declared.rule.Moment.{Moment}
use Rattle.tap_ring.specs.declared.rule.Claim.{Claim}
use Rattle.tap_ring.specs.declared.rule.Produced.{Produced}
use Rattle.tap_ring.specs.declared.rule.View.{View}
use Rattle.tap_ring.specs.GateWord.{claimed_of, is_shut, epoch_of, resizes_of}
use Rattle.tap_ring.specs.Moments.{Fits, IsOpen, gate_of}
use Rattle.tap_ring.specs.Standing.{EachClaim}
use Rattle.tap_ring.specs.Steps.{IsNew, claim, seen_gate, seen_capacity, seen_freed, ClaimedThen, MissedThen}
use Rattle.tap_ring.specs.declared.producer.PutBack.{PutBack}
use Rattle.tap_ring.specs.declared.producer.Why.{Why}
use Rattle.tap_ring.specs.declared.producer.Why.TheVariants.{Gone, Spent, Full, Contended}
use Rattle.tap_ring.specs.Turns.{loaded}
use Rattle.tap_ring.specs.Tokens.{produced}
use Rattle.tap_ring.specs.Calls.{LoadedMore, Placed, IsCause, IsContended, IsOpenWord}
use Rattle.tap_ring.proofs.Kit.{parts_equal, gate_parts}

-- the parts of a moment's gate word
pub word_parts : (m : Moment) → Fits m → (claimed_of (gate_of m) ≡ m.claimed) × (is_shut (gate_of m) ≡ m.shut) × (epoch_of (gate_of m) ≡ m.epoch) × (resizes_of (gate_of m) ≡ m.resizes)
word_parts m f = gate_parts m.claimed m.shut m.epoch m.resizes f.claimed f.epoch f.resizes

pub open_word : (epoch : ℕ) (m : Moment) → Fits m → IsOpenWord epoch (gate_of m) → IsOpen epoch m × (m.claimed + 1 < 2 ^ 40)
open_word epoch m f o =
    let p = word_parts m f in
    let c = p.0 in
    let l = o.2 in
    ((sym p.1 ∙ o.0, sym p.2 ∙ o.1), omega (arith, c, l))

placed_at : (epoch place : ℕ) (frame : FrameValue) (v w : View) (m m3 : Moment) → IsNew v m → IsNew (seen_capacity (seen_gate m v)) m3 → IsOpen epoch m → m.claimed + 1 < 2 ^ 40 → m.claimed < m3.freed + m.capacity
    → ClaimedThen frame place (seen_freed m3 (seen_capacity (seen_gate m v))) w → Placed epoch frame place (produced v) (produced w)
placed_at epoch place frame v w m m3 new new3 is_open few free t =
    let m4 = t.0 in
    let same = parts_equal m4 m t.2.fits new.fits t.1 in
    let same_claimed = same.0 in
    let at : place ≡ m4.claimed = t.4 in
    subst (λ (x : View). Placed epoch frame place (produced v) (produced x)) (sym t.5) (record {
      asked = record {
        open_then = is_open;
        unspent = λ spent. omega (arith, spent, few);
        later = new.gate;
        mine = new.mine;
        again = omega arith;
        order = (new3.gate, omega arith);
        loaded_is = refl;
      };
      found = λ (full : m3.freed + m.capacity ≤ m.claimed). omega (arith, full, free);
      same_gate = t.1;
      order = (t.2.room, omega arith);
      open_then = (same.1 ∙ is_open.0, same.2 ∙ is_open.1);
      same_resizes = same.3;
      same_capacity = sym (t.2.asked.capacity (sym same.3));
      room = t.3;
      place_is = at;
      bound = omega (arith, at, same_claimed, few);
      above = subst (λ n. EachClaim (λ c. c.place < n) v.mine) (sym at) t.2.mine;
      mine = ap (λ (c : Claim). v.mine ++ c ∷ []) (λ i. claim (sym at i) ((same.2 ∙ is_open.1) i) frame);
    })

pub placed_then : (epoch place gate freed capacity : ℕ) (frame : FrameValue) (v v1 v2 v3 w : View) (m m3 : Moment) → gate ≡ gate_of m → IsNew v m → v1 ≡ seen_gate m v
    → capacity ≡ v1.gate.capacity → v2 ≡ seen_capacity v1 → freed ≡ m3.freed → IsNew v2 m3 → v3 ≡ seen_freed m3 v2
    → IsOpenWord epoch gate → claimed_of gate < freed + capacity → ClaimedThen frame place v3 w → Placed epoch frame place (produced v) (produced w)
placed_then epoch place gate freed capacity frame v v1 v2 v3 w m m3 is new one cap two freed_is new3 three is_open free t =
    let o = open_word epoch m new.fits (subst (IsOpenWord epoch) is is_open) in
    let second : v2 ≡ seen_capacity (seen_gate m v) = two ∙ ap seen_capacity one in
    let first : claimed_of gate ≡ m.claimed = ap claimed_of is ∙ (word_parts m new.fits).0 in
    let named : capacity ≡ m.capacity = cap ∙ ap (λ (x : View). x.gate.capacity) one in
    placed_at epoch place frame v w m m3 new (subst (λ (x : View). IsNew x m3) second new3) o.0 o.1 (omega (arith, first, named, freed_is, free))
    (subst (λ (x : View). ClaimedThen frame place x w) (three ∙ ap (seen_freed m3) second) t)

missed_at : (epoch found resizes : ℕ) (v w : View) (m m3 : Moment) → IsNew v m → IsNew (seen_capacity (seen_gate m v)) m3 → IsOpen epoch m → m.claimed + 1 < 2 ^ 40 → m.claimed < m3.freed + m.capacity → resizes ≡ m.resizes
    → MissedThen (gate_of m) found (seen_freed m3 (seen_capacity (seen_gate m v))) w → IsContended epoch (gate_of m) found resizes (produced v) (produced w)
missed_at epoch found resizes v w m m3 new new3 is_open few free resizes_is t =
    subst (λ (x : View). IsContended epoch (gate_of m) found resizes (produced v) (produced x)) (sym t.4) (record {
      asked = record {
        open_then = is_open;
        unspent = λ spent. omega (arith, spent, few);
        later = new.gate;
        mine = new.mine;
        again = omega arith;
        order = (new3.gate, omega arith);
        loaded_is = refl;
      };
      expected_is = refl;
      found_is = t.1;
      order = (t.3.room, omega arith);
      differ = t.2;
      resizes_is = resizes_is;
      cause = inl (λ (full : m3.freed + m.capacity ≤ m.claimed). omega (arith, full, free));
    })

pub missed_then : (epoch gate found resizes freed capacity : ℕ) (v v1 v2 v3 w : View) (m m3 : Moment) → gate ≡ gate_of m → IsNew v m → v1 ≡ seen_gate m v
    → capacity ≡ v1.gate.capacity → v2 ≡ seen_capacity v1 → freed ≡ m3.freed → IsNew v2 m3 → v3 ≡ seen_freed m3 v2
    → IsOpenWord epoch gate → claimed_of gate < freed + capacity → resizes ≡ resizes_of gate → MissedThen gate found v3 w → IsContended epoch gate found resizes (produced v) (produced w)
missed_then epoch gate found resizes freed capacity v v1 v2 v3 w m m3 is new one cap two freed_is new3 three is_open free resizes_is t =
    let o = open_word epoch m new.fits (subst (IsOpenWord epoch) is is_open) in
    let parts = word_parts m new.fits in
    let second : v2 ≡ seen_capacity (seen_gate m v) = two ∙ ap seen_capacity one in
    let first : claimed_of gate ≡ m.claimed = ap claimed_of is ∙ parts.0 in
    let named : capacity ≡ m.capacity = cap ∙ ap (λ (x : View). x.gate.capacity) one in
    subst (λ n. IsContended epoch n found resizes (produced v) (produced w)) (sym is)
    (missed_at epoch found resizes v w m m3 new (subst (λ (x : View). IsNew x m3) second new3) o.0 o.1 (omega (arith, first, named, freed_is, free)) (resizes_is ∙ ap resizes_of is ∙ parts.3)
    (subst (λ (x : ℕ × View). MissedThen x.0 found x.1 w) (λ i. (is i, (three ∙ ap (seen_freed m3) second) i)) t))

why_loads : (epoch : ℕ) (why : Why) (resizes : ℕ) (v w : Produced) → IsCause epoch why resizes v w → LoadedMore v w
why_loads epoch (Gone found shut) resizes v w k = ([], k.loaded_is ∙ sym (append-nil v.loaded))
why_loads epoch (Spent claimed) resizes v w k = ([], k.loaded_is ∙ sym (append-nil v.loaded))
why_loads epoch (Full claimed freed) resizes v w k = (loaded w.asked.resizes w.asked.capacity ∷ [], k.asked.loaded_is)
why_loads epoch (Contended expected found) resizes v w k = (loaded w.asked.resizes w.asked.capacity ∷ [], k.asked.loaded_is)

-- whatever came of a put, at most one capacity more was loaded
pub put_loads : (epoch : ℕ) (frame : FrameValue) (r : Result ℕ PutBack) (v w : Produced) → IfOk r (λ place. Placed epoch frame place v w) → IfErr r (λ back. IsCause epoch back.why back.resizes v w) → LoadedMore v w
put_loads epoch frame (Ok place) v w placed cause = (loaded w.asked.resizes w.asked.capacity ∷ [], placed.asked.loaded_is)
put_loads epoch frame (Err back) v w placed cause = why_loads epoch back.why back.resizes v w cause
