use Rattle.std.proofs.Common.{◌≡◌, ◌∙◌, refl, sym, ap, Some, Bool, true, false, subst}
use Rattle.tap_world.specs.declared.event.EventKind.TheVariants as kind
use Rattle.core_shared.specs.declared.doing.Doing.TheVariants as doing
use Rattle.std.specs.Prelude.{if◌then◌else◌, is_some}
use Rattle.tap_trace.specs.declared.answer.Answer.TheVariants as answer
use Rattle.tap_world.specs.declared.event.EventKind.{EventKind}
use Rattle.tap_world.specs.Line.{front_place}
use Rattle.tap_world.specs.Scripts.{read_next}
use Rattle.core_shared.proofs.Knowing.{may_do, next_on}
use Rattle.core_shared.proofs.Taking.{about_there}
use Rattle.core_shared.specs.Did.{Did}
use Rattle.core_shared.specs.declared.onward.Onward.{Onward}
use Rattle.core_shared.specs.declared.onward.Onward.TheVariants as on
use Rattle.core_rings.proofs.Done.{same_done}
use Rattle.core_rings.proofs.Reading.{none_event, owner_event}
use Rattle.core_rings.proofs.taking.read.Goals as goal

-- the first whose test holds
abbrev next_of : Bool → Bool → Bool → EventKind
next_of owned batch ready = if owned then kind.Owner else if batch then kind.Out else if ready then kind.Move else kind.NotReady

first : (o b r : Bool) → true ≡ o → next_of o b r ≡ kind.Owner
first o b r e = ap (λ q. next_of q b r) (sym e)

second : (o b r : Bool) → false ≡ o → true ≡ b → next_of o b r ≡ kind.Out
second o b r e h = ap (λ q. next_of q b r) (sym e) ∙ ap (λ q. next_of false q r) (sym h)

third : (o b r : Bool) → false ≡ o → false ≡ b → true ≡ r → next_of o b r ≡ kind.Move
third o b r e h k = ap (λ q. next_of q b r) (sym e) ∙ ap (λ q. next_of false q r) (sym h) ∙ ap (λ q. next_of false false q) (sym k)

last : (o b r : Bool) → false ≡ o → false ≡ b → false ≡ r → next_of o b r ≡ kind.NotReady
last o b r e h k = ap (λ q. next_of q b r) (sym e) ∙ ap (λ q. next_of false q r) (sym h) ∙ ap (λ q. next_of false false q) (sym k)

pub side-side-requires : goal.side-side-requires
side-side-requires c = about_there c.requires.may.1 c.args.file refl

pub read_front-requires : goal.read_front-requires
read_front-requires c =
    let unowned = sym c.if-is_some.false ∙ c.is_some.ensures ∙ ap (λ o. is_some o) c.owner.ensures in
    record {
      may = may_do c.requires.may kind.Out (λ actors said.
          next_on c.args.shared.now actors said c.args.file c.side-side.result.now read_next c.side-side.ensures
          ∙ ap Some (second _ _ _ unowned (sym c.if-has_batch.true ∙ c.has_batch.ensures)));
    }

pub move_to_read-requires : goal.move_to_read-requires
move_to_read-requires c =
    let unowned = sym c.if-is_some.false ∙ c.is_some.ensures ∙ ap (λ o. is_some o) c.owner.ensures in
    let ready = sym c.if-is_some-2.true ∙ c.is_some-else-has_batch.ensures ∙ ap (λ o. is_some o) c.ready_front.ensures in
    record {
      may = may_do c.requires.may kind.Move (λ actors said.
          next_on c.args.shared.now actors said c.args.file c.side-side.result.now read_next c.side-side.ensures
          ∙ ap Some (third _ _ _ unowned (sym c.if-has_batch.false ∙ c.has_batch.ensures) ready));
    }

pub returns-then-is_some : goal.returns-then-is_some
returns-then-is_some c =
    let owned = sym c.if-is_some.true ∙ c.is_some.ensures ∙ ap (λ o. is_some o) c.owner.ensures in
    let m = may_do c.requires.may kind.Owner (λ actors said.
    next_on c.args.shared.now actors said c.args.file c.side-side.result.now read_next c.side-side.ensures ∙ ap Some (first _ _ _ owned)) in
    let did = same_done c.args.asked.now (doing.Reads c.args.file c.args.room c.args.shape) kind.Owner c.args.shared.now _
    (on.Ends c.args.asked.now.seen answer.Busy)
    (owner_event c.args.asked.now c.args.shared.now c.args.file c.args.room c.args.shape m) m.held refl tt in
    record {
      went = (
        kind.Owner,
        subst (λ (g : Onward). Did c.args.asked.now (doing.Reads c.args.file c.args.room c.args.shape) kind.Owner c.args.shared.now c.args.shared.now g)
            (sym c.answer.ensures) did,
      );
    }

pub returns-else-is_some-2 : goal.returns-else-is_some-2
returns-else-is_some-2 c =
    let unowned = sym c.if-is_some.false ∙ c.is_some.ensures ∙ ap (λ o. is_some o) c.owner.ensures in
    let unready = sym c.if-is_some-2.false ∙ c.is_some-else-has_batch.ensures ∙ ap (λ o. is_some o) c.ready_front.ensures in
    let m = may_do c.requires.may kind.NotReady (λ actors said.
    next_on c.args.shared.now actors said c.args.file c.side-side.result.now read_next c.side-side.ensures
    ∙ ap Some (last _ _ _ unowned (sym c.if-has_batch.false ∙ c.has_batch.ensures) unready)) in
    let did = same_done c.args.asked.now (doing.Reads c.args.file c.args.room c.args.shape) kind.NotReady c.args.shared.now _
    (on.Ends c.args.asked.now.seen (answer.Again (front_place c.side-side.result.now.file)))
    (none_event c.args.asked.now c.args.shared.now c.args.file c.args.room c.args.shape c.side-side.result.now m c.side-side.ensures) m.held refl tt in
    let told = c.answer-else-is_some-2.ensures ∙ ap (λ n. on.Ends c.args.asked.now.seen (answer.Again n)) c.front_place-place.ensures in
    record {
      went = (
        kind.NotReady,
        subst (λ (g : Onward). Did c.args.asked.now (doing.Reads c.args.file c.args.room c.args.shape) kind.NotReady c.args.shared.now c.args.shared.now g)
            (sym told) did,
      );
    }
