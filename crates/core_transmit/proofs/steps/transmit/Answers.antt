use Rattle.std.proofs.Common.{◌≡◌, ℕ, ◌∷◌, [], ◌++◌, Option, Some, None, sym, subst}
use Rattle.tap_flow_key.specs.FlowKey.{hash}
use Rattle.tap_frame.specs.Frame.{FrameValue}
use Rattle.tap_world.specs.declared.event.Found.TheVariants as found
use Rattle.core_shared.specs.Did.{Went}
use Rattle.core_shared.specs.declared.doing.Doing.TheVariants as doing
use Rattle.core_shared.specs.declared.onward.Onward.{Onward}
use Rattle.core_shared.specs.declared.onward.Onward.TheVariants as on
use Rattle.core_transmit.specs.Stepping.{Goes, OnVhost, WentOn}
use Rattle.core_transmit.proofs.Changed.{after_there}
use Rattle.core_transmit.proofs.Giving.{gives_did}
use Rattle.core_transmit.proofs.Going.{going_did, going_kind, going_words, guest_same, served, transmits_there, whole_then}
use Rattle.core_transmit.proofs.Values.{ok_is, ok_then}
use Rattle.core_transmit.proofs.steps.transmit.Goals as goal

pub step-requires-clause-there : goal.step-requires-clause-there
step-requires-clause-there c = transmits_there c.requires.may.1

pub step-requires-clause-served : goal.step-requires-clause-served
step-requires-clause-served c = served c.requires.may.1

pub go_on-requires-clause-there : goal.go_on-requires-clause-there
go_on-requires-clause-there c =
    let d = c.in_ok-act.field-0 in
    let v : OnVhost c.args.vhost (Goes d.act d.given d.over) c.args.shared.now c.step.new.shared = c.in_ok-act.ensures in
    after_there v (guest_same c.requires.may.1 v)

pub go_on-requires-clause-whole : goal.go_on-requires-clause-whole
go_on-requires-clause-whole c =
    let d = c.in_ok-act.field-0 in
    let v : OnVhost c.args.vhost (Goes d.act None d.over) c.args.shared.now c.step.new.shared =
    subst (λ (g : Option FrameValue). OnVhost c.args.vhost (Goes d.act g d.over) c.args.shared.now c.step.new.shared)
    c.in-None.is c.in_ok-act.ensures in
    whole_then c.requires.may.1 v

pub go_on-requires-clause-step : goal.go_on-requires-clause-step
go_on-requires-clause-step c =
    let d = c.in_ok-act.field-0 in
    let v : OnVhost c.args.vhost (Goes d.act None d.over) c.args.shared.now c.step.new.shared =
    subst (λ (g : Option FrameValue). OnVhost c.args.vhost (Goes d.act g d.over) c.args.shared.now c.step.new.shared)
    c.in-None.is c.in_ok-act.ensures in
    going_kind c.requires.may.1 v

pub go_on-requires-clause-told : goal.go_on-requires-clause-told
go_on-requires-clause-told c =
    let d = c.in_ok-act.field-0 in
    let v : OnVhost c.args.vhost (Goes d.act None d.over) c.args.shared.now c.step.new.shared =
    subst (λ (g : Option FrameValue). OnVhost c.args.vhost (Goes d.act g d.over) c.args.shared.now c.step.new.shared)
    c.in-None.is c.in_ok-act.ensures in
    going_words c.requires.may.1 v

pub returns-in-Some : goal.returns-in-Some
returns-in-Some c =
    let d = c.in_ok-act.field-0 in
    let a = c.args.asked.now in
    let f = c.in-Some.frame in
    let v : OnVhost c.args.vhost (Goes d.act (Some f) d.over) c.args.shared.now c.step.new.shared =
    subst (λ (g : Option FrameValue). OnVhost c.args.vhost (Goes d.act g d.over) c.args.shared.now c.step.new.shared)
    c.in-Some.is c.in_ok-act.ensures in
    let goes : ℕ → Onward = λ n. on.Goes n
    (doing.Given c.args.vhost c.args.file c.args.chains (record { name = f.name; flow = hash f.made }))
    (found.Moved f.name) in
    let W : Onward → Type 0 = λ o.
    Went a (doing.Transmits c.args.vhost c.args.file c.args.chains) c.args.shared.now c.give.new.shared o in
    record {
      went = ok_is c.give.result (goes c.seen.result)
          (c.give.new.shared.hosted.items ≡ c.step.new.shared.hosted.items ++ f.name ∷ []) W
          c.give.ensures.hosted c.give.ensures.onward
          (λ hosted. subst (λ (n : ℕ). W (goes n)) (sym c.seen.ensures) (
            c.requires.may.0,
            gives_did c.requires.may.1 c.gives_alone.ensures v hosted c.give.ensures.left,
          ));
    }

pub returns-in-None : goal.returns-in-None
returns-in-None c =
    let d = c.in_ok-act.field-0 in
    let a = c.args.asked.now in
    let v : OnVhost c.args.vhost (Goes d.act None d.over) c.args.shared.now c.step.new.shared =
    subst (λ (g : Option FrameValue). OnVhost c.args.vhost (Goes d.act g d.over) c.args.shared.now c.step.new.shared)
    c.in-None.is c.in_ok-act.ensures in
    record {
      went = ok_then c.go_on.result
          (λ (o : Onward). WentOn a c.args.vhost c.args.file c.args.chains.items d.act d.over c.step.new.shared
          c.go_on.new.shared o)
          (λ (o : Onward). Went a (doing.Transmits c.args.vhost c.args.file c.args.chains) c.args.shared.now
          c.go_on.new.shared o)
          c.go_on.ensures (λ o w. (c.requires.may.0, going_did c.requires.may.1 v o w));
    }
