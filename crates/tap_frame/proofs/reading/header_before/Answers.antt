use Rattle.std.proofs.Common.{refl, ap, sym, ◌∙◌}
use Rattle.std.proofs.lemmas.Bool.{and_left, and_right, le-ltb, lt-ltb}
use Rattle.tap_frame.specs.Header.{header_reach}
use Rattle.tap_frame.proofs.Apart.{header_apart, whole_apart}
use Rattle.tap_frame.proofs.reading.header_before.Goals as goal
use Rattle.tap_frame.proofs.reading.header_before.Goals.{else-reach-gt0-via-then-reach-gt0+else-reach-lt14, else-reach-gt0-via-else-reach-gt0}

pub returns-then-ether-reach-clause-refused : goal.returns-then-ether-reach-clause-refused
returns-then-ether-reach-clause-refused c =
    whole_apart c.args.shape c.args.front.now c.args.ether.now c.reach-reach.result c.requires (rw (← c.least.ensures.least) c.if-front-least.false)
    (c.reach-reach.ensures ∙ ap header_reach c.kept_header-hdr.ensures)
    ∙ rw (lt-ltb _ _ c.if-ether-reach.true) refl

pub returns-then-ether-lt14-clause-refused : goal.returns-then-ether-lt14-clause-refused
returns-then-ether-lt14-clause-refused c =
    whole_apart c.args.shape c.args.front.now c.args.ether.now c.reach-reach.result c.requires (rw (← c.least.ensures.least) c.if-front-least.false)
    (c.reach-reach.ensures ∙ ap header_reach c.kept_header-hdr.ensures)
    ∙ rw (le-ltb _ _ c.if-ether-reach.false, lt-ltb _ _ c.if-ether-lt14.true) refl

pub returns-then-reach-lt14-clause-refused : goal.returns-then-reach-lt14-clause-refused
returns-then-reach-lt14-clause-refused c =
    whole_apart c.args.shape c.args.front.now c.args.ether.now c.reach-reach.result c.requires (rw (← c.least.ensures.least) c.if-front-least.false)
    (c.reach-reach.ensures ∙ ap header_reach c.kept_header-hdr.ensures)
    ∙ rw (le-ltb _ _ c.if-ether-reach.false, le-ltb _ _ c.if-ether-lt14.false, lt-ltb _ _ c.if-reach-gt0.true, lt-ltb _ _ c.if-reach-lt14.true) refl

pub returns-then-ether-gt65535-clause-refused : goal.returns-then-ether-gt65535-clause-refused
returns-then-ether-gt65535-clause-refused c =
    whole_apart c.args.shape c.args.front.now c.args.ether.now c.reach-reach.result c.requires (rw (← c.least.ensures.least) c.if-front-least.false)
    (c.reach-reach.ensures ∙ ap header_reach c.kept_header-hdr.ensures)
    ∙ elim c.else-reach-gt0.branch [
      | else-reach-gt0-via-then-reach-gt0+else-reach-lt14 w ↦
          rw (le-ltb _ _ c.if-ether-reach.false, le-ltb _ _ c.if-ether-lt14.false, and_right _ _ (le-ltb _ _ w.if-reach-lt14.false), lt-ltb _ _ c.if-ether-gt65535.true)
          refl
      | else-reach-gt0-via-else-reach-gt0 w ↦
          rw (le-ltb _ _ c.if-ether-reach.false, le-ltb _ _ c.if-ether-lt14.false, and_left _ _ (le-ltb _ _ w.if-reach-gt0.false), lt-ltb _ _ c.if-ether-gt65535.true)
          refl
    ]

pub returns-clause-hdr : goal.returns-clause-hdr
returns-clause-hdr c =
    c.kept_header-hdr.ensures
    ∙ sym (header_apart c.args.shape c.args.front.now c.args.ether.now (rw (← c.least.ensures.least) c.if-front-least.false))

pub returns-clause-accepted : goal.returns-clause-accepted
returns-clause-accepted c =
    whole_apart c.args.shape c.args.front.now c.args.ether.now c.reach-reach.result c.requires (rw (← c.least.ensures.least) c.if-front-least.false)
    (c.reach-reach.ensures ∙ ap header_reach c.kept_header-hdr.ensures)
    ∙ elim c.else-reach-gt0.branch [
      | else-reach-gt0-via-then-reach-gt0+else-reach-lt14 w ↦
          rw (le-ltb _ _ c.if-ether-reach.false, le-ltb _ _ c.if-ether-lt14.false, and_right _ _ (le-ltb _ _ w.if-reach-lt14.false), le-ltb _ _ c.if-ether-gt65535.false)
          refl
      | else-reach-gt0-via-else-reach-gt0 w ↦
          rw (le-ltb _ _ c.if-ether-reach.false, le-ltb _ _ c.if-ether-lt14.false, and_left _ _ (le-ltb _ _ w.if-reach-gt0.false), le-ltb _ _ c.if-ether-gt65535.false)
          refl
    ]
