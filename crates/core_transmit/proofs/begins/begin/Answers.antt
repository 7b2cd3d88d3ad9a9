use Rattle.std.proofs.Common.{◌≡◌, ℕ, Option, is_some, sym, ap, ◌∙◌}
use Rattle.tap_guests.specs.Side.{Side}
use Rattle.tap_sound.proofs.Kit.{some_same}
use Rattle.tap_world.specs.World.{name_of}
use Rattle.vhost_dev.specs.Device.{Device}
use Rattle.vhost_dev.specs.Settings.{hdr_of}
use Rattle.core_shared.proofs.Kit.{if_there, is_there}
use Rattle.core_shared.specs.declared.doing.Doing.TheVariants as doing
use Rattle.core_shared.specs.declared.onward.Onward.TheVariants as on
use Rattle.tap_world.specs.ByNumber.{at}
use Rattle.tap_world.specs.declared.event.Found.TheVariants as found
use Rattle.core_transmit.specs.Stepping.{Begins, MayBegin, OnVhost}
use Rattle.core_transmit.proofs.Beginning.{file_stays, guest_stays, has_kind}
use Rattle.core_transmit.proofs.Changed.{after_at, after_there}
use Rattle.core_transmit.proofs.begins.begin.Goals as goal

pub side-requires : goal.side-requires
side-requires c = is_there _ _ (after_at c.in_ok-act.ensures)

pub unwrap-file-requires : goal.unwrap-file-requires
unwrap-file-requires c =
    let b : OnVhost c.args.vhost (Begins c.args.asked.now c.in_ok-act.act) c.args.shared.now c.first_step.new.shared =
    c.in_ok-act.ensures in
    let a = c.args.asked.now in
    let side : c.side.result.now ≡ b.after = some_same c.side.result.now b.after (sym c.side.ensures ∙ after_at b) in
    let may = if_there (at c.args.shared.now.vhosts c.args.vhost) MayBegin b.before b.is_before c.requires.free in
    ap (λ (o : Option ℕ). is_some o) (c.backend.ensures ∙ ap (λ (d : Device). d.settings.tx.file) c.dev.ensures
    ∙ ap (λ (s : Side). s.vhost.settings.tx.file) side
    ∙ file_stays (hdr_of b.before.vhost.settings) a.actor (name_of a.actor a.number) b.before b.after b.guest.memory
    b.memory c.in_ok-act.act b.way) ∙ may.backed

pub unwrap-kind-requires : goal.unwrap-kind-requires
unwrap-kind-requires c =
    let b : OnVhost c.args.vhost (Begins c.args.asked.now c.in_ok-act.act) c.args.shared.now c.first_step.new.shared =
    c.in_ok-act.ensures in
    let a = c.args.asked.now in
    ap (λ o. is_some o) c.kind_of.ensures
    ∙ has_kind (hdr_of b.before.vhost.settings) a.actor (name_of a.actor a.number) b.before b.after b.guest.memory
    b.memory c.in_ok-act.act b.way c.args.vhost

pub tell-requires : goal.tell-requires
tell-requires c =
    let b : OnVhost c.args.vhost (Begins c.args.asked.now c.in_ok-act.act) c.args.shared.now c.first_step.new.shared =
    c.in_ok-act.ensures in
    let a = c.args.asked.now in
    after_there b (guest_stays (hdr_of b.before.vhost.settings) a.actor (name_of a.actor a.number) b.before b.after
    b.guest.memory b.memory c.in_ok-act.act b.way)

pub returns : goal.returns
returns c =
    let b : OnVhost c.args.vhost (Begins c.args.asked.now c.in_ok-act.act) c.args.shared.now c.first_step.new.shared =
    c.in_ok-act.ensures in
    let side : c.side.result.now ≡ b.after = some_same c.side.result.now b.after (sym c.side.ensures ∙ after_at b) in
    record {
      told = c.in_ok-act.act;
      between = c.first_step.new.shared;
      begins = b;
      file = c.unwrap-file.result;
      is_file = ap (λ (s : Side). s.vhost.settings.tx.file) (sym side)
          ∙ ap (λ (d : Device). d.settings.tx.file) (sym c.dev.ensures) ∙ sym c.backend.ensures ∙ c.unwrap-file.ensures;
      kind = c.unwrap-kind.result;
      is_kind = sym c.kind_of.ensures ∙ c.unwrap-kind.ensures;
      tells = c.in_ok-tell.ensures;
      chains = c.new.result;
      none = c.new.ensures.items;
      onward = ap (λ (n : ℕ). on.Goes n (doing.Transmits c.args.vhost c.unwrap-file.result c.new.result)
          (found.Step c.unwrap-kind.result)) c.seen.ensures;
    }
