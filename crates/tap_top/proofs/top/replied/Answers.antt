use Rattle.std.proofs.Common.{refl, ap, ◌∙◌}
use Rattle.tap_top.specs.Course.Course.{NoMemory, Replied, SourceFailed}
use Rattle.tap_top.specs.Top.{reads_input}
use Rattle.tap_top.specs.Top.IsWanted.{Reply}
use Rattle.tap_top.specs.Top.Reads.{Input}
use Rattle.tap_top.proofs.Ended.{unread_not}
use Rattle.tap_top.proofs.top.replied.Goals as goal

pub returns-in-Err-SourceFailed : goal.returns-in-Err-SourceFailed
returns-in-Err-SourceFailed g c =
    let e = c.in-Err-SourceFailed in
    λ words asked. SourceFailed c.args.request asked c.requires.read (e.ensures.failed (rw e.field-0-is refl)) refl refl refl

pub returns-in-Err-NoMemory : goal.returns-in-Err-NoMemory
returns-in-Err-NoMemory g c =
    let e = c.in-Err-NoMemory in
    let p = e.ensures.no_memory (rw e.field-0-is refl) in
    λ words asked. NoMemory p.0 p.1 (unread_not _ words c.args.request asked c.requires.read) refl refl refl

pub returns-in-Ok-reply_to : goal.returns-in-Ok-reply_to
returns-in-Ok-reply_to g c =
    let e = c.in-Ok.ensures in
    λ words asked. Replied c.in-Ok.bytes.items c.as_str.result.now c.in-Ok-reply_to.reply.status (Input (ap reads_input asked ∙ c.requires.read) e.input)
    (c.in-Ok.bytes.items, record { to_limit = e.input.to_limit; no_fault = e.no_fault })
    (Reply c.args.request asked (rw c.as_str.ensures.value (rw c.deref.ensures.value at c.in-Ok-reply_to.ensures))) c.send.ensures

pub returns : goal.returns
returns g c =
    let e = c.in-Ok.ensures in
    λ words asked. NoMemory c.in-Ok.bytes.items (record { to_limit = e.input.to_limit; no_fault = e.no_fault }) (unread_not _ words c.args.request asked c.requires.read) refl refl refl
