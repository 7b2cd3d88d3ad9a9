use Rattle.std.proofs.Common.{◌∙◌, ◌-◌, ap, length, slice_get}
use Rattle.trace_text.proofs.Adds.{last_get}
use Rattle.trace_text.proofs.items.last.Goals as goal

pub returns : goal.returns
returns g c = c.last.ensures.value ∙ ap (λ xs. slice_get xs (length xs - 1)) c.as_slice.ensures ∙ last_get c.args.items.now
