use Rattle.std.proofs.Common.{◌^◌, ◌<◌, arith}
use Rattle.text_fields.specs.declared.kind.Digits.TheVariants.{Eight}
use Rattle.trace_causes.proofs.DigitsFit.{digits_fit}
use Rattle.trace_causes.proofs.fields.digits8_of.Goals as goal

pub overflow_cast-result : goal.overflow_cast-result
overflow_cast-result c =
    let small : c.in-Ok-Number.n < 2 ^ 32 = digits_fit c.value_laws.ensures.written Eight c.args.field.now _ c.in-Ok-Number.n c.in-Ok-Number.ensures c.in-Ok-Number.field-0-is in
    omega arith
