use Rattle.std.proofs.Common.{◌≡◌, ◌<◌, ◌+◌, ◌^◌, Bool, [], length, Ok, ap, arith, rules, subst, sym}
use Rattle.tap_trace.specs.declared.trace.Trace.{Trace}
use Rattle.trace_text.specs.declared.builder.Builder.{Builder}
use Rattle.trace_text.specs.Reading.{CantStand, IsInner, TakesLine}
use Rattle.trace_text.proofs.Exits.{bad_end, bad_line, found_trace, goes_on, is_nil, no_trace, not_there, only_trace}
use Rattle.trace_text.proofs.OneBad.{refused_there}
use Rattle.trace_text.proofs.ReadLines.{Read, at_end, read_count, read_start}
use Rattle.trace_text.proofs.reading.read_trace.Goals as goal

pub lines-init : goal.lines-init
lines-init c =
    let P : Builder → Type 0 = λ b. Read c.args.bytes.now c.args.bytes.now 0 b in subst P (sym c.new-builder.ensures) (read_start c.args.bytes.now)

pub overflow_add-result : goal.overflow_add-result
overflow_add-result c =
    omega (arith, read_count c.args.bytes.now c.lines.rest.now c.lines.number c.lines.builder c.lines.invariant, c.requires)

pub overflow_add-number : goal.overflow_add-number
overflow_add-number c =
    omega (arith, read_count c.args.bytes.now c.lines.rest.now c.lines.number c.lines.builder c.lines.invariant, c.requires)

pub overflow_add-result-then-not-is_empty : goal.overflow_add-result-then-not-is_empty
overflow_add-result-then-not-is_empty c =
    omega (arith, read_count c.args.bytes.now c.lines.rest.now c.lines.number c.lines.builder c.lines.invariant, c.requires)

pub overflow_add-result-in-None : goal.overflow_add-result-in-None
overflow_add-result-in-None c =
    omega (arith, read_count c.args.bytes.now c.lines.rest.now c.lines.number c.lines.builder c.lines.invariant, c.requires)

pub returns-then-not-taken-clause-only : goal.returns-then-not-taken-clause-only
returns-then-not-taken-clause-only c =
    let short : length c.args.bytes.now < 2 ^ 64 = omega (arith, c.requires) in
    let P : Bool → Type 0 = λ t. TakesLine c.lines.builder c.in-Some.line.now t c.take_line.new.builder in
    let cant : CantStand c.lines.builder c.in-Some.line.now = subst P c.if-not-taken.true c.in_ok-taken.ensures in
    λ t stands. absurd (not_there c.said_laws.ensures.one c.said_laws.ensures.no_end c.args.bytes.now c.lines.rest.now c.in-Some.line.now c.in-Some.behind.now c.lines.number c.lines.builder short c.lines.invariant c.in-Some.ensures cant t stands)

pub returns-then-not-taken-clause-bad : goal.returns-then-not-taken-clause-bad
returns-then-not-taken-clause-bad c =
    let short : length c.args.bytes.now < 2 ^ 64 = omega (arith, c.requires) in
    let P : Bool → Type 0 = λ t. TakesLine c.lines.builder c.in-Some.line.now t c.take_line.new.builder in
    let cant : CantStand c.lines.builder c.in-Some.line.now = subst P c.if-not-taken.true c.in_ok-taken.ensures in
    bad_line c.said_laws.ensures.one c.said_laws.ensures.no_end c.args.bytes.now c.lines.rest.now c.in-Some.line.now c.in-Some.behind.now c.lines.number c.lines.builder short c.lines.invariant c.in-Some.ensures cant

pub lines-preserved : goal.lines-preserved
lines-preserved c =
    let P : Bool → Type 0 = λ t. TakesLine c.lines.builder c.in-Some.line.now t c.take_line.new.builder in
    goes_on c.said_laws.ensures.one c.said_laws.ensures.no_end c.args.bytes.now c.lines.rest.now c.in-Some.line.now c.in-Some.behind.now c.lines.number c.lines.builder c.take_line.new.builder c.lines.invariant c.in-Some.ensures
    (subst P c.if-not-taken.false c.in_ok-taken.ensures)

pub returns-then-not-is_empty-clause-only : goal.returns-then-not-is_empty-clause-only
returns-then-not-is_empty-clause-only c =
    let inner : IsInner c.lines.rest.now = search rules in
    let some : c.lines.rest.now ≡ [] → ⊥ = search rules in
    λ t stands. absurd (some (at_end c.said_laws.ensures.one c.said_laws.ensures.no_end c.args.bytes.now c.lines.rest.now c.lines.number c.lines.builder c.lines.invariant t inner stands).0)

pub returns-then-not-is_empty-clause-bad : goal.returns-then-not-is_empty-clause-bad
returns-then-not-is_empty-clause-bad c =
    let inner : IsInner c.lines.rest.now = search rules in
    let some : c.lines.rest.now ≡ [] → ⊥ = search rules in
    bad_end c.said_laws.ensures.one c.said_laws.ensures.no_end c.args.bytes.now c.lines.rest.now c.lines.number c.lines.builder c.lines.invariant inner
    (λ t stands. some (at_end c.said_laws.ensures.one c.said_laws.ensures.no_end c.args.bytes.now c.lines.rest.now c.lines.number c.lines.builder c.lines.invariant t inner stands).0)

pub returns-in-Some-ended-clause-found : goal.returns-in-Some-ended-clause-found
returns-in-Some-ended-clause-found c =
    let none : c.lines.rest.now ≡ [] = is_nil c.lines.rest.now (sym c.if-not-is_empty.ensures) in
    found_trace c.args.bytes.now c.lines.rest.now c.lines.number c.lines.builder c.in-Some-ended.trace c.lines.invariant none (sym c.in-Some-ended.ensures)

pub returns-in-Some-ended-clause-only : goal.returns-in-Some-ended-clause-only
returns-in-Some-ended-clause-only c =
    let inner : IsInner c.lines.rest.now = search rules in
    λ t stands. ap (λ (u : Trace). Ok u) (only_trace c.lines.builder t c.in-Some-ended.trace
    (at_end c.said_laws.ensures.one c.said_laws.ensures.no_end c.args.bytes.now c.lines.rest.now c.lines.number c.lines.builder c.lines.invariant t inner stands).1 (sym c.in-Some-ended.ensures))

pub returns-in-None-clause-only : goal.returns-in-None-clause-only
returns-in-None-clause-only c =
    let inner : IsInner c.lines.rest.now = search rules in
    λ t stands. absurd (no_trace c.lines.builder t
    (at_end c.said_laws.ensures.one c.said_laws.ensures.no_end c.args.bytes.now c.lines.rest.now c.lines.number c.lines.builder c.lines.invariant t inner stands).1 (sym c.in-None.ensures))

pub returns-in-None-clause-bad : goal.returns-in-None-clause-bad
returns-in-None-clause-bad c =
    let inner : IsInner c.lines.rest.now = search rules in
    bad_end c.said_laws.ensures.one c.said_laws.ensures.no_end c.args.bytes.now c.lines.rest.now c.lines.number c.lines.builder c.lines.invariant inner
    (λ t stands. no_trace c.lines.builder t
    (at_end c.said_laws.ensures.one c.said_laws.ensures.no_end c.args.bytes.now c.lines.rest.now c.lines.number c.lines.builder c.lines.invariant t inner stands).1 (sym c.in-None.ensures))

pub returns-then-not-taken-clause-refused : goal.returns-then-not-taken-clause-refused
returns-then-not-taken-clause-refused c =
    refused_there c.args.bytes.now (c.lines.number + 1) (returns-then-not-taken-clause-bad c)

pub returns-then-not-is_empty-clause-refused : goal.returns-then-not-is_empty-clause-refused
returns-then-not-is_empty-clause-refused c =
    refused_there c.args.bytes.now (c.lines.number + 1) (returns-then-not-is_empty-clause-bad c)

pub returns-in-Some-ended-clause-refused : goal.returns-in-Some-ended-clause-refused
returns-in-Some-ended-clause-refused c =
    λ line bad. absurd (bad.2.no_trace c.in-Some-ended.trace (returns-in-Some-ended-clause-found c))

pub returns-in-None-clause-refused : goal.returns-in-None-clause-refused
returns-in-None-clause-refused c =
    refused_there c.args.bytes.now (c.lines.number + 1) (returns-in-None-clause-bad c)
