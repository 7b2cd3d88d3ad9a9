-- The numbers of an accepted declaration are in range.
use Rattle.std.proofs.Common.{ℕ, zero, suc, ◌-◌, ◌^◌, ◌%◌, ◌≤◌, ◌<◌, List, [], ◌∷◌, length, replicate, Some, slice_get, arith}
use Rattle.text_fields.specs.declared.kind.Shape.TheVariants.{Number}
use Rattle.text_fields.specs.declared.value.Value.{Value}
use Rattle.text_fields.specs.declared.value.Value.TheVariants as value
use Rattle.text_fields.specs.Fields.{Fits, FitsShape}
use Rattle.text_fields.specs.Forms.{FitForm, FitKinds}
use Rattle.scen_words.specs.declared.word.DeclarationWord.{DeclarationWord}
use Rattle.scen_words.specs.declared.word.DeclarationWord.TheVariants as declaration
use Rattle.scen_words.specs.Commands.{declaration_of, number_in}
use Rattle.scen_words.specs.Kinds.{first_place}
use Rattle.scen_words.specs.Words.{declaration_form}
use Rattle.scen_laid.specs.Declared.{IsInRange}

-- a number between these
record Between (least most n : ℕ) : Type 0 where
  above : least ≤ n
  below : n ≤ most

number_fits : (least most : ℕ) (v : Value) → FitsShape (Number least most) v → Between least most (number_in (Some v))
number_fits least most value.None h = absurd h
number_fits least most (value.Number n) h = record { above = h.0; below = h.1 }
number_fits least most (value.Name name) h = absurd h
number_fits least most (value.Bytes bytes) h = absurd h

narrow : (least most n : ℕ) → most < 2 ^ 16 → Between least most n → Between least most (n % 2 ^ 16)
narrow least most n few h = let a = h.above in let b = h.below in record { above = omega arith; below = omega arith }

narrow_more : (least most n : ℕ) → most < 2 ^ 32 → Between least most n → Between least most (n % 2 ^ 32)
narrow_more least most n few h = let a = h.above in let b = h.below in record { above = omega arith; below = omega arith }

first_fits : (n : ℕ) (c : Value) (v : List Value) → FitKinds (replicate n first_place) (c ∷ v) → Fits first_place c
first_fits zero c v h = absurd h
first_fits (suc n) c v h = h.0

-- the first place behind a number and a capacity
first_in : (n : ℕ) (v : List Value) → FitKinds (replicate n first_place) v → number_in (slice_get v 0) ≤ 1099511627775
first_in n [] h = omega arith
first_in n (c ∷ v) h = let f = number_fits 0 1099511627775 c (first_fits n c v h) in let b = f.below in omega arith

file_in_range : (name : ℕ) (v : List Value) → FitForm (declaration_form declaration.File) v → IsInRange (declaration_of name declaration.File v)
unfolding declaration_of
file_in_range name [] h = absurd h.each
file_in_range name (a ∷ []) h = absurd h.each.1
file_in_range name (a ∷ b ∷ v) h =
    let x = narrow 0 319 (number_in (Some a)) (omega arith) (number_fits 0 319 a h.each.0) in
    let y = narrow 1 1024 (number_in (Some b)) (omega arith) (number_fits 1 1024 b h.each.1.0) in
    (x.below, y.above, y.below, first_in (length (a ∷ b ∷ v) - 2) v h.each.1.1)

region_in_range : (name : ℕ) (v : List Value) → FitForm (declaration_form declaration.Region) v → IsInRange (declaration_of name declaration.Region v)
unfolding declaration_of
region_in_range name [] h = absurd h.each
region_in_range name (a ∷ v) h = let x = narrow 0 7 (number_in (Some a)) (omega arith) (number_fits 0 7 a h.each.0) in x.below

vhost_in_range : (name : ℕ) (v : List Value) → FitForm (declaration_form declaration.Vhost) v → IsInRange (declaration_of name declaration.Vhost v)
unfolding declaration_of
vhost_in_range name [] h = absurd h.each
vhost_in_range name (a ∷ []) h = absurd h.each.1
vhost_in_range name (a ∷ b ∷ v) h =
    let x = narrow 0 63 (number_in (Some a)) (omega arith) (number_fits 0 63 a h.each.0) in
    let y = narrow 0 7 (number_in (Some b)) (omega arith) (number_fits 0 7 b h.each.1.0) in
    (x.below, y.below)

program_in_range : (name : ℕ) (v : List Value) → FitForm (declaration_form declaration.Prog) v → IsInRange (declaration_of name declaration.Prog v)
unfolding declaration_of
program_in_range name [] h = absurd h.each
program_in_range name (a ∷ v) h = let x = narrow 0 63 (number_in (Some a)) (omega arith) (number_fits 0 63 a h.each.0) in x.below

flows_in_range : (name : ℕ) (v : List Value) → FitForm (declaration_form declaration.Flows) v → IsInRange (declaration_of name declaration.Flows v)
unfolding declaration_of
flows_in_range name [] h = absurd h.each
flows_in_range name (a ∷ []) h = absurd h.each.1
flows_in_range name (a ∷ b ∷ []) h = absurd h.each.1.1
flows_in_range name (a ∷ b ∷ c ∷ v) h =
    let x = narrow_more 1 65536 (number_in (Some b)) (omega arith) (number_fits 1 65536 b h.each.1.0) in
    let y = number_fits 1 1000000000 c h.each.1.1.0 in
    record { some = x.above; few = x.below; old = y.above; young = y.below }

pub in_range : (name : ℕ) (w : DeclarationWord) (v : List Value) → FitForm (declaration_form w) v → IsInRange (declaration_of name w v)
in_range name declaration.File v h = file_in_range name v h
in_range name declaration.Region v h = region_in_range name v h
in_range name declaration.Vhost v h = vhost_in_range name v h
in_range name declaration.Prog v h = program_in_range name v h
in_range name declaration.Flows v h = flows_in_range name v h
