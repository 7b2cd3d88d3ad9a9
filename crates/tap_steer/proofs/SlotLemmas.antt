-- The name that a change of the table opens is that of the table.
use Rattle.std.proofs.Common.{◌≡◌, ℕ, ◌<◌, zero, suc, List, [], ◌∷◌, length, get_or, ap, ◌∙◌, refl, arith}
use Rattle.tap_steer.specs.declared.state.State.TheInside.{Inside}
use Rattle.tap_steer.specs.Table.{Table, Named, new_name, device_at}
use Rattle.tap_steer.specs.State.{table_in}

pub get_or_any : {A : Type 0} (xs : List A) (i : ℕ) (a b : A) → i < length xs → get_or xs i a ≡ get_or xs i b
get_or_any [] i a b h = absurd (omega arith)
get_or_any (x ∷ xs) zero a b h = refl
get_or_any (x ∷ xs) (suc i) a b h = let lower : i < length xs = omega arith in get_or_any xs i a b lower

pub slot_device : (t : Table) (inside : Inside) → table_in inside ≡ t → (k d : ℕ) → k ≡ d → (slot : Named) → slot ≡ get_or inside.slots.items k slot → d < length t.names → slot.device ≡ device_at t d
slot_device t inside view k d at slot read below =
    let names : inside.slots.items ≡ t.names = ap (λ (x : Table). x.names) view in
    ap (λ (n : Named). n.device) (read ∙ ap (λ (xs : List Named). get_or xs k slot) names ∙ ap (λ n. get_or t.names n slot) at ∙ get_or_any t.names d slot (new_name (0, 0)) below)
