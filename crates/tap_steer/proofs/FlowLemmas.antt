-- Where flows lead and how late they are, as flows come and go.
use Rattle.std.proofs.Common.{◌≡◌, ℕ, ◌+◌, ◌<◌, ◌≤◌, Bool, true, false, not, cond, eqb, ltb, [], ◌∷◌, refl, arith}
use Rattle.std.specs.List.{AllByRecursion}
use Rattle.std.specs.Ordering.{nat_cmp}
use Rattle.std.specs.FinMap.{put}
use Rattle.std.specs.declared.cmp.Ordering.{Ordering}
use Rattle.std.specs.declared.cmp.Ordering.TheVariants.{Less, Equal, Greater}
use Rattle.std.specs.FinMap.Entries.{by_order}
use Rattle.std.proofs.lemmas.Bool.{not-true, eqb-false}
use Rattle.std.proofs.lemmas.List.Elements.{All-from_recursion, recursion_from_All}
use Rattle.tap_flows.specs.declared.flows.Learnt.{Learnt}
use Rattle.tap_flows.specs.declared.flows.Learnt.TheVariants.{Made, Renewed, Full}
use Rattle.tap_flows.specs.Flow.{Flow, FlowList}
use Rattle.tap_flows.specs.FlowList.{AreNotAfter, put_in, learn_outcome, learnt, forgotten, ticked}
use Rattle.tap_steer.specs.Sound.{LeadsWithin}

-- a fact that asks for the flow alone, of each of a list
abbrev pub Each : (Flow → Type 0) → FlowList → Type 0
Each P flows = AllByRecursion (λ entry. P entry.1) flows

put_case : (P : Flow → Type 0) (o : Ordering) (a b c : FlowList) → Each P a → Each P b → Each P c → Each P (by_order o a b c)
put_case P Less a b c x y z = x
put_case P Equal a b c x y z = y
put_case P Greater a b c x y z = z

pub Each-put : (P : Flow → Type 0) (hash : ℕ) (flow : Flow) (flows : FlowList) → P flow → Each P flows → Each P (put nat_cmp hash flow flows)
Each-put P hash flow [] p h = (p, tt)
Each-put P hash flow (e ∷ es) p h =
    put_case P (nat_cmp hash e.0) ((hash, flow) ∷ e ∷ es) ((e.0, flow) ∷ es) (e ∷ put nat_cmp hash flow es) (p, h) (p, h.1) (h.0, Each-put P hash flow es p h.1)

put_in_each : (P : Flow → Type 0) (outcome : Learnt) (hash : ℕ) (flow : Flow) (flows : FlowList) → P flow → Each P flows → Each P (put_in outcome flows hash flow)
put_in_each P Made hash flow flows p h = Each-put P hash flow flows p h
put_in_each P Renewed hash flow flows p h = Each-put P hash flow flows p h
put_in_each P Full hash flow flows p h = h

pub Each-learnt : (P : Flow → Type 0) (limit hash : ℕ) (flow : Flow) (flows : FlowList) → P flow → Each P flows → Each P (learnt flows limit hash flow)
Each-learnt P limit hash flow flows p h = put_in_each P (learn_outcome flows limit hash) hash flow flows p h

-- what holds of each holds of those that are left
kept_case : (P : Flow → Type 0) (b : Bool) (e : ℕ × Flow) (es : FlowList) → (b ≡ true → P e.1) → Each P es → Each P (cond b (e ∷ es) es)
kept_case P true e es p h = (p refl, h)
kept_case P false e es p h = h

pub Each-forgotten : (P : Flow → Type 0) (index : ℕ) (flows : FlowList) → Each P flows → Each P (forgotten flows index)
Each-forgotten P index [] h = tt
Each-forgotten P index (e ∷ es) h = kept_case P (not (eqb e.1.index index)) e (forgotten es index) (λ _. h.0) (Each-forgotten P index es h.1)

pub Each-ticked : (P : Flow → Type 0) (age now : ℕ) (flows : FlowList) → Each P flows → Each P (ticked flows age now)
Each-ticked P age now [] h = tt
Each-ticked P age now (e ∷ es) h = kept_case P (ltb now (e.1.updated + age)) e (ticked es age now) (λ _. h.0) (Each-ticked P age now es h.1)

-- once the flows of the last index are gone, the others lead below it
pub led-forgotten : (n : ℕ) (flows : FlowList) → LeadsWithin (n + 1) flows → LeadsWithin n (forgotten flows n)
led-forgotten n [] h = tt
led-forgotten n (e ∷ es) h =
    kept_case (λ flow. flow.index < n) (not (eqb e.1.index n)) e (forgotten es n)
    (λ b. let apart : e.1.index ≡ n → ⊥ = eqb-false e.1.index n (not-true (eqb e.1.index n) b) in let below : e.1.index < n + 1 = h.0 in omega arith)
    (led-forgotten n es h.1)

pub Each-weaker : (P Q : Flow → Type 0) (flows : FlowList) → ((flow : Flow) → P flow → Q flow) → Each P flows → Each Q flows
Each-weaker P Q [] f h = tt
Each-weaker P Q (e ∷ es) f h = (f e.1 h.0, Each-weaker P Q es f h.1)

-- no flow leads to one of no rows
pub led_nowhere : (flows : FlowList) → LeadsWithin 0 flows → flows ≡ []
led_nowhere [] h = refl
led_nowhere (e ∷ es) h = absurd (let below : e.1.index < 0 = h.0 in omega arith)

abbrev pub IsNotLate : ℕ → Flow → Type 0
IsNotLate time flow = flow.updated ≤ time

pub late_each : (time : ℕ) (flows : FlowList) → AreNotAfter time flows → Each (IsNotLate time) flows
late_each time flows h = recursion_from_All (λ (e : ℕ × Flow). e.1.updated ≤ time) flows h

pub each_late : (time : ℕ) (flows : FlowList) → Each (IsNotLate time) flows → AreNotAfter time flows
each_late time flows h = All-from_recursion (λ (e : ℕ × Flow). e.1.updated ≤ time) flows h
