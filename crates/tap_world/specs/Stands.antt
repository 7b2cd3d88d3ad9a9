-- This project's own: where names stand, and the names that an event places, gives to the host or drops.
use Rattle.std.specs.Prelude.{ℕ, ◌+◌, ◌==◌, ◌&&◌, if◌then◌else◌, List, [], ◌∷◌, ◌++◌, Bool, true, Option}
use Rattle.std.specs.Option.{option_map_or}
use Rattle.tap_frame.specs.declared.name.Name.{Name}
use Rattle.tap_ground.specs.Options.{only_if}
use Rattle.tap_world.specs.Line.{Entry, File}
use Rattle.tap_world.specs.LineSteps.Change.{Claims}
use Rattle.tap_world.specs.World.{World}
use Rattle.tap_world.specs.Effect.{Effect, OnFiles}
use Rattle.tap_world.specs.Effect.OnFiles.{OnFile}

-- ---- where a name stands

abbrev pub same_name : Name → Name → Bool
same_name a b = a.actor == b.actor && a.turn == b.turn && a.part == b.part

-- how often a name stands among names, in a line, in all lines, and anywhere
abbrev pub times_in : Name → List Name → ℕ
times_in n [] = 0
times_in n (m ∷ ms) = (if same_name n m then 1 else 0) + times_in n ms

abbrev pub times_on : Name → List Entry → ℕ
times_on n [] = 0
times_on n (e ∷ es) = (if same_name n e.name then 1 else 0) + times_on n es

abbrev pub times_placed : Name → List (Option File) → ℕ
times_placed n [] = 0
times_placed n (f ∷ fs) = option_map_or (λ (g : File). times_on n g.line) f 0 + times_placed n fs

abbrev pub times : World → Name → ℕ
times w n = times_in n w.dropped + times_in n w.hosted + times_placed n w.files

-- ---- the names of an event

-- the name that it places, those that it gives to the host, and those that it drops
abbrev pub placed_by : OnFiles → List Name
placed_by (OnFile file (Claims actor name epoch len)) = name ∷ []
placed_by other = []

abbrev pub names_of : Effect → List Name
names_of r = r.drops ++ r.hosts ++ placed_by r.files

-- names of which each stands nowhere yet, and no two are the same
abbrev pub are_new : World → List Name → Bool
are_new w [] = true
are_new w (n ∷ ns) = times w n == 0 && times_in n ns == 0 && are_new w ns

-- an event that drops, hosts or places a name is allowed only where that name stands nowhere yet
abbrev pub if_new : World → Effect → Option Effect
if_new w r = only_if (are_new w (names_of r)) r
