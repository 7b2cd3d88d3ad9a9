-- This project's own: how a ring is emptied at its end.
use Rattle.std.specs.Prelude.{ℕ, List, [], ◌∷◌, ◌++◌, take, drop, Option, Some, None}
use Rattle.tap_frame.specs.Frame.{FrameValue}
use Rattle.tap_ring.specs.declared.rule.Produced.{Produced}
use Rattle.tap_ring.specs.declared.rule.View.{View}
use Rattle.tap_ring.specs.Steps.{with_producer}
use Rattle.tap_ring.specs.Tokens.{Token}

-- the frames that lie in these slots, in order
abbrev pub present : List (Option FrameValue) → List FrameValue
present [] = []
present (None ∷ xs) = present xs
present (Some f ∷ xs) = f ∷ present xs

-- the slots from this one on, and then those before it
abbrev pub slots_from : ℕ → List (Option FrameValue) → List (Option FrameValue)
slots_from start xs = drop start xs ++ take start xs

-- what a seat knows that took over what these producers knew
abbrev pub gathered : View → List (Token Produced) → View
gathered v [] = v
gathered v (t ∷ ts) = with_producer (gathered v ts) t.view
