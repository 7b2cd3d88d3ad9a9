-- The line of a queue.
use Rattle.std.proofs.Common.{◌≡◌, ◌++◌, List, None, refl, ap, ◌∙◌, append_assoc}
use Rattle.std.specs.Prelude.{map}
use Rattle.std.proofs.lemmas.List.{map-append}
use Rattle.std.specs.Option.{option_to_list}
use Rattle.tap_frame.specs.declared.name.Name.{Name}
use Rattle.tap_frame.specs.Frame.{FrameValue}
use Rattle.tap_ledger.specs.declared.hand.Hand.{Hand}
use Rattle.tap_ledger.specs.declared.hand.Hand.TheVariants.{Got, NotReady, Off, NoMemory}
use Rattle.tap_ledger.specs.Queue.{QueueState, line, Extends, with_handed, name_handed}

-- the names of frames
abbrev names : List FrameValue → List Name
names frames = map (λ f. f.name) frames

-- what is handed out stands in front of the rest by its name
handed_names : (hand : Hand) (rest : List FrameValue) → option_to_list (name_handed hand) ++ names rest ≡ names (with_handed hand rest)
handed_names (Got frame) rest = refl
handed_names (NotReady place) rest = refl
handed_names Off rest = refl
handed_names NoMemory rest = refl

pub hand_extends_line : (hand : Hand) (old new : QueueState)
    → old.in_hand ≡ None
    → new.out ≡ old.out
    → new.in_hand ≡ name_handed hand
    → Extends old.waiting (with_handed hand new.waiting)
    → (more : List Name) × (line new ≡ line old ++ more)
hand_extends_line hand old new free out in_hand known =
    let more : List Name = names known.0 in
    let after : option_to_list new.in_hand ++ names new.waiting ≡ names old.waiting ++ more =
    ap (λ (n : _). option_to_list n ++ names new.waiting) in_hand ∙ handed_names hand new.waiting ∙ ap names known.1 ∙ map-append (λ (f : FrameValue). f.name) old.waiting known.0 in
    (more, rw (out, after, free, append_assoc) refl)
