-- How bytes are judged.
use Rattle.std.proofs.Common.{◌≡◌, ℕ, List, Some, None, Result, Ok, Err, IfOk, OnOk, IfErr}
use Rattle.tap_frame.specs.declared.name.Name.{Name}
use Rattle.tap_frame.specs.declared.reading.BadFrame.{BadFrame}
use Rattle.tap_frame.specs.Frame.{FrameValue}
use Rattle.vring_turns.specs.TransmitBytes.{refusal_of, frame_of}
use Rattle.vhost_tx.specs.declared.copying.Judged.{Judged}
use Rattle.vhost_tx.specs.declared.copying.Judged.TheVariants.{Accepted, Refused}
use Rattle.vhost_tx.specs.Copying.{IsJudged}

-- as what was made of them
pub judged_so :
    (size : ℕ) (name : Name) (bytes : List ℕ) (made : Result FrameValue BadFrame) (judged : Judged)
    → OnOk made (refusal_of size bytes ≡ None) → IfOk made (λ frame. frame ≡ frame_of size name bytes)
    → IfErr made (λ bad. refusal_of size bytes ≡ Some bad)
    → IfOk made (λ frame. judged ≡ Accepted frame) → IfErr made (λ bad. judged ≡ Refused bad)
    → IsJudged size name bytes judged
judged_so size name bytes (Ok frame) judged none is refused accepted bad = rw accepted (none, is)
judged_so size name bytes (Err e) judged none is refused accepted bad = rw bad refused
