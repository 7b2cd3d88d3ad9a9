-- This project's own: what a transmit worker makes of the chain that it fetched.
use Rattle.std.specs.Prelude.{◌≡◌, ℕ, ◌+◌, List, [], ◌∷◌, None, Some}
use Rattle.guest_mem.specs.Memory.{Contents}
use Rattle.tap_frame.specs.declared.name.Name.{Name}
use Rattle.tap_frame.specs.Frame.{FrameValue}
use Rattle.vring_turns.specs.declared.stage.TxStage.TheVariants.{Give}
use Rattle.vring_turns.specs.Ring.{Gathered}
use Rattle.vring_turns.specs.TransmitBytes.{bytes_of_chain, counted, refusal_of, frame_of}
use Rattle.vring_turns.specs.TxTurn.{TxTurn}
use Rattle.vhost_tx.specs.declared.copying.Judged.{Judged}
use Rattle.vhost_tx.specs.declared.copying.Judged.TheVariants.{Accepted, Refused, NoMemory}

-- the turn with one more packet, of so many bytes, whose chain is done
abbrev pub counting : ℕ → TxTurn → TxTurn
counting bytes t = record t { packets = t.packets + 1; bytes = t.bytes + bytes; chains = [] }

-- the turn with one more accepted frame, which is to be given
abbrev pub holding : FrameValue → TxTurn → TxTurn
holding frame t = record t { accepted = t.accepted + 1; held = Some frame; stage = Give }

-- bytes spell this frame, or are refused for this reason
abbrev pub IsJudged : ℕ → Name → List ℕ → Judged → Type 0
IsJudged size name bytes (Accepted frame) = (refusal_of size bytes ≡ None) × (frame ≡ frame_of size name bytes)
IsJudged size name bytes (Refused bad) = refusal_of size bytes ≡ Some bad
IsJudged size name bytes NoMemory = Unit {0}

-- what was read of the one chain of a turn: its head, for how many bytes it counts, and what its bytes are
pub record IsRead (t : TxTurn) (m : Contents) (name : Name) (head bytes : ℕ) (judged : Judged) : Type 0 where
  pub chain : Gathered
  pub only : t.chains ≡ chain ∷ []
  pub head_is : head ≡ chain.head
  pub bytes_are : bytes ≡ counted t.header chain
  pub judged_so : IsJudged t.header name (bytes_of_chain t.header m chain) judged
