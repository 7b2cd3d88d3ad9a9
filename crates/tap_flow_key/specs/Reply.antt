-- This project's own: a frame and one on its way back.
use Rattle.std.specs.Prelude.{◌≡◌, ℕ, ◌≤◌, List, length}
use Rattle.tap_flow_key.specs.FlowKey.{ether_type, layout_of, first_address, second_address, first_port, second_port, hash}

-- f is on its way back between the ends of e: the two have one type and one protocol, and each one's
-- first end is the other's second; nothing is said of what else they carry
pub record IsReply (e f : List ℕ) : Type 0 where
  pub framed : 14 ≤ length e
  pub reply_framed : 14 ≤ length f
  pub kind : ether_type f ≡ ether_type e
  pub protocol : (layout_of f).protocol ≡ (layout_of e).protocol
  pub source : first_address f (layout_of f) ≡ second_address e (layout_of e)
  pub destination : second_address f (layout_of f) ≡ first_address e (layout_of e)
  pub source_port : first_port f (layout_of f) ≡ second_port e (layout_of e)
  pub destination_port : second_port f (layout_of f) ≡ first_port e (layout_of e)

-- a frame and a reply have one hash
abbrev pub RepliesHaveOneHash : Type 0
RepliesHaveOneHash = (e f : List ℕ) → IsReply e f → hash f ≡ hash e
