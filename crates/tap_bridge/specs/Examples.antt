-- This project's own: worked examples of a bridge's table.
use Rattle.std.specs.Prelude.{◌≡◌, ℕ, ◌+◌, ◌/◌, ◌%◌, zero, suc, List, [], ◌∷◌, length, None, Some}
use Rattle.tap_bridge.specs.declared.address.Address.{Address}
use Rattle.tap_bridge.specs.declared.address.Seen.{Seen}
use Rattle.tap_bridge.specs.Bridge.{Table, found, learnt, kept, table_after, sent_on}

-- the stations with these last bytes, and the frame from one to another
abbrev pub station : ℕ → Address
station n = record { bytes = 2 ∷ 0 ∷ 0 ∷ 0 ∷ n / 256 ∷ n % 256 ∷ [] }

abbrev pub frame_of : ℕ → ℕ → ℕ → List ℕ
frame_of first to from = first ∷ 0 ∷ 0 ∷ 0 ∷ 0 ∷ to ∷ 2 ∷ 0 ∷ 0 ∷ 0 ∷ 0 ∷ from ∷ 8 ∷ 0 ∷ []

abbrev pub frame : ℕ → ℕ → List ℕ
frame to from = frame_of 2 to from

-- a frame whose source is a group
abbrev pub from_group : List ℕ
from_group = 2 ∷ 0 ∷ 0 ∷ 0 ∷ 0 ∷ 1 ∷ 3 ∷ 0 ∷ 0 ∷ 0 ∷ 0 ∷ 2 ∷ 8 ∷ 0 ∷ []

abbrev pub ports : List ℕ
ports = 0 ∷ 1 ∷ 2 ∷ []

abbrev pub at : ℕ → ℕ → Seen
at place moment = record { port = place; time = moment }

-- the first frame, from station 2 to station 1, comes in at port 0
abbrev pub after_first : Table
after_first = table_after 0 (frame 1 2) 0 ports []

-- the second, back, at port 1
abbrev pub after_second : Table
after_second = table_after 1 (frame 2 1) 0 ports after_first

-- so many stations
abbrev pub stations : ℕ → ℕ → Table
stations first zero = []
stations first (suc n) = (station first, at 0 0) ∷ stations (first + 1) n

-- what is learnt, and where frames go
pub record Frames : Type 0 where
  pub first_learnt : after_first ≡ (station 2, at 0 0) ∷ []
  pub first_flooded : sent_on 0 (frame 1 2) ports after_first ≡ 1 ∷ 2 ∷ []
  pub second_learnt : after_second ≡ (station 1, at 1 0) ∷ (station 2, at 0 0) ∷ []
  pub second_to_one : sent_on 1 (frame 2 1) ports after_second ≡ 0 ∷ []
  pub own_port : sent_on 0 (frame 2 3) ports after_first ≡ []
  pub to_itself : sent_on 2 (frame 3 3) ports (table_after 2 (frame 3 3) 0 ports []) ≡ []
  pub to_group : sent_on 1 (frame_of 3 2 1) ports after_second ≡ 0 ∷ 2 ∷ []
  pub source_group : table_after 1 from_group 5 ports after_first ≡ after_first
  pub moved : table_after 2 (frame 1 2) 5 ports after_first ≡ (station 2, at 2 5) ∷ []

-- what goes away
pub record Ages : Type 0 where
  pub one_less : kept 299999 ports after_first ≡ after_first
  pub exactly : kept 300000 ports after_first ≡ []
  pub port_gone : kept 5 (1 ∷ 2 ∷ []) after_second ≡ (station 1, at 1 0) ∷ []
  pub back_again : table_after 1 (frame 1 2) 300000 ports after_first ≡ (station 2, at 1 300000) ∷ []

-- a full table takes no new address, and gives one that it knows its new port and time
pub record Full : Type 0 where
  pub last : length (learnt (station 5000) (at 1 5) (stations 0 4095)) ≡ 4096
  pub one_more : found (station 5000) (learnt (station 5000) (at 1 5) (stations 0 4096)) ≡ None
  pub known : found (station 4095) (learnt (station 4095) (at 1 5) (stations 0 4096)) ≡ Some (at 1 5)
