use Rattle.tap_sound.proofs.RoomKept as room
use Rattle.tap_sound.proofs.room_is_always_kept.Goals as goal

pub returns : goal.returns
returns c = λ s w e u is q h. room.room_is_always_kept s w e u is q.0 q.1 q.2 h
