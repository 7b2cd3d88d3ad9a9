-- This project's own, clause g of a legal trace: the steps on the guests, and what they answer.
use Rattle.std.specs.Prelude.{ℕ, ◌+◌, ◌==◌, ◌&&◌, ◌||◌, not, nat_lt, if◌then◌else◌, Bool, true, List, [], ◌∷◌, ◌++◌, length, flat_map, find, Option, Some, None}
use Rattle.std.specs.List.{list_any, list_all}
use Rattle.std.specs.Option.{option_map_or}
use Rattle.guest_mem.specs.declared.region.Region.{Region}
use Rattle.scen_words.specs.declared.command.Command.{Command}
use Rattle.scen_words.specs.declared.command.Command.TheVariants as command
use Rattle.tap_trace.specs.declared.answer.Answer.{Answer}
use Rattle.tap_trace.specs.declared.answer.Answer.TheVariants as answer
use Rattle.tap_trace.specs.declared.causes.VhostText.TheVariants.{ENOBUFS}
use Rattle.tap_trace.specs.declared.turn.TurnText.TheVariants as text
use Rattle.tap_trace.specs.declared.trace.PositionList.{PositionList}
use Rattle.tap_trace.specs.declared.trace.RingPart.{RingPart}
use Rattle.tap_world.specs.ByNumber.{at, numbered}
use Rattle.tap_world.specs.Guests.{Vhost, is_ring}
use Rattle.tap_world.specs.Project.{ring_parts}
use Rattle.tap_legal.specs.Numbered.{AnswerAt, Asked, EntryAt, GuestAt, RingAt, StepAt}
use Rattle.tap_legal.specs.Codes.{same_answer}
use Rattle.tap_legal.specs.Case.{Case, fails_each, fails_missing, fails_order, fails_wanted, of_answer, of_step}
use Rattle.tap_legal.specs.Lookups.{is_before, told_of}
use Rattle.tap_legal.specs.Replay.{Replay, vhost_named}
use Rattle.tap_legal.specs.Replays.{Replays, headers_of, is_whole}
use Rattle.tap_legal.specs.Served.{serves}

-- ---- guests and steps

-- The `guest` lines are the declared guests.
abbrev pub is_guest : ℕ × List Region → GuestAt → Bool
is_guest g l = l.guest == g.0

abbrev pub guests_rise : GuestAt → GuestAt → Bool
guests_rise g h = nat_lt g.guest h.guest

-- One actor's steps follow its commands, and steps of a phase come before those of later ones.
abbrev pub steps_follow : Case → StepAt → StepAt → Bool
steps_follow c s t =
    not (s.guest == t.guest)
    || option_map_or (λ a. option_map_or (λ b. not (is_before b a)) (told_of c t.at.command) true)
    (told_of c s.at.command) true

-- the ring that a command names; one that names a ring which isn't there has no step
abbrev pub ring_named : Command → Option ℕ
ring_named (command.VNum vhost ring n) = Some ring
ring_named (command.VBase vhost ring n) = Some ring
ring_named (command.VAddr vhost ring desc avail used) = Some ring
ring_named (command.GetBase vhost ring) = Some ring
ring_named (command.Backend vhost ring file) = Some ring
ring_named other = None

abbrev pub has_steps : Command → Bool
has_steps k = option_map_or is_ring (ring_named k) true

-- the guest of a command that is on one
abbrev pub guest_named : Case → Command → Option ℕ
guest_named c (command.Poke guest addr bytes) = Some guest
guest_named c (command.Peek guest addr len) = Some guest
guest_named c k = option_map_or (λ v. at c.setup.vhosts v) (vhost_named k) None

-- Each command on a guest has exactly its steps: none is missing here, and in the replay none is another.
abbrev pub is_finished : ℕ → Asked → ℕ × Replay → Bool
is_finished guest a r = not (r.0 == guest) || r.1.broken || list_any (λ n. n == a.told.command) r.1.finished

abbrev pub has_its_steps : Case → Replays → Asked → Bool
has_its_steps c rs a =
    not (has_steps a.command)
    || option_map_or (λ g. not (list_any (λ r. not (is_finished g a r)) rs)) (guest_named c a.command) true

-- A command on a ring which isn't there answers ENOBUFS.
abbrev pub answers_no_ring : AnswerAt → Bool
answers_no_ring a =
    option_map_or (λ k. has_steps k || same_answer a.answer (answer.Vhost ENOBUFS)) a.asked true

-- NEED of a Short is above HAD, and is the header size plus the length of an entry of the turn's file.
abbrev pub is_need : Case → ℕ → ℕ → ℕ → EntryAt → Bool
is_need c command need header e = serves c e.file command && header + e.at.len == need

abbrev pub fits_short : Case → Replays → ℕ → Answer → Bool
fits_short c rs command (answer.Turn packets bytes (text.Short need had) chains) =
    nat_lt had need
    && list_all (λ header. list_any (is_need c command need header) c.entries) (headers_of command rs)
fits_short c rs command other = true

-- ---- rings

-- The `ring` lines are rings 0 and 1 of each declared vhost.
abbrev pub is_ring_line : RingPart → RingAt → Bool
is_ring_line p l = p.vhost == l.vhost && p.ring == l.ring

abbrev pub rings_rise : RingAt → RingAt → Bool
rings_rise l m = nat_lt l.vhost m.vhost || l.vhost == m.vhost && nat_lt l.ring m.ring

-- Behind each stand its lists of positions and the published chains that the replay gives, so the k-th `used` of a list
-- has the k-th position.
abbrev pub used_fail : ℕ → ℕ → List (ℕ × ℕ × ℕ) → List (ℕ × ℕ × ℕ) → List ℕ
used_fail end line [] [] = []
used_fail end line (u ∷ us) [] = end ∷ []
used_fail end line [] (x ∷ xs) = line ∷ []
used_fail end line (u ∷ us) (x ∷ xs) =
    (if u.0 == x.0 && u.1 == x.1 && u.2 == x.2 then [] else line ∷ []) ++ used_fail end (line + 1) us xs

abbrev pub lists_fail : ℕ → ℕ → List PositionList → List PositionList → List ℕ
lists_fail end line [] [] = []
lists_fail end line (l ∷ ls) [] = end ∷ []
lists_fail end line [] (x ∷ xs) = line ∷ []
lists_fail end line (l ∷ ls) (x ∷ xs) =
    (if l.base == x.base then [] else line ∷ []) ++ used_fail end (line + 1) l.used x.used
    ++ lists_fail end (line + 1 + length x.used) ls xs

abbrev pub behind_ring : Case → RingPart → List ℕ
behind_ring c p =
    option_map_or (λ (l : RingAt). lists_fail c.end (l.line + 1) p.lists l.lists) (find (is_ring_line p) c.rings) []

-- the rings as the replays leave them, vhost by vhost
abbrev pub vhost_left : ℕ → List (ℕ × Replay) → Option Vhost
vhost_left vhost [] = None
vhost_left vhost (r ∷ rs) = option_map_or (λ v. Some v) (at r.1.vhosts vhost) (vhost_left vhost rs)

abbrev pub rings_wanted : Case → Replays → List RingPart
rings_wanted c rs =
    flat_map (λ v. option_map_or (λ x. ring_parts (v.0, x)) (vhost_left v.0 rs) []) (numbered 0 c.setup.vhosts)

-- ---- the clause

abbrev pub g_fails : Case → Replays → List ℕ
g_fails c rs =
    fails_wanted c (λ (l : GuestAt). l.line) is_guest guests_rise (numbered 0 c.setup.guests) c.guests
    ++ flat_map (λ (r : ℕ × Replay). r.1.fails) rs
    ++ fails_order of_step (steps_follow c) c.steps
    ++ fails_missing c (has_its_steps c rs) c.asked
    ++ fails_each of_answer answers_no_ring c.answers
    ++ fails_each of_answer (λ (a : AnswerAt). fits_short c rs a.told.command a.answer) c.answers
    ++ fails_wanted c (λ (l : RingAt). l.line) is_ring_line rings_rise (rings_wanted c rs) c.rings
    ++ (if is_whole rs then flat_map (behind_ring c) (rings_wanted c rs) else [])
