-- This project's own: what the acts on a guest give of its replay.
use Rattle.std.specs.Prelude.{◌≡◌, ℕ, true, false, List, [], ◌∷◌, Some}
use Rattle.guest_mem.specs.declared.region.Region.{Region}
use Rattle.tap_world.specs.ByNumber.{at, numbered}
use Rattle.tap_legal.specs.Numbered.{AnswerAt}
use Rattle.tap_legal.specs.Case.{Case}
use Rattle.tap_legal.specs.LegalGuests.{fits_short, g_fails}
use Rattle.tap_legal.specs.Replays.{replay_of, replays}
use Rattle.tap_sights.specs.Acts.{Act, Done, first_state, last_state}
use Rattle.tap_sights.specs.GuestFacts.{GuestTells}
use Rattle.tap_sights.specs.LineFacts.{IsShaped}
use Rattle.tap_sights.specs.Sight.{In, Seen}
use Rattle.tap_sights.specs.Sights.{Sighted}
use Rattle.tap_acts.specs.Replaying.{IsAmong, is_turned}

-- the replay of a guest, of all its acts
abbrev pub IsReplay : Case → ℕ → List Region → List (Act × Done) → Type 0
IsReplay c guest regions done =
    IsAmong c done [] (last_state (first_state c guest regions) done) (replay_of c (guest, regions)).1

-- where no act is a step of a turn
abbrev pub CallsAreReplayed : Type 0
CallsAreReplayed =
    (c : Case) (s : Seen) → IsShaped c
    → (guest : ℕ) (regions : List Region) (done : List (Act × Done)) → GuestTells c s guest regions done
    → ((d : Act × Done) → In d done → is_turned d.0.what ≡ false)
    → IsReplay c guest regions done

-- the replay of each guest, of its acts
abbrev pub EachReplay : Case → List (ℕ × List Region) → List (List (Act × Done)) → Type 0
EachReplay c [] [] = Unit {0}
EachReplay c (g ∷ gs) (ds ∷ dss) = IsReplay c g.0 g.1 ds × EachReplay c gs dss
EachReplay c gs dss = ⊥

-- the guest of each vhost is declared
abbrev pub GuestsAreDeclared : Case → Type 0
GuestsAreDeclared c =
    (vhost guest : ℕ) → at c.setup.vhosts vhost ≡ Some guest
    → (regions : List Region) × (at c.setup.guests guest ≡ Some regions)

-- a receive turn that ended for want of chains needed as much as a frame of its file
abbrev pub ShortsFit : Case → Type 0
ShortsFit c = (a : AnswerAt) → In a c.answers → fits_short c (replays c) a.told.command a.answer ≡ true

-- with a replay of each guest nothing else fails in clause g
abbrev pub GuestsAreLegal : Type 0
GuestsAreLegal =
    (c : Case) (s : Sighted c) → GuestsAreDeclared c → EachReplay c (numbered 0 c.setup.guests) s.guests.done
    → ShortsFit c → g_fails c (replays c) ≡ []
