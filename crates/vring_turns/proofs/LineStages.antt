-- What the stage of a receive turn says of its frames.
use Rattle.std.proofs.Common.{◌≡◌, ℕ, Bool, true, false, List, [], length, Option, None, Some, if◌then◌else◌, nat_le, refl, ap, ◌∙◌}
use Rattle.vring_walk.specs.declared.walk.Fetched.{Fetched}
use Rattle.vring_walk.specs.declared.walk.Fetched.TheVariants.{Chain, Nothing, Bad, Crowded}
use Rattle.tap_frame.specs.Frame.{FrameValue}
use Rattle.vring_turns.specs.declared.end.End.{End}
use Rattle.vring_turns.specs.declared.end.End.TheVariants as end
use Rattle.vring_turns.specs.declared.stage.RxStage.TheVariants as stage
use Rattle.vring_turns.specs.declared.stage.After.{After}
use Rattle.vring_turns.specs.declared.stage.After.TheVariants as after
use Rattle.vring_turns.specs.Ring.{Gathered, room_in}
use Rattle.vring_turns.specs.RxTurn.{RxTurn, quota, goes_on, stage_of, rx_after_fetch, rx_after_second}
use Rattle.vring_turns.specs.RxLine.{PutsBack, PutsBackAt}
use Rattle.vring_turns.specs.Stage.{has_in_hand, need_at}

-- What a stage says.

pub closing_has : (b : Bool) (e : End) → has_in_hand (if b then stage.Ended e else stage.Publish (Some e)) ≡ false
closing_has true e = refl
closing_has false e = refl

pub closing_back :
    (b : Bool) (e : End) (t : RxTurn) (ws : List FrameValue)
    → PutsBack e t.header ws → PutsBackAt (if b then stage.Ended e else stage.Publish (Some e)) t ws
closing_back true e t ws h = h
closing_back false e t ws h = h

pub packet_has : (a b c : Bool)
    → has_in_hand (if a then (if c then stage.Ended end.Again else stage.Publish (Some end.Again))
    else (if b then stage.Publish None else stage.Hand)) ≡ false
packet_has true b c = closing_has c end.Again
packet_has false true c = refl
packet_has false false c = refl

pub packet_back : (a b c : Bool) (t : RxTurn) (ws : List FrameValue)
    → ws ≡ []
    → PutsBackAt (if a then (if c then stage.Ended end.Again else stage.Publish (Some end.Again))
    else (if b then stage.Publish None else stage.Hand)) t ws
packet_back true b c t ws none = closing_back c end.Again t ws none
packet_back false true c t ws none = none
packet_back false false c t ws none = none

pub way_has : (way : After) → has_in_hand (stage_of way) ≡ true
way_has after.Fetch = refl
way_has after.Copy = refl
way_has (after.Discard had) = refl
way_has (after.PutBack e) = refl

pub way_back :
    (way : After) (t u : RxTurn) (ws : List FrameValue)
    → u.header ≡ t.header → u.held ≡ t.held → PutsBackAt (stage.NoticesOff way) t ws → PutsBackAt (stage_of way) u ws
way_back after.Fetch t u ws a b h = h
way_back after.Copy t u ws a b h = h
way_back (after.Discard had) t u ws a b h = h
way_back (after.PutBack (end.Short need had)) t u ws a b h =
    (ap (λ n. need_at n u.held) a ∙ (ap (λ o. need_at t.header o) b ∙ h.0), h.1)
way_back (after.PutBack (end.Stopped fault)) t u ws a b h = h
way_back (after.PutBack end.Idle) t u ws a b h = h
way_back (after.PutBack end.Again) t u ws a b h = h
way_back (after.PutBack end.Off) t u ws a b h = h
way_back (after.PutBack end.NoMemory) t u ws a b h = h

-- a way that a fetch leads to puts nothing back as too short
abbrev IsPlain : After → Type 0
IsPlain way =
    (t : RxTurn) (ws : List FrameValue) → ws ≡ []
    → PutsBackAt (stage.NoticesOff way) t ws × PutsBackAt (stage_of way) t ws

gathers_plain :
    (a b : Bool) (had : ℕ) → IsPlain (if a then after.Copy else (if b then after.Discard had else after.Fetch))
gathers_plain true b had t ws none = (none, none)
gathers_plain false true had t ws none = (none, none)
gathers_plain false false had t ws none = (none, none)

pub first_back :
    (m : Bool) (need : ℕ) (cs : List Gathered) (f : Fetched) (t : RxTurn) (ws : List FrameValue)
    → ws ≡ [] → PutsBackAt (rx_after_fetch (goes_on m need cs f)) t ws
first_back m need cs (Chain head) t ws none =
    (gathers_plain (nat_le need (room_in cs)) (nat_le (quota m) (length cs)) (room_in cs) t ws none).1
first_back m need cs Nothing t ws none = none
first_back m need cs (Bad fault) t ws none = (tt, none)
first_back m need cs Crowded t ws none = none

pub second_back :
    (m : Bool) (need : ℕ) (cs old : List Gathered) (f : Fetched) (t : RxTurn) (ws : List FrameValue)
    → ws ≡ [] → need_at t.header t.held ≡ need
    → PutsBackAt (rx_after_second need old (goes_on m need cs f)) t ws
second_back m need cs old (Chain head) t ws none e =
    (gathers_plain (nat_le need (room_in cs)) (nat_le (quota m) (length cs)) (room_in cs) t ws none).0
second_back m need cs old Nothing t ws none e = (e, none)
second_back m need cs old (Bad fault) t ws none e = (tt, none)
second_back m need cs old Crowded t ws none e = none

pub first_has : (o : Option After) → has_in_hand (rx_after_fetch o) ≡ true
first_has None = refl
first_has (Some way) = way_has way

pub second_has : (need : ℕ) (cs : List Gathered) (o : Option After) → has_in_hand (rx_after_second need cs o) ≡ true
second_has need cs None = refl
second_has need cs (Some way) = refl
