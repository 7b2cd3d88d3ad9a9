-- This project's own: what an event leaves, part by part.
use Rattle.std.proofs.Common.{◌≡◌, ◌≢◌, ℕ, zero, suc, List, [], ◌∷◌, ◌++◌, map, true, false, Option, Some, None, inl, inr, refl, sym, ap, ◌∙◌, subst, true≢false, append-nil, eq-eqb}
use Rattle.std.proofs.lemmas.List.{map_push}
use Rattle.std.specs.Prelude.{◌==◌, IfSome, option_map, option_to_list, slice_get, slice_set}
use Rattle.std.specs.Option.{option_map_or}
use Rattle.guest_mem.specs.Memory.{Contents}
use Rattle.tap_frame.specs.Frame.{FrameValue}
use Rattle.tap_guests.specs.Side.{Side}
use Rattle.tap_guests.specs.Within.{IsIn, StaysIn}
use Rattle.tap_lines.specs.Files.{files_of}
use Rattle.tap_lines.specs.Placed.{Placed}
use Rattle.tap_lines.specs.Told.{BeganAt, Told, told_more}
use Rattle.tap_sound.proofs.Kit.{some_same}
use Rattle.std.proofs.lemmas.Bool.Decides.{eqb_tells}
use Rattle.core_shared.proofs.Taking.{rx_at, tx_at}
use Rattle.tap_steer.specs.After.{after, after_all}
use Rattle.tap_steer.specs.Table.{Table}
use Rattle.tap_steer.specs.declared.operation.Op.{Op}
use Rattle.tap_trace.specs.declared.kind.Kind.{Kind}
use Rattle.tap_ground.specs.Options.{◌>>=◌}
use Rattle.tap_world.specs.ByNumber.{at, with_at}
use Rattle.tap_world.specs.Effect as world
use Rattle.tap_world.specs.Effect.{Effect, files_after, guests_after, on_file, only, vhosts_after}
use Rattle.tap_world.specs.Effect.OnFiles.{OnFile}
use Rattle.tap_world.specs.Effect.OnGuests.{OnGuest}
use Rattle.tap_world.specs.Effect.OnVhosts.{OnVhost}
use Rattle.tap_world.specs.Guests.{Guest, turn_of}
use Rattle.tap_world.specs.Line.{File}
use Rattle.tap_world.specs.LineSteps.{Change, changed}
use Rattle.tap_world.specs.Setup.{Setup, opening_table}
use Rattle.tap_world.specs.World.{Actor}
use Rattle.tap_world.specs.declared.told.Published.{Published}
use Rattle.tap_world.specs.declared.told.Said.{Said}
use Rattle.core_shared.specs.Asking.{Asking}
use Rattle.core_shared.specs.Coming.{rx_turn_in, tx_turn_in}
use Rattle.core_shared.specs.Did.{IsLeft, TurnsStay}
use Rattle.core_shared.specs.Held.{IsHeld}
use Rattle.core_shared.specs.Suiting.{IsSent}
use Rattle.core_shared.specs.Worlds.{vhosts_of, world_in}
use Rattle.core_shared.specs.declared.shared.Shared.{Shared}
use Rattle.core_shared.proofs.Kit.{file_at, files_with, if_any, if_there, vhosts_with, with_at_else, with_at_here, with_at_is}

-- ---- the parts of what is left

-- nothing behind a list: no operation, no name
pub no_more : {A : Type 0} (xs : List A) → xs ≡ xs ++ []
no_more xs = sym (append-nil xs)

-- one file changes
pub file_left : (file : ℕ) (change : Change) (files : List (Option Placed)) (old new : Placed)
    → at files file ≡ Some old → changed change old.file ≡ Some new.file
    → files_after (OnFile file change) (files_of files) ≡ Some (files_of (with_at file new files))
file_left file change files old new there is =
    ap (λ (o : Option File). o >>= λ (f : File). changed change f >>= λ (g : File). Some (with_at file g (files_of files))) (file_at file files old there)
    ∙ ap (λ (o : Option File). o >>= λ (g : File). Some (with_at file g (files_of files))) is
    ∙ ap Some (sym (files_with file new files))

-- one guest's memory changes, with its step
abbrev pub guest_with : ℕ → ℕ → Contents → Option Kind → Guest → Guest
guest_with actor command memory step g = record {
  memory = memory;
  steps = g.steps ++ option_to_list (option_map (λ k. record { actor = actor; command = command; kind = k }) step);
}

pub guest_left : (actor command guest : ℕ) (memory : Contents) (step : Option Kind) (guests : List (Option Guest)) (g : Guest)
    → at guests guest ≡ Some g
    → guests_after actor command (OnGuest guest memory step) guests ≡ Some (with_at guest (guest_with actor command memory step g) guests)
guest_left actor command guest memory step guests g there =
    ap (λ (o : Option Guest). o >>= λ (h : Guest). Some (with_at guest (guest_with actor command memory step h) guests)) there

-- one vhost changes
pub vhost_left : (vhost : ℕ) (new : Side) (vhosts : List (Option Side))
    → vhosts_after (OnVhost vhost new.vhost) (vhosts_of vhosts) ≡ vhosts_of (with_at vhost new vhosts)
vhost_left vhost new vhosts = sym (vhosts_with vhost new vhosts)

-- ---- whole effects

-- nothing but onward, and who holds the writer
pub only_left : (o : world.Onward) (writer : Option ℕ) (a : Asking) (x : Shared) (actors : List Actor) (said : List Said)
    → IsLeft (record (only o (world_in x actors said)) { writer = writer }) a x (record x { writer = writer })
only_left o writer a x actors said = record {
  ops = no_more x.ops.ops;
  files = refl;
  guests = refl;
  vhosts = refl;
  hosted = no_more x.hosted.items;
  dropped = no_more x.dropped.items;
  writer = refl;
  phase = refl;
}

-- nothing but onward
pub same_left : (o : world.Onward) (a : Asking) (x : Shared) (actors : List Actor) (said : List Said)
    → IsLeft (only o (world_in x actors said)) a x x
same_left o a x actors said = only_left o x.writer a x actors said

-- one file changed, and who holds the writer
pub on_file_left : (file : ℕ) (change : Change) (o : world.Onward) (writer : Option ℕ) (a : Asking) (x : Shared)
    (actors : List Actor) (said : List Said) (old new : Placed)
    → at x.files file ≡ Some old → changed change old.file ≡ Some new.file
    → IsLeft (record (on_file file change o (world_in x actors said)) { writer = writer }) a x
    (record x { files = with_at file new x.files; writer = writer })
on_file_left file change o writer a x actors said old new there is = record {
  ops = no_more x.ops.ops;
  files = file_left file change x.files old new there is;
  guests = refl;
  vhosts = refl;
  hosted = no_more x.hosted.items;
  dropped = no_more x.dropped.items;
  writer = refl;
  phase = refl;
}

-- an operation published, and who holds the writer
pub told_left : (p : Published) (o : world.Onward) (writer : Option ℕ) (a : Asking) (x : Shared) (actors : List Actor) (said : List Said)
    → p ≡ record { phase = x.phase; actor = a.actor; command = a.number; op = p.op }
    → IsLeft (record (only o (world_in x actors said)) { ops = p.op ∷ []; writer = writer }) a x
    (record x { ops = told_more p x.ops; writer = writer })
told_left p o writer a x actors said is = record {
  ops = ap (λ (q : Published). x.ops.ops ++ q ∷ []) is;
  files = refl;
  guests = refl;
  vhosts = refl;
  hosted = no_more x.hosted.items;
  dropped = no_more x.dropped.items;
  writer = refl;
  phase = refl;
}

-- one vhost changed, and who holds the writer
pub on_vhost_left : (vhost : ℕ) (new : Side) (o : world.Onward) (writer : Option ℕ) (a : Asking) (x : Shared) (actors : List Actor) (said : List Said)
    → IsLeft (record (only o (world_in x actors said)) { vhosts = OnVhost vhost new.vhost; writer = writer }) a x
    (record x { vhosts = with_at vhost new x.vhosts; writer = writer })
on_vhost_left vhost new o writer a x actors said = record {
  ops = no_more x.ops.ops;
  files = refl;
  guests = refl;
  vhosts = vhost_left vhost new x.vhosts;
  hosted = no_more x.hosted.items;
  dropped = no_more x.dropped.items;
  writer = refl;
  phase = refl;
}

-- one guest changed, with its step
pub on_guest_left : (guest : ℕ) (memory : Contents) (step : Option Kind) (g : Guest) (o : world.Onward) (writer : Option ℕ) (a : Asking)
    (x : Shared) (actors : List Actor) (said : List Said) → at x.guests guest ≡ Some g
    → IsLeft (record (only o (world_in x actors said)) { guests = OnGuest guest memory step; writer = writer }) a x
    (record x { guests = with_at guest (guest_with a.actor a.number memory step g) x.guests; writer = writer })
on_guest_left guest memory step g o writer a x actors said there = record {
  ops = no_more x.ops.ops;
  files = refl;
  guests = guest_left a.actor a.number guest memory step x.guests g there;
  vhosts = refl;
  hosted = no_more x.hosted.items;
  dropped = no_more x.dropped.items;
  writer = refl;
  phase = refl;
}

-- a guest and its vhost changed
pub on_both_left : (guest : ℕ) (memory : Contents) (step : Option Kind) (g : Guest) (vhost : ℕ) (new : Side) (o : world.Onward) (writer : Option ℕ)
    (a : Asking) (x : Shared) (actors : List Actor) (said : List Said) → at x.guests guest ≡ Some g
    → IsLeft
    (record (only o (world_in x actors said)) { guests = OnGuest guest memory step; vhosts = OnVhost vhost new.vhost; writer = writer }) a x
    (record x {
      guests = with_at guest (guest_with a.actor a.number memory step g) x.guests;
      vhosts = with_at vhost new x.vhosts;
      writer = writer;
    })
on_both_left guest memory step g vhost new o writer a x actors said there = record {
  ops = no_more x.ops.ops;
  files = refl;
  guests = guest_left a.actor a.number guest memory step x.guests g there;
  vhosts = vhost_left vhost new x.vhosts;
  hosted = no_more x.hosted.items;
  dropped = no_more x.dropped.items;
  writer = refl;
  phase = refl;
}

-- ---- turns of others stay

-- no vhost changed
pub turns_same : (actor : ℕ) (vhosts : List (Option Side)) → TurnsStay actor vhosts vhosts
turns_same actor vhosts = record { rx = λ vhost other v e t ne. refl; tx = λ vhost other v e t ne. refl }

-- a ring's turn may be left otherwise: no other actor holds it, or it is where it was
abbrev pub RxMay : ℕ → Side → Side → Type 0
RxMay actor old new =
    (other : ℕ) → turn_of 0 old.vhost ≡ Some other → (other == actor) ≡ false
    → option_map (λ w. w.turn) new.rx ≡ option_map (λ w. w.turn) old.rx

abbrev pub TxMay : ℕ → Side → Side → Type 0
TxMay actor old new =
    (other : ℕ) → turn_of 1 old.vhost ≡ Some other → (other == actor) ≡ false
    → option_map (λ w. w.turn) new.tx ≡ option_map (λ w. w.turn) old.tx

own_no_other : (o : Option ℕ) (actor other : ℕ) → o ≡ Some actor → o ≡ Some other → (other == actor) ≡ false → ⊥
own_no_other o actor other mine its ne =
    let same : other ≡ actor = cc (mine, its) in
    true≢false (sym (eq-eqb other actor same) ∙ ne)

free_no_other : (o : Option ℕ) (other : ℕ) → o ≡ None → o ≡ Some other → ⊥
free_no_other o other free its = cc (free, its)

not_other : (o : Option ℕ) (actor other : ℕ) → option_map_or (λ (k : ℕ). k == actor) o true ≡ true → o ≡ Some other → (other == actor) ≡ false → ⊥
not_other o actor other may its ne =
    true≢false (sym may ∙ ap (λ (p : Option ℕ). option_map_or (λ (k : ℕ). k == actor) p true) its ∙ ne)

-- its turn is the actor's own
pub own_rx : (actor : ℕ) (old new : Side) → turn_of 0 old.vhost ≡ Some actor → RxMay actor old new
own_rx actor old new mine other its ne = absurd (own_no_other (turn_of 0 old.vhost) actor other mine its ne)

pub own_tx : (actor : ℕ) (old new : Side) → turn_of 1 old.vhost ≡ Some actor → TxMay actor old new
own_tx actor old new mine other its ne = absurd (own_no_other (turn_of 1 old.vhost) actor other mine its ne)

-- nobody holds it
pub free_rx_may : (actor : ℕ) (old new : Side) → turn_of 0 old.vhost ≡ None → RxMay actor old new
free_rx_may actor old new free other its ne = absurd (free_no_other (turn_of 0 old.vhost) other free its)

pub free_tx_may : (actor : ℕ) (old new : Side) → turn_of 1 old.vhost ≡ None → TxMay actor old new
free_tx_may actor old new free other its ne = absurd (free_no_other (turn_of 1 old.vhost) other free its)

-- it is free for the actor
pub free_for_rx : (actor : ℕ) (old new : Side) → option_map_or (λ (k : ℕ). k == actor) (turn_of 0 old.vhost) true ≡ true → RxMay actor old new
free_for_rx actor old new may other its ne = absurd (not_other (turn_of 0 old.vhost) actor other may its ne)

pub free_for_tx : (actor : ℕ) (old new : Side) → option_map_or (λ (k : ℕ). k == actor) (turn_of 1 old.vhost) true ≡ true → TxMay actor old new
free_for_tx actor old new may other its ne = absurd (not_other (turn_of 1 old.vhost) actor other may its ne)

-- its worker is where it was
pub same_rx : (actor : ℕ) (old new : Side) → new.rx ≡ old.rx → RxMay actor old new
same_rx actor old new same other its ne = ap (λ o. option_map (λ w. w.turn) o) same

pub same_tx : (actor : ℕ) (old new : Side) → new.tx ≡ old.tx → TxMay actor old new
same_tx actor old new same other its ne = ap (λ o. option_map (λ w. w.turn) o) same

other_number : (n k : ℕ) → (n == k) ≡ false → n ≢ k
other_number n k e h = true≢false (sym (eq-eqb n k h) ∙ e)

-- one vhost changed
pub turns_of_one : (actor vhost : ℕ) (old new : Side) (vhosts : List (Option Side)) → at vhosts vhost ≡ Some old
    → RxMay actor old new → TxMay actor old new → TurnsStay actor vhosts (with_at vhost new vhosts)
turns_of_one actor vhost old new vhosts there rx tx = record { rx = stays_rx; tx = stays_tx }
  where
    stays_rx : (k other : ℕ) (v : Side) → at vhosts k ≡ Some v → turn_of 0 v.vhost ≡ Some other → (other == actor) ≡ false
        → rx_turn_in (with_at vhost new vhosts) k ≡ rx_turn_in vhosts k
    stays_rx k other v e t ne = elim (eqb_tells vhost k) [
      | inl same ↦
          let here : at (with_at vhost new vhosts) k ≡ Some new = subst (λ (n : ℕ). at (with_at vhost new vhosts) n ≡ Some new) same.1 (with_at_here vhost new old vhosts there) in
          let its : at vhosts k ≡ Some old = subst (λ (n : ℕ). at vhosts n ≡ Some old) same.1 there in
          let is_old : v ≡ old = some_same v old (sym e ∙ its) in
          rx_at (with_at vhost new vhosts) k new here ∙ rx other (ap (λ (s : Side). turn_of 0 s.vhost) (sym is_old) ∙ t) ne ∙ sym (rx_at vhosts k old its)
      | inr differs ↦ ap (λ (o : Option Side). o >>= λ (s : Side). option_map (λ w. w.turn) s.rx) (with_at_else vhost new vhosts k (other_number vhost k differs.0))
    ]

    stays_tx : (k other : ℕ) (v : Side) → at vhosts k ≡ Some v → turn_of 1 v.vhost ≡ Some other → (other == actor) ≡ false
        → tx_turn_in (with_at vhost new vhosts) k ≡ tx_turn_in vhosts k
    stays_tx k other v e t ne = elim (eqb_tells vhost k) [
      | inl same ↦
          let here : at (with_at vhost new vhosts) k ≡ Some new = subst (λ (n : ℕ). at (with_at vhost new vhosts) n ≡ Some new) same.1 (with_at_here vhost new old vhosts there) in
          let its : at vhosts k ≡ Some old = subst (λ (n : ℕ). at vhosts n ≡ Some old) same.1 there in
          let is_old : v ≡ old = some_same v old (sym e ∙ its) in
          tx_at (with_at vhost new vhosts) k new here ∙ tx other (ap (λ (s : Side). turn_of 1 s.vhost) (sym is_old) ∙ t) ne ∙ sym (tx_at vhosts k old its)
      | inr differs ↦ ap (λ (o : Option Side). o >>= λ (s : Side). option_map (λ w. w.turn) s.tx) (with_at_else vhost new vhosts k (other_number vhost k differs.0))
    ]

-- ---- frames

-- each of these frames is the one that was sent under its name
abbrev pub AreSent : Setup → List (Option FrameValue) → Type 0
AreSent s frames = (i : ℕ) (frame : FrameValue) → slice_get frames i ≡ Some (Some frame) → IsSent s frame

-- those of a file are
pub sent_of : (s : Setup) (x : Shared) (file : ℕ) (p : Placed) → IsHeld s x → at x.files file ≡ Some p → AreSent s p.frames
sent_of s x file p h e i frame is = h.frames file i p frame e is

-- with none in a place
pub sent_without : (s : Setup) (frames : List (Option FrameValue)) (n : ℕ) → AreSent s frames → AreSent s (slice_set frames n None)
sent_without s [] n h i frame e = absurd (cc (e))
sent_without s (x ∷ xs) zero h zero frame e = absurd (cc (e))
sent_without s (x ∷ xs) zero h (suc i) frame e = h (suc i) frame e
sent_without s (x ∷ xs) (suc n) h zero frame e = h 0 frame e
sent_without s (x ∷ xs) (suc n) h (suc i) frame e = sent_without s xs n (λ j. h (suc j)) i frame e

-- with one that was sent in a place
pub sent_with : (s : Setup) (frames : List (Option FrameValue)) (n : ℕ) (y : FrameValue) → IsSent s y → AreSent s frames → AreSent s (slice_set frames n (Some y))
sent_with s [] n y k h i frame e = absurd (cc (e))
sent_with s (x ∷ xs) zero y k h zero frame e = subst (IsSent s) (some_same y frame (some_same (Some y) (Some frame) e)) k
sent_with s (x ∷ xs) zero y k h (suc i) frame e = h (suc i) frame e
sent_with s (x ∷ xs) (suc n) y k h zero frame e = h 0 frame e
sent_with s (x ∷ xs) (suc n) y k h (suc i) frame e = sent_with s xs n y k (λ j. h (suc j)) i frame e

-- with no frame at one place more
pub sent_more : (s : Setup) (frames : List (Option FrameValue)) → AreSent s frames → AreSent s (frames ++ None ∷ [])
sent_more s [] h zero frame e = absurd (cc (e))
sent_more s [] h (suc i) frame e = absurd (cc (e))
sent_more s (x ∷ xs) h zero frame e = h 0 frame e
sent_more s (x ∷ xs) h (suc i) frame e = sent_more s xs (λ j. h (suc j)) i frame e

-- ---- what always holds, part by part

-- each frame of a file is the one that was sent under its name
abbrev pub FilesAreSent : Setup → List (Option Placed) → Type 0
FilesAreSent s files =
    (file i : ℕ) (p : Placed) (frame : FrameValue) → at files file ≡ Some p → slice_get p.frames i ≡ Some (Some frame) → IsSent s frame

-- each vhost lies in the regions of its guest's memory
abbrev pub VhostsLie : List (Option Guest) → List (Option Side) → Type 0
VhostsLie guests vhosts =
    (vhost : ℕ) (v : Side) → at vhosts vhost ≡ Some v → IfSome (at guests v.vhost.guest) (λ g. IsIn g.memory.regions v)

-- with another file
pub files_sent_with : (s : Setup) (files : List (Option Placed)) (file : ℕ) (new : Placed) → FilesAreSent s files → AreSent s new.frames
    → FilesAreSent s (with_at file new files)
files_sent_with s files file new h sent k i p frame e is = elim (with_at_is file new files k p e) [
  | inl t ↦ sent i frame (ap (λ (q : Placed). slice_get q.frames i) t.1 ∙ is)
  | inr t ↦ h k i p frame t.1 is
]

-- with another guest, whose memory keeps its regions
pub guests_lie_with : (guests : List (Option Guest)) (vhosts : List (Option Side)) (guest : ℕ) (old new : Guest) → VhostsLie guests vhosts
    → at guests guest ≡ Some old → new.memory.regions ≡ old.memory.regions → VhostsLie (with_at guest new guests) vhosts
guests_lie_with guests vhosts guest old new h there same vhost v e =
    if_any (at (with_at guest new guests) v.vhost.guest) (λ (g : Guest). IsIn g.memory.regions v) (λ g at_.
    elim (with_at_is guest new guests v.vhost.guest g at_) [
      | inl t ↦
          let was : IsIn old.memory.regions v =
          if_there (at guests v.vhost.guest) (λ (k : Guest). IsIn k.memory.regions v) old
          (subst (λ (n : ℕ). at guests n ≡ Some old) t.0 there) (h vhost v e) in
          subst (λ rs. IsIn rs v) (sym same ∙ ap (λ (k : Guest). k.memory.regions) t.1) was
      | inr t ↦ if_there (at guests v.vhost.guest) (λ (k : Guest). IsIn k.memory.regions v) g t.1 (h vhost v e)
    ])

-- with another vhost, which lies in its guest's memory
pub vhosts_lie_with : (guests : List (Option Guest)) (vhosts : List (Option Side)) (vhost : ℕ) (new : Side) → VhostsLie guests vhosts
    → IfSome (at guests new.vhost.guest) (λ g. IsIn g.memory.regions new) → VhostsLie guests (with_at vhost new vhosts)
vhosts_lie_with guests vhosts vhost new h lies k v e = elim (with_at_is vhost new vhosts k v e) [
  | inl t ↦ subst (λ (w : Side). IfSome (at guests w.vhost.guest) (λ (g : Guest). IsIn g.memory.regions w)) t.1 lies
  | inr t ↦ h k v t.1
]

-- one that stays where it was
pub stays_in : (guests : List (Option Guest)) (vhosts : List (Option Side)) (vhost : ℕ) (old new : Side) → VhostsLie guests vhosts
    → at vhosts vhost ≡ Some old → new.vhost.guest ≡ old.vhost.guest → StaysIn old new
    → IfSome (at guests new.vhost.guest) (λ g. IsIn g.memory.regions new)
stays_in guests vhosts vhost old new h there same stays =
    if_any (at guests new.vhost.guest) (λ (g : Guest). IsIn g.memory.regions new) (λ g at_.
    stays g.memory.regions (if_there (at guests old.vhost.guest) (λ (k : Guest). IsIn k.memory.regions old) g
    (ap (λ (n : ℕ). at guests n) (sym same) ∙ at_) (h vhost old there)))

-- one more operation
after_more : (t : Table) (xs : List Op) (y : Op) → after_all t (xs ++ y ∷ []) ≡ after (after_all t xs) y
after_more t [] y = refl
after_more t (z ∷ zs) y = after_more (after t z) zs y

pub table_more : (first : Table) (p : Published) (t : Told) → BeganAt first t → BeganAt first (told_more p t)
table_more first p t h =
    ap (λ (x : Table). after x p.op) h ∙ sym (after_more first (map (λ (q : Published). q.op) t.ops) p.op)
    ∙ ap (λ (l : List Op). after_all first l) (sym (map_push (λ (q : Published). q.op) t.ops p))

-- ---- what always holds

-- the same operations, files, guests and vhosts
pub held_same : (s : Setup) (x y : Shared) → x.ops ≡ y.ops → x.files ≡ y.files → x.guests ≡ y.guests → x.vhosts ≡ y.vhosts → IsHeld s x → IsHeld s y
held_same s x y ops files guests vhosts h = record {
  table = subst (λ (t : Told). BeganAt (opening_table s) t) ops h.table;
  frames = subst (λ (fs : List (Option Placed)). FilesAreSent s fs) files h.frames;
  vhosts = subst (λ (vs : List (Option Side)). VhostsLie y.guests vs) vhosts
      (subst (λ (gs : List (Option Guest)). VhostsLie gs x.vhosts) guests h.vhosts);
}

-- one more operation
pub held_told : (s : Setup) (x : Shared) (p : Published) → IsHeld s x → IsHeld s (record x { ops = told_more p x.ops })
held_told s x p h = record { table = table_more (opening_table s) p x.ops h.table; frames = h.frames; vhosts = h.vhosts }

-- one file changed
pub held_files : (s : Setup) (x : Shared) (file : ℕ) (new : Placed) → IsHeld s x → AreSent s new.frames
    → IsHeld s (record x { files = with_at file new x.files })
held_files s x file new h sent =
    record { table = h.table; frames = files_sent_with s x.files file new h.frames sent; vhosts = h.vhosts }

-- a guest whose memory keeps its regions
pub held_guest : (s : Setup) (x : Shared) (guest : ℕ) (old new : Guest) → IsHeld s x → at x.guests guest ≡ Some old
    → new.memory.regions ≡ old.memory.regions → IsHeld s (record x { guests = with_at guest new x.guests })
held_guest s x guest old new h there same =
    record { table = h.table; frames = h.frames; vhosts = guests_lie_with x.guests x.vhosts guest old new h.vhosts there same }

-- a vhost that lies in its guest's memory
pub held_vhost : (s : Setup) (x : Shared) (vhost : ℕ) (new : Side) → IsHeld s x
    → IfSome (at x.guests new.vhost.guest) (λ g. IsIn g.memory.regions new)
    → IsHeld s (record x { vhosts = with_at vhost new x.vhosts })
held_vhost s x vhost new h lies =
    record { table = h.table; frames = h.frames; vhosts = vhosts_lie_with x.guests x.vhosts vhost new h.vhosts lies }

-- one that stays where it was
pub held_vhost_stays : (s : Setup) (x : Shared) (vhost : ℕ) (old new : Side) → IsHeld s x → at x.vhosts vhost ≡ Some old
    → new.vhost.guest ≡ old.vhost.guest → StaysIn old new → IsHeld s (record x { vhosts = with_at vhost new x.vhosts })
held_vhost_stays s x vhost old new h there same stays =
    held_vhost s x vhost new h (stays_in x.guests x.vhosts vhost old new h.vhosts there same stays)

-- both: the vhost's guest keeps its regions, and the vhost lies in them
pub held_both : (s : Setup) (x : Shared) (vhost : ℕ) (old new : Side) (was is : Guest) → IsHeld s x → at x.vhosts vhost ≡ Some old
    → at x.guests old.vhost.guest ≡ Some was → new.vhost.guest ≡ old.vhost.guest → is.memory.regions ≡ was.memory.regions
    → IsIn was.memory.regions new
    → IsHeld s (record x { guests = with_at old.vhost.guest is x.guests; vhosts = with_at vhost new x.vhosts })
held_both s x vhost old new was is h there guest same regions lies =
    let guests : List (Option Guest) = with_at old.vhost.guest is x.guests in
    record {
      table = h.table;
      frames = h.frames;
      vhosts = vhosts_lie_with guests x.vhosts vhost new (guests_lie_with x.guests x.vhosts old.vhost.guest was is h.vhosts guest regions)
          (if_any (at guests new.vhost.guest) (λ (k : Guest). IsIn k.memory.regions new) (λ k at_.
          let here : at guests new.vhost.guest ≡ Some is =
          ap (λ (n : ℕ). at guests n) same ∙ with_at_here old.vhost.guest is was x.guests guest in
          subst (λ rs. IsIn rs new) (sym regions ∙ ap (λ (q : Guest). q.memory.regions) (some_same is k (sym here ∙ at_))) lies));
    }
