-- What is left of a command's events, by how far it has come.
use Rattle.std.proofs.Common.{◌≡◌, ℕ, suc, List, [], ◌∷◌, Bool, true, false, Some, None, inl, inr, ⊎_elim, refl}
use Rattle.vhost_queue.specs.Queue.{Queue}
use Rattle.vring_turns.specs.declared.end.End.{End}
use Rattle.vring_turns.specs.declared.end.End.TheVariants.{Again}
use Rattle.vring_turns.specs.declared.stage.After.{After}
use Rattle.vring_turns.specs.declared.stage.After.TheVariants as after
use Rattle.vring_turns.specs.declared.stage.RxStage.{RxStage}
use Rattle.vring_turns.specs.declared.stage.RxStage.TheVariants as rx
use Rattle.vring_turns.specs.declared.stage.TxStage.{TxStage}
use Rattle.vring_turns.specs.declared.stage.TxStage.TheVariants as tx
use Rattle.vring_turns.specs.Ring.{done_in}
use Rattle.vring_turns.specs.RxTurn.{RxTurn, rx_after_packet, rx_closing, stage_of}
use Rattle.vring_turns.specs.TxTurn.{TxTurn, tx_after_packet, tx_closing}
use Rattle.vring_turns.specs.Turn.{is_enough, publishes_at}
use Rattle.scen_words.specs.declared.command.Command.{Command}
use Rattle.scen_words.specs.declared.command.Command.TheVariants as command
use Rattle.std.specs.Prelude.{if◌then◌else◌, nat_le, ◌==◌}
use Rattle.tap_world.specs.declared.event.EventKind.{EventKind}
use Rattle.tap_world.specs.declared.event.EventKind.TheVariants.{Copy, Drive, Fetch, Hand, HostIn, Look, Notices, Out, Owner, Publish, PublishUsed, PutBack, Ready, Resize, Shut}
use Rattle.tap_world.specs.Grammar.{Grammar, HasForm, Lists, Perhaps, Some_of, Spells}
use Rattle.tap_world.specs.Grammar.Grammar.{Many, Nothing, One, ◌⨾◌, ◌or◌}
use Rattle.tap_world.specs.Commands.{attach, backing, chain, chains, detach, finds, finds_nothing, form_of, frames, hosting, published, purge, route, setting, shrink, taking}
use Rattle.tap_world.specs.World.{Doing}
use Rattle.tap_world.specs.World.Doing.{Backed, Backs, Begun, Changes, Disowned, Given, Hosts, Learns, Opened, Opens, Owns, Placed, Purges, Reads, Receives, Released, Resizes, Routed, Shrinks, Teaches, Transmits, Unbacked, Withdrawn, Withdraws}
use Rattle.tap_sound.proofs.Forms.{distributes, pulls, some_many, weaken}

-- ---- a receive turn

abbrev pub more_frames : Grammar
more_frames = frames or Nothing

abbrev pub leaving : Grammar
leaving = Perhaps (One Copy) ⨾ One Out ⨾ published ⨾ more_frames

abbrev pub giving_up : Grammar
giving_up = One PutBack ⨾ published

abbrev pub fetching : Grammar
fetching = Some_of finds ⨾ leaving or Many finds ⨾ (finds or finds_nothing) ⨾ giving_up

abbrev pub found : Grammar
found = Many finds ⨾ leaving or giving_up or Many finds ⨾ (finds or finds_nothing) ⨾ giving_up

abbrev pub rx_left : RxStage → Grammar
rx_left rx.Begin = One Notices ⨾ frames
rx_left rx.Hand = frames
rx_left rx.Fetch = fetching
rx_left rx.NoticesOn = One Notices ⨾ One Fetch ⨾ (One Notices ⨾ found or giving_up)
rx_left rx.FetchAgain = One Fetch ⨾ (One Notices ⨾ found or giving_up)
rx_left (rx.NoticesOff way) = One Notices ⨾ found
rx_left rx.Copy = One Copy ⨾ One Out ⨾ published ⨾ more_frames
rx_left rx.Out = One Out ⨾ published ⨾ more_frames
rx_left (rx.Discard had) = One Out ⨾ published ⨾ more_frames
rx_left (rx.PutBack e) = giving_up
rx_left (rx.Publish None) = One PublishUsed ⨾ frames
rx_left (rx.Publish (Some e)) = One PublishUsed
rx_left (rx.Ended e) = Nothing

abbrev Empty : Lists
Empty es = es ≡ []

pub rx_closes : (e : End) (q : Queue) (es : List EventKind) → HasForm (rx_left (rx_closing e q)) es → HasForm published es
rx_closes e q es h = go (done_in q == 0) h
  where
    go : (b : Bool) → HasForm (rx_left (if b then rx.Ended e else rx.Publish (Some e))) es → HasForm published es
    go true x = inl x
    go false x = inr x

pub rx_packet : (t : RxTurn) (q : Queue) (es : List EventKind) → HasForm (rx_left (rx_after_packet t q)) es → HasForm (published ⨾ more_frames) es
rx_packet t q es h = go (is_enough t.packets t.bytes t.handled) (nat_le publishes_at (done_in q)) h
  where
    go : (b d : Bool) → HasForm (rx_left (if b then rx_closing Again q else if d then rx.Publish None else rx.Hand)) es → HasForm (published ⨾ more_frames) es
    go true d x = weaken published Empty (Spells more_frames Empty) (λ ds y. inr y) es (rx_closes Again q es x)
    go false true x = inr (weaken (One PublishUsed) (Spells frames Empty) (Spells more_frames Empty) (λ ds y. inl y) es x)
    go false false x = inl (inl x)

pub rx_goes_way : (way : After) (es : List EventKind) → HasForm (rx_left (stage_of way)) es → HasForm found es
rx_goes_way after.Fetch es h = ⊎_elim (λ x. inl (some_many finds (Spells leaving Empty) es x)) (λ x. inr (inr x)) h
rx_goes_way after.Copy es h = inl (0, inr h)
rx_goes_way (after.Discard had) es h = inl (0, inl h)
rx_goes_way (after.PutBack e) es h = inr (inl h)

pub rx_finds : (es : List EventKind) → Spells finds (HasForm found) es → HasForm fetching es
rx_finds es h = ⊎_elim (λ x. inl x)
    (λ x. ⊎_elim (λ y. inr (0, inl y)) (λ y. inr (some_many finds (Spells ((finds or finds_nothing) ⨾ giving_up) Empty) es y))
    (distributes finds (HasForm giving_up) (HasForm (Many finds ⨾ (finds or finds_nothing) ⨾ giving_up)) es x))
    (distributes finds (HasForm (Many finds ⨾ leaving)) (HasForm (giving_up or Many finds ⨾ (finds or finds_nothing) ⨾ giving_up)) es h)

pub rx_notices : (es : List EventKind) → HasForm (rx_left rx.NoticesOn) es → HasForm fetching (Fetch ∷ es)
rx_notices es h = ⊎_elim (λ x. rx_finds (Fetch ∷ es) (inr x)) (λ x. inr (0, inr x))
    (distributes finds_nothing (HasForm (One Notices ⨾ found)) (HasForm giving_up) (Fetch ∷ es) (refl, h))

pub rx_takes : (es : List EventKind) → HasForm fetching es → HasForm frames (Hand ∷ es)
rx_takes es h = ⊎_elim leaves_ (λ x. (0, inr (inr (refl, x)))) h
  where
    leaves_ : HasForm (Some_of finds ⨾ leaving) es → HasForm frames (Hand ∷ es)
    leaves_ x = ⊎_elim
        (λ y. let r = pulls (Some_of finds ⨾ Perhaps (One Copy) ⨾ One Out ⨾ published) ℕ _ es y in (suc r.0, (refl, r.1)))
        (λ y. (0, inl (refl, y)))
        (distributes (Some_of finds ⨾ Perhaps (One Copy) ⨾ One Out ⨾ published) (HasForm frames) Empty es x)

-- ---- a transmit turn

abbrev pub more_chains : Grammar
more_chains = chains or Nothing

abbrev pub judged : Grammar
judged = Perhaps (One HostIn ⨾ One Look ⨾ Perhaps (One Publish)) ⨾ published ⨾ more_chains

abbrev pub tx_found : Grammar
tx_found = One Copy ⨾ judged or published

abbrev pub tx_left : TxStage → Grammar
tx_left tx.Begin = One Notices ⨾ chains
tx_left tx.Fetch = chains
tx_left tx.NoticesOn = One Notices ⨾ One Fetch ⨾ (One Notices ⨾ tx_found or published)
tx_left tx.FetchAgain = One Fetch ⨾ (One Notices ⨾ tx_found or published)
tx_left (tx.NoticesOff fault) = One Notices ⨾ tx_found
tx_left tx.Copy = One Copy ⨾ judged
tx_left tx.Give = One HostIn ⨾ One Look ⨾ Perhaps (One Publish) ⨾ published ⨾ more_chains
tx_left (tx.Publish None) = One PublishUsed ⨾ chains
tx_left (tx.Publish (Some e)) = One PublishUsed
tx_left (tx.Ended e) = Nothing

pub tx_closes : (e : End) (q : Queue) (es : List EventKind) → HasForm (tx_left (tx_closing e q)) es → HasForm published es
tx_closes e q es h = go (done_in q == 0) h
  where
    go : (b : Bool) → HasForm (tx_left (if b then tx.Ended e else tx.Publish (Some e))) es → HasForm published es
    go true x = inl x
    go false x = inr x

pub tx_packet : (t : TxTurn) (q : Queue) (es : List EventKind) → HasForm (tx_left (tx_after_packet t q)) es → HasForm (published ⨾ more_chains) es
tx_packet t q es h = go (is_enough t.packets t.bytes t.packets) (nat_le publishes_at (done_in q)) h
  where
    go : (b d : Bool) → HasForm (tx_left (if b then tx_closing Again q else if d then tx.Publish None else tx.Fetch)) es → HasForm (published ⨾ more_chains) es
    go true d x = weaken published Empty (Spells more_chains Empty) (λ ds y. inr y) es (tx_closes Again q es x)
    go false true x = inr (weaken (One PublishUsed) (Spells chains Empty) (Spells more_chains Empty) (λ ds y. inl y) es x)
    go false false x = inl (inl x)

pub tx_finds : (es : List EventKind) → Spells finds (HasForm tx_found) es → HasForm chains es
tx_finds es h = ⊎_elim more (λ x. (0, inr (inl x))) (distributes finds (HasForm (One Copy ⨾ judged)) (HasForm published) es h)
  where
    more : Spells finds (HasForm (One Copy ⨾ judged)) es → HasForm chains es
    more x = ⊎_elim (λ y. let r = pulls chain ℕ _ es y in (suc r.0, r.1)) (λ y. (0, inl y))
        (distributes chain (HasForm chains) Empty es x)

pub tx_notices : (es : List EventKind) → HasForm (tx_left tx.NoticesOn) es → HasForm chains (Fetch ∷ es)
tx_notices es h = ⊎_elim (λ x. tx_finds (Fetch ∷ es) (inr x)) (λ x. (0, inr (inr x)))
    (distributes finds_nothing (HasForm (One Notices ⨾ tx_found)) (HasForm published) (Fetch ∷ es) (refl, h))

-- ---- commands

abbrev pub left_of : Doing → Command → Grammar
left_of Begun c = form_of c
left_of Changes c = One Publish
left_of (Opens file) c = attach
left_of (Opened file) c = One Publish
left_of (Withdraws file) c = detach
left_of (Withdrawn file version) c = One Shut ⨾ purge
left_of (Purges file version) c = purge
left_of (Resizes file capacity) c = One Resize ⨾ shrink
left_of (Shrinks file claimed cuts) c = shrink
left_of (Routed file epoch len) c = route
left_of (Placed file place epoch len) c = One Ready
left_of (Reads file room front) c = taking
left_of (Hosts file ether learns) c = hosting
left_of (Learns file ether) c = One Publish
left_of (Backs refusal) (command.Backend vhost ring file) = One Drive ⨾ Perhaps (backing ring file)
left_of (Backed other) (command.Backend vhost ring file) = setting ring
left_of (Owns file version) c = One Owner
left_of (Unbacked file) c = One Owner ⨾ One Publish
left_of (Disowned file) c = One Publish
left_of (Released file) c = One Publish
left_of (Receives file t) c = rx_left t.stage
left_of (Transmits file t told) c = tx_left t.stage
left_of (Given file t told f) (command.TxTurn vhost) = One Look ⨾ Perhaps (One Publish) ⨾ tx_left t.stage
left_of (Given file t told f) (command.RxTurn vhost) = One Look ⨾ Perhaps (One Publish) ⨾ tx_left t.stage
left_of (Given file t told f) c = form_of c
left_of (Teaches file t told f) c = One Publish ⨾ tx_left t.stage
left_of d c = Nothing
