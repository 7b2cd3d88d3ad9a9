-- Each actor with a command has a next event, which is allowed exactly where it may go on.
use Rattle.std.proofs.Common.{◌≡◌, ℕ, List, Bool, true, false, refl, ◌∙◌}
use Rattle.vring_turns.specs.Ready.{TransmitTurnsGoOn}
use Rattle.scen_words.specs.Commands.{is_turn}
use Rattle.scen_words.specs.declared.command.Command.{Command}
use Rattle.scen_words.specs.declared.command.Command.TheVariants as command
use Rattle.tap_world.specs.Setup.{Numbered, Setup}
use Rattle.tap_world.specs.World.{Doing, World}
use Rattle.tap_world.specs.World.Doing.{Backed, Backs, Begun, Changes, Disowned, Given, Hosts, Learns, Opened, Opens, Owns, Placed, Purges, Reads, Receives, Released, Resizes, Routed, Shrinks, Teaches, Transmits, Unbacked, Withdrawn, Withdraws}
use Rattle.tap_world.specs.Sound.{IsSound}
use Rattle.tap_world.specs.Steady.{IsSteady}
use Rattle.tap_waits.specs.Next.{EachHasNext, HasNewNames, NextIsAllowed}
use Rattle.tap_waits.proofs.Kit.{allowed_is}
use Rattle.tap_waits.proofs.NextFacts.{Goes, Here, can}
use Rattle.tap_waits.proofs.NextBegun.{begun_goes}
use Rattle.tap_waits.proofs.NextControl.{changes_goes, opened_goes, opens_goes, purges_goes, resizes_goes, shrinks_goes, withdrawn_goes, withdraws_goes}
use Rattle.tap_waits.proofs.NextRing.{given_goes, hosts_goes, learns_goes, placed_goes, reads_goes, routed_goes, teaches_goes}
use Rattle.tap_waits.proofs.NextBack.{backed_goes, backs_goes, disowned_goes, owns_goes, released_goes, unbacked_goes}
use Rattle.tap_waits.proofs.NextTurns.{rx_turn_begins, tx_turn_begins}
use Rattle.tap_waits.proofs.NextReceives.{receives_goes}
use Rattle.tap_waits.proofs.NextTransmits.{transmits_goes}

module _ (law : TransmitTurnsGoOn) (s : Setup) (w : World) (i seen : ℕ) (script : List Numbered) (n : ℕ) where
  begins : (c : Command) → Here s w i seen script n c Begun → (b : Bool) → is_turn c ≡ b
      → Goes s w i seen script n c Begun
  begins (command.RxTurn vhost) h b e = rx_turn_begins s w i seen script n vhost h
  begins (command.TxTurn vhost) h b e = tx_turn_begins s w i seen script n vhost h
  begins c h false e = begun_goes s w i seen script n c h e
  begins c h true e = absurd (cc (e))

  pub goes : (c : Command) (d : Doing) → Here s w i seen script n c d → Goes s w i seen script n c d
  goes c Begun h = begins c h (is_turn c) refl
  goes c Changes h = changes_goes c h (can h)
  goes c (Opens file) h = opens_goes c file h
  goes c (Opened file) h = opened_goes c file h (can h)
  goes c (Withdraws file) h = withdraws_goes c file h (can h)
  goes c (Withdrawn file version) h = withdrawn_goes c file version h
  goes c (Purges file version) h = purges_goes c file version h
  goes c (Resizes file capacity) h = resizes_goes c file capacity h
  goes c (Shrinks file places made) h = shrinks_goes c file places made h
  goes c (Routed file epoch len) h = routed_goes s w i seen script n c file epoch len h
  goes c (Placed file place epoch len) h = placed_goes s w i seen script n c file place epoch len h
  goes c (Reads file room front) h = reads_goes s w i seen script n c file room front h (can h)
  goes c (Hosts file ether learns) h = hosts_goes s w i seen script n c file ether learns
  goes c (Learns file ether) h = learns_goes s w i seen script n c file ether (can h)
  goes c (Backs refusal) h = backs_goes s w i seen script n c refusal h (can h)
  goes c (Backed file) h = backed_goes s w i seen script n c file h (can h)
  goes c (Owns file version) h = owns_goes s w i seen script n c file version h (can h)
  goes c (Unbacked file) h = unbacked_goes s w i seen script n c file h (can h)
  goes c (Disowned file) h = disowned_goes s w i seen script n c file h (can h)
  goes c (Released file) h = released_goes s w i seen script n c file h (can h)
  goes c (Receives file t) h = receives_goes c file t h (can h)
  goes c (Transmits file t chains) h = transmits_goes law c file t chains h (can h)
  goes c (Given file t chains frame) h = given_goes s w i seen script n c file t chains frame (can h)
  goes c (Teaches file t chains frame) h = teaches_goes s w i seen script n c file t chains frame (can h)

pub each_has_next : TransmitTurnsGoOn → (s : Setup) (w : World) → HasNewNames s w → IsSound s w → IsSteady s w
    → EachHasNext s w
each_has_next law s w new sound steady i a c found now =
    let h : Here s w i a.seen a.script c.number c.command a.doing =
    record { found = found; now = now; sound = sound; steady = steady } in
    let it = goes law s w i a.seen a.script c.number c.command a.doing h in
    record {
      kind = it.kind;
      is_next = it.is_next;
      allowed = allowed_is s w i a c it.kind new found now it.is_next ∙ it.done;
    }

pub next_is_allowed : TransmitTurnsGoOn → NextIsAllowed
next_is_allowed law s w new sound steady = each_has_next law s w new sound steady
