-- What is left of a command's events can always be done.
use Rattle.std.proofs.Common.{List, [], ◌∷◌, Bool, true, false, Some, None, inl, inr, refl}
use Rattle.std.specs.Prelude.{◌==◌, if◌then◌else◌}
use Rattle.vring_turns.specs.declared.stage.RxStage.{RxStage}
use Rattle.vring_turns.specs.declared.stage.RxStage.TheVariants as rx
use Rattle.vring_turns.specs.declared.stage.TxStage.{TxStage}
use Rattle.vring_turns.specs.declared.stage.TxStage.TheVariants as tx
use Rattle.scen_words.specs.declared.command.Command.{Command}
use Rattle.scen_words.specs.declared.command.Command.TheVariants as command
use Rattle.tap_world.specs.declared.event.EventKind.{EventKind}
use Rattle.tap_world.specs.declared.event.EventKind.TheVariants as event
use Rattle.tap_world.specs.Grammar.{Grammar, HasForm}
use Rattle.tap_world.specs.Grammar.Grammar.{Nothing, One, ◌⨾◌}
use Rattle.tap_world.specs.Commands.{form_of}
use Rattle.tap_world.specs.World.{Doing}
use Rattle.tap_world.specs.World.Doing.{Backed, Backs, Begun, Changes, Disowned, Given, Hosts, Learns, Opened, Opens, Owns, Placed, Purges, Reads, Receives, Released, Resizes, Routed, Shrinks, Teaches, Transmits, Unbacked, Withdrawn, Withdraws}
use Rattle.tap_sound.proofs.Left.{left_of, rx_left, tx_left}

abbrev pub Way : Grammar → Type 0
Way g = (es : List EventKind) × HasForm g es

rx_way : (st : RxStage) → Way (rx_left st)
rx_way rx.Begin = (event.Notices ∷ event.NotReady ∷ [], (refl, (0, inr (inl (refl, inl refl)))))
rx_way rx.Hand = (event.NotReady ∷ [], (0, inr (inl (refl, inl refl))))
rx_way rx.Fetch = (event.Fetch ∷ event.PutBack ∷ [], inr (0, inl (inl (refl, (refl, inl refl)))))
rx_way rx.NoticesOn = (event.Notices ∷ event.Fetch ∷ event.PutBack ∷ [], (refl, (refl, inr (refl, inl refl))))
rx_way rx.FetchAgain = (event.Fetch ∷ event.PutBack ∷ [], (refl, inr (refl, inl refl)))
rx_way (rx.NoticesOff way) = (event.Notices ∷ event.PutBack ∷ [], (refl, inr (inl (refl, inl refl))))
rx_way rx.Copy = (event.Copy ∷ event.Out ∷ [], (refl, (refl, inl (inr refl))))
rx_way rx.Out = (event.Out ∷ [], (refl, inl (inr refl)))
rx_way (rx.Discard had) = (event.Out ∷ [], (refl, inl (inr refl)))
rx_way (rx.PutBack e) = (event.PutBack ∷ [], (refl, inl refl))
rx_way (rx.Publish None) = (event.PublishUsed ∷ event.NotReady ∷ [], (refl, (0, inr (inl (refl, inl refl)))))
rx_way (rx.Publish (Some e)) = (event.PublishUsed ∷ [], (refl, refl))
rx_way (rx.Ended e) = ([], refl)

tx_way : (st : TxStage) → Way (tx_left st)
tx_way tx.Begin = (event.Notices ∷ event.Fetch ∷ [], (refl, (0, inr (inl (inl (refl, inl refl))))))
tx_way tx.Fetch = (event.Fetch ∷ [], (0, inr (inl (inl (refl, inl refl)))))
tx_way tx.NoticesOn = (event.Notices ∷ event.Fetch ∷ [], (refl, (refl, inr (inl refl))))
tx_way tx.FetchAgain = (event.Fetch ∷ [], (refl, inr (inl refl)))
tx_way (tx.NoticesOff fault) = (event.Notices ∷ [], (refl, inr (inl refl)))
tx_way tx.Copy = (event.Copy ∷ [], (refl, inl (inl (inr refl))))
tx_way tx.Give = (event.HostIn ∷ event.Look ∷ [], (refl, (refl, inl (inl (inr refl)))))
tx_way (tx.Publish None) = (event.PublishUsed ∷ event.Fetch ∷ [], (refl, (0, inr (inl (inl (refl, inl refl))))))
tx_way (tx.Publish (Some e)) = (event.PublishUsed ∷ [], (refl, refl))
tx_way (tx.Ended e) = ([], refl)

form_way : (c : Command) → Way (form_of c)
form_way (command.Backend vhost ring file) = (event.Look ∷ event.Drive ∷ [], (refl, (refl, inl refl)))
form_way (command.RxTurn vhost) = (event.Owner ∷ [], inl (refl, refl))
form_way (command.TxTurn vhost) = (event.Owner ∷ [], inl (refl, refl))
form_way (command.Poke guest addr bytes) = (event.Poke ∷ [], (refl, refl))
form_way (command.Peek guest addr len) = (event.Peek ∷ [], (refl, refl))
form_way (command.SetIff file name flags) = (event.Look ∷ [], (refl, inl refl))
form_way (command.SetQueue file flags) = (event.Look ∷ [], (refl, inl refl))
form_way (command.Close file) = (event.Look ∷ [], (refl, inl refl))
form_way (command.Resize file capacity) = (event.Look ∷ [], (refl, inl refl))
form_way (command.Persist file on) = (event.Look ∷ [], (refl, inl refl))
form_way (command.HdrSize file size) = (event.Look ∷ [], (refl, inl refl))
form_way (command.Steer file program) = (event.Look ∷ [], (refl, inl refl))
form_way (command.Filter file program) = (event.Look ∷ [], (refl, inl refl))
form_way (command.Tick now) = (event.Look ∷ [], (refl, inl refl))
form_way (command.Send device hdr bytes) = (event.Look ∷ [], (refl, inl refl))
form_way (command.Read file room) = (event.Look ∷ [], (refl, inl refl))
form_way (command.Write file bytes) = (event.Look ∷ [], (refl, inl refl))
form_way c = (event.Drive ∷ [], (refl, refl))

setting_way : (b : Bool) → Way (One event.Publish ⨾ (if b then One event.Owner else Nothing))
setting_way true = (event.Publish ∷ event.Owner ∷ [], (refl, (refl, refl)))
setting_way false = (event.Publish ∷ [], (refl, refl))

-- behind an event
behind : (k : EventKind) (g : Grammar) → Way g → Way (One k ⨾ g)
behind k g h = (k ∷ h.0, (refl, h.1))

pub way : (d : Doing) (c : Command) → Way (left_of d c)
way Begun c = form_way c
way Changes c = (event.Publish ∷ [], (refl, refl))
way (Opens file) c = (event.Reopen ∷ event.Publish ∷ [], (refl, (refl, refl)))
way (Opened file) c = (event.Publish ∷ [], (refl, refl))
way (Withdraws file) c = (event.Publish ∷ event.Shut ∷ [], (refl, (refl, (0, refl))))
way (Withdrawn file version) c = (event.Shut ∷ [], (refl, (0, refl)))
way (Purges file version) c = ([], (0, refl))
way (Resizes file capacity) c = (event.Resize ∷ event.Publish ∷ [], (refl, (0, (refl, refl))))
way (Shrinks file claimed cuts) c = (event.Publish ∷ [], (0, (refl, refl)))
way (Routed file epoch len) c = (event.Gone ∷ [], inl (refl, refl))
way (Placed file place epoch len) c = (event.Ready ∷ [], (refl, refl))
way (Reads file room front) c = (event.Owner ∷ [], (0, inl (refl, refl)))
way (Hosts file ether learns) c = (event.HostIn ∷ [], (refl, inl refl))
way (Learns file ether) c = (event.Publish ∷ [], (refl, refl))
way (Backs refusal) (command.Backend vhost ring file) = (event.Drive ∷ [], (refl, inl refl))
way (Backs refusal) c = ([], refl)
way (Backed other) (command.Backend vhost ring file) = setting_way (ring == 0)
way (Backed other) c = ([], refl)
way (Owns file version) c = (event.Owner ∷ [], (refl, refl))
way (Unbacked file) c = (event.Owner ∷ event.Publish ∷ [], (refl, (refl, refl)))
way (Disowned file) c = (event.Publish ∷ [], (refl, refl))
way (Released file) c = (event.Publish ∷ [], (refl, refl))
way (Receives file t) c = rx_way t.stage
way (Transmits file t told) c = tx_way t.stage
way (Given file t told f) (command.TxTurn vhost) = (event.Look ∷ (tx_way t.stage).0, (refl, inl (tx_way t.stage).1))
way (Given file t told f) (command.RxTurn vhost) = (event.Look ∷ (tx_way t.stage).0, (refl, inl (tx_way t.stage).1))
way (Given file t told f) c = form_way c
way (Teaches file t told f) c = behind event.Publish (tx_left t.stage) (tx_way t.stage)
