-- What each event of a turn says where it ends it.
use Rattle.std.proofs.Common.{◌≡◌, ℕ, List, true, sym, true≢false}
use Rattle.scen_words.specs.declared.command.Command.{Command}
use Rattle.scen_words.specs.declared.command.Command.TheVariants as command
use Rattle.tap_world.specs.Setup.{Numbered, Setup}
use Rattle.tap_world.specs.World.{Doing, World}
use Rattle.tap_answers.specs.Laws.{is_turn}
use Rattle.tap_answers.proofs.Rows.{Says}
use Rattle.tap_answers.proofs.RxRows.{rx_turn_says}
use Rattle.tap_answers.proofs.TxRows.{tx_turn_says}

-- each event of a turn
pub turns_by : (s : Setup) (w u : World) (me low n : ℕ) (script : List Numbered) (d : Doing) (c : Command)
    → is_turn c ≡ true → Says s w u me low n script d c
turns_by s w u me low n script d (command.RxTurn vhost) is = rx_turn_says s w u me low n script vhost d
turns_by s w u me low n script d (command.TxTurn vhost) is = tx_turn_says s w u me low n script vhost d
turns_by s w u me low n script d c is = absurd (true≢false (sym is))
