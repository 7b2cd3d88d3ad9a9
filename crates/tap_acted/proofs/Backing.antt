-- A backend's command that comes to its ring is one act.
use Rattle.std.proofs.Common.{◌≡◌, ℕ, Bool, true, Option, Some, None, refl, ap, ◌∙◌}
use Rattle.std.specs.Prelude.{◌==◌, ◌&&◌, find, is_none, option_map}
use Rattle.guest_mem.specs.Memory.{Contents}
use Rattle.tap_steer.specs.Table.{Table}
use Rattle.tap_ground.specs.Options.{only_if}
use Rattle.tap_world.specs.ByNumber.{at}
use Rattle.tap_world.specs.Guests.{Vhost, is_ring, turn_of}
use Rattle.tap_world.specs.World as world
use Rattle.tap_legal.specs.Lookups.{table_at}
use Rattle.tap_legal.specs.Replay.{Under, back_wanted}
use Rattle.tap_legal.specs.ReplayTurns.{is_under_on}
use Rattle.tap_sights.specs.Acts.{backed}
use Rattle.tap_sound.proofs.Kit.{some_then}
use Rattle.tap_acted.specs.Laws.{BacksAreActs}
use Rattle.tap_acted.specs.Standing.{held_by, if_on}
use Rattle.tap_acted.proofs.Callings.{no_turn, ring_less}
use Rattle.tap_acted.proofs.Turning.{found}

-- who holds the turns isn't looked at
held_wanted : (vhost ring : ℕ) (file : Option ℕ) (v : Vhost) (m : Contents) (x : Table) (rx tx : Option ℕ)
    → back_wanted vhost ring file (held_by rx tx v) m x ≡ back_wanted vhost ring file v m x
held_wanted vhost ring None v m x rx tx = refl
held_wanted vhost ring (Some file) v m x rx tx = refl

pub back_acts : BacksAreActs
back_acts c s w guest g st t vhost ring file v seen wanted case less stands at_ on is free want =
    let f = found w guest g st vhost v stands at_ on in
    let low = ring_less ring is in
    let none : find (is_under_on vhost ring) st.under ≡ None =
    f.here.turns ring low ∙ ap (λ (o : Option Under). if_on guest v o) free ∙ no_turn vhost w.actors (v.guest == guest) in
    let idle : turn_of ring f.y ≡ None =
    f.here.held ring low ∙ ap (λ (o : Option Under). option_map (λ (u : Under). u.command) o) none in
    let ready : (is_ring ring && is_none (turn_of ring f.y)) ≡ true =
    ap (λ (b : Bool). b && is_none (turn_of ring f.y)) is ∙ ap (λ (o : Option ℕ). is_none o) idle in
    let wants : back_wanted vhost ring file f.y st.memory (table_at c seen) ≡ Some wanted =
    ap (λ (x : Table). back_wanted vhost ring file f.y st.memory x) (case.tables seen less)
    ∙ ap (λ (m : Contents). back_wanted vhost ring file f.y m (world.table_at s w seen)) stands.memory
    ∙ ap (λ (z : Vhost). back_wanted vhost ring file z g.memory (world.table_at s w seen)) f.like ∙ held_wanted vhost ring file v g.memory (world.table_at s w seen) f.y.rx_turn f.y.tx_turn ∙ want in (
      f.y,
      f.is,
      f.like,
      some_then (at st.vhosts vhost) _ f.y _ f.is (some_then (back_wanted vhost ring file f.y st.memory (table_at c seen)) _ wanted _ wants
          (ap (λ (b : Bool). only_if b (backed vhost ring file f.y st wanted)) ready)),
    )
