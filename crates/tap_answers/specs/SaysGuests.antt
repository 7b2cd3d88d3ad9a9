-- This project's own: what the answers of pokes, peeks, and the calls of a vhost and its drivers say of the worlds
-- before and after their event. Nothing is seen of the table: SEEN is what the actor had seen before.
use Rattle.std.specs.Prelude.{◌≡◌, ℕ, true, List, length, Some}
use Rattle.guest_mem.specs.Memory.{first_bad}
use Rattle.scen_words.specs.declared.command.Command.{Command}
use Rattle.tap_trace.specs.declared.answer.Answer.{Answer}
use Rattle.tap_world.specs.ByNumber.{at, with_at}
use Rattle.tap_world.specs.Guests.{Guest, Vhost}
use Rattle.tap_world.specs.StepControl.{Call, call_of, driven_vhost, may_call, peeked, poke_told}
use Rattle.tap_answers.specs.SaysShared.{IsKnown, Occasion}

-- a poke is done, or tells the first address that isn't in the guest's memory
pub record PokeSays (o : Occasion) (guest addr : ℕ) (bytes : List ℕ) (seen : ℕ) (x : Answer) : Type 0 where
  pub known : IsKnown o seen
  pub g : Guest
  pub is_guest : at o.before.guests guest ≡ Some g
  pub told : x ≡ poke_told (first_bad g.memory.regions addr (length bytes))

-- a peek tells the bytes, or that address
pub record PeekSays (o : Occasion) (guest addr len seen : ℕ) (x : Answer) : Type 0 where
  pub known : IsKnown o seen
  pub g : Guest
  pub is_guest : at o.before.guests guest ≡ Some g
  pub told : x ≡ peeked addr len g.memory (first_bad g.memory.regions addr len)

-- A call that may be made tells what it is by the vhost's settings and drivers and its guest's memory, and makes of the
-- vhost what it is by them.
pub record CallSays (o : Occasion) (c : Command) (seen : ℕ) (x : Answer) : Type 0 where
  pub known : IsKnown o seen
  pub vhost : ℕ
  pub is_its : driven_vhost c ≡ Some vhost
  pub v : Vhost
  pub is_vhost : at o.before.vhosts vhost ≡ Some v
  pub g : Guest
  pub is_guest : at o.before.guests v.guest ≡ Some g
  pub call : Call
  pub is_call : call_of c v g.memory ≡ Some call
  pub may : may_call o.actor c v ≡ true
  pub told : x ≡ call.answer
  pub left : o.after.vhosts ≡ with_at vhost call.vhost o.before.vhosts
