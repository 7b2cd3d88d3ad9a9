-- This project's own: an actor that is lent out of all of them.
use Rattle.std.specs.Prelude.{ℕ, List}
use Rattle.std.specs.Borrow.{Fml, Lends, MutBor}
use Rattle.tap_world.specs.ByNumber.{with_nth}
use Rattle.core_actors.specs.Acting.{Acting}
use Rattle.core_actors.specs.contracts.actor.Actor as actor
use Rattle.core_actors.specs.contracts.actors.Actors as actors

-- r lends the actor of a number: what is last left there stands in its place, and all else stays
abbrev pub LendsActor : MutBor (List Acting) → ℕ → MutBor Acting → Fml
LendsActor s number r = Lends actors.the_row actor.the_row s r (λ a. with_nth number a s.now)
