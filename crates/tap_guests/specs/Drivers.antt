-- This project's own: a call of one driver, without the vhost around it.
use Rattle.std.specs.Prelude.{ℕ, ◌+◌, ◌==◌, List, length, Option, Some, None, option_map, if◌then◌else◌}
use Rattle.guest_mem.specs.Memory.{Contents}
use Rattle.vring_drive.specs.declared.error.PostErr.{PostErr}
use Rattle.vring_drive.specs.Books.{Books, chain_of, head_of, sent_out}
use Rattle.vring_drive.specs.Harvests.{harvested, harvested_in}
use Rattle.vring_drive.specs.Posts.{full_pieces, post_in_refusal, post_out_refusal, posted_in, posted_out}
use Rattle.tap_trace.specs.declared.answer.Answer.{Answer}
use Rattle.tap_trace.specs.declared.answer.Answer.TheVariants as answer
use Rattle.tap_world.specs.Guests.{Vhost}
use Rattle.tap_world.specs.StepControl.{harvest_told, post_told}

-- what a call leaves: the driver, where the ring has one, the memory, and its answer
pub record DriverCall : Type 0 where
  pub driver : Option Books
  pub memory : Contents
  pub answer : Answer

-- a ring without a driver has none after it
abbrev pub by_driver : Contents → (Books → Option DriverCall) → Option Books → Option DriverCall
by_driver m call None = Some (record { driver = None; memory = m; answer = answer.NoDriver })
by_driver m call (Some b) = call b

-- a chain of so many descriptors goes out, and the memory is this one after it; one that is refused leaves all as it is
abbrev pub posts_by : Option PostErr → ℕ → Contents → Contents → Books → Option DriverCall
posts_by (Some e) need after m b =
    option_map (λ x. record { driver = Some b; memory = m; answer = answer.Drive x }) (post_told e)
posts_by None need after m b = Some (record {
  driver = Some (sent_out need b);
  memory = after;
  answer = answer.Posted (head_of (chain_of need b));
})

abbrev pub posts_in : List ℕ → Contents → Books → Option DriverCall
posts_in lens m b = posts_by (post_in_refusal lens b) (length lens) (posted_in b lens m) m b

abbrev pub posts_out : List ℕ → Contents → Books → Option DriverCall
posts_out bytes m b =
    posts_by (post_out_refusal (length bytes) b) (full_pieces (length bytes) + 1) (posted_out b bytes m) m b

-- what came back is taken back
abbrev pub harvests_by : Contents → Books → Option DriverCall
harvests_by m b = Some (record {
  driver = Some (harvested m b).books;
  memory = harvested_in m b;
  answer = harvest_told (harvested m b);
})

-- the vhost with this driver of a ring, or none
abbrev pub set_driver : ℕ → Option Books → Vhost → Vhost
set_driver ring driver v = if ring == 0 then record v { rx_driver = driver } else record v { tx_driver = driver }
