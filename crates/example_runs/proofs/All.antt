-- All that a run from text to text and a verdict compute with: a proof that says `unfolding all` opens it.
use Rattle.std.specs.Prelude.{ℕ}
use Rattle.hex.specs.Hex as hex
use Rattle.std.specs.Fmt as fmt
use Rattle.guest_mem.specs.Blocks as blocks
use Rattle.guest_mem.specs.Memory as memory
use Rattle.vring_split.specs.Split as split
use Rattle.vring_walk.specs.Chain as chain
use Rattle.vring_walk.specs.Fetch as fetch
use Rattle.vring_walk.specs.Fetched as fetched
use Rattle.vhost_queue.specs.Publication as publication
use Rattle.vring_drive.specs.Harvests as harvests
use Rattle.vring_drive.specs.Posts as posts
use Rattle.tap_flow_key.specs.FlowKey as flow_key
use Rattle.tap_steer.specs.After as after
use Rattle.tap_steer.specs.Rules as rules
use Rattle.tap_steer.specs.Select as select
use Rattle.tap_steer.specs.Table as table
use Rattle.text_fields.specs.Forms as forms
use Rattle.text_fields.specs.Hexadecimal as hexadecimal
use Rattle.text_fields.specs.Numbers as numbers
use Rattle.scen_words.specs.Commands as commands
use Rattle.scen_words.specs.Sentences as sentences
use Rattle.scen_words.specs.Words as words
use Rattle.scen_text.specs.Before as before
use Rattle.scen_text.specs.Refusals as refusals
use Rattle.scen_text.specs.Scenario as scenario
use Rattle.trace_causes.specs.Table as trace_causes_table
use Rattle.trace_words.specs.Places as places

unfoldable pub all : ℕ
unfolding hex.decode_pairs hex.encode_with fmt.digits lib.Count.ones blocks.bytes_of memory.is_there memory.look memory.gaps memory.first_bad memory.bytes_at memory.bytes_from memory.with_bytes memory.le16_at memory.with_le16 split.desc_of split.desc_bytes split.used_elem_of split.used_elem_bytes chain.desc_at fetch.avail_idx fetch.avail_head fetched.path_end fetched.path_from fetched.fetched publication.with_entries publication.published_in publication.wants_notice publication.noticed_at harvests.used_entry harvests.harvest_of posts.linked posts.filled posts.offered flow_key.key after.set_iff after.attach_queue after.detach_queue after.shut after.set_device after.learn after.tick after.back after.resize rules.set_iff_rules rules.attach_rules rules.detach_rules rules.refuse select.select table.first forms.values_under hexadecimal.bytes_of numbers.number_of commands.declaration_of commands.command_of commands.declaration_values commands.command_values sentences.version_of sentences.sentence sentences.plain_sentence sentences.actor_sentence sentences.fields_sentence sentences.sentence_of words.word_of before.number_among before.with_name before.names_of before.declarations_of before.is_started before.place_of before.command_count before.turn_count before.scripts_from before.phase_of before.at_last before.phases_of refusals.regions_of refusals.is_unknown refusals.passes_limit refusals.declaration_why refusals.command_why refusals.cause refusals.said_from refusals.said_of_lines refusals.said_of scenario.scenario_of trace_causes_table.word_in places.place_in
all = 0
