use Rattle.driver_laws.proofs.Posts.{post_in_found, post_out_found}
use Rattle.driver_laws.proofs.Read.{post_read}
use Rattle.driver_laws.proofs.posts_are_found.Goals as goal

pub returns-clause-posted_in : goal.returns-clause-posted_in
returns-clause-posted_in c = post_in_found (record {
  parts = c.range_laws.ensures.parts;
  fits = c.range_laws.ensures.fits;
  writes = c.write_laws.ensures.writes;
  desc = c.field_laws.ensures.desc;
})

pub returns-clause-posted_out : goal.returns-clause-posted_out
returns-clause-posted_out c = post_out_found (record {
  parts = c.range_laws.ensures.parts;
  fits = c.range_laws.ensures.fits;
  writes = c.write_laws.ensures.writes;
  desc = c.field_laws.ensures.desc;
})

pub returns-clause-read : goal.returns-clause-read
returns-clause-read c = post_read c.byte_laws.ensures.looked_up c.write_laws.ensures.sound (record {
  parts = c.range_laws.ensures.parts;
  fits = c.range_laws.ensures.fits;
  writes = c.write_laws.ensures.writes;
  desc = c.field_laws.ensures.desc;
})
