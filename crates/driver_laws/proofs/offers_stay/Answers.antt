use Rattle.driver_laws.proofs.Stay.{offer_found, posts_offer, posts_leave, harvests_leave}
use Rattle.driver_laws.proofs.offers_stay.Goals as goal

pub returns-clause-found : goal.returns-clause-found
returns-clause-found c = offer_found (record {
  parts = c.range_laws.ensures.parts;
  fits = c.range_laws.ensures.fits;
  writes = c.write_laws.ensures.writes;
  desc = c.field_laws.ensures.desc;
})

pub returns-clause-posts : goal.returns-clause-posts
returns-clause-posts c = posts_offer (record {
  parts = c.range_laws.ensures.parts;
  fits = c.range_laws.ensures.fits;
  writes = c.write_laws.ensures.writes;
  desc = c.field_laws.ensures.desc;
})

pub returns-clause-others : goal.returns-clause-others
returns-clause-others c = posts_leave (record {
  parts = c.range_laws.ensures.parts;
  fits = c.range_laws.ensures.fits;
  writes = c.write_laws.ensures.writes;
  desc = c.field_laws.ensures.desc;
})

pub returns-clause-harvests : goal.returns-clause-harvests
returns-clause-harvests c = harvests_leave (record {
  parts = c.range_laws.ensures.parts;
  fits = c.range_laws.ensures.fits;
  writes = c.write_laws.ensures.writes;
  desc = c.field_laws.ensures.desc;
})
