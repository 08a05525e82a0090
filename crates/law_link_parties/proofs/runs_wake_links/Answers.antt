-- the laws that are called, put together

use Rattle.law_link_parties.proofs.runs_wake_links.Goals as goal

pub returns : goal.returns
returns c = record { wake = c.links_wake.ensures.wake c.links_are_given.ensures.given }
