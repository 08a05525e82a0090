-- What a port keeps in a run, as links that wake ask it, and what holds by it

pub use Rattle.law_link_met.specs.law_link_woken.Given.{TicksKeepTheirs, CarriesKeepTheirs, Given}
pub use Rattle.law_link_met.specs.law_link_woken.Law.{RunsWakeLinks}
pub use Rattle.law_link_met.specs.Law.{RunsKeepLinksMet, RunsKeepLinksUp}
