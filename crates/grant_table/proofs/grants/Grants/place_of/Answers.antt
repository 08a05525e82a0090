use Rattle.grant_table.proofs.Places.{place_some, place_none}
use Rattle.grant_table.proofs.grants.Grants.place_of.Goals as goal

pub returns-clause-some : goal.returns-clause-some
returns-clause-some c =
    rw (← c.self.view_is, c.place_of.ensures, c.deref.ensures.value) (place_some c.args.label c.self.inside.held.items)

pub returns-clause-none : goal.returns-clause-none
returns-clause-none c =
    rw (← c.self.view_is, c.place_of.ensures, c.deref.ensures.value) (place_none c.args.label c.self.inside.held.items)
