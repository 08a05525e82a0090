-- What a meter holds of a world

use Rattle.world_model.specs.World.{Counts, World, counts_of}
use Rattle.world.specs.declared.counts.Meter.{Meter}

abbrev pub nothing_counted : Counts
nothing_counted = record { sent = 0; delivered = 0; dropped = 0; refused = 0; losses = 0; redirects = 0; switched = 0; chance = 0 }

abbrev pub reading_of : World → Meter
reading_of w = record { events = w.events; counts = counts_of w }
