-- What an event does, by the look before it and what stands behind it

use Rattle.std.specs.Prelude.{List, drop}
use Rattle.link_model.specs.Notes.{Journal as Notes}
use Rattle.telling_model.specs.declared.standing.Standing.{Standing}
use Rattle.tell_passing.specs.declared.before.Before.{Before}
use Rattle.tell_journal.specs.Journal.{Deeds}

-- the cells that it put, and the notes behind it
abbrev pub deeds_in : Before → (put : List Standing) → Notes → Deeds
deeds_in before put notes = record {
  taken = before.taken;
  frames = drop before.made notes.frames;
  put = put;
  records = notes.records;
}
