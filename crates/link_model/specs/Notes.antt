-- the notes of a run

use Rattle.std.specs.Prelude.{List, [], ◌∷◌, ◌++◌}
use Rattle.link_model.specs.declared.entries.Entry.{Entry}
use Rattle.link_model.specs.declared.frames.Frame.{Frame}
use Rattle.link_model.specs.declared.record.Record.{Record}
use Rattle.link_model.specs.declared.record.Record.TheVariants.{Loss}
use Rattle.link_model.specs.Ledger.{Books}

-- the records since they were last cleared, and the entries and frames of the whole run
pub record Journal : Type 0 where
  pub records : List Record
  pub entries : List Entry
  pub frames : List Frame

-- the entries that the records of losses stand for
abbrev pub losses_of : List Record → List Entry
losses_of [] = []
losses_of (Loss mark cause ∷ records) = record { mark = mark; cause = cause } ∷ losses_of records
losses_of (_ ∷ records) = losses_of records

-- the notes after one more record
abbrev pub noted : Journal → Record → Journal
noted notes item = record { records = notes.records ++ item ∷ []; entries = notes.entries ++ losses_of (item ∷ []); frames = notes.frames }

-- the ledger in the notes
abbrev pub books_of : Journal → Books
books_of notes = record { entries = notes.entries; frames = notes.frames }
