-- the law is proved over definitions alone

use Rattle.law_unread_marks.proofs.Worlds.{events_alike, events_told, runs_alike, marks_taken}
use Rattle.law_unread_marks.proofs.marks_are_unread.Goals as goal

pub returns : goal.returns
returns c = record { events = events_alike; told = events_told; runs = runs_alike; taken = marks_taken }
