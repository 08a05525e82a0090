use Rattle.law_shown_cells.proofs.Made.{shows_more}
use Rattle.law_shown_cells.proofs.Frames.{frame_says, frame_quiet, frame_elsewhere}
use Rattle.law_shown_cells.proofs.frames_are_shown.Goals as goal

pub returns : goal.returns
returns c = record {
  growth = λ place by link old new cells words h s. shows_more place by link h s;
  message = λ place by link frames mark payload message e. frame_says place by link frames mark payload message e;
  quiet = λ place by link frames mark payload e. frame_quiet place by link frames mark payload e;
  elsewhere = λ place by link frames channel mark payload n m. frame_elsewhere place by link frames channel mark payload n m;
}
