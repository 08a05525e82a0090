-- a frame that waits in a queue has its last cell there

use Rattle.std.proofs.Common.{List, [], ◌∷◌, ◌++◌, append_assoc, sym, ◌∙◌, ap}
use Rattle.world_model.specs.Words.{Cell, frame_cells}
use Rattle.law_run_facts.proofs.law_shown_cells.Frames.{IsCut, frame_is_cut}
use Rattle.law_live_hearing.specs.Law.{FramesWait}

pub frames_wait : FramesWait
frames_wait w place channel mark payload front after waits =
    let c : IsCut channel mark (frame_cells channel mark payload) = frame_is_cut channel mark payload in
    record {
      before = front ++ c.front;
      cell = c.final;
      after = after;
      is = waits ∙ (ap (λ (q : List Cell). front ++ (q ++ after)) c.whole
          ∙ (ap (λ (q : List Cell). front ++ q) (append_assoc c.front (c.final ∷ []) after) ∙ sym (append_assoc front c.front (c.final ∷ after))));
      last = c.last.1;
      own = c.last.2;
      on = c.last.0;
    }
