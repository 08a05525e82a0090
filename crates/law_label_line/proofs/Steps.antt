-- every move keeps the line, and so does every list of moves

use Rattle.std.proofs.Common.{ℕ, ◌<◌, false, List, [], ◌∷◌, refl, arith}
use Rattle.law_label_line.specs.Cells.{Downstream, Upstream, lost, from_last}
use Rattle.law_label_line.specs.Line.{Line, start}
use Rattle.law_label_line.specs.Moves.{Move, Switch, Pass, Reassemble, Lose, Split, Hear, Tick, Clear, Restart, SendOther, Wire, Bind, Refresh, Recall, RecallAgain, Quit, Free, TakeFrame, Start, Lend, Release, Expire, SendLabelled, SwitchLabelled, step, run}
use Rattle.law_label_line.proofs.Trip.{IsKept}
use Rattle.law_label_line.proofs.WaySteps.{parted_down, parted_up, switched_down, switched_up, linked_down, linked_up, reassembled_down, reassembled_up, part_lost, part_chain, split_down, split_up}
use Rattle.law_label_line.proofs.DownstreamSteps.{reset_down, cleared_down, ticked_down, sent_other, wired_down, bound_down, refreshed_down, recalled_down, recalled_again_down, quit_down, freed_down, frame_taken}
use Rattle.law_label_line.proofs.DownstreamHears.{hears_down}
use Rattle.law_label_line.proofs.UpstreamSteps.{reset_up, cleared_up, ticked_up, started_up, lent_up, expired_up, released_up, sent_labelled, switched_labelled}
use Rattle.law_label_line.proofs.UpstreamTakes.{hears_up}

pub step_keeps : (line : Line) (move : Move) → IsKept line → IsKept (step line move)
step_keeps line (Switch Downstream) k = switched_down line k
step_keeps line (Switch Upstream) k = switched_up line k
step_keeps line (Pass Downstream) k = linked_down line k
step_keeps line (Pass Upstream) k = linked_up line k
step_keeps line (Reassemble Downstream) k = reassembled_down line line.to_downstream.to_controller k
step_keeps line (Reassemble Upstream) k = reassembled_up line line.to_upstream.to_controller k
step_keeps line (Lose Downstream place at) k = parted_down line (lost place at line.to_downstream)
    (part_lost place at line.to_downstream) k
step_keeps line (Lose Upstream place at) k = parted_up line (lost place at line.to_upstream)
    (part_lost place at line.to_upstream) k
step_keeps line (Split Downstream place) k = split_down line place k
step_keeps line (Split Upstream place) k = split_up line place k
step_keeps line (Hear Downstream room drawn) k = hears_down line (from_last line.to_downstream.chain) drawn k
    (parted_down line (record (line.to_downstream) { chain = from_last line.to_downstream.chain })
    (part_chain line.to_downstream) k)
step_keeps line (Hear Upstream room drawn) k = hears_up line (from_last line.to_upstream.chain) room drawn k
    (parted_up line (record (line.to_upstream) { chain = from_last line.to_upstream.chain })
    (part_chain line.to_upstream) k)
step_keeps line (Tick Downstream silence drawn) k = ticked_down line line.downstream.state silence drawn k
step_keeps line (Tick Upstream silence drawn) k = ticked_up line line.upstream.state silence drawn k
step_keeps line (Clear Downstream) k = cleared_down line line.downstream.state k
step_keeps line (Clear Upstream) k = cleared_up line line.upstream.state line.grant k
step_keeps line (Restart Downstream drawn) k = reset_down line drawn k
step_keeps line (Restart Upstream drawn) k = reset_up line drawn k
step_keeps line SendOther k = sent_other line line.downstream.state line.label k
step_keeps line (Wire flow) k = wired_down line line.downstream.state line.label flow k
step_keeps line Bind k = bound_down line line.downstream.state line.label k
step_keeps line Refresh k = refreshed_down line line.downstream.state line.label k
step_keeps line Recall k = recalled_down line line.downstream.state line.label k
step_keeps line RecallAgain k = recalled_again_down line line.downstream.state line.label k
step_keeps line Quit k = quit_down line line.downstream.state line.label k
step_keeps line Free k = freed_down line line.downstream.state line.label k
step_keeps line TakeFrame k = frame_taken line k
step_keeps line Start k = started_up line line.upstream.state line.grant k
step_keeps line Lend k = lent_up line line.upstream.state line.grant k
step_keeps line Release k = released_up line line.upstream.state line.grant k
step_keeps line Expire k = expired_up line line.upstream.state line.grant k
step_keeps line SendLabelled k = sent_labelled line line.upstream.state line.grant k
step_keeps line SwitchLabelled k = switched_labelled line line.upstream.state line.grant k

pub run_keeps : (line : Line) (moves : List Move) → IsKept line → IsKept (run line moves)
run_keeps line [] k = k
run_keeps line (move ∷ moves) k = run_keeps (step line move) moves (step_keeps line move k)

pub start_keeps : (downstream upstream fresh : ℕ) → downstream < fresh
    → IsKept (start downstream upstream fresh)
start_keeps downstream upstream fresh drawn = record {
  late = false;
  good = record { each = (tt, tt); order = (tt, tt) };
  end = record {
    drawn = drawn;
    positive = omega arith;
    told = omega arith;
    names = tt;
    label_fits = refl;
    reassembled = refl;
  };
  grant = tt;
}
