-- the laws are proved over definitions alone

use Rattle.law_run_facts.proofs.Runs.{events_draw, runs_draw_once}
use Rattle.law_run_facts.proofs.Steps.{pasts_are_whole, events_are_steps, pasts_stay, runs_have_fronts}
use Rattle.law_run_facts.proofs.Rooms.{runs_keep_nodes, runs_have_room}
use Rattle.law_run_facts.proofs.Nodes.{runs_have_nodes}
use Rattle.law_run_facts.proofs.Numbers.{numbers_kept, numbers_begin}
use Rattle.law_run_facts.proofs.Chains.{runs_have_own_chains}
use Rattle.law_run_facts.proofs.Grown.{frames_stay}
use Rattle.law_run_facts.proofs.nodes_are_steady.Goals as goal

pub returns : goal.returns
returns c = record {
  sites = runs_have_nodes;
  there = runs_keep_nodes;
  room = runs_have_room;
  numbers = numbers_kept;
  numbers_begin = numbers_begin;
  draws = events_draw;
  drawn = runs_draw_once;
  gathered = runs_have_own_chains;
  pasts = pasts_are_whole;
  steps = events_are_steps;
  stay = pasts_stay;
  fronts = runs_have_fronts;
  frames = frames_stay;
}
