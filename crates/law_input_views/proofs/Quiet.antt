-- what a site does elsewhere leaves the line of an input

use Rattle.std.proofs.Common.{◌≡◌, ℕ, List, [], sym, ◌∙◌, ap, subst, arith}
use Rattle.law_shown_cells.specs.world_model.Words.{End, NodeId, Party, Side, is_estab, side_of, Frame, Reassembly, Desk, numbers_of, Site}
use Rattle.law_branch_line.specs.Line.{Line}
use Rattle.law_shown_cells.specs.world_model.switch_model.declared.port.PortState.{PortState}
use Rattle.law_input_views.specs.Words.{own_of, others_of}
use Rattle.law_input_views.specs.Shown.{controller_of, switch_of, AskedShows, PhaseShows, before_of, behind_of, ShowsRequests, ShowsAnswers, InputShows}
use Rattle.law_input_views.specs.Quiet.{IsQuietAt}
use Rattle.law_input_views.proofs.Cells.{requests_more, answers_more}

pub quiet_input : (node : NodeId) (input : End) (before after : Site) (old new : List Frame) (m n : ℕ) (line : Line) → IsQuietAt node input before after old new m n
    → InputShows node input before old m line → InputShows node input after new n line
quiet_input node input before after old new m n line q s = record {
  controller = subst (λ (a : Side Party). a ≡ side_of (controller_of node) (switch_of node) line.controller.adjacency a.silence) (sym q.controller) s.controller;
  switch = subst (λ (a : Side Party). a ≡ side_of (switch_of node) (controller_of node) line.switch.adjacency a.silence) (sym q.switch) s.switch;
  next = λ e. s.next e ∙ sym (ap (λ (desk : Desk). desk.next) q.desk);
  asked = subst (λ (desk : Desk). AskedShows input (is_estab line.controller.adjacency.state) (own_of input desk.standing) line.controller.asked) (sym q.desk) s.asked;
  others = s.others ∙ sym (ap (λ (desk : Desk). others_of input desk.standing) q.desk);
  met = s.met ∙ sym q.met;
  phase = subst (λ (desk : Desk). PhaseShows line.controller.meeting desk.standing) (sym q.desk) s.phase;
  branch = s.branch ∙ sym q.branch;
  at_switch = subst (λ (r : Reassembly). ShowsRequests node input new r.chain line.at_switch) (sym q.chain)
      (requests_more node input old new before.switch.reassembly.chain line.at_switch q.extends s.at_switch);
  to_switch = q.requests line.to_switch s.to_switch;
  at_controller = s.at_controller;
  gathered = subst (λ (r : Reassembly). ShowsAnswers node input new r.chain []) (sym q.gathered)
      (answers_more node input old new before.controller.reassembly.chain [] q.extends s.gathered);
  to_controller = q.answers line.to_controller s.to_controller;
  drawn = omega (arith, q.drawn, s.drawn);
  before = s.before ∙ sym (ap (λ (ports : List PortState). before_of (numbers_of ports) input.port) q.ports);
  behind = s.behind ∙ sym (ap (λ (ports : List PortState). behind_of (numbers_of ports) input.port) q.ports);
}
