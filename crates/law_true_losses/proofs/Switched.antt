-- what a switch cut, by each rule

use Rattle.std.proofs.Common.{◌≡◌, ◌≢◌, ◌∙◌, ap, sym, subst, ℕ, zero, suc, Bool, true, false, List, [], length, Option, None, Some, refl, inl, inr, ◌⊎◌, if◌then◌else◌}
use Rattle.std.specs.Prelude.{nat_le, option_map}
use Rattle.std.specs.FinMap.{get, insert}
use Rattle.world_model.specs.Words.{PortNo, Channel, End, Mark, Party, GivenOut, next_control, with_control, Cell, Answer, Quiet, Send, Open, Said, ticked, greeting_of, gsmp_answer, Branches, route_on, unfinished_after, switched_on, switched, Journal, noted, Loss, PoolFull, Unconnected, made, frame_cells, Switch, control_port, gsmp_channel, switched_cell, is_gsmp, gsmp_cell, tick_comes, restarted, Site}
use Rattle.world_model.specs.adjacency_table.declared.message.Answer.TheVariants.{Reset}
use Rattle.world_model.specs.gsmp_wire.declared.message.Message.{Message}
use Rattle.world_model.specs.gsmp_wire.declared.message.Message.TheVariants as messages
use Rattle.world_model.specs.gsmp_wire.Layout.{octets_of}
use Rattle.world_model.specs.crossbar_model.declared.branch.Branch.{Branch}
use Rattle.world_model.specs.crossbar_model.Crossbar.{input_of, output_of}
use Rattle.world_model.specs.frame_model.Sending as frames
use Rattle.law_causes.proofs.law_port_facts.Keyed.{on_both}
use Rattle.law_causes.proofs.Maps.{same_input, insert_here, insert_away}
use Rattle.world_model.specs.Switch.{ActedSwitch, free_slots}
use Rattle.world_model.specs.Conduct.{with_cells, sends, says, answers, cell_routed, cell_comes}
use Rattle.law_true_losses.specs.Cut.{Holder, OfSwitch, fed_switch}
use Rattle.law_true_losses.proofs.Cutting.{cuts_in, cuts_other}
use Rattle.law_true_losses.proofs.Branches.{none_left, uncut, sends_cuts, tick_cuts, gsmp_cuts, restart_cuts}
use Rattle.law_true_losses.proofs.Sites.{SiteCuts, fed_cuts, plain_cuts, restart_site}

-- what is sent leaves the chain as it was
sends_chain : (a : ActedSwitch) (port : PortNo) (channel : Channel) (mark : Mark) (payload : List ℕ) → (sends a port channel mark payload).switch.reassembly ≡ a.switch.reassembly
sends_chain a port channel mark payload = on_both (λ (s : frames.Sender Switch). s.queues.reassembly ≡ a.switch.reassembly) (nat_le (length (frame_cells channel mark payload)) (free_slots a.switch))
    (record { queues = with_cells a.switch port (frame_cells channel mark payload); notes = made a.notes mark payload })
    (record { queues = a.switch; notes = noted (made a.notes mark payload) (Loss mark PoolFull) }) refl refl

says_chain : (a : ActedSwitch) (message : Message) → (says a message).switch.reassembly ≡ a.switch.reassembly
says_chain a message = sends_chain (record a { numbers = with_control a.numbers }) control_port gsmp_channel (next_control a.numbers) (octets_of message)

answers_chain : (a : ActedSwitch) (answer : Answer (Said Party) Party) → (answers a (gsmp_answer answer)).switch.reassembly ≡ a.switch.reassembly
answers_chain a Quiet = refl
answers_chain a (Send m) = says_chain a (messages.Adjacency (greeting_of m))
answers_chain a (Open None own) = refl
answers_chain a (Open (Some m) own) = says_chain a (messages.Adjacency (greeting_of m))
answers_chain a Reset = refl

module _ (site : Site) (notes : Journal) (numbers : GivenOut) (none : cuts_in notes ≡ []) where
  abbrev a : ActedSwitch
  a = record { switch = site.switch; notes = notes; numbers = numbers }

  abbrev To : Option Holder → ActedSwitch → Type 0
  To fed b = SiteCuts fed site (record site { switch = b.switch }) b.notes

  pub tick_site : To None (tick_comes a)
  tick_site = plain_cuts site (tick_comes a).switch (tick_comes a).notes (answers_chain (record a { switch = record a.switch { adjacency = (ticked a.switch.adjacency).side } }) (ticked a.switch.adjacency).answer)
      (tick_cuts a.switch.crossbar.branches a (uncut a none))

  pub sends_site : (port : PortNo) (channel : Channel) (mark : Mark) (payload : List ℕ) → To None (sends a port channel mark payload)
  sends_site port channel mark payload = plain_cuts site (sends a port channel mark payload).switch (sends a port channel mark payload).notes (sends_chain a port channel mark payload)
      (sends_cuts a.switch.crossbar.branches a port channel mark payload (uncut a none))

  pub restarted_site : To None (restarted a)
  restarted_site = restart_site site (restarted a).switch _ refl (restart_cuts a none)

  -- *A cell that goes through* leaves its branch where it leads
  module _ (port : PortNo) (cell : Cell) where
    abbrev input : End
    input = input_of port cell

    through_branches : (b : Branch) → get site.switch.crossbar.branches input ≡ Some b → (other : End)
        → output_of (insert site.switch.crossbar.branches input (record b { unfinished = unfinished_after cell })) other ≡ output_of site.switch.crossbar.branches other
    through_branches b found other = by (same_input other input)
      where
        m : Branches
        m = site.switch.crossbar.branches

        out : Option Branch → Option End
        out = option_map (λ (branch : Branch). branch.output)

        by : (other ≡ input) ⊎ (other ≢ input) → output_of (insert m input (record b { unfinished = unfinished_after cell })) other ≡ output_of m other
        by (inl same) = subst (λ (e : End). output_of (insert m input (record b { unfinished = unfinished_after cell })) e ≡ output_of m e) (sym same)
            (ap out (insert_here m input (record b { unfinished = unfinished_after cell })) ∙ sym (ap out found))
        by (inr apart) = ap out (insert_away m input other (record b { unfinished = unfinished_after cell }) apart)

    routed_site : (o : Option Branch) (free : ℕ) → get site.switch.crossbar.branches input ≡ o → free_slots site.switch ≡ free → To None (cell_routed a port cell (route_on o free))
    routed_site None free found is = plain_cuts site site.switch (noted notes (Loss cell.mark Unconnected)) refl
        (none_left site.switch.crossbar.branches site.switch.crossbar.branches (noted notes (Loss cell.mark Unconnected)) (cuts_other notes (Loss cell.mark Unconnected) refl ∙ none) (λ other. refl))
    routed_site (Some b) zero found is = plain_cuts site site.switch (noted notes (Loss cell.mark PoolFull)) refl
        (none_left site.switch.crossbar.branches site.switch.crossbar.branches (noted notes (Loss cell.mark PoolFull)) (cuts_other notes (Loss cell.mark PoolFull) refl ∙ none) (λ other. refl))
    routed_site (Some b) (suc free) found is = plain_cuts site (cell_routed a port cell (route_on (Some b) (suc free))).switch notes refl
        (none_left site.switch.crossbar.branches (switched site.switch.crossbar (free_slots site.switch) port cell).branches notes none (λ other.
        subst (λ (o : Option Branch). output_of (switched_on site.switch.crossbar input o (free_slots site.switch) cell).branches other ≡ output_of site.switch.crossbar.branches other) (sym found)
        (subst (λ (n : ℕ). output_of (switched_on site.switch.crossbar input (Some b) n cell).branches other ≡ output_of site.switch.crossbar.branches other) (sym is) (through_branches b found other))))

    pub cell_site : To (fed_switch port cell) (cell_comes a port cell)
    cell_site = by (is_gsmp port cell.header.channel)
      where
        by : (b : Bool) → To (if b then Some OfSwitch else None) (if b then gsmp_cell a cell else switched_cell a port cell)
        by true = fed_cuts site (gsmp_cell a cell).switch (gsmp_cell a cell).notes (gsmp_cuts a cell none)
        by false = routed_site (get site.switch.crossbar.branches input) (free_slots site.switch) refl refl
