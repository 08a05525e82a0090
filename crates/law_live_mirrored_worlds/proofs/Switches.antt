-- what a cell makes of a switch that ends no frame of a request

use Rattle.std.proofs.Common.{◌≡◌, ℕ, Bool, true, false, true≢false, List, [], ◌∷◌, Result, Ok, Err, refl, sym, ◌∙◌, ap, subst, if◌then◌else◌}
use Rattle.std.specs.Prelude.{◌&&◌, nat_lt}
use Rattle.std.specs.List.{list_all}
use Rattle.world_model.specs.Words.{PortNo, Cell, Branches, is_estab, is_connectable, numbers_of, has_port, named_ends, named_ports, names_session, used_ports, Switch, is_request, is_gsmp, gsmp_cell, switched_cell, handled, replied, requested, frame_read}
use Rattle.world_model.specs.frame_model.Reassembly.{Taken, taken}
use Rattle.world_model.specs.gsmp_wire.declared.fault.Fault.{Fault}
use Rattle.world_model.specs.gsmp_wire.declared.message.Message.{Message}
use Rattle.world_model.specs.gsmp_wire.declared.message.Message.TheVariants.{Adjacency, Branch, Move, Port, AllPorts}
use Rattle.world_model.specs.gsmp_wire.Fields.{decoded}
use Rattle.world_model.specs.switch_model.declared.port.PortState.{PortState}
use Rattle.world_model.specs.Switch.{ActedSwitch, free_slots, is_up}
use Rattle.world_model.specs.Conduct.{message_heard, ends_frame, cell_comes}
use Rattle.law_port_facts.proofs.Keyed.{on_each}
use Rattle.law_running_worlds.proofs.MadeTame.{whole_chain}
use Rattle.law_live_mirrors.specs.Mirrors.{Mirrors}
use Rattle.law_live_mirrors.specs.Law.{LeadsSame}
use Rattle.law_live_mirrors.proofs.Switches.{switches_lead_same}

-- *The same ports, paths and branches*
pub parts_lead : (before after : Switch) → after.ports ≡ before.ports → after.vpis ≡ before.vpis → after.crossbar.branches ≡ before.crossbar.branches → LeadsSame before after
parts_lead before after ports vpis branches = record {
  fit = λ asked fit. record {
    is_asked = fit.is_asked;
    ports = ap (λ (x : List PortState). list_all (has_port x) (named_ports asked.request)) ports ∙ fit.ports;
    session = ap (λ (x : List PortState). names_session x asked.session (named_ports asked.request)) ports ∙ fit.session;
    up = ap (λ (x : List PortState). list_all (is_up x) (used_ports asked.request)) ports ∙ fit.up;
    channels = (λ i. list_all (is_connectable (numbers_of (ports i)) (vpis i)) (named_ends asked.request)) ∙ fit.channels;
  };
  mirrors = λ linked desk way input mirrors. subst (λ (x : Branches). Mirrors linked desk x way input) (sym branches) mirrors;
}

pub lead_then : (a b c : Switch) → LeadsSame a b → LeadsSame b c → LeadsSame a c
lead_then a b c p q = record {
  fit = λ asked fit. q.fit asked (p.fit asked fit);
  mirrors = λ linked desk way input mirrors. q.mirrors linked desk way input (p.mirrors linked desk way input mirrors);
}

module _ (a : ActedSwitch) where
  -- *An earlier cell* of a frame joins its chain, or is lost
  module _ (cell : Cell) (early : cell.header.last ≡ false) where
    abbrev t : Taken
    t = taken a.notes (nat_lt 0 (free_slots a.switch)) a.switch.reassembly cell

    abbrev gathered : ActedSwitch
    gathered = record a { switch = record a.switch { reassembly = t.reassembly }; notes = t.notes }

    by_ended : (cells : List Cell) → t.ended ≡ cells → LeadsSame a.switch (ends_frame gathered cells).switch
    by_ended [] e = parts_lead a.switch gathered.switch refl refl refl
    by_ended (first ∷ rest) e =
        absurd (true≢false (sym (whole_chain a.notes (nat_lt 0 (free_slots a.switch)) a.switch.reassembly cell first rest e).is_ended.last ∙ early))

    gathered_leads : LeadsSame a.switch (gsmp_cell a cell).switch
    gathered_leads = by_ended t.ended refl

  -- *A cell* that ends no frame on the GSMP channel
  pub cell_leads : (port : PortNo) (cell : Cell) → (is_gsmp port cell.header.channel ≡ true → cell.header.last ≡ false) → LeadsSame a.switch (cell_comes a port cell).switch
  cell_leads port cell early = on_each (λ (b : ActedSwitch). LeadsSame a.switch b.switch) (is_gsmp port cell.header.channel) (gsmp_cell a cell) (switched_cell a port cell)
      (λ on. gathered_leads cell (early on)) (λ off. switches_lead_same.cells a port cell)

  -- *A frame* that asks nothing
  itself : LeadsSame a.switch a.switch
  itself = parts_lead a.switch a.switch refl refl refl

  not_asked : (message : Message) → is_request message ≡ false → LeadsSame a.switch (requested a message).switch
  not_asked message is = subst (λ (b : Bool). LeadsSame a.switch (if b && is_estab a.switch.adjacency.state then replied a (handled a.switch a.notes message) else a).switch) (sym is) itself

  message_leads : (message : Message) → is_request message ≡ false → LeadsSame a.switch (message_heard a message).switch
  message_leads (Adjacency greeting) is = switches_lead_same.greetings a greeting
  message_leads (Branch kind result code transaction session input_port input output_port output count priority) is =
      not_asked (Branch kind result code transaction session input_port input output_port output count priority) is
  message_leads (Move result code transaction session input_port input output_port output target_port target count priority) is =
      not_asked (Move result code transaction session input_port input output_port output target_port target count priority) is
  message_leads (Port result code transaction port session function) is = not_asked (Port result code transaction port session function) is
  message_leads (AllPorts result code transaction rows) is = not_asked (AllPorts result code transaction rows) is

  pub frame_leads : (payload : List ℕ) → ((message : Message) → decoded payload ≡ Ok message → is_request message ≡ false) → LeadsSame a.switch (frame_read a (decoded payload)).switch
  frame_leads payload no_request = by (decoded payload) refl
    where
      by : (r : Result Message Fault) → decoded payload ≡ r → LeadsSame a.switch (frame_read a r).switch
      by (Ok message) is = message_leads message (no_request message is)
      by (Err fault) is = parts_lead a.switch (frame_read a (Err fault)).switch refl refl refl
