-- what the switch says to a controller where the control link is calm

use Rattle.std.proofs.Common.{◌≡◌, ℕ, Bool, List, ◌∷◌, None, Some, Result, Ok, Err, refl, sym, ◌∙◌, ap, subst, if◌then◌else◌}
use Rattle.world_model.specs.Words.{NodeId, Up, Party, Cell, payload_of, nothing_taken, with_reassembly, ForGsmp, queue_of, control_port, World, queue_at, OfController, reassembly_at, arrival, cell_for, CountsAsItsFrame}
use Rattle.world_model.specs.Stretches.{ended_at, controller_arrival}
use Rattle.world_model.specs.Stretches as stretches
use Rattle.world_model.specs.Controller.{Acted}
use Rattle.world_model.specs.gsmp_wire.declared.fault.Fault.{Fault}
use Rattle.world_model.specs.gsmp_wire.declared.message.Message.{Message}
use Rattle.world_model.specs.gsmp_wire.Layout.{octets_of as message_octets}
use Rattle.world_model.specs.gsmp_wire.Fields.{decoded}
use Rattle.world_model.specs.switch_model.Requests.{result_of}
use Rattle.world_model.specs.network_model.declared.event.Event.TheVariants.{Carry}
use Rattle.law_live_lasting.specs.law_port_facts.ordered_lists.Ordered.{Every}
use Rattle.law_live_lasting.proofs.law_live_frames.Coming.{same_itself}
use Rattle.law_live_lasting.specs.law_live_hearing.Law.{acting}
use Rattle.law_live_lasting.proofs.law_live_hearing.Sites.{queue_of_site}
use Rattle.law_live_lasting.specs.law_live_control.Calm.{IsCalmUp, greets_controller, answers_controller, IsOfCalm, IsCalmCell}
use Rattle.law_live_lasting.proofs.law_live_control.Reading.{calm_is_read}
use Rattle.law_live_lasting.specs.law_live_control_links.Law.{IsCalmLink}
use Rattle.law_live_lasting.proofs.law_live_control_links.Heard.{Ended, ended_cell}
use Rattle.law_live_lasting.proofs.law_live_control_links.Reading.{one_payload, gsmp_alone}
use Rattle.law_live_lasting.specs.law_live_unsaid.Carries.{EndsFrame}
use Rattle.law_live_asking.specs.Frames.{IsPlainMessage, greets, IsPlainTold}
use Rattle.law_live_asking.specs.Carries.{CalmLinksMayCome}

one_cell : (x y : Cell) → Some x ≡ Some y → x ≡ y
one_cell x y e = cc e

module _ (w : World) (node : NodeId) (link : IsCalmLink w node) (cell : Cell) (cells : List Cell) (payload : List ℕ) (counts : CountsAsItsFrame w (Carry (Up node)))
    (queue : queue_at w (Up node) ≡ cell ∷ cells) (ends : EndsFrame w node link.site cell ForGsmp payload) where
  abbrev own : Party
  own = link.site.controller.adjacency.own

  abbrev far : Party
  far = link.site.switch.adjacency.own

  abbrev channel : stretches.Reassembler
  channel = OfController node cell.header.channel

  -- the cell that ends the frame
  comes : cell_for channel (arrival w (Carry (Up node))) ≡ Some cell
  comes = ap (λ (q : List Cell). cell_for channel (controller_arrival node q)) queue ∙ ap (λ (b : Bool). if b then Some cell else None) (same_itself channel)

  made : payload_of w.notes.frames cell.mark ≡ Some payload
  made = by (ended_cell w channel payload (reassembly_at w channel) (cell_for channel (arrival w (Carry (Up node)))) ends.whole)
    where
      by : Ended (ended_at w (Carry (Up node)) channel) (cell_for channel (arrival w (Carry (Up node)))) → payload_of w.notes.frames cell.mark ≡ Some payload
      by e = ap (payload_of w.notes.frames) (sym (e.last ∙ ap (λ (c : Cell). c.mark) (one_cell e.cell cell (sym e.is ∙ comes)))) ∙ counts channel payload ends.whole

  -- is of a calm message
  waits : queue_of link.site.switch.crossbar control_port ≡ cell ∷ cells
  waits = sym (queue_of_site w node link.site (Up node) link.found) ∙ queue

  of_calm : IsOfCalm (IsCalmUp own far) w.notes.frames cell
  of_calm = (subst (Every (IsCalmCell (IsCalmUp own far) w.notes.frames)) waits link.calm.up).0 (gsmp_alone link.site.controller cell.header.channel ends.takes)

  heard : (message : Message) → decoded payload ≡ Ok message → IsCalmUp own far message
  heard message read = calm_is_read.up own far of_calm.message message link.calm.controller_fits link.calm.switch_fits of_calm.calm
      (ap decoded (one_payload (message_octets of_calm.message) payload (sym of_calm.made ∙ made)) ∙ read)

  abbrev a : Acted
  a = with_reassembly (acting w link.site) ForGsmp nothing_taken

  told : (answers : (message : Message) → decoded payload ≡ Ok message → result_of message ≡ 3 → IsPlainMessage a message) → IsPlainTold a (decoded payload)
  told answers = by (decoded payload) refl
    where
      plain : (message : Message) → decoded payload ≡ Ok message → IsCalmUp own far message → IsPlainMessage a message
      plain message read greets_controller = greets link.site.switch.adjacency link.calm.met
      plain message read (answers_controller answer success) = answers answer read success

      by : (r : Result Message Fault) → decoded payload ≡ r → IsPlainTold a r
      by (Err fault) is = tt
      by (Ok message) is = plain message is (heard message is)

pub calm_links_may_come : CalmLinksMayCome
calm_links_may_come w node link cell cells payload counts queue ends answers = told w node link cell cells payload counts queue ends answers
