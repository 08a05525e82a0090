-- what comes to a node whose control link is calm

use Rattle.std.proofs.Common.{◌≡◌, ℕ, true, List, [], ◌∷◌, Some, Ok, refl, sym, ◌∙◌, ap, subst}
use Rattle.world_model.specs.Words.{Down, Up, Out, Party, is_estab, Cell, payload_of, queue_of, control_port, default_channel, same_channel, taker_of, ForGsmp, ForDefault, ForLabel, World, Site, site_at, queue_at}
use Rattle.world_model.specs.Cells.{Taker}
use Rattle.world_model.specs.gsmp_wire.declared.message.Message.{Message}
use Rattle.world_model.specs.gsmp_wire.Layout.{octets_of}
use Rattle.world_model.specs.gsmp_wire.Fields.{decoded}
use Rattle.world_model.specs.network_model.declared.link.LinkEnd.{LinkEnd}
use Rattle.law_port_facts.specs.ordered_lists.Ordered.{Every}
use Rattle.law_live_hearing.specs.Law.{acting}
use Rattle.law_live_hearing.proofs.Sites.{queue_of_site}
use Rattle.law_live_control.specs.Calm.{IsCalmUp, IsOfCalm, IsCalmCell}
use Rattle.law_live_control.proofs.Reading.{calm_is_read}
use Rattle.law_live_control_links.specs.Law.{IsCalmLink}
use Rattle.law_live_control_links.proofs.Reading.{one_payload, gsmp_alone}
use Rattle.law_live_passed_by.specs.Law.{PassesBy, IsCellForOthers, AreForOthers}
use Rattle.law_live_answers.specs.Law.{LetsPass, CalmNodesLetPass}
use Rattle.law_live_answers.proofs.Answering.{calm_frames_are_harmless}

one_site : (x y : Site) → Some x ≡ Some y → x ≡ y
one_site x y e = cc

module _ (w : World) (end : LinkEnd) (link : IsCalmLink w end.node) (lets : LetsPass w end link.site) where
  abbrev site : Site
  site = link.site

  abbrev own : Party
  own = site.controller.adjacency.own

  abbrev far : Party
  far = site.switch.adjacency.own

  module _ (cell : Cell) (cells : List Cell) (queue : queue_at w (Up end.node) ≡ cell ∷ cells) (last : cell.header.last ≡ true) where
    queue_up : queue_of site.switch.crossbar control_port ≡ cell ∷ cells
    queue_up = sym (queue_of_site w end.node site (Up end.node) link.found) ∙ queue

    -- *On the GSMP channel* a calm message is read
    read_calm : same_channel cell.header.channel default_channel ≡ true → (payload : List ℕ) → payload_of w.notes.frames cell.mark ≡ Some payload
        → (message : Message) → decoded payload ≡ Ok message → IsCalmUp own far message
    read_calm on payload made message read =
        let h : IsOfCalm (IsCalmUp own far) w.notes.frames cell = (subst (Every (IsCalmCell (IsCalmUp own far) w.notes.frames)) queue_up link.calm.up).0 on in
        calm_is_read.up own far h.message message link.calm.controller_fits link.calm.switch_fits h.calm
        (ap decoded (one_payload (octets_of h.message) payload (sym h.made ∙ made)) ∙ read)

    passes : (taker : Taker) (payload : List ℕ) → taker_of site.controller cell.header.channel ≡ Some taker → payload_of w.notes.frames cell.mark ≡ Some payload
        → PassesBy end.port (acting w site) taker payload
    passes ForGsmp payload takes made = (
      (lets.in_order, lets.settled),
      calm_frames_are_harmless (acting w site) own far payload lets.joins (read_calm (gsmp_alone site.controller cell.header.channel takes) payload made),
    )
    passes (ForDefault linked) payload takes made = lets.by_default cell cells linked payload queue last takes made
    passes (ForLabel linked label) payload takes made = tt

    for_others : (there : Site) → site_at w end.node ≡ Some there → IsCellForOthers w end.port there cell
    for_others there found = subst (λ (s : Site). IsCellForOthers w end.port s cell) (one_site site there (sym link.found ∙ found)) (record {
      up = ap is_estab link.calm.met.one_is_up;
      passes = passes;
    })

  here : AreForOthers w end (queue_at w (Up end.node))
  here = by (queue_at w (Up end.node)) refl
    where
      by : (queue : List Cell) → queue_at w (Up end.node) ≡ queue → AreForOthers w end queue
      by [] e = tt
      by (cell ∷ cells) e = λ last. for_others cell cells e last

pub calm_nodes_let_pass : CalmNodesLetPass
calm_nodes_let_pass w end (Down node) link lets = tt
calm_nodes_let_pass w end (Out node port) link lets = tt
calm_nodes_let_pass w end (Up node) link lets = λ same. here w end link lets
