-- a controller restarts: its node is reset, and the chains of all default channels are cut

use Rattle.std.proofs.Common.{◌≡◌, List, [], ◌∷◌, Option, None, Some, refl, sym, ◌∙◌, subst, arith, fold}
use Rattle.world_model.specs.Words.{PortNo, NodeId, Cell, Journal, nothing_taken, cut, Linked, port_key, linked_at, with_linked, cuts_default_of, cuts_default, cuts_gsmp, node_resets, node_restarts, World}
use Rattle.law_controller_lifts.proofs.law_port_facts.Keyed.{by_eq, at_key}
use Rattle.law_controller_lifts.specs.law_label_line.Cells.{Role, Downstream, Upstream}
use Rattle.law_controller_lifts.specs.law_label_line.Line.{Line}
use Rattle.world_model.specs.Controller.{Acted, ports_of}
use Rattle.world_model.specs.World.{at_controller}
use Rattle.law_controller_lifts.specs.law_port_views.Link.{LinkLabel, other}
use Rattle.law_controller_lifts.specs.law_shown_cells.Seen.{nothing}
use Rattle.law_controller_lifts.specs.law_shown_cells.Label.{OnControl, ShowsCells}
use Rattle.law_controller_lifts.specs.law_controller_views.Ends.{way_to, Pieces, Net, Goes, EndLeads, asking, placed}
use Rattle.law_controller_lifts.specs.law_controller_views.Lifted.{IsProper, Growing}
use Rattle.law_controller_lifts.specs.law_controller_views.Queues.{awaited}
use Rattle.law_controller_lifts.proofs.law_controller_views.Carried.{Moved}
use Rattle.law_controller_lifts.proofs.law_controller_views.Parts.{net_goes, goes_on, goes_same, quiet_leads}
use Rattle.law_controller_lifts.proofs.law_controller_views.Works.{port_is, quiet_same, quiet_put, node_resets_leads}
use Rattle.law_controller_lifts.proofs.law_controller_views.Growing.{grow_self, grow_on, grow_fold, grow_same, node_resets_grow}
use Rattle.law_controller_lifts.proofs.law_arrival_views.Chains.{with_taken, moved_then, empties_all, retaken, noted_net, goes_here}
use Rattle.law_controller_lifts.proofs.Follow.{on_fold}
use Rattle.law_controller_lifts.proofs.Ways.{SameNode, node_followed}
use Rattle.law_world_views.specs.Shown.{WorldShows, WorldGoes, AreApart, acting}
use Rattle.law_world_views.proofs.Sites.{controller_goes_by}
use Rattle.law_controller_lifts.proofs.law_shown_cells.Tested.{cut_frames}

-- the chain of a line's way is as it is
taken_self : (role : Role) (line : Line) → Moved line (with_taken role (way_to role line).chain (way_to role line).to_controller line)
taken_self Downstream line = record { moves = []; is = refl }
taken_self Upstream line = record { moves = []; is = refl }

-- frames and numbers stay, elsewhere and here
cut_grows : (a : Acted) (o : Option Linked) → Growing a (cuts_default_of a o)
cut_grows a None = grow_self a
cut_grows a (Some linked) = grow_same a (cuts_default_of a (Some linked)) (cut_frames a.notes linked.reassembly) (omega arith) refl

pub restarts_grow : (a : Acted) → Growing a (node_restarts a)
restarts_grow a =
    let reset : Acted = node_resets a in
    let cutting : Acted = cuts_gsmp reset in
    grow_on a reset (node_restarts a) (node_resets_grow a)
    (grow_on reset cutting (node_restarts a) (grow_same reset cutting (cut_frames reset.notes reset.controller.reassembly) (omega arith) refl)
    (grow_fold cuts_default (λ b q. cut_grows b (linked_at b.controller q)) (ports_of a.controller) cutting))

same_cut : (a : Acted) (o : Option Linked) → SameNode a (cuts_default_of a o)
same_cut a None = refl
same_cut a (Some linked) = refl

pub restarts_node : (a : Acted) → SameNode a (node_restarts a)
restarts_node a = on_fold SameNode node_followed cuts_default (λ b q. same_cut b (linked_at b.controller q)) (ports_of a.controller) (cuts_gsmp (node_resets a)) ∙ node_followed.resets a

put_self : (pieces : Pieces) (x y : Role) → (awaited x pieces (pieces.waiting x)).waiting y ≡ pieces.waiting y
put_self pieces Downstream Downstream = refl
put_self pieces Downstream Upstream = refl
put_self pieces Upstream Downstream = refl
put_self pieces Upstream Upstream = refl

module _ (link : LinkLabel) (proper : IsProper link) (like : Type 0) (role : Role) (pieces : Pieces) where
  -- the network with the controller goes on from every line that it shows
  abbrev NetLeads : Acted → Acted → Type 0
  NetLeads a b = (line : Line) → Net link like (placed role pieces a) (asking role []) line → Goes link like (placed role pieces b) (asking role []) line

  by_end : (a b : Acted) → EndLeads link like role a [] b [] → NetLeads a b
  by_end a b leads line n = net_goes link like role pieces a b [] [] line leads n

  leads_then : (a b c : Acted) → NetLeads a b → NetLeads b c → NetLeads a c
  leads_then a b c f g line n = goes_on link like (placed role pieces b) (placed role pieces c) (asking role []) (asking role []) line (f line n) g

  -- *The chain of the port's default channel* is emptied
  same_waits : (b : Acted) (line : Line) → Net link like (placed role (awaited role pieces (pieces.waiting role)) b) (asking role []) line → Net link like (placed role pieces b) (asking role []) line
  same_waits b line m = record {
    end = m.end;
    waiting = λ q. subst (λ (xs : List Cell). ShowsCells (OnControl (link.port q)) (other q) link b.notes.frames xs (way_to q line).to_controller) (put_self pieces role q) (m.waiting q);
    output = m.output;
    unmade = m.unmade;
  }

  emptied : (a : Acted) (linked : Linked) (notes : Journal) → linked_at a.controller (link.port role) ≡ Some linked → notes.frames ≡ a.notes.frames
      → NetLeads a (with_linked (record a { notes = notes }) (record linked { reassembly = nothing_taken }))
  emptied a linked notes found same line n =
      let later : Net link like (placed role pieces (record a { notes = notes })) (asking role []) line = noted_net link like role pieces a notes (asking role []) line same n in
      let chain = (way_to role line).chain in
      let waiting = (way_to role line).to_controller in
      goes_here link like (placed role pieces (with_linked (record a { notes = notes }) (record linked { reassembly = nothing_taken }))) (asking role []) line (with_taken role [] waiting line)
      (moved_then line (with_taken role chain waiting line) (with_taken role [] waiting line) (taken_self role line) (empties_all role chain waiting line))
      (same_waits (with_linked (record a { notes = notes }) (record linked { reassembly = nothing_taken })) (with_taken role [] waiting line)
      (retaken link like role pieces (record a { notes = notes }) linked nothing_taken (pieces.waiting role) [] waiting line found nothing (later.waiting role) later))

  cuts_lead : (a : Acted) (q : PortNo) → NetLeads a (cuts_default a q)
  cuts_lead a q = by (linked_at a.controller q) refl
    where
      by : (o : Option Linked) → linked_at a.controller q ≡ o → NetLeads a (cuts_default_of a o)
      by None found line n = goes_same link like (placed role pieces a) (asking role []) line n
      by (Some linked) found line n = by_eq q.0 (link.port role).0
          (λ same t. emptied a linked (cut a.notes linked.reassembly) (subst (λ (p : PortNo). linked_at a.controller p ≡ Some linked) (port_is q (link.port role) same) found) (cut_frames a.notes linked.reassembly) line n)
          (λ differ t. by_end a (cuts_default_of a (Some linked)) (quiet_leads link like role a (cuts_default_of a (Some linked)) []
          (quiet_put link proper like role a (record linked { reassembly = nothing_taken }) (cut a.notes linked.reassembly) a.numbers.instances (cut_frames a.notes linked.reassembly) (omega arith)
          (λ e. differ (sym (at_key port_key q.0 a.controller.ports linked found) ∙ e)))) line n)

  cuts_all : (qs : List PortNo) (a : Acted) → NetLeads a (fold cuts_default a qs)
  cuts_all [] a line n = goes_same link like (placed role pieces a) (asking role []) line n
  cuts_all (q ∷ qs) a line n = leads_then a (cuts_default a q) (fold cuts_default (cuts_default a q) qs) (cuts_lead a q) (cuts_all qs (cuts_default a q)) line n

  pub restarts_lead : (a : Acted) → NetLeads a (node_restarts a)
  restarts_lead a =
      let reset : Acted = node_resets a in
      let cutting : Acted = cuts_gsmp reset in
      leads_then a reset (node_restarts a) (by_end a reset (node_resets_leads link proper like role a []))
      (leads_then reset cutting (node_restarts a) (by_end reset cutting (quiet_leads link like role reset cutting []
      (quiet_same link proper like role reset cutting (cut_frames reset.notes reset.controller.reassembly) (omega arith) refl refl refl refl)))
      (cuts_all (ports_of a.controller) cutting))

-- *The controller of any node* restarts
pub restart_goes : (link : LinkLabel) (proper : IsProper link) (like : Type 0) (apart : AreApart link) (w : World) (line : Line) → WorldShows link like w line → (node : NodeId)
    → WorldGoes link like (at_controller w node node_restarts) line
restart_goes link proper like apart w line s node = controller_goes_by link like w line node node_restarts apart
    (λ site found. restarts_node (acting w site)) (λ site found. restarts_grow (acting w site))
    (λ role site pieces found same n. restarts_lead link proper like role pieces (acting w site) line n) s
