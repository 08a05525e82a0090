-- in a run what was made under the mark of a last cell that waits for a controller is known, where its control link is calm

use Rattle.std.proofs.Common.{◌≡◌, ℕ, zero, ◌/◌, ◌%◌, ◌==◌, ◌&&◌, Bool, true, false, true≢false, List, ◌∷◌, None, Some, refl, sym, ◌∙◌, subst, arith, if◌then◌else◌}
use Rattle.std.specs.Prelude.{Contains}
use Rattle.std.proofs.lemmas.Bool.Decides.{nat_tests}
use Rattle.world_model.specs.Words.{NodeId, PortNo, Up, Cell, Policy, Past, payload_of, queue_of, control_port, default_channel, same_channel, port_on, Topology, World, queue_at, IsNode, past_of}
use Rattle.world_model.specs.gsmp_wire.Layout.{octets_of}
use Rattle.world_model.specs.network_model.declared.link.LinkEnd.{LinkEnd}
use Rattle.world_model.specs.network_model.declared.event.Event.{Event}
use Rattle.law_live_binding_beats.specs.law_run_facts.ordered_lists.Ordered.{Every}
use Rattle.law_live_binding_beats.specs.law_run_facts.law_world_views.Between.{IsWorld}
use Rattle.law_live_binding_beats.specs.law_run_facts.law_world_views.Marks.{heading_at, Means, early, control, local, plain, labelled}
use Rattle.law_live_binding_beats.specs.law_live_hearing.Law.{world_at}
use Rattle.law_live_binding_beats.proofs.law_live_hearing.Sites.{queue_of_site}
use Rattle.law_live_binding_beats.specs.law_live_control.Calm.{IsCalmUp, IsOfCalm, IsCalmCell}
use Rattle.law_live_binding_beats.specs.law_live_control_links.Law.{IsCalmLink}

pub record WasMade (w : World) (cell : Cell) : Type 0 where
  pub payload : List ℕ
  pub is : payload_of w.notes.frames cell.mark ≡ Some payload

-- *What goes to no port* on a default channel goes on the GSMP channel
no_port : (node : NodeId) (port : PortNo) (b : Bool) → (port.0 == 0) ≡ b → (if b then None else Some (let e : LinkEnd = record { node = node; port = port } in e)) ≡ None → (port.0 == 0) ≡ true
no_port node port true t e = t
no_port node port false t e = absurd (cc e)

gsmp_channel : (vpi vci : ℕ) → (vpi / 16 == 0) ≡ true → ((vpi % 16 == 0) && (vci == 15)) ≡ true → ((vpi == 0) && (vci == 15)) ≡ true
gsmp_channel vpi vci none e = whole (parts (vpi % 16 == 0) (vci == 15) e)
  where
    parts : (a b : Bool) → (a && b) ≡ true → (a ≡ true) × (b ≡ true)
    parts true true e = (refl, refl)
    parts true false e = absurd (cc e)
    parts false b e = absurd (cc e)

    both : (a b : Bool) → a ≡ true → b ≡ true → (a && b) ≡ true
    both true true f g = refl
    both true false f g = absurd (cc g)
    both false b f g = absurd (cc f)

    whole : ((vpi % 16 == 0) ≡ true) × ((vci == 15) ≡ true) → ((vpi == 0) && (vci == 15)) ≡ true
    whole p = both (vpi == 0) (vci == 15) zero_is p.1
      where
        rest : vpi % 16 ≡ 0
        rest = grind (arith, nat_tests, p.0)

        part : vpi / 16 ≡ 0
        part = grind (arith, nat_tests, none)

        it_is : vpi ≡ 0
        it_is = omega (arith, rest, part)

        zero_is : (vpi == 0) ≡ true
        zero_is = grind (arith, nat_tests, it_is)

module _ (policy : Policy) (topology : Topology) (before : List Event) (world : IsWorld (past_of policy topology before)) (node : NodeId) (within : IsNode topology node)
    (link : IsCalmLink (world_at policy topology before) node) (cell : Cell) (cells : List Cell) (queue : queue_at (world_at policy topology before) (Up node) ≡ cell ∷ cells)
    (last : cell.header.last ≡ true) where
  abbrev w : World
  w = world_at policy topology before

  abbrev past : Past
  past = past_of policy topology before

  on_gsmp : same_channel cell.header.channel default_channel ≡ true → WasMade w cell
  on_gsmp on =
      let up : queue_of link.site.switch.crossbar control_port ≡ cell ∷ cells = sym (queue_of_site w node link.site (Up node) link.found) ∙ queue in
      let h : IsOfCalm (IsCalmUp link.site.controller.adjacency.own link.site.switch.adjacency.own) w.notes.frames cell =
      (subst (Every (IsCalmCell (IsCalmUp link.site.controller.adjacency.own link.site.switch.adjacency.own) w.notes.frames)) up link.calm.up).0 on in
      record { payload = octets_of h.message; is = h.made }

  by_meaning : (is_last : Bool) → cell.header.last ≡ is_last → Means past (heading_at topology (Up node) cell.header.channel) is_last cell.mark → WasMade w cell
  by_meaning is_last e (early on part other) = absurd (true≢false (sym last ∙ (e ∙ part)))
  by_meaning is_last e (control on none source message made) = record { payload = _; is = made }
  by_meaning is_last e (local on none packet) = on_gsmp (gsmp_channel cell.header.channel.vpi cell.header.channel.vci
      (no_port node (port_on cell.header.channel) ((port_on cell.header.channel).0 == 0) refl none) on)
  by_meaning is_last e (plain on whole far there packet made come newest) = record { payload = _; is = made }
  by_meaning is_last e (labelled other far there flow bound payload packet made carries come newest) = record { payload = payload; is = made }

  pub last_made : WasMade w cell
  last_made = by_meaning cell.header.last refl (world.meanings (Up node) cell within (subst (λ (q : List Cell). Contains q cell) (sym queue) (zero, omega arith, refl)))
