use Rattle.std.proofs.Common.{◌∙◌, sym, subst, ap, refl, arith, Option, Some, IsSome}
use Rattle.link_model.specs.declared.record.Refusal.{Refusal}
use Rattle.refusal_names.specs.Names.{packet_refusal}
use Rattle.world_model.specs.Packets.{inject_refusal, injected}
use Rattle.law_world_pace.proofs.law_actor_pace.Controllers.{injected_paces}
use Rattle.world.specs.Coming.{entered_by}
use Rattle.world.specs.Network.{world_of}
use Rattle.node_controller.specs.Nodes.{refusal_of}
use Rattle.world.proofs.Acting.{controller_came, come_as, none_drawn, nothing_came, same_option, stays_put, summand_redirects}
use Rattle.world.proofs.world.World.enter.Goals as goal

pub replace-requires-clause-summand : goal.replace-requires-clause-summand
replace-requires-clause-summand g c =
    omega (arith, c.redirects-before.ensures, summand_redirects g.C.NodeController.seen c.args.self.now c.args.node c.index_mut-site.result.now c.requires.steady c.requires.node c.index_mut-site.ensures.value)

pub returns-in-Ok-clause-refusal : goal.returns-in-Ok-clause-refusal
returns-in-Ok-clause-refusal g c = same_option _ _ c.in-Ok.ensures.refused

pub returns-in-Ok-clause-come : goal.returns-in-Ok-clause-come
returns-in-Ok-clause-come g c = come_as g.C.NodeController.seen c.args.self.now _ c.inject.new.notes _ _
    (ap (entered_by (world_of g.C.NodeController.seen c.args.self.now c.args.notes.now) c.args.node c.args.packet c.args.octets.now) (sym (same_option (inject_refusal c.args.octets.now) _ c.in-Ok.ensures.refused)))
    (controller_came g.C.NodeController.seen (λ a. injected a c.args.packet c.args.octets.now) c.args.self.now _ c.args.notes.now c.inject.new.notes c.args.node c.index_mut-site.result.now
    (record { controller = c.inject.new.self; switch = c.index_mut-site.result.now.switch; peers = c.index_mut-site.result.now.peers }) c.redirects-before.result c.redirects.result
    (λ a. (injected_paces 1 a c.args.packet c.args.octets.now (omega arith)).node)
    c.requires.steady c.requires.node c.index_mut-site.ensures.value refl refl refl (c.in-Ok.ensures.acted c.args.self.now.numbers) (none_drawn c.args.self.now.numbers) c.redirects-before.ensures c.redirects.ensures c.replace.ensures refl refl refl refl refl refl c.insert.ensures)

pub returns-in-Err-Packet-clause-refusal : goal.returns-in-Err-Packet-clause-refusal
returns-in-Err-Packet-clause-refusal g c = same_option _ _ c.in-Err-Packet.ensures.refused ∙ ap refusal_of c.in-Err-Packet.field-0-is ∙ ap (λ f. Some (packet_refusal f)) (sym c.in-Err-Packet.fault-is) ∙ ap Some (sym c.packet_refusal.ensures)

pub returns-in-Err-Packet-clause-come : goal.returns-in-Err-Packet-clause-come
returns-in-Err-Packet-clause-come g c =
    let is = same_option (inject_refusal c.args.octets.now) _ c.in-Err-Packet.ensures.refused ∙ ap refusal_of c.in-Err-Packet.field-0-is in
    let same = c.inject.ensures.same (subst (λ (o : Option Refusal). IsSome o) (sym is) refl) in
    come_as g.C.NodeController.seen c.args.self.now _ c.inject.new.notes _ _
    (ap (entered_by (world_of g.C.NodeController.seen c.args.self.now c.args.notes.now) c.args.node c.args.packet c.args.octets.now) (sym is))
    (nothing_came g.C.NodeController.seen c.args.self.now _ c.args.notes.now c.inject.new.notes c.requires.steady
    (stays_put g.C.NodeController.seen c.args.self.now c.args.node c.index_mut-site.result.now _ c.requires.node c.index_mut-site.ensures.value (λ i. record { controller = same.0 i; switch = c.index_mut-site.result.now.switch; peers = c.index_mut-site.result.now.peers }))
    same.1 refl refl refl refl refl refl refl refl refl)

pub returns-in-Err-ControlProtocol-clause-refusal : goal.returns-in-Err-ControlProtocol-clause-refusal
returns-in-Err-ControlProtocol-clause-refusal g c = same_option _ _ c.in-Err-ControlProtocol.ensures.refused ∙ ap refusal_of c.in-Err-ControlProtocol.field-0-is

pub returns-in-Err-ControlProtocol-clause-come : goal.returns-in-Err-ControlProtocol-clause-come
returns-in-Err-ControlProtocol-clause-come g c =
    let is = same_option (inject_refusal c.args.octets.now) _ c.in-Err-ControlProtocol.ensures.refused ∙ ap refusal_of c.in-Err-ControlProtocol.field-0-is in
    let same = c.inject.ensures.same (subst (λ (o : Option Refusal). IsSome o) (sym is) refl) in
    come_as g.C.NodeController.seen c.args.self.now _ c.inject.new.notes _ _
    (ap (entered_by (world_of g.C.NodeController.seen c.args.self.now c.args.notes.now) c.args.node c.args.packet c.args.octets.now) (sym is))
    (nothing_came g.C.NodeController.seen c.args.self.now _ c.args.notes.now c.inject.new.notes c.requires.steady
    (stays_put g.C.NodeController.seen c.args.self.now c.args.node c.index_mut-site.result.now _ c.requires.node c.index_mut-site.ensures.value (λ i. record { controller = same.0 i; switch = c.index_mut-site.result.now.switch; peers = c.index_mut-site.result.now.peers }))
    same.1 refl refl refl refl refl refl refl refl refl)
