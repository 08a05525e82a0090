-- Who takes the cells of a channel, by what its port holds.

use Rattle.std.proofs.Common.{◌≡◌, ℕ, Bool, true, false, Option, Some, None, refl, ap, sym, ◌∙◌, if◌then◌else◌}
use Rattle.std.specs.Option.{option_and_then, option_map}
use Rattle.std.proofs.lemmas.Bool.{eqb-true}
use Rattle.net_types.specs.declared.node.PortNo.{PortNo}
use Rattle.net_types.specs.declared.channel.Channel.{Channel}
use Rattle.net_types.specs.Label.{label_number_of}
use Rattle.ipv4_packet.specs.declared.flow.FlowId.{FlowId}
use Rattle.controller_link.specs.declared.taker.Taker as control
use Rattle.controller_link.specs.declared.taker.Taker.TheVariants as takers
use Rattle.port_model.specs.Labels.{Label, is_bound, label_number}
use Rattle.port_model.specs.Port.{label_at, labels_of}
use Rattle.port_state.specs.Engine.{bound_flow, flow_at}
use Rattle.world_model.specs.Controller.{Linked, default_channel}
use Rattle.world_model.specs.Cells.{ForLabel, label_taker, same_channel, taker_at}
use Rattle.controller_gsmp.proofs.Zipped.{key_of_found}
use Rattle.controller_router.specs.Cells.{channel_of}

-- the channel of a label, where it has a flow
abbrev pub labelled : PortNo → (number : ℕ) → Option FlowId → Option control.Taker
labelled port number None = None
labelled port number (Some flow) = Some (takers.Label port number)

module _ (linked : Linked) (port : PortNo) (own : linked.setup.port ≡ port) (channel : Channel) where
  pub default_taker : same_channel channel default_channel ≡ true → Some (takers.Default port) ≡ option_map channel_of (taker_at (Some linked) channel)
  default_taker is = rw is (ap (λ (p : PortNo). Some (takers.Default p)) (sym own))

  pub no_taker : same_channel channel default_channel ≡ false → label_number_of channel ≡ None → None ≡ option_map channel_of (taker_at (Some linked) channel)
  no_taker other none = rw (other, none) refl

  label_is : (number : ℕ) (o : Option Label) → label_at linked.port number ≡ o → labelled port number (option_and_then bound_flow o) ≡ option_map channel_of (label_taker linked o)
  label_is number None held = refl
  label_is number (Some label) held = by (is_bound label.state) where
    same : label.number ≡ number
    same = eqb-true _ _ (key_of_found label_number number (labels_of linked.port) label held)

    by : (b : Bool) → labelled port number (if b then Some label.flow else None) ≡ option_map channel_of (if b then Some (ForLabel linked label) else None)
    by true = ap (λ (p : PortNo). Some (takers.Label p number)) (sym own) ∙ ap (λ n. Some (takers.Label linked.setup.port n)) (sym same)
    by false = refl

  pub label_taker_is : (number : ℕ) → same_channel channel default_channel ≡ false → label_number_of channel ≡ Some number → labelled port number (flow_at linked.port number) ≡ option_map channel_of (taker_at (Some linked) channel)
  label_taker_is number other is = rw (other, is) (label_is number (label_at linked.port number) refl)
