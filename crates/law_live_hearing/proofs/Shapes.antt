-- where branches have their shapes, default channels lead to their port and home

use Rattle.std.proofs.Common.{◌≡◌, ℕ, ◌+◌, ◌*◌, ◌≤◌, ◌&&◌, Bool, true, false, List, is_some, Option, None, Some, refl, sym, ◌∙◌, ap, subst, arith}
use Rattle.std.specs.Option.{option_and_then}
use Rattle.world_model.specs.Words.{PortNo, End, is_label_number, is_label_channel, IsLinkPort, Setup, at, home_of, default_channel, default_end, default_home, Site, site_at}
use Rattle.world_model.specs.crossbar_model.Crossbar.{output_of}
use Rattle.law_run_facts.specs.ordered_lists.Ordered.{Every}
use Rattle.law_run_facts.specs.law_port_facts.Port.{IsLinked, IsLabelEnd, setup_port}
use Rattle.law_run_facts.specs.law_world_views.Between.{IsPortEnd, default, label, IsShapedBranch, home, out, joined, setups_of}
use Rattle.law_run_facts.proofs.law_port_facts.Keyed.{at_every, at_key}
use Rattle.law_run_facts.proofs.law_controller_views.Sends.{label_vci}
use Rattle.law_live_hearing.specs.Shapes.{ShapesLeadByDefault}

front_true : (x y : Bool) → (x && y) ≡ true → x ≡ true
front_true true y e = refl
front_true false y e = absurd (cc e)

module _ (setups : List Setup) (links : Every (λ (setup : Setup). IsLinkPort setup.port) setups) where
  -- *Ends* are of ports of links, and a label's isn't on a default channel
  linked_some : (port : PortNo) → IsLinked setups port → 1 ≤ port.0
  linked_some port linked = by (at setup_port port.0 setups) refl linked
    where
      by : (o : Option Setup) → at setup_port port.0 setups ≡ o → is_some o ≡ true → 1 ≤ port.0
      by None found some = absurd (cc some)
      by (Some setup) found some =
          let own : setup.port.0 ≡ port.0 = at_key setup_port port.0 setups setup found in
          let is : IsLinkPort setup.port = at_every setup_port (λ (s : Setup). IsLinkPort s.port) port.0 setups setup links found in
          subst (λ (n : ℕ). 1 ≤ n) own is.0

  pub port_some : (end : End) → IsPortEnd setups end → 1 ≤ end.port.0
  port_some _ (default port linked) = linked_some port linked
  port_some _ (label end is) =
      let port : IsLinkPort is.setup.port = at_every setup_port (λ (s : Setup). IsLinkPort s.port) is.setup.port.0 setups is.setup links is.linked in
      subst (λ (x : End). 1 ≤ x.port.0) (sym is.is) port.0

  pub not_default : (end : End) → IsLabelEnd setups end → end.channel.vci ≡ 15 → ⊥
  not_default end is = label_vci end.channel (ap (λ (x : End). is_label_channel x.channel) is.is ∙ front_true (is_label_number is.number) _ is.in_range)

  -- *Where they lead*
  leads_out : (port : PortNo) (input output : End) → IsShapedBranch setups input output → input ≡ default_home port → output ≡ default_end port
  leads_out port _ _ (home end is) e = (let none : end.port.0 ≡ 0 = ap (λ (x : End). x.port.0) e in absurd (omega (arith, port_some end is, none)))
  leads_out port _ _ (joined input output from to) e = (let none : input.port.0 ≡ 0 = ap (λ (x : End). x.port.0) e in absurd (omega (arith, port_some input (label input from), none)))
  leads_out port _ _ (out end is) e = on end is (ap (λ (x : End). x.channel.vpi) e) (ap (λ (x : End). x.channel.vci) e)
    where
      on : (end : End) → IsPortEnd setups end → 16 * end.port.0 + end.channel.vpi ≡ 16 * port.0 + 0 → end.channel.vci ≡ 15 → end ≡ default_end port
      on _ (default p linked) vpi vci = (let same : p.0 ≡ port.0 = omega (arith, vpi) in λ i. record { port = record { 0 = same i }; channel = default_channel })
      on _ (label end is) vpi vci = absurd (not_default end is vci)

  leads_home : (port : PortNo) → 1 ≤ port.0 → (input output : End) → IsShapedBranch setups input output → input ≡ default_end port → output ≡ default_home port
  leads_home port some _ _ (home end is) e = ap home_of e
  leads_home port some _ _ (out end is) e = (let none : 0 ≡ port.0 = ap (λ (x : End). x.port.0) e in absurd (omega (arith, some, none)))
  leads_home port some _ _ (joined input output from to) e = absurd (not_default input from (ap (λ (x : End). x.channel.vci) e))

pub shapes_lead_by_default : ShapesLeadByDefault
shapes_lead_by_default w node site port found links is shapes = record {
  out = λ output e. leads_out (setups_of site.controller) links port (default_home port) output (shapes.branches (default_home port) output (own (default_home port) output e)) refl;
  home = λ output e. leads_home (setups_of site.controller) links port is.0 (default_end port) output (shapes.branches (default_end port) output (own (default_end port) output e)) refl;
}
  where
    own : (input output : End) → option_and_then (λ (s : Site). output_of s.switch.crossbar.branches input) (site_at w node) ≡ Some output
        → output_of site.switch.crossbar.branches input ≡ Some output
    own input output e = sym (ap (λ (o : Option Site). option_and_then (λ (s : Site). output_of s.switch.crossbar.branches input) o) found) ∙ e
