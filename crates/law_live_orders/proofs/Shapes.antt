-- by their shapes, no branch but that of its default channel leads to a port's default channel, or home from there

use Rattle.std.proofs.Common.{◌≡◌, ◌+◌, ◌*◌, ◌≤◌, List, Option, Some, refl, sym, ◌∙◌, ap, arith}
use Rattle.std.specs.Option.{option_and_then}
use Rattle.world_model.specs.Words.{PortNo, End, IsLinkPort, Setup, home_of, default_channel, default_end, default_home, Site, site_at}
use Rattle.world_model.specs.crossbar_model.Crossbar.{output_of}
use Rattle.law_run_facts.specs.ordered_lists.Ordered.{Every}
use Rattle.law_run_facts.specs.law_world_views.Between.{IsPortEnd, default, label, IsShapedBranch, home, out, joined, setups_of}
use Rattle.law_live_hearing.proofs.Shapes.{port_some, not_default}
use Rattle.law_live_orders.specs.Shapes.{ShapesLeadAlone}

module _ (setups : List Setup) (links : Every (λ (setup : Setup). IsLinkPort setup.port) setups) (port : PortNo) (some : 1 ≤ port.0) where
  -- *To the port*
  from_home : (input output : End) → IsShapedBranch setups input output → output ≡ default_end port → input ≡ default_home port
  from_home _ _ (home end is) e = (let none : 0 ≡ port.0 = ap (λ (x : End). x.port.0) e in absurd (omega (arith, some, none)))
  from_home _ _ (out end is) e = ap home_of e
  from_home _ _ (joined input output from to) e = absurd (not_default setups links output to (ap (λ (x : End). x.channel.vci) e))

  -- *Home*
  from_end : (input output : End) → IsShapedBranch setups input output → output ≡ default_home port → input ≡ default_end port
  from_end _ _ (home end is) e = on end is (ap (λ (x : End). x.channel.vpi) e) (ap (λ (x : End). x.channel.vci) e)
    where
      on : (end : End) → IsPortEnd setups end → 16 * end.port.0 + end.channel.vpi ≡ 16 * port.0 + 0 → end.channel.vci ≡ 15 → end ≡ default_end port
      on _ (default p linked) vpi vci = (let same : p.0 ≡ port.0 = omega (arith, vpi) in λ i. record { port = record { 0 = same i }; channel = default_channel })
      on _ (label end is) vpi vci = absurd (not_default setups links end is vci)
  from_end _ _ (out end is) e = (let none : end.port.0 ≡ 0 = ap (λ (x : End). x.port.0) e in absurd (omega (arith, port_some setups links end is, none)))
  from_end _ _ (joined input output from to) e = (let none : output.port.0 ≡ 0 = ap (λ (x : End). x.port.0) e in
      absurd (omega (arith, port_some setups links output (label output to), none)))

pub shapes_lead_alone : ShapesLeadAlone
shapes_lead_alone w node site port found links is shapes = record {
  out = λ led. record {
    leads = led;
    alone = λ other e. from_home (setups_of site.controller) links port is.0 other (default_end port) (shapes.branches other (default_end port) (own other (default_end port) e)) refl;
  };
  home = λ led. record {
    leads = led;
    alone = λ other e. from_end (setups_of site.controller) links port is.0 other (default_home port) (shapes.branches other (default_home port) (own other (default_home port) e)) refl;
  };
}
  where
    own : (input output : End) → option_and_then (λ (s : Site). output_of s.switch.crossbar.branches input) (site_at w node) ≡ Some output
        → output_of site.switch.crossbar.branches input ≡ Some output
    own input output e = sym (ap (λ (o : Option Site). option_and_then (λ (s : Site). output_of s.switch.crossbar.branches input) o) found) ∙ e
