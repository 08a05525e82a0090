-- branches to the controller are of ports of links, and so are the ports of a controller

use Rattle.std.proofs.Common.{◌≡◌, ℕ, ◌<◌, ◌≤◌, ◌+◌, ◌*◌, ◌/◌, Bool, true, false, List, [], ◌∷◌, Option, None, Some, refl, sym, ◌∙◌, ap, subst, arith, if◌then◌else◌, map}
use Rattle.std.specs.Prelude.{nat_eq}
use Rattle.std.specs.Option.{is_some}
use Rattle.std.proofs.lemmas.Bool.Decides.{nat_tests}
use Rattle.world_model.specs.Words.{PortNo, End, at, IsLinkPort, Setup, home_of, Linked, port_key, port_on}
use Rattle.law_frame_readings.specs.ordered_lists.Ordered.{Every}
use Rattle.law_frame_readings.specs.law_port_facts.Port.{setup_port, IsLinked}
use Rattle.law_frame_readings.proofs.law_port_facts.Keyed.{at_every, at_key}
use Rattle.law_frame_readings.proofs.law_controller_facts.Conditions.{label_has_home}
use Rattle.law_frame_readings.specs.law_world_views.Between.{IsPortEnd, IsShapedBranch, default, label, home, out, joined}

-- *Each port*, where the one of each number is
pub each_port : (P : PortNo → Type 0) (xs : List Linked) → ((port : PortNo) (x : Linked) → at port_key port.0 xs ≡ Some x → P port) → Every (λ (x : Linked). P x.setup.port) xs
each_port P [] is = tt
each_port P (y ∷ ys) is = (is y.setup.port y (first (nat_eq (port_key y) (port_key y)) (same (port_key y))), each_port P ys (λ port x e. later port x e (nat_eq (port_key y) port.0) refl))
  where
    same : (n : ℕ) → nat_eq n n ≡ true
    same n = grind (arith, nat_tests)

    first : (b : Bool) → b ≡ true → (if b then Some y else at port_key (port_key y) ys) ≡ Some y
    first true e = refl
    first false e = absurd (cc e)

    later : (port : PortNo) (x : Linked) → at port_key port.0 ys ≡ Some x → (b : Bool) → nat_eq (port_key y) port.0 ≡ b → P port
    later port x e true t = is port y (ap (λ (b : Bool). if b then Some y else at port_key port.0 ys) t)
    later port x e false t = is port x (ap (λ (b : Bool). if b then Some y else at port_key port.0 ys) t ∙ e)

pub each_setup : (P : PortNo → Type 0) (xs : List Linked) → Every (λ (x : Linked). P x.setup.port) xs → Every (λ (s : Setup). P s.port) (map (λ (x : Linked). x.setup) xs)
each_setup P [] h = tt
each_setup P (x ∷ xs) h = (h.0, each_setup P xs h.1)

-- *Branches*
module _ (setups : List Setup) (links : Every (λ (setup : Setup). IsLinkPort setup.port) setups) (L : PortNo → Type 0) (all : Every (λ (setup : Setup). L setup.port) setups) where
  record IsEndOf (end : End) : Type 0 where
    above : 1 ≤ end.port.0
    linked : L end.port
    vpi : end.channel.vpi < 16

  port_is : (port : PortNo) → IsLinked setups port → (1 ≤ port.0) × L port
  port_is port is = by (at setup_port port.0 setups) refl is
    where
      by : (o : Option Setup) → at setup_port port.0 setups ≡ o → is_some o ≡ true → (1 ≤ port.0) × L port
      by None found e = absurd (cc e)
      by (Some setup) found e =
          let key : setup.port.0 ≡ port.0 = at_key setup_port port.0 setups setup found in (
            subst (λ (n : ℕ). 1 ≤ n) key (at_every setup_port (λ (s : Setup). IsLinkPort s.port) port.0 setups setup links found).0,
            subst (λ (n : ℕ). L (record { 0 = n })) key (at_every setup_port (λ (s : Setup). L s.port) port.0 setups setup all found),
          )

  end_is : (end : End) → IsPortEnd setups end → IsEndOf end
  end_is _ (default port is) = (let p = port_is port is in record { above = p.0; linked = p.1; vpi = omega arith })
  end_is end (label _ is) =
      let h = label_has_home setups end links is in
      record {
        above = h.least;
        linked = subst (λ (e : End). L e.port) (sym is.is) (at_every setup_port (λ (s : Setup). L s.port) is.setup.port.0 setups is.setup all is.linked);
        vpi = h.vpi;
      }

  home_port : (end : End) → end.channel.vpi < 16 → port_on (home_of end).channel ≡ end.port
  home_port end low = ap (λ (n : ℕ). record { 0 = n }) (whole end.port.0 end.channel.vpi low)
    where
      whole : (p v : ℕ) → v < 16 → (16 * p + v) / 16 ≡ p
      whole p v less = omega (arith, less)

  pub leads_home : (input output : End) → IsShapedBranch setups input output → output.port.0 ≡ 0 → L (port_on output.channel)
  leads_home _ _ (home end is) zero = (let e = end_is end is in subst L (sym (home_port end e.vpi)) e.linked)
  leads_home _ _ (out end is) zero = (let above = (end_is end is).above in absurd (omega (arith, zero, above)))
  leads_home _ _ (joined input output i o) zero = (let above = (end_is output (label output o)).above in absurd (omega (arith, zero, above)))
