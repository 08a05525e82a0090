-- The linked ports of a router: found at their places, each with its part of the region.

use Rattle.std.proofs.Common.{◌≡◌, ℕ, zero, suc, ◌<◌, ◌≤◌, ◌||◌, nat_eq, Bool, true, false, List, [], ◌∷◌, length, get_or, set, map, Option, Some, None, refl, sym, ap, subst, ◌∙◌, arith, if◌then◌else◌}
use Rattle.std.proofs.lemmas.Bool.{eq-eqb}
use Rattle.std.proofs.lemmas.Bool.Decides.{nat_tests}
use Rattle.std.proofs.lemmas.List.Elements.{All-get_or}
use Rattle.std.proofs.lemmas.List.Kept.{AllPairs-from_increasing}
use Rattle.std.specs.Prelude.{is_some, option_map}
use Rattle.keyed_lists.specs.Keyed.{at, put}
use Rattle.net_types.specs.declared.node.PortNo.{PortNo}
use Rattle.net_types.specs.Number.{GivenOut}
use Rattle.link_model.specs.Notes.{Journal}
use Rattle.port_model.specs.Setup.{Setup}
use Rattle.port_model.specs.Port.{Work}
use Rattle.crossbar_model.specs.Channels.{ArePorts, IsLinkPort}
use Rattle.controller_link.specs.Cells as cells
use Rattle.controller_link.specs.Cells.{ControlCells, PortCells, is_channel, ranges_of}
use Rattle.controller_link.specs.declared.taker.Taker.{Taker}
use Rattle.controller_link.specs.declared.taker.Taker.TheVariants.{Default}
use Rattle.world_model.specs.controller_model.declared.range.PortRange.{PortRange}
use Rattle.world_model.specs.Controller as model
use Rattle.world_model.specs.Controller.{Acted, Linked, linked_at}
use Rattle.world_model.specs.Resets.{with_work}
use Rattle.controller_gsmp.specs.Client.{AreOneNode, Client, PortEnd, Router, acted, controller_of, end_key, end_port, linked_of, linked_ports}
use Rattle.controller_gsmp.proofs.Zipped as zipped
use Rattle.controller_gsmp.proofs.Zipped.{At, at_both, nowhere}
use Rattle.controller_gsmp.proofs.Sums.{ports_in as ports_within}
use Rattle.controller_router.specs.Node.{AreLinked, IsNowhere, IsPlaceOf, linked_range, ports_of, range_of}
use Rattle.controller_router.proofs.Keyed.{at_here, put_here}

-- *The numbers of the ports* ascend
number_at : (ends : List PortEnd) (k : ℕ) (d : PortEnd) (e : ℕ) → k < length ends → get_or (map (λ (p : PortNo). p.0) (ports_of ends)) k e ≡ (get_or ends k d).setup.port.0
number_at [] k d e within = absurd (omega (arith, within))
number_at (x ∷ ends) zero d e within = refl
number_at (x ∷ ends) (suc k) d e within = number_at ends k d e (omega (arith, within))

length-numbers : (ends : List PortEnd) → length (map (λ (p : PortNo). p.0) (ports_of ends)) ≡ length ends
length-numbers [] = refl
length-numbers (x ∷ ends) = ap suc (length-numbers ends)

pub length-ports : (ends : List PortEnd) → length (ports_of ends) ≡ length ends
length-ports [] = refl
length-ports (x ∷ ends) = ap suc (length-ports ends)

pub port_at : (ends : List PortEnd) (k : ℕ) (d : PortEnd) (e : PortNo) → k < length ends → get_or (ports_of ends) k e ≡ (get_or ends k d).setup.port
port_at [] k d e within = absurd (omega (arith, within))
port_at (x ∷ ends) zero d e within = refl
port_at (x ∷ ends) (suc k) d e within = port_at ends k d e (omega (arith, within))

below : (ends : List PortEnd) (j k : ℕ) (d : PortEnd) → ArePorts (ports_of ends) → j < k → k < length ends → (get_or ends j d).setup.port.0 < (get_or ends k d).setup.port.0
below ends j k d are low within =
    let size = length-numbers ends in
    let pair = AllPairs-from_increasing (map (λ (p : PortNo). p.0) (ports_of ends)) are.ascending j k 0 low (omega (arith, within, size)) in
    omega (arith, pair, number_at ends j d 0 (omega (arith, low, within)), number_at ends k d 0 within)

different : (x y : ℕ) → x < y → nat_eq x y ≡ false
different x y h = grind (arith, nat_tests)

-- *A port is found at its place*, and put there
pub end_at_place : (ends : List PortEnd) (port : PortNo) (k : ℕ) (d : PortEnd) → ArePorts (ports_of ends) → k < length ends → (get_or ends k d).setup.port.0 ≡ port.0 → at end_key port.0 ends ≡ Some (get_or ends k d)
end_at_place ends port k d are within here =
    at_here end_key port.0 ends k d within (eq-eqb _ _ here) (λ j lt. different _ _ (omega (arith, below ends j k d are lt within, here)))

pub put_at_place : (ends : List PortEnd) (k : ℕ) (d after : PortEnd) → ArePorts (ports_of ends) → k < length ends → after.setup.port ≡ (get_or ends k d).setup.port → set ends k after ≡ put end_key after ends
put_at_place ends k d after are within same =
    let number : after.setup.port.0 ≡ (get_or ends k d).setup.port.0 = ap (λ (p : PortNo). p.0) same in
    put_here end_key after ends k d within (eq-eqb _ _ (sym number)) (λ j lt. different _ _ (omega (arith, below ends j k d are lt within, number)))

either_false : (a b : Bool) → (a || b) ≡ false → (a ≡ false) × (b ≡ false)
either_false true b h = absurd (cc h)
either_false false b h = (refl, h)

pub at_nowhere : (ends : List PortEnd) (port : PortNo) → IsNowhere (ports_of ends) port → at end_key port.0 ends ≡ None
at_nowhere [] port h = refl
at_nowhere (end ∷ ends) port h =
    let both = either_false (nat_eq end.setup.port.0 port.0) _ h in
    rw both.0 (at_nowhere ends port both.1)

pub link_port : (ends : List PortEnd) (k : ℕ) (d : PortEnd) → ArePorts (ports_of ends) → k < length ends → IsLinkPort (get_or ends k d).setup.port
link_port ends k d are within = rw (port_at ends k d d.setup.port within) at (All-get_or IsLinkPort (ports_of ends) k d.setup.port (omega (arith, within, length-ports ends)) are.of_links)

above_all : (ends : List PortEnd) (port : PortNo) → ((k : ℕ) (d : PortEnd) → k < length ends → (get_or ends k d).setup.port.0 ≤ 8) → 8 < port.0 → at end_key port.0 ends ≡ None
above_all [] port low high = refl
above_all (end ∷ ends) port low high =
    let other : nat_eq end.setup.port.0 port.0 ≡ false = different _ _ (omega (arith, low zero end (omega arith), high)) in
    rw other (above_all ends port (λ k d lt. low (suc k) d (omega (arith, lt))) high)

pub at_above : (ends : List PortEnd) (port : PortNo) → ArePorts (ports_of ends) → 8 < port.0 → at end_key port.0 ends ≡ None
at_above ends port are high = above_all ends port (λ k d lt. (link_port ends k d are lt).1) high

-- *The region* has a part for each
ports_of_ranges : (ends : List PortEnd) → map (λ (range : PortRange). range.port) (map range_of ends) ≡ map end_port ends
ports_of_ranges [] = refl
ports_of_ranges (end ∷ ends) = ap (λ ports. end.setup.port ∷ ports) (ports_of_ranges ends)

pub one_node : (r : Router) (x : Client) → AreLinked r.ports x.control → AreOneNode r x
one_node r x linked = record { ports = ap (λ ranges. map (λ (range : PortRange). range.port) ranges) linked.ranges ∙ ports_of_ranges r.ports }

tails : (x y : PortRange) (xs ys : List PortRange) → x ∷ xs ≡ y ∷ ys → xs ≡ ys
tails x y xs ys e = cc e

zip_ranges : (ends : List PortEnd) (ports : List PortCells) → map (λ (port : PortCells). port.range) ports ≡ map range_of ends → map linked_range (linked_ports ends ports) ≡ map range_of ends
zip_ranges [] ports e = refl
zip_ranges (end ∷ ends) [] e = absurd (cc e)
zip_ranges (end ∷ ends) (port ∷ ports) e = ap (λ ranges. range_of end ∷ ranges) (zip_ranges ends ports (tails _ _ _ _ e))

pub ranges_zipped : (ends : List PortEnd) (control : ControlCells) → AreLinked ends control → map linked_range (linked_ports ends control.ports) ≡ ranges_of control
ranges_zipped ends control linked = zip_ranges ends control.ports linked.ranges ∙ sym linked.ranges

length-ranges : (ends : List PortEnd) (ports : List PortCells) → map (λ (port : PortCells). port.range) ports ≡ map range_of ends → map (λ (l : Linked). l.setup.port) (linked_ports ends ports) ≡ map end_port ends
length-ranges [] ports e = refl
length-ranges (end ∷ ends) [] e = absurd (cc e)
length-ranges (end ∷ ends) (port ∷ ports) e = ap (λ others. end.setup.port ∷ others) (length-ranges ends ports (tails _ _ _ _ e))

pub ports_zipped : (ends : List PortEnd) (control : ControlCells) → AreLinked ends control → map (λ (l : Linked). l.setup.port) (linked_ports ends control.ports) ≡ ports_of ends
ports_zipped ends control linked = length-ranges ends control.ports linked.ranges

-- what isn't among the ends isn't linked
pub none_zipped : (k : ℕ) (ends : List PortEnd) (ports : List PortCells) → at end_key k ends ≡ None → at model.port_key k (linked_ports ends ports) ≡ None
none_zipped k [] ports e = refl
none_zipped k (end ∷ ends) [] e = refl
none_zipped k (end ∷ ends) (port ∷ ports) e = by (nat_eq end.setup.port.0 k) e (none_zipped k ends ports) where
  by : (b : Bool) → (if b then Some end else at end_key k ends) ≡ None → (at end_key k ends ≡ None → at model.port_key k (linked_ports ends ports) ≡ None) → (if b then Some (linked_of end port) else at model.port_key k (linked_ports ends ports)) ≡ None
  by true is others = absurd (cc is)
  by false is others = others is

pub channel_is : (ends : List PortEnd) (control : ControlCells) (taker : Taker) → AreLinked ends control → is_channel (map linked_range (linked_ports ends control.ports)) taker ≡ is_channel (ranges_of control) taker
channel_is ends control taker linked = ap (λ ranges. is_channel ranges taker) (zip_ranges ends control.ports linked.ranges ∙ sym linked.ranges)

-- *An engine changes* in its place
heads : (x y : PortNo) (xs ys : List PortNo) → x ∷ xs ≡ y ∷ ys → x ≡ y
heads x y xs ys e = cc e

rests : (x y : PortNo) (xs ys : List PortNo) → x ∷ xs ≡ y ∷ ys → xs ≡ ys
rests x y xs ys e = cc e

pub put_ends : (k : ℕ) (ends : List PortEnd) (ports : List PortCells) (after : PortEnd) (part : PortCells) → ports_within ports ≡ map end_port ends → at cells.port_key k ports ≡ Some part → after.setup.port.0 ≡ k
    → linked_ports (put end_key after ends) ports ≡ put model.port_key (linked_of after part) (linked_ports ends ports)
put_ends k [] [] after part e found p = refl
put_ends k [] (port ∷ ports) after part e found p = absurd (cc e)
put_ends k (end ∷ ends) [] after part e found p = absurd (cc e)
put_ends k (end ∷ ends) (port ∷ ports) after part e found p =
    by (nat_eq end.setup.port.0 k) refl (ap (λ n. nat_eq end.setup.port.0 n) p) (ap (λ (o : PortNo). nat_eq o.0 k) (heads _ _ _ _ e)) found (λ rest. put_ends k ends ports after part (rests _ _ _ _ e) rest p)
  where
    by : (b : Bool) → nat_eq end.setup.port.0 k ≡ b → nat_eq end.setup.port.0 after.setup.port.0 ≡ nat_eq end.setup.port.0 k → nat_eq port.range.port.0 k ≡ nat_eq end.setup.port.0 k → (if nat_eq port.range.port.0 k then Some port else at cells.port_key k ports) ≡ Some part
        → (at cells.port_key k ports ≡ Some part → linked_ports (put end_key after ends) ports ≡ put model.port_key (linked_of after part) (linked_ports ends ports))
        → linked_ports (if nat_eq end.setup.port.0 after.setup.port.0 then after ∷ ends else end ∷ put end_key after ends) (port ∷ ports)
        ≡ (if nat_eq end.setup.port.0 after.setup.port.0 then linked_of after part ∷ linked_ports ends ports else linked_of end port ∷ put model.port_key (linked_of after part) (linked_ports ends ports))
    by true t f g is others =
        (let mine : Some port ≡ Some part = rw (g, t) at is in
        let same : port ≡ part = cc mine in
        rw (f, t) (ap (λ (other : PortCells). linked_of after other ∷ linked_ports ends ports) same))
    by false t f g is others =
        (let rest : at cells.port_key k ports ≡ Some part = rw (g, t) at is in
        rw (f, t) (ap (λ all. linked_of end port ∷ all) (others rest)))

-- what is known of a port that stands at a place
pub record Found (r : Router) (x : Client) (port : PortNo) (end : PortEnd) : Type 0 where
  pub part : PortCells
  pub holds : at cells.port_key port.0 x.control.ports ≡ Some part
  pub is : linked_at (controller_of r x) port ≡ Some (linked_of end part)
  pub own : end.setup.port ≡ port

pub found : (r : Router) (x : Client) (port : PortNo) (k : ℕ) (end : PortEnd) → AreLinked r.ports x.control → IsPlaceOf (ports_of r.ports) port k → end ≡ get_or r.ports k end → Found r x port end
found r x port k end linked place here = by (at_both port.0 r.ports x.control.ports (one_node r x linked).ports) where
  within : k < length r.ports
  within = omega (arith, place.within, length-ports r.ports)

  number : (get_or r.ports k end).setup.port.0 ≡ port.0
  number = ap (λ (p : PortNo). p.0) (sym (port_at r.ports k end end.setup.port within)) ∙ place.here end.setup.port

  there : at end_key port.0 r.ports ≡ Some end
  there = end_at_place r.ports port k end linked.ports within number ∙ ap (λ (e : PortEnd). Some e) (sym here)

  by : At port.0 r.ports x.control.ports → Found r x port end
  by (nowhere has holds is) = absurd (cc (sym there ∙ has))
  by (zipped.linked other part has holds is) =
      (let same : other ≡ end = cc (sym has ∙ there) in
      let own : end.setup.port.0 ≡ port.0 = ap (λ (e : PortEnd). e.setup.port.0) here ∙ number in
      record { part = part; holds = holds; is = is ∙ ap (λ (e : PortEnd). Some (linked_of e part)) same; own = λ i. record { 0 = own i } })

-- a controller with other ports
abbrev pub with_all : Router → Client → Journal → GivenOut → List Linked → Acted
with_all r x notes numbers ports = let a = acted r x notes numbers in record a { controller = record a.controller { ports = ports } }

pub worked : (r : Router) (x : Client) (notes : Journal) (numbers : GivenOut) (port : PortNo) (k : ℕ) (end after : PortEnd) (w : Work) → AreLinked r.ports x.control → IsPlaceOf (ports_of r.ports) port k → end ≡ get_or r.ports k end
    → (f : Found r x port end) → after.setup ≡ end.setup → after.port ≡ w.port
    → acted (record r { ports = set r.ports k after }) x notes (record numbers { instances = w.instances }) ≡ with_work (acted r x notes numbers) (linked_of end f.part) w
worked r x notes numbers port k end after w linked place here f setup port_is =
    let within : k < length r.ports = omega (arith, place.within, length-ports r.ports) in
    let same : after.setup.port ≡ (get_or r.ports k end).setup.port = ap (λ (s : Setup). s.port) setup ∙ ap (λ (e : PortEnd). e.setup.port) here in
    let own : after.setup.port.0 ≡ port.0 = ap (λ (p : PortNo). p.0) (ap (λ (s : Setup). s.port) setup ∙ f.own) in
    let placed : set r.ports k after ≡ put end_key after r.ports = put_at_place r.ports k end after linked.ports within same in
    let zipped : linked_ports (set r.ports k after) x.control.ports ≡ put model.port_key (linked_of after f.part) (linked_ports r.ports x.control.ports) =
    ap (λ ends. linked_ports ends x.control.ports) placed ∙ put_ends port.0 r.ports x.control.ports after f.part (one_node r x linked).ports f.holds own in
    let mine : linked_of after f.part ≡ record (linked_of end f.part) { port = w.port } = λ i. record { setup = setup i; port = port_is i; reassembly = f.part.reassembly; chains = f.part.chains } in
    ap (with_all r x notes (record numbers { instances = w.instances })) (zipped ∙ ap (λ (l : Linked). put model.port_key l (linked_ports r.ports x.control.ports)) mine)

-- the ports stay
pub ports_set : (ends : List PortEnd) (k : ℕ) (d after : PortEnd) → after.setup ≡ (get_or ends k d).setup → k < length ends → map (λ (end : PortEnd). end.setup) (set ends k after) ≡ map (λ (end : PortEnd). end.setup) ends
ports_set [] k d after e within = absurd (omega (arith, within))
ports_set (x ∷ ends) zero d after e within = ap (λ (s : Setup). s ∷ map (λ (end : PortEnd). end.setup) ends) e
ports_set (x ∷ ends) (suc k) d after e within = ap (λ others. x.setup ∷ others) (ports_set ends k d after e (omega (arith, within)))

by_setups : {B : Type 0} (f : Setup → B) (ends : List PortEnd) → map (λ (end : PortEnd). f end.setup) ends ≡ map f (map (λ (end : PortEnd). end.setup) ends)
by_setups f [] = refl
by_setups f (x ∷ ends) = ap (λ others. f x.setup ∷ others) (by_setups f ends)

pub same_by_setups : {B : Type 0} (f : Setup → B) (ends others : List PortEnd) → map (λ (end : PortEnd). end.setup) others ≡ map (λ (end : PortEnd). end.setup) ends → map (λ (end : PortEnd). f end.setup) others ≡ map (λ (end : PortEnd). f end.setup) ends
same_by_setups f ends others e = by_setups f others ∙ ap (map f) e ∙ sym (by_setups f ends)

pub still_linked : (ends others : List PortEnd) (control : ControlCells) → map (λ (end : PortEnd). end.setup) others ≡ map (λ (end : PortEnd). end.setup) ends → AreLinked ends control → AreLinked others control
still_linked ends others control e linked = record {
  ports = subst ArePorts (sym (same_by_setups (λ (s : Setup). s.port) ends others e)) linked.ports;
  ranges = linked.ranges ∙ sym (same_by_setups (λ (s : Setup). record { port = s.port; lo = s.least; hi = s.greatest }) ends others e);
}

-- a list of engines as it is seen
pub seen_set : {E : Type 0} (seen : E → PortEnd) (links : List E) (k : ℕ) (e : E) → map seen (set links k e) ≡ set (map seen links) k (seen e)
seen_set seen [] zero e = refl
seen_set seen [] (suc k) e = refl
seen_set seen (x ∷ links) zero e = refl
seen_set seen (x ∷ links) (suc k) e = ap (λ others. seen x ∷ others) (seen_set seen links k e)

pub seen_at : {E : Type 0} (seen : E → PortEnd) (links : List E) (k : ℕ) (d : E) → get_or (map seen links) k (seen d) ≡ seen (get_or links k d)
seen_at seen [] k d = refl
seen_at seen (x ∷ links) zero d = refl
seen_at seen (x ∷ links) (suc k) d = seen_at seen links k d

abbrev range_at_key : ℕ → List PortRange → Option PortRange
range_at_key k ranges = at cells.range_key k ranges

-- the default channel of a port is one of the control link's
range_found : (k : ℕ) (ends : List PortEnd) → range_at_key k (map range_of ends) ≡ option_map range_of (at end_key k ends)
range_found k [] = refl
range_found k (end ∷ ends) = by (nat_eq end.setup.port.0 k) (range_found k ends) where
  by : (b : Bool) → range_at_key k (map range_of ends) ≡ option_map range_of (at end_key k ends) → (if b then Some (range_of end) else range_at_key k (map range_of ends)) ≡ option_map range_of (if b then Some end else at end_key k ends)
  by true others = refl
  by false others = others

pub default_is : (ends : List PortEnd) (control : ControlCells) (k : ℕ) (end : PortEnd) → AreLinked ends control → k < length ends → end ≡ get_or ends k end → is_channel (ranges_of control) (Default end.setup.port) ≡ true
default_is ends control k end linked within here =
    let found = end_at_place ends end.setup.port k end linked.ports within (ap (λ (e : PortEnd). e.setup.port.0) (sym here)) in
    ap (λ ranges. is_some (range_at_key end.setup.port.0 ranges)) linked.ranges ∙ ap is_some (range_found end.setup.port.0 ends) ∙ ap (λ o. is_some (option_map range_of o)) found
