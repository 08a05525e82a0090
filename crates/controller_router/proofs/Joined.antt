-- Joins at a port: what they are to its label and to its grant, and that they ask nothing.

use Rattle.std.proofs.Common.{◌≡◌, ℕ, ◌<◌, List, [], length, get_or, set, map, fold, Option, Some, None, refl, sym, ap, subst, ◌∙◌, arith}
use Rattle.net_types.specs.declared.node.PortNo.{PortNo}
use Rattle.net_types.specs.declared.channel.End.{End}
use Rattle.net_types.specs.Number.{GivenOut}
use Rattle.link_model.specs.Notes.{Journal}
use Rattle.keyed_lists.specs.Keyed.{at}
use Rattle.port_model.specs.Grants.{Grant, grant_label}
use Rattle.port_model.specs.Joins.{given_back, joined, joins_label, lent, parted}
use Rattle.port_model.specs.Labels.{Label}
use Rattle.port_model.specs.Port.{Port, label_at}
use Rattle.port_model.specs.declared.action.Action.{Action}
use Rattle.world_model.specs.Controller.{Linked, linked_at}
use Rattle.world_model.specs.Performing.{at_port, performs_in_estab}
use Rattle.controller_gsmp.specs.Client.{PortEnd, linked_of}
use Rattle.controller_router.specs.Conditions.{CanWork, EachCanBePerformed}
use Rattle.controller_router.specs.Engine.{HasDone, begun}
use Rattle.controller_router.specs.Node.{AreLinked, IsPlaceOf, Node, acted, controller_of, end_at, ports_in}
use Rattle.controller_router.proofs.Linked.{end_at_place, length-ports, port_at, seen_at}
use Rattle.controller_router.proofs.AtWork.{node_found, rule_can, rule_done}

-- a label that is joined, or parted, asks nothing
joined_is : (old after : PortEnd) (given : ℕ) (join : Option End) (o : Option Label) → after.port ≡ (joins_label (begun old.port [] given) join o).port → HasDone old after [] given (joins_label (begun old.port [] given) join o)
joined_is old after given join None is = record { port = is; actions = refl; instances = refl }
joined_is old after given join (Some label) is = record { port = is; actions = refl; instances = refl }

lent_is : (old after : PortEnd) (given : ℕ) (grant : Grant) (input : End) → after.port ≡ (lent (begun old.port [] given) grant input).port → HasDone old after [] given (lent (begun old.port [] given) grant input)
lent_is old after given grant input is = record { port = is; actions = refl; instances = refl }

same_linked : (o : Option Linked) (found other : Linked) → o ≡ Some found → o ≡ Some other → found ≡ other
same_linked o found other is also = (let both : Some found ≡ Some other = sym is ∙ also in cc both)

module _ {E : Type 0} (seen : E → PortEnd) where
  -- what is known of a port that is linked is known of its engine
  pub at_engine : (P : Port → Type 0) (n : Node E) (port : PortNo) (k : ℕ) (e : E) → AreLinked (map seen n.links) n.client.control → IsPlaceOf (ports_in seen n) port k → e ≡ get_or n.links k e
      → ((linked : Linked) → linked_at (controller_of seen n) port ≡ Some linked → P linked.port) → P (seen e).port
  at_engine P n port k e linked place here known = (let f = node_found seen n port k e linked place here in known (linked_of (seen e) f.part) f.is)

  -- the port's grant is the engine's
  pub granted_at : (n : Node E) (port : PortNo) (k : ℕ) (e : E) (number : ℕ) (l : Linked) (grant : Grant) → AreLinked (map seen n.links) n.client.control → IsPlaceOf (ports_in seen n) port k → e ≡ get_or n.links k e
      → linked_at (controller_of seen n) port ≡ Some l → at grant_label number l.port.grants ≡ Some grant → at grant_label number (seen e).port.grants ≡ Some grant
  granted_at n port k e number l grant linked place here found granted =
      let f = node_found seen n port k e linked place here in
      let same : l ≡ linked_of (seen e) f.part = same_linked (linked_at (controller_of seen n) port) l (linked_of (seen e) f.part) found f.is in
      subst (λ (x : Linked). at grant_label number x.port.grants ≡ Some grant) same granted

  pub joined_done : (n : Node E) (notes : Journal) (numbers : GivenOut) (port : PortNo) (k : ℕ) (e after : E) (number : ℕ) (output : End)
      → AreLinked (map seen n.links) n.client.control → IsPlaceOf (ports_in seen n) port k → e ≡ get_or n.links k e → (seen after).setup ≡ (seen e).setup → ((given : ℕ) → (seen after).port ≡ (joined (begun (seen e).port [] given) number output).port)
      → acted seen (record n { links = set n.links k after }) notes numbers ≡ at_port (acted seen n notes numbers) port (λ setup desk w. joined w number output)
  joined_done n notes numbers port k e after number output linked place here setup is =
      rule_done seen (λ setup desk w. joined w number output) n notes numbers port k e after [] linked place here setup
      (joined_is (seen e) (seen after) numbers.instances (Some output) (label_at (seen e).port number) (is numbers.instances))

  pub parted_done : (n : Node E) (notes : Journal) (numbers : GivenOut) (port : PortNo) (k : ℕ) (e after : E) (number : ℕ)
      → AreLinked (map seen n.links) n.client.control → IsPlaceOf (ports_in seen n) port k → e ≡ get_or n.links k e → (seen after).setup ≡ (seen e).setup → ((given : ℕ) → (seen after).port ≡ (parted (begun (seen e).port [] given) number).port)
      → acted seen (record n { links = set n.links k after }) notes numbers ≡ at_port (acted seen n notes numbers) port (λ setup desk w. parted w number)
  parted_done n notes numbers port k e after number linked place here setup is =
      rule_done seen (λ setup desk w. parted w number) n notes numbers port k e after [] linked place here setup
      (joined_is (seen e) (seen after) numbers.instances None (label_at (seen e).port number) (is numbers.instances))

  pub lent_done : (n : Node E) (notes : Journal) (numbers : GivenOut) (port : PortNo) (k : ℕ) (e after : E) (grant : Grant) (input : End)
      → AreLinked (map seen n.links) n.client.control → IsPlaceOf (ports_in seen n) port k → e ≡ get_or n.links k e → (seen after).setup ≡ (seen e).setup → ((given : ℕ) → (seen after).port ≡ (lent (begun (seen e).port [] given) grant input).port)
      → acted seen (record n { links = set n.links k after }) notes numbers ≡ at_port (acted seen n notes numbers) port (λ setup desk w. lent w grant input)
  lent_done n notes numbers port k e after grant input linked place here setup is =
      rule_done seen (λ setup desk w. lent w grant input) n notes numbers port k e after [] linked place here setup
      (lent_is (seen e) (seen after) numbers.instances grant input (is numbers.instances))

  -- a grant that is given back, and what is asked then
  pub back_can : (n : Node E) (notes : Journal) (numbers : GivenOut) (port : PortNo) (k : ℕ) (e after : E) (out : List Action) (number : ℕ) (grant : Grant)
      → AreLinked (map seen n.links) n.client.control → IsPlaceOf (ports_in seen n) port k → e ≡ get_or n.links k e → (seen after).setup ≡ (seen e).setup
      → at grant_label number (seen e).port.grants ≡ Some grant → HasDone (seen e) (seen after) out numbers.instances (given_back (begun (seen e).port [] numbers.instances) grant)
      → ((l : Linked) (g : Grant) → linked_at (controller_of seen n) port ≡ Some l → at grant_label number l.port.grants ≡ Some g → CanWork (acted seen n notes numbers) port (λ setup desk w. given_back w g))
      → EachCanBePerformed port (acted seen (record n { links = set n.links k after }) notes numbers) out
  back_can n notes numbers port k e after out number grant linked place here setup granted done can =
      let f = node_found seen n port k e linked place here in
      rule_can seen (λ setup desk w. given_back w grant) n notes numbers port k e after out linked place here setup done (can (linked_of (seen e) f.part) grant f.is granted)

  pub back_done : (n : Node E) (notes : Journal) (numbers : GivenOut) (port : PortNo) (k : ℕ) (e after : E) (out : List Action) (grant : Grant)
      → AreLinked (map seen n.links) n.client.control → IsPlaceOf (ports_in seen n) port k → e ≡ get_or n.links k e → (seen after).setup ≡ (seen e).setup
      → HasDone (seen e) (seen after) out numbers.instances (given_back (begun (seen e).port [] numbers.instances) grant)
      → fold (performs_in_estab port) (acted seen (record n { links = set n.links k after }) notes numbers) out ≡ at_port (acted seen n notes numbers) port (λ setup desk w. given_back w grant)
  back_done n notes numbers port k e after out grant linked place here setup done = rule_done seen (λ setup desk w. given_back w grant) n notes numbers port k e after out linked place here setup done

  -- *What is lent*: the engine that is found is the port's
  pub engine_found : (n : Node E) (port : PortNo) (k : ℕ) (e : E) → AreLinked (map seen n.links) n.client.control → IsPlaceOf (ports_in seen n) port k → e ≡ get_or n.links k e → end_at seen n port ≡ Some (seen e)
  engine_found n port k e linked place here =
      let ends : List PortEnd = map seen n.links in
      let within : k < length ends = omega (arith, place.within, length-ports ends) in
      let number : (get_or ends k (seen e)).setup.port.0 ≡ port.0 = ap (λ (p : PortNo). p.0) (sym (port_at ends k (seen e) (seen e).setup.port within)) ∙ place.here (seen e).setup.port in
      end_at_place ends port k (seen e) linked.ports within number ∙ ap (λ (x : PortEnd). Some x) (seen_at seen n.links k e ∙ ap seen (sym here))
