-- A port at work: its engine changes in its place, and what it asks is done in order.

use Rattle.std.proofs.Common.{◌≡◌, ◌≢◌, ℕ, zero, suc, ◌+◌, ◌<◌, ◌≤◌, ◌^◌, ◌==◌, ◌&&◌, ◌⊎◌, nat_eq, Bool, true, false, inl, inr, List, [], ◌∷◌, length, drop, get_or, set, map, fold, Option, Some, None, refl, sym, ap, subst, ◌∙◌, arith, if◌then◌else◌}
use Rattle.net_types.specs.declared.node.PortNo.{PortNo}
use Rattle.net_types.specs.Number.{GivenOut, with_instance}
use Rattle.link_model.specs.Notes.{Journal}
use Rattle.port_model.specs.declared.action.Action.{Action}
use Rattle.port_model.specs.Setup.{Setup}
use Rattle.port_model.specs.Port.{Work}
use Rattle.port_model.specs.Labels.{Label}
use Rattle.port_model.specs.Port.{label_at}
use Rattle.port_model.specs.Counting.{used, used_label}
use Rattle.port_state.specs.Engine.{flow_at}
use Rattle.port_model.specs.Ticks as port_ticks
use Rattle.adjacency_table.specs.Side.{is_estab}
use Rattle.port_model.specs.Messages.{is_up}
use Rattle.port_model.specs.Saying.{halts_if_spent, is_spent}
use Rattle.world_model.specs.Ticks.{ticks_port}
use Rattle.world_model.specs.Joins.{resets_spent}
use Rattle.world_model.specs.Meeting.{awaits_nothing, clears_of, clears_port, is_clearing, may_clear}
use Rattle.controller_router.specs.Meeting.{CanResetSpent}
use Rattle.port_model.specs.Resets.{cleared, resets, restarts}
use Rattle.std.proofs.lemmas.List.{length-map}
use Rattle.crossbar_model.specs.Channels.{ArePorts, IsLinkPort}
use Rattle.controller_link.specs.Cells.{ControlCells, is_channel, ranges_of}
use Rattle.controller_link.specs.declared.taker.Taker.TheVariants.{Default}
use Rattle.world_model.specs.controller_model.declared.range.PortRange.{PortRange}
use Rattle.world_model.specs.Controller as model
use Rattle.world_model.specs.Controller.{Acted, Linked, linked_at, with_linked}
use Rattle.world_model.specs.Resets.{closes_by, port_restarts, port_restarts_of, resets_gsmp, with_work}
use Rattle.world_model.specs.Performing.{Rule, at_port, does_in_estab, performs_in_estab, resets_of, resets_port, works}
use Rattle.controller_gsmp.specs.Client as client
use Rattle.controller_gsmp.specs.Client.{PortEnd, Router, end_key, linked_of}
use Rattle.keyed_lists.specs.Keyed.{at, put}
use Rattle.controller_router.specs.Conditions.{AllCanClose, CanResetPort, CanWork, CutsItsLabels, EachCanBeDone, EachCanBePerformed}
use Rattle.controller_router.specs.Engine.{HasDone, begun}
use Rattle.controller_router.specs.Node.{AreLinked, ArePlaces, IsPlaceOf, Node, acted, controller_of, ports_in, ports_of, ranges_in, router_of}
use Rattle.controller_router.proofs.Linked.{Found, default_is, found, length-ports, link_port, none_zipped, port_at, ports_set, ports_zipped, ranges_zipped, same_by_setups, seen_at, seen_set, still_linked, worked}

abbrev pub setups_of : List PortEnd → List Setup
setups_of ends = map (λ (end : PortEnd). end.setup) ends

-- a label in use asks nothing
used_is : (old after : PortEnd) (given : ℕ) (number : ℕ) (o : Option Label) → after.port ≡ (used_label (begun old.port [] given) o).port → HasDone old after [] given (used_label (begun old.port [] given) o)
used_is old after given number None is = record { port = is; actions = refl; instances = refl }
used_is old after given number (Some label) is = record { port = is; actions = refl; instances = refl }

-- a port that is to be cleared, and one that isn't
clears_is : (a : Acted) (linked : Linked) → may_clear a.controller linked ≡ true → with_linked a (record linked { port = cleared linked.port }) ≡ clears_of a (Some linked)
clears_is a linked may = rw may refl

clears_not : (a : Acted) (linked : Linked) → may_clear a.controller linked ≡ false → a ≡ clears_of a (Some linked)
clears_not a linked may = rw may refl

-- a port that is put back as it stands
put_same : {A : Type 0} (key : A → ℕ) (x : A) (xs : List A) → at key (key x) xs ≡ Some x → put key x xs ≡ xs
put_same key x [] e = refl
put_same key x (y ∷ ys) e = by (nat_eq (key y) (key x)) e (put_same key x ys) where
  by : (b : Bool) → (if b then Some y else at key (key x) ys) ≡ Some x → (at key (key x) ys ≡ Some x → put key x ys ≡ ys) → (if b then x ∷ ys else y ∷ put key x ys) ≡ y ∷ ys
  by true is others = (let same : y ≡ x = cc is in ap (λ z. z ∷ ys) (sym same))
  by false is others = ap (λ zs. y ∷ zs) (others is)

unchanged : (a : Acted) (linked : Linked) → linked_at a.controller linked.setup.port ≡ Some linked → with_linked a linked ≡ a
unchanged a linked found = (λ i. record a { controller = record a.controller { ports = put_same model.port_key linked a.controller.ports found i } })

own_found : (a : Acted) (linked : Linked) (port : PortNo) → linked_at a.controller port ≡ Some linked → linked.setup.port ≡ port → linked_at a.controller linked.setup.port ≡ Some linked
own_found a linked port found own = ap (λ (p : PortNo). linked_at a.controller p) own ∙ found

-- a port whose numbers are spent, in Estab and else, and one with numbers left
spent_is : (a : Acted) (linked : Linked) → linked_at a.controller linked.setup.port ≡ Some linked → is_spent linked.port.session ≡ true → is_estab a.controller.adjacency.state ≡ true → resets_port a linked.setup.port ≡ works a (λ setup desk w. halts_if_spent w) (Some linked)
spent_is a linked found spent estab =
    let same = unchanged a linked found in
    rw (spent, estab) (ap (λ (b : Acted). resets_port b linked.setup.port) (sym same))

both_false : (x y : Bool) → (x && y) ≡ false → (x ≡ false) ⊎ (y ≡ false)
both_false true y h = inr h
both_false false y h = inl refl

spent_not : (a : Acted) (linked : Linked) → linked_at a.controller linked.setup.port ≡ Some linked → (is_spent linked.port.session && is_estab a.controller.adjacency.state) ≡ false → a ≡ works a (λ setup desk w. halts_if_spent w) (Some linked)
spent_not a linked found stays = by (is_spent linked.port.session) (is_estab a.controller.adjacency.state) refl refl stays where
  same : a ≡ with_linked a linked
  same = sym (unchanged a linked found)

  by : (spent estab : Bool) → is_spent linked.port.session ≡ spent → is_estab a.controller.adjacency.state ≡ estab → (spent && estab) ≡ false → a ≡ works a (λ setup desk w. halts_if_spent w) (Some linked)
  by true true p q h = absurd (cc h)
  by true false p q h = rw (p, q) same
  by false estab p q h = rw p same

module _ {E : Type 0} (seen : E → PortEnd) where
  is_seen : (links : List E) (k : ℕ) (e : E) → e ≡ get_or links k e → seen e ≡ get_or (map seen links) k (seen e)
  is_seen links k e here = ap seen here ∙ sym (seen_at seen links k e)

  -- what stays the same of the ports does
  pub setups_after : (links : List E) (port : PortNo) (k : ℕ) (e after : E) → IsPlaceOf (ports_of (map seen links)) port k → e ≡ get_or links k e → (seen after).setup ≡ (seen e).setup → setups_of (map seen (set links k after)) ≡ setups_of (map seen links)
  setups_after links port k e after place here setup =
      ap setups_of (seen_set seen links k after)
      ∙ ports_set (map seen links) k (seen e) (seen after) (setup ∙ ap (λ (end : PortEnd). end.setup) (is_seen links k e here)) (omega (arith, place.within, length-ports (map seen links)))

  pub ports_after : (links : List E) (port : PortNo) (k : ℕ) (e after : E) → IsPlaceOf (ports_of (map seen links)) port k → e ≡ get_or links k e → (seen after).setup ≡ (seen e).setup → ports_of (map seen (set links k after)) ≡ ports_of (map seen links)
  ports_after links port k e after place here setup = same_by_setups (λ (s : Setup). s.port) (map seen links) (map seen (set links k after)) (setups_after links port k e after place here setup)

  pub linked_after : (links : List E) (control : ControlCells) (port : PortNo) (k : ℕ) (e after : E) → AreLinked (map seen links) control → IsPlaceOf (ports_of (map seen links)) port k → e ≡ get_or links k e → (seen after).setup ≡ (seen e).setup → AreLinked (map seen (set links k after)) control
  linked_after links control port k e after linked place here setup = still_linked (map seen links) (map seen (set links k after)) control (setups_after links port k e after place here setup) linked

  pub places_after : (links : List E) (places : List (Option ℕ)) (port : PortNo) (k : ℕ) (e after : E) → ArePlaces (ports_of (map seen links)) places → IsPlaceOf (ports_of (map seen links)) port k → e ≡ get_or links k e → (seen after).setup ≡ (seen e).setup → ArePlaces (ports_of (map seen (set links k after))) places
  places_after links places port k e after kept place here setup = subst (λ (ports : List PortNo). ArePlaces ports places) (sym (ports_after links port k e after place here setup)) kept

  -- the port is linked
  pub node_found : (n : Node E) (port : PortNo) (k : ℕ) (e : E) → AreLinked (map seen n.links) n.client.control → IsPlaceOf (ports_in seen n) port k → e ≡ get_or n.links k e → Found (router_of seen n) n.client port (seen e)
  node_found n port k e linked place here = found (router_of seen n) n.client port k (seen e) linked place (is_seen n.links k e here)

  -- its engine has done a rule, and is put back
  placed_is : (n : Node E) (notes : Journal) (numbers : GivenOut) (port : PortNo) (k : ℕ) (e after : E) (out : List Action) (given : ℕ) (w : Work)
      → AreLinked (map seen n.links) n.client.control → IsPlaceOf (ports_in seen n) port k → e ≡ get_or n.links k e → (f : Found (router_of seen n) n.client port (seen e)) → (seen after).setup ≡ (seen e).setup → HasDone (seen e) (seen after) out given w
      → acted seen (record n { links = set n.links k after }) notes (record numbers { instances = given }) ≡ with_work (acted seen n notes numbers) (linked_of (seen e) f.part) w
  placed_is n notes numbers port k e after out given w linked place here f setup done =
      let r : Router = router_of seen n in
      (λ i. record { controller = client.controller_of (record r { ports = seen_set seen n.links k after i }) n.client; notes = notes; numbers = record numbers { instances = done.instances i } })
      ∙ worked r n.client notes numbers port k (seen e) (seen after) w linked place (is_seen n.links k e here) f setup done.port

  -- what it asks is done
  pub all_done : (n : Node E) (notes : Journal) (numbers : GivenOut) (port : PortNo) (k : ℕ) (e after : E) (out : List Action) (given : ℕ) (w : Work) (step : PortNo → Acted → Action → Acted)
      → AreLinked (map seen n.links) n.client.control → IsPlaceOf (ports_in seen n) port k → e ≡ get_or n.links k e → (f : Found (router_of seen n) n.client port (seen e)) → (seen after).setup ≡ (seen e).setup → HasDone (seen e) (seen after) out given w
      → fold (step port) (acted seen (record n { links = set n.links k after }) notes (record numbers { instances = given })) out ≡ fold (step (seen e).setup.port) (with_work (acted seen n notes numbers) (linked_of (seen e) f.part) w) w.actions
  all_done n notes numbers port k e after out given w step linked place here f setup done =
      let placed = placed_is n notes numbers port k e after out given w linked place here f setup done in
      λ i. fold (step (sym f.own i)) (placed i) (done.actions i)

  -- *A port restarts*
  pub restart_done : (n : Node E) (notes : Journal) (numbers : GivenOut) (port : PortNo) (k : ℕ) (e after : E) (out : List Action)
      → AreLinked (map seen n.links) n.client.control → IsPlaceOf (ports_in seen n) port k → e ≡ get_or n.links k e → (seen after).setup ≡ (seen e).setup → HasDone (seen e) (seen after) out (numbers.instances + 1) (restarts (seen e).setup (begun (seen e).port [] numbers.instances))
      → fold (closes_by port) (acted seen (record n { links = set n.links k after }) notes (with_instance numbers)) out ≡ port_restarts (acted seen n notes numbers) port
  restart_done n notes numbers port k e after out linked place here setup done =
      let f = node_found n port k e linked place here in
      all_done n notes numbers port k e after out (numbers.instances + 1) (restarts (seen e).setup (begun (seen e).port [] numbers.instances)) closes_by linked place here f setup done
      ∙ ap (port_restarts_of (acted seen n notes numbers)) (sym f.is)

  -- and cuts chains of its labels alone
  pub ranges_are : (n : Node E) → AreLinked (map seen n.links) n.client.control → ranges_in seen n ≡ ranges_of n.client.control
  ranges_are n linked = ranges_zipped (map seen n.links) n.client.control linked

  pub closes_its : (n : Node E) (notes : Journal) (numbers : GivenOut) (port : PortNo) (k : ℕ) (e after : E) (out : List Action)
      → AreLinked (map seen n.links) n.client.control → IsPlaceOf (ports_in seen n) port k → e ≡ get_or n.links k e → (seen after).setup ≡ (seen e).setup → HasDone (seen e) (seen after) out (numbers.instances + 1) (restarts (seen e).setup (begun (seen e).port [] numbers.instances))
      → CutsItsLabels (acted seen n notes numbers) port → AllCanClose (ranges_in seen (record n { links = set n.links k after })) port out
  closes_its n notes numbers port k e after out linked place here setup done cuts =
      let f = node_found n port k e linked place here in
      let after_linked = linked_after n.links n.client.control port k e after linked place here setup in
      subst (λ (ranges : List PortRange). AllCanClose ranges port out) (ranges_are n linked ∙ sym (ranges_are (record n { links = set n.links k after }) after_linked))
      (subst (λ (actions : List Action). AllCanClose (ranges_in seen n) port actions) (sym done.actions) (cuts (linked_of (seen e) f.part) f.is))

  -- a port that isn't linked
  pub unlinked : (n : Node E) (port : PortNo) → at end_key port.0 (map seen n.links) ≡ None → linked_at (controller_of seen n) port ≡ None
  unlinked n port none = none_zipped port.0 (map seen n.links) n.client.control.ports none

  -- *Each port in turn*
  behind : (links : List E) (k : ℕ) (e : E) → k < length links → e ≡ get_or links k e → drop k (ports_of (map seen links)) ≡ (seen e).setup.port ∷ drop (suc k) (ports_of (map seen links))
  behind [] k e within here = absurd (omega (arith, within))
  behind (x ∷ links) zero e within here = ap (λ (y : E). (seen y).setup.port ∷ ports_of (map seen links)) (sym here)
  behind (x ∷ links) (suc k) e within here = behind links k e (omega (arith, within)) here

  pub port_behind : (n : Node E) (k : ℕ) (e : E) → k < length n.links → e ≡ get_or n.links k e → drop k (ports_in seen n) ≡ (seen e).setup.port ∷ drop (k + 1) (ports_in seen n)
  port_behind n k e within here =
      let next : suc k ≡ k + 1 = omega arith in
      behind n.links k e within here ∙ ap (λ m. (seen e).setup.port ∷ drop m (ports_in seen n)) next

  pub length-ports_of : (links : List E) → length (ports_of (map seen links)) ≡ length links
  length-ports_of [] = refl
  length-ports_of (x ∷ links) = ap suc (length-ports_of links)

  pub length-ports_in : (n : Node E) → length (ports_in seen n) ≡ length n.links
  length-ports_in n = length-ports_of n.links

  -- *A node reset* begins each port of the controller anew
  pub ports_are : (n : Node E) → AreLinked (map seen n.links) n.client.control → model.ports_of (controller_of seen n) ≡ ports_in seen n
  ports_are n linked = ports_zipped (map seen n.links) n.client.control linked

  pub ports_before : (n begun : Node E) (notes : Journal) (numbers given : GivenOut) → AreLinked (map seen begun.links) begun.client.control → begun.links ≡ n.links → acted seen begun notes given ≡ resets_gsmp (acted seen n notes numbers) → model.ports_of (controller_of seen n) ≡ ports_in seen n
  ports_before n begun notes numbers given linked same is =
      ap (λ (a : Acted). model.ports_of a.controller) (sym is) ∙ ports_are begun linked ∙ ap (λ (links : List E). ports_of (map seen links)) same

  -- *A port is reset*
  pub reset_done : (n : Node E) (notes : Journal) (numbers : GivenOut) (port : PortNo) (k : ℕ) (e after : E) (out : List Action)
      → AreLinked (map seen n.links) n.client.control → IsPlaceOf (ports_in seen n) port k → e ≡ get_or n.links k e → (seen after).setup ≡ (seen e).setup → HasDone (seen e) (seen after) out (numbers.instances + 1) (resets (seen e).setup (begun (seen e).port [] numbers.instances))
      → fold (does_in_estab port) (acted seen (record n { links = set n.links k after }) notes (with_instance numbers)) out ≡ resets_port (acted seen n notes numbers) port
  reset_done n notes numbers port k e after out linked place here setup done =
      let f = node_found n port k e linked place here in
      all_done n notes numbers port k e after out (numbers.instances + 1) (resets (seen e).setup (begun (seen e).port [] numbers.instances)) does_in_estab linked place here f setup done
      ∙ ap (resets_of (acted seen n notes numbers)) (sym f.is)

  -- the conditions of what it asks, where they hold of the rule's actions
  each_can : (Each : PortNo → Acted → List Action → Type 0) (n : Node E) (notes : Journal) (numbers : GivenOut) (port : PortNo) (k : ℕ) (e after : E) (out : List Action) (given : ℕ) (w : Work)
      → AreLinked (map seen n.links) n.client.control → IsPlaceOf (ports_in seen n) port k → e ≡ get_or n.links k e → (f : Found (router_of seen n) n.client port (seen e)) → (seen after).setup ≡ (seen e).setup → HasDone (seen e) (seen after) out given w
      → Each port (with_work (acted seen n notes numbers) (linked_of (seen e) f.part) w) w.actions → Each port (acted seen (record n { links = set n.links k after }) notes (record numbers { instances = given })) out
  each_can Each n notes numbers port k e after out given w linked place here f setup done can =
      subst (λ (a : Acted). Each port a out) (sym (placed_is n notes numbers port k e after out given w linked place here f setup done)) (subst (λ (actions : List Action). Each port (with_work (acted seen n notes numbers) (linked_of (seen e) f.part) w) actions) (sym done.actions) can)

  pub reset_can : (n : Node E) (notes : Journal) (numbers : GivenOut) (port : PortNo) (k : ℕ) (e after : E) (out : List Action)
      → AreLinked (map seen n.links) n.client.control → IsPlaceOf (ports_in seen n) port k → e ≡ get_or n.links k e → (seen after).setup ≡ (seen e).setup → HasDone (seen e) (seen after) out (numbers.instances + 1) (resets (seen e).setup (begun (seen e).port [] numbers.instances))
      → CanResetPort (acted seen n notes numbers) port → EachCanBeDone port (acted seen (record n { links = set n.links k after }) notes (with_instance numbers)) out
  reset_can n notes numbers port k e after out linked place here setup done can =
      let f = node_found n port k e linked place here in
      each_can EachCanBeDone n notes numbers port k e after out (numbers.instances + 1) (resets (seen e).setup (begun (seen e).port [] numbers.instances)) linked place here f setup done (can (linked_of (seen e) f.part) f.is).actions

  pub reset_instance : (n : Node E) (notes : Journal) (numbers : GivenOut) (port : PortNo) (k : ℕ) (e : E) → AreLinked (map seen n.links) n.client.control → IsPlaceOf (ports_in seen n) port k → e ≡ get_or n.links k e
      → CanResetPort (acted seen n notes numbers) port → numbers.instances + 1 < 2 ^ 32
  reset_instance n notes numbers port k e linked place here can = (let f = node_found n port k e linked place here in (can (linked_of (seen e) f.part) f.is).instance)

  -- *A rule at a port*
  pub rule_done : (rule : Rule) (n : Node E) (notes : Journal) (numbers : GivenOut) (port : PortNo) (k : ℕ) (e after : E) (out : List Action)
      → AreLinked (map seen n.links) n.client.control → IsPlaceOf (ports_in seen n) port k → e ≡ get_or n.links k e → (seen after).setup ≡ (seen e).setup → HasDone (seen e) (seen after) out numbers.instances (rule (seen e).setup n.client.desk (begun (seen e).port [] numbers.instances))
      → fold (performs_in_estab port) (acted seen (record n { links = set n.links k after }) notes numbers) out ≡ at_port (acted seen n notes numbers) port rule
  rule_done rule n notes numbers port k e after out linked place here setup done =
      let f = node_found n port k e linked place here in
      all_done n notes numbers port k e after out numbers.instances (rule (seen e).setup n.client.desk (begun (seen e).port [] numbers.instances)) performs_in_estab linked place here f setup done
      ∙ ap (works (acted seen n notes numbers) rule) (sym f.is)

  pub rule_can : (rule : Rule) (n : Node E) (notes : Journal) (numbers : GivenOut) (port : PortNo) (k : ℕ) (e after : E) (out : List Action)
      → AreLinked (map seen n.links) n.client.control → IsPlaceOf (ports_in seen n) port k → e ≡ get_or n.links k e → (seen after).setup ≡ (seen e).setup → HasDone (seen e) (seen after) out numbers.instances (rule (seen e).setup n.client.desk (begun (seen e).port [] numbers.instances))
      → CanWork (acted seen n notes numbers) port rule → EachCanBePerformed port (acted seen (record n { links = set n.links k after }) notes numbers) out
  rule_can rule n notes numbers port k e after out linked place here setup done can =
      let f = node_found n port k e linked place here in
      each_can EachCanBePerformed n notes numbers port k e after out numbers.instances (rule (seen e).setup n.client.desk (begun (seen e).port [] numbers.instances)) linked place here f setup done (can (linked_of (seen e) f.part) f.is)

  pub tick_done : (n : Node E) (notes : Journal) (numbers : GivenOut) (port : PortNo) (k : ℕ) (e after : E) (out : List Action)
      → AreLinked (map seen n.links) n.client.control → IsPlaceOf (ports_in seen n) port k → e ≡ get_or n.links k e → (seen after).setup ≡ (seen e).setup → HasDone (seen e) (seen after) out numbers.instances (port_ticks.ticks (seen e).setup n.client.desk (begun (seen e).port [] numbers.instances))
      → fold (performs_in_estab port) (acted seen (record n { links = set n.links k after }) notes numbers) out ≡ ticks_port (acted seen n notes numbers) port
  tick_done n notes numbers port k e after out linked place here setup done = rule_done port_ticks.ticks n notes numbers port k e after out linked place here setup done

  -- *A rule that asks nothing*
  quiet_done : (rule : Rule) (n : Node E) (notes : Journal) (numbers : GivenOut) (port : PortNo) (k : ℕ) (e after : E)
      → AreLinked (map seen n.links) n.client.control → IsPlaceOf (ports_in seen n) port k → e ≡ get_or n.links k e → (seen after).setup ≡ (seen e).setup → HasDone (seen e) (seen after) [] numbers.instances (rule (seen e).setup n.client.desk (begun (seen e).port [] numbers.instances))
      → acted seen (record n { links = set n.links k after }) notes numbers ≡ at_port (acted seen n notes numbers) port rule
  quiet_done rule n notes numbers port k e after linked place here setup done = rule_done rule n notes numbers port k e after [] linked place here setup done

  pub used_done : (n : Node E) (notes : Journal) (numbers : GivenOut) (port : PortNo) (k : ℕ) (e after : E) (number : ℕ)
      → AreLinked (map seen n.links) n.client.control → IsPlaceOf (ports_in seen n) port k → e ≡ get_or n.links k e → (seen after).setup ≡ (seen e).setup → ((given : ℕ) → (seen after).port ≡ (used (begun (seen e).port [] given) number).port)
      → acted seen (record n { links = set n.links k after }) notes numbers ≡ at_port (acted seen n notes numbers) port (λ setup desk w. used w number)
  used_done n notes numbers port k e after number linked place here setup is = quiet_done (λ setup desk w. used w number) n notes numbers port k e after linked place here setup
      (used_is (seen e) (seen after) numbers.instances number (label_at (seen e).port number) (is numbers.instances))

  pub is_bound_at : (n : Node E) (port : PortNo) (k : ℕ) (e : E) (number : ℕ) → AreLinked (map seen n.links) n.client.control → IsPlaceOf (ports_in seen n) port k → e ≡ get_or n.links k e
      → ((linked : Linked) → linked_at (controller_of seen n) port ≡ Some linked → flow_at linked.port number ≢ None) → flow_at (seen e).port number ≢ None
  is_bound_at n port k e number linked place here bound = (let f = node_found n port k e linked place here in bound (linked_of (seen e) f.part) f.is)

  pub default_at : (n : Node E) (k : ℕ) (e : E) → AreLinked (map seen n.links) n.client.control → k < length n.links → e ≡ get_or n.links k e → is_channel (ranges_in seen n) (Default (seen e).setup.port) ≡ true
  default_at n k e linked within here =
      let inside : k < length (map seen n.links) = rw (length-map n.links seen) within in
      ap (λ ranges. is_channel ranges (Default (seen e).setup.port)) (ranges_are n linked) ∙ default_is (map seen n.links) n.client.control k (seen e) linked inside (is_seen n.links k e here)

  -- *The port* of an engine at a place
  pub port_of_link : (links : List E) (k : ℕ) (e : E) → k < length links → e ≡ get_or links k e → (seen e).setup.port ≡ get_or (ports_of (map seen links)) k (seen e).setup.port
  port_of_link links k e within here =
      let inside : k < length (map seen links) = rw (length-map links seen) within in
      ap (λ (end : PortEnd). end.setup.port) (is_seen links k e here) ∙ sym (port_at (map seen links) k (seen e) (seen e).setup.port inside)

  pub port_is_low : (links : List E) (k : ℕ) (e : E) → ArePorts (ports_of (map seen links)) → k < length links → e ≡ get_or links k e → (seen e).setup.port.0 ≤ 8
  port_is_low links k e are within here =
      let inside : k < length (map seen links) = rw (length-map links seen) within in
      let low = (link_port (map seen links) k (seen e) are inside).1 in
      subst (λ (end : PortEnd). end.setup.port.0 ≤ 8) (sym (is_seen links k e here)) low

  pub port_of_place : (links : List E) (k : ℕ) (e : E) (d : PortNo) → k < length links → e ≡ get_or links k e → get_or (ports_of (map seen links)) k d ≡ (seen e).setup.port
  port_of_place links k e d within here =
      let inside : k < length (map seen links) = rw (length-map links seen) within in
      port_at (map seen links) k (seen e) d inside ∙ ap (λ (end : PortEnd). end.setup.port) (sym (is_seen links k e here))

  pub port_is_link : (links : List E) (k : ℕ) (e : E) → ArePorts (ports_of (map seen links)) → k < length links → e ≡ get_or links k e → IsLinkPort (seen e).setup.port
  port_is_link links k e are within here =
      let inside : k < length (map seen links) = rw (length-map links seen) within in
      subst (λ (end : PortEnd). IsLinkPort end.setup.port) (sym (is_seen links k e here)) (link_port (map seen links) k (seen e) are inside)

  -- *A port is cleared*
  pub cleared_done : (n : Node E) (notes : Journal) (numbers : GivenOut) (port : PortNo) (k : ℕ) (e after : E)
      → AreLinked (map seen n.links) n.client.control → IsPlaceOf (ports_in seen n) port k → e ≡ get_or n.links k e → (seen after).setup ≡ (seen e).setup → (seen after).port ≡ cleared (seen e).port
      → (is_clearing (seen e).port.adjacency.state && length (seen e).port.grants == 0) ≡ true → ((n.client.has_met && is_up n.client.desk.rows port) && awaits_nothing (controller_of seen n) port) ≡ true
      → acted seen (record n { links = set n.links k after }) notes numbers ≡ clears_port (acted seen n notes numbers) port
  cleared_done n notes numbers port k e after linked place here setup is quiet ready =
      let f = node_found n port k e linked place here in
      let w : Work = record { port = cleared (seen e).port; actions = []; halted = false; instances = numbers.instances } in
      let done : HasDone (seen e) (seen after) [] numbers.instances w = record { port = is; actions = refl; instances = refl } in
      let may : may_clear (controller_of seen n) (linked_of (seen e) f.part) ≡ true =
      (λ i. quiet i && ((n.client.has_met && is_up n.client.desk.rows (f.own i)) && awaits_nothing (controller_of seen n) (f.own i))) ∙ ready in
      placed_is n notes numbers port k e after [] numbers.instances w linked place here f setup done
      ∙ clears_is (acted seen n notes numbers) (linked_of (seen e) f.part) may ∙ ap (clears_of (acted seen n notes numbers)) (sym f.is)

  pub uncleared : (n : Node E) (notes : Journal) (numbers : GivenOut) (port : PortNo) (k : ℕ) (e : E)
      → AreLinked (map seen n.links) n.client.control → IsPlaceOf (ports_in seen n) port k → e ≡ get_or n.links k e
      → ((is_clearing (seen e).port.adjacency.state && length (seen e).port.grants == 0) && ((n.client.has_met && is_up n.client.desk.rows port) && awaits_nothing (controller_of seen n) port)) ≡ false
      → acted seen n notes numbers ≡ clears_port (acted seen n notes numbers) port
  uncleared n notes numbers port k e linked place here stays =
      let f = node_found n port k e linked place here in
      let may : may_clear (controller_of seen n) (linked_of (seen e) f.part) ≡ false =
      (λ i. (is_clearing (seen e).port.adjacency.state && length (seen e).port.grants == 0) && ((n.client.has_met && is_up n.client.desk.rows (f.own i)) && awaits_nothing (controller_of seen n) (f.own i))) ∙ stays in
      clears_not (acted seen n notes numbers) (linked_of (seen e) f.part) may ∙ ap (clears_of (acted seen n notes numbers)) (sym f.is)

  -- *Spent numbers*
  pub spent_resets : (n : Node E) (notes : Journal) (numbers : GivenOut) (port : PortNo) (k : ℕ) (e : E)
      → AreLinked (map seen n.links) n.client.control → IsPlaceOf (ports_in seen n) port k → e ≡ get_or n.links k e → is_spent (seen e).port.session ≡ true → is_estab n.client.adjacency.state ≡ true
      → resets_port (acted seen n notes numbers) port ≡ resets_spent (acted seen n notes numbers) port
  spent_resets n notes numbers port k e linked place here spent estab =
      let f = node_found n port k e linked place here in
      let a = acted seen n notes numbers in
      (λ i. resets_port a (sym f.own i)) ∙ spent_is a (linked_of (seen e) f.part) (own_found a (linked_of (seen e) f.part) port f.is f.own) spent estab ∙ ap (works a (λ setup desk w. halts_if_spent w)) (sym f.is)

  pub spent_stays : (n : Node E) (notes : Journal) (numbers : GivenOut) (port : PortNo) (k : ℕ) (e : E)
      → AreLinked (map seen n.links) n.client.control → IsPlaceOf (ports_in seen n) port k → e ≡ get_or n.links k e → (is_spent (seen e).port.session && is_estab n.client.adjacency.state) ≡ false
      → acted seen n notes numbers ≡ resets_spent (acted seen n notes numbers) port
  spent_stays n notes numbers port k e linked place here stays =
      let f = node_found n port k e linked place here in
      let a = acted seen n notes numbers in
      spent_not a (linked_of (seen e) f.part) (own_found a (linked_of (seen e) f.part) port f.is f.own) stays ∙ ap (works a (λ setup desk w. halts_if_spent w)) (sym f.is)

  pub spent_can : (n : Node E) (notes : Journal) (numbers : GivenOut) (port : PortNo) (k : ℕ) (e : E)
      → AreLinked (map seen n.links) n.client.control → IsPlaceOf (ports_in seen n) port k → e ≡ get_or n.links k e → is_spent (seen e).port.session ≡ true → is_estab n.client.adjacency.state ≡ true
      → CanResetSpent (acted seen n notes numbers) port → CanResetPort (acted seen n notes numbers) port
  spent_can n notes numbers port k e linked place here spent estab can = (let f = node_found n port k e linked place here in can (linked_of (seen e) f.part) f.is spent estab)

  any_default : (links : List E) (k : ℕ) (d e : E) → k < length links → get_or links k d ≡ get_or links k e
  any_default [] k d e within = absurd (omega (arith, within))
  any_default (x ∷ links) zero d e within = refl
  any_default (x ∷ links) (suc k) d e within = any_default links k d e (omega (arith, within))

  -- an engine at a place is one
  pub same_at : (links : List E) (k : ℕ) (d e : E) → k < length links → d ≡ get_or links k d → e ≡ get_or links k e → d ≡ e
  same_at links k d e within there here = there ∙ any_default links k d e within ∙ sym here

  pub place_within : (links : List E) (port : PortNo) (k : ℕ) → IsPlaceOf (ports_of (map seen links)) port k → k < length links
  place_within links port k place = omega (arith, place.within, length-ports_of links)

  -- the port at a place is one of a link
  pub port_is_linked : (n : Node E) (port : PortNo) (k : ℕ) (e : E) → AreLinked (map seen n.links) n.client.control → IsPlaceOf (ports_in seen n) port k → e ≡ get_or n.links k e → IsLinkPort port
  port_is_linked n port k e linked place here =
      let f = node_found n port k e linked place here in
      subst IsLinkPort f.own (port_is_link n.links k e linked.ports (place_within n.links port k place) here)
