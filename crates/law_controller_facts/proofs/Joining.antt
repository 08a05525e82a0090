-- joins, their releases, and changes of routes are made of the moves of a controller

use Rattle.std.proofs.Common.{◌≡◌, ℕ, Bool, true, false, List, [], ◌∷◌, ◌++◌, Option, None, Some, refl, sym, ◌∙◌, ap, subst, fold}
use Rattle.std.specs.Prelude.{◌+◌, filter, flat_map}
use Rattle.std.specs.List.{filter_map, cons_option}
use Rattle.std.specs.Option.{option_map}
use Rattle.claims_model.specs.world_model.Words.{PortNo, End, number_of_channel, changed, RouteChange, Request, Part, Routes, same_end, at, put, in_order, Setup, label_end, is_in_range, Label, Grant, grant_label, label_at, labels_of, joins_label, parted, given_back, halts_if_spent, Linked, port_key, linked_at, begins, works, works_as, join_to, joins_at, end_le, joins_of, join_of, parts, releases_join, releases_input, released_inputs, resets_spent, releases, is_changed, changed_joins, takes_join_back, begins_change, takes_change, may_take, takes_each, takes_changes, change_comes}
use Rattle.law_port_facts.specs.ordered_lists.Ordered.{Every, InOrder}
use Rattle.law_port_facts.proofs.ordered_lists.Every.{every_join, every_map}
use Rattle.law_port_facts.proofs.ordered_lists.InOrder.{order_unmapped}
use Rattle.claims_model.specs.world_model.port_model.Grants.{lent_input}
use Rattle.law_port_facts.specs.Port.{IsLabelEnd, IsGrant, IsPort, parts_label}
use Rattle.law_port_facts.proofs.Keyed.{on_both, by_eq, at_key, at_every, at_put_same, at_put_other, entered_every, each_found}
use Rattle.law_port_facts.proofs.Found.{find_every}
use Rattle.claims_model.specs.world_model.Controller.{Acted, ports_of, note}
use Rattle.claims_model.specs.world_model.Joins.{Join, output_joined}
use Rattle.law_controller_facts.specs.Sound.{linked_setup, IsLinkedPort, AreApart}
use Rattle.law_controller_facts.proofs.Moves.{by_closing, by_parting, by_giving_back, Found, noting, routing, stays, moves_to, further, HasPorts, found_setup, found_at_own, found_port, moves_fold, goes_on}
use Rattle.law_controller_facts.proofs.Performing.{To, Any, any_ports, takes_back_goes, at_port_goes}

-- *Lists*
pub every_flat_map : {A B : Type 0} (Q : A → Type 0) (P : B → Type 0) (f : A → List B) → ((x : A) → Q x → Every P (f x)) → (xs : List A) → Every Q xs → Every P (flat_map f xs)
every_flat_map Q P f each [] h = tt
every_flat_map Q P f each (x ∷ xs) h = every_join P (f x) (flat_map f xs) (each x h.0) (every_flat_map Q P f each xs h.1)

pub every_filter_map : {A B : Type 0} (Q : A → Type 0) (P : B → Type 0) (f : A → Option B) → ((x : A) → Q x → (y : B) → f x ≡ Some y → P y) → (xs : List A) → Every Q xs → Every P (filter_map f xs)
every_filter_map Q P f each [] h = tt
every_filter_map {A} {B} Q P f each (x ∷ xs) h = by_answer (f x) refl (every_filter_map Q P f each xs h.1)
  where
    by_answer : (o : Option B) → f x ≡ o → Every P (filter_map f xs) → Every P (cons_option o (filter_map f xs))
    by_answer None e rest = rest
    by_answer (Some y) e rest = (each x h.0 y e, rest)

pub every_in_order : {A : Type 0} (P : A → Type 0) (le : A → A → Bool) (xs : List A) → Every P xs → Every P (in_order le xs)
every_in_order P le [] h = tt
every_in_order P le (x ∷ xs) h = entered_every (λ y. 0) P le x (in_order le xs) h.0 (every_in_order P le xs h.1)

pub every_filter : {A : Type 0} (P : A → Type 0) (test : A → Bool) (xs : List A) → Every P xs → Every P (filter test xs)
every_filter P test [] h = tt
every_filter P test (x ∷ xs) h = on_both (Every P) (test x) (x ∷ filter test xs) (filter test xs) (h.0, every_filter P test xs h.1) (every_filter P test xs h.1)

pub every_both : {A : Type 0} (P Q : A → Type 0) (xs : List A) → Every P xs → Every Q xs → Every (λ x. P x × Q x) xs
every_both P Q [] h k = tt
every_both P Q (x ∷ xs) h k = ((h.0, k.0), every_both P Q xs h.1 k.1)

-- *What stands at a port*: its grants and its labels
abbrev pub grants_at : List Linked → ℕ → Option (List Grant)
grants_at ports k = option_map (λ (x : Linked). x.port.grants) (at port_key k ports)

abbrev pub labels_at : List Linked → ℕ → Option (List Label)
labels_at ports k = option_map (λ (x : Linked). labels_of x.port) (at port_key k ports)

-- a port is put in the place of one that has the same
pub same_image : {B : Type 0} (f : Linked → B) (ports : List Linked) (linked after : Linked) (k : ℕ) → at port_key (port_key linked) ports ≡ Some linked → port_key after ≡ port_key linked → f after ≡ f linked
    → option_map f (at port_key k (put port_key after ports)) ≡ option_map f (at port_key k ports)
same_image {B} f ports linked after k found key image = by_eq (port_key after) k
    (λ same t. (let there : at port_key (port_key after) ports ≡ Some linked = subst (λ n. at port_key n ports ≡ Some linked) (sym key) found in
    subst (λ n. option_map f (at port_key n (put port_key after ports)) ≡ option_map f (at port_key n ports)) same
    (ap (option_map f) (at_put_same port_key after ports linked there) ∙ ap Some image ∙ ap (option_map f) (sym there))))
    (λ other t. ap (option_map f) (at_put_other port_key after k ports other))

-- the one that is found has what is there
pub image_is : {B : Type 0} (f : Linked → B) (o : Option Linked) (linked : Linked) (b : B) → option_map f o ≡ Some b → o ≡ Some linked → f linked ≡ b
image_is f o linked b e found = (let both : Some (f linked) ≡ Some b = sym (ap (option_map f) found) ∙ e in cc)

-- ports of one number are one
same_number : (x y : PortNo) → x.0 ≡ y.0 → x ≡ y
same_number x y e = ap (λ (n : ℕ). record { 0 = n }) e

module _ (setups : List Setup) where
  -- *A join of a controller*: a grant is lent to its input
  pub record IsJoin (a : Acted) (join : Join) : Type 0 where
    pub linked : Linked
    pub found : linked_at a.controller join.port ≡ Some linked
    pub granted : at grant_label join.grant.label linked.port.grants ≡ Some join.grant
    pub input : lent_input join.grant.state ≡ Some join.input

  pub each_there : (a : Acted) → HasPorts setups a → Every (λ (linked : Linked). Found setups a linked × IsPort setups linked.setup linked.port) a.controller.ports
  each_there a h = every_both (Found setups a) (IsLinkedPort setups) a.controller.ports
      (each_found port_key a.controller.ports (order_unmapped linked_setup AreApart a.controller.ports (subst (InOrder AreApart) (sym h.ports.same) h.ports.apart))) h.ports.each

  joins_of_port : (a : Acted) (linked : Linked) → Found setups a linked → IsPort setups linked.setup linked.port → Every (IsJoin a) (joins_at linked)
  joins_of_port a linked found h = every_filter_map (λ (grant : Grant). at grant_label grant.label linked.port.grants ≡ Some grant) (IsJoin a) (join_to linked.setup.port)
      (λ grant granted join e. lent_to grant granted join (lent_input grant.state) refl e) linked.port.grants (each_found grant_label linked.port.grants h.apart)
    where
      lent_to : (grant : Grant) → at grant_label grant.label linked.port.grants ≡ Some grant → (join : Join) (o : Option End) → lent_input grant.state ≡ o
          → option_map (λ input. record { input = input; port = linked.setup.port; grant = grant }) o ≡ Some join → IsJoin a join
      lent_to grant granted join None is e = absurd (cc e)
      lent_to grant granted join (Some input) is e =
          let made : Join = record { input = input; port = linked.setup.port; grant = grant } in
          let both : Some made ≡ Some join = e in
          let same : made ≡ join = cc in
          subst (IsJoin a) same (record { linked = linked; found = found; granted = granted; input = is })

  pub joins_are : (a : Acted) → HasPorts setups a → Every (IsJoin a) (joins_of a.controller)
  joins_are a h = every_in_order (IsJoin a) (λ (x : Join) (y : Join). end_le x.input y.input) (flat_map joins_at a.controller.ports)
      (every_flat_map (λ (linked : Linked). Found setups a linked × IsPort setups linked.setup linked.port) (IsJoin a) joins_at (λ linked p. joins_of_port a linked p.0 p.1) a.controller.ports (each_there a h))

  -- its two ends
  pub join_input : (a : Acted) (join : Join) → HasPorts setups a → IsJoin a join → IsLabelEnd setups join.input
  join_input a join h is =
      let fits : IsGrant setups is.linked.setup join.grant = at_every grant_label (IsGrant setups is.linked.setup) join.grant.label is.linked.port.grants join.grant (found_port setups a is.linked join.port h is.found).grants is.granted in
      fits.input join.input is.input

  pub join_output : (a : Acted) (join : Join) → HasPorts setups a → IsJoin a join → IsLabelEnd setups (output_joined join)
  join_output a join h is =
      let fits : IsGrant setups is.linked.setup join.grant = at_every grant_label (IsGrant setups is.linked.setup) join.grant.label is.linked.port.grants join.grant (found_port setups a is.linked join.port h is.found).grants is.granted in
      end_of_port a is.linked join.port join.grant.label h is.found fits.in_range
    where
      end_of_port : (a : Acted) (linked : Linked) (port : PortNo) (label : ℕ) → HasPorts setups a → linked_at a.controller port ≡ Some linked → is_in_range linked.setup label ≡ true → IsLabelEnd setups (label_end port label)
      end_of_port a linked port label h found inside =
          let same : linked.setup.port ≡ port = same_number linked.setup.port port (at_key port_key port.0 a.controller.ports linked found) in
          record { setup = linked.setup; number = label; linked = found_setup setups a linked linked.setup.port h (found_at_own setups a linked port found); in_range = inside; is = ap (λ (p : PortNo). label_end p label) (sym same) }

  takes_join_back_goes : (a : Acted) (join : Join) → HasPorts setups a → IsLabelEnd setups join.input × IsLabelEnd setups (output_joined join) → To setups a (takes_join_back a join)
  takes_join_back_goes a join h ends = takes_back_goes setups a join.input (output_joined join) h (parts_label join.input (output_joined join) ends.0 ends.1)

  -- *Changes of routes*
  pub begins_change_goes : (a : Acted) (change : RouteChange) → HasPorts setups a → To setups a (begins_change a change)
  begins_change_goes a change h =
      let begun : Acted = record a { controller = record a.controller { is_begun = true } } in
      on_both (To setups a) a.controller.is_begun a (fold takes_join_back begun (changed_joins a.controller change)) (stays a)
      (goes_on setups h (moves_to (routing a a.controller.table a.controller.waiting true a.controller.changes))
      (λ k. moves_fold setups (λ (join : Join). IsLabelEnd setups join.input × IsLabelEnd setups (output_joined join)) takes_join_back (λ b join kb ends. takes_join_back_goes b join kb ends) (changed_joins a.controller change)
      (every_filter (λ (join : Join). IsLabelEnd setups join.input × IsLabelEnd setups (output_joined join)) (is_changed a.controller.table change) (joins_of a.controller)
      (every_map (IsJoin a) (λ (join : Join). IsLabelEnd setups join.input × IsLabelEnd setups (output_joined join)) (joins_of a.controller) (λ join is. (join_input a join h is, join_output a join h is)) (joins_are a h))) begun k))

  pub takes_change_goes : (a : Acted) (change : RouteChange) (later : List RouteChange) → To setups a (takes_change a change later)
  takes_change_goes a change later =
      let taken : Acted = record a { controller = record a.controller { table = changed a.controller.table change; waiting = later; is_begun = false; changes = a.controller.changes + 1 } } in
      further (moves_to (routing a (changed a.controller.table change) later false (a.controller.changes + 1))) (moves_to (noting taken (Routes a.controller.node (a.controller.changes + 1))))

  takes_each_goes : (changes : List RouteChange) (a : Acted) → HasPorts setups a → To setups a (takes_each a changes)
  takes_each_goes [] a h = stays a
  takes_each_goes (change ∷ later) a h =
      let begun : Acted = begins_change a change in
      goes_on setups h (begins_change_goes a change h)
      (λ k. on_both (To setups begun) (may_take begun.controller change) (takes_each (takes_change begun change later) later) begun
      (goes_on setups k (takes_change_goes begun change later) (λ l. takes_each_goes later (takes_change begun change later) l)) (stays begun))

  pub takes_changes_goes : (a : Acted) → HasPorts setups a → To setups a (takes_changes a)
  takes_changes_goes a h = on_both (To setups a) a.controller.has_met (takes_each a a.controller.waiting) a (takes_each_goes a.controller.waiting a h) (stays a)

  pub change_comes_goes : (a : Acted) (change : RouteChange) → HasPorts setups a → To setups a (change_comes a change)
  change_comes_goes a change h =
      let waits : Acted = record a { controller = record a.controller { waiting = a.controller.waiting ++ change ∷ [] } } in
      goes_on setups h (moves_to (routing a a.controller.table (a.controller.waiting ++ change ∷ []) a.controller.is_begun a.controller.changes)) (λ k. takes_changes_goes waits k)

  -- *Release*
  -- a label is parted, and every port has the grants that it had
  pub parts_grants : (a : Acted) (input : End) (k : ℕ) → HasPorts setups a → grants_at (parts a input).controller.ports k ≡ grants_at a.controller.ports k
  parts_grants a input k h = by_found (linked_at noted.controller input.port) refl
    where
      noted : Acted
      noted = note a (Part a.controller.node input.port (number_of_channel input.channel))

      by_label : (linked : Linked) → linked_at noted.controller input.port ≡ Some linked → (o : Option Label)
          → grants_at (works_as noted linked (joins_label (begins noted linked) None o)).controller.ports k ≡ grants_at a.controller.ports k
      by_label linked found None = same_image (λ (x : Linked). x.port.grants) a.controller.ports linked (record linked { port = linked.port }) k (found_at_own setups noted linked input.port found) refl refl
      by_label linked found (Some label) = same_image (λ (x : Linked). x.port.grants) a.controller.ports linked
          (record linked { port = (joins_label (begins noted linked) None (Some label)).port }) k (found_at_own setups noted linked input.port found) refl refl

      by_found : (o : Option Linked) → linked_at noted.controller input.port ≡ o
          → grants_at (works noted (λ setup desk w. parted w (number_of_channel input.channel)) o).controller.ports k ≡ grants_at a.controller.ports k
      by_found None found = refl
      by_found (Some linked) found = by_label linked found (label_at linked.port (number_of_channel input.channel))

  pub parts_goes : (a : Acted) (input : End) → HasPorts setups a → To setups a (parts a input)
  parts_goes a input h = goes_on setups h (moves_to (noting a (Part a.controller.node input.port (number_of_channel input.channel))))
      (λ k. at_port_goes setups (note a (Part a.controller.node input.port (number_of_channel input.channel))) input.port (λ setup desk w. parted w (number_of_channel input.channel)) k
      (λ linked found. by_parting (number_of_channel input.channel)))

  -- what is granted at a port is granted to the one that is found there
  pub granted_there : (a b : Acted) (join : Join) (linked : Linked) → IsJoin a join → grants_at b.controller.ports join.port.0 ≡ grants_at a.controller.ports join.port.0
      → linked_at b.controller join.port ≡ Some linked → at grant_label join.grant.label linked.port.grants ≡ Some join.grant
  granted_there a b join linked is same found =
      let grants : linked.port.grants ≡ is.linked.port.grants = image_is (λ (x : Linked). x.port.grants) (linked_at b.controller join.port) linked is.linked.port.grants
      (same ∙ ap (option_map (λ (x : Linked). x.port.grants)) is.found) found in
      ap (at grant_label join.grant.label) grants ∙ is.granted

  releases_join_goes : (a : Acted) (o : Option Join) → ((join : Join) → o ≡ Some join → IsJoin a join) → HasPorts setups a → To setups a (releases_join a o)
  releases_join_goes a None is h = stays a
  releases_join_goes a (Some join) is h = goes_on setups h (parts_goes a join.input h)
      (λ k. at_port_goes setups (parts a join.input) join.port (λ setup desk w. given_back w join.grant) k
      (λ linked found. by_giving_back join.grant (granted_there a (parts a join.input) join linked (is join refl) (parts_grants a join.input join.port.0 h) found)))

  pub releases_input_goes : (a : Acted) (input : End) → HasPorts setups a → To setups a (releases_input a input)
  releases_input_goes a input h = releases_join_goes a (join_of a.controller input)
      (λ join e. find_every (IsJoin a) (λ (join : Join). same_end join.input input) (joins_of a.controller) join (joins_are a h) e) h

  abbrev pub AnyEnd : End → Type 0
  AnyEnd end = Unit {0}

  pub any_ends : (ends : List End) → Every AnyEnd ends
  any_ends [] = tt
  any_ends (end ∷ ends) = (tt, any_ends ends)

  pub resets_spent_goes : (a : Acted) (port : PortNo) → HasPorts setups a → To setups a (resets_spent a port)
  resets_spent_goes a port h = at_port_goes setups a port (λ setup desk w. halts_if_spent w) h (λ linked found. by_closing)

  pub releases_goes : (a : Acted) (request : Request) → HasPorts setups a → To setups a (releases a request)
  releases_goes a request h =
      let released : Acted = fold releases_input a (released_inputs a.controller request) in
      goes_on setups h (moves_fold setups AnyEnd releases_input (λ b input k any. releases_input_goes b input k) (released_inputs a.controller request) (any_ends (released_inputs a.controller request)) a h)
      (λ k. moves_fold setups (Any setups) resets_spent (λ b port kb any. resets_spent_goes b port kb) (ports_of released.controller) (any_ports setups (ports_of released.controller)) released k)
